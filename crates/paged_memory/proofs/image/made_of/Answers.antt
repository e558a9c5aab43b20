use Rattle.std.proofs.Common.{map}
use Rattle.paged_memory.specs.Image.{extent_of}
use Rattle.paged_memory.proofs.Count.{image_made}
use Rattle.paged_memory.proofs.Whole.{whole_pages}
use Rattle.paged_memory.proofs.image.made_of.Goals as goal

pub invariant_of-result : goal.invariant_of-result
invariant_of-result c = (
  c.in_ok-pages.ensures.fine,
  image_made (map extent_of c.args.parts.now) _ c.requires c.in_ok-pages.ensures.memory (whole_pages _ c.in_ok-pages.ensures.fine),
)

pub returns-clause-whole : goal.returns-clause-whole
returns-clause-whole c = whole_pages _ c.in_ok-pages.ensures.fine
