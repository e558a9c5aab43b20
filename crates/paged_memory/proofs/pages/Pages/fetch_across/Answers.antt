use Rattle.std.proofs.Common.{ap, ◌∙◌}
use Rattle.paged_memory.specs.Pages.{memory_of}
use Rattle.paged_memory.proofs.Words.{word_read, word_none}
use Rattle.paged_memory.proofs.pages.Pages.fetch_across.Goals as goal

pub returns-in-None : goal.returns-in-None
returns-in-None c =
    word_read (memory_of c.as_slice.result.now) c.args.self.now.memory c.args.pc c.from_le_bytes.result c.copy_out.new.into
    (ap memory_of c.as_slice.ensures.value ∙ ap (λ t. t.memory) c.self.view_is) c.in-None.ensures.ok c.copy_out.auto.into
    c.from_le_bytes.ensures

pub returns-in-Some : goal.returns-in-Some
returns-in-Some c =
    word_none (memory_of c.as_slice.result.now) c.args.self.now.memory c.args.pc
    (ap memory_of c.as_slice.ensures.value ∙ ap (λ t. t.memory) c.self.view_is) c.in-Some.ensures.stops
