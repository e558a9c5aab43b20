use Rattle.std.proofs.Common.{◌≡◌, map, take}
use Rattle.kept_states.specs.Listed.{image_parts, shared_parts}
use Rattle.kept_states.proofs.pages.list_pages.Given as goal

abbrev pub invariant-loop-page : goal.invariant-loop-page
invariant-loop-page l = map image_parts l.list.items ≡ map shared_parts (take l.page-index l.pages)
