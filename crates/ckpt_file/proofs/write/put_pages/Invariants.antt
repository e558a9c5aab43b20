use Rattle.std.proofs.Common.{take}
use Rattle.std.specs.List.{flat_map}
use Rattle.ckpt_fields.specs.Values.{page_value}
use Rattle.ckpt_file.specs.Checkpoint.{pages_in}
use Rattle.ckpt_file.specs.Putting.{IsPut}
use Rattle.ckpt_file.proofs.write.put_pages.Given as goal

abbrev pub invariant-loop-index : goal.invariant-loop-index
invariant-loop-index l =
    IsPut (flat_map page_value (take l.index (pages_in l.pages.memory))) l.initial.out.items l.out.items
