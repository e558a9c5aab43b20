use Rattle.std.proofs.Common.{◌≡◌, take, drop, length}
use Rattle.std.specs.Mem.Slots.{slots_items}
use Rattle.shared_table.proofs.make.copy_words.Given as goal

abbrev pub invariant-loop-i : goal.invariant-loop-i
invariant-loop-i l =
    (length l.into ≡ length l.fn.into) × (take l.i l.into ≡ take l.i (drop l.from (slots_items l.closed.words)))
