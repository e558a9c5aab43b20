-- The word of an instruction with the distance to a target means an instruction.
use Rattle.std.proofs.Common.{◌≡◌, ℕ, ◌-◌, Bool, true, false, nat_le, cond, Some}
use Rattle.std.specs.Prelude.{is_some}
use Rattle.insn_text.specs.declared.item.Item.{Item}
use Rattle.a64_encode.specs.Either.{instruction_of}
use Rattle.asm_operands.specs.Distances.{with_distance}
use Rattle.asm_core.specs.Targets.{counted_from, word_to}
use Rattle.asm_core.specs.Emitted.{CanHave}

either_means : (i : Item) (word resolved : ℕ) (ahead : Bool) (m n : ℕ) → CanHave i word
    → cond ahead (with_distance i word false m) (with_distance i word true n) ≡ Some resolved → is_some (instruction_of resolved) ≡ true
either_means i word resolved true m n h e = h.means false m resolved e
either_means i word resolved false m n h e = h.means true n resolved e

pub resolved_means : (i : Item) (word from target resolved : ℕ) → CanHave i word → word_to i word from target ≡ Some resolved
    → is_some (instruction_of resolved) ≡ true
unfolding word_to
resolved_means i word from target resolved h e =
    either_means i word resolved (nat_le (counted_from i from) (counted_from i target)) (counted_from i target - counted_from i from)
    (counted_from i from - counted_from i target) h e
