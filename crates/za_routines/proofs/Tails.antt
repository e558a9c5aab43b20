-- The word of a tail's BL.
use Rattle.std.proofs.Common.{◌≡◌, ℕ, true, Some, None, refl, ap, ◌∙◌, ℤ}
use Rattle.plain_lemmas.proofs.Options.{one_Some}
use Rattle.sm_types.specs.declared.insn.Insn.TheVariants as insn
use Rattle.sm_types.specs.declared.insn.Branch.TheVariants as branch
use Rattle.a64_encode.specs.Either.{instruction_of}
use Rattle.scalar_exec.specs.Branches.{branch_target}
use Rattle.paged_memory.specs.Memory.{AddressSpace, word_at}
use Rattle.lazy_saving.specs.Code.{place_of, HasTail}

pub tail_calls : (m : AddressSpace) (address routine call : ℕ) → word_at m (place_of address 4) ≡ Some call → HasTail m address routine
    → (distance : ℤ) × (instruction_of call ≡ Some (insn.Branch (branch.Unconditional true distance)))
    × (branch_target (place_of address 4) distance ≡ routine)
tail_calls m address routine call there h =
    let same = one_Some (word_at m (place_of address 4)) call h.call there (h.there.executable 4 h.call refl) in
    (h.distance, ap instruction_of same ∙ h.calls, h.target)

pub no_word : (m : AddressSpace) (address routine : ℕ) → word_at m (place_of address 4) ≡ None → HasTail m address routine → ⊥
no_word m address routine none h = let there = h.there.executable 4 h.call refl in cc
