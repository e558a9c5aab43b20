-- The words behind a call are those of one mark at most.
use Rattle.std.proofs.Common.{◌≡◌, ℕ, ℤ, refl, ap, sym, ◌∙◌, Option, Some, true}
use Rattle.std.proofs.lemmas.Option.{same_Some}
use Rattle.std.specs.Prelude.{◌+◌, ◌-◌, ◌%◌, ◌^◌}
use Rattle.sm_types.specs.declared.insn.Insn.{Insn}
use Rattle.sm_types.specs.declared.insn.Insn.TheVariants as insn
use Rattle.sm_types.specs.declared.insn.Branch.TheVariants as branch
use Rattle.a64_encode.specs.Either.{instruction_of}
use Rattle.scalar_exec.specs.Branches.{branch_target}
use Rattle.paged_memory.specs.Memory.{AddressSpace}
use Rattle.kernel_contexts.specs.State.{State}
use Rattle.lazy_saving.specs.Code.{place_of}
use Rattle.lazy_saving.specs.Dormant.{Places}
use Rattle.abi_checker.specs.Marks.{HasMark, IsMarkedCall, word_in}

one_distance : (d e : ℤ)
    → ◌≡◌ {A = Option Insn} (Some (insn.Branch (branch.Unconditional true d))) (Some (insn.Branch (branch.Unconditional true e)))
    → d ≡ e
one_distance d e h = cc

module _ (m : AddressSpace) (p q : Places) (same : p.tail ≡ q.tail) (h : HasMark m p) (k : HasMark m q) where
  same_call : h.call ≡ k.call
  same_call =
      same_Some h.call k.call
      (sym (h.tail 4 h.call refl) ∙ ap (λ a. word_in m (place_of a 4)) same ∙ k.tail 4 k.call refl)

  same_distance : h.distance ≡ k.distance
  same_distance = one_distance h.distance k.distance (sym h.calls ∙ ap instruction_of same_call ∙ k.calls)

  same_restore : p.restore ≡ q.restore
  same_restore =
      h.target ∙ ap (λ a. branch_target (place_of a 4) h.distance) same
      ∙ ap (λ d. branch_target (place_of q.tail 4) d) same_distance ∙ sym k.target

  same_disable : p.disable ≡ q.disable
  same_disable = h.end ∙ ap (λ a. (a + (2 ^ 64 - 80)) % 2 ^ 64) same_restore ∙ sym k.end

  pub same_places : p ≡ q
  same_places =
      let P : ℕ → ℕ → ℕ → Places = λ a b c. record { disable = a; restore = b; tail = c } in
      ap (λ a. P a p.restore p.tail) same_disable ∙ ap (λ b. P q.disable b p.tail) same_restore
      ∙ ap (λ c. P q.disable q.restore c) same

pub one_mark : (old new : State) (p q : Places) → IsMarkedCall p old new → IsMarkedCall q old new → p ≡ q
one_mark old new p q h k = same_places new.core.memory p q (h.place ∙ sym k.place) h.mark k.mark
