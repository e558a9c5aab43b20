-- Whether a thread stands where the words can be run.
use Rattle.std.proofs.Common.{◌≡◌, ◌↔◌, ℕ, List, Bool, true, IsTrue, length, refl, ap, sym, ◌∙◌, subst}
use Rattle.plain_lemmas.proofs.Options.{one_Some}
use Rattle.sm_types.specs.declared.config.Config.{Config}
use Rattle.paged_memory.specs.Memory.{bytes_with}
use Rattle.scalar_exec.specs.Registers.{x_of}
use Rattle.kernel_contexts.specs.State.{State}
use Rattle.lazy_saving.specs.Dormant.{Places, IsReady}
use Rattle.lazy_saving.specs.Outcome.{disable_length, instructions_past}
use Rattle.za_routines.specs.Turns.{IsQuiet, CanDisableAt, CanReturnAt, IsHalfOf}

module _ (p : Places) (config : Config) (s : State) (block : List ℕ) (turns : ℕ) (r : Bool)
    (quiet : IsTrue r ↔ IsQuiet config s turns) where
  pub disable_at : s.core.za_on ≡ true → s.core.scalars.pc ≡ p.disable
      → IsReady p s.core.memory (length s.core.bank.za) s.core.tpidr2 block → turns ≡ disable_length block
      → IsTrue r ↔ CanDisableAt p config s
  disable_at on pc ready count = (
    λ t. record {
      pc = pc;
      dormant = record { za_on = on; pointer = refl; bytes = block; ready = ready };
      quiet = subst (λ n. IsQuiet config s n) count (quiet.0 t);
    },
    λ h.
        let same = one_Some (bytes_with 4 s.core.memory s.core.tpidr2 16) h.dormant.bytes block h.dormant.ready.block.read
        ready.block.read in
        quiet.1 (subst (λ n. IsQuiet config s n) (ap disable_length same ∙ sym count) h.quiet),
  )

  pub return_at : s.core.scalars.pc ≡ p.tail → IsHalfOf s.core
      → IsReady p s.core.memory (length s.core.bank.za) (x_of s.core.scalars 19) block → turns ≡ instructions_past s.core.za_on block
      → IsTrue r ↔ CanReturnAt p config s
  return_at pc half ready count = (
    λ t. record {
      bytes = block;
      back = record { ready = ready; pc = pc };
      half = half;
      quiet = subst (λ n. IsQuiet config s n) count (quiet.0 t);
    },
    λ h.
        let same = one_Some (bytes_with 4 s.core.memory (x_of s.core.scalars 19) 16) h.bytes block h.back.ready.block.read
        ready.block.read in
        quiet.1 (subst (λ n. IsQuiet config s n) (ap (instructions_past s.core.za_on) same ∙ sym count) h.quiet),
  )
