-- States of a run that are whole.
use Rattle.std.proofs.Common.{inl, inr, ◌≡◌, ℕ, suc, ◌≤◌, List, length, ap, subst, sym, ◌∙◌, arith}
use Rattle.std.proofs.lemmas.List.{length-replicate}
use Rattle.plain_lemmas.proofs.Numbers.{cases_lt_eq_gt}
use Rattle.sm_types.specs.declared.config.Config.{Config}
use Rattle.sm_types.specs.declared.shared_op.Event.{Event}
use Rattle.paged_memory.specs.Image.{Program}
use Rattle.paged_memory.specs.Memory.{IsWhole as IsWholeMemory}
use Rattle.sve_vectors.specs.Lengths.{vector_bytes}
use Rattle.za_array.specs.Array.{IsSquare}
use Rattle.mem_access.specs.VectorState.{zero_bank}
use Rattle.machine_step.specs.ProcessorState.{ProcessorState}
use Rattle.kernel_contexts.specs.State.{State, start_state}
use Rattle.lazy_saving.specs.Dormant.{Places}
use Rattle.lone_runner.specs.Parting.{state_at}
use Rattle.lone_runner.proofs.Partings.{reach_start}
use Rattle.abi_checker.specs.Faults.{IsMarkedAt, IsReturn}
use Rattle.abi_checker.specs.Checked.{states_of}
use Rattle.abi_checker.specs.Whole.{IsWholeWith, IsWholeAt, AreWhole}

pub whole_with : (s : ProcessorState) (size : ℕ) → IsWholeMemory s.memory → length s.scalars.x ≡ 31 → IsSquare size s.bank.za
    → size ≤ 256 → IsWholeWith size s
whole_with s size memory count square small = record {
  memory = memory;
  core = record {
    registers = count;
    square = subst (λ n. IsSquare n s.bank.za) (sym square.count) square;
    small = subst (λ n. n ≤ 256) (sym square.count) small;
  };
  slices = square.count;
}

-- up to the first state no call is made and none returns
pub whole_first : (run : ℕ → State) → AreWhole run 0
whole_first run = record {
  calls = λ m p within marked.
      let zero : m ≡ 0 = omega (arith, within) in absurd (subst (λ i. IsMarkedAt run p i) zero marked);
  returns = λ c m p within r. let after = r.after in absurd (omega (arith, within, after));
}

-- and up to the next one, where that is so of the next one
pub whole_on : (run : ℕ → State) (n : ℕ) → AreWhole run n → ((p : Places) → IsMarkedAt run p (suc n) → IsWholeAt run (suc n))
    → ((c : ℕ) (p : Places) → IsReturn run p c (suc n) → IsWholeAt run (suc n)) → AreWhole run (suc n)
whole_on run n whole called back = record {
  calls = λ m p within marked. elim (cases_lt_eq_gt m (suc n)) as (λ _. IsWholeAt run m) [
    | inl less ↦ whole.calls m p (omega (arith, less)) marked
    | inr (inl same) ↦
        subst (λ i. IsWholeAt run i) (sym same) (called p (subst (λ i. IsMarkedAt run p i) same marked))
    | inr (inr more) ↦ absurd (omega (arith, within, more))
  ];
  returns = λ c m p within r. elim (cases_lt_eq_gt m (suc n)) as (λ _. IsWholeAt run m) [
    | inl less ↦ whole.returns c m p (omega (arith, less)) r
    | inr (inl same) ↦
        subst (λ i. IsWholeAt run i) (sym same) (back c p (subst (λ i. IsReturn run p c i) same r))
    | inr (inr more) ↦ absurd (omega (arith, within, more))
  ];
}

-- ---- the states of a thread

start_slices : (program : Program) (config : Config) (thread : ℕ)
    → length (start_state program config thread).core.bank.za ≡ vector_bytes config.svl
unfolding start_state zero_bank
start_slices program config thread = length-replicate (vector_bytes config.svl) _

module _ (program : Program) (config : Config) (thread : ℕ) (journal : List Event) where
  abbrev run : ℕ → State
  run = states_of program config thread journal

  first_slices : length (run 0).core.bank.za ≡ vector_bytes config.svl
  first_slices =
      ap (λ r. length (state_at r).core.bank.za) (reach_start program config thread journal) ∙ start_slices program config thread

  -- a state is whole that is so with the slices of the options
  pub whole_at : (m : ℕ) (s : State) (own : Config) → run m ≡ s → own ≡ config → IsWholeWith (vector_bytes own.svl) s.core
      → IsWholeAt run m
  whole_at m s own e same whole =
      subst (λ (t : State). IsWholeWith (length (run 0).core.bank.za) t.core) (sym e)
      (subst (λ n. IsWholeWith n s.core) (ap (λ (k : Config). vector_bytes k.svl) same ∙ sym first_slices) whole)
