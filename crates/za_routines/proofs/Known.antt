-- What is known of a call of the routines before its turns.
use Rattle.std.proofs.Common.{◌≡◌, ℕ, ◌<◌, ◌≤◌, Bool, true, false, List, length, Some, refl, ap, sym, ◌∙◌, subst}
use Rattle.std.specs.Prelude.{is_some, Result, Ok, Err, IfErr}
use Rattle.plain_lemmas.proofs.Options.{one_Some}
use Rattle.sm_types.specs.declared.config.Config.{Config}
use Rattle.paged_memory.specs.Memory.{bytes_with}
use Rattle.scalar_exec.specs.Registers.{x_of}
use Rattle.za_array.specs.Array.{IsSquare}
use Rattle.machine_step.specs.ProcessorState.{ProcessorState, vector_bytes}
use Rattle.kernel_contexts.specs.State.{State}
use Rattle.lazy_saving.specs.Dormant.{Places}
use Rattle.lazy_saving.specs.Instructions.{after_instructions}
use Rattle.lazy_saving.specs.Outcome.{IsWhole, IsDisabled, IsBack, IsPast, disable_length, instructions_past}
use Rattle.za_routines.specs.Turns.{IsQuiet, IsOnTheWay, CanDisable, IsDisableKnown, CanReturn, IsReturnKnown}
use Rattle.za_routines.specs.Turns.{IsHalf, IsArrayBack}
use Rattle.lazy_saving.proofs.Running.{Runs}
use Rattle.lazy_saving.proofs.Cases.{Reaches}
use Rattle.lazy_saving.proofs.Plain.{disabled, kept, saved}

pub whole_of : (s : ProcessorState) (size : ℕ) → length s.scalars.x ≡ 31 → IsSquare size s.bank.za → size ≤ 256 → IsWhole s
whole_of s size count square small = record {
  registers = count;
  square = subst (λ n. IsSquare n s.bank.za) (sym square.count) square;
  small = subst (λ n. n ≤ 256) (sym square.count) small;
}

-- two names of so many instructions
same_end : (vl n k : ℕ) (s t u : ProcessorState) → n ≡ k → after_instructions vl n s ≡ Some t → Runs vl k s u → u ≡ t
same_end vl n k s t u e after runs =
    one_Some (after_instructions vl n s) u t (ap (λ i. after_instructions vl i s) e ∙ runs) after

way_of : (config : Config) (n k : ℕ) (s t : State) → n ≡ k → IsOnTheWay config n s t → IsOnTheWay config k s t
way_of config n k s t e h = record { turns = h.turns; fewer = subst (λ i. h.turns < i) e h.fewer; after = h.after }

pub disable_known : (config : Config) (s : State) (turns : ℕ) → CanDisable config s → IsWhole s.core
    → ((bytes : List ℕ) → bytes_with 4 s.core.memory s.core.tpidr2 16 ≡ Some bytes → turns ≡ disable_length bytes)
    → IsDisableKnown config s turns
disable_known config s turns can whole h =
    let vl = vector_bytes config.vl in
    let e = h can.1.dormant.bytes can.1.dormant.ready.block.read in
    let it = disabled vl can.0 s.core s.core.tpidr2 can.1.dormant whole can.1.pc in
    record {
      quiet = subst (λ n. IsQuiet config s n) (sym e) can.1.quiet;
      executed = ap (λ n. is_some (after_instructions vl n s.core)) e ∙ ap is_some it.runs;
      done = λ t after p d pc.
          let e' = h d.bytes d.ready.block.read in
          let it' = disabled vl p s.core s.core.tpidr2 d whole pc in (
            e',
            subst (λ u. IsDisabled s.core u d.bytes)
                (same_end vl turns (disable_length d.bytes) s.core t.core it'.state e' after.core it'.runs) it'.is,
            after,
          );
      part = λ t way p d pc. way_of config turns (disable_length d.bytes) s t (h d.bytes d.ready.block.read) way;
    }

tail_runs : (vl : ℕ) (p : Places) (r : ProcessorState) (bytes : List ℕ) → IsBack p r bytes → IsWhole r → (on : Bool)
    → r.za_on ≡ on → IsHalf on r.tpidr2 (x_of r.scalars 19) → Reaches vl (instructions_past on bytes) r
    (λ t. IsPast p r t × IsArrayBack on r t bytes)
tail_runs vl p r bytes back whole true on half = kept vl p r bytes back whole on half
tail_runs vl p r bytes back whole false off half = saved vl p r bytes back whole off half

pub return_known : (config : Config) (s : State) (turns : ℕ) → CanReturn config s → IsWhole s.core
    → ((bytes : List ℕ) → bytes_with 4 s.core.memory (x_of s.core.scalars 19) 16 ≡ Some bytes
    → turns ≡ instructions_past s.core.za_on bytes) → IsReturnKnown config s turns
return_known config s turns can whole h =
    let vl = vector_bytes config.vl in
    let e = h can.1.bytes can.1.back.ready.block.read in
    let it = tail_runs vl can.0 s.core can.1.bytes can.1.back whole s.core.za_on refl can.1.half in
    record {
      quiet = subst (λ n. IsQuiet config s n) (sym e) can.1.quiet;
      executed = ap (λ n. is_some (after_instructions vl n s.core)) e ∙ ap is_some it.runs;
      done = λ t after p bytes back half.
          let e' = h bytes back.ready.block.read in
          let it' = tail_runs vl p s.core bytes back whole s.core.za_on refl half in
          let same = same_end vl turns (instructions_past s.core.za_on bytes) s.core t.core it'.state e' after.core it'.runs in (
            e',
            subst (λ u. IsPast p s.core u) same it'.is.0,
            subst (λ u. IsArrayBack s.core.za_on s.core u bytes) same it'.is.1,
            after,
          );
      part = λ t way p bytes back half.
          way_of config turns (instructions_past s.core.za_on bytes) s t (h bytes back.ready.block.read) way;
    }

-- what holds of every fault holds of that of a result
pub of_any_fault : {T E : Type 0} (r : Result T E) (Q : Type 0) → Q → IfErr r (λ fault. Q)
of_any_fault (Ok x) Q q = tt
of_any_fault (Err fault) Q q = q
