-- Every state that a run reaches from its start has the ranges of its types.
use Rattle.std.proofs.Common.{◌≡◌, ℕ, zero, suc, ◌+◌, ◌^◌, ◌<◌, true, false, cond, List, [], ◌∷◌, refl, sym, ap, ◌∙◌, arith, subst}
use Rattle.std.proofs.Common.{replicate}
use Rattle.std.specs.FinMap.{get-empty}
use Rattle.std.specs.Ordering.{nat_cmp}
use Rattle.std.proofs.lemmas.List.Elements.{All-cons, All-head, All-tail, All-replicate}
use Rattle.sm_types.specs.declared.config.Config.{Config}
use Rattle.sm_types.specs.declared.length.VecLen.{VecLen}
use Rattle.sm_types.specs.declared.length.VecLen.TheVariants.{Bits128, Bits256, Bits512, Bits1024, Bits2048}
use Rattle.sm_types.specs.declared.shared_op.SharedOp.{SharedOp}
use Rattle.sm_types.specs.declared.shared_op.Event.{Event}
use Rattle.sm_types.specs.SharedOps.{is_same_op}
use Rattle.za_array.specs.Array.{zero_vectors, IsSquare}
use Rattle.sve_vectors.specs.Registers.{AreOfLength}
use Rattle.paged_memory.specs.Memory.{AddressSpace, with_page, with_zero_pages, with_stack, zero_page}
use Rattle.paged_memory.specs.Image.{Program}
use Rattle.mem_access.specs.VectorState.{vector_bytes, zero_bank}
use Rattle.machine_step.specs.Mode.{length_at}
use Rattle.kernel_contexts.specs.HandlerRun.{IsPlain}
use Rattle.kernel_contexts.specs.State.{State, start_state, start_scalars}
use Rattle.kernel_contexts.specs.Call.{TurnEnd, Goes, Yields, Asks, Ends}
use Rattle.kernel_contexts.specs.Turn.{turn_of}
use Rattle.kernel_contexts.specs.Run.{Reached, At, Ended, Strays, answered_by, after_turn, turned, reach_from, reach}
use Rattle.reach_laws.specs.Run.{HasBytes}
use Rattle.reach_laws.proofs.Fits.{Fits, AreBytes, IsLength}
use Rattle.reach_laws.proofs.Typed.{current_length}
use Rattle.reach_laws.specs.Run.{AreAnswers, IsTypedRun}
use Rattle.reach_laws.proofs.Typed.{IsTypedState, TurnsToTyped, ReachesTyped}
use Rattle.reach_laws.proofs.Scalars.{index_fits}
use Rattle.reach_laws.proofs.Memory.{bytes_set}
use Rattle.reach_laws.proofs.Registers.{holds_zero}
use Rattle.reach_laws.proofs.Modes.{current_is, current_fits, zero_array}
use Rattle.reach_laws.proofs.Machine.{HaveRows}
use Rattle.reach_laws.proofs.Kernel.{turn_typed}

pub is_length : (length : VecLen) → IsLength (vector_bytes length)
is_length Bits128 = record { some = omega arith; small = omega arith; whole = omega arith }
is_length Bits256 = record { some = omega arith; small = omega arith; whole = omega arith }
is_length Bits512 = record { some = omega arith; small = omega arith; whole = omega arith }
is_length Bits1024 = record { some = omega arith; small = omega arith; whole = omega arith }
is_length Bits2048 = record { some = omega arith; small = omega arith; whole = omega arith }

-- ---- the start

zeros : AreBytes zero_page
unfolding zero_page
zeros = All-replicate (λ b. b < 256) 4096 0 (omega arith)

pages_bytes : (m : AddressSpace) (number flags count : ℕ) → HasBytes m → HasBytes (with_zero_pages m number flags count)
unfolding with_zero_pages with_page
pages_bytes m number flags zero h = h
pages_bytes m number flags (suc n) h = bytes_set _ _ zero_page (pages_bytes m number flags n h) zeros

stack_bytes : (m : AddressSpace) → HasBytes m → HasBytes (with_stack m)
unfolding with_stack
stack_bytes m h = pages_bytes m 0x7DFFFFFC0 6 64 h

start_fits : (entry thread threads : ℕ) → entry < 2 ^ 64 → thread < 2 ^ 64 → threads < 2 ^ 64 → Fits (start_scalars entry thread threads)
unfolding start_scalars
start_fits entry thread threads a b c = record {
  count = refl;
  x = All-cons (λ x. x < 2 ^ 64) thread (threads ∷ replicate 29 0) b
      (All-cons (λ x. x < 2 ^ 64) threads (replicate 29 0) c (All-replicate (λ x. x < 2 ^ 64) 29 0 (omega arith)));
  sp = omega arith;
  pc = a;
}

start_typed : (program : Program) (config : Config) (thread : ℕ) (journal : List Event) → IsTypedRun program config thread journal
    → IsTypedState config (start_state program config thread)
unfolding start_state zero_bank
start_typed program config thread journal h = record {
  core = record {
    scalars = start_fits program.entry thread config.threads h.entry h.number h.threads;
    tpidr = omega arith;
    tpidr2 = omega arith;
    registers = holds_zero (vector_bytes config.vl);
    za = zero_array (vector_bytes config.svl);
    off = λ is. refl;
    memory = stack_bytes program.memory h.bytes;
  };
  handlers = λ signal address is. (let no : ⊥ = (let e = get-empty {X = ℕ} nat_cmp signal in cc) in absurd no);
  mask = omega arith;
  unmasked = λ is. refl;
}

-- ---- the run

module _ (rows : HaveRows) (config : Config) (thread : ℕ) (lt : thread < 2 ^ 64) where
  answered_typed : (s : State) (op : SharedOp) (next : ℕ → State) (used : ℕ) (left : List Event)
      → ((answer : ℕ) → answer < 2 ^ 64 → IsTypedState config (next answer)) → AreAnswers left
      → ReachesTyped config (answered_by s op next used left)
  answered_typed s op next used [] h a = tt
  answered_typed s op next used (event ∷ left) h a =
      elim (is_same_op op event.op) as (λ t. ReachesTyped config
      (cond t (At (next event.answer) (used + 1) left) (Strays s used (event ∷ left)))) [
        | true ↦ (
          h event.answer (All-head (λ (e : Event). e.answer < 2 ^ 64) event left a),
          All-tail
              (λ (e : Event). e.answer < 2 ^ 64) event left a,
        )
        | false ↦ tt
      ]

  after_typed : (s : State) (used : ℕ) (left : List Event) (end : TurnEnd) → AreAnswers left → TurnsToTyped config end
      → ReachesTyped config (after_turn s used left end)
  after_typed s used left (Goes t) a h = (h, a)
  after_typed s used left (Yields t) a h = (h, a)
  after_typed s used left (Asks op next) a h = answered_typed s op next used left h a
  after_typed s used left (Ends t stop) a h = tt

  turned_typed : (r : Reached) → ReachesTyped config r → ReachesTyped config (turned config thread r)
  turned_typed (At s used left) h =
      after_typed s used left (turn_of config thread used s) h.1
      (turn_typed config (is_length config.vl) (is_length config.svl) rows thread used s lt h.0)
  turned_typed (Ended s stop used left) h = tt
  turned_typed (Strays s used left) h = tt

  from_typed : (s : State) (used : ℕ) (left : List Event) (turns : ℕ) → IsTypedState config s → AreAnswers left
      → ReachesTyped config (reach_from config thread s used left turns)
  unfolding reach_from
  from_typed s used left zero h a = (h, a)
  from_typed s used left (suc turns) h a = turned_typed (reach_from config thread s used left turns) (from_typed s used left turns h a)

-- ---- what such a state is

pub plain_of : (config : Config) (s : State) → IsTypedState config s → IsPlain config s
plain_of config s t =
    let vl = vector_bytes config.vl in
    let svl = vector_bytes config.svl in
    let c = t.core in
    let now : length_at vl s.core ≡ current_length vl svl s.core.streaming = current_is vl svl s.core c in
    let k : IsLength (length_at vl s.core) =
    subst IsLength (sym now) (current_fits vl svl (is_length config.vl) (is_length config.svl) s.core.streaming) in
    let count = c.za.square.count in
    let small = (is_length config.svl).small in
    record {
      range = record {
        count = c.scalars.count;
        x = λ k. index_fits s.core.scalars.x k c.scalars.x;
        sp = c.scalars.sp;
        pc = c.scalars.pc;
        tpidr = c.tpidr;
        tpidr2 = c.tpidr2;
        registers = subst (λ n. AreOfLength n s.core.bank.registers) (sym now) c.registers.long;
        small = k.small;
        whole = k.whole;
        square = subst (λ n. IsSquare n s.core.bank.za) (sym count) c.za.square;
        narrow = omega arith;
        off = λ off. c.off off ∙ ap zero_vectors (sym count);
      };
      mask = t.mask;
      unmasked = t.unmasked;
    }

-- ---- from the start

module _ (rows : HaveRows) (program : Program) (config : Config) (thread : ℕ) (journal : List Event)
    (h : IsTypedRun program config thread journal) where
  reach_typed : (turns : ℕ) → ReachesTyped config (reach program config thread journal turns)
  unfolding reach
  reach_typed turns = from_typed rows config thread h.number (start_state program config thread) 0 journal turns
      (start_typed program config thread journal h) h.answers

  pub plain_reached : (turns : ℕ) (s : State) (used : ℕ) (left : List Event) → reach program config thread journal turns ≡ At s used left
      → IsPlain config s
  plain_reached turns s used left is = plain_of config s (subst (ReachesTyped config) is (reach_typed turns)).0

  -- some turns after a place that is reached
  pub plain_later : (turns more : ℕ) (s t : State) (used now : ℕ) (left rest : List Event)
      → reach program config thread journal turns ≡ At s used left
      → reach_from config thread s used left more ≡ At t now rest → IsPlain config t
  plain_later turns more s t used now left rest is later =
      let from : ReachesTyped config (At s used left) = subst (ReachesTyped config) is (reach_typed turns) in
      plain_of config t (subst (ReachesTyped config) later (from_typed rows config thread h.number s used left more from.0 from.1)).0
