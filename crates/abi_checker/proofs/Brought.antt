-- What is known of a marked call that returned in a run without a fault.
use Rattle.std.proofs.Common.{◌≡◌, inl, inr, ℕ, ◌+◌, ◌<◌, List, [], length, Some, refl, ap, subst, sym, ◌∙◌, arith, true}
use Rattle.std.proofs.lemmas.Option.{same_Some}
use Rattle.plain_lemmas.proofs.Numbers.{cases_le}
use Rattle.sm_types.specs.declared.config.Config.{Config}
use Rattle.sm_types.specs.declared.shared_op.Event.{Event}
use Rattle.paged_memory.specs.Image.{Program}
use Rattle.paged_memory.specs.Memory.{bytes_with, IsWhole as IsWholeMemory}
use Rattle.kernel_contexts.specs.State.{State}
use Rattle.kernel_contexts.specs.Run.{At, Ended, reach}
use Rattle.kernel_contexts.specs.Turn.{is_delivery_due}
use Rattle.kernel_contexts.specs.HandlerRun.{IsPlain}
use Rattle.lazy_saving.specs.Dormant.{Places, IsLawful}
use Rattle.lazy_saving.specs.Outcome.{IsWhole}
use Rattle.za_routines.specs.Ways.{Place, ArePlainBetween}
use Rattle.lone_runner.specs.Parting.{state_at}
use Rattle.lone_runner.proofs.Partings.{stays_so}
use Rattle.lone_runner.proofs.Rests.{join}
use Rattle.abi_checker.specs.Faults.{block_of}
use Rattle.abi_checker.specs.Checked.{states_of}
use Rattle.abi_checker.specs.Brought.{IsReturned, IsReturnedAt}

-- the callee was lawful, and the states are whole; all that the laws of the tail ask of them
pub record IsKnown (p : Places) (s r : State) (bytes : List ℕ) : Type 0 where
  pub lawful : IsLawful p s.core r.core (block_of s)
  pub is : lawful.dormant.bytes ≡ bytes
  pub old : IsWholeMemory s.core.memory
  pub new : IsWholeMemory r.core.memory
  pub whole : IsWhole r.core
  pub same : length r.core.bank.za ≡ length s.core.bank.za
  pub pc : r.core.scalars.pc ≡ p.tail

module _ (program : Program) (config : Config) (thread : ℕ) (journal : List Event) (count : ℕ) (p : Places) (bytes : List ℕ) where
  known_at : (s r : State) (h : IsReturned program config thread journal count p s r bytes)
      → IsKnown p (states_of program config thread journal h.call) (states_of program config thread journal h.at) bytes
  known_at s r h =
      let run = states_of program config thread journal in
      let return = h.return in
      let after = return.after in
      let within = h.within in
      let lawful = h.yes.told.lawful h.call h.at p h.within return in
      let first = h.yes.told.whole.calls h.call p (omega (arith, after, within)) return.marked in
      let last = h.yes.told.whole.returns h.call h.at p h.within return in
      record {
        lawful = lawful;
        is = same_Some lawful.dormant.bytes bytes
            (sym lawful.dormant.ready.block.read
            ∙ subst (λ (t : State). bytes_with 4 t.core.memory (block_of t) 16 ≡ Some bytes) (sym h.before) h.block);
        old = first.memory;
        new = last.memory;
        whole = last.core;
        same = last.slices ∙ sym first.slices;
        pc = return.back.pc;
      }

  pub known_back : (s r : State) → IsReturned program config thread journal count p s r bytes → IsKnown p s r bytes
  known_back s r h =
      subst (λ (t : State). IsKnown p s t bytes) h.after
      (subst (λ (t : State). IsKnown p t (states_of program config thread journal h.at) bytes) h.before (known_at s r h))

  module _ (s : State) (from : Place) (h : IsReturnedAt program config thread journal count p s from bytes) where
    pub known_there : IsKnown p s from.state bytes
    known_there = known_back s from.state h.returned

    -- what the turns lead to from there is of the run, and before its end
    before_end : (n : ℕ) (q : Place) → reach program config thread journal n ≡ At q.state q.used q.left → n < h.returned.yes.turns
    before_end n q is = elim (cases_le h.returned.yes.turns n) [
      | inl over ↦
          let yes = h.returned.yes in
          let end = stays_so program config thread journal 0 (Ended yes.state yes.stop yes.used []) refl yes.turns n over yes.ends in
          let clash : At q.state q.used q.left ≡ Ended yes.state yes.stop yes.used [] = sym is ∙ end in absurd cc
      | inr less ↦ less
    ]

    -- so all is plain there
    pub plain_there : (to : Place) → ArePlainBetween config thread from to
    plain_there to q later on due =
        let n : ℕ = h.returned.at + later.0 in
        let is = join program config thread journal h.returned.at from.state from.used from.left h.place later.0 ∙ later.1 in
        let same : states_of program config thread journal n ≡ q.state = ap state_at is in
        subst (λ (t : State). IsPlain config t) same
        (h.returned.yes.plain n (before_end n q is) (subst (λ (t : State). is_delivery_due config t ≡ true) (sym same) due))
