use Rattle.std.proofs.Common.{◌≡◌, ◌+◌, ◌*◌, ◌≤◌, false, ap, ◌∙◌, subst, arith}
use Rattle.std.specs.Prelude.{bit_or}
use Rattle.kernel_contexts.specs.Watch.{waiting}
use Rattle.kernel_contexts.proofs.Signals.{waiting_some}
use Rattle.kernel_contexts.specs.State.{State}
use Rattle.kernel_contexts.specs.Turn.{poll_op, polled_with}
use Rattle.kernel_contexts.specs.GuestThread.{guest_state, bare_state, no_vectors}
use Rattle.kernel_contexts.proofs.Bare.{with_vectors}
use Rattle.std.specs.Prelude.{Err}
use Rattle.kernel_contexts.specs.Asked.{Asked, with_place}
use Rattle.kernel_contexts.specs.GuestThread.{guest_events}
use Rattle.kernel_contexts.specs.Context.{made_since, HasFreePlace}
use Rattle.kernel_contexts.specs.declared.guest.asking.Refusal.{Refusal}
use Rattle.kernel_contexts.specs.declared.guest.asking.Refusal.TheVariants.{Port}
use Rattle.shared_region.specs.declared.port.PortStop.TheVariants.{Memory}
use Rattle.kernel_contexts.proofs.Wanting.{asking_goes, refusal_wants}
use Rattle.kernel_contexts.proofs.Over.{answered_so, refused_after}
use Rattle.kernel_contexts.proofs.guest.GuestThread.poll.Goals as goal

pub returns-in-Ok-clause-turn : goal.returns-in-Ok-clause-turn
returns-in-Ok-clause-turn g c = λ v.
    let t = c.args.self.now in (
      answered_so (HasFreePlace t) _ (guest_events t) _ (guest_state t v) _ (poll_op t.number) (polled_with (guest_state t v)) c.in-Ok.answer
          c.in-Ok.ensures.made (ap (λ (s : State). polled_with (with_vectors v s) c.in-Ok.answer) c.in-Ok.ensures.state),
      c.in-Ok.ensures.stop ∙ c.requires.runs,
    )

pub returns-in-Err-clause-turn : goal.returns-in-Err-clause-turn
returns-in-Err-clause-turn g c = λ v.
    let t = c.args.self.now in
    refused_after (HasFreePlace t) _ (guest_events t) t.journal.items c.ask.new.self.journal.items _ (guest_state t v) (guest_state c.ask.new.self v) _
    (poll_op t.number)
    (polled_with (guest_state t v)) c.in-Err.refusal _ _ c.in-Err.ensures.made c.refuse.ensures.same.journal
    (ap (with_vectors v) c.in-Err.ensures.state) (c.refuse.ensures.turn v)

pub returns-in-Err-clause-memory : goal.returns-in-Err-clause-memory
returns-in-Err-clause-memory g c = λ wants free.
    let t = c.args.self.now in
    let refusals = g.P.Port.refuses c.args.port.now c.args.ticket.now in
    let is : c.in-Err.refusal ≡ Port Memory =
    refusal_wants c.in-Err.refusal (bare_state c.ask.new.self) (bare_state c.refuse.new.self) c.refuse.new.self.stop c.refuse.result
    (c.refuse.ensures.turn no_vectors) wants in
    let asked = subst (λ (r : Refusal). Asked (with_place (HasFreePlace t) refusals) (poll_op t.number) (guest_events t)
    (made_since t.journal.items c.ask.new.self.journal.items) (Err r)) is c.in-Err.ensures.made in
    asked.1 free

pub returns-in-Err-clause-goes : goal.returns-in-Err-clause-goes
returns-in-Err-clause-goes g c = λ v wants free.
    let t = c.args.self.now in
    let refusals = g.P.Port.refuses c.args.port.now c.args.ticket.now in
    let is : c.in-Err.refusal ≡ Port Memory =
    refusal_wants c.in-Err.refusal (guest_state c.ask.new.self v) (guest_state c.refuse.new.self v) c.refuse.new.self.stop c.refuse.result
    (c.refuse.ensures.turn v) wants in
    let asked = subst (λ (r : Refusal). Asked (with_place (HasFreePlace t) refusals) (poll_op t.number) (guest_events t)
    (made_since t.journal.items c.ask.new.self.journal.items) (Err r)) is c.in-Err.ensures.made in
    asking_goes refusals.takes_memory (guest_events t) (guest_state t v) (poll_op t.number) (polled_with (guest_state t v)) asked.0
    (asked.1 free)

pub invariant_of-self-clause-turns_are_few : goal.invariant_of-self-clause-turns_are_few
invariant_of-self-clause-turns_are_few g c =
    let n = c.ask.new.self in
    let same : n.polled ≡ false = ap (λ (s : State). s.polled) c.in-Ok.ensures.state ∙ c.requires.polled in
    let before : n.turns ≤ n.begun + (64 * n.count + waiting false n.held) =
    subst (λ b. n.turns ≤ n.begun + (64 * n.count + waiting b n.held)) same n.turns_are_few in
    omega (arith, before, waiting_some (bit_or n.held c.in-Ok.answer))
