use Rattle.std.proofs.Common.{◌≡◌, true, false, slice_index, ap, sym, ◌∙◌, subst}
use Rattle.std.specs.Prelude.{Err}
use Rattle.sm_types.specs.declared.config.Config.{Config}
use Rattle.sm_types.specs.declared.shared_op.SharedOp.{SharedOp}
use Rattle.kernel_contexts.specs.Asked.{Asked, with_place}
use Rattle.kernel_contexts.specs.declared.guest.asking.Refusal.{Refusal}
use Rattle.kernel_contexts.specs.declared.guest.asking.Refusal.TheVariants.{Port}
use Rattle.shared_region.specs.declared.port.PortStop.TheVariants.{Memory}
use Rattle.kernel_contexts.specs.State.{State}
use Rattle.kernel_contexts.specs.Turn.{outside_streaming}
use Rattle.kernel_contexts.specs.Call.{Goes, asking, may_post, post_op, post_of, returned}
use Rattle.kernel_contexts.specs.GuestThread.{guest_events}
use Rattle.kernel_contexts.specs.Context.{held_state, made_since, HasFreePlace}
use Rattle.kernel_contexts.proofs.Answered.{asked_nothing, made_nothing}
use Rattle.kernel_contexts.proofs.Calls.{post_asks, post_fails}
use Rattle.kernel_contexts.proofs.Over.{turned_so, answered_after, refused_after}
use Rattle.mem_access.specs.Bank.{bank_state}
use Rattle.kernel_contexts.proofs.Bare.{with_vectors}
use Rattle.kernel_contexts.proofs.Wanting.{goes_so, asking_goes, refusal_wants}
use Rattle.kernel_contexts.proofs.guest.GuestThread.post.Goals as goal

pub returns-in-Ok-clause-turn : goal.returns-in-Ok-clause-turn
returns-in-Ok-clause-turn g c =
    let t = c.args.self.now in
    let s = outside_streaming t.config (held_state t c.args.bank.now) in
    let x = t.machine.scalars.x in
    let may : may_post t.config x ≡ true = sym c.may_post.ensures.value ∙ c.if-not-may_post.false in
    let events = guest_events t in
    let op = post_op (slice_index x 0) (slice_index x 1) in
    turned_so _ (asking events (held_state t c.args.bank.now) op (λ answer. returned s 0))
    (post_of t.config events (held_state t c.args.bank.now) s) _ _ _ _ _
    (post_asks t.config events (held_state t c.args.bank.now) s may)
    (answered_after (HasFreePlace t) _ events t.journal.items c.ask.new.self.journal.items _ (held_state t c.args.bank.now) _ op
    (λ answer. returned s 0) c.in-Ok.field-0 _ _
    (rw c.post_op-op.ensures at c.in-Ok.ensures.made) c.return_with-in-Ok.ensures.same.journal
    (c.return_with-in-Ok.ensures.state
    ∙ ap (λ (k : Config). returned (outside_streaming k (held_state c.ask.new.self c.args.bank.now)) 0) c.in-Ok.ensures.grows.same.config
    ∙ ap (λ (k : State). returned (outside_streaming t.config k) 0) (ap (with_vectors (bank_state c.args.bank.now)) c.in-Ok.ensures.state))
    c.return_with-in-Ok.ensures.answer c.return_with-in-Ok.ensures.stop)

pub returns-in-Err-clause-turn : goal.returns-in-Err-clause-turn
returns-in-Err-clause-turn g c =
    let t = c.args.self.now in
    let refusals = g.P.Port.refuses c.args.port.now c.args.ticket.now in
    let s = outside_streaming t.config (held_state t c.args.bank.now) in
    let x = t.machine.scalars.x in
    let may : may_post t.config x ≡ true = sym c.may_post.ensures.value ∙ c.if-not-may_post.false in
    let events = guest_events t in
    let op = post_op (slice_index x 0) (slice_index x 1) in
    turned_so _ (asking events (held_state t c.args.bank.now) op (λ answer. returned s 0))
    (post_of t.config events (held_state t c.args.bank.now) s) _ _ _ _ _
    (post_asks t.config events (held_state t c.args.bank.now) s may)
    (refused_after (HasFreePlace t) _ events t.journal.items c.ask.new.self.journal.items _ (held_state t c.args.bank.now) _ _ op
    (λ answer. returned s 0) c.in-Err.refusal _ _
    (subst (λ (o : SharedOp). Asked (with_place (HasFreePlace t) refusals) o events
    (made_since t.journal.items c.ask.new.self.journal.items)
    (Err c.in-Err.refusal))
    c.post_op-op.ensures c.in-Err.ensures.made) c.refuse.ensures.same.journal
    (ap (with_vectors (bank_state c.args.bank.now)) c.in-Err.ensures.state) (c.refuse.ensures.turn (bank_state c.args.bank.now)))

pub returns-then-not-may_post-clause-turn : goal.returns-then-not-may_post-clause-turn
returns-then-not-may_post-clause-turn g c =
    let t = c.args.self.now in
    let s = outside_streaming t.config (held_state t c.args.bank.now) in
    let may : may_post t.config t.machine.scalars.x ≡ false = sym c.may_post.ensures.value ∙ c.if-not-may_post.true in
    asked_nothing ⊥ _ _ (held_state t c.args.bank.now) (held_state c.return_with.new.self c.return_with.new.bank) _ _ c.return_with.result
    (made_nothing t.journal.items _ c.return_with.ensures.same.journal)
    (rw c.return_with.ensures.answer (
      post_fails t.config (guest_events t) (held_state t c.args.bank.now) s may
          ∙ ap Goes (sym c.return_with.ensures.state),
      c.return_with.ensures.stop,
    ))

pub returns-in-Err-clause-memory : goal.returns-in-Err-clause-memory
returns-in-Err-clause-memory g c = λ wants free.
    let t = c.args.self.now in
    let refusals = g.P.Port.refuses c.args.port.now c.args.ticket.now in
    let is : c.in-Err.refusal ≡ Port Memory =
    refusal_wants c.in-Err.refusal (held_state c.ask.new.self c.args.bank.now) (held_state c.refuse.new.self c.args.bank.now)
    c.refuse.new.self.stop c.refuse.result
    (c.refuse.ensures.turn (bank_state c.args.bank.now)) wants in
    let asked = subst (λ (r : Refusal). Asked (with_place (HasFreePlace t) refusals) c.post_op-op.result (guest_events t)
    (made_since t.journal.items c.ask.new.self.journal.items) (Err r)) is c.in-Err.ensures.made in
    asked.1 free

pub returns-in-Err-clause-goes : goal.returns-in-Err-clause-goes
returns-in-Err-clause-goes g c = λ wants free.
    let t = c.args.self.now in
    let refusals = g.P.Port.refuses c.args.port.now c.args.ticket.now in
    let s = outside_streaming t.config (held_state t c.args.bank.now) in
    let x = t.machine.scalars.x in
    let may : may_post t.config x ≡ true = sym c.may_post.ensures.value ∙ c.if-not-may_post.false in
    let events = guest_events t in
    let op = post_op (slice_index x 0) (slice_index x 1) in
    let is : c.in-Err.refusal ≡ Port Memory =
    refusal_wants c.in-Err.refusal (held_state c.ask.new.self c.args.bank.now) (held_state c.refuse.new.self c.args.bank.now)
    c.refuse.new.self.stop c.refuse.result
    (c.refuse.ensures.turn (bank_state c.args.bank.now)) wants in
    let asked = subst (λ (r : Refusal). Asked (with_place (HasFreePlace t) refusals) c.post_op-op.result (guest_events t)
    (made_since t.journal.items c.ask.new.self.journal.items) (Err r)) is c.in-Err.ensures.made in
    goes_so refusals.takes_memory (asking events (held_state t c.args.bank.now) op (λ answer. returned s 0))
    (post_of t.config events (held_state t c.args.bank.now) s)
    (post_asks t.config events (held_state t c.args.bank.now) s may)
    (asking_goes refusals.takes_memory events (held_state t c.args.bank.now) op (λ answer. returned s 0) asked.0 (asked.1 free))
