use Rattle.std.proofs.Common.{◌≡◌, true, false, ap, sym, ◌∙◌}
use Rattle.sm_types.specs.declared.stop.Stop.TheVariants.{Budget}
use Rattle.kernel_contexts.specs.Call.{Ends}
use Rattle.kernel_contexts.specs.Turn.{is_poll_due, is_delivery_due, poll_of, delivery_of}
use Rattle.kernel_contexts.specs.GuestThread.{guest_events}
use Rattle.kernel_contexts.specs.Context.{guest_turn, guest_instruction, held_state}
use Rattle.kernel_contexts.proofs.Answered.{stops_so, asked_nothing, made_nothing}
use Rattle.mem_access.specs.Bank.{bank_state}
use Rattle.kernel_contexts.proofs.Bare.{with_vectors}
use Rattle.kernel_contexts.proofs.Over.{turned_so}
use Rattle.kernel_contexts.proofs.Turns.{turn_spent, turn_polls, turn_delivers, turn_executes}
use Rattle.kernel_contexts.specs.Wanting.{Polls, Delivers, Executes}
use Rattle.kernel_contexts.proofs.Wanting.{goes_so, quiet_wants, quiet_goes}
use Rattle.kernel_contexts.proofs.Owned.{stops_owned, same_owns, turn_as, polls_write, deliveries_write, instructions_write}
use Rattle.machine_step.specs.declared.machine.Machine.{Machine}
use Rattle.kernel_contexts.proofs.guest.GuestThread.make_watched_turn.Goals as goal

pub returns-then-self-clause-turn : goal.returns-then-self-clause-turn
returns-then-self-clause-turn g c =
    let t = c.args.self.now in
    asked_nothing _ _ _ (held_state t c.args.bank.now) (held_state c.stop_with.new.self c.args.bank.now) _ _ c.stop_with.result
    (made_nothing t.journal.items _ c.stop_with.ensures.same.journal)
    (stops_so ⊥ _ (held_state t c.args.bank.now) (held_state c.stop_with.new.self c.args.bank.now) _ c.stop_with.result Budget
    c.stop_with.ensures.answer
    (turn_spent t.config t.number (guest_events t) (held_state t c.args.bank.now) c.if-self.true
    ∙ ap (λ s. Ends s Budget) (sym (ap (with_vectors (bank_state c.args.bank.now)) c.stop_with.ensures.state))) c.stop_with.ensures.stop)

pub returns-then-is_poll_due-clause-turn : goal.returns-then-is_poll_due-clause-turn
returns-then-is_poll_due-clause-turn g c =
    let t = c.args.self.now in
    let due : is_poll_due t.config (held_state t c.args.bank.now) ≡ true = sym c.is_poll_due.ensures ∙ c.if-is_poll_due.true in
    turned_so _ (poll_of t.number (guest_events t) (held_state t c.args.bank.now)) (guest_turn t c.args.bank.now) _ _ _ _ _
    (turn_polls t.config t.number (guest_events t) (held_state t c.args.bank.now) c.if-self.false due)
    (c.poll.ensures.turn (bank_state c.args.bank.now))

pub returns-then-is_delivery_due-clause-turn : goal.returns-then-is_delivery_due-clause-turn
returns-then-is_delivery_due-clause-turn g c =
    let t = c.args.self.now in
    let none : is_poll_due t.config (held_state t c.args.bank.now) ≡ false = sym c.is_poll_due.ensures ∙ c.if-is_poll_due.false in
    let due : is_delivery_due t.config (held_state t c.args.bank.now) ≡ true = sym c.is_delivery_due.ensures ∙ c.if-is_delivery_due.true in
    turned_so _ (delivery_of t.config (held_state t c.args.bank.now)) (guest_turn t c.args.bank.now) _ _ _ _ _
    (turn_delivers t.config t.number (guest_events t) (held_state t c.args.bank.now) c.if-self.false none due)
    (asked_nothing _ _ _ (held_state t c.args.bank.now) (held_state c.deliver_signal.new.self c.deliver_signal.new.bank) _ _
    c.deliver_signal.result
    (made_nothing t.journal.items _ c.deliver_signal.ensures.same.journal) c.deliver_signal.ensures.turn)

pub returns-clause-turn : goal.returns-clause-turn
returns-clause-turn g c =
    let t = c.args.self.now in
    let none : is_poll_due t.config (held_state t c.args.bank.now) ≡ false = sym c.is_poll_due.ensures ∙ c.if-is_poll_due.false in
    let other : is_delivery_due t.config (held_state t c.args.bank.now) ≡ false = sym c.is_delivery_due.ensures ∙ c.if-is_delivery_due.false in
    turned_so _ (guest_instruction t c.args.bank.now) (guest_turn t c.args.bank.now) _ _ _ _ _
    (turn_executes t.config t.number (guest_events t) (held_state t c.args.bank.now) c.if-self.false none other)
    c.execute.ensures.turn

pub returns-then-is_poll_due-clause-memory : goal.returns-then-is_poll_due-clause-memory
returns-then-is_poll_due-clause-memory g c = λ wants.
    Polls c.if-self.false (sym c.is_poll_due.ensures ∙ c.if-is_poll_due.true) (c.poll.ensures.memory wants)

pub returns-then-is_delivery_due-clause-memory : goal.returns-then-is_delivery_due-clause-memory
returns-then-is_delivery_due-clause-memory g c = λ wants.
    Delivers c.if-self.false (sym c.is_delivery_due.ensures ∙ c.if-is_delivery_due.true)
    (quiet_wants _ _ (held_state c.args.self.now c.args.bank.now) (held_state c.deliver_signal.new.self c.deliver_signal.new.bank) _
    c.deliver_signal.result c.deliver_signal.ensures.turn wants)

pub returns-clause-memory : goal.returns-clause-memory
returns-clause-memory g c = λ wants.
    Executes c.if-self.false (sym c.is_poll_due.ensures ∙ c.if-is_poll_due.false)
    (sym c.is_delivery_due.ensures ∙ c.if-is_delivery_due.false)
    (c.execute.ensures.memory wants)

pub returns-then-is_poll_due-clause-goes : goal.returns-then-is_poll_due-clause-goes
returns-then-is_poll_due-clause-goes g c = λ wants free.
    let t = c.args.self.now in
    let due : is_poll_due t.config (held_state t c.args.bank.now) ≡ true = sym c.is_poll_due.ensures ∙ c.if-is_poll_due.true in
    goes_so (g.P.Port.refuses c.args.port.now c.args.ticket.now).takes_memory
    (poll_of t.number (guest_events t) (held_state t c.args.bank.now))
    (guest_turn t c.args.bank.now)
    (turn_polls t.config t.number (guest_events t) (held_state t c.args.bank.now) c.if-self.false due)
    (c.poll.ensures.goes (bank_state c.args.bank.now) wants free)

pub returns-then-is_delivery_due-clause-goes : goal.returns-then-is_delivery_due-clause-goes
returns-then-is_delivery_due-clause-goes g c = λ wants free.
    let t = c.args.self.now in
    let none : is_poll_due t.config (held_state t c.args.bank.now) ≡ false = sym c.is_poll_due.ensures ∙ c.if-is_poll_due.false in
    let due : is_delivery_due t.config (held_state t c.args.bank.now) ≡ true = sym c.is_delivery_due.ensures ∙ c.if-is_delivery_due.true in
    let new = c.deliver_signal.new.self in
    goes_so (g.P.Port.refuses c.args.port.now c.args.ticket.now).takes_memory (delivery_of t.config (held_state t c.args.bank.now))
    (guest_turn t c.args.bank.now)
    (turn_delivers t.config t.number (guest_events t) (held_state t c.args.bank.now) c.if-self.false none due)
    (quiet_goes _ _ (delivery_of t.config (held_state t c.args.bank.now)) (held_state t c.args.bank.now)
    (held_state new c.deliver_signal.new.bank) new.stop c.deliver_signal.result c.deliver_signal.ensures.turn wants)

pub returns-clause-goes : goal.returns-clause-goes
returns-clause-goes g c = λ wants free.
    let t = c.args.self.now in
    let none : is_poll_due t.config (held_state t c.args.bank.now) ≡ false = sym c.is_poll_due.ensures ∙ c.if-is_poll_due.false in
    let other : is_delivery_due t.config (held_state t c.args.bank.now) ≡ false = sym c.is_delivery_due.ensures ∙ c.if-is_delivery_due.false in
    goes_so (g.P.Port.refuses c.args.port.now c.args.ticket.now).takes_memory (guest_instruction t c.args.bank.now)
    (guest_turn t c.args.bank.now)
    (turn_executes t.config t.number (guest_events t) (held_state t c.args.bank.now) c.if-self.false none other)
    (c.execute.ensures.goes wants free)

pub returns-then-self-clause-owned : goal.returns-then-self-clause-owned
returns-then-self-clause-owned g c =
    stops_owned _ c.args.self.now.machine.pages c.stop_with.new.self.machine.pages c.stop_with.result Budget c.stop_with.ensures.answer
    (ap (λ (m : Machine). m.pages) c.stop_with.ensures.machine)

pub returns-then-is_poll_due-clause-owned : goal.returns-then-is_poll_due-clause-owned
returns-then-is_poll_due-clause-owned g c =
    same_owns _ c.args.self.now.machine.pages c.poll.new.self.machine.pages c.poll.result
    (ap (λ (m : Machine). m.pages) c.poll.ensures.machine)
    (polls_write c.args.self.now c.args.bank.now (sym c.is_poll_due.ensures ∙ c.if-is_poll_due.true))

pub returns-then-is_delivery_due-clause-owned : goal.returns-then-is_delivery_due-clause-owned
returns-then-is_delivery_due-clause-owned g c =
    turn_as _ _ _ _ c.deliver_signal.result
    (deliveries_write c.args.self.now c.args.bank.now (sym c.is_poll_due.ensures ∙ c.if-is_poll_due.false)
    (sym c.is_delivery_due.ensures ∙ c.if-is_delivery_due.true)) c.deliver_signal.ensures.owned

pub returns-clause-owned : goal.returns-clause-owned
returns-clause-owned g c =
    turn_as _ _ _ _ c.execute.result
    (instructions_write c.args.self.now c.args.bank.now (sym c.is_poll_due.ensures ∙ c.if-is_poll_due.false)
    (sym c.is_delivery_due.ensures ∙ c.if-is_delivery_due.false)) c.execute.ensures.owned
