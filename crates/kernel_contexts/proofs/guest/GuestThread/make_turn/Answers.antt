use Rattle.std.proofs.Common.{◌∙◌, ◌+◌, ap, sym, length, arith}
use Rattle.std.specs.Prelude.{◌&&◌}
use Rattle.mem_access.specs.Bank.{bank_state}
use Rattle.kernel_contexts.specs.State.{State}
use Rattle.kernel_contexts.specs.Turn.{turn_of}
use Rattle.kernel_contexts.specs.GuestThread.{guest_events}
use Rattle.kernel_contexts.specs.Context.{guest_turn, guest_instruction, held_state, made_since}
use Rattle.kernel_contexts.proofs.Answered.{made_nothing}
use Rattle.kernel_contexts.proofs.Apart.{unless_as, unless_so, needed_so, over_as, needs_executes}
use Rattle.kernel_contexts.proofs.Bare.{with_vectors}
use Rattle.kernel_contexts.proofs.Turns.{turn_executes}
use Rattle.kernel_contexts.specs.Wanting.{Executes}
use Rattle.kernel_contexts.proofs.Wanting.{goes_so, wants_as}
use Rattle.kernel_contexts.proofs.Watched.{no_poll, no_delivery}
use Rattle.kernel_contexts.proofs.guest.GuestThread.make_turn.Goals as goal

pub returns-then-self-clause-turn : goal.returns-then-self-clause-turn
returns-then-self-clause-turn g c =
    let t = c.args.self.now in
    let s = held_state t c.args.bank.now in
    unless_as _ _ _ (guest_instruction t c.args.bank.now) (guest_turn t c.args.bank.now) _ _ _ _ _
    (ap (λ b. c.args.apart && b) (needs_executes t.config s (λ e. omega (arith, e, t.watched.budget, c.if-self.true))
    (no_poll t.config s t.watch t.watched c.if-self.true) (no_delivery t.config s t.watch t.watched c.if-self.true)))
    (turn_executes t.config t.number (guest_events t) s (λ e. omega (arith, e, t.watched.budget, c.if-self.true))
    (no_poll t.config s t.watch t.watched c.if-self.true) (no_delivery t.config s t.watch t.watched c.if-self.true))
    c.execute.ensures.turn

pub returns-then-self-clause-memory : goal.returns-then-self-clause-memory
returns-then-self-clause-memory g c = λ wants.
    let t = c.args.self.now in
    let s = held_state t c.args.bank.now in
    Executes (λ e. omega (arith, e, t.watched.budget, c.if-self.true)) (no_poll t.config s t.watch t.watched c.if-self.true)
    (no_delivery t.config s t.watch t.watched c.if-self.true) (c.execute.ensures.memory wants)

pub returns-then-self-clause-goes : goal.returns-then-self-clause-goes
returns-then-self-clause-goes g c = λ wants free.
    let t = c.args.self.now in
    let s = held_state t c.args.bank.now in
    goes_so (g.P.Port.refuses c.args.port.now c.args.ticket.now).takes_memory (guest_instruction t c.args.bank.now)
    (guest_turn t c.args.bank.now)
    (turn_executes t.config t.number (guest_events t) s (λ e. omega (arith, e, t.watched.budget, c.if-self.true))
    (no_poll t.config s t.watch t.watched c.if-self.true) (no_delivery t.config s t.watch t.watched c.if-self.true))
    (c.execute.ensures.goes wants free)

pub returns-then-wants_vectors-clause-turn : goal.returns-then-wants_vectors-clause-turn
returns-then-wants_vectors-clause-turn g c =
    let t = c.args.self.now in
    let seen = c.wants_vectors.ensures in
    let here = bank_state c.args.bank.now in
    needed_so _ _ _ _ _ _ _ (sym (seen.needs here) ∙ c.if-wants_vectors.true) (ap (with_vectors here) seen.state)
    (made_nothing t.journal.items _ seen.same.journal) (seen.stop ∙ c.requires.runs)

pub make_watched_turn-requires-clause-watched : goal.make_watched_turn-requires-clause-watched
make_watched_turn-requires-clause-watched g c =
    let t = c.args.self.now in
    let seen = c.wants_vectors.ensures in
    let count = ap (λ (s : State). s.count) seen.state in
    omega (arith, c.if-self.false, t.watched.within, seen.watch, count)

pub returns-clause-turn : goal.returns-clause-turn
returns-clause-turn g c =
    let t = c.args.self.now in
    let mid = c.wants_vectors.new.self in
    let seen = c.wants_vectors.ensures in
    let here = bank_state c.args.bank.now in
    let made = c.make_watched_turn in
    unless_so _ _ _ _ _ _ _ _ (sym (seen.needs here) ∙ c.if-wants_vectors.false)
    (over_as _ (guest_turn mid c.args.bank.now) (guest_turn t c.args.bank.now) (held_state mid c.args.bank.now)
    (held_state t c.args.bank.now) _ _ _ _ made.result
    (λ i. turn_of (sym seen.same.config i) (sym seen.same.number i) (sym seen.same.earlier i + length (sym seen.same.journal i))
    (sym (ap (with_vectors here) seen.state) i))
    (sym (ap (with_vectors here) seen.state)) (ap (λ l. made_since l made.new.self.journal.items) (sym seen.same.journal))
    made.ensures.turn)

pub returns-clause-memory : goal.returns-clause-memory
returns-clause-memory g c = λ wants.
    let seen = c.wants_vectors.ensures in
    wants_as _ c.args.bank.now _ _ c.args.self.now c.wants_vectors.new.self seen.free seen.state seen.same.config seen.machine
    (c.make_watched_turn.ensures.memory wants)

pub returns-clause-goes : goal.returns-clause-goes
returns-clause-goes g c = λ wants free.
    let t = c.args.self.now in
    let mid = c.wants_vectors.new.self in
    let seen = c.wants_vectors.ensures in
    let here = bank_state c.args.bank.now in
    goes_so (g.P.Port.refuses c.args.port.now c.args.ticket.now).takes_memory (guest_turn mid c.args.bank.now)
    (guest_turn t c.args.bank.now)
    (λ i. turn_of (sym seen.same.config i) (sym seen.same.number i) (sym seen.same.earlier i + length (sym seen.same.journal i))
    (sym (ap (with_vectors here) seen.state) i))
    (c.make_watched_turn.ensures.goes wants (seen.free free))
