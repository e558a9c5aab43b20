use Rattle.std.proofs.Common.{◌≡◌, ◌+◌, ◌++◌, List, length, vec_len, Some, refl, ap, sym, ◌∙◌, subst, arith}
use Rattle.sm_types.specs.declared.length.VecLen.{VecLen}
use Rattle.sm_types.specs.declared.shared_op.Event.{Event}
use Rattle.sm_types.specs.declared.stop.Stop.TheVariants.{Raised, TraceFull}
use Rattle.machine_step.specs.ProcessorState.{ProcessorState, vector_bytes}
use Rattle.machine_step.specs.Effect.{effect_of}
use Rattle.machine_step.specs.Step.{events_of}
use Rattle.kernel_contexts.specs.declared.guest.GuestThread.{GuestThread}
use Rattle.mem_access.specs.declared.bank.Bank.{Bank}
use Rattle.mem_access.specs.Bank.{bank_state}
use Rattle.kernel_contexts.specs.Call.{Ends, call_of}
use Rattle.kernel_contexts.specs.Turn.{outside_streaming}
use Rattle.shared_region.specs.Tickets.{Refusals}
use Rattle.kernel_contexts.specs.KernelCall.{return_number}
use Rattle.kernel_contexts.specs.GuestThread.{guest_events}
use Rattle.kernel_contexts.specs.Context.{held_state, guest_instruction, guest_made, made_since, TurnsOver}
use Rattle.kernel_contexts.proofs.Bare.{with_vectors}
use Rattle.kernel_contexts.proofs.Turns.{executes_raises, executes_calls}
use Rattle.kernel_contexts.proofs.Apart.{not_kept, call_kept, is_kept, unless_so, needed_so, lacked, lacked_owns, over_as}
use Rattle.machine_step.specs.declared.step.StepEnd.TheVariants as end
use Rattle.std.specs.Prelude.{◌&&◌, ◌==◌, slice_index}
use Rattle.kernel_contexts.proofs.Answered.{stops_so, asked_nothing, made_nothing, made_events}
use Rattle.kernel_contexts.proofs.Over.{event_fits, room_left, room_full, goes_over, full_over, refused_over}
use Rattle.machine_step.specs.Machine.{HasRoomToStep, core_of}
use Rattle.kernel_contexts.specs.Wanting.{CallWants}
use Rattle.kernel_contexts.proofs.Wanting.{effect_wants}
use Rattle.kernel_contexts.proofs.Owned.{ran_owned, stops_owned, same_owns, next_owns, writes_at_length}
use Rattle.machine_step.specs.Owned.{step_writes}
use Rattle.machine_step.specs.declared.machine.Machine.{Machine}
use Rattle.kernel_contexts.specs.Owned.{effect_writes}
use Rattle.kernel_contexts.proofs.guest.GuestThread.execute.Goals as goal

-- VL of the options is that of the bank
its_effect : (g : GuestThread) (bank : Bank) → bank.vectors.vl ≡ g.config.vl
    → effect_of (vector_bytes g.config.vl) (held_state g bank).core ≡ effect_of (vector_bytes bank.vectors.vl) (held_state g bank).core
its_effect g bank same = ap (λ (l : VecLen). effect_of (vector_bytes l) (held_state g bank).core) (sym same)

pub go_on-requires-clause-within : goal.go_on-requires-clause-within
go_on-requires-clause-within g c =
    let t = c.args.self.now in
    let k =
    not_kept c.args.apart (vector_bytes c.args.bank.now.vectors.vl) (held_state t c.args.bank.now).core
    _ _ _ (end.Next c.in-Next.event) (λ e. cc) refl c.in-Next.ensures.effect in
    let n = t.earlier + vec_len c.reserve.new.self in
    let count : c.events.result ≡ n = omega (arith, c.events.ensures) in
    event_fits _ _ (effect_of (vector_bytes c.args.bank.now.vectors.vl) (held_state t c.args.bank.now).core)
    (held_state t c.args.bank.now).core _ c.in-Next.event n n refl
    (omega (arith, t.journal_within, c.reserve.ensures.len)) (room_left c.events.result n count) k.1

pub returns-in-Next-clause-turn : goal.returns-in-Next-clause-turn
returns-in-Next-clause-turn g c =
    let t = c.args.self.now in
    let k =
    not_kept c.args.apart (vector_bytes c.args.bank.now.vectors.vl) (held_state t c.args.bank.now).core
    _ _ _ (end.Next c.in-Next.event) (λ e. cc) refl c.in-Next.ensures.effect in
    let count : c.events.result ≡ guest_events t =
    c.events.ensures ∙ ap (λ (l : List Event). t.earlier + length l) c.reserve.ensures.items in
    unless_so _ _ _ _ _ _ _ _ k.0 (rw c.go_on.ensures.answer (
      goes_over t.config t.number (guest_events t) (held_state t c.args.bank.now) _ _ _
          (its_effect t c.args.bank.now c.requires.fit.lengths.vl) _
          (held_state c.go_on.new.self c.step_apart.new.bank) c.in-Next.event _
          (room_left c.events.result (guest_events t) count)
          k.1 (ap (with_vectors (bank_state c.step_apart.new.bank)) c.go_on.ensures.state)
          (made_events t.journal.items _ _ (c.go_on.ensures.journal ∙ ap (λ l. l ++ events_of c.in-Next.event) c.reserve.ensures.items)),
      c.go_on.ensures.stop ∙ c.requires.runs,
    ))

pub returns-in-Raise-clause-turn : goal.returns-in-Raise-clause-turn
returns-in-Raise-clause-turn g c =
    let t = c.args.self.now in
    let k =
    not_kept c.args.apart (vector_bytes c.args.bank.now.vectors.vl) (held_state t c.args.bank.now).core
    _ _ _ (end.Raise c.in-Raise.exception) (λ e. cc) refl c.in-Raise.ensures.effect in
    let h = k.1 in
    let stop = c.stop_with in
    unless_so _ _ _ _ _ _ _ _ k.0
    (asked_nothing _ _ _ (held_state t c.args.bank.now) (held_state stop.new.self c.step_apart.new.bank) _ _ stop.result
    (made_nothing t.journal.items _ (stop.ensures.same.journal ∙ c.reserve.ensures.items))
    (stops_so ⊥ _ (held_state t c.args.bank.now) (held_state stop.new.self c.step_apart.new.bank) _ stop.result _ stop.ensures.answer
    (executes_raises t.config t.number (guest_events t) (held_state t c.args.bank.now) _ _
    (its_effect t c.args.bank.now c.requires.fit.lengths.vl ∙ h.0) h.1
    ∙ ap (λ s. Ends s (Raised c.in-Raise.exception c.step_apart.new.self.scalars.pc))
    (sym (ap (with_vectors (bank_state c.step_apart.new.bank)) stop.ensures.state)))
    stop.ensures.stop))

pub returns-in-NoRoom-clause-turn : goal.returns-in-NoRoom-clause-turn
returns-in-NoRoom-clause-turn g c =
    let t = c.args.self.now in
    let k =
    not_kept c.args.apart (vector_bytes c.args.bank.now.vectors.vl) (held_state t c.args.bank.now).core
    _ _ _ end.NoRoom (λ e. cc) refl c.in-NoRoom.ensures.effect in
    let h = k.1 in
    let stop = c.stop_with-in-NoRoom in
    let count : c.events.result ≡ guest_events t =
    c.events.ensures ∙ ap (λ (l : List Event). t.earlier + length l) c.reserve.ensures.items in
    unless_so _ _ _ _ _ _ _ _ k.0
    (asked_nothing _ _ _ (held_state t c.args.bank.now) (held_state stop.new.self c.step_apart.new.bank) _ _ stop.result
    (made_nothing t.journal.items _ (stop.ensures.same.journal ∙ c.reserve.ensures.items))
    (stops_so ⊥ _ (held_state t c.args.bank.now) (held_state stop.new.self c.step_apart.new.bank) _ stop.result TraceFull
    stop.ensures.answer
    (full_over t.config t.number (guest_events t) (held_state t c.args.bank.now) _
    (its_effect t c.args.bank.now c.requires.fit.lengths.vl)
    (room_full c.events.result (guest_events t) count h.1) h.2
    ∙ ap (λ (k : ProcessorState). Ends (record (held_state t c.args.bank.now) { core = k }) TraceFull) (sym h.0)
    ∙ ap (λ s. Ends s TraceFull) (sym (ap (with_vectors (bank_state c.step_apart.new.bank)) stop.ensures.state))) stop.ensures.stop))

pub returns-in-TraceEnds-clause-turn : goal.returns-in-TraceEnds-clause-turn
returns-in-TraceEnds-clause-turn g c =
    let t = c.args.self.now in
    let k =
    not_kept c.args.apart (vector_bytes c.args.bank.now.vectors.vl) (held_state t c.args.bank.now).core
    _ _ _ end.TraceEnds (λ e. cc) refl c.in-TraceEnds.ensures.effect in
    let h = k.1 in
    let count : c.events.result ≡ guest_events t =
    c.events.ensures ∙ ap (λ (l : List Event). t.earlier + length l) c.reserve.ensures.items in
    unless_so _ _ _ _ _ _ _ _ k.0 (
      refused_over t.config t.number (guest_events t) (held_state t c.args.bank.now) _ _
          (its_effect t c.args.bank.now c.requires.fit.lengths.vl)
          (room_left c.events.result (guest_events t) count h.1) h.2,
      ap (λ (k : ProcessorState). record (held_state t c.args.bank.now) { core = k }) h.0,
      made_nothing t.journal.items _ c.reserve.ensures.items,
      c.requires.runs,
    )

pub returns-in-TraceDiffers-clause-turn : goal.returns-in-TraceDiffers-clause-turn
returns-in-TraceDiffers-clause-turn g c =
    let t = c.args.self.now in
    let k =
    not_kept c.args.apart (vector_bytes c.args.bank.now.vectors.vl) (held_state t c.args.bank.now).core
    _ _ _ end.TraceDiffers (λ e. cc) refl c.in-TraceDiffers.ensures.effect in
    let h = k.1 in
    let count : c.events.result ≡ guest_events t =
    c.events.ensures ∙ ap (λ (l : List Event). t.earlier + length l) c.reserve.ensures.items in
    unless_so _ _ _ _ _ _ _ _ k.0 (
      refused_over t.config t.number (guest_events t) (held_state t c.args.bank.now) _ _
          (its_effect t c.args.bank.now c.requires.fit.lengths.vl)
          (room_left c.events.result (guest_events t) count h.1) h.2,
      ap (λ (k : ProcessorState). record (held_state t c.args.bank.now) { core = k }) h.0,
      made_nothing t.journal.items _ c.reserve.ensures.items,
      c.requires.runs,
    )

pub returns-else-is_kept_from-clause-memory : goal.returns-else-is_kept_from-clause-memory
returns-else-is_kept_from-clause-memory g c = λ wants free.
    let t = c.args.self.now in
    let k =
    call_kept c.args.apart (vector_bytes c.args.bank.now.vectors.vl) (held_state t c.args.bank.now).core
    _ _ _ _ c.in-Call.ensures.effect in
    let h = k.1 in
    let chain = c.in-Call.ensures.gives.chain in
    rw (its_effect t c.args.bank.now c.requires.fit.lengths.vl ∙ h.0, chain.0, chain.1)
    (subst (λ (k : ProcessorState). CallWants (g.P.Port.refuses c.step_apart.new.port c.step_apart.new.ticket).takes_memory
    (record (held_state t c.args.bank.now) { core = k })) h.1
    (c.call.ensures.memory wants (omega (arith, free, c.reserve.ensures.capacity, c.reserve.ensures.len))))

pub returns-in-Memory-clause-memory : goal.returns-in-Memory-clause-memory
returns-in-Memory-clause-memory g c = λ wants free.
    let t = c.args.self.now in
    let k =
    not_kept c.args.apart (vector_bytes c.args.bank.now.vectors.vl) (held_state t c.args.bank.now).core
    _ _ _ end.Memory (λ e. cc) refl c.in-Memory.ensures.effect in
    let h = k.1 in
    rw (its_effect t c.args.bank.now c.requires.fit.lengths.vl)
    (effect_wants (g.P.Port.refuses c.args.port.now c.args.ticket.now) (HasRoomToStep t.machine (Some c.args.bank.now)) _ _ _ h.1
    (λ room. c.in-Memory.ensures.memory room refl))

pub returns-in-Next-clause-owned : goal.returns-in-Next-clause-owned
returns-in-Next-clause-owned g c =
    let t = c.args.self.now in
    let k =
    not_kept c.args.apart (vector_bytes c.args.bank.now.vectors.vl) (held_state t c.args.bank.now).core
    _ _ _ (end.Next c.in-Next.event) (λ e. cc) refl c.in-Next.ensures.effect in
    ran_owned _ t.machine.pages c.step_apart.new.self.pages c.go_on.new.self.machine.pages c.go_on.result c.go_on.ensures.answer
    (ap (λ (m : Machine). m.pages) c.go_on.ensures.machine)
    (rw (writes_at_length t c.args.bank.now c.requires.fit.lengths.vl)
    (next_owns (g.P.Port.refuses c.args.port.now c.args.ticket.now) _ _ (held_state t c.args.bank.now).core
    (core_of c.step_apart.new.self (bank_state c.step_apart.new.bank)) _ _ _ c.in-Next.event k.1
    c.in-Next.ensures.owned))

pub returns-else-is_kept_from-clause-owned : goal.returns-else-is_kept_from-clause-owned
returns-else-is_kept_from-clause-owned g c =
    let t = c.args.self.now in
    let k =
    call_kept c.args.apart (vector_bytes c.args.bank.now.vectors.vl) (held_state t c.args.bank.now).core
    _ _ _ _ c.in-Call.ensures.effect in
    same_owns _ t.machine.pages c.call.new.self.machine.pages c.call.result (c.call.ensures.pages ∙ c.in-Call.ensures.owned)
    (ap (effect_writes (step_writes t.machine (Some c.args.bank.now)))
    (its_effect t c.args.bank.now c.requires.fit.lengths.vl ∙ k.1.0))

pub returns-in-Raise-clause-owned : goal.returns-in-Raise-clause-owned
returns-in-Raise-clause-owned g c =
    let stop = c.stop_with in
    stops_owned _ c.args.self.now.machine.pages stop.new.self.machine.pages stop.result _ stop.ensures.answer
    (ap (λ (m : Machine). m.pages) stop.ensures.machine ∙ c.in-Raise.ensures.owned)

pub returns-in-NoRoom-clause-owned : goal.returns-in-NoRoom-clause-owned
returns-in-NoRoom-clause-owned g c =
    let stop = c.stop_with-in-NoRoom in
    stops_owned _ c.args.self.now.machine.pages stop.new.self.machine.pages stop.result _ stop.ensures.answer
    (ap (λ (m : Machine). m.pages) stop.ensures.machine ∙ c.in-NoRoom.ensures.owned)

pub returns-then-is_err-clause-turn : goal.returns-then-is_err-clause-turn
returns-then-is_err-clause-turn g c =
    let t = c.args.self.now in
    lacked _ _ _ (held_state t c.args.bank.now) (held_state c.lack.new.self c.args.bank.now) _ _ c.lack.result
    (c.lack.ensures.turn (bank_state c.args.bank.now)) (ap (with_vectors (bank_state c.args.bank.now)) c.lack.ensures.state)
    (made_nothing t.journal.items _ (c.lack.ensures.same.journal ∙ c.reserve.ensures.items)) (c.lack.ensures.stop ∙ c.requires.runs)

pub returns-then-is_err-clause-owned : goal.returns-then-is_err-clause-owned
returns-then-is_err-clause-owned g c =
    lacked_owns _ _ c.args.self.now.machine.pages c.lack.new.self.machine.pages c.lack.result
    (c.lack.ensures.turn (bank_state c.args.bank.now)) (ap (λ (m : Machine). m.pages) c.lack.ensures.machine)

pub returns-in-NeedsBank-clause-turn : goal.returns-in-NeedsBank-clause-turn
returns-in-NeedsBank-clause-turn g c =
    let t = c.args.self.now in
    let k =
    is_kept c.args.apart (vector_bytes c.args.bank.now.vectors.vl) (held_state t c.args.bank.now).core
    _ _ _ c.in-NeedsBank.ensures.effect in
    needed_so _ _ _ _ _ _ _ k.0 (ap (λ (p : ProcessorState). record (held_state t c.args.bank.now) { core = p }) k.1)
    (made_nothing t.journal.items _ c.reserve.ensures.items) c.requires.runs

pub returns-then-is_kept_from-clause-turn : goal.returns-then-is_kept_from-clause-turn
returns-then-is_kept_from-clause-turn g c =
    let t = c.args.self.now in
    let k =
    call_kept c.args.apart (vector_bytes c.args.bank.now.vectors.vl) (held_state t c.args.bank.now).core
    _ _ _ _ c.in-Call.ensures.effect in
    let same = k.1.1 in
    needed_so _ _ _ _ _ _ _
    (k.0 ∙ ap (λ (p : ProcessorState). c.args.apart && (slice_index p.scalars.x 8 == return_number)) (sym same)
    ∙ sym c.is_kept_from.ensures ∙ c.if-is_kept_from.true)
    (ap (λ (p : ProcessorState). record (held_state t c.args.bank.now) { core = p }) same)
    (made_nothing t.journal.items _ c.reserve.ensures.items) c.requires.runs

pub returns-else-is_kept_from-clause-turn : goal.returns-else-is_kept_from-clause-turn
returns-else-is_kept_from-clause-turn g c =
    let t = c.args.self.now in
    let k =
    call_kept c.args.apart (vector_bytes c.args.bank.now.vectors.vl) (held_state t c.args.bank.now).core
    _ _ _ _ c.in-Call.ensures.effect in
    let h = k.1 in
    let after = record (held_state t c.args.bank.now) { core = core_of c.step_apart.new.self (bank_state c.step_apart.new.bank) } in
    let chain = c.in-Call.ensures.gives.chain in
    unless_so _ _ _ _ _ _ _ _
    (k.0 ∙ ap (λ (p : ProcessorState). c.args.apart && (slice_index p.scalars.x 8 == return_number)) (sym h.1)
    ∙ sym c.is_kept_from.ensures ∙ c.if-is_kept_from.false)
    (subst (λ (r : Refusals). TurnsOver r (guest_instruction t c.args.bank.now) (held_state t c.args.bank.now)
    (held_state c.call.new.self c.call.new.bank) (guest_made t c.call.new.self) c.call.new.self.stop c.call.result)
    (λ i. g.P.Port.refuses (sym chain.0 i) (sym chain.1 i))
    (over_as _ _ _ _ _ _ _ _ _ c.call.result
    (executes_calls t.config t.number (guest_events t) (held_state t c.args.bank.now)
    (core_of c.step_apart.new.self (bank_state c.step_apart.new.bank)) _
    (its_effect t c.args.bank.now c.requires.fit.lengths.vl ∙ h.0) h.1
    ∙ ap (λ (l : List Event). call_of t.config t.number (t.earlier + length l) after (outside_streaming t.config after))
    (sym c.reserve.ensures.items))
    (ap (λ (p : ProcessorState). record (held_state t c.args.bank.now) { core = p }) (sym h.1))
    (ap (λ l. made_since l c.call.new.self.journal.items) (sym c.reserve.ensures.items)) c.call.ensures.turn))

pub returns-in-Memory-clause-turn : goal.returns-in-Memory-clause-turn
returns-in-Memory-clause-turn g c =
    let t = c.args.self.now in
    let k =
    not_kept c.args.apart (vector_bytes c.args.bank.now.vectors.vl) (held_state t c.args.bank.now).core
    _ _ _ end.Memory (λ e. cc) refl c.in-Memory.ensures.effect in
    unless_so _ _ _ _ _ _ _ _ k.0 (
      ap (λ (p : ProcessorState). record (held_state t c.args.bank.now) { core = p }) k.1.0,
      made_nothing t.journal.items _ c.reserve.ensures.items,
      c.requires.runs,
    )
