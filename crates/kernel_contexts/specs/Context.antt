-- What a context is, and what its turns are.
use Rattle.std.specs.Prelude.{◌≡◌, ℕ, Bool, true, false, cond, not, List, [], ◌∷◌, ◌++◌, ◌<◌}
use Rattle.std.specs.Prelude.{Option, Some, None, length, drop}
use Rattle.std.specs.Prelude.{vec_len, vec_capacity}
use Rattle.sm_types.specs.declared.config.Config.{Config}
use Rattle.sm_types.specs.declared.shared_op.SharedOp.{SharedOp}
use Rattle.sm_types.specs.declared.shared_op.Event.{Event}
use Rattle.sm_types.specs.declared.stop.Stop.{Stop}
use Rattle.shared_region.specs.declared.port.PortStop.{PortStop}
use Rattle.shared_region.specs.declared.port.PortStop.TheVariants as stop
use Rattle.shared_region.specs.Tickets.{Refusals, IsCause, IsAllowed}
use Rattle.paged_memory.specs.Image.{Program}
use Rattle.paged_memory.specs.PageTable.{PageTable}
use Rattle.mem_access.specs.Bank.{bank_state}
use Rattle.mem_access.specs.declared.bank.Bank.{Bank}
use Rattle.machine_step.specs.ProcessorState.{VectorState}
use Rattle.machine_step.specs.declared.machine.Machine.{Machine}
use Rattle.kernel_contexts.specs.State.{State}
pub use Rattle.kernel_contexts.specs.GuestThread.{guest_state, held_state, bare_state, guest_events}
use Rattle.kernel_contexts.specs.SaveArea.{HasLengths, IsFit}
use Rattle.kernel_contexts.specs.Needs.{needs_vectors}
use Rattle.kernel_contexts.specs.Wanting.{TurnWants}
pub use Rattle.kernel_contexts.specs.Owner.{owns}
use Rattle.kernel_contexts.specs.Standing.{IsRunOf}
use Rattle.kernel_contexts.specs.Call.{TurnEnd, Goes, Yields, Asks, Ends, call_of}
use Rattle.kernel_contexts.specs.Turn.{turn_of, instruction_of, outside_streaming}
use Rattle.kernel_contexts.specs.declared.guest.GuestThread.{GuestThread}
use Rattle.kernel_contexts.specs.declared.context.Context.{Context}
use Rattle.kernel_contexts.specs.declared.context.Turn.{Turn}
use Rattle.kernel_contexts.specs.declared.context.Turn.TheVariants.{Ran, Yielded, NeedsBank, Stopped, TraceEnds}
use Rattle.kernel_contexts.specs.declared.context.Turn.TheVariants.{TraceDiffers}
use Rattle.kernel_contexts.specs.declared.context.Turn.TheVariants.{Memory}

-- the plain state of a context with a bank
abbrev pub state_with : Context → VectorState → State
state_with c bank = guest_state c.guest bank

-- its save area
abbrev pub save_area_of : Context → Bank
save_area_of c = c.save_area

-- the vectors that a context keeps in it
abbrev pub bank_of : Context → VectorState
bank_of c = bank_state (save_area_of c)

-- the plain state of a context
abbrev pub state_of : Context → State
state_of c = state_with c (bank_of c)

-- its registers and pages
abbrev pub machine_of : Context → Machine
machine_of c = c.guest.machine

-- the program from which it started
abbrev pub image_of : Context → Program
image_of c = c.image

-- the options with which it started
abbrev pub config_of : Context → Config
config_of c = c.guest.config

-- its journal
abbrev pub journal_of : Context → List Event
journal_of c = c.guest.journal.items

-- the thread's number
abbrev pub thread_of : Context → ℕ
thread_of c = c.guest.number

-- why it stopped, if it has
abbrev pub stop_of : Context → Option Stop
stop_of c = c.guest.stop

-- its vectors and ZA are in its save area
abbrev pub is_home : Context → Bool
is_home c = c.home

-- a context is a run of its image with these vectors: its state and its stop are those to which its turns
-- come over its journal
abbrev pub IsRunWith : Context → VectorState → Type 0
IsRunWith c vectors =
    IsRunOf (image_of c) (config_of c) (thread_of c) (journal_of c) (state_with c vectors) (stop_of c)

-- and with those of its save area
abbrev pub IsRun : Context → Type 0
IsRun c = IsRunWith c (bank_of c)

-- ---- a context and the bank of a core

-- the vectors of a context: those in the bank where its thread owns that, else those of its save area
abbrev pub vectors_on : Context → Bank → VectorState
vectors_on c bank = cond (owns bank (thread_of c)) (bank_state bank) (bank_of c)

-- the bank in which they are
abbrev pub bank_with : Context → Bank → Bank
bank_with c bank = cond (owns bank (thread_of c)) bank (save_area_of c)

-- the plain state of a context, whose vectors are in one of the two
abbrev pub state_on : Context → Bank → State
state_on c bank = state_with c (vectors_on c bank)

-- the bank of a core has the lengths of the context's options, and the context's vectors are in it exactly
-- where they are not home: then its thread owns the bank, which is in the mode of its machine, and the
-- context with the bank is a run of its image
pub record IsOn (c : Context) (bank : Bank) : Type 0 where
  pub lengths : HasLengths (config_of c) bank
  pub place : is_home c ≡ not (owns bank (thread_of c))
  pub fit : owns bank (thread_of c) ≡ true → IsFit (config_of c) (machine_of c) bank
  pub run : owns bank (thread_of c) ≡ true → IsRunWith c (bank_state bank)

-- the thread would go on, or the turn asks an operation of a port that takes memory where this holds; so no
-- stop and no yield is told as want of memory
abbrev pub GoesOrAsks : Type 0 → TurnEnd → Type 0
GoesOrAsks takes_memory (Goes s) = Unit {0}
GoesOrAsks takes_memory (Yields s) = ⊥
GoesOrAsks takes_memory (Asks op next) = takes_memory
GoesOrAsks takes_memory (Ends s stop) = ⊥

-- the answer of a turn that asks no operation, of a thread that had not stopped, and the state and the stop
-- after it, are those of the turn; want of memory comes where this holds and the thread would go on, and
-- changes nothing
abbrev pub Turns : Type 0 → TurnEnd → State → State → Option Stop → Turn → Type 0
Turns wants end old new stopped Ran = (end ≡ Goes new) × (stopped ≡ None)
Turns wants end old new stopped Yielded = (end ≡ Yields new) × (stopped ≡ None)
Turns wants end old new stopped (Stopped stop) = (end ≡ Ends new stop) × (stopped ≡ Some stop)
Turns wants end old new stopped NeedsBank = ⊥
Turns wants end old new stopped TraceEnds = ⊥
Turns wants end old new stopped TraceDiffers = ⊥
Turns wants end old new stopped Memory = wants × GoesOrAsks ⊥ end × (new ≡ old) × (stopped ≡ None)

-- the turn asks an operation, of which this holds
abbrev pub AsksFor : TurnEnd → (SharedOp → Type 0) → Type 0
AsksFor (Goes s) holds = ⊥
AsksFor (Yields s) holds = ⊥
AsksFor (Asks op next) holds = holds op
AsksFor (Ends s stop) holds = ⊥

-- the turn asks the operation of the event, which the port did not refuse, and the state is that for the
-- answer
pub record IsAnsweredTurn (refusals : Refusals) (end : TurnEnd) (new : State) (event : Event) : Type 0 where
  pub next : ℕ → State
  pub asks : end ≡ Asks event.op next
  pub made : new ≡ next event.answer
  pub goes : IsAllowed refusals event.op

-- a turn that goes on, with the events that it made: none, or one
abbrev pub GoesOn : Refusals → TurnEnd → State → List Event → Type 0
GoesOn refusals end new [] = end ≡ Goes new
GoesOn refusals end new (event ∷ []) = IsAnsweredTurn refusals end new event
GoesOn refusals end new (event ∷ other ∷ events) = ⊥

-- the port refused the operation of a turn, for this reason, and nothing has changed
abbrev pub IsRefused : Refusals → TurnEnd → State → State → List Event → Option Stop → PortStop → Type 0
IsRefused refusals end old new made stopped why =
    AsksFor end (λ op. IsCause refusals op why) × (new ≡ old) × (made ≡ []) × (stopped ≡ None)

-- the answer of a turn of a thread that had not stopped, the state, the events that it made and the stop
-- after it, are those of the turn; what a port refuses, and want of memory, change nothing
abbrev pub TurnsOver :
    Refusals → TurnEnd → State → State → List Event → Option Stop → Turn → Type 0
TurnsOver refusals end old new made stopped Ran = GoesOn refusals end new made × (stopped ≡ None)
TurnsOver refusals end old new made stopped Yielded = (end ≡ Yields new) × (made ≡ []) × (stopped ≡ None)
TurnsOver refusals end old new made stopped (Stopped stop) =
    (end ≡ Ends new stop) × (made ≡ []) × (stopped ≡ Some stop)
TurnsOver refusals end old new made stopped NeedsBank = ⊥
TurnsOver refusals end old new made stopped TraceEnds =
    IsRefused refusals end old new made stopped stop.TraceEnds
TurnsOver refusals end old new made stopped TraceDiffers =
    IsRefused refusals end old new made stopped stop.TraceDiffers
TurnsOver refusals end old new made stopped Memory = (new ≡ old) × (made ≡ []) × (stopped ≡ None)

-- a turn on the bank of a core, which the thread owns or not: where it does not, and the turn needs the
-- thread's vectors, the answer is that, and nothing has changed
abbrev pub TurnsUnless :
    Bool → Refusals → TurnEnd → State → State → List Event → Option Stop → Turn → Type 0
TurnsUnless true refusals end old new made stopped turn =
    (turn ≡ NeedsBank) × (new ≡ old) × (made ≡ []) × (stopped ≡ None)
TurnsUnless false refusals end old new made stopped turn = TurnsOver refusals end old new made stopped turn

-- the events at the end of a journal that were not in it before
abbrev pub made_since : List Event → List Event → List Event
made_since old new = drop (length old) new

-- the events that a guest thread made
abbrev pub guest_made : GuestThread → GuestThread → List Event
guest_made old new = made_since old.journal.items new.journal.items

-- the answer of a guest thread's turn, its state, the events that it made and its stop are those of the turn
abbrev pub GuestTurns :
    Refusals → TurnEnd → GuestThread → Bank → GuestThread → Bank → Turn → Type 0
GuestTurns refusals end old before new after turn =
    TurnsOver refusals end (held_state old before) (held_state new after) (guest_made old new) new.stop turn

-- or the turn is not made, since it needs the thread's vectors and is kept off them
abbrev pub GuestTurnsUnless :
    Bool → Refusals → TurnEnd → GuestThread → Bank → GuestThread → Bank → Turn → Type 0
GuestTurnsUnless kept refusals end old before new after turn =
    TurnsUnless kept refusals end (held_state old before) (held_state new after) (guest_made old new) new.stop
    turn

-- there is no memory for its event
abbrev pub LacksUnless : Bool → Turn → Type 0
LacksUnless true turn = turn ≡ NeedsBank
LacksUnless false turn = turn ≡ Memory

-- the turn of a guest thread, on a bank
abbrev pub guest_turn : GuestThread → Bank → TurnEnd
guest_turn g bank = turn_of g.config g.number (guest_events g) (held_state g bank)

-- its journal's list has a place that is not used
abbrev pub HasFreePlace : GuestThread → Type 0
HasFreePlace g = vec_len g.journal < vec_capacity g.journal

-- its call of the kernel, before which it leaves Streaming SVE mode
abbrev pub guest_call : GuestThread → Bank → TurnEnd
guest_call g bank =
    call_of g.config g.number (guest_events g) (held_state g bank)
    (outside_streaming g.config (held_state g bank))

-- the instruction that it executes
abbrev pub guest_instruction : GuestThread → Bank → TurnEnd
guest_instruction g bank = instruction_of g.config g.number (guest_events g) (held_state g bank)

-- a turn that asks nothing, of a guest thread and a bank before and after
abbrev pub Takes : Type 0 → TurnEnd → GuestThread → Bank → GuestThread → Bank → Turn → Type 0
Takes wants end old before new after turn =
    Turns wants end (held_state old before) (held_state new after) new.stop turn

-- the turn of a context with these vectors
abbrev pub turn_with : Context → VectorState → TurnEnd
turn_with c vectors = turn_of (config_of c) (thread_of c) (length (journal_of c)) (state_with c vectors)

-- and with those of its save area
abbrev pub turn_at : Context → TurnEnd
turn_at c = turn_with c (bank_of c)

-- the pages of its thread
abbrev pub pages_of : Context → PageTable
pages_of c = c.guest.machine.pages

-- the list of a context's journal has a place that is not used
abbrev pub IsPlaceFree : Context → Type 0
IsPlaceFree c = HasFreePlace c.guest

-- for the turn of a context, with its vectors in this bank, memory may be wanting; the port takes memory
-- where this holds
abbrev pub MayWantMemory : Type 0 → Context → Bank → Type 0
MayWantMemory takes_memory c bank = TurnWants (IsPlaceFree c) takes_memory c.guest bank

-- the events that a context made
abbrev pub made_by : Context → Context → List Event
made_by old new = made_since (journal_of old) (journal_of new)

-- the turn of a context on the bank of a core needs that bank: its thread does not own it, and the turn reads
-- or writes vectors
abbrev pub needs_bank_on : Context → Bank → Bool
needs_bank_on c bank =
    cond (owns bank (thread_of c)) false (needs_vectors (config_of c) (state_on c bank))

-- the options and the number of a guest thread are those of its start, and where it began stays
pub record IsSameGuest (old new : GuestThread) : Type 0 where
  pub config : new.config ≡ old.config
  pub number : new.number ≡ old.number
  pub earlier : new.earlier ≡ old.earlier
  pub begun : new.begun ≡ old.begun

-- and its journal grows by the events that it made, which a port gave it
pub record Grows (gives : ℕ → List Event → Type 0) (old new : GuestThread) : Type 0 where
  pub same : IsSameGuest old new
  pub journal : new.journal.items ≡ old.journal.items ++ guest_made old new
  pub given : gives old.number (guest_made old new)

-- or its journal is the same
pub record IsQuietGuest (old new : GuestThread) : Type 0 where
  pub config : new.config ≡ old.config
  pub number : new.number ≡ old.number
  pub earlier : new.earlier ≡ old.earlier
  pub begun : new.begun ≡ old.begun
  pub journal : new.journal.items ≡ old.journal.items

-- the options, the thread and the image of a context are those of its start
pub record IsSameThread (old new : Context) : Type 0 where
  pub config : config_of new ≡ config_of old
  pub thread : thread_of new ≡ thread_of old
  pub image : image_of new ≡ image_of old
