-- From the turns of the plain state to the answers of a context.
use Rattle.std.proofs.Common.{◌≡◌, ℕ, ◌+◌, ◌≤◌, ◌++◌, List, [], ◌∷◌, take, drop, length, Option, Some, ap, sym, ◌∙◌, arith}
use Rattle.std.proofs.lemmas.Grind.{common_steps}
use Rattle.std.proofs.lemmas.List.{take-append-drop, append-nil}
use Rattle.plain_lemmas.proofs.Lists.{take_length}
use Rattle.sm_types.specs.declared.stop.Stop.{Stop}
use Rattle.sm_types.specs.declared.config.Config.{Config}
use Rattle.sm_types.specs.declared.shared_op.Event.{Event}
use Rattle.shared_region.specs.Tickets.{Refusals}
use Rattle.kernel_contexts.specs.State.{State}
use Rattle.kernel_contexts.specs.Call.{TurnEnd, Ends}
use Rattle.kernel_contexts.specs.Turn.{turn_of}
use Rattle.kernel_contexts.specs.Context.{Turns, TurnsOver, GoesOn, made_since}
use Rattle.kernel_contexts.specs.declared.context.Turn.{Turn}
use Rattle.kernel_contexts.specs.declared.context.Turn.TheVariants.{Ran, Yielded, NeedsBank, Stopped, TraceEnds, TraceDiffers}
use Rattle.kernel_contexts.specs.declared.context.Turn.TheVariants.{Memory}
use Rattle.kernel_contexts.proofs.Turns.{goes_turned, yields_turned, asks_turned}

pub stops_so : (wants : Type 0) (end : TurnEnd) (old new : State) (stopped : Option Stop) (turn : Turn) (stop : Stop) → turn ≡ Stopped stop
    → end ≡ Ends new stop → stopped ≡ Some stop → Turns wants end old new stopped turn
stops_so wants end old new stopped turn stop answer ends is = rw answer (ends, is)

pub asked_turned : (config : Config) (thread events : ℕ) (old new : State) (refusals : Refusals) (made : List Event)
    → GoesOn refusals (turn_of config thread events old) new made → new.turns ≡ old.turns + 1
asked_turned config thread events old new refusals [] h = goes_turned config thread events old new h
asked_turned config thread events old new refusals (event ∷ []) h =
    asks_turned config thread events old new event.op h.next event.answer h.asks h.made
asked_turned config thread events old new refusals (event ∷ other ∷ made) h = absurd h

pub ran_turned : (config : Config) (thread events : ℕ) (old new : State) (refusals : Refusals) (made : List Event) (stopped : Option Stop)
    (turn : Turn) → TurnsOver refusals (turn_of config thread events old) old new made stopped turn → turn ≡ Ran
    → new.turns ≡ old.turns + 1
ran_turned config thread events old new refusals made stopped Ran h e = asked_turned config thread events old new refusals made h.0
ran_turned config thread events old new refusals made stopped Yielded h e = cc
ran_turned config thread events old new refusals made stopped (Stopped stop) h e = cc
ran_turned config thread events old new refusals made stopped NeedsBank h e = cc
ran_turned config thread events old new refusals made stopped TraceEnds h e = cc
ran_turned config thread events old new refusals made stopped TraceDiffers h e = cc
ran_turned config thread events old new refusals made stopped Memory h e = cc

pub yielded_turned : (config : Config) (thread events : ℕ) (old new : State) (refusals : Refusals) (made : List Event)
    (stopped : Option Stop) (turn : Turn) → TurnsOver refusals (turn_of config thread events old) old new made stopped turn
    → turn ≡ Yielded → new.turns ≡ old.turns + 1
yielded_turned config thread events old new refusals made stopped Ran h e = cc
yielded_turned config thread events old new refusals made stopped Yielded h e = yields_turned config thread events old new h.0
yielded_turned config thread events old new refusals made stopped (Stopped stop) h e = cc
yielded_turned config thread events old new refusals made stopped NeedsBank h e = cc
yielded_turned config thread events old new refusals made stopped TraceEnds h e = cc
yielded_turned config thread events old new refusals made stopped TraceDiffers h e = cc
yielded_turned config thread events old new refusals made stopped Memory h e = cc

-- a turn that asked nothing, over a port
pub asked_nothing : (wants : Type 0) (refusals : Refusals) (end : TurnEnd) (old new : State) (made : List Event)
    (stopped : Option Stop) (turn : Turn)
    → made ≡ [] → Turns wants end old new stopped turn → TurnsOver refusals end old new made stopped turn
asked_nothing wants refusals end old new made stopped Ran none h = (rw none h.0, h.1)
asked_nothing wants refusals end old new made stopped Yielded none h = (h.0, none, h.1)
asked_nothing wants refusals end old new made stopped (Stopped stop) none h = (h.0, none, h.1)
asked_nothing wants refusals end old new made stopped NeedsBank none h = absurd h
asked_nothing wants refusals end old new made stopped TraceEnds none h = absurd h
asked_nothing wants refusals end old new made stopped TraceDiffers none h = absurd h
asked_nothing wants refusals end old new made stopped Memory none h = (h.2, none, h.3)

-- the events at the end of a journal
pub made_events : (old new events : List Event) → new ≡ old ++ events → made_since old new ≡ events
made_events old new events is = rw is (grind (arith, common_steps))

pub made_nothing : (old new : List Event) → new ≡ old → made_since old new ≡ []
made_nothing old new is = made_events old new [] (is ∙ sym (append-nil old))

-- a journal that got some events
pub grown : (old new events : List Event) → new ≡ old ++ events → new ≡ old ++ made_since old new
grown old new events is = is ∙ ap (λ (l : List Event). old ++ l) (sym (made_events old new events is))

-- the bytes before a place stay, and those from it on are new
pub appended : (whole into before rest : List ℕ) (len old : ℕ) → take old into ≡ take old whole → length into ≡ len
    → take old whole ≡ before → take len (into ++ rest) ≡ before ++ drop old into
appended whole into before rest len old kept full is =
    ap (λ n. take n (into ++ rest)) (sym full) ∙ take_length into rest ∙ sym (take-append-drop old into)
    ∙ ap (λ l. l ++ drop old into) (kept ∙ is)

pub take_before : (before more : List ℕ) (n m : ℕ) → n ≡ length before → n ≤ m → take n (take m before ++ more) ≡ before
take_before before more n m e l = rw e (grind (arith, common_steps))
