-- How a turn on a context's own save area ends, over a port that refuses nothing but for want of memory.
use Rattle.std.proofs.Common.{◌≡◌, ◌≢◌, ◌∙◌, sym, subst}
use Rattle.std.proofs.lemmas.Option.{none-some}
use Rattle.std.specs.Prelude.{Option, Some, None}
use Rattle.sm_types.specs.declared.shared_op.SharedOp.{SharedOp}
use Rattle.sm_types.specs.declared.stop.Stop.{Stop}
use Rattle.shared_region.specs.Tickets.{Refusals, IsAllowed}
use Rattle.kernel_contexts.specs.Call.{TurnEnd, Goes, Yields, Asks, Ends}
use Rattle.kernel_contexts.specs.Context.{AsksFor, stop_of}
use Rattle.kernel_contexts.specs.Stance.{TurnsOrStays}
use Rattle.kernel_contexts.specs.declared.context.Context.{Context}
use Rattle.kernel_contexts.specs.declared.context.Turn.{Turn}
use Rattle.kernel_contexts.specs.declared.context.Turn.TheVariants.{Ran, Yielded, NeedsBank, Stopped, TraceEnds, TraceDiffers, Memory}

asks_nothing : (end : TurnEnd) (F : SharedOp → Type 0) → ((op : SharedOp) → F op → ⊥) → AsksFor end F → ⊥
asks_nothing (Goes s) F none h = h
asks_nothing (Yields s) F none h = h
asks_nothing (Asks op next) F none h = none op h
asks_nothing (Ends s stop) F none h = h

stopped-ends : (s : Stop) → Stopped s ≡ TraceEnds → ⊥
stopped-ends s e = cc

stopped-differs : (s : Stop) → Stopped s ≡ TraceDiffers → ⊥
stopped-differs s e = cc

stopped-needs : (s : Stop) → Stopped s ≡ NeedsBank → ⊥
stopped-needs s e = cc

pub stops_at : (o : Option Stop) (r : Refusals) (old new : Context) (turn : Turn) (s : Stop) → TurnsOrStays o r old new turn → turn ≡
    Stopped s
    → stop_of new ≢ None
stops_at None r old new Ran s h e = absurd (cc)
stops_at None r old new Yielded s h e = absurd (cc)
stops_at None r old new NeedsBank s h e = absurd h
stops_at None r old new (Stopped t) s h e = λ none. none-some t (sym (sym h.2 ∙ none))
stops_at None r old new TraceEnds s h e = absurd (cc)
stops_at None r old new TraceDiffers s h e = absurd (cc)
stops_at None r old new Memory s h e = absurd (cc)
stops_at (Some t) r old new turn s h e = λ none. none-some t (sym (sym h.3 ∙ none))

module _ (r : Refusals) (allowed : (op : SharedOp) → IsAllowed r op) (old new : Context) where
  pub goes : (o : Option Stop) (turn : Turn) → TurnsOrStays o r old new turn → turn ≢ TraceEnds
  goes None turn h e = asks_nothing _ _ (λ op x. (allowed op).0 x) (subst (TurnsOrStays None r old new) e h).0
  goes (Some t) turn h e = stopped-ends t (sym h.0 ∙ e)

  pub at_home : (o : Option Stop) (turn : Turn) → TurnsOrStays o r old new turn → turn ≢ NeedsBank
  at_home None turn h e = subst (TurnsOrStays None r old new) e h
  at_home (Some t) turn h e = stopped-needs t (sym h.0 ∙ e)

  pub agrees : (o : Option Stop) (turn : Turn) → TurnsOrStays o r old new turn → turn ≢ TraceDiffers
  agrees None turn h e = asks_nothing _ _ (λ op x. (allowed op).1 x) (subst (TurnsOrStays None r old new) e h).0
  agrees (Some t) turn h e = stopped-differs t (sym h.0 ∙ e)
