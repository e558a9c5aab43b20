-- Of each fact that a session keeps there is one proof at most, as its type asks of what it keeps.
use Rattle.std.specs.Prelude.{◌≡◌, ◌≢◌, ℕ, ◌<◌, List, Option}
use Rattle.std.specs.Coded.{Coded, coded_ℕ}
use Rattle.std.specs.FinMap.{FinMap}
use Rattle.std.specs.FinMap as map
use Rattle.std.specs.Ordering.{nat_cmp}
use Rattle.std.proofs.Common.{◌∙◌, ap, subst, inl, inr}
use Rattle.std.proofs.lemmas.Bool.{cases_order}
use Rattle.sm_types.specs.declared.stop.Stop.{Stop}
use Rattle.shared_region.specs.Ports.{ReplayEvents}
use Rattle.kernel_contexts.specs.State.{State}
use Rattle.kernel_contexts.specs.Run.{Reached}
use Rattle.kernel_contexts.specs.declared.loose.Loose.{Loose}
use Rattle.lone_runner.specs.Parting.{state_at}
use Rattle.kept_states.specs.declared.kept.KeptState.{KeptState}
use Rattle.sme_debugger.specs.Recording.{Recording, Shows, reached_by, counts_by}
use Rattle.sme_debugger.specs.Standing.{IsPlace, IsOnRun, AreOnRun, IsStanding, IsShowing}
use denote.Struct.Props.{props}

map_code : Coded (FinMap nat_cmp ℕ)
map_code = map.code coded_ℕ coded_ℕ

Reached-set : IsSet Reached
Reached-set = Prim.hlevel (map_code, props)

State-set : IsSet State
State-set = Prim.hlevel (map_code, props)

IsPlace-prop : (r : Recording) (count : ℕ) (s : State) (used : ℕ) → IsProp (IsPlace r count s used)
IsPlace-prop r count s used = Prim.hlevel (Reached-set, map_code, props)

pub IsOnRun-prop : (r : Recording) (k : KeptState) → IsProp (IsOnRun r k)
IsOnRun-prop r k = Prim.hlevel (IsPlace-prop r, map_code, props)

pub AreOnRun-prop : (r : Recording) (kept : List KeptState) → IsProp (AreOnRun r kept)
AreOnRun-prop r kept = Prim.hlevel (IsOnRun-prop r)

-- the state that is shown is so after one number of turns alone
record IsShownAfter (r : Recording) (count : ℕ) (s : State) (turns : ℕ) : Type 0 where
  reached : state_at (reached_by r turns) ≡ s
  counts : s.count ≡ count
  first : (earlier : ℕ) → earlier < turns → counts_by r earlier ≢ count

IsShownAfter-prop : (r : Recording) (count : ℕ) (s : State) (turns : ℕ)
    → IsProp (IsShownAfter r count s turns)
IsShownAfter-prop r count s turns = Prim.hlevel (State-set, map_code, props)

after : (r : Recording) (count : ℕ) (s : State) (h : Shows r count s) → IsShownAfter r count s h.turns
after r count s h = record { reached = h.reached; counts = h.counts; first = h.first }

shown : (r : Recording) (count : ℕ) (s : State) (turns : ℕ) → IsShownAfter r count s turns → Shows r count s
shown r count s turns h = record { turns = turns; reached = h.reached; counts = h.counts; first = h.first }

same_turns : (r : Recording) (count : ℕ) (s : State) (h k : Shows r count s) → h.turns ≡ k.turns
same_turns r count s h k = elim (cases_order h.turns k.turns) [
  | inl same ↦ same
  | inr (inl less) ↦ absurd (k.first h.turns less (ap (λ (t : State). t.count) h.reached ∙ h.counts))
  | inr (inr more) ↦ absurd (h.first k.turns more (ap (λ (t : State). t.count) k.reached ∙ k.counts))
]

one_shown : (r : Recording) (count : ℕ) (s : State) (t u : ℕ) → t ≡ u → (h : IsShownAfter r count s t)
    (k : IsShownAfter r count s u) → shown r count s t h ≡ shown r count s u k
one_shown r count s t u p h =
    subst (λ v. (k : IsShownAfter r count s v) → shown r count s t h ≡ shown r count s v k) p
    (λ k. ap (shown r count s t) (IsShownAfter-prop r count s t h k))

Shows-prop : (r : Recording) (count : ℕ) (s : State) → IsProp (Shows r count s)
unfolding shown after
Shows-prop r count s h k = one_shown r count s h.turns k.turns (same_turns r count s h k) (after r count s h)
    (after r count s k)

IsStanding-prop : (r : Recording) (count : ℕ) (loose : Loose) (stop : Option Stop) (ticket : ReplayEvents)
    → IsProp (IsStanding r count loose stop ticket)
IsStanding-prop r count loose stop ticket = Prim.hlevel (Shows-prop r, IsPlace-prop r, map_code, props)

pub IsShowing-prop : (r : Recording) (shown : Option ℕ) (loose : Loose) (stop : Option Stop)
    (ticket : ReplayEvents) → IsProp (IsShowing r shown loose stop ticket)
IsShowing-prop r shown loose stop ticket = Prim.hlevel (IsStanding-prop r)
