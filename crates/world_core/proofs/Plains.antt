-- A run of a core over plain words is the event of the world.
use Rattle.std.proofs.Common.{◌≡◌, Bool, true, false, ℕ, ◌-◌, ◌<◌, ◌≤◌, ◌++◌, List, [], ◌∷◌, length, refl, ap, sym, ◌∙◌, subst, arith}
use Rattle.std.proofs.Common.{Option, Some, None}
use Rattle.std.proofs.lemmas.List.{append-nil, length_push}
use Rattle.sm_types.specs.declared.shared_op.Event.{Event}
use Rattle.sm_types.specs.declared.shared_words.Entry.{Entry}
use Rattle.sm_types.specs.declared.stop.Stop.{Stop}
use Rattle.shared_region.specs.History.{IsLegal, entries_of}
use Rattle.shared_region.specs.Tickets.{Refusals}
use Rattle.kernel_contexts.specs.Call.{TurnEnd, Goes, Yields, Asks, Ends}
use Rattle.kernel_contexts.specs.Context.{AsksFor}
use Rattle.core_unit.specs.CoreState.{CoreState, with_done}
use Rattle.kernel_contexts.specs.Guest.{Guest}
use Rattle.core_unit.specs.Held.{Held}
use Rattle.core_unit.specs.Run.{RunsFirst, RunsWith, RunsCore, EndsBy, answers_of, is_stop, end_of, core_after}
use Rattle.core_unit.specs.declared.run.CoreRun.{CoreRun}
use Rattle.core_unit.specs.declared.run.RunWhy.{RunWhy}
use Rattle.core_unit.specs.declared.run.RunWhy.TheVariants as why
use Rattle.world_core.specs.Applies.{AppliesHere, IsOutcome, spends}
use Rattle.world_core.specs.Happens.{Scene, Outcome, on_core, run_of, after_service, moved, ran}
use Rattle.world_core.specs.Parts.{guests_in, scene_with}
use Rattle.world_core.specs.Serve.{Progress, Service, Going, GaveWay, HasStopped, serve, begins}
use Rattle.sm_types.specs.declared.world_event.WorldEvent.{WorldEvent}
use Rattle.sm_types.specs.declared.world_event.WorldEvent.TheVariants as event
use Rattle.world_core.specs.declared.event.Applied.{Applied}
use Rattle.world_core.specs.declared.event.Applied.TheVariants as applied
use Rattle.world_core.specs.declared.event.Why.TheVariants.{NoResident}
use Rattle.world_core.proofs.Serves.{serves_going, serves_way, serves_stop}

-- what a port over plain words refuses
abbrev pub nothing_refused : Refusals
nothing_refused = record { ends = λ op. ⊥; strays = λ op. ⊥; takes_memory = Unit {0} }

never : (end : TurnEnd) → AsksFor end (λ op. ⊥) → ⊥
never (Goes s) h = h
never (Yields s) h = h
never (Asks op next) h = h
never (Ends s stop) h = h

module _ (n k turns : ℕ) (g new : Guest) (others queue done : List Guest) (history : List Entry) (made : RunWhy)
    (h : RunsFirst nothing_refused k g new (record { turns = turns; why = made }))
    (legal : IsLegal (history ++ entries_of g.number (answers_of g new))) where
  abbrev before : Scene
  before = record { residents = g ∷ others; queue = queue; done = done; history = history }

  abbrev longer : List Entry
  longer = history ++ entries_of g.number (answers_of g new)

  abbrev on : Scene
  on = record { residents = new ∷ others; queue = queue; done = done; history = longer }

  abbrev out : Scene
  out = record { residents = others; queue = queue; done = done ++ new ∷ []; history = longer }

  abbrev after : Progress
  after = record { state = new.state; journal = g.journal ++ answers_of g new; history = longer }

  is_moved : (stop : Option Stop) → new.stop ≡ stop → moved g after stop ≡ new
  is_moved stop is =
      let program = sym h.program in
      let config = sym h.config in
      let number = sym h.number in
      let journal = sym h.journal in
      let stopped = sym is in
      λ i. record {
        program = program i;
        config = config i;
        number = number i;
        state = new.state;
        stop = stopped i;
        journal = journal i;
      }

  counts : new.state.turns - g.state.turns ≡ turns
  counts = omega (arith, h.turns)

  outcome : (m : ℕ) (service : Service) → serve g.config g.number (begins g.state g.stop g.journal history) m ≡ service
      → on_core (event.Run n m) before ≡ after_service before g others service
  outcome m service is = ap (after_service before g others) is

  stays : (reason : RunWhy) → new.stop ≡ None
      → ◌≡◌ {A = Outcome} (record {
        scene = record { residents = moved g after None ∷ others; queue = queue; done = done; history = longer };
        answer = ran g after reason;
      }) (record { scene = on; answer = applied.Ran (record { turns = turns; why = reason }) })
  stays reason stop =
      let m = is_moved None stop in
      let c = counts in
      λ i. record {
        scene = record { residents = m i ∷ others; queue = queue; done = done; history = longer };
        answer = applied.Ran (record { turns = c i; why = reason });
      }

  spent : EndsBy nothing_refused k g new turns (end_of why.Spent)
      → IsOutcome (event.Run n k) before on (applied.Ran (record { turns = turns; why = why.Spent }))
  spent e =
      outcome k (Going after) (serves_going g.config g.number g.state new.state g.stop g.journal history (answers_of g new) k _ legal e.0.0)
      ∙ stays why.Spent e.0.1

  yielded : EndsBy nothing_refused k g new turns (end_of why.Yielded)
      → IsOutcome (event.Run n k) before on (applied.Ran (record { turns = turns; why = why.Yielded }))
  yielded e =
      outcome k (GaveWay after) (serves_way g.config g.number g.state new.state g.stop g.journal history (answers_of g new) k _ legal e.0)
      ∙ stays why.Yielded e.1

  stopped : EndsBy nothing_refused k g new turns (end_of why.Stopped)
      → IsOutcome (event.Run n k) before out (applied.Ran (record { turns = turns; why = why.Stopped }))
  stopped e =
      let m = is_moved (Some e.0) e.2 in
      let c = counts in
      outcome k (HasStopped after e.0)
      (serves_stop g.config g.number g.state new.state g.stop g.journal history (answers_of g new) k _ legal e.0 e.1)
      ∙ (λ i. record {
        scene = record { residents = others; queue = queue; done = done ++ m i ∷ []; history = longer };
        answer = applied.Ran (record { turns = c i; why = why.Stopped });
      })

  wanting : EndsBy nothing_refused k g new turns (end_of why.Memory) → IsOutcome (event.Run n turns) before on (spends turns)
  wanting e =
      outcome turns (Going after)
      (serves_going g.config g.number g.state new.state g.stop g.journal history (answers_of g new) turns _ legal e.0.0)
      ∙ stays why.Spent e.0.1

-- where the first resident is after a run
abbrev scene_after : Scene → RunWhy → Guest → List Guest → List Entry → Scene
scene_after s why.Stopped new others longer =
    record { residents = others; queue = s.queue; done = s.done ++ new ∷ []; history = longer }
scene_after s _ new others longer =
    record { residents = new ∷ others; queue = s.queue; done = s.done; history = longer }

applies_by : (n k turns : ℕ) (g new : Guest) (others queue done : List Guest) (history : List Entry) (reason : RunWhy)
    → RunsFirst nothing_refused k g new (record { turns = turns; why = reason })
    → IsLegal (history ++ entries_of g.number (answers_of g new))
    → AppliesHere (event.Run n k) (record { residents = g ∷ others; queue = queue; done = done; history = history })
    (scene_after (record { residents = g ∷ others; queue = queue; done = done; history = history }) reason new others
    (history ++ entries_of g.number (answers_of g new))) (applied.Ran (record { turns = turns; why = reason }))
applies_by n k turns g new others queue done history why.Spent h l =
    spent n k turns g new others queue done history why.Spent h l h.end
applies_by n k turns g new others queue done history why.Yielded h l =
    yielded n k turns g new others queue done history why.Yielded h l h.end
applies_by n k turns g new others queue done history why.Stopped h l =
    stopped n k turns g new others queue done history why.Stopped h l h.end
applies_by n k turns g new others queue done history why.Idle h l = absurd h.end
applies_by n k turns g new others queue done history why.TraceEnds h l = absurd (never _ h.end.2)
applies_by n k turns g new others queue done history why.TraceDiffers h l = absurd (never _ h.end.2)
applies_by n k turns g new others queue done history why.Memory h l =
    (wanting n k turns g new others queue done history why.Memory h l h.end, h.end.1)

-- ---- a core in which no thread had stopped

module _ {T : Type 0} (queue base : List Guest) (history longer : List Entry) where
  stays_on : (last : Held T) (others : List (Held T)) (old : CoreState T) → old.done ≡ []
      → ◌≡◌ {A = Scene} (record { residents = guests_in (last ∷ others); queue = queue; done = base; history = longer })
      (record { residents = guests_in (last ∷ others); queue = queue; done = base ++ guests_in old.done; history = longer })
  stays_on last others old none =
      ap (λ (l : List Guest). record { residents = guests_in (last ∷ others); queue = queue; done = l; history = longer })
      (sym (append-nil base) ∙ ap (λ (l : List (Held T)). base ++ guests_in l) (sym none))

  scene_is : (reason : RunWhy) (residents : List Guest) (last : Held T) (others : List (Held T)) (old : CoreState T) → old.done ≡ []
      → scene_after (record { residents = residents; queue = queue; done = base; history = history }) reason last.guest
      (guests_in others) longer
      ≡ scene_with (core_after (is_stop reason) last others old) queue
      (base ++ guests_in (core_after (is_stop reason) last others old).done) longer
  scene_is why.Stopped residents last others old none =
      ap (λ (l : List (Held T)). record {
        residents = guests_in others;
        queue = queue;
        done = base ++ guests_in (l ++ last ∷ []);
        history = longer;
      }) (sym none)
  scene_is why.Spent residents last others old none = stays_on last others old none
  scene_is why.Yielded residents last others old none = stays_on last others old none
  scene_is why.Idle residents last others old none = stays_on last others old none
  scene_is why.TraceEnds residents last others old none = stays_on last others old none
  scene_is why.TraceDiffers residents last others old none = stays_on last others old none
  scene_is why.Memory residents last others old none = stays_on last others old none

  few_done : (stop : Bool) (last : Held T) (others : List (Held T)) (old : CoreState T) → old.done ≡ []
      → length (core_after stop last others old).done ≤ 1
  few_done true last others old none =
      let e = ap (λ (l : List (Held T)). length (l ++ last ∷ [])) none in omega (arith, e)
  few_done false last others old none = let e = ap (λ (l : List (Held T)). length l) none in omega (arith, e)

  module _ (gives : ℕ → List Event → T → T → Type 0) (k : ℕ) (old mid : CoreState T) (run : CoreRun) (none : old.done ≡ [])
      (grows : (thread : ℕ) (events : List Event) (t u : T) → gives thread events t u
      → longer ≡ history ++ entries_of thread events) (legal : IsLegal longer) where
    with_residents : (n : ℕ) (hs : List (Held T)) → old.residents ≡ hs → 0 < length hs
        → RunsWith (λ t. nothing_refused) gives k hs old mid run
        → AppliesHere (event.Run n k) (scene_with old queue base history) (scene_with mid queue (base ++ guests_in mid.done) longer)
        (applied.Ran run) × (length mid.done ≤ 1)
    with_residents n [] is some h = absurd (omega (arith, some))
    with_residents n (first ∷ others) is some h =
        let last = h.0 in
        let e = grows first.guest.number _ first.ticket last.ticket h.1.given in
        let before : List (Held T) → Scene = λ hs. record { residents = guests_in hs; queue = queue; done = base; history = history } in
        let same = ap (λ (l : List Entry). scene_after (before (first ∷ others)) run.why last.guest (guests_in others) l) (sym e)
        ∙ scene_is run.why (guests_in (first ∷ others)) last others old none
        ∙ ap (λ (c : CoreState T). scene_with c queue (base ++ guests_in c.done) longer) (sym h.2) in (
          subst (λ (hs : List (Held T)). AppliesHere (event.Run n k) (before hs)
              (scene_with mid queue (base ++ guests_in mid.done) longer) (applied.Ran run)) (sym is)
              (subst (λ (s : Scene). AppliesHere (event.Run n k) (before (first ∷ others)) s (applied.Ran run)) same
              (applies_by n k run.turns first.guest last.guest (guests_in others) queue base history run.why h.1.first
              (subst IsLegal e legal))),
          subst (λ (c : CoreState T). length c.done ≤ 1) (sym h.2) (few_done (is_stop run.why) last others old none),
        )

    pub core_applies : (n : ℕ) → 0 < length old.residents → RunsCore (λ t. nothing_refused) gives k old mid run
        → AppliesHere (event.Run n k) (scene_with old queue base history) (scene_with mid queue (base ++ guests_in mid.done) longer)
        (applied.Ran run)
    core_applies n some h = (with_residents n old.residents refl some h).0

    pub done_few : 0 < length old.residents → RunsCore (λ t. nothing_refused) gives k old mid run → length mid.done ≤ 1
    done_few some h = (with_residents 0 old.residents refl some h).1

-- the options and the number of a core stay
same_config : {T : Type 0} (stop : Bool) (last : Held T) (others : List (Held T)) (old : CoreState T)
    → (core_after stop last others old).config ≡ old.config
same_config true last others old = refl
same_config false last others old = refl

pub run_config : {T : Type 0} (refusals : T → Refusals) (gives : ℕ → List Event → T → T → Type 0) (k : ℕ) (old mid : CoreState T)
    (run : CoreRun) → RunsCore refusals gives k old mid run → mid.config ≡ old.config
run_config {T} refusals gives k old mid run h = with_residents old.residents h where
  with_residents : (hs : List (Held T)) → RunsWith refusals gives k hs old mid run → mid.config ≡ old.config
  with_residents [] r = ap (λ (c : CoreState T). c.config) r.1
  with_residents (first ∷ others) r =
      ap (λ (c : CoreState T). c.config) r.2 ∙ same_config (is_stop run.why) r.0 others old

same_number : {T : Type 0} (stop : Bool) (last : Held T) (others : List (Held T)) (old : CoreState T)
    → (core_after stop last others old).number ≡ old.number
same_number true last others old = refl
same_number false last others old = refl

pub run_number : {T : Type 0} (refusals : T → Refusals) (gives : ℕ → List Event → T → T → Type 0) (k : ℕ) (old mid : CoreState T)
    (run : CoreRun) → RunsCore refusals gives k old mid run → mid.number ≡ old.number
run_number {T} refusals gives k old mid run h = with_residents old.residents h where
  with_residents : (hs : List (Held T)) → RunsWith refusals gives k hs old mid run → mid.number ≡ old.number
  with_residents [] r = ap (λ (c : CoreState T). c.number) r.1
  with_residents (first ∷ others) r =
      ap (λ (c : CoreState T). c.number) r.2 ∙ same_number (is_stop run.why) r.0 others old

-- the last one of at most one
pub only_one : {T : Type 0} (mid final : List (Held T)) (x : Held T) → length mid ≤ 1 → mid ≡ final ++ x ∷ [] → final ≡ []
only_one mid [] x l is = refl
only_one mid (y ∷ ys) x l is = let n = ap (λ l. length l) is ∙ length_push (y ∷ ys) x in absurd (omega (arith, l, n))

pub run_none : {T : Type 0} (old : CoreState T) (queue base : List Guest) (history : List Entry) (n k : ℕ) → old.residents ≡ []
    → AppliesHere (event.Run n k) (scene_with old queue base history) (scene_with old queue base history)
    (applied.NotEnabled NoResident)
run_none {T} old queue base history n k none =
    ap (λ (hs : List (Held T)). run_of k (scene_with old queue base history) (guests_in hs)) none

-- ---- where the core's stopped thread is taken out

module _ {T : Type 0} (queue base all : List Guest) (longer : List Entry) (mid new : CoreState T) (e : WorldEvent) (old : Scene)
    (answer : Applied) (applies : AppliesHere e old (scene_with mid queue (base ++ guests_in mid.done) longer) answer) where
  pub taken_so : (h : Held T) → length mid.done ≤ 1 → mid ≡ with_done h new → all ≡ base ++ h.guest ∷ []
      → AppliesHere e old (scene_with new queue all longer) answer
  taken_so h few taken last =
      let none : new.done ≡ [] = only_one mid.done new.done h few (ap (λ (c : CoreState T). c.done) taken) in
      let same : scene_with mid queue (base ++ guests_in mid.done) longer ≡ scene_with new queue all longer =
      ap (λ (c : CoreState T). scene_with c queue (base ++ guests_in c.done) longer) taken
      ∙ ap (λ (l : List (Held T)). scene_with new queue (base ++ guests_in (l ++ h ∷ [])) longer) none
      ∙ ap (λ (l : List Guest). scene_with new queue l longer) (sym last) in
      subst (λ (s : Scene). AppliesHere e old s answer) same applies

  pub none_taken : mid.done ≡ [] → new ≡ mid → all ≡ base → AppliesHere e old (scene_with new queue all longer) answer
  none_taken none stays same =
      let is : scene_with mid queue (base ++ guests_in mid.done) longer ≡ scene_with new queue all longer =
      ap (λ (l : List (Held T)). scene_with mid queue (base ++ guests_in l) longer) none
      ∙ ap (λ (l : List Guest). scene_with mid queue l longer) (append-nil base ∙ sym same)
      ∙ ap (λ (c : CoreState T). scene_with c queue all longer) (sym stays) in
      subst (λ (s : Scene). AppliesHere e old s answer) is applies
