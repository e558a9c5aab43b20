-- The serial events of a world are the events of rounds, and the events of rounds are the serial events.
use Rattle.std.proofs.Common.{◌≡◌, ℕ, zero, suc, ◌<◌, ◌≤◌, ◌++◌, Bool, true, false, cond, List, [], ◌∷◌, length, refl, ap, sym, ◌∙◌}
use Rattle.std.proofs.Common.{subst, arith, append_assoc, Option, Some, None, ◌⊎◌, inl, inr}
use Rattle.std.specs.Prelude.{slice_get, slice_set, nat_lt, nat_le, ◌&&◌}
use Rattle.std.proofs.lemmas.Bool.Decides.{nat_tests}
use Rattle.std.proofs.lemmas.List.{length_push}
use Rattle.std.proofs.lemmas.Option.{none-some}
use Rattle.std.proofs.lemmas.Bool.{ltb-true, and_parts}
use Rattle.sm_types.specs.declared.config.Config.{Config}
use Rattle.paged_memory.specs.Image.{Program}
use Rattle.core_unit.specs.CoreState.{places}
use Rattle.kernel_contexts.specs.Guest.{Guest}
use Rattle.core_unit.specs.declared.run.RunWhy.{RunWhy}
use Rattle.core_unit.specs.declared.run.RunWhy.TheVariants as why
use Rattle.world_core.specs.Happens.{Scene, happens, happens_on, next_of, fetched, offer_of, run_of, after_service}
use Rattle.world_core.specs.Happens.{refused, with_scene, scene_of, world_after}
use Rattle.world_core.specs.Rounds.{queued, resident, CanFill, IsFilled, fetching, slice_run, IsGivingWay, ByOffer, ByNext, Stays}
use Rattle.world_core.specs.Rounds.{FollowRun}
use Rattle.world_core.specs.Rounds.{IsRound, RoundsLead, events_of_rounds, AreRounds}
use Rattle.world_core.specs.Serial.{residents_at, event_in, serial_event, phase_by, phase_after, LeadSerially, AreSerial}
use Rattle.world_core.specs.Serve.{Service, Going, GaveWay, HasStopped, serve, begins}
use Rattle.world_core.specs.World.{World, start_world, threads_of}
use Rattle.sm_types.specs.declared.world_event.WorldEvent.{WorldEvent}
use Rattle.sm_types.specs.declared.world_event.WorldEvent.TheVariants.{Run, Next, Fetch, Offer}
use Rattle.world_core.specs.declared.event.Applied.{Applied}
use Rattle.world_core.specs.declared.event.Applied.TheVariants as applied
use Rattle.world_core.specs.declared.event.Why.TheVariants.{CoreFull}
use Rattle.world_core.specs.declared.serial.Phase.{Phase}
use Rattle.world_core.specs.declared.serial.Phase.TheVariants.{Fills, GivesWay}
use Rattle.world_core.proofs.Serials.{HasCore, has_core, some_of, none_comes, comes_in, on_core_0, all_done}
use Rattle.world_core.proofs.UnderWay.{start_core}

-- ---- which event comes

-- that which fills core 0 or runs it, with so many threads in the queue and resident
data Filling (slice queue residents : ℕ) (e : WorldEvent) : Type 0 where
  Fetches : 0 < queue → residents < places → e ≡ Fetch 0 → Filling slice queue residents e
  Runs : (queue ≡ 0) ⊎ (places ≤ residents) → 0 < residents → e ≡ Run 0 slice → Filling slice queue residents e

filled_test : (queue residents : ℕ) → (nat_lt 0 queue && nat_lt residents places) ≡ false → (queue ≡ 0) ⊎ (places ≤ residents)
filled_test queue residents test = by (nat_lt 0 queue) refl test where
  by : (some : Bool) → nat_lt 0 queue ≡ some → (some && nat_lt residents places) ≡ false → (queue ≡ 0) ⊎ (places ≤ residents)
  by true is h = inr (grind (arith, nat_tests))
  by false is h = inl (grind (arith, nat_tests))

runs_in : (slice queue residents : ℕ) (e : WorldEvent) (some : Bool) → (queue ≡ 0) ⊎ (places ≤ residents) → nat_lt 0 residents ≡ some
    → cond some (Some (Run 0 slice)) None ≡ Some e → Filling slice queue residents e
runs_in slice queue residents e true full test is = Runs full (ltb-true 0 residents test) (some_of (Run 0 slice) e is)
runs_in slice queue residents e false full test is = absurd (none-some e is)

fills_in : (slice queue residents : ℕ) (e : WorldEvent) (fetch : Bool) → (nat_lt 0 queue && nat_lt residents places) ≡ fetch
    → cond fetch (Some (Fetch 0)) (cond (nat_lt 0 residents) (Some (Run 0 slice)) None) ≡ Some e → Filling slice queue residents e
fills_in slice queue residents e true test is =
    let parts = and_parts (nat_lt 0 queue) (nat_lt residents places) test in
    Fetches (ltb-true 0 queue parts.0) (ltb-true residents places parts.1) (some_of (Fetch 0) e is)
fills_in slice queue residents e false test is =
    runs_in slice queue residents e (nat_lt 0 residents) (filled_test queue residents test) refl is

filling_of : (w : World) (e : WorldEvent) → serial_event w Fills ≡ Some e → Filling w.config.slice (queued w) (resident w) e
filling_of w e is = fills_in w.config.slice (queued w) (resident w) e (nat_lt 0 (queued w) && nat_lt (resident w) places) refl is

-- that which gives way, or fills and runs where nothing gives way
data Giving (slice queue residents : ℕ) (e : WorldEvent) : Type 0 where
  Offers : 0 < queue → e ≡ Offer 0 → Giving slice queue residents e
  Nexts : queue ≡ 0 → 2 ≤ residents → e ≡ Next 0 → Giving slice queue residents e
  Goes : queue ≡ 0 → residents < 2 → event_in Fills slice queue residents ≡ Some e → Giving slice queue residents e

moves_in : (slice queue residents : ℕ) (e : WorldEvent) (next : Bool) → queue ≡ 0 → nat_le 2 residents ≡ next
    → cond next (Some (Next 0)) (event_in Fills slice queue residents) ≡ Some e → Giving slice queue residents e
moves_in slice queue residents e true none test is = Nexts none (grind (arith, nat_tests)) (some_of (Next 0) e is)
moves_in slice queue residents e false none test is = Goes none (grind (arith, nat_tests)) is

gives_in : (slice queue residents : ℕ) (e : WorldEvent) (offer : Bool) → nat_lt 0 queue ≡ offer
    → cond offer (Some (Offer 0)) (cond (nat_le 2 residents) (Some (Next 0)) (event_in Fills slice queue residents)) ≡ Some e
    → Giving slice queue residents e
gives_in slice queue residents e true test is = Offers (ltb-true 0 queue test) (some_of (Offer 0) e is)
gives_in slice queue residents e false test is =
    let none : queue ≡ 0 = grind (arith, nat_tests) in moves_in slice queue residents e (nat_le 2 residents) none refl is

giving_of : (w : World) (e : WorldEvent) → serial_event w GivesWay ≡ Some e → Giving w.config.slice (queued w) (resident w) e
giving_of w e is = gives_in w.config.slice (queued w) (resident w) e (nat_lt 0 (queued w)) refl is

-- ---- and back

fetch_comes : (slice queue residents : ℕ) → 0 < queue → residents < places → event_in Fills slice queue residents ≡ Some (Fetch 0)
fetch_comes slice queue residents some room =
    let one : nat_lt 0 queue ≡ true = grind (arith, nat_tests) in
    let two : nat_lt residents places ≡ true = grind (arith, nat_tests) in
    ap (λ (b : Bool). cond (b && nat_lt residents places) (Some (Fetch 0)) (cond (nat_lt 0 residents) (Some (Run 0 slice)) None)) one
    ∙ ap (λ (b : Bool). cond b (Some (Fetch 0)) (cond (nat_lt 0 residents) (Some (Run 0 slice)) None)) two

no_fetch : (queue residents : ℕ) → (queue ≡ 0) ⊎ (places ≤ residents) → (nat_lt 0 queue && nat_lt residents places) ≡ false
no_fetch queue residents (inl none) =
    let test : nat_lt 0 queue ≡ false = grind (arith, nat_tests) in ap (λ (b : Bool). b && nat_lt residents places) test
no_fetch queue residents (inr full) =
    let test : nat_lt residents places ≡ false = grind (arith, nat_tests) in
    ap (λ (b : Bool). nat_lt 0 queue && b) test ∙ never (nat_lt 0 queue) where
      never : (b : Bool) → (b && false) ≡ false
      never true = refl
      never false = refl

run_comes : (slice queue residents : ℕ) → (queue ≡ 0) ⊎ (places ≤ residents) → 0 < residents
    → event_in Fills slice queue residents ≡ Some (Run 0 slice)
run_comes slice queue residents full some =
    let one : nat_lt 0 residents ≡ true = grind (arith, nat_tests) in
    ap (λ (b : Bool). cond b (Some (Fetch 0)) (cond (nat_lt 0 residents) (Some (Run 0 slice)) None)) (no_fetch queue residents full)
    ∙ ap (λ (b : Bool). cond b (Some (Run 0 slice)) None) one

offer_comes : (slice queue residents : ℕ) → 0 < queue → event_in GivesWay slice queue residents ≡ Some (Offer 0)
offer_comes slice queue residents some =
    let one : nat_lt 0 queue ≡ true = grind (arith, nat_tests) in
    ap (λ (b : Bool). cond b (Some (Offer 0)) (cond (nat_le 2 residents) (Some (Next 0)) (event_in Fills slice queue residents))) one

none_gives : (slice queue residents : ℕ) → queue ≡ 0
    → event_in GivesWay slice queue residents ≡ cond (nat_le 2 residents) (Some (Next 0)) (event_in Fills slice queue residents)
none_gives slice queue residents none =
    let one : nat_lt 0 queue ≡ false = grind (arith, nat_tests) in
    ap (λ (b : Bool). cond b (Some (Offer 0)) (cond (nat_le 2 residents) (Some (Next 0)) (event_in Fills slice queue residents))) one

next_comes : (slice queue residents : ℕ) → queue ≡ 0 → 2 ≤ residents → event_in GivesWay slice queue residents ≡ Some (Next 0)
next_comes slice queue residents none two =
    let one : nat_le 2 residents ≡ true = grind (arith, nat_tests) in
    none_gives slice queue residents none ∙ ap (λ (b : Bool). cond b (Some (Next 0)) (event_in Fills slice queue residents)) one

fill_comes : (slice queue residents : ℕ) → queue ≡ 0 → residents < 2
    → event_in GivesWay slice queue residents ≡ event_in Fills slice queue residents
fill_comes slice queue residents none few =
    let one : nat_le 2 residents ≡ false = grind (arith, nat_tests) in
    none_gives slice queue residents none ∙ ap (λ (b : Bool). cond b (Some (Next 0)) (event_in Fills slice queue residents)) one

none_left : (slice queue residents : ℕ) (phase : Phase) → queue ≡ 0 → residents ≡ 0 → event_in phase slice queue residents ≡ None
none_left slice queue residents phase none no_one =
    ap (λ (q : ℕ). event_in phase slice q residents) none ∙ ap (λ (r : ℕ). event_in phase slice 0 r) no_one ∙ last phase where
      last : (p : Phase) → event_in p slice 0 0 ≡ None
      last Fills = refl
      last GivesWay = refl

-- ---- what the events answer

-- after an event that is no run core 0 is filled
module _ (w : World) where
  fetch_fills : (full : Bool) (s : Scene) (n : ℕ) → phase_after (cond full (refused s (CoreFull n)) (fetched s s.queue)).answer ≡ Fills
  fetch_fills true s n = refl
  fetch_fills false s n = front s.queue where
    front : (queue : List Guest) → phase_after (fetched s queue).answer ≡ Fills
    front [] = refl
    front (g ∷ queue) = refl

  fetch_at : (found : Option (List Guest)) → phase_after (happens_on w (Fetch 0) found).answer ≡ Fills
  fetch_at None = refl
  fetch_at (Some rs) = fetch_fills (nat_le places (length rs)) (scene_of w rs) (length rs)

  after_fetch : phase_after (happens w (Fetch 0)).answer ≡ Fills
  unfolding happens
  after_fetch = fetch_at (slice_get w.cores 0)

  offer_fills : (s : Scene) (rs : List Guest) → phase_after (offer_of s rs).answer ≡ Fills
  offer_fills s [] = refl
  offer_fills s (g ∷ others) = refl

  offer_at : (found : Option (List Guest)) → phase_after (happens_on w (Offer 0) found).answer ≡ Fills
  offer_at None = refl
  offer_at (Some rs) = offer_fills (scene_of w rs) rs

  after_offer : phase_after (happens w (Offer 0)).answer ≡ Fills
  unfolding happens
  after_offer = offer_at (slice_get w.cores 0)

  next_fills : (s : Scene) (rs : List Guest) → phase_after (next_of s rs).answer ≡ Fills
  next_fills s [] = refl
  next_fills s (g ∷ []) = refl
  next_fills s (g ∷ other ∷ others) = refl

  next_at : (found : Option (List Guest)) → phase_after (happens_on w (Next 0) found).answer ≡ Fills
  next_at None = refl
  next_at (Some rs) = next_fills (scene_of w rs) rs

  after_next : phase_after (happens w (Next 0)).answer ≡ Fills
  unfolding happens
  after_next = next_at (slice_get w.cores 0)

-- the run of a resident ends as spent or yielded, or with a stop
abbrev Ends : RunWhy → Type 0
Ends why.Spent = Unit {0}
Ends why.Yielded = Unit {0}
Ends why.Stopped = Unit {0}
Ends why.Idle = ⊥
Ends why.TraceEnds = ⊥
Ends why.TraceDiffers = ⊥
Ends why.Memory = ⊥

record HasRan (answer : Applied) : Type 0 where
  pub turns : ℕ
  pub reason : RunWhy
  pub is : answer ≡ applied.Ran (record { turns = turns; why = reason })
  pub ends : Ends reason

ran_by : (s : Scene) (g : Guest) (others : List Guest) (service : Service) → HasRan (after_service s g others service).answer
ran_by s g others (Going p) = record { turns = _; reason = why.Spent; is = refl; ends = tt }
ran_by s g others (GaveWay p) = record { turns = _; reason = why.Yielded; is = refl; ends = tt }
ran_by s g others (HasStopped p stop) = record { turns = _; reason = why.Stopped; is = refl; ends = tt }

ran_here : (w : World) (k : ℕ) (rs : List Guest) → 0 < length rs → HasRan (run_of k (scene_of w rs) rs).answer
ran_here w k [] some = absurd (omega (arith, some))
ran_here w k (g ∷ others) some =
    ran_by (scene_of w (g ∷ others)) g others (serve g.config g.number (begins g.state g.stop g.journal w.history) k)

ran_at : (w : World) (k : ℕ) (found : Option (List Guest)) → 0 < length (residents_at found)
    → HasRan (happens_on w (Run 0 k) found).answer
ran_at w k None some = absurd (omega (arith, some))
ran_at w k (Some rs) some = ran_here w k rs some

has_ran : (w : World) (k : ℕ) → 0 < resident w → HasRan (happens w (Run 0 k)).answer
unfolding happens
has_ran w k some = ran_at w k (slice_get w.cores 0) some

-- ---- a fetch leaves a thread in the queue or resident

set_here : (cores : List (List Guest)) (new rs : List Guest) → slice_get cores 0 ≡ Some rs
    → slice_get (slice_set cores 0 new) 0 ≡ Some new
set_here [] new rs get = absurd (none-some rs get)
set_here (gs ∷ cores) new rs get = refl

module _ (w : World) (rs : List Guest) (get : slice_get w.cores 0 ≡ Some rs) where
  fetched_leaves : (queue : List Guest) → 0 < length queue → 0 < resident (with_scene w 0 (fetched (scene_of w rs) queue).scene)
  fetched_leaves [] some = absurd (omega (arith, some))
  fetched_leaves (g ∷ queue) some =
      let here = ap (λ (found : Option (List Guest)). length (residents_at found)) (set_here w.cores (rs ++ g ∷ []) rs get) in
      let more = length_push rs g in omega (arith, here, more)

  fetch_leaves : (full : Bool) → nat_le places (length rs) ≡ full → 0 < length w.queue → length rs < places
      → 0 < resident (with_scene w 0 (cond full (refused (scene_of w rs) (CoreFull (length rs))) (fetched (scene_of w rs) w.queue)).scene)
  fetch_leaves true test some room = absurd (below_not test) where
    below_not : nat_le places (length rs) ≡ true → ⊥
    below_not t = let l : places ≤ length rs = grind (arith, nat_tests) in omega (arith, l, room)
  fetch_leaves false test some room = fetched_leaves w.queue some

leaves_at : (w : World) (found : Option (List Guest)) → slice_get w.cores 0 ≡ found → 0 < length w.queue
    → length (residents_at found) < places → queued (happens_on w (Fetch 0) found).world ≡ 0
    → resident (happens_on w (Fetch 0) found).world ≡ 0 → ⊥
leaves_at w None get some room none no_one = omega (arith, some, none)
leaves_at w (Some rs) get some room none no_one =
    let left = fetch_leaves w rs get (nat_le places (length rs)) refl some room in omega (arith, left, no_one)

fetch_is_left : (w : World) → CanFill w → queued (happens w (Fetch 0)).world ≡ 0 → resident (happens w (Fetch 0)).world ≡ 0 → ⊥
unfolding happens
fetch_is_left w can none no_one = leaves_at w (slice_get w.cores 0) refl can.0 can.1 none no_one

-- ---- rounds from their parts

-- a fetch more at the beginning
longer : (w : World) (round : List WorldEvent) → CanFill w → IsRound (happens w (Fetch 0)).world round → IsRound w (Fetch 0 ∷ round)
unfolding world_after
longer w round can r = record {
  fetches = suc r.fetches;
  each_fills = each;
  filled = r.filled;
  some = r.some;
  turns = r.turns;
  reason = r.reason;
  ran = r.ran;
  rest = r.rest;
  follow = r.follow;
  are = ap (λ (l : List WorldEvent). Fetch 0 ∷ l) r.are;
} where
  each : (i : ℕ) → i < suc r.fetches → CanFill (world_after w (fetching i))
  each zero less = can
  each (suc i) less = r.each_fills i (omega (arith, less))

module _ (w : World) (can : CanFill w) (last : World) (none : queued last ≡ 0) (no_one : resident last ≡ 0) where
  fetch_more : (rounds : List (List WorldEvent)) (es : List WorldEvent) → es ≡ events_of_rounds rounds
      → RoundsLead (happens w (Fetch 0)).world rounds last → AreRounds w (Fetch 0 ∷ es) last
  unfolding world_after
  fetch_more [] es are lead =
      absurd (fetch_is_left w can (ap queued (sym lead) ∙ none) (ap resident (sym lead) ∙ no_one))
  fetch_more (round ∷ rounds) es are lead = record {
    rounds = (Fetch 0 ∷ round) ∷ rounds;
    are = ap (λ (l : List WorldEvent). Fetch 0 ∷ l) are;
    lead = (longer w round can lead.0, lead.1);
    none_queued = none;
    none_resident = no_one;
  }

-- what follows a run that its thread is to give way after
record Gives (w : World) (es : List WorldEvent) (last : World) : Type 0 where
  pub events : List WorldEvent
  pub gives : IsGivingWay w events
  pub others : List WorldEvent
  pub are : es ≡ events ++ others
  pub rounds : AreRounds (world_after w events) others last

abbrev Follows : World → Phase → List WorldEvent → World → Type 0
Follows w Fills es last = AreRounds w es last
Follows w GivesWay es last = Gives w es last

-- a round without a fetch, and rounds after it
module _ (w : World) (full : IsFilled w) (some : 0 < resident w) (last : World) where
  abbrev after : World
  after = (happens w (slice_run w)).world

  round_then : (turns : ℕ) (reason : RunWhy) (rest others es : List WorldEvent)
      → (happens w (slice_run w)).answer ≡ applied.Ran (record { turns = turns; why = reason }) → FollowRun reason after rest
      → es ≡ rest ++ others → AreRounds (world_after after rest) others last → AreRounds w (slice_run w ∷ es) last
  unfolding world_after
  round_then turns reason rest others es ran follow are k = record {
    rounds = (slice_run w ∷ rest) ∷ k.rounds;
    are = ap (λ (l : List WorldEvent). slice_run w ∷ l) (are ∙ ap (λ (l : List WorldEvent). rest ++ l) k.are);
    lead = (
      record {
        fetches = 0;
        each_fills = λ i less. absurd (omega (arith, less));
        filled = full;
        some = some;
        turns = turns;
        reason = reason;
        ran = ran;
        rest = rest;
        follow = follow;
        are = refl;
      },
      k.lead,
    );
    none_queued = k.none_queued;
    none_resident = k.none_resident;
  }

  run_then : (turns : ℕ) (reason : RunWhy) (es : List WorldEvent) → Ends reason
      → (happens w (slice_run w)).answer ≡ applied.Ran (record { turns = turns; why = reason })
      → Follows after (phase_by reason) es last → AreRounds w (slice_run w ∷ es) last
  unfolding world_after
  run_then turns why.Spent es ends ran k = round_then turns why.Spent k.events k.others es ran k.gives k.are k.rounds
  run_then turns why.Yielded es ends ran k = round_then turns why.Yielded k.events k.others es ran k.gives k.are k.rounds
  run_then turns why.Stopped es ends ran k = round_then turns why.Stopped [] es es ran refl refl k
  run_then turns why.Idle es ends ran k = absurd ends
  run_then turns why.TraceEnds es ends ran k = absurd ends
  run_then turns why.TraceDiffers es ends ran k = absurd ends
  run_then turns why.Memory es ends ran k = absurd ends

-- ---- serial events are rounds

module _ (last : World) (at : Phase) (none : serial_event last at ≡ None) where
  nothing_left : (queued last ≡ 0) × (resident last ≡ 0)
  nothing_left = none_comes at last.config.slice (queued last) (resident last) none

  abbrev Leads : List WorldEvent → Type 0
  Leads es = (w : World) (phase : Phase) → LeadSerially w phase es last at → Follows w phase es last

  ends : Leads []
  unfolding world_after
  ends w Fills h = record { rounds = []; are = refl; lead = h.0; none_queued = nothing_left.0; none_resident = nothing_left.1 }
  ends w GivesWay h =
      let no_one : resident w ≡ 0 = ap resident (sym h.0) ∙ nothing_left.1 in
      record {
        events = [];
        gives = Stays (ap queued (sym h.0) ∙ nothing_left.0) (omega (arith, no_one)) refl;
        others = [];
        are = refl;
        rounds = record {
          rounds = [];
          are = refl;
          lead = h.0;
          none_queued = nothing_left.0;
          none_resident = nothing_left.1;
        };
      }

  module _ (es : List WorldEvent) (then : Leads es) where
    abbrev Rest : World → WorldEvent → Type 0
    Rest w e = LeadSerially (happens w e).world (phase_after (happens w e).answer) es last at

    -- after an event that is no run
    filled_then : (w : World) (e : WorldEvent) → phase_after (happens w e).answer ≡ Fills → Rest w e
        → AreRounds (happens w e).world es last
    filled_then w e fills h =
        then (happens w e).world Fills (subst (λ (p : Phase). LeadSerially (happens w e).world p es last at) fills h)

    run_step : (w : World) → IsFilled w → 0 < resident w → Rest w (slice_run w) → AreRounds w (slice_run w ∷ es) last
    run_step w full some h =
        let r = has_ran w w.config.slice some in
        let v = (happens w (slice_run w)).world in
        let phase = ap phase_after r.is in
        run_then w full some last r.turns r.reason es r.ends r.is
        (then v (phase_by r.reason) (subst (λ (p : Phase). LeadSerially v p es last at) phase h))

    fetch_step : (w : World) → CanFill w → Rest w (Fetch 0) → AreRounds w (Fetch 0 ∷ es) last
    fetch_step w can h =
        let k = filled_then w (Fetch 0) (after_fetch w) h in fetch_more w can last k.none_queued k.none_resident k.rounds es k.are k.lead

    fill_by : (w : World) (e : WorldEvent) → Filling w.config.slice (queued w) (resident w) e → Rest w e → AreRounds w (e ∷ es) last
    fill_by w e (Fetches some room is) h =
        subst (λ (x : WorldEvent). AreRounds w (x ∷ es) last) (sym is)
        (fetch_step w (some, room) (subst (λ (x : WorldEvent). Rest w x) is h))
    fill_by w e (Runs full some is) h =
        subst (λ (x : WorldEvent). AreRounds w (x ∷ es) last) (sym is)
        (run_step w full some (subst (λ (x : WorldEvent). Rest w x) is h))

    fill_step : (w : World) (e : WorldEvent) → serial_event w Fills ≡ Some e → Rest w e → AreRounds w (e ∷ es) last
    fill_step w e is h = fill_by w e (filling_of w e is) h

    give_by : (w : World) (e : WorldEvent) → Giving w.config.slice (queued w) (resident w) e → Rest w e → Gives w (e ∷ es) last
    unfolding world_after
    give_by w e (Offers some is) h = record {
      events = e ∷ [];
      gives = ByOffer some (ap (λ (x : WorldEvent). x ∷ []) is);
      others = es;
      are = refl;
      rounds = filled_then w e (ap (λ (x : WorldEvent). phase_after (happens w x).answer) is ∙ after_offer w) h;
    }
    give_by w e (Nexts none two is) h = record {
      events = e ∷ [];
      gives = ByNext none two (ap (λ (x : WorldEvent). x ∷ []) is);
      others = es;
      are = refl;
      rounds = filled_then w e (ap (λ (x : WorldEvent). phase_after (happens w x).answer) is ∙ after_next w) h;
    }
    give_by w e (Goes none few is) h = record {
      events = [];
      gives = Stays none few refl;
      others = e ∷ es;
      are = refl;
      rounds = fill_step w e is h;
    }

  more : (e : WorldEvent) (es : List WorldEvent) → Leads es → Leads (e ∷ es)
  more e es then w Fills h = fill_step es then w e h.0 h.1
  more e es then w GivesWay h = give_by es then w e (giving_of w e h.0) h.1

  leads : (es : List WorldEvent) → Leads es
  leads [] = ends
  leads (e ∷ es) = more e es (leads es)

pub serial_are_rounds : (w : World) (events : List WorldEvent) (last : World) → AreSerial w events last → AreRounds w events last
serial_are_rounds w events last h = leads last h.phase h.none events w Fills h.lead

-- ---- rounds are serial events

-- serial events from a world and a phase on, which lead to the last world
abbrev Led : World → Phase → List WorldEvent → World → Type 0
Led w phase es last = (at : Phase) × LeadSerially w phase es last at

module _ (last : World) where
  one_led : (w : World) (phase : Phase) (e : WorldEvent) (es : List WorldEvent) (to : Phase) → serial_event w phase ≡ Some e
      → phase_after (happens w e).answer ≡ to → Led (happens w e).world to es last → Led w phase (e ∷ es) last
  one_led w phase e es to is then k =
      (k.0, (is, subst (λ (p : Phase). LeadSerially (happens w e).world p es last k.0) (sym then) k.1))

  fetches_led : (n : ℕ) (w : World) (es : List WorldEvent) → ((i : ℕ) → i < n → CanFill (world_after w (fetching i)))
      → Led (world_after w (fetching n)) Fills es last → Led w Fills (fetching n ++ es) last
  unfolding world_after
  fetches_led zero w es each k = k
  fetches_led (suc n) w es each k =
      let can = each 0 (omega arith) in
      one_led w Fills (Fetch 0) (fetching n ++ es) Fills (fetch_comes w.config.slice (queued w) (resident w) can.0 can.1) (after_fetch w)
      (fetches_led n (happens w (Fetch 0)).world es (λ i less. each (suc i) (omega (arith, less))) k)

  stays_led : (w : World) (es : List WorldEvent) → queued w ≡ 0 → resident w < 2 → Led w Fills es last → Led w GivesWay es last
  stays_led w [] none few k = (GivesWay, (k.1.0, refl))
  stays_led w (e ∷ es) none few k =
      (k.0, (fill_comes w.config.slice (queued w) (resident w) none few ∙ k.1.0, k.1.1))

  gives_led : (w : World) (events es : List WorldEvent) → IsGivingWay w events → Led (world_after w events) Fills es last
      → Led w GivesWay (events ++ es) last
  unfolding world_after
  gives_led w events es (ByOffer some is) k =
      subst (λ (l : List WorldEvent). Led w GivesWay (l ++ es) last) (sym is)
      (one_led w GivesWay (Offer 0) es Fills (offer_comes w.config.slice (queued w) (resident w) some) (after_offer w)
      (subst (λ (l : List WorldEvent). Led (world_after w l) Fills es last) is k))
  gives_led w events es (ByNext none two is) k =
      subst (λ (l : List WorldEvent). Led w GivesWay (l ++ es) last) (sym is)
      (one_led w GivesWay (Next 0) es Fills (next_comes w.config.slice (queued w) (resident w) none two) (after_next w)
      (subst (λ (l : List WorldEvent). Led (world_after w l) Fills es last) is k))
  gives_led w events es (Stays none few is) k =
      subst (λ (l : List WorldEvent). Led w GivesWay (l ++ es) last) (sym is)
      (stays_led w es none few (subst (λ (l : List WorldEvent). Led (world_after w l) Fills es last) is k))

  follow_led : (reason : RunWhy) (w : World) (rest es : List WorldEvent) → FollowRun reason w rest
      → Led (world_after w rest) Fills es last → Led w (phase_by reason) (rest ++ es) last
  unfolding world_after
  follow_led why.Spent w rest es follow k = gives_led w rest es follow k
  follow_led why.Yielded w rest es follow k = gives_led w rest es follow k
  follow_led why.Stopped w rest es follow k =
      subst (λ (l : List WorldEvent). Led w Fills (l ++ es) last) (sym follow)
      (subst (λ (l : List WorldEvent). Led (world_after w l) Fills es last) follow k)
  follow_led why.Idle w rest es follow k = absurd follow
  follow_led why.TraceEnds w rest es follow k = absurd follow
  follow_led why.TraceDiffers w rest es follow k = absurd follow
  follow_led why.Memory w rest es follow k = absurd follow

  -- a round is fetches, a run and what follows it
  world_parts : (n : ℕ) (w : World) (e : WorldEvent) (rest : List WorldEvent)
      → world_after w (fetching n ++ e ∷ rest) ≡ world_after (happens (world_after w (fetching n)) e).world rest
  unfolding world_after
  world_parts zero w e rest = refl
  world_parts (suc n) w e rest = world_parts n (happens w (Fetch 0)).world e rest

  round_led : (w : World) (round es : List WorldEvent) → IsRound w round → Led (world_after w round) Fills es last
      → Led w Fills (round ++ es) last
  round_led w round es r k =
      let v = world_after w (fetching r.fetches) in
      let there = ap (world_after w) r.are ∙ world_parts r.fetches w (slice_run v) r.rest in
      let end = subst (λ (x : World). Led x Fills es last) there k in
      let run = one_led v Fills (slice_run v) (r.rest ++ es) (phase_by r.reason)
      (run_comes v.config.slice (queued v) (resident v) r.filled r.some) (ap phase_after r.ran)
      (follow_led r.reason (happens v (slice_run v)).world r.rest es r.follow end) in
      subst (λ (l : List WorldEvent). Led w Fills l last)
      (sym (ap (λ (l : List WorldEvent). l ++ es) r.are ∙ append_assoc (fetching r.fetches) (slice_run v ∷ r.rest) es))
      (fetches_led r.fetches w (slice_run v ∷ r.rest ++ es) r.each_fills run)

  rounds_led : (rounds : List (List WorldEvent)) (w : World) → RoundsLead w rounds last → Led w Fills (events_of_rounds rounds) last
  rounds_led [] w h = (Fills, (h, refl))
  rounds_led (round ∷ rounds) w h =
      round_led w round (events_of_rounds rounds) h.0 (rounds_led rounds (world_after w round) h.1)

pub rounds_are_serial : (w : World) (events : List WorldEvent) (last : World) → AreRounds w events last → AreSerial w events last
rounds_are_serial w events last h =
    let k = rounds_led last h.rounds w h.lead in
    record {
      phase = k.0;
      lead = subst (λ (l : List WorldEvent). LeadSerially w Fills l last k.0) (sym h.are) k.1;
      none = none_left last.config.slice (queued last) (resident last) k.0 h.none_queued h.none_resident;
    }

-- ---- at the end of the rounds of a run all threads are done

core_after_all : (es : List WorldEvent) (w : World) (phase : Phase) (last : World) (at : Phase) → LeadSerially w phase es last at
    → HasCore w → HasCore last
core_after_all [] w phase last at h core = subst HasCore (sym h.0) core
core_after_all (e ∷ es) w phase last at h core =
    let first = on_core_0 phase w.config.slice (queued w) (resident w) e
    (comes_in phase w.config.slice (queued w) (resident w) e h.0) in
    core_after_all es (happens w e).world (phase_after (happens w e).answer) last at h.1 (has_core w e first core)

pub rounds_end : (program : Program) (config : Config) (events : List WorldEvent) (last : World) → 1 ≤ config.cores
    → AreRounds (start_world program config) events last → threads_of last ≡ last.done
rounds_end program config events last one h =
    let s = rounds_are_serial (start_world program config) events last h in
    all_done last s.phase (core_after_all events (start_world program config) Fills last s.phase s.lead
    (start_core program config config.cores refl one)) s.none
