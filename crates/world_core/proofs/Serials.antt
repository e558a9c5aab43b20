-- The serial events of a world: they come to an end, at which each thread is done.
use Rattle.std.proofs.Common.{◌≡◌, ℕ, zero, suc, ◌+◌, ◌-◌, ◌*◌, ◌<◌, ◌≤◌, ◌++◌, Bool, true, false, cond, List, [], ◌∷◌, drop, length}
use Rattle.std.proofs.Common.{refl, ap, sym, ◌∙◌, subst, arith, Option, Some, None}
use Rattle.std.specs.Prelude.{slice_get, slice_set, nat_lt, nat_le, ◌&&◌, is_some}
use Rattle.std.proofs.lemmas.Bool.Decides.{nat_tests}
use Rattle.std.proofs.lemmas.Option.{same_Some, none-some}
use Rattle.std.proofs.lemmas.List.{append-nil, length_push, nil_from_length}
use Rattle.std.proofs.Math.Nat.{mul-le-mul_right, suc-mul}
use Rattle.std.proofs.lemmas.Bool.{ltb-true, and_parts}
use Rattle.sm_types.specs.declared.config.Config.{Config}
use Rattle.sm_types.specs.declared.stop.Stop.{Stop}
use Rattle.shared_region.specs.History.{ends_in}
use Rattle.shared_region.specs.WordRule.{answer_to}
use Rattle.paged_memory.specs.Image.{Program}
use Rattle.kernel_contexts.specs.Call.{TurnEnd, Goes, Yields, Asks, Ends}
use Rattle.kernel_contexts.specs.Turn.{turn_of}
use Rattle.kernel_contexts.proofs.Turns.{goes_turned, yields_turned, asks_turned}
use Rattle.core_unit.specs.CoreState.{places}
use Rattle.kernel_contexts.specs.Guest.{Guest}
use Rattle.world_core.specs.Events.{core_number}
use Rattle.world_core.specs.Happens.{Scene, Outcome, Happened, happens, on_core, next_of, fetched, offer_of}
use Rattle.world_core.specs.Happens.{after_service, refused, with_scene, scene_of, comes_to, world_after}
use Rattle.world_core.specs.Kept.{Stands, IsKept}
use Rattle.world_core.specs.Kept.{Goes as HasGone}
use Rattle.world_core.specs.Serial.{residents_at, filling, event_in, serial_event, phase_after, LeadSerially}
use Rattle.world_core.specs.Serve.{Progress, Service, Going, GaveWay, HasStopped, service_after, served, serve, begins}
use Rattle.thread_lists.specs.Counts.{total}
use Rattle.world_core.specs.World.{World, threads_of, residents_of}
use Rattle.sm_types.specs.declared.world_event.WorldEvent.{WorldEvent}
use Rattle.sm_types.specs.declared.world_event.WorldEvent.TheVariants.{Run, Next, Fetch, Offer}
use Rattle.world_core.specs.declared.event.Why.TheVariants.{CoreFull}
use Rattle.world_core.specs.declared.serial.Phase.{Phase}
use Rattle.world_core.specs.declared.serial.Phase.TheVariants.{Fills, GivesWay}
use Rattle.world_core.proofs.Bags.{total_ones, threads-bag, scene_bag, served_guest, served-bag, next-bag, fetched-bag, offer-bag}
use Rattle.world_core.proofs.Bags.{scene-there, happens-bag}
use Rattle.world_core.proofs.Eachs.{core_here, parts_of}
use Rattle.world_core.proofs.Lifting.{happens_here}

-- ---- one event more

pub lead-snoc : (w : World) (phase : Phase) (es : List WorldEvent) (last : World) (at : Phase) (e : WorldEvent)
    → LeadSerially w phase es last at → serial_event last at ≡ Some e
    → LeadSerially w phase (es ++ e ∷ []) (happens last e).world (phase_after (happens last e).answer)
lead-snoc w phase [] last at e h is =
    let same : serial_event w phase ≡ Some e = ap (λ (p : Phase). serial_event w p) (sym h.1)
    ∙ ap (λ (v : World). serial_event v at) (sym h.0) ∙ is in
    (same, (ap (λ (v : World). (happens v e).world) h.0, ap (λ (v : World). phase_after (happens v e).answer) h.0))
lead-snoc w phase (x ∷ es) last at e h is =
    (h.0, lead-snoc (happens w x).world (phase_after (happens w x).answer) es last at e h.1 is)

pub lead_world : (w : World) (phase : Phase) (es : List WorldEvent) (last : World) (at : Phase) → LeadSerially w phase es last at
    → last ≡ world_after w es
unfolding world_after
lead_world w phase [] last at h = h.0
lead_world w phase (e ∷ es) last at h = lead_world (happens w e).world (phase_after (happens w e).answer) es last at h.1

-- ---- which event comes

-- the events that may come in a phase, with so many threads in the queue and resident
pub data Comes (phase : Phase) (slice queued resident : ℕ) (e : WorldEvent) : Type 0 where
  Fetches : e ≡ Fetch 0 → 0 < queued → resident < places → Comes phase slice queued resident e
  Runs : e ≡ Run 0 slice → 0 < resident → Comes phase slice queued resident e
  Offers : e ≡ Offer 0 → phase ≡ GivesWay → Comes phase slice queued resident e
  Nexts : e ≡ Next 0 → phase ≡ GivesWay → Comes phase slice queued resident e

pub some_of : (x e : WorldEvent) → ◌≡◌ {A = Option WorldEvent} (Some x) (Some e) → e ≡ x
some_of x e is = sym (same_Some x e is)

runs_in : (phase : Phase) (slice queued resident : ℕ) (e : WorldEvent) (some : Bool) → nat_lt 0 resident ≡ some
    → cond some (Some (Run 0 slice)) None ≡ Some e → Comes phase slice queued resident e
runs_in phase slice queued resident e true test is = Runs (some_of (Run 0 slice) e is) (ltb-true 0 resident test)
runs_in phase slice queued resident e false test is = absurd (none-some e is)

fills_in : (phase : Phase) (slice queued resident : ℕ) (e : WorldEvent) (fetch : Bool) → (nat_lt 0 queued && nat_lt resident places) ≡ fetch
    → cond fetch (Some (Fetch 0)) (cond (nat_lt 0 resident) (Some (Run 0 slice)) None) ≡ Some e → Comes phase slice queued resident e
fills_in phase slice queued resident e true test is =
    let parts = and_parts (nat_lt 0 queued) (nat_lt resident places) test in
    Fetches (some_of (Fetch 0) e is) (ltb-true 0 queued parts.0) (ltb-true resident places parts.1)
fills_in phase slice queued resident e false test is = runs_in phase slice queued resident e (nat_lt 0 resident) refl is

moves_in : (slice queued resident : ℕ) (e : WorldEvent) (next : Bool)
    → cond next (Some (Next 0)) (filling slice queued resident) ≡ Some e → Comes GivesWay slice queued resident e
moves_in slice queued resident e true is = Nexts (some_of (Next 0) e is) refl
moves_in slice queued resident e false is =
    fills_in GivesWay slice queued resident e (nat_lt 0 queued && nat_lt resident places) refl is

gives_in : (slice queued resident : ℕ) (e : WorldEvent) (offer : Bool)
    → cond offer (Some (Offer 0)) (cond (nat_le 2 resident) (Some (Next 0)) (filling slice queued resident)) ≡ Some e
    → Comes GivesWay slice queued resident e
gives_in slice queued resident e true is = Offers (some_of (Offer 0) e is) refl
gives_in slice queued resident e false is = moves_in slice queued resident e (nat_le 2 resident) is

pub comes_in : (phase : Phase) (slice queued resident : ℕ) (e : WorldEvent) → event_in phase slice queued resident ≡ Some e
    → Comes phase slice queued resident e
comes_in Fills slice queued resident e is = fills_in Fills slice queued resident e (nat_lt 0 queued && nat_lt resident places) refl is
comes_in GivesWay slice queued resident e is = gives_in slice queued resident e (nat_lt 0 queued) is

pub on_core_0 : (phase : Phase) (slice queued resident : ℕ) (e : WorldEvent) → Comes phase slice queued resident e → core_number e ≡ 0
on_core_0 phase slice queued resident e (Fetches is some room) = ap core_number is
on_core_0 phase slice queued resident e (Runs is some) = ap core_number is
on_core_0 phase slice queued resident e (Offers is gives) = ap core_number is
on_core_0 phase slice queued resident e (Nexts is gives) = ap core_number is

-- ---- where none comes

no_run : (slice resident : ℕ) (some : Bool) → nat_lt 0 resident ≡ some → cond some (Some (Run 0 slice)) None ≡ None → resident ≡ 0
no_run slice resident true test is = absurd (none-some (Run 0 slice) (sym is))
no_run slice resident false test is = grind (arith, nat_tests)

no_fetch : (queued resident : ℕ) → resident ≡ 0 → (nat_lt 0 queued && nat_lt resident places) ≡ false → queued ≡ 0
no_fetch queued resident none test =
    let here : (nat_lt 0 queued && nat_lt 0 places) ≡ false = ap (λ (r : ℕ). nat_lt 0 queued && nat_lt r places) (sym none) ∙ test in
    last queued (nat_lt 0 queued) refl here where
      last : (n : ℕ) (b : Bool) → nat_lt 0 n ≡ b → (b && nat_lt 0 places) ≡ false → n ≡ 0
      last n true test h = cc
      last n false test h = grind (arith, nat_tests)

no_filling : (slice queued resident : ℕ) (fetch : Bool) → (nat_lt 0 queued && nat_lt resident places) ≡ fetch
    → cond fetch (Some (Fetch 0)) (cond (nat_lt 0 resident) (Some (Run 0 slice)) None) ≡ None → (queued ≡ 0) × (resident ≡ 0)
no_filling slice queued resident true test is = absurd (none-some (Fetch 0) (sym is))
no_filling slice queued resident false test is =
    let none = no_run slice resident (nat_lt 0 resident) refl is in (no_fetch queued resident none test, none)

no_move : (slice queued resident : ℕ) (next : Bool) → cond next (Some (Next 0)) (filling slice queued resident) ≡ None
    → (queued ≡ 0) × (resident ≡ 0)
no_move slice queued resident true is = absurd (none-some (Next 0) (sym is))
no_move slice queued resident false is = no_filling slice queued resident (nat_lt 0 queued && nat_lt resident places) refl is

no_way : (slice queued resident : ℕ) (offer : Bool)
    → cond offer (Some (Offer 0)) (cond (nat_le 2 resident) (Some (Next 0)) (filling slice queued resident)) ≡ None
    → (queued ≡ 0) × (resident ≡ 0)
no_way slice queued resident true is = absurd (none-some (Offer 0) (sym is))
no_way slice queued resident false is = no_move slice queued resident (nat_le 2 resident) is

pub none_comes : (phase : Phase) (slice queued resident : ℕ) → event_in phase slice queued resident ≡ None → (queued ≡ 0) × (resident ≡ 0)
none_comes Fills slice queued resident is = no_filling slice queued resident (nat_lt 0 queued && nat_lt resident places) refl is
none_comes GivesWay slice queued resident is = no_way slice queued resident (nat_lt 0 queued) is

-- ---- the cores: there is one, and all others are empty

pub record HasCore (w : World) : Type 0 where
  pub residents : List Guest
  pub first : slice_get w.cores 0 ≡ Some residents
  pub others : residents_of (drop 1 w.cores) ≡ []

core_stays : (cores : List (List Guest)) (new : List Guest) (rs : List Guest) → slice_get cores 0 ≡ Some rs
    → residents_of (drop 1 cores) ≡ []
    → (slice_get (slice_set cores 0 new) 0 ≡ Some new) × (residents_of (drop 1 (slice_set cores 0 new)) ≡ [])
core_stays [] new rs get none = absurd (none-some rs get)
core_stays (gs ∷ cores) new rs get none = (refl, none)

pub has_core : (w : World) (e : WorldEvent) → core_number e ≡ 0 → HasCore w → HasCore (happens w e).world
has_core w e zero-core h =
    let rs = h.residents in
    let get : slice_get w.cores (core_number e) ≡ Some rs = ap (slice_get w.cores) zero-core ∙ h.first in
    let new = (on_core e (scene_of w rs)).scene in
    let is : (happens w e).world ≡ with_scene w 0 new =
    ap (λ (x : Happened). x.world) (happens_here w rs e get) ∙ ap (λ (n : ℕ). with_scene w n new) zero-core in
    let stays = core_stays w.cores new.residents rs h.first h.others in
    subst HasCore (sym is) (record { residents = new.residents; first = stays.0; others = stays.1 })

residents_all : (cores : List (List Guest)) (rs : List Guest) → slice_get cores 0 ≡ Some rs → residents_of (drop 1 cores) ≡ []
    → residents_of cores ≡ rs
residents_all [] rs get none = absurd (none-some rs get)
residents_all (gs ∷ cores) rs get none =
    ap (λ (l : List Guest). gs ++ l) none ∙ append-nil gs ∙ same_Some gs rs get

-- where no event comes, all threads are done
pub all_done : (w : World) (phase : Phase) → HasCore w → serial_event w phase ≡ None → threads_of w ≡ w.done
all_done w phase h is =
    let counted : event_in phase w.config.slice (length w.queue) (length h.residents) ≡ None =
    ap (λ (found : Option (List Guest)). event_in phase w.config.slice (length w.queue) (length (residents_at found))) (sym h.first) ∙ is in
    let none = none_comes phase w.config.slice (length w.queue) (length h.residents) counted in
    let residents = residents_all w.cores h.residents h.first h.others ∙ nil_from_length h.residents none.1 in
    ap (λ (l : List Guest). l ++ residents_of w.cores ++ w.done) (nil_from_length w.queue none.0)
    ∙ ap (λ (l : List Guest). l ++ w.done) residents

-- ---- the work that is left

-- of a thread that goes on: the turns that it may make, and one that stops it
abbrev work_of : Guest → ℕ
work_of g = cond (is_some g.stop) 0 (64 * g.config.budget + 1 - g.state.turns)

abbrev work : World → ℕ
work w = total work_of (threads_of w)

abbrev rank : Phase → ℕ → ℕ
rank Fills queued = queued
rank GivesWay queued = queued + 2

abbrev pub left_over : World → Phase → ℕ
left_over w phase = work w * (length (threads_of w) + 3) + rank phase (length w.queue)

-- a thread that is served makes a turn at least, unless it stops
abbrev HasRisen : ℕ → Service → Type 0
HasRisen turns (Going p) = turns ≤ p.state.turns
HasRisen turns (GaveWay p) = turns ≤ p.state.turns
HasRisen turns (HasStopped p stop) = Unit {0}

turn_rises : (thread : ℕ) (config : Config) (p : Progress) (end : TurnEnd) → turn_of config thread (length p.journal) p.state ≡ end
    → HasRisen (p.state.turns + 1) (service_after thread p end)
turn_rises thread config p (Goes s) is = let e = goes_turned config thread (length p.journal) p.state s is in omega (arith, e)
turn_rises thread config p (Yields s) is = let e = yields_turned config thread (length p.journal) p.state s is in omega (arith, e)
turn_rises thread config p (Asks op next) is =
    let a = answer_to (ends_in p.history) op in
    let e = asks_turned config thread (length p.journal) p.state (next a) op next a is refl in omega (arith, e)
turn_rises thread config p (Ends s stop) is = tt

weaker : (n m : ℕ) (service : Service) → n ≤ m → HasRisen m service → HasRisen n service
weaker n m (Going p) l h = omega (arith, l, h)
weaker n m (GaveWay p) l h = omega (arith, l, h)
weaker n m (HasStopped p stop) l h = tt

one_rises : (config : Config) (thread n : ℕ) (service : Service) → HasRisen n service → HasRisen n (served config thread service)
one_rises config thread n (Going p) h =
    weaker n (p.state.turns + 1) (service_after thread p (turn_of config thread (length p.journal) p.state)) (omega (arith, h))
    (turn_rises thread config p (turn_of config thread (length p.journal) p.state) refl)
one_rises config thread n (GaveWay p) h = h
one_rises config thread n (HasStopped p stop) h = tt

serve_rises : (config : Config) (thread : ℕ) (p : Progress) (n : ℕ) → HasRisen (p.state.turns + 1) (serve config thread (Going p) (suc n))
unfolding serve
serve_rises config thread p zero = turn_rises thread config p (turn_of config thread (length p.journal) p.state) refl
serve_rises config thread p (suc n) =
    one_rises config thread (p.state.turns + 1) (serve config thread (Going p) (suc n)) (serve_rises config thread p n)

works_less : (g : Guest) (service : Service) → g.stop ≡ None → g.state.turns ≤ 64 * g.config.budget
    → HasRisen (g.state.turns + 1) service → work_of (served_guest g service) < work_of g
works_less g (Going p) goes few h =
    let e = ap (λ (s : Option Stop). cond (is_some s) 0 (64 * g.config.budget + 1 - g.state.turns)) goes in omega (arith, e, few, h)
works_less g (GaveWay p) goes few h =
    let e = ap (λ (s : Option Stop). cond (is_some s) 0 (64 * g.config.budget + 1 - g.state.turns)) goes in omega (arith, e, few, h)
works_less g (HasStopped p stop) goes few h =
    let e = ap (λ (s : Option Stop). cond (is_some s) 0 (64 * g.config.budget + 1 - g.state.turns)) goes in omega (arith, e, few)

-- the work falls, or it stays and the rank falls
falls_by_work : (a b k r s : ℕ) → a < b → r < k → a * k + r < b * k + s
falls_by_work a b k r s less small =
    let l : suc a ≤ b = omega (arith, less) in
    let up = mul-le-mul_right {m = suc a} {n = b} k l in
    let one = suc-mul a k in omega (arith, up, one, small)

rank_most : (phase : Phase) (queued : ℕ) → rank phase queued ≤ queued + 2
rank_most Fills queued = omega arith
rank_most GivesWay queued = omega arith

rank_least : (phase : Phase) (queued : ℕ) → queued ≤ rank phase queued
rank_least Fills queued = omega arith
rank_least GivesWay queued = omega arith

as_many : (w : World) (e : WorldEvent) → length (threads_of (happens w e).world) ≡ length (threads_of w)
as_many w e =
    let a = total_ones (threads_of (happens w e).world) in
    let b = total_ones (threads_of w) in
    let c = happens-bag (λ n. 1) w e in omega (arith, a, b, c)

queue_within : (w : World) → length w.queue ≤ length (threads_of w)
queue_within w =
    let a = total_ones (threads_of w) in
    let b = total_ones w.queue in
    let c = threads-bag (λ g. 1) w in omega (arith, a, b, c)

module _ (w : World) (phase : Phase) where
  abbrev Falls : Happened → Type 0
  Falls x = left_over x.world (phase_after x.answer) < left_over w phase

  by_work : (v : World) (after : Phase) → length (threads_of v) ≡ length (threads_of w) → work v < work w
      → left_over v after < left_over w phase
  by_work v after same less =
      let most = rank_most after (length v.queue) in
      let within = queue_within v in
      let f = falls_by_work (work v) (work w) (length (threads_of w) + 3) (rank after (length v.queue)) (rank phase (length w.queue)) less
      (omega (arith, most, within, same)) in
      let level = ap (λ (n : ℕ). work v * (n + 3)) same in omega (arith, f, level)

  by_rank : (v : World) (after : Phase) → length (threads_of v) ≡ length (threads_of w) → work v ≡ work w
      → rank after (length v.queue) < rank phase (length w.queue) → left_over v after < left_over w phase
  by_rank v after same level less =
      let a = ap (λ (n : ℕ). work v * (n + 3)) same in
      let b = ap (λ (n : ℕ). n * (length (threads_of w) + 3)) level in omega (arith, a, b, less)

  module _ (rs : List Guest) (get : slice_get w.cores 0 ≡ Some rs) where
    abbrev before : Scene
    before = scene_of w rs

    same_work : (s : Scene) → scene_bag work_of s ≡ scene_bag work_of before → work (with_scene w 0 s) ≡ work w
    same_work s same = let t = scene-there work_of w 0 rs s get in omega (arith, t, same)

    -- an event that moves threads
    moves_fall : (e : WorldEvent) (o : Outcome) → core_number e ≡ 0 → on_core e before ≡ o
        → scene_bag work_of o.scene ≡ scene_bag work_of before
        → rank (phase_after o.answer) (length o.scene.queue) < rank phase (length w.queue) → Falls (happens w e)
    moves_fall e o zero-core is same less =
        let at : happens w e ≡ comes_to w 0 o =
        happens_here w rs e (ap (slice_get w.cores) zero-core ∙ get) ∙ ap (λ (n : ℕ). comes_to w n (on_core e before)) zero-core
        ∙ ap (comes_to w 0) is in
        subst Falls (sym at) (by_rank (with_scene w 0 o.scene) (phase_after o.answer)
        (sym (ap (λ (x : Happened). length (threads_of x.world)) at) ∙ as_many w e) (same_work o.scene same) less)

    fetch_falls : (g : Guest) (queue : List Guest) → w.queue ≡ g ∷ queue → length rs < places → Falls (happens w (Fetch 0))
    fetch_falls g queue front room =
        let test : nat_le places (length rs) ≡ false = grind (arith, nat_tests) in
        let is : on_core (Fetch 0) before ≡ fetched before (g ∷ queue) =
        ap (λ b. cond b (refused before (CoreFull (length rs))) (fetched before w.queue)) test ∙ ap (fetched before) front in
        let least = rank_least phase (length w.queue) in
        let fewer = ap (λ (l : List Guest). length l) front in
        moves_fall (Fetch 0) (fetched before (g ∷ queue)) refl is (fetched-bag work_of before (g ∷ queue) front)
        (omega (arith, least, fewer))

    offer_ranks : (l : List Guest)
        → rank (phase_after (offer_of before l).answer) (length (offer_of before l).scene.queue) < length w.queue + 2
    offer_ranks [] = omega arith
    offer_ranks (g ∷ others) = let e = length_push w.queue g in omega (arith, e)

    offer_falls : phase ≡ GivesWay → Falls (happens w (Offer 0))
    offer_falls gives =
        let e = ap (λ (p : Phase). rank p (length w.queue)) gives in
        let r = offer_ranks rs in
        moves_fall (Offer 0) (offer_of before rs) refl refl (offer-bag work_of before rs refl) (omega (arith, e, r))

    next_ranks : (l : List Guest)
        → rank (phase_after (next_of before l).answer) (length (next_of before l).scene.queue) < length w.queue + 2
    next_ranks [] = omega arith
    next_ranks (g ∷ []) = omega arith
    next_ranks (g ∷ other ∷ others) = omega arith

    next_falls : phase ≡ GivesWay → Falls (happens w (Next 0))
    next_falls gives =
        let e = ap (λ (p : Phase). rank p (length w.queue)) gives in
        let r = next_ranks rs in
        moves_fall (Next 0) (next_of before rs) refl refl (next-bag work_of before rs refl) (omega (arith, e, r))

  run_falls : (g : Guest) (others : List Guest) (m : ℕ) → slice_get w.cores 0 ≡ Some (g ∷ others) → g.stop ≡ None
      → g.state.turns ≤ 64 * g.config.budget → Falls (happens w (Run 0 (suc m)))
  run_falls g others m get goes few =
      let before = scene_of w (g ∷ others) in
      let service = serve g.config g.number (begins g.state g.stop g.journal w.history) (suc m) in
      let risen : HasRisen (g.state.turns + 1) service =
      subst (λ (s : Option Stop). HasRisen (g.state.turns + 1) (serve g.config g.number (begins g.state s g.journal w.history) (suc m)))
      (sym goes) (serve_rises g.config g.number (record { state = g.state; journal = g.journal; history = w.history }) m) in
      let less = works_less g service goes few risen in
      let o = after_service before g others service in
      let at : happens w (Run 0 (suc m)) ≡ comes_to w 0 o = happens_here w (g ∷ others) (Run 0 (suc m)) get in
      let here = served-bag work_of before g others service refl in
      let there = scene-there work_of w 0 (g ∷ others) o.scene get in
      subst Falls (sym at) (by_work (with_scene w 0 o.scene) (phase_after o.answer)
      (sym (ap (λ (x : Happened). length (threads_of x.world)) at) ∙ as_many w (Run 0 (suc m))) (omega (arith, less, here, there)))

  module _ (program : Program) (h : IsKept program w) (c : HasCore w)
      (few : (g : Guest) → Stands program w.config w.history g → g.stop ≡ None → g.state.turns ≤ 64 * g.config.budget) where
    run_case : (rs : List Guest) (slice : ℕ) → slice_get w.cores 0 ≡ Some rs → 0 < length rs → 1 ≤ slice → Falls (happens w (Run 0 slice))
    run_case [] slice get some one = absurd (omega (arith, some))
    run_case (g ∷ others) zero get some one = absurd (omega (arith, one))
    run_case (g ∷ others) (suc m) get some one =
        let goes = (core_here HasGone w.cores 0 (g ∷ others) get h.resident).0 in
        let parts = parts_of (Stands program w.config w.history) w h.each in
        let stands = (core_here (Stands program w.config w.history) w.cores 0 (g ∷ others) get parts.cores).0 in
        run_falls g others m get goes (few g stands goes)

    fetch_case : (queue : List Guest) → w.queue ≡ queue → 0 < length queue → length c.residents < places → Falls (happens w (Fetch 0))
    fetch_case [] front some room = absurd (omega (arith, some))
    fetch_case (g ∷ queue) front some room = fetch_falls c.residents c.first g queue front room

    falls_by : (e : WorldEvent) → 1 ≤ w.config.slice → Comes phase w.config.slice (length w.queue) (length c.residents) e
        → Falls (happens w e)
    falls_by e one (Fetches is some room) = subst (λ (x : WorldEvent). Falls (happens w x)) (sym is) (fetch_case w.queue refl some room)
    falls_by e one (Runs is some) =
        subst (λ (x : WorldEvent). Falls (happens w x)) (sym is) (run_case c.residents w.config.slice c.first some one)
    falls_by e one (Offers is gives) = subst (λ (x : WorldEvent). Falls (happens w x)) (sym is) (offer_falls c.residents c.first gives)
    falls_by e one (Nexts is gives) = subst (λ (x : WorldEvent). Falls (happens w x)) (sym is) (next_falls c.residents c.first gives)

    came : (e : WorldEvent) → serial_event w phase ≡ Some e → Comes phase w.config.slice (length w.queue) (length c.residents) e
    came e is =
        comes_in phase w.config.slice (length w.queue) (length c.residents) e
        (ap (λ (found : Option (List Guest)). event_in phase w.config.slice (length w.queue) (length (residents_at found)))
        (sym c.first) ∙ is)

    pub falls : (e : WorldEvent) → 1 ≤ w.config.slice → serial_event w phase ≡ Some e → Falls (happens w e)
    falls e one is = falls_by e one (came e is)

    pub on_first : (e : WorldEvent) → serial_event w phase ≡ Some e → core_number e ≡ 0
    on_first e is = on_core_0 phase w.config.slice (length w.queue) (length c.residents) e (came e is)
