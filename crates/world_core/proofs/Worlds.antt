-- Each event keeps a world: each thread is in it once, the history is legal, and each thread stands.
use Rattle.std.proofs.Common.{◌≡◌, ◌≢◌, ℕ, zero, suc, ◌+◌, ◌<◌, ◌≤◌, ◌++◌, ◌==◌, if◌then◌else◌, Bool, true, false, cond, List, [], ◌∷◌}
use Rattle.std.proofs.Common.{length, map, refl, ap, sym, ◌∙◌, subst, arith, Option, Some, None, ◌⊎◌, inl, inr}
use Rattle.std.specs.Prelude.{slice_get, slice_set, nat_le, nat_lt, replicate, All, is_some}
use Rattle.std.specs.List.{range_with_len}
use Rattle.std.specs.List.{AllByRecursion as Each}
use Rattle.std.proofs.lemmas.List.{map-id}
use Rattle.std.proofs.lemmas.List.Elements.{All-nil}
use Rattle.std.proofs.lemmas.Bool.Decides.{nat_tests}
use Rattle.sm_types.specs.declared.config.Config.{Config}
use Rattle.std.proofs.lemmas.Option.{none-some}
use Rattle.sm_types.specs.declared.shared_words.Entry.{Entry}
use Rattle.sm_types.specs.declared.stop.Stop.{Stop}
use Rattle.shared_region.specs.History.{IsLegal, part_of}
use Rattle.paged_memory.specs.Image.{Program}
use Rattle.kernel_contexts.specs.State.{start_state}
use Rattle.kernel_contexts.proofs.Kept.{run_begins}
use Rattle.core_unit.specs.CoreState.{places}
use Rattle.kernel_contexts.specs.Guest.{Guest}
use Rattle.world_core.specs.Events.{core_number}
use Rattle.world_core.specs.Happens.{Scene, happens, happens_on, on_core, run_of, next_of, fetch_of, fetched, offer_of}
use Rattle.world_core.specs.Happens.{after_service, moved, refused, with_scene, scene_of, world_after}
use Rattle.world_core.specs.Kept.{Stands, Goes, IsKept}
use Rattle.world_core.specs.Kept.{HasStopped as HasEnded}
use Rattle.world_core.specs.Serve.{Progress, Service, Going, GaveWay, HasStopped, serve, begins}
use Rattle.thread_lists.specs.Counts.{total, occurrences, once_below}
use Rattle.thread_lists.proofs.Sums.{range-once}
use Rattle.world_core.specs.World.{World, threads_of, residents_of, start_world, starting, times, IsOwned}
use Rattle.sm_types.specs.declared.world_event.WorldEvent.{WorldEvent}
use Rattle.sm_types.specs.declared.world_event.WorldEvent.TheVariants as event
use Rattle.world_core.specs.declared.event.Why.{Why}
use Rattle.world_core.specs.declared.event.Why.TheVariants.{CoreFull}
use Rattle.std.proofs.lemmas.List.FromFn.{length-map-range_with_len}
use Rattle.world_core.specs.Parts.{HasRoom}
use Rattle.world_core.proofs.Bags.{total_ones, occurrences-numbers, owned_on, threads-bag, total-set, one_of_itself, once_at_most}
use Rattle.world_core.proofs.Eachs.{each_map, each_last, core_here, core_set, core_more, core_none, EachPart, parts_of, parts_all}
use Rattle.world_core.proofs.Eachs.{each_apart}
use Rattle.world_core.proofs.Keeps.{Keeps, KeepsService, keeps, begins_kept}

-- ---- an event that moves threads, or is not enabled

module _ (P : Guest → Type 0) where
  -- the threads of a core and of the queue
  record EachIn (s : Scene) : Type 0 where
    pub residents : Each P s.residents
    pub queue : Each P s.queue

  next_each : (s : Scene) (rs : List Guest) → Each P rs → EachIn s → EachIn (next_of s rs).scene
  next_each s [] mine h = h
  next_each s (g ∷ []) mine h = h
  next_each s (g ∷ other ∷ others) mine h =
      record { residents = each_last P (other ∷ others) g mine.1 mine.0; queue = h.queue }

  fetched_each : (s : Scene) (queue : List Guest) → Each P queue → EachIn s → EachIn (fetched s queue).scene
  fetched_each s [] mine h = h
  fetched_each s (g ∷ queue) mine h =
      record { residents = each_last P s.residents g h.residents mine.0; queue = mine.1 }

  full_each : (full : Bool) (s : Scene) (refusal : Why) → EachIn s → EachIn (cond full (refused s refusal) (fetched s s.queue)).scene
  full_each true s refusal h = h
  full_each false s refusal h = fetched_each s s.queue h.queue h

  offer_each : (s : Scene) (rs : List Guest) → Each P rs → EachIn s → EachIn (offer_of s rs).scene
  offer_each s [] mine h = h
  offer_each s (g ∷ others) mine h = record { residents = mine.1; queue = each_last P s.queue g h.queue mine.0 }

  -- the threads of a world where a core has changed
  there : (w : World) (core : ℕ) (s : Scene) → EachPart P w → EachIn s → Each P s.done → EachPart P (with_scene w core s)
  there w core s h k done =
      record { queue = k.queue; cores = core_set P w.cores core s.residents h.cores k.residents; done = done }

  here : (w : World) (core : ℕ) (rs : List Guest) → slice_get w.cores core ≡ Some rs → EachPart P w → EachIn (scene_of w rs)
  here w core rs get h = record { residents = core_here P w.cores core rs get h.cores; queue = h.queue }

is_below : (t threads : ℕ) → once_below t threads ≡ 1 → t < threads
is_below t threads e = below (nat_lt t threads) refl e where
  below : (b : Bool) → nat_lt t threads ≡ b → ◌≡◌ {A = ℕ} (if b then 1 else 0) 1 → t < threads
  below true test e = grind (arith, nat_tests)
  below false test e = absurd (omega (arith, e))

-- what an event on a core leaves of a world
pub record IsLeft (program : Program) (w : World) (core : ℕ) (s : Scene) : Type 0 where
  pub each : Each (Stands program w.config s.history) (threads_of (with_scene w core s))
  pub queued : Each Goes s.queue
  pub resident : Each Goes (residents_of (slice_set w.cores core s.residents))
  pub stopped : Each HasEnded s.done
  pub legal : IsLegal s.history
  pub alone : All (λ e. e.thread < w.config.threads) s.history

-- ---- the turns of a first resident

module _ (program : Program) (w : World) (core : ℕ) (g : Guest) (others : List Guest) (get : slice_get w.cores core ≡ Some (g ∷ others))
    (h : IsKept program w) where
  abbrev stands : List Entry → Guest → Type 0
  stands history x = Stands program w.config history x

  abbrev left : World
  left = with_scene w core (record { residents = others; queue = w.queue; done = w.done; history = w.history })

  parts : EachPart (stands w.history) w
  parts = parts_of (stands w.history) w h.each

  mine : stands w.history g
  mine = (core_here (stands w.history) w.cores core (g ∷ others) get parts.cores).0

  -- the others have other numbers, and this one is one of the options' threads
  abbrev apart : Guest → Type 0
  apart x = stands w.history x × (x.number ≢ g.number)

  abbrev mine_only : Guest → ℕ
  mine_only x = if x.number == g.number then 1 else 0

  there_once : (times g.number (threads_of left) ≡ 0) × (once_below g.number w.config.threads ≡ 1)
  there_once =
      let all = h.owned g.number in
      let a = threads-bag mine_only w in
      let b = threads-bag mine_only left in
      let c = total-set (λ gs. total mine_only gs) w.cores core (g ∷ others) others get in
      let one = one_of_itself g.number in
      let most = once_at_most g.number w.config.threads in
      (omega (arith, all, a, b, c, one, most), omega (arith, all, a, b, c, one, most))

  left_stand : Each (stands w.history) (threads_of left)
  left_stand = parts_all (stands w.history) left (record {
    queue = parts.queue;
    cores = core_set (stands w.history) w.cores core others parts.cores
        (core_here (stands w.history) w.cores core (g ∷ others) get parts.cores).1;
    done = parts.done;
  })

  left_parts : (history : List Entry) → ((t : ℕ) → t ≢ g.number → part_of t history ≡ part_of t w.history)
      → EachPart (stands history) left
  left_parts history same =
      parts_of (stands history) left (each_map apart (stands history) (threads_of left)
      (λ x k. record { started = k.0.started; options = k.0.options; part = same x.number k.1 ∙ k.0.part; run = k.0.run })
      (each_apart (stands w.history) g.number (threads_of left) there_once.0 left_stand))

  module _ (p : Progress) (stop : Option Stop) (k : Keeps program w.config g.number w.history p stop) where
    moved_stands : stands p.history (moved g p stop)
    moved_stands = record { started = mine.started; options = mine.options; part = k.part; run = k.run }

    rest : EachPart (stands p.history) left
    rest = left_parts p.history k.others

    none_else : All (λ e. e.thread < w.config.threads) p.history
    none_else = k.alone w.config.threads (is_below g.number w.config.threads there_once.1) h.alone

    others_go : Each Goes (residents_of (slice_set w.cores core others))
    others_go = core_set Goes w.cores core others h.resident (core_here Goes w.cores core (g ∷ others) get h.resident).1

    stays : stop ≡ None
        → IsLeft program w core (record { residents = moved g p stop ∷ others; queue = w.queue; done = w.done; history = p.history })
    stays goes = record {
      each = parts_all (stands p.history) (with_scene w core (record {
        residents = moved g p stop ∷ others;
        queue = w.queue;
        done = w.done;
        history = p.history;
      })) (record {
        queue = rest.queue;
        cores = core_more (stands p.history) w.cores core (moved g p stop) others moved_stands rest.cores;
        done = rest.done;
      });
      queued = h.queued;
      resident = core_more Goes w.cores core (moved g p stop) others goes others_go;
      stopped = h.stopped;
      legal = k.legal;
      alone = none_else;
    }

    leaves : is_some stop ≡ true → IsLeft program w core (record {
      residents = others;
      queue = w.queue;
      done = w.done ++ moved g p stop ∷ [];
      history = p.history;
    })
    leaves some = record {
      each = parts_all (stands p.history) (with_scene w core (record {
        residents = others;
        queue = w.queue;
        done = w.done ++ moved g p stop ∷ [];
        history = p.history;
      })) (record {
        queue = rest.queue;
        cores = rest.cores;
        done = each_last (stands p.history) w.done (moved g p stop) rest.done moved_stands;
      });
      queued = h.queued;
      resident = others_go;
      stopped = each_last HasEnded w.done (moved g p stop) h.stopped some;
      legal = k.legal;
      alone = none_else;
    }

  served_kept : (service : Service) → KeepsService program w.config g.number w.history service
      → IsLeft program w core (after_service (scene_of w (g ∷ others)) g others service).scene
  served_kept (Going p) k = stays p None k refl
  served_kept (GaveWay p) k = stays p None k refl
  served_kept (HasStopped p stop) k = leaves p (Some stop) k refl

  pub run_kept : (k : ℕ) → IsLeft program w core (run_of k (scene_of w (g ∷ others)) (g ∷ others)).scene
  run_kept k =
      subst (λ (c : Config). IsLeft program w core (after_service (scene_of w (g ∷ others)) g others
      (serve c g.number (begins g.state g.stop g.journal w.history) k)).scene) (sym mine.options)
      (served_kept (serve w.config g.number (begins g.state g.stop g.journal w.history) k)
      (keeps program w.config g.number w.history (begins g.state g.stop g.journal w.history) k
      (begins_kept program w.config g.number g.state g.stop g.journal w.history h.legal mine.part mine.run)))

-- ---- every event

module _ (program : Program) (w : World) (h : IsKept program w) where
  abbrev P : Guest → Type 0
  P = Stands program w.config w.history

  by_moves : (core : ℕ) (s : Scene) → s.history ≡ w.history → s.done ≡ w.done → EachIn P s → Each Goes s.queue → Each Goes s.residents
      → IsLeft program w core s
  by_moves core s same done k queued resident =
      let was = parts_of P w h.each in
      let e = parts_all P (with_scene w core s) (there P w core s was k (subst (Each P) (sym done) was.done)) in
      record {
        each = subst (λ (l : List Entry). Each (Stands program w.config l) (threads_of (with_scene w core s))) (sym same) e;
        queued = queued;
        resident = core_set Goes w.cores core s.residents h.resident resident;
        stopped = subst (Each HasEnded) (sym done) h.stopped;
        legal = subst IsLegal (sym same) h.legal;
        alone = subst (All (λ e. e.thread < w.config.threads)) (sym same) h.alone;
      }

  run_here : (core k : ℕ) (rs : List Guest) → slice_get w.cores core ≡ Some rs → IsLeft program w core (run_of k (scene_of w rs) rs).scene
  run_here core k [] get = by_moves core (scene_of w []) refl refl (here P w core [] get (parts_of P w h.each)) h.queued tt
  run_here core k (g ∷ others) get = run_kept program w core g others get h k

  abbrev IsSame : Scene → Scene → Type 0
  IsSame s t = (t.history ≡ s.history) × (t.done ≡ s.done)

  same_next : (s : Scene) (rs : List Guest) → IsSame s (next_of s rs).scene
  same_next s [] = (refl, refl)
  same_next s (g ∷ []) = (refl, refl)
  same_next s (g ∷ other ∷ others) = (refl, refl)

  same_fetched : (s : Scene) (queue : List Guest) → IsSame s (fetched s queue).scene
  same_fetched s [] = (refl, refl)
  same_fetched s (g ∷ queue) = (refl, refl)

  same_full : (full : Bool) (s : Scene) (refusal : Why) → IsSame s (cond full (refused s refusal) (fetched s s.queue)).scene
  same_full true s refusal = (refl, refl)
  same_full false s refusal = same_fetched s s.queue

  same_offer : (s : Scene) (rs : List Guest) → IsSame s (offer_of s rs).scene
  same_offer s [] = (refl, refl)
  same_offer s (g ∷ others) = (refl, refl)

  going : (rs : List Guest) (core : ℕ) → slice_get w.cores core ≡ Some rs → Each Goes rs
  going rs core get = core_here Goes w.cores core rs get h.resident

  going_in : (rs : List Guest) (core : ℕ) → slice_get w.cores core ≡ Some rs → EachIn Goes (scene_of w rs)
  going_in rs core get = record { residents = going rs core get; queue = h.queued }

  left_here : (e : WorldEvent) (rs : List Guest) → slice_get w.cores (core_number e) ≡ Some rs
      → IsLeft program w (core_number e) (on_core e (scene_of w rs)).scene
  left_here (event.Run core k) rs get = run_here core k rs get
  left_here (event.Next core) rs get =
      let all = here P w core rs get (parts_of P w h.each) in
      let same = same_next (scene_of w rs) rs in
      let go = next_each Goes (scene_of w rs) rs (going rs core get) (going_in rs core get) in
      by_moves core (next_of (scene_of w rs) rs).scene same.0 same.1 (next_each P (scene_of w rs) rs all.residents all)
      go.queue go.residents
  left_here (event.Fetch core) rs get =
      let all = here P w core rs get (parts_of P w h.each) in
      let same = same_full (nat_le places (length rs)) (scene_of w rs) (CoreFull (length rs)) in
      let go = full_each Goes (nat_le places (length rs)) (scene_of w rs) (CoreFull (length rs)) (going_in rs core get) in
      by_moves core (fetch_of (scene_of w rs)).scene same.0 same.1
      (full_each P (nat_le places (length rs)) (scene_of w rs) (CoreFull (length rs)) all) go.queue go.residents
  left_here (event.Offer core) rs get =
      let all = here P w core rs get (parts_of P w h.each) in
      let same = same_offer (scene_of w rs) rs in
      let go = offer_each Goes (scene_of w rs) rs (going rs core get) (going_in rs core get) in
      by_moves core (offer_of (scene_of w rs) rs).scene same.0 same.1 (offer_each P (scene_of w rs) rs all.residents all)
      go.queue go.residents

  on : (e : WorldEvent) (found : Option (List Guest)) → slice_get w.cores (core_number e) ≡ found
      → IsOwned (happens_on w e found).world → IsKept program (happens_on w e found).world
  on e None get owned = h
  on e (Some rs) get owned =
      let k = left_here e rs get in
      record {
        owned = owned;
        each = k.each;
        queued = k.queued;
        resident = k.resident;
        stopped = k.stopped;
        legal = k.legal;
        alone = k.alone;
      }

  pub event_kept : (e : WorldEvent) → IsKept program (happens w e).world
  unfolding happens
  event_kept e = on e (slice_get w.cores (core_number e)) refl (owned_on w e h.owned)

-- ---- the start

range_once : (program : Program) (config : Config) (t n : ℕ) → times t (map (starting program config) (range_with_len 0 n)) ≡ once_below t n
range_once program config t n =
    sym (occurrences-numbers (starting program config) t (range_with_len 0 n)) ∙ ap (occurrences t) (map-id (range_with_len 0 n))
    ∙ range-once t n

none_resident : (f : Guest → ℕ) (n : ℕ) → total (λ gs. total f gs) (replicate n []) ≡ 0
none_resident f zero = refl
none_resident f (suc n) = let h = none_resident f n in omega (arith, h)

pub start_owned : (program : Program) (config : Config) → IsOwned (start_world program config)
start_owned program config = λ t.
    let f : Guest → ℕ = λ g. if g.number == t then 1 else 0 in
    let a = threads-bag f (start_world program config) in
    let b = range_once program config t config.threads in
    let c = none_resident f config.cores in
    omega (arith, a, b, c)

start_each : (program : Program) (config : Config) (a n : ℕ)
    → Each (Stands program config []) (map (starting program config) (range_with_len a n))
unfolding part_of
start_each program config a zero = tt
start_each program config a (suc n) = (
  record {
    started = refl;
    options = refl;
    part = refl;
    run = run_begins program config a [] (start_state program config a) None refl refl refl;
  },
  start_each program config (a + 1) n,
)

start_going : (program : Program) (config : Config) (a n : ℕ) → Each Goes (map (starting program config) (range_with_len a n))
start_going program config a zero = tt
start_going program config a (suc n) = (refl, start_going program config (a + 1) n)

pub start_room : (program : Program) (config : Config) (w : World) (queue done : ℕ) → w ≡ start_world program config
    → config.threads ≤ queue → config.threads ≤ done → HasRoom w queue done
start_room program config w queue done is q d =
    let a = total_ones (threads_of w) in
    let b = threads-bag (λ g. 1) w in
    let c = ap (λ (v : World). total (λ (g : Guest). 1) v.queue) is in
    let e = ap (λ (v : World). total (λ gs. total (λ (g : Guest). 1) gs) v.cores) is in
    let f = ap (λ (v : World). total (λ (g : Guest). 1) v.done) is in
    let n = none_resident (λ g. 1) config.cores in
    let m = total_ones (map (starting program config) (range_with_len 0 config.threads)) in
    let l = length-map-range_with_len (starting program config) 0 config.threads in
    record { queue_room = omega (arith, a, b, c, e, f, n, m, l, q); done_room = omega (arith, a, b, c, e, f, n, m, l, d) }

pub start_kept : (program : Program) (config : Config) → IsKept program (start_world program config)
start_kept program config = record {
  owned = start_owned program config;
  legal = λ i e get. absurd (none-some e get);
  queued = start_going program config 0 config.threads;
  resident = core_none Goes config.cores;
  stopped = tt;
  alone = All-nil (λ e. e.thread < config.threads);
  each = parts_all (Stands program config []) (start_world program config) (record {
    queue = start_each program config 0 config.threads;
    cores = core_none (Stands program config []) config.cores;
    done = tt;
  });
}

pub events_kept : (program : Program) (w : World) (es : List WorldEvent) → IsKept program w → IsKept program (world_after w es)
unfolding world_after
events_kept program w [] h = h
events_kept program w (e ∷ es) h = events_kept program (happens w e).world es (event_kept program w h e)
