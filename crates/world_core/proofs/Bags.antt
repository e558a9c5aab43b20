-- The threads of a world, counted: an event moves them, and loses and doubles none.
use Rattle.std.proofs.Common.{◌≡◌, ◌≢◌, ℕ, zero, suc, ◌+◌, ◌<◌, ◌≤◌, ◌++◌, ◌==◌, if◌then◌else◌, Bool, true, false, cond, List, [], ◌∷◌}
use Rattle.std.proofs.Common.{length, map, refl, ap, sym, ◌∙◌, subst, arith, Option, Some, None}
use Rattle.std.specs.Prelude.{slice_get, slice_set, nat_le, nat_lt, All}
use Rattle.std.proofs.lemmas.Bool.Decides.{nat_tests}
use Rattle.std.proofs.lemmas.List.Elements.{All-cons, All-nil}
use Rattle.std.proofs.lemmas.Option.{same_Some, none-some}
use Rattle.core_unit.specs.CoreState.{places}
use Rattle.kernel_contexts.specs.Guest.{Guest}
use Rattle.core_unit.specs.Held.{Held}
use Rattle.core_unit.specs.declared.run.RunWhy.{RunWhy}
use Rattle.core_unit.specs.declared.run.RunWhy.TheVariants as why
use Rattle.world_core.specs.Applies.{Applies, RunsBy, Comes, LetsMore, spends}
use Rattle.world_core.specs.Events.{core_number, cut_to}
use Rattle.world_core.specs.Happens.{Scene, Happened, happens, happens_on, on_core, run_of, next_of, fetched, offer_of}
use Rattle.world_core.specs.Happens.{after_service, moved, refused, with_scene, scene_of}
use Rattle.world_core.specs.declared.event.Why.{Why}
use Rattle.sm_types.specs.declared.config.Config.{Config}
use Rattle.world_core.specs.Parts.{HasRoom, guests_in}
use Rattle.world_core.specs.Serve.{Service, Going, GaveWay, HasStopped, serve, begins}
use Rattle.thread_lists.specs.Counts.{total, occurrences, once_below}
use Rattle.thread_lists.proofs.Sums.{total-append}
use Rattle.world_core.specs.World.{World, threads_of, residents_of, times, IsOwned}
use Rattle.sm_types.specs.declared.world_event.WorldEvent.{WorldEvent}
use Rattle.sm_types.specs.declared.world_event.WorldEvent.TheVariants as event
use Rattle.world_core.specs.declared.event.Applied.{Applied}
use Rattle.world_core.specs.declared.event.Applied.TheVariants as applied

pub total-set : {A : Type 0} (f : A → ℕ) (xs : List A) (i : ℕ) (x y : A) → slice_get xs i ≡ Some x
    → total f (slice_set xs i y) + f x ≡ total f xs + f y
total-set f [] i x y get = absurd (none-some x get)
total-set f (z ∷ zs) zero x y get = let e = ap f (same_Some z x get) in omega (arith, e)
total-set f (z ∷ zs) (suc i) x y get = let h = total-set f zs i x y get in omega (arith, h)

pub total_has : {A : Type 0} (f : A → ℕ) (xs : List A) (i : ℕ) (x : A) → slice_get xs i ≡ Some x → f x ≤ total f xs
total_has f [] i x get = absurd (none-some x get)
total_has f (z ∷ zs) zero x get = let e = ap f (same_Some z x get) in omega (arith, e)
total_has f (z ∷ zs) (suc i) x get = let h = total_has f zs i x get in omega (arith, h)

pub total_ones : {A : Type 0} (xs : List A) → total (λ x. 1) xs ≡ length xs
total_ones [] = refl
total_ones (x ∷ xs) = let h = total_ones xs in omega (arith, h)

-- a number is as often among the threads' numbers as a thread of this number is among the threads
pub occurrences-numbers : {X : Type 0} (guest : X → Guest) (t : ℕ) (xs : List X)
    → occurrences t (map (λ x. (guest x).number) xs) ≡ times t (map guest xs)
occurrences-numbers guest t [] = refl
occurrences-numbers guest t (x ∷ xs) = let rest = occurrences-numbers guest t xs in omega (arith, rest)

-- the first resident after its turns
abbrev pub served_guest : Guest → Service → Guest
served_guest g (Going p) = moved g p None
served_guest g (GaveWay p) = moved g p None
served_guest g (HasStopped p stop) = moved g p (Some stop)

module _ (f : Guest → ℕ) where
  abbrev pub cores_bag : List (List Guest) → ℕ
  cores_bag cores = total (λ gs. total f gs) cores

  abbrev pub scene_bag : Scene → ℕ
  scene_bag s = total f s.residents + total f s.queue + total f s.done

  bag_one : (gs : List Guest) (g : Guest) → total f (gs ++ g ∷ []) ≡ total f gs + f g
  bag_one gs g = let h = total-append f gs (g ∷ []) in omega (arith, h)

  residents-bag : (cores : List (List Guest)) → total f (residents_of cores) ≡ cores_bag cores
  residents-bag [] = refl
  residents-bag (gs ∷ cores) =
      let h = residents-bag cores in let e = total-append f gs (residents_of cores) in omega (arith, h, e)

  pub threads-bag : (w : World) → total f (threads_of w) ≡ total f w.queue + cores_bag w.cores + total f w.done
  threads-bag w =
      let a = total-append f (w.queue ++ residents_of w.cores) w.done in
      let b = total-append f w.queue (residents_of w.cores) in
      let h = residents-bag w.cores in omega (arith, a, b, h)

  -- ---- an event on a core

  pub served-bag : (s : Scene) (g : Guest) (others : List Guest) (service : Service) → s.residents ≡ g ∷ others
      → scene_bag (after_service s g others service).scene + f g ≡ scene_bag s + f (served_guest g service)
  served-bag s g others (Going p) is = let e = ap (total f) is in omega (arith, e)
  served-bag s g others (GaveWay p) is = let e = ap (total f) is in omega (arith, e)
  served-bag s g others (HasStopped p stop) is =
      let e = ap (total f) is in let h = bag_one s.done (moved g p (Some stop)) in omega (arith, e, h)

  pub next-bag : (s : Scene) (rs : List Guest) → s.residents ≡ rs → scene_bag (next_of s rs).scene ≡ scene_bag s
  next-bag s [] is = refl
  next-bag s (g ∷ []) is = refl
  next-bag s (g ∷ other ∷ others) is =
      let e = ap (total f) is in let h = bag_one (other ∷ others) g in omega (arith, e, h)

  pub fetched-bag : (s : Scene) (queue : List Guest) → s.queue ≡ queue → scene_bag (fetched s queue).scene ≡ scene_bag s
  fetched-bag s [] is = refl
  fetched-bag s (g ∷ queue) is = let e = ap (total f) is in let h = bag_one s.residents g in omega (arith, e, h)

  pub full-bag : (full : Bool) (s : Scene) (refusal : Why)
      → scene_bag (cond full (refused s refusal) (fetched s s.queue)).scene ≡ scene_bag s
  full-bag true s refusal = refl
  full-bag false s refusal = fetched-bag s s.queue refl

  pub offer-bag : (s : Scene) (rs : List Guest) → s.residents ≡ rs → scene_bag (offer_of s rs).scene ≡ scene_bag s
  offer-bag s [] is = refl
  offer-bag s (g ∷ others) is = let e = ap (total f) is in let h = bag_one s.queue g in omega (arith, e, h)

  -- the number of the threads changes as that of a core with the queue and the threads that are done
  pub scene-there : (w : World) (i : ℕ) (rs : List Guest) (s : Scene) → slice_get w.cores i ≡ Some rs
      → total f (threads_of (with_scene w i s)) + scene_bag (scene_of w rs) ≡ total f (threads_of w) + scene_bag s
  scene-there w i rs s get =
      let c = total-set (λ gs. total f gs) w.cores i rs s.residents get in
      let a = threads-bag (with_scene w i s) in
      let b = threads-bag w in omega (arith, c, a, b)

-- what goes by the threads' numbers alone
module _ (f : ℕ → ℕ) where
  abbrev pub by_number : Guest → ℕ
  by_number g = f g.number

  same_number : (g : Guest) (service : Service) → by_number (served_guest g service) ≡ by_number g
  same_number g (Going p) = refl
  same_number g (GaveWay p) = refl
  same_number g (HasStopped p stop) = refl

  run-bag : (k : ℕ) (s : Scene) (rs : List Guest) → s.residents ≡ rs → scene_bag by_number (run_of k s rs).scene ≡ scene_bag by_number s
  run-bag k s [] is = refl
  run-bag k s (g ∷ others) is =
      let service = serve g.config g.number (begins g.state g.stop g.journal s.history) k in
      let h = served-bag by_number s g others service is in
      let same = same_number g service in omega (arith, h, same)

  on_core-bag : (e : WorldEvent) (s : Scene) → scene_bag by_number (on_core e s).scene ≡ scene_bag by_number s
  on_core-bag (event.Run core k) s = run-bag k s s.residents refl
  on_core-bag (event.Next core) s = next-bag by_number s s.residents refl
  on_core-bag (event.Fetch core) s = full-bag by_number (nat_le places (length s.residents)) s _
  on_core-bag (event.Offer core) s = offer-bag by_number s s.residents refl

  happens_on-bag : (w : World) (e : WorldEvent) (found : Option (List Guest)) → slice_get w.cores (core_number e) ≡ found
      → total by_number (threads_of (happens_on w e found).world) ≡ total by_number (threads_of w)
  happens_on-bag w e None get = refl
  happens_on-bag w e (Some rs) get =
      let h = on_core-bag e (scene_of w rs) in
      let t = scene-there by_number w (core_number e) rs (on_core e (scene_of w rs)).scene get in omega (arith, h, t)

  pub happens-bag : (w : World) (e : WorldEvent) → total by_number (threads_of (happens w e).world) ≡ total by_number (threads_of w)
  unfolding happens
  happens-bag w e = happens_on-bag w e (slice_get w.cores (core_number e)) refl

pub happens-config : (w : World) (e : WorldEvent) → (happens w e).world.config ≡ w.config
unfolding happens
happens-config w e = on (slice_get w.cores (core_number e)) where
  on : (found : Option (List Guest)) → (happens_on w e found).world.config ≡ w.config
  on None = refl
  on (Some rs) = refl

-- an event that was applied leads to a world of the plain ones
abbrev LeadsTo : World → World → Type 0
LeadsTo w new = (e : WorldEvent) × (new ≡ (happens w e).world)

ran_leads : (w new : World) (e cut : WorldEvent) (answer all : Applied) (turns : ℕ) (reason : RunWhy)
    → RunsBy (Comes e w new answer) (Comes cut w new all × LetsMore e turns) reason → LeadsTo w new
ran_leads w new e cut answer all turns why.Spent h = (e, sym (ap (λ (x : Happened). x.world) h))
ran_leads w new e cut answer all turns why.Yielded h = (e, sym (ap (λ (x : Happened). x.world) h))
ran_leads w new e cut answer all turns why.Stopped h = (e, sym (ap (λ (x : Happened). x.world) h))
ran_leads w new e cut answer all turns why.Idle h = absurd h
ran_leads w new e cut answer all turns why.TraceEnds h = absurd h
ran_leads w new e cut answer all turns why.TraceDiffers h = absurd h
ran_leads w new e cut answer all turns why.Memory h = (cut, sym (ap (λ (x : Happened). x.world) h.0))

pub leads : (w new : World) (e : WorldEvent) (answer : Applied) → Applies e w new answer → LeadsTo w new
leads w new e applied.Done h = (e, sym (ap (λ (x : Happened). x.world) h))
leads w new e (applied.Ran run) h = ran_leads w new e (cut_to e run.turns) (applied.Ran run) (spends run.turns) run.turns run.why h
leads w new e (applied.NotEnabled reason) h = (e, sym (ap (λ (x : Happened). x.world) h))

pub owned_on : (w : World) (e : WorldEvent) → IsOwned w → IsOwned (happens w e).world
owned_on w e h = λ t.
    happens-bag (λ n. if n == t then 1 else 0) w e ∙ h t ∙ ap (λ (c : Config). once_below t c.threads) (sym (happens-config w e))

pub owned_after : (w new : World) (e : WorldEvent) (answer : Applied) → Applies e w new answer → IsOwned w → IsOwned new
owned_after w new e answer h owned =
    let l = leads w new e answer h in subst IsOwned (sym l.1) (owned_on w l.0 owned)

room_on : (w : World) (e : WorldEvent) (queue done : ℕ) → HasRoom w queue done → HasRoom (happens w e).world queue done
room_on w e queue done h =
    let a = total_ones (threads_of (happens w e).world) in
    let b = total_ones (threads_of w) in
    let c = happens-bag (λ n. 1) w e in
    record { queue_room = omega (arith, a, b, c, h.queue_room); done_room = omega (arith, a, b, c, h.done_room) }

pub room_after : (w new : World) (e : WorldEvent) (answer : Applied) (queue done more most : ℕ) → Applies e w new answer
    → HasRoom w queue done → more ≡ queue → most ≡ done → HasRoom new more most
room_after w new e answer queue done more most h room q d =
    let l = leads w new e answer h in
    let r = subst (λ (x : World). HasRoom x queue done) (sym l.1) (room_on w l.0 queue done room) in
    record { queue_room = omega (arith, r.queue_room, q); done_room = omega (arith, r.done_room, d) }

-- ---- what a world that has each thread once knows of a core

pub room_more : (w : World) (i : ℕ) (rs : List Guest) (queue done : ℕ) → HasRoom w queue done → slice_get w.cores i ≡ Some rs
    → 0 < length rs → (length w.queue < queue) × (length w.done < done)
room_more w i rs queue done room get some =
    let all = total_ones (threads_of w) in
    let parts = threads-bag (λ g. 1) w in
    let here = total_has (λ gs. total (λ (g : Guest). 1) gs) w.cores i rs get in
    let a = total_ones rs in
    let b = total_ones w.queue in
    let c = total_ones w.done in
    (omega (arith, room.queue_room, all, parts, here, a, b, c, some), omega (arith, room.done_room, all, parts, here, a, b, c, some))

pub once_at_most : (t threads : ℕ) → once_below t threads ≤ 1
once_at_most t threads = elim (nat_lt t threads) as (λ b. (if b then 1 else 0) ≤ 1) [ true ↦ omega arith | false ↦ omega arith ]

pub one_of_itself : (n : ℕ) → ◌≡◌ {A = ℕ} (if n == n then 1 else 0) 1
one_of_itself n = grind (arith, nat_tests)

-- the thread at the queue's front is in no core
pub absent_there : (w : World) (i : ℕ) (rs queue : List Guest) (g : Guest) → IsOwned w → w.queue ≡ g ∷ queue
    → slice_get w.cores i ≡ Some rs → times g.number rs ≡ 0
absent_there w i rs queue g owned front get =
    let f : Guest → ℕ = λ x. if x.number == g.number then 1 else 0 in
    let all = owned g.number in
    let parts = threads-bag f w in
    let here = total_has (λ gs. total f gs) w.cores i rs get in
    let one = one_of_itself g.number in
    let first = ap (total f) front in
    let most = once_at_most g.number w.config.threads in
    omega (arith, all, parts, here, one, first, most)

pub other_number : (n t : ℕ) → ◌≡◌ {A = ℕ} (if n == t then 1 else 0) 0 → n ≢ t
other_number n t e = λ same.
    let one = one_of_itself n in
    let h : ◌≡◌ {A = ℕ} (if n == n then 1 else 0) 0 =
    subst (λ (m : ℕ). ◌≡◌ {A = ℕ} (if n == m then 1 else 0) 0) (sym same) e in omega (arith, one, h)

pub absent_in : {T : Type 0} (hs : List (Held T)) (t : ℕ) → times t (guests_in hs) ≡ 0 → All (λ h. h.guest.number ≢ t) hs
absent_in [] t e = All-nil (λ h. h.guest.number ≢ t)
absent_in (h ∷ hs) t e =
    All-cons (λ x. x.guest.number ≢ t) h hs (other_number h.guest.number t (omega (arith, e))) (absent_in hs t (omega (arith, e)))
