-- What the calls of a core make of what the queue sees of it.
use Rattle.std.proofs.Common.{◌≡◌, ◌≢◌, ℕ, ◌<◌, Bool, true, false, List, [], ◌∷◌, ◌++◌, map, length, refl, sym, ap, ◌∙◌, subst, arith}
use Rattle.std.specs.Prelude.{Option, All}
use Rattle.std.proofs.lemmas.List.{length-append, map_push}
use Rattle.std.proofs.lemmas.List.Elements.{All-nil, All-cons, All-head, All-tail}
use Rattle.std.proofs.lemmas.Option.{none-some}
use Rattle.sm_types.specs.declared.config.Config.{Config}
use Rattle.sm_types.specs.declared.shared_op.SharedOp.{SharedOp}
use Rattle.sm_types.specs.declared.shared_op.Event.{Event}
use Rattle.shared_region.specs.Tickets.{TicketView, Refusals, IsAllowed}
use Rattle.kernel_contexts.specs.Call.{TurnEnd, Goes, Yields, Asks, Ends}
use Rattle.kernel_contexts.specs.Context.{AsksFor}
use Rattle.core_unit.specs.CoreState.{CoreState, with_first, with_last, with_done, IsAbsent, BelongTo}
use Rattle.core_unit.specs.Held.{Held}
use Rattle.core_unit.specs.Run.{RunsCore, RunsWith, RunsHeld, EndsBy, end_of, is_stop, core_after}
use Rattle.core_unit.specs.declared.run.CoreRun.{CoreRun}
use Rattle.core_unit.specs.declared.run.RunWhy.{RunWhy}
use Rattle.core_unit.specs.declared.run.RunWhy.TheVariants.{Spent, Yielded, Stopped, Idle, TraceEnds, TraceDiffers, Memory}
use Rattle.run_queue.specs.declared.origin.Origin.{Origin}
use Rattle.run_queue.specs.declared.view.PassView.{PassView}
use Rattle.run_queue.specs.Ticketed.{Ticketed, origin_from}
use Rattle.thread_lists.specs.Counts.{occurrences}
use Rattle.run_queue.specs.Passes.{known_threads, after_offer, HasFetched}
use Rattle.run_queue.specs.Rule.{threads_in, AreOf}
use Rattle.thread_lists.proofs.Sums.{mark_same}
use Rattle.smp_runner.specs.Contexts.{ticketed_held, residents_in, stopped_in, IsSameCore, HasStopped, IsSameTicketed, Holds, HoldsWith}
use Rattle.smp_runner.specs.Contexts.{HasEnded, IsOf}
use Rattle.smp_runner.proofs.Holding.{IsFrom, starts, got, goes_on, stops, room, collects, is_held, gives, ends, of_known}

pub same_core : {T : Type 0} (old new : CoreState T) → new ≡ old → IsSameCore old new
same_core old new e = record { number = ap (λ c. c.number) e; config = ap (λ c. c.config) e }

pub then_same : {T : Type 0} (old mid new : CoreState T) → IsSameCore old mid → IsSameCore mid new → IsSameCore old new
then_same old mid new a b = record { number = b.number ∙ a.number; config = b.config ∙ a.config }

-- ---- no run is cut short by a port that refuses nothing but for want of memory

asks_nothing : (end : TurnEnd) (F : SharedOp → Type 0) → ((op : SharedOp) → F op → ⊥) → AsksFor end F → ⊥
asks_nothing (Goes s) F none h = h
asks_nothing (Yields s) F none h = h
asks_nothing (Asks op next) F none h = none op h
asks_nothing (Ends s stop) F none h = h

idle_ends : Idle ≡ TraceEnds → ⊥
idle_ends e = cc

idle_differs : Idle ≡ TraceDiffers → ⊥
idle_differs e = cc

module _ {T : Type 0} (refusals : T → Refusals) (give : ℕ → List Event → T → T → Type 0) (k : ℕ)
    (allowed : (t : T) (op : SharedOp) → IsAllowed (refusals t) op) where
  goes : (hs : List (Held T)) (old new : CoreState T) (run : CoreRun) → RunsWith refusals give k hs old new run → run.why ≢ TraceEnds
  goes [] old new run r e = idle_ends (sym (ap (λ (x : CoreRun). x.why) r.0) ∙ e)
  goes (first ∷ others) old new run r e =
      let end = subst (λ w. EndsBy (refusals r.0.ticket) k first.guest r.0.guest run.turns (end_of w)) e r.1.first.end in
      asks_nothing _ _ (λ op h. (allowed r.0.ticket op).0 h) end.2

  agrees : (hs : List (Held T)) (old new : CoreState T) (run : CoreRun) → RunsWith refusals give k hs old new run → run.why ≢ TraceDiffers
  agrees [] old new run r e = idle_differs (sym (ap (λ (x : CoreRun). x.why) r.0) ∙ e)
  agrees (first ∷ others) old new run r e =
      let end = subst (λ w. EndsBy (refusals r.0.ticket) k first.guest r.0.guest run.turns (end_of w)) e r.1.first.end in
      asks_nothing _ _ (λ op h. (allowed r.0.ticket op).1 h) end.2

  pub never_ends : (old new : CoreState T) (run : CoreRun) → RunsCore refusals give k old new run → run.why ≢ TraceEnds
  never_ends old new run r = goes old.residents old new run r

  pub never_differs : (old new : CoreState T) (run : CoreRun) → RunsCore refusals give k old new run → run.why ≢ TraceDiffers
  never_differs old new run r = agrees old.residents old new run r

module _ {T : Type 0} (tells : T → TicketView) where
  abbrev seen : Held T → Ticketed
  seen h = ticketed_held tells h

  abbrev pub H : PassView → CoreState T → List Ticketed → Type 0
  H v c done = HoldsWith tells v c done

  pub starts_in : (v : PassView) (c : CoreState T) (done : List Ticketed) → v.held ≡ [] → c.residents ≡ [] → c.done ≡ [] → done ≡ [] →
      H v c done
  starts_in v c done held r s d = starts v (residents_in tells c) (stopped_in tells c) done held (ap (map seen) r) (ap (map seen) s) d

  -- ---- fetch

  none_here : (t : ℕ) (hs : List (Held T)) → occurrences t (threads_in (map seen hs)) ≡ 0 → All (λ h. h.guest.number ≢ t) hs
  none_here t [] none = All-nil (λ (h : Held T). h.guest.number ≢ t)
  none_here t (h ∷ hs) none =
      All-cons (λ (y : Held T). y.guest.number ≢ t) h hs (λ same. omega (arith, none, mark_same t h.guest.number same))
      (none_here t hs (omega (arith, none)))

  -- the thread that is fetched is not in the core
  pub absent : (v : PassView) (c : CoreState T) (done : List Ticketed) (t : ℕ) → H v c done → occurrences t v.held ≡ 0 → IsAbsent t c
  absent v c done t h none = let s = h.sums t in record {
    resident = none_here t c.residents (omega (arith, s, none));
    stopped = none_here t c.done (omega (arith, s, none));
  }

  pub got_in : (v w : PassView) (old new : CoreState T) (done : List Ticketed) (x : Held T) → H v old done → HasFetched v (seen x) w
      → new ≡ with_last x old → H w new done
  got_in v w old new done x h f is =
      subst (λ c. H w c done) (sym is)
      (subst (λ l. Holds w l (stopped_in tells old) done) (sym (map_push seen old.residents x))
      (got v w (residents_in tells old) (stopped_in tells old) done (seen x) h f))

  pub not_empty : (old new : CoreState T) (x : Held T) → new ≡ with_last x old → new.residents ≢ []
  not_empty old new x is none =
      let n : length (old.residents ++ x ∷ []) ≡ 0 = ap length (sym (ap (λ c. c.residents) is) ∙ none) in
      absurd (omega (arith, n, length-append old.residents (x ∷ [])))

  pub last_same : (old new : CoreState T) (x : Held T) → new ≡ with_last x old → IsSameCore old new
  last_same old new x is = record { number = ap (λ c. c.number) is; config = ap (λ c. c.config) is }

  -- ---- run

  all_named : (hs : List (Held T)) (origin : Option Origin) (config : Config) (name : List ℕ) → IsOf origin config name
      → AreOf origin (map seen hs) → All (λ h. (tells h.ticket).name ≡ name) hs
  all_named [] origin config name of h = All-nil (λ (y : Held T). (tells y.ticket).name ≡ name)
  all_named (x ∷ xs) origin config name of h =
      All-cons (λ (y : Held T). (tells y.ticket).name ≡ name) x xs
      (of_known origin config name _ of (All-head (IsFrom origin) (seen x) (map seen xs) h)).1
      (all_named xs origin config name of (All-tail (IsFrom origin) (seen x) (map seen xs) h))

  pub belongs : (v : PassView) (c : CoreState T) (done : List Ticketed) (config : Config) (name : List ℕ) → H v c done
      → IsOf v.origin config name → BelongTo (λ t. (tells t).name) name c
  belongs v c done config name h of = record {
    resident = all_named c.residents v.origin config name of h.residents_of;
    stopped = all_named c.done v.origin config name of h.stopped_of;
  }

  module _ (refusals : T → Refusals) (give : ℕ → List Event → T → T → Type 0) (k : ℕ)
      (named : (n : ℕ) (es : List Event) (t u : T) → give n es t u → (tells u).name ≡ (tells t).name) where
    same_thread : (first last : Held T) (run : CoreRun) → RunsHeld refusals give k first last run → IsSameTicketed (seen first) (seen last)
    same_thread first last run r =
        let name = named _ _ _ _ r.given in
        record { thread = r.first.number; origin = λ i. origin_from (r.first.program i) (r.first.config i) (name i) }

    stays : (v : PassView) (first last : Held T) (others : List (Held T)) (old new : CoreState T) (done : List Ticketed) →
        old.residents ≡ first ∷ others
        → H v old done → IsSameTicketed (seen first) (seen last) → new ≡ core_after false last others old → H v new done
    stays v first last others old new done was h same is =
        let h' = subst (λ l. Holds v (map seen l) (stopped_in tells old) done) was h in
        subst (λ c. H v c done) (sym is) (goes_on v (map seen others) (stopped_in tells old) done (seen first) (seen last) h' same)

    leaves : (v : PassView) (first last : Held T) (others : List (Held T)) (old new : CoreState T) (done : List Ticketed) →
        old.residents ≡ first ∷ others
        → H v old done → IsSameTicketed (seen first) (seen last) → HasStopped (seen last) → new ≡ core_after true last others old → H v
        new done
    leaves v first last others old new done was h same ended is =
        let h' = subst (λ l. Holds v (map seen l) (stopped_in tells old) done) was h in
        subst (λ c. H v c done) (sym is)
        (subst (λ l. Holds v (map seen others) l done) (sym (map_push seen old.done last))
        (stops v (map seen others) (stopped_in tells old) done (seen first) (seen last) h' same ended))

    by_why : (why : RunWhy) (turns : ℕ) (v : PassView) (first last : Held T) (others : List (Held T)) (old new : CoreState T)
        (done : List Ticketed)
        → old.residents ≡ first ∷ others → H v old done → IsSameTicketed (seen first) (seen last)
        → EndsBy (refusals last.ticket) k first.guest last.guest turns (end_of why) → new ≡ core_after (is_stop why) last others old →
        H v new done
    by_why Spent turns v first last others old new done was h same end is = stays v first last others old new done was h same is
    by_why Yielded turns v first last others old new done was h same end is = stays v first last others old new done was h same is
    by_why Stopped turns v first last others old new done was h same end is =
        leaves v first last others old new done was h same (λ none. none-some end.0 (sym (sym end.2 ∙ none))) is
    by_why Idle turns v first last others old new done was h same end is = absurd end
    by_why TraceEnds turns v first last others old new done was h same end is = stays v first last others old new done was h same is
    by_why TraceDiffers turns v first last others old new done was h same end is = stays v first last others old new done was h same is
    by_why Memory turns v first last others old new done was h same end is = stays v first last others old new done was h same is

    ran_with : (hs : List (Held T)) (v : PassView) (old new : CoreState T) (run : CoreRun) (done : List Ticketed) → old.residents ≡ hs
        → H v old done
        → RunsWith refusals give k hs old new run → H v new done
    ran_with [] v old new run done was h r = subst (λ c. H v c done) (sym r.1) h
    ran_with (first ∷ others) v old new run done was h r =
        by_why run.why run.turns v first r.0 others old new done was h (same_thread first r.0 run r.1) r.1.first.end r.2

    pub ran : (v : PassView) (old new : CoreState T) (run : CoreRun) (done : List Ticketed) → H v old done → RunsCore refusals give k
        old new run
        → H v new done
    ran v old new run done h r = ran_with old.residents v old new run done refl h r

    after_same : (b : Bool) (last : Held T) (others : List (Held T)) (old new : CoreState T) → new ≡ core_after b last others old →
        IsSameCore old new
    after_same true last others old new is = record { number = ap (λ c. c.number) is; config = ap (λ c. c.config) is }
    after_same false last others old new is = record { number = ap (λ c. c.number) is; config = ap (λ c. c.config) is }

    same_with : (hs : List (Held T)) (old new : CoreState T) (run : CoreRun) → RunsWith refusals give k hs old new run → IsSameCore old new
    same_with [] old new run r = same_core old new r.1
    same_with (first ∷ others) old new run r = after_same (is_stop run.why) r.0 others old new r.2

    pub ran_same : (old new : CoreState T) (run : CoreRun) → RunsCore refusals give k old new run → IsSameCore old new
    ran_same old new run r = same_with old.residents old new run r

  -- ---- collect

  pub room_in : (v : PassView) (old new : CoreState T) (done : List Ticketed) (x : Held T) → H v old done → old ≡ with_done x new
      → length done < known_threads v.origin
  room_in v old new done x h is =
      room v (residents_in tells new) (stopped_in tells new) done (seen x)
      (subst (λ l. Holds v (residents_in tells new) l done) (map_push seen new.done x) (subst (λ c. H v c done) is h))

  pub collects_in : (v : PassView) (old new : CoreState T) (done done' : List Ticketed) (x : Held T) → H v old done → old ≡ with_done x new
      → done' ≡ done ++ seen x ∷ [] → H v new done'
  collects_in v old new done done' x h is more =
      subst (H v new) (sym more)
      (collects v (residents_in tells new) (stopped_in tells new) done (seen x)
      (subst (λ l. Holds v (residents_in tells new) l done) (map_push seen new.done x) (subst (λ c. H v c done) is h)))

  pub done_same : (old new : CoreState T) (x : Held T) → old ≡ with_done x new → IsSameCore old new
  done_same old new x is = record { number = sym (ap (λ c. c.number) is); config = sym (ap (λ c. c.config) is) }

  -- ---- offer

  pub is_held_in : (v : PassView) (old new : CoreState T) (done : List Ticketed) (x : Held T) → H v old done → old ≡ with_first x new
      → (0 < occurrences x.guest.number v.held) × IsFrom v.origin (seen x)
  is_held_in v old new done x h is =
      is_held v (residents_in tells new) (stopped_in tells new) done (seen x) (subst (λ c. H v c done) is h)

  pub gives_in : (v w : PassView) (old new : CoreState T) (done : List Ticketed) (x : Held T) → H v old done → old ≡ with_first x new
      → w ≡ after_offer v x.guest.number → H w new done
  gives_in v w old new done x h is new_view =
      gives v w (residents_in tells new) (stopped_in tells new) done (seen x) (subst (λ c. H v c done) is h) new_view

  pub first_same : (old new : CoreState T) (x : Held T) → old ≡ with_first x new → IsSameCore old new
  first_same old new x is = record { number = sym (ap (λ c. c.number) is); config = sym (ap (λ c. c.config) is) }

  pub ends_in : (v : PassView) (c : CoreState T) (done : List Ticketed) → H v c done → c.residents ≡ [] → c.done ≡ [] → HasEnded v done
  ends_in v c done h r s = ends v (residents_in tells c) (stopped_in tells c) done h (ap (map seen) r) (ap (map seen) s)
