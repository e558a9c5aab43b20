-- From an event on a core to the event of the world.
use Rattle.std.proofs.Common.{◌≡◌, ℕ, zero, suc, ◌≤◌, List, [], ◌∷◌, map, length, refl, ap, sym, ◌∙◌, subst, arith, Some, None}
use Rattle.std.specs.Prelude.{slice_get, slice_set}
use Rattle.std.proofs.lemmas.Option.{same_Some, none-some, slice_get_past}
use Rattle.sm_types.specs.declared.shared_words.Entry.{Entry}
use Rattle.kernel_contexts.specs.Guest.{Guest}
use Rattle.core_unit.specs.declared.run.RunWhy.{RunWhy}
use Rattle.core_unit.specs.declared.run.RunWhy.TheVariants as why
use Rattle.world_core.specs.Applies.{Applies, AppliesHere, RunsBy, spends}
use Rattle.world_core.specs.Events.{core_number, cut_to}
use Rattle.world_core.specs.Happens.{Scene, happens, happens_on, on_core, scene_of, with_scene, comes_to}
use Rattle.world_core.specs.World.{World}
use Rattle.sm_types.specs.declared.world_event.WorldEvent.{WorldEvent}
use Rattle.sm_types.specs.declared.world_event.WorldEvent.TheVariants as event
use Rattle.world_core.specs.declared.event.Applied.{Applied}
use Rattle.world_core.specs.declared.event.Applied.TheVariants as applied
use Rattle.world_core.specs.declared.event.Why.TheVariants.{NoCore}

map-set : {A B : Type 0} (f : A → B) (xs : List A) (i : ℕ) (x : A) → map f (slice_set xs i x) ≡ slice_set (map f xs) i (f x)
map-set f [] i x = refl
map-set f (y ∷ ys) zero x = refl
map-set f (y ∷ ys) (suc i) x = ap (λ l. f y ∷ l) (map-set f ys i x)

pub get-map : {A B : Type 0} (f : A → B) (xs : List A) (i : ℕ) (x : A) → slice_get xs i ≡ Some x → slice_get (map f xs) i ≡ Some (f x)
get-map f [] i x e = absurd (none-some x e)
get-map f (y ∷ ys) zero x e = ap (λ z. Some (f z)) (same_Some y x e)
get-map f (y ∷ ys) (suc i) x e = get-map f ys i x e

get-past : {A B : Type 0} (f : A → B) (xs : List A) (i : ℕ) → length xs ≤ i → slice_get (map f xs) i ≡ None
get-past f [] i l = slice_get_past [] i (omega arith)
get-past f (x ∷ xs) zero l = absurd (omega arith)
get-past f (x ∷ xs) (suc i) l = get-past f xs i (omega arith)

-- a fact of each core and its place, where one has changed
pub each_set : {X : Type 0} (P : ℕ → X → Type 0) (xs : List X) (i : ℕ) (y : X) → P i y
    → ((j : ℕ) (r : X) → slice_get xs j ≡ Some r → P j r) → (j : ℕ) (r : X) → slice_get (slice_set xs i y) j ≡ Some r → P j r
each_set P [] i y mine h j r get = h j r get
each_set P (x ∷ xs) zero y mine h zero r get = subst (P zero) (same_Some y r get) mine
each_set P (x ∷ xs) zero y mine h (suc j) r get = h (suc j) r get
each_set P (x ∷ xs) (suc i) y mine h zero r get = h zero r get
each_set P (x ∷ xs) (suc i) y mine h (suc j) r get =
    each_set (λ m s. P (suc m) s) xs i y mine (λ m s g. h (suc m) s g) j r get

same_core : (e : WorldEvent) (turns : ℕ) → core_number (cut_to e turns) ≡ core_number e
same_core (event.Run core k) turns = refl
same_core (event.Next core) turns = refl
same_core (event.Fetch core) turns = refl
same_core (event.Offer core) turns = refl

module _ (w : World) (rs : List Guest) where
  pub happens_here : (e : WorldEvent) → slice_get w.cores (core_number e) ≡ Some rs
      → happens w e ≡ comes_to w (core_number e) (on_core e (scene_of w rs))
  unfolding happens
  happens_here e get = ap (happens_on w e) get

  module _ (e : WorldEvent) (get : slice_get w.cores (core_number e) ≡ Some rs) where
    comes : (new : Scene) (answer : Applied) → on_core e (scene_of w rs) ≡ record { scene = new; answer = answer }
        → happens w e ≡ record { world = with_scene w (core_number e) new; answer = answer }
    comes new answer h = happens_here e get ∙ ap (comes_to w (core_number e)) h

    cut_comes : (turns : ℕ) (new : Scene) (answer : Applied)
        → on_core (cut_to e turns) (scene_of w rs) ≡ record { scene = new; answer = answer }
        → happens w (cut_to e turns) ≡ record { world = with_scene w (core_number e) new; answer = answer }
    cut_comes turns new answer h =
        let same = same_core e turns in
        happens_here (cut_to e turns) (ap (slice_get w.cores) same ∙ get)
        ∙ ap (λ (n : ℕ). comes_to w n (on_core (cut_to e turns) (scene_of w rs))) same
        ∙ ap (comes_to w (core_number e)) h

    ran_comes : (A B C D L : Type 0) (reason : RunWhy) → (A → B) → (C → D) → RunsBy A (C × L) reason → RunsBy B (D × L) reason
    ran_comes A B C D L why.Spent f g h = f h
    ran_comes A B C D L why.Yielded f g h = f h
    ran_comes A B C D L why.Stopped f g h = f h
    ran_comes A B C D L why.Idle f g h = h
    ran_comes A B C D L why.TraceEnds f g h = h
    ran_comes A B C D L why.TraceDiffers f g h = h
    ran_comes A B C D L why.Memory f g h = (g h.0, h.1)

    pub applies_there : (new : Scene) (answer : Applied) → AppliesHere e (scene_of w rs) new answer
        → Applies e w (with_scene w (core_number e) new) answer
    applies_there new applied.Done h = comes new applied.Done h
    applies_there new (applied.Ran run) h =
        ran_comes _ _ _ _ _ run.why (comes new (applied.Ran run)) (cut_comes run.turns new (spends run.turns)) h
    applies_there new (applied.NotEnabled reason) h = comes new (applied.NotEnabled reason) h

-- a world whose cores are those of some list
module _ {C : Type 0} (guests : C → List Guest) (cores : List C) (w : World) (is : w.cores ≡ map guests cores) where
  none_there : (e : WorldEvent) → length cores ≤ core_number e → Applies e w w (applied.NotEnabled (NoCore (core_number e)))
  unfolding happens
  none_there e past =
      ap (happens_on w e) (ap (λ (l : List (List Guest)). slice_get l (core_number e)) is ∙ get-past guests cores (core_number e) past)

  pub no_core : (e : WorldEvent) (i : ℕ) → i ≡ core_number e → length cores ≤ i → Applies e w w (applied.NotEnabled (NoCore i))
  no_core e i same past =
      subst (λ (n : ℕ). Applies e w w (applied.NotEnabled (NoCore n))) (sym same)
      (none_there e (subst (λ (n : ℕ). length cores ≤ n) same past))

  pub found_core : (i : ℕ) (here : C) → slice_get cores i ≡ Some here → slice_get w.cores i ≡ Some (guests here)
  found_core i here get = ap (λ (l : List (List Guest)). slice_get l i) is ∙ get-map guests cores i here get

  pub world_applies : (e here_e : WorldEvent) (i : ℕ) (here new : C) (queue done : List Guest) (history : List Entry) (answer : Applied)
      → i ≡ core_number e → e ≡ here_e → slice_get cores i ≡ Some here
      → AppliesHere here_e (scene_of w (guests here)) (record { residents = guests new; queue = queue; done = done; history = history })
      answer
      → Applies e w (record {
        config = w.config;
        queue = queue;
        cores = map guests (slice_set cores i new);
        done = done;
        history = history;
      }) answer
  world_applies e here_e i here new queue done history answer same event get h =
      let s : Scene = record { residents = guests new; queue = queue; done = done; history = history } in
      let mine = subst (λ (x : WorldEvent). AppliesHere x (scene_of w (guests here)) s answer) (sym event) h in
      let got = ap (slice_get w.cores) (sym same) ∙ found_core i here get in
      let cores_are : slice_set w.cores (core_number e) (guests new) ≡ map guests (slice_set cores i new) =
      ap (λ (n : ℕ). slice_set w.cores n (guests new)) (sym same)
      ∙ ap (λ (cs : List (List Guest)). slice_set cs i (guests new)) is ∙ sym (map-set guests cores i new) in
      subst (λ (cs : List (List Guest)). Applies e w (record {
        config = w.config;
        queue = queue;
        cores = cs;
        done = done;
        history = history;
      }) answer) cores_are (applies_there w (guests here) e got s answer mine)
