-- Each step keeps each thread in one place.
use Rattle.std.proofs.Common.{◌≡◌, ◌≢◌, ◌⊎◌, ℕ, zero, suc, ◌+◌, ◌<◌, ◌≤◌, true, cond, eqb, List, [], ◌∷◌, ◌++◌, map}
use Rattle.std.proofs.Common.{length, set, refl, sym, ap, ◌∙◌, subst, inl, inr, ⊎_elim, eq-eqb, ne_eqb, arith}
use Rattle.std.specs.Prelude.{Option, Some, None, MatchOption, IfNone, slice_get, slice_set}
use Rattle.std.proofs.lemmas.List.{map_push, length-map}
use mathlib.Core.Bool.{false≢true}
use Rattle.std.proofs.lemmas.List.Elements.{All-nil, All-head, All-tail, All-push}
use Rattle.std.proofs.lemmas.Option.{none-some, slice_get_within}
use mathlib.Core.Option.{some, some-injective, some-ne-none}
use native.Mathlib.Decide.{dec_lt}
use lib.ListN.{get_elem?}
use Rattle.crossbeam_queue.specs.Fifo.{Pushes, Pops, Forks, Merges, Learns, Held}
use Rattle.crossbeam_queue.proofs.Lists.{at_set}
use Rattle.shared_region.proofs.Growth.{set_other}
use Rattle.run_queue.specs.declared.origin.Origin.{Origin}
use Rattle.run_queue.specs.declared.view.Whereabouts.{Whereabouts}
use Rattle.run_queue.specs.declared.view.Whereabouts.TheVariants.{Out, Back}
use Rattle.run_queue.specs.declared.view.Role.{Role}
use Rattle.run_queue.specs.declared.view.Role.TheVariants.{Unopened, First, Numbered, Spent}
use Rattle.run_queue.specs.declared.view.PassView.{PassView}
use Rattle.run_queue.specs.Ticketed.{Ticketed}
use Rattle.thread_lists.specs.Counts.{total, occurrences, once_below, without}
use Rattle.run_queue.specs.Passes.{known_threads, pass_with, is_first_pass, is_numbered, is_in_use, given_in, with_back}
use Rattle.run_queue.specs.Passes.{unopened, spent, opened, after_split, split_off, after_join, after_offer, after_fetch}
use Rattle.run_queue.specs.Passes.{HasFetched, HoldsRest}
use Rattle.run_queue.specs.Rule.{threads_in, AreOf, Fits, IsEachOnce, StoodWith, WasEmpty}
use Rattle.thread_lists.proofs.Sums.{mark, mark_same, once_in, once_out, occurrences-append, occurrences-without, range-once}
use Rattle.thread_lists.proofs.Sums.{total-set, total-push, le-total, total-one, pigeons}

-- ---- of each pass, where one changes and where one comes

each-set : (F : ℕ → PassView → Type 0) (views : List PassView) (id : ℕ) (w : PassView) → F id w
    → ((j : ℕ) (u : PassView) → j ≢ id → get_elem? views j ≡ some u → F j u)
    → (j : ℕ) (u : PassView) → get_elem? (set views id w) j ≡ some u → F j u
each-set F views id w mine others j u at =
    ⊎_elim (λ (x : (j ≡ id) × (w ≡ u)). subst (λ (y : ℕ × PassView). F y.0 y.1) (λ i. (sym x.0 i, x.1 i)) mine)
    (λ (x : (j ≢ id) × (get_elem? views j ≡ some u)). others j u x.0 x.1) (at_set views id j w u at)

at_push : (l : List PassView) (a b : PassView) (j : ℕ) → get_elem? (l ++ a ∷ []) j ≡ some b
    → (get_elem? l j ≡ some b) ⊎ ((j ≡ length l) × (a ≡ b))
at_push [] a b zero at = inr (refl, some-injective a b at)
at_push [] a b (suc j) at = absurd (some-ne-none b (sym at))
at_push (x ∷ xs) a b zero at = inl at
at_push (x ∷ xs) a b (suc j) at =
    ⊎_elim (λ (t : get_elem? xs j ≡ some b). inl t) (λ (t : (j ≡ length xs) × (a ≡ b)). inr (ap suc t.0, t.1))
    (at_push xs a b j at)

each-push : (F : ℕ → PassView → Type 0) (views : List PassView) (w : PassView) → F (length views) w
    → ((j : ℕ) (u : PassView) → get_elem? views j ≡ some u → F j u)
    → (j : ℕ) (u : PassView) → get_elem? (views ++ w ∷ []) j ≡ some u → F j u
each-push F views w new old j u at =
    ⊎_elim (old j u)
    (λ (x : (j ≡ length views) × (w ≡ u)). subst (λ (y : ℕ × PassView). F y.0 y.1) (λ i. (sym x.0 i, x.1 i)) new)
    (at_push views w u j at)

-- ---- which pass it is, and which numbers were given

first_is : (r : Role) → is_first_pass r ≡ true → r ≡ First (given_in r)
first_is Unopened is = absurd (false≢true is)
first_is (First given) is = refl
first_is (Numbered n) is = absurd (false≢true is)
first_is Spent is = absurd (false≢true is)

abbrev number_in : Role → ℕ
number_in Unopened = 0
number_in (First given) = 0
number_in (Numbered n) = n
number_in Spent = 0

numbered_is : (r : Role) → is_numbered r ≡ true → r ≡ Numbered (number_in r)
numbered_is Unopened is = absurd (false≢true is)
numbered_is (First given) is = absurd (false≢true is)
numbered_is (Numbered n) is = refl
numbered_is Spent is = absurd (false≢true is)

given_before : (given : List Whereabouts) (n : ℕ) (b c : Whereabouts) → slice_get given n ≡ Some b
    → slice_get (given ++ c ∷ []) n ≡ Some b
given_before [] n b c at = absurd (none-some b at)
given_before (x ∷ xs) zero b c at = at
given_before (x ∷ xs) (suc n) b c at = given_before xs n b c at

given_last : (given : List Whereabouts) (c : Whereabouts) → slice_get (given ++ c ∷ []) (length given) ≡ Some c
given_last [] c = refl
given_last (x ∷ xs) c = given_last xs c

-- ---- what fits a pass

module _ (origin : Option Origin) (given : List Whereabouts) (owner : ℕ → ℕ) (id : ℕ) (v : PassView) where
  used_knows : (r : Role) → is_in_use r ≡ true → Fits origin given owner id v r → v.origin ≡ origin
  used_knows Unopened used fit = absurd (false≢true used)
  used_knows (First told) used fit = fit.1
  used_knows (Numbered n) used fit = fit.0
  used_knows Spent used fit = absurd (false≢true used)

  -- one that holds a thread is in use
  holder_used : (r : Role) (t : ℕ) → 0 < occurrences t v.held → 0 < known_threads origin
      → Fits origin given owner id v r → is_in_use r ≡ true
  holder_used Unopened t holds many fit = absurd (omega (arith, many, ap known_threads fit.1))
  holder_used (First told) t holds many fit = refl
  holder_used (Numbered n) t holds many fit = refl
  holder_used Spent t holds many fit = absurd (omega (arith, holds, ap (occurrences t) fit))

  -- whatever it holds, if it is in use
  fits_held : (r : Role) (held : List ℕ) → is_in_use r ≡ true → Fits origin given owner id v r
      → Fits origin given owner id (pass_with r v.origin held) r
  fits_held Unopened held used fit = absurd (false≢true used)
  fits_held (First told) held used fit = fit
  fits_held (Numbered n) held used fit = fit
  fits_held Spent held used fit = absurd (false≢true used)

threads-push : (items : List Ticketed) (x : Ticketed) (t : ℕ)
    → occurrences t (threads_in (items ++ x ∷ [])) ≡ occurrences t (threads_in items) + mark t x.thread
threads-push items x t =
    ap (occurrences t) (map_push (λ (y : Ticketed). y.thread) items x)
    ∙ (occurrences-append t (threads_in items) (x.thread ∷ []) ∙ omega arith)

below : (t n rest : ℕ) → 0 < rest → rest ≤ once_below t n → t < n
below t n rest some_there most = go (dec_lt t n)
  where
    go : Dec (t < n) → t < n
    go (yes lt) = lt
    go (no ge) = absurd (omega (arith, some_there, most, once_out t n (omega arith)))

-- a pass that holds a thread is in use, and the thread is one of those that there are
record Holder (origin : Option Origin) (v : PassView) (t : ℕ) : Type 0 where
  lt : t < known_threads origin
  used : is_in_use v.role ≡ true
  knows : v.origin ≡ origin

holder : (items : List Ticketed) (views : List PassView) (h : IsEachOnce items views) (id : ℕ) (v : PassView) (t : ℕ)
    → get_elem? views id ≡ some v → 0 < occurrences t v.held → Holder h.origin v t
holder items views h id v t at holds =
    let mine = le-total (λ (u : PassView). occurrences t u.held) views id v at in
    let one = h.once t in
    let lt = below t (known_threads h.origin) (occurrences t v.held) holds (omega (arith, mine, one)) in
    let fit = h.fits id v at in
    let used = holder_used h.origin h.given h.owner id v v.role t holds (omega (arith, lt)) fit in
    record { lt = lt; used = used; knows = used_knows h.origin h.given h.owner id v v.role used fit }

-- ---- at first

pub begins : IsEachOnce [] (unopened ∷ [])
begins = record {
  origin = None;
  given = [];
  owner = λ n. 0;
  known = All-nil (λ (y : Ticketed). Some y.origin ≡ None);
  once = λ t. sym (once_out t 0 (omega arith));
  fits = each-set F (unopened ∷ []) 0 unopened (refl, refl, refl) alone;
}
  where
    F : ℕ → PassView → Type 0
    F j y = Fits None [] (λ n. 0) j y y.role

    alone : (j : ℕ) (u : PassView) → j ≢ 0 → get_elem? (unopened ∷ []) j ≡ some u → F j u
    alone zero u apart there = absurd (apart refl)
    alone (suc j) u apart there = absurd (some-ne-none u (sym there))

-- ---- push

offers : (items : List Ticketed) (views : List PassView) (id : ℕ) (v : PassView) (x : Ticketed)
    → 0 < occurrences x.thread v.held → Some x.origin ≡ v.origin → IsEachOnce items views → get_elem? views id ≡ some v
    → IsEachOnce (items ++ x ∷ []) (set views id (after_offer v x.thread))
offers items views id v x holds known h at =
    let w = after_offer v x.thread in
    let mine = holder items views h id v x.thread at holds in
    let F : ℕ → PassView → Type 0 = λ j y. Fits h.origin h.given h.owner j y y.role in
    record {
      origin = h.origin;
      given = h.given;
      owner = h.owner;
      known = All-push (λ (y : Ticketed). Some y.origin ≡ h.origin) items x h.known (known ∙ mine.knows);
      once = λ t.
          let a = threads-push items x t in
          let b = total-set (λ (y : PassView). occurrences t y.held) views id v w at in
          let c = occurrences-without t x.thread v.held holds in
          let o = h.once t in
          omega (arith, a, b, c, o);
      fits = each-set F views id w
          (fits_held h.origin h.given h.owner id v v.role (without x.thread v.held) mine.used (h.fits id v at))
          (λ j u apart there. h.fits j u there);
    }

-- the queue has room where a pass holds a thread
room : (items : List Ticketed) (views : List PassView) (id : ℕ) (v : PassView) (t : ℕ) → 0 < occurrences t v.held
    → IsEachOnce items views → get_elem? views id ≡ some v → length items < known_threads v.origin
room items views id v t holds h at =
    let n = known_threads h.origin in
    let sum = λ (k : ℕ). total (λ (y : PassView). occurrences k y.held) views in
    let mine = holder items views h id v t at holds in
    let held : occurrences t v.held ≤ sum t = le-total (λ (y : PassView). occurrences t y.held) views id v at in
    let one = h.once t in
    let few = pigeons n t (threads_in items) (λ k. let o = h.once k in omega arith) mine.lt
    (omega (arith, one, held, holds, once_in t n mine.lt)) in
    subst (λ o. length items < known_threads o) (sym mine.knows)
    (subst (λ (k : ℕ). k < n) (length-map items (λ (y : Ticketed). y.thread)) few)

-- ---- pop

fetches : (x : Ticketed) (items : List Ticketed) (views : List PassView) (id : ℕ) (v : PassView) → is_in_use v.role ≡ true
    → IsEachOnce (x ∷ items) views → get_elem? views id ≡ some v
    → IsEachOnce items (set views id (after_fetch v x.thread)) × HasFetched v x (after_fetch v x.thread)
fetches x items views id v used h at =
    let t = x.thread in
    let w = after_fetch v t in
    let n = known_threads h.origin in
    let P : Ticketed → Type 0 = λ y. Some y.origin ≡ h.origin in
    let fit = h.fits id v at in
    let knows = used_knows h.origin h.given h.owner id v v.role used fit in
    let mine = le-total (λ (y : PassView). occurrences t y.held) views id v at in
    let here : mark t t ≡ 1 = mark_same t t refl in
    let one = h.once t in
    let lt : t < n = below t n 1 (omega arith) (omega (arith, one, here)) in
    let full = once_in t n lt in
    let F : ℕ → PassView → Type 0 = λ j y. Fits h.origin h.given h.owner j y y.role in (
      record {
        origin = h.origin;
        given = h.given;
        owner = h.owner;
        known = All-tail P x items h.known;
        once = λ u.
            let b = total-set (λ (y : PassView). occurrences u y.held) views id v w at in
            let c = occurrences-append u v.held (t ∷ []) in
            let o = h.once u in
            omega (arith, b, c, o);
        fits = each-set F views id w (fits_held h.origin h.given h.owner id v v.role (v.held ++ t ∷ []) used fit)
            (λ j u apart there. h.fits j u there);
      },
      record {
        view = refl;
        known = All-head P x items h.known ∙ sym knows;
        small = subst (λ o. t < known_threads o) (sym knows) lt;
        fresh = omega (arith, one, here, full, mine);
      },
    )

-- the first pass, with all others joined, holds what the queue does not
rest_held : (items : List Ticketed) (views : List PassView) (id : ℕ) (v : PassView) → IsEachOnce items views
    → get_elem? views id ≡ some v → HoldsRest (threads_in items) v
rest_held items views id v h at told first back t =
    let mine : (id ≡ 0) × (v.origin ≡ h.origin) × (told ≡ h.given) =
    subst (Fits h.origin h.given h.owner id v) first (h.fits id v at) in
    let o = h.once t in
    let one = total-one (λ (y : PassView). occurrences t y.held) views id v at
    (λ j u apart there. empty u.role j u mine.0 apart mine.2 (h.fits j u there)) in
    subst (λ k. occurrences t (threads_in items) + occurrences t v.held ≡ once_below t (known_threads k)) (sym mine.1)
    (omega (arith, o, one))
  where
    empty : (r : Role) (j : ℕ) (u : PassView) → id ≡ 0 → j ≢ id → told ≡ h.given → Fits h.origin h.given h.owner j u r
        → occurrences t u.held ≡ 0
    empty Unopened j u zero_id apart same fit = absurd (apart (fit.0 ∙ sym zero_id))
    empty (First other) j u zero_id apart same fit = absurd (apart (fit.0 ∙ sym zero_id))
    empty (Numbered n) j u zero_id apart same fit = absurd (back n (ap (λ l. slice_get l n) same ∙ fit.1))
    empty Spent j u zero_id apart same fit = ap (occurrences t) fit

-- ---- split

-- a queue of which no origin is known is empty
none_known : (items : List Ticketed) → AreOf None items → items ≡ []
none_known [] known = refl
none_known (x ∷ items) known =
    absurd (none-some x.origin (sym (All-head (λ (y : Ticketed). Some y.origin ≡ None) x items known)))

-- a pass beside one that is not opened is spent
idle : (r : Role) (origin origin' : Option Origin) (given given' : List Whereabouts) (owner : ℕ → ℕ) (id j : ℕ) (v : PassView)
    → id ≡ 0 → j ≢ id → given ≡ [] → Fits origin given owner j v r → Fits origin' given' owner j v r
idle Unopened origin origin' given given' owner id j v zero_id apart none fit = absurd (apart (fit.0 ∙ sym zero_id))
idle (First told) origin origin' given given' owner id j v zero_id apart none fit = absurd (apart (fit.0 ∙ sym zero_id))
idle (Numbered n) origin origin' given given' owner id j v zero_id apart none fit =
    absurd (none-some Out (ap (λ g. slice_get g n) (sym none) ∙ fit.1))
idle Spent origin origin' given given' owner id j v zero_id apart none fit = fit

opens : (items : List Ticketed) (views : List PassView) (id : ℕ) (o : Option Origin) → IsEachOnce items views
    → get_elem? views id ≡ some unopened → IsEachOnce items (set views id (opened o) ++ spent ∷ [])
opens items views id o h at =
    let mine : (id ≡ 0) × (h.origin ≡ None) × (h.given ≡ []) = h.fits id unopened at in
    let w = opened o in
    let none : items ≡ [] = none_known items (subst (λ k. AreOf k items) mine.1 h.known) in
    let F : ℕ → PassView → Type 0 = λ j y. Fits o [] h.owner j y y.role in
    record {
      origin = o;
      given = [];
      owner = h.owner;
      known = subst (AreOf o) (sym none) (All-nil (λ (y : Ticketed). Some y.origin ≡ o));
      once = λ t.
          let a = total-push (λ (y : PassView). occurrences t y.held) (set views id w) spent in
          let b = total-set (λ (y : PassView). occurrences t y.held) views id unopened w at in
          let c = h.once t in
          let n = once_out t (known_threads h.origin) (omega (arith, ap known_threads mine.1)) in
          let d : occurrences t (threads_in items) ≡ 0 = ap (λ l. occurrences t (threads_in l)) none in
          let e = range-once t (known_threads o) in
          omega (arith, a, b, c, d, e, n);
      fits = each-push F (set views id w) spent refl
          (each-set F views id w (mine.0, refl, refl)
          (λ j u apart there. idle u.role h.origin o h.given [] h.owner id j u mine.0 apart mine.2 (h.fits j u there)));
    }

-- a pass beside the first, where that gives a number
fits_given : (r : Role) (origin : Option Origin) (given told : List Whereabouts) (owner : ℕ → ℕ) (new id j : ℕ) (v : PassView)
    → id ≡ 0 → j ≢ id → told ≡ given → Fits origin given owner j v r
    → Fits origin (told ++ Out ∷ []) (λ k. cond (eqb k (length told)) new (owner k)) j v r
fits_given Unopened origin given told owner new id j v zero_id apart same fit = absurd (apart (fit.0 ∙ sym zero_id))
fits_given (First other) origin given told owner new id j v zero_id apart same fit = absurd (apart (fit.0 ∙ sym zero_id))
fits_given (Numbered n) origin given told owner new id j v zero_id apart same fit =
    let there : slice_get told n ≡ Some Out = ap (λ g. slice_get g n) same ∙ fit.1 in
    let within = slice_get_within told n Out there in
    let ne : n ≢ length told = λ e. omega (arith, within, e) in
    (fit.0, given_before told n Out Out there, ap (λ b. cond b new (owner n)) (ne_eqb n (length told) ne) ∙ fit.2)
fits_given Spent origin given told owner new id j v zero_id apart same fit = fit

splits : (items : List Ticketed) (views : List PassView) (id : ℕ) (v : PassView) → is_first_pass v.role ≡ true → IsEachOnce items views
    → get_elem? views id ≡ some v → IsEachOnce items (set views id (after_split v) ++ split_off v ∷ [])
splits items views id v is h at =
    let told = given_in v.role in
    let mine : (id ≡ 0) × (v.origin ≡ h.origin) × (told ≡ h.given) =
    subst (Fits h.origin h.given h.owner id v) (first_is v.role is) (h.fits id v at) in
    let views' : List PassView = set views id (after_split v) in
    let owner : ℕ → ℕ = λ k. cond (eqb k (length told)) (length views') (h.owner k) in
    let F : ℕ → PassView → Type 0 = λ j y. Fits h.origin (told ++ Out ∷ []) owner j y y.role in
    record {
      origin = h.origin;
      given = told ++ Out ∷ [];
      owner = owner;
      known = h.known;
      once = λ t.
          let a = total-push (λ (y : PassView). occurrences t y.held) views' (split_off v) in
          let b = total-set (λ (y : PassView). occurrences t y.held) views id v (after_split v) at in
          let o = h.once t in
          omega (arith, a, b, o);
      fits = each-push F views' (split_off v) (
        mine.1,
        given_last told Out,
        ap (λ b. cond b (length views') (h.owner (length told))) (eq-eqb (length told) (length told) refl),
      )
          (each-set F views id (after_split v) (mine.0, mine.1, refl)
          (λ j u apart there.
          fits_given u.role h.origin h.given told h.owner (length views') id j u mine.0 apart mine.2 (h.fits j u there)));
    }

-- ---- join

-- a pass beside the first, where that takes another one back
fits_back : (r : Role) (origin : Option Origin) (given : List Whereabouts) (owner : ℕ → ℕ) (n other id j : ℕ) (v : PassView)
    → id ≡ 0 → j ≢ id → owner n ≡ other → j ≢ other → Fits origin given owner j v r → Fits origin (slice_set given n Back) owner j v r
fits_back Unopened origin given owner n other id j v zero_id apart own off fit = absurd (apart (fit.0 ∙ sym zero_id))
fits_back (First told) origin given owner n other id j v zero_id apart own off fit = absurd (apart (fit.0 ∙ sym zero_id))
fits_back (Numbered m) origin given owner n other id j v zero_id apart own off fit =
    let ne : m ≢ n = λ e. off (sym fit.2 ∙ ap owner e ∙ own) in
    (fit.0, set_other given n m Back ne ∙ fit.1, fit.2)
fits_back Spent origin given owner n other id j v zero_id apart own off fit = fit

joins_number : (items : List Ticketed) (views : List PassView) (id : ℕ) (v : PassView) (other : ℕ) (w : PassView)
    (told : List Whereabouts) (n : ℕ) → v.role ≡ First told → w.role ≡ Numbered n
    → IsEachOnce items views → get_elem? views id ≡ some v → other ≢ id
    → let both = pass_with (First (slice_set told n Back)) v.origin (v.held ++ w.held) in
    get_elem? (set views id both) other ≡ some w → IsEachOnce items (set (set views id both) other spent)
joins_number items views id v other w told n first second h at two at' =
    let mine : (id ≡ 0) × (v.origin ≡ h.origin) × (told ≡ h.given) =
    subst (Fits h.origin h.given h.owner id v) first (h.fits id v at) in
    let both = pass_with (First (slice_set told n Back)) v.origin (v.held ++ w.held) in
    let mid : List PassView = set views id both in
    let was : get_elem? views other ≡ some w =
    ⊎_elim (λ (x : (other ≡ id) × (both ≡ w)). absurd (two x.0))
    (λ (x : (other ≢ id) × (get_elem? views other ≡ some w)). x.1) (at_set views id other both w at') in
    let theirs : (w.origin ≡ h.origin) × (slice_get h.given n ≡ Some Out) × (h.owner n ≡ other) =
    subst (Fits h.origin h.given h.owner other w) second (h.fits other w was) in
    let F : ℕ → PassView → Type 0 = λ j y. Fits h.origin (slice_set h.given n Back) h.owner j y y.role in
    let G : ℕ → PassView → Type 0 = λ j u. j ≢ other → F j u in
    record {
      origin = h.origin;
      given = slice_set h.given n Back;
      owner = h.owner;
      known = h.known;
      once = λ t.
          let a = total-set (λ (y : PassView). occurrences t y.held) mid other w spent at' in
          let b = total-set (λ (y : PassView). occurrences t y.held) views id v both at in
          let c = occurrences-append t v.held w.held in
          let o = h.once t in
          omega (arith, a, b, c, o);
      fits = each-set F mid other spent refl (λ j u off there.
          each-set G views id both (λ _. (mine.0, mine.1, ap (λ l. slice_set l n Back) mine.2))
          (λ i y apart here off'. fits_back y.role h.origin h.given h.owner n other id i y mine.0 apart theirs.2 off' (h.fits i y here))
          j u there off);
    }

-- ---- the steps on a queue of any items that are seen so

module _ {X : Type 0} (seen : X → Ticketed) where
  abbrev OnceEach : List X → List PassView → Type 0
  OnceEach items views = IsEachOnce (map seen items) views

  pub puts : (n id : ℕ) (v : PassView) (x : X) → 0 < occurrences (seen x).thread v.held → Some (seen x).origin ≡ v.origin
      → Pushes OnceEach n id v x (λ w. w ≡ after_offer v (seen x).thread)
  puts n id v x holds known items views room h at = (
    after_offer v (seen x).thread,
    subst (λ l. IsEachOnce l (set views id (after_offer v (seen x).thread))) (sym (map_push seen items x))
        (offers (map seen items) views id v (seen x) holds known h at),
    refl,
  )

  pub roomy : (id : ℕ) (v : PassView) (t : ℕ) → 0 < occurrences t v.held
      → Learns OnceEach id v (λ items. length items < known_threads v.origin)
  roomy id v t holds items views h at =
      subst (λ (k : ℕ). k < known_threads v.origin) (length-map items seen) (room (map seen items) views id v t holds h at)

  pub takes : (id : ℕ) (v : PassView) → is_in_use v.role ≡ true → Pops OnceEach id v (λ x w. HasFetched v (seen x) w)
  takes id v used x items views h at =
      let made = fetches (seen x) (map seen items) views id v used h at in (after_fetch v (seen x).thread, made.0, made.1)

  pub learns_moment : (id : ℕ) (v : PassView) → Learns OnceEach id v (λ items. StoodWith (map seen items) v)
  learns_moment id v items views h at = record { views = views; id = id; at = at; rule = h }

  pub forks_open : (id : ℕ) (o : Option Origin) → Forks OnceEach id unopened (opened o) spent
  forks_open id o items views h at = opens (map seen items) views id o h at

  pub forks : (id : ℕ) (v : PassView) → is_first_pass v.role ≡ true → Forks OnceEach id v (after_split v) (split_off v)
  forks id v is items views h at = splits (map seen items) views id v is h at

  pub merges : (id : ℕ) (v : PassView) (other : ℕ) (w : PassView) → is_first_pass v.role ≡ true → is_numbered w.role ≡ true
      → Merges OnceEach id v other w (after_join v w) spent
  merges id v other w is is' =
      let second = numbered_is w.role is' in
      let same : pass_with (First (slice_set (given_in v.role) (number_in w.role) Back)) v.origin (v.held ++ w.held) ≡ after_join v w =
      ap (λ r. pass_with (First (with_back (given_in v.role) r)) v.origin (v.held ++ w.held)) (sym second) in
      subst (λ (b : PassView). Merges OnceEach id v other w b spent) same
      (λ items views. joins_number (map seen items) views id v other w (given_in v.role) (number_in w.role) (first_is v.role is) second)

-- ---- what a fetch that found nothing learned

pub rest_when_empty : (v : PassView) → WasEmpty v → HoldsRest [] v
rest_when_empty v was = rest_held [] was.views was.id v was.rule was.at

no_items : {X : Type 0} (items : List X) (F : List X → Type 0) → length items ≡ 0 → F items → F []
no_items [] F none f = f
no_items (x ∷ xs) F none f = absurd (omega arith)

pub none_there : {X : Type 0} (r : Option X) (A : Type 0) (F : List X → Type 0) (B : X → Type 0)
    → MatchOption r (A × Held 0 F) B → IfNone r (F [])
none_there None A F B m = no_items m.1.0 F m.1.1 m.1.2
none_there (Some x) A F B m = tt
