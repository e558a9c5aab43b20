-- Seats given one after another, and taken back.
use Rattle.std.proofs.Common.{◌≡◌, ◌≢◌, ℕ, zero, suc, ◌+◌, ◌-◌, ◌<◌, ◌≤◌, List, [], ◌∷◌, ◌++◌, map, length, set, get_or, replicate}
use Rattle.std.proofs.Common.{refl, sym, ap, ◌∙◌, subst, append_assoc, arith}
use Rattle.std.specs.Prelude.{Some, All, slice_index_or, slice_set}
use Rattle.std.specs.List.{range_with_len}
use Rattle.std.proofs.lemmas.List.{length-map, length_push, append-nil, map_push}
use Rattle.std.proofs.lemmas.List.Elements.{All-nil, All-cons, All-append}
use Rattle.sm_types.specs.declared.shared_op.Event.{Event}
use Rattle.shared_table.specs.declared.view.Told.{Told}
use Rattle.shared_table.specs.declared.view.Told.TheVariants.{Never, Out, Back}
use Rattle.shared_table.specs.declared.view.SeatView.{SeatView}
use Rattle.shared_table.specs.declared.view.SeatView.TheVariants.{Maker, Thread, Spent}
use Rattle.shared_table.specs.Views.{told, new_book, thread_in, events_in, book_in, with_split, with_joined, list_of}
use Rattle.std.proofs.lemmas.Option.{none-some, same_Some}
use Rattle.thread_lists.specs.Counts.{occurrences, once_below, without}
use Rattle.thread_lists.proofs.Sums.{mark_same, mark_other, once_in, once_out, occurrences-without}
use native.Mathlib.Decide.{ℕ_discrete, dec_lt}
use Rattle.smp_runner.specs.Books.{book_at}

pub book_opens : (v : SeatView) → v ≡ Maker new_book → v ≡ Maker (book_at [] 0 0)
unfolding new_book
book_opens v is = is

gives_more : (t k : ℕ) → set (replicate t Out ++ replicate (suc k) Never) t Out ≡ replicate (suc t) Out ++ replicate k Never
gives_more zero k = refl
gives_more (suc t) k = ap (λ (l : List Told). Out ∷ l) (gives_more t k)

is_fresh : (t k : ℕ) → get_or (replicate t Out ++ replicate (suc k) Never) t Out ≡ Never
is_fresh zero k = refl
is_fresh (suc t) k = is_fresh t k

one_left : (t : ℕ) → t < 32 → 32 - t ≡ suc (32 - (t + 1))
one_left t lt = omega arith

-- the next number was not given
pub fresh : (v : SeatView) (t : ℕ) → v ≡ Maker (book_at [] t t) → t < 32 → slice_index_or (book_in v) t Out ≡ Never
fresh v t is lt =
    ap (λ (u : SeatView). slice_index_or (book_in u) t Out) is
    ∙ ap (λ n. get_or (replicate t Out ++ replicate n Never) t Out) (one_left t lt) ∙ is_fresh t (32 - (t + 1))

pub given : (v w : SeatView) (t : ℕ) → v ≡ Maker (book_at [] t t) → t < 32 → w ≡ with_split t v → w ≡ Maker (book_at [] (t + 1) (t + 1))
given v w t is lt new =
    let next : suc t ≡ t + 1 = omega arith in
    new ∙ ap (λ (u : SeatView). Maker (slice_set (book_in u) t Out)) is
    ∙ ap (λ n. Maker (set (replicate t Out ++ replicate n Never) t Out)) (one_left t lt)
    ∙ ap Maker (gives_more t (32 - (t + 1)))
    ∙ ap (λ n. Maker (replicate n Out ++ replicate (32 - (t + 1)) Never)) next

takes_more : (js : List (List Event)) (j : List Event) (k : ℕ) (rest : List Told)
    → set (map Back js ++ (replicate (suc k) Out ++ rest)) (length js) (Back j) ≡ map Back (js ++ j ∷ []) ++ (replicate k Out ++ rest)
takes_more [] j k rest = refl
takes_more (x ∷ xs) j k rest = ap (λ (l : List Told). Back x ∷ l) (takes_more xs j k rest)

taken_view : (v w : SeatView) (book : List Told) (t : ℕ) (j : List Event) → v ≡ Maker book → thread_in w ≡ Some t → events_in w ≡ j
    → with_joined v w ≡ Maker (slice_set book t (Back j))
taken_view v (Maker b) book t j is num ev = absurd (none-some t num)
taken_view v (Thread u events) book t j is num ev =
    ap (λ (x : SeatView). Maker (slice_set (book_in x) u (Back events))) is
    ∙ ap (λ n. Maker (slice_set book n (Back events))) (same_Some u t num)
    ∙ ap (λ (l : List Event). Maker (slice_set book t (Back l))) ev
taken_view v Spent book t j is num ev = absurd (none-some t num)

-- the seat of the next thread is taken back
pub taken : (v w u : SeatView) (js : List (List Event)) (j : List Event) (t n : ℕ) → v ≡ Maker (book_at js (n - t) n) → t < n → length
    js ≡ t
    → thread_in w ≡ Some t → events_in w ≡ j → u ≡ with_joined v w → u ≡ Maker (book_at (js ++ j ∷ []) (n - (t + 1)) n)
taken v w u js j t n is lt len num ev new =
    let left : n - t ≡ suc (n - (t + 1)) = omega arith in
    new ∙ taken_view v w (book_at js (n - t) n) t j is num ev
    ∙ ap (λ k. Maker (set (map Back js ++ (replicate k Out ++ replicate (32 - n) Never)) t (Back j))) left
    ∙ ap (λ i. Maker (set (map Back js ++ (replicate (suc (n - (t + 1))) Out ++ replicate (32 - n) Never)) i (Back j))) (sym len)
    ∙ ap Maker (takes_more js j (n - (t + 1)) (replicate (32 - n) Never))

no_out : Never ≡ Out → ⊥
no_out e = cc

back_out : (j : List Event) → Back j ≡ Out → ⊥
back_out j e = cc

never_there : (m u : ℕ) → get_or (replicate m Never) u Never ≡ Never
never_there zero u = refl
never_there (suc m) zero = refl
never_there (suc m) (suc u) = never_there m u

none_out : (js : List (List Event)) (m u : ℕ) → get_or (map Back js ++ replicate m Never) u Never ≢ Out
none_out [] m u out = no_out (sym (never_there m u) ∙ out)
none_out (j ∷ js) m zero out = back_out j out
none_out (j ∷ js) m (suc u) out = none_out js m u out

-- each seat came back
pub all_back : (v : SeatView) (js : List (List Event)) (n : ℕ) → v ≡ Maker (book_at js 0 n) → (u : ℕ) → told (book_in v) u ≢ Out
all_back v js n is u out = none_out js (32 - n) u (sym (ap (λ (x : SeatView). told (book_in x) u) is) ∙ out)

lists_of : (js : List (List Event)) (m : ℕ) → map list_of (map Back js ++ replicate m Never) ≡ js ++ replicate m []
lists_of [] zero = refl
lists_of [] (suc m) = ap (λ (l : List (List Event)). [] ∷ l) (lists_of [] m)
lists_of (j ∷ js) m = ap (λ (l : List (List Event)). j ∷ l) (lists_of js m)

pub kept_journals : (v : SeatView) (js : List (List Event)) (n : ℕ) → v ≡ Maker (book_at js 0 n) → map list_of (book_in v) ≡ js ++
    replicate (32 - n) []
kept_journals v js n is = ap (λ (x : SeatView). map list_of (book_in x)) is ∙ lists_of js (32 - n)

-- of the threads below n those from t on are held; thread t is offered
pub rest_more : (t n : ℕ) (held held' : List ℕ) → ((u : ℕ) → occurrences u held + once_below u t ≡ once_below u n) → t < n → held' ≡
    without t held
    → (u : ℕ) → occurrences u held' + once_below u (t + 1) ≡ once_below u n
rest_more t n held held' h lt new u = ap (λ (l : List ℕ). occurrences u l + once_below u (t + 1)) new ∙ go (dec_lt u t) (ℕ_discrete t u)
  where
    some : 0 < occurrences t held
    some = let a = h t in omega (arith, a, once_out t t (omega arith), once_in t n lt)

    go : Dec (u < t) → Dec (t ≡ u) → occurrences u (without t held) + once_below u (t + 1) ≡ once_below u n
    go (yes less) (yes same) = absurd (omega arith)
    go (yes less) (no ne) = let a = h u in omega (
      arith,
      a,
      occurrences-without u t held some,
      mark_other u t ne,
      once_in u t less,
      once_in u (t + 1) (omega arith),
    )
    go (no ge) (yes same) = let a = h u in omega (
      arith,
      a,
      occurrences-without u t held some,
      mark_same u t same,
      once_out u t
          (omega arith),
      once_in u (t + 1) (omega arith),
    )
    go (no ge) (no ne) = let a = h u in omega (
      arith,
      a,
      occurrences-without u t held some,
      mark_other u t ne,
      once_out u t
          (omega arith),
      once_out u (t + 1) (omega arith),
    )

module _ {X : Type 0} (F : X → Type 0) where
  pub all_more : (xs ys : List X) (x : X) → All F xs → F x → ys ≡ xs ++ x ∷ [] → All F ys
  all_more xs ys x h f is = subst (All F) (sym is) (All-append F xs (x ∷ []) h (All-cons F x [] f (All-nil F)))

-- before the first seat is taken back
pub starts : {X : Type 0} (f : X → List Event) (xs : List X) (v : SeatView) (n : ℕ) → xs ≡ [] → v ≡ Maker (book_at [] n n)
    → v ≡ Maker (book_at (map f xs) (n - length xs) n)
starts f xs v n none is =
    let same : n ≡ n - 0 = omega arith in
    is ∙ ap (λ k. Maker (book_at [] k n)) same ∙ ap (λ l. Maker (book_at (map f l) (n - length l) n)) (sym none)

-- the seat of the next thread is taken back, and its context put to the others
pub taken_in : {X : Type 0} (f : X → List Event) (v w u : SeatView) (xs ys : List X) (x : X) (n : ℕ)
    → v ≡ Maker (book_at (map f xs) (n - length xs) n) → length xs < n
    → thread_in w ≡ Some (length xs) → events_in w ≡ f x → u ≡ with_joined v w → ys ≡ xs ++ x ∷ []
    → u ≡ Maker (book_at (map f ys) (n - length ys) n)
taken_in f v w u xs ys x n is lt num ev new more =
    taken v w u (map f xs) (f x) (length xs) n is lt (length-map xs f) num ev new
    ∙ ap (λ l. Maker (book_at l (n - (length xs + 1)) n)) (sym (map_push f xs x) ∙ ap (map f) (sym more))
    ∙ ap (λ (k : ℕ). Maker (book_at (map f ys) (n - k) n)) (sym (length_push xs x) ∙ ap length (sym more))

-- ---- a list whose items are taken from the front and put after others

-- at first none is done
pub begun : {X Y : Type 0} (f : X → Y) (ys : List Y) (all left : List X) → ys ≡ [] → left ≡ all → ys ++ map f left ≡ map f all
begun f ys all left none is = ap (λ l. l ++ map f left) none ∙ ap (map f) is

-- all of them, done and left, stay the same
pub moved_on : {X Y : Type 0} (f : X → Y) (ys more : List Y) (left rest : List X) (x : X) → left ≡ x ∷ rest
    → more ≡ ys ++ f x ∷ [] → more ++ map f rest ≡ ys ++ map f left
moved_on f ys more left rest x is push =
    ap (λ l. l ++ map f rest) push ∙ append_assoc ys (f x ∷ []) (map f rest) ∙ ap (λ l. ys ++ map f l) (sym is)

next_from : {Y : Type 0} (number : Y → ℕ) (a n : ℕ) (ys zs : List Y) (y : Y) → map number (ys ++ y ∷ zs) ≡ range_with_len a n
    → (length ys < n) × (number y ≡ a + length ys)
next_from number a zero [] zs y is = absurd (cc)
next_from number a zero (x ∷ ys) zs y is = absurd (cc)
next_from number a (suc n) [] zs y is = let first : number y ≡ a = cc in (omega arith, omega arith)
next_from number a (suc n) (x ∷ ys) zs y is =
    let rest : map number (ys ++ y ∷ zs) ≡ range_with_len (a + 1) n = cc in
    let h = next_from number (a + 1) n ys zs y rest in
    (omega (arith, h.0), omega (arith, h.1))

-- the next one of them has the number of those that are done
pub next_number : {X Y : Type 0} (f : X → Y) (number : Y → ℕ) (n : ℕ) (ys : List Y) (left rest : List X) (x : X) → left ≡ x ∷ rest
    → map number (ys ++ map f left) ≡ range_with_len 0 n → (length ys < n) × (number (f x) ≡ length ys)
next_number f number n ys left rest x is order =
    let h = next_from number 0 n ys (map f rest) (f x) (sym (ap (λ l. map number (ys ++ map f l)) is) ∙ order) in
    (h.0, omega (arith, h.1))

-- none is left
pub all_done : {X Y : Type 0} (f : X → Y) (ys : List Y) (left : List X) → length left ≡ 0 → ys ++ map f left ≡ ys
all_done f ys [] none = append-nil ys
all_done f ys (x ∷ left) none = absurd (omega arith)
