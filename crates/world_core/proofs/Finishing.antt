-- The threads of a world, put together and in the order of their numbers.
use Rattle.std.proofs.Common.{◌≡◌, ℕ, ◌+◌, ◌++◌, ◌==◌, ◌<◌, if◌then◌else◌, true, List, [], ◌∷◌, map, length, get_or, refl, sym, ap, ◌∙◌}
use Rattle.std.proofs.Common.{subst, arith, inl, inr}
use Rattle.std.specs.Prelude.{Some, Contains, IsPermutation, slice_get}
use Rattle.std.specs.List.{range_with_len}
use Rattle.std.specs.Option.{option_map}
use Rattle.std.proofs.lemmas.List.{length-map}
use Rattle.std.proofs.lemmas.Simd.{map-map}
use Rattle.std.proofs.lemmas.List.Elements.{Contains-append_left, Contains-append_right, Contains-append_cases}
use Rattle.std.proofs.lemmas.List.FromFn.{length-range_with_len, get_or-range_with_len}
use Rattle.std.proofs.lemmas.List.Sorted.{IsPermutation-sym, IsPermutation-map, Contains-permutation}
use Rattle.std.proofs.lemmas.Option.{same_Some, slice_get-map, slice_get-get_or, slice_get_within}
use Rattle.plain_lemmas.proofs.Lists.{slice_get_from_map}
use Rattle.kernel_contexts.specs.Context.{thread_of, is_home}
use Rattle.kernel_contexts.specs.declared.context.Context.{Context}
use Rattle.kernel_contexts.specs.Guest.{Guest, guest_of}
use Rattle.thread_lists.specs.Counts.{total, once_below}
use Rattle.thread_lists.proofs.Sums.{total-append}
use Rattle.world_core.specs.Finish.{IsPlaced}
use Rattle.world_core.specs.World.{World, threads_of, residents_of, times, IsOwned}
use Rattle.world_core.proofs.Lists.{among_itself}

module _ (w : World) (all : List Guest) (is : all ≡ (w.done ++ w.queue) ++ residents_of w.cores) where
  pub all_once : IsOwned w → (t : ℕ) → times t all ≡ once_below t w.config.threads
  all_once owned = λ t.
      let f : Guest → ℕ = λ g. if g.number == t then 1 else 0 in
      let a = ap (total f) is in
      let b = total-append f (w.done ++ w.queue) (residents_of w.cores) in
      let c = total-append f w.done w.queue in
      let d = total-append f (w.queue ++ residents_of w.cores) w.done in
      let e = total-append f w.queue (residents_of w.cores) in
      let o = owned t in omega (arith, a, b, c, d, e, o)

  among_parts : (g : Guest) → Contains ((w.done ++ w.queue) ++ residents_of w.cores) g → Contains (threads_of w) g
  among_parts g h = elim (Contains-append_cases (w.done ++ w.queue) (residents_of w.cores) g h) [
    | inl front ↦ elim (Contains-append_cases w.done w.queue g front) [
      | inl d ↦ Contains-append_right (w.queue ++ residents_of w.cores) w.done g d
      | inr q ↦ Contains-append_left (w.queue ++ residents_of w.cores) w.done g (Contains-append_left w.queue (residents_of w.cores) g q)
    ]
    | inr r ↦ Contains-append_left (w.queue ++ residents_of w.cores) w.done g (Contains-append_right w.queue (residents_of w.cores) g r)
  ]

  pub all_among : (g : Guest) → Contains all g → Contains (threads_of w) g
  all_among g h = among_parts g (subst (λ (l : List Guest). Contains l g) is h)

-- ---- contexts without their tickets

pub all_home : {X : Type 0} (context : X → Context) → ((x : X) → is_home (context x) ≡ true) → (xs : List X) (contexts : List Context)
    → contexts ≡ map context xs → (k : ℕ) (c : Context) → slice_get contexts k ≡ Some c → is_home c ≡ true
all_home context home xs contexts are k c get =
    let found = slice_get_from_map context xs k c (ap (λ l. slice_get l k) (sym are) ∙ get) in ap is_home (sym found.2) ∙ home found.0

-- and in the order of their threads' numbers

pub in_number : {X : Type 0} (context : X → Context) (sorted : List X) (bound : ℕ)
    → map (λ x. thread_of (context x)) sorted ≡ range_with_len 0 bound → (contexts : List Context) → contexts ≡ map context sorted
    → map (λ c. thread_of c) contexts ≡ range_with_len 0 (length contexts)
in_number context sorted bound order contexts are =
    let numbers : map (λ c. thread_of c) contexts ≡ range_with_len 0 bound =
    ap (map (λ c. thread_of c)) are ∙ map-map (λ c. thread_of c) context sorted ∙ order in
    let count : bound ≡ length contexts =
    sym (length-range_with_len 0 bound) ∙ ap length (sym numbers) ∙ length-map contexts (λ c. thread_of c) in
    numbers ∙ ap (range_with_len 0) count

module _ {X : Type 0} (context : X → Context) (home : (x : X) → is_home (context x) ≡ true) (all sorted : List X)
    (bound : ℕ) (same : IsPermutation all sorted) (order : map (λ x. thread_of (context x)) sorted ≡ range_with_len 0 bound) where
  pub sorted_count : length sorted ≡ bound
  sorted_count = sym (length-map sorted (λ x. thread_of (context x))) ∙ ap length order ∙ length-range_with_len 0 bound

  number_at : (k : ℕ) (x : X) → slice_get sorted k ≡ Some x → thread_of (context x) ≡ k
  number_at k x at =
      let number = λ (y : X). thread_of (context y) in
      let less : k < bound = omega (arith, slice_get_within sorted k x at, sorted_count) in
      let here = sym (slice_get-map number sorted k ∙ ap (option_map number) at) ∙ ap (λ l. slice_get l k) order
      ∙ slice_get-get_or (range_with_len 0 bound) k 0 (omega (arith, less, length-range_with_len 0 bound)) in
      let is = same_Some (number x) (get_or (range_with_len 0 bound) k 0) here in
      omega (arith, is, get_or-range_with_len 0 bound k 0 less)

  pub placed : (contexts : List Context) → contexts ≡ map context sorted → (k : ℕ) (c : Context) → slice_get contexts k ≡ Some c
      → IsPlaced (map (λ x. guest_of (context x)) all) k c
  placed contexts are k c get =
      let guest = λ (x : X). guest_of (context x) in
      let found = slice_get_from_map context sorted k c (ap (λ l. slice_get l k) (sym are) ∙ get) in
      let x = found.0 in
      let at = found.1 in
      let among = Contains-permutation (map guest sorted) (map guest all) (guest x)
      (IsPermutation-map guest sorted all (IsPermutation-sym all sorted same)) (among_itself guest sorted k x at) in
      subst (IsPlaced (map guest all) k) found.2 (record { home = home x; number_of = number_at k x at; among = among })
