-- Fields that are put one after the other.
use Rattle.std.proofs.Common.{◌≡◌, ℕ, suc, ◌+◌, ◌*◌, ◌/◌, ◌%◌, ◌<◌, ◌==◌, ◌++◌, Bool, true, false, not, cond, List, [], ◌∷◌, length}
use Rattle.std.proofs.Common.{map, take, get_or, Some, refl, ap, sym, ◌∙◌, arith, append_assoc}
use Rattle.std.specs.Prelude.{slice_get, slice_index, slice_index_or, count_by}
use Rattle.std.specs.List.{concat, flat_map}
use Rattle.std.specs.FinMap.{entries, len, len-entries}
use Rattle.std.proofs.lemmas.Grind.{flat_map-append}
use Rattle.std.proofs.lemmas.List.{append-nil, take_more, map-append, get_or-map, length-map, length-take-le}
use Rattle.std.proofs.lemmas.List.Folds.{concat-append}
use Rattle.std.proofs.lemmas.List.Sums.{sum_by-cons}
use Rattle.std.proofs.lemmas.Option.{slice_get-get_or}
use Rattle.byteorder.specs.Endian.{little_bytes}
use Rattle.sve_vectors.specs.Predicates.{predicate_bytes}
use Rattle.paged_memory.specs.Memory.{AddressSpace, bytes_from}
use Rattle.kernel_contexts.specs.HandlerTable.{set_from}
use Rattle.ckpt_fields.specs.Values.{handler_value, page_value}
use Rattle.ckpt_file.specs.Checkpoint.{pages_in}
use Rattle.ckpt_file.specs.Putting.{IsPut}

pub put_more : (values others : List (List ℕ)) (old mid new : List ℕ) → IsPut values old mid → IsPut others mid new
    → IsPut (values ++ others) old new
put_more values others old mid new h k =
    k ∙ ap (λ l. l ++ concat others) h ∙ append_assoc old (concat values) (concat others)
    ∙ ap (λ l. old ++ l) (sym (concat-append values others))

pub put_as : (values others : List (List ℕ)) (old new : List ℕ) → values ≡ others → IsPut values old new → IsPut others old new
put_as values others old new e h = h ∙ ap (λ v. old ++ concat v) e

pub put_none : (old : List ℕ) (values : List (List ℕ)) → values ≡ [] → IsPut values old old
put_none old values e = sym (append-nil old) ∙ ap (λ v. old ++ concat v) (sym e)

-- one row more
pub put_next : (rows : List (List ℕ)) (k : ℕ) (row old mid new : List ℕ) → k < length rows → row ≡ get_or rows k []
    → IsPut (take k rows) old mid → IsPut (row ∷ []) mid new → IsPut (take (k + 1) rows) old new
put_next rows k row old mid new l is h more =
    put_as (take k rows ++ row ∷ []) (take (k + 1) rows) old new
    (ap (λ r. take k rows ++ r ∷ []) is ∙ sym (take_more rows k [] l)) (put_more (take k rows) (row ∷ []) old mid new h more)

-- one number more
pub put_number : (n : ℕ) (numbers : List ℕ) (k : ℕ) (old mid new : List ℕ) → k < length numbers
    → IsPut (map (little_bytes n) (take k numbers)) old mid → IsPut (little_bytes n (slice_index numbers k) ∷ []) mid new
    → IsPut (map (little_bytes n) (take (k + 1) numbers)) old new
put_number n numbers k old mid new l h more =
    put_as (map (little_bytes n) (take k numbers) ++ little_bytes n (slice_index numbers k) ∷ [])
    (map (little_bytes n) (take (k + 1) numbers)) old new
    (sym (ap (map (little_bytes n)) (take_more numbers k 0 l) ∙ map-append (little_bytes n) (take k numbers) (get_or numbers k 0 ∷ [])))
    (put_more (map (little_bytes n) (take k numbers)) (little_bytes n (slice_index numbers k) ∷ []) old mid new h more)

-- one predicate more
pub put_predicate : (ps : List (List Bool)) (k : ℕ) (bytes old mid new : List ℕ) → k < length ps
    → bytes ≡ predicate_bytes (slice_index_or ps k []) → IsPut (take k (map predicate_bytes ps)) old mid
    → IsPut (bytes ∷ []) mid new → IsPut (take (k + 1) (map predicate_bytes ps)) old new
put_predicate ps k bytes old mid new l is h more =
    let inside : k < length (map predicate_bytes ps) = omega (arith, length-map ps predicate_bytes, l) in
    put_next (map predicate_bytes ps) k bytes old mid new inside (is ∙ sym (get_or-map predicate_bytes ps k [] [] l)) h more

-- ---- handlers

pub set_one : (signal address : ℕ) → (address == 0) ≡ false
    → little_bytes 4 signal ∷ little_bytes 8 address ∷ [] ≡ flat_map handler_value (set_from signal (address ∷ []))
unfolding set_from
set_one signal address some = rw some refl

pub set_none : (signal address : ℕ) → (address == 0) ≡ true → flat_map handler_value (set_from signal (address ∷ [])) ≡ []
unfolding set_from
set_none signal address none = rw none refl

pub set_nothing : (signal : ℕ) → flat_map handler_value (set_from signal []) ≡ []
unfolding set_from
set_nothing signal = refl

set_append : (j : ℕ) (xs ys : List ℕ) → set_from j (xs ++ ys) ≡ set_from j xs ++ set_from (j + length xs) ys
unfolding set_from
set_append j [] ys = let same : j ≡ j + 0 = omega arith in ap (λ n. set_from n ys) same
set_append j (x ∷ xs) ys =
    let place : j + 1 + length xs ≡ j + suc (length xs) = omega arith in
    let rest : set_from (j + 1) (xs ++ ys) ≡ set_from (j + 1) xs ++ set_from (j + suc (length xs)) ys =
    set_append (j + 1) xs ys ∙ ap (λ n. set_from (j + 1) xs ++ set_from n ys) place in
    elim (x == 0) as (λ b. cond b (set_from (j + 1) (xs ++ ys)) ((j, x) ∷ set_from (j + 1) (xs ++ ys))
    ≡ cond b (set_from (j + 1) xs) ((j, x) ∷ set_from (j + 1) xs) ++ set_from (j + suc (length xs)) ys) [
      | true ↦ rest
      | false ↦ ap (λ l. (j, x) ∷ l) rest
    ]

-- one signal more
pub put_signal : (addresses : List ℕ) (k : ℕ) (old mid new : List ℕ) → k < length addresses
    → IsPut (flat_map handler_value (set_from 0 (take k addresses))) old mid
    → IsPut (flat_map handler_value (set_from k (slice_index addresses k ∷ []))) mid new
    → IsPut (flat_map handler_value (set_from 0 (take (k + 1) addresses))) old new
put_signal addresses k old mid new l h more =
    let here : 0 + length (take k addresses) ≡ k = omega (arith, length-take-le k addresses (omega (arith, l))) in
    let next : set_from 0 (take (k + 1) addresses) ≡ set_from 0 (take k addresses) ++ set_from k (get_or addresses k 0 ∷ []) =
    ap (set_from 0) (take_more addresses k 0 l) ∙ set_append 0 (take k addresses) (get_or addresses k 0 ∷ [])
    ∙ ap (λ n. set_from 0 (take k addresses) ++ set_from n (get_or addresses k 0 ∷ [])) here in
    put_as
    (flat_map handler_value (set_from 0 (take k addresses)) ++ flat_map handler_value (set_from k (slice_index addresses k ∷ [])))
    (flat_map handler_value (set_from 0 (take (k + 1) addresses))) old new
    (sym (ap (flat_map handler_value) next ∙ flat_map-append handler_value (set_from 0 (take k addresses))
    (set_from k (get_or addresses k 0 ∷ []))))
    (put_more (flat_map handler_value (set_from 0 (take k addresses)))
    (flat_map handler_value (set_from k (slice_index addresses k ∷ []))) old mid new h more)

-- how many are set
pub set_count : (k : ℕ) (xs : List ℕ) → count_by (λ a. not (a == 0)) xs ≡ length (set_from k xs)
unfolding set_from
set_count k [] = refl
set_count k (x ∷ xs) =
    sum_by-cons (λ a. cond (not (a == 0)) 1 0) x xs
    ∙ elim (x == 0) as (λ b. cond (not b) 1 0 + count_by (λ a. not (a == 0)) xs
    ≡ length (cond b (set_from (k + 1) xs) ((k, x) ∷ set_from (k + 1) xs))) [
      | true ↦ (let none : 0 + count_by (λ a. not (a == 0)) xs ≡ count_by (λ a. not (a == 0)) xs = omega arith in none
          ∙ set_count (k + 1) xs)
      | false ↦ (let more = set_count (k + 1) xs in omega (arith, more))
    ]

-- ---- pages

-- one page more
pub put_page_next : (m : AddressSpace) (k address flags : ℕ) (bytes old mid new : List ℕ) → k < len m.perm
    → slice_get (entries m.perm) k ≡ Some (address / 4096, flags) → address % 4096 ≡ 0 → bytes ≡ bytes_from m.mem address 4096
    → IsPut (flat_map page_value (take k (pages_in m))) old mid → IsPut (page_value (address, flags, bytes)) mid new
    → IsPut (flat_map page_value (take (k + 1) (pages_in m))) old new
unfolding pages_in
put_page_next m k address flags bytes old mid new l entry aligned is h more =
    let shown : ℕ × ℕ → ℕ × ℕ × List ℕ = λ e. (4096 * e.0, e.1, bytes_from m.mem (4096 * e.0) 4096) in
    let pages : List (ℕ × ℕ × List ℕ) = map shown (entries m.perm) in
    let inside : k < length (entries m.perm) = omega (arith, l, len-entries m.perm) in
    let there : k < length pages = omega (arith, inside, length-map (entries m.perm) shown) in
    let found : Some (get_or (entries m.perm) k (0, 0)) ≡ Some (address / 4096, flags) =
    sym (slice_get-get_or (entries m.perm) k (0, 0) inside) ∙ entry in
    let here : get_or (entries m.perm) k (0, 0) ≡ (address / 4096, flags) = some_same found in
    let place : 4096 * (address / 4096) ≡ address = omega (arith, aligned) in
    let page : shown (address / 4096, flags) ≡ (address, flags, bytes) =
    λ i. (place i, flags, (ap (λ a. bytes_from m.mem a 4096) place ∙ sym is) i) in
    let last : get_or pages k (0, 0, []) ≡ (address, flags, bytes) =
    get_or-map shown (entries m.perm) k (0, 0) (0, 0, []) inside ∙ ap shown here ∙ page in
    put_as (flat_map page_value (take k pages) ++ page_value (address, flags, bytes)) (flat_map page_value (take (k + 1) pages)) old new
    (sym (ap (flat_map page_value) (take_more pages k (0, 0, []) there)
    ∙ flat_map-append page_value (take k pages) (get_or pages k (0, 0, []) ∷ [])
    ∙ ap (λ l. flat_map page_value (take k pages) ++ l) (append-nil (page_value (get_or pages k (0, 0, []))) ∙ ap page_value last)))
    (put_more (flat_map page_value (take k pages)) (page_value (address, flags, bytes)) old mid new h more)
  where
    some_same : {A : Type 0} {a b : A} → Some a ≡ Some b → a ≡ b
    some_same e = cc

pub pages_count : (m : AddressSpace) → len m.perm ≡ length (pages_in m)
unfolding pages_in
pages_count m = len-entries m.perm ∙ sym (length-map (entries m.perm) (λ e. (4096 * e.0, e.1, bytes_from m.mem (4096 * e.0) 4096)))
