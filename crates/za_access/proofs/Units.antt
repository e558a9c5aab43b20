-- Elements of 16 bytes as two doublewords each.
use Rattle.std.proofs.Common.{◌≡◌, ℕ, zero, suc, ◌+◌, ◌-◌, ◌*◌, ◌/◌, ◌%◌, ◌^◌, ◌==◌, ◌<◌, Bool, true, false, List, [], ◌∷◌, ◌++◌}
use Rattle.std.proofs.Common.{length, take, drop, get_or, refl, ap, ap₂, sym, subst, ◌∙◌, arith, append_assoc, append-nil}
use Rattle.std.specs.Prelude.{flat_map, filter}
use Rattle.std.specs.List.{range_with_len}
use Rattle.std.proofs.lemmas.List.{drop-drop}
use Rattle.std.proofs.lemmas.List.Concat.{flat_map-append}
use Rattle.std.proofs.lemmas.List.Elements.{filter-append}
use Rattle.sm_types.specs.declared.vector.Elem.{Elem}
use Rattle.sm_types.specs.declared.vector.Elem.TheVariants.{B, H, S, D, Q}
use Rattle.vector_elements.specs.Elements.{is_active, bit_of}
use Rattle.sve_perm.specs.Active.{active_places as size_places}
use Rattle.sve_perm.proofs.Sums.{place_where}
use Rattle.paged_memory.specs.Memory.{run_of}
use Rattle.sve_access.specs.Elements.{element_addresses, element_bytes as unit_bytes}
use Rattle.tile_ops.specs.Slices.{element_bytes}
use Rattle.za_access.specs.Slices.{element_run, active_places, active_addresses, active_bytes}
use Rattle.za_access.specs.Units.{AreUnits}

-- ---- the active elements, one further

range-more : (a n : ℕ) → range_with_len a (n + 1) ≡ range_with_len a n ++ (a + n) ∷ []
range-more a zero = (let e : a + 0 ≡ a = omega arith in ap (λ k. k ∷ []) (sym e))
range-more a (suc n) =
    (let e : suc n + 1 ≡ suc (n + 1) = omega arith in ap (range_with_len a) e) ∙ ap (λ t. a ∷ t) (range-more (a + 1) n)
    ∙ (let e : a + 1 + n ≡ a + suc n = omega arith in ap (λ k. a ∷ (range_with_len (a + 1) n ++ k ∷ [])) e)

-- what a function gives of the places below n that pass a test
abbrev pub of_places : (ℕ → List ℕ) → (ℕ → Bool) → ℕ → List ℕ
of_places f on n = flat_map f (filter on (range_with_len 0 n))

pub places-more : (f : ℕ → List ℕ) (on : ℕ → Bool) (n : ℕ) → of_places f on (n + 1) ≡ of_places f on n ++ flat_map f (place_where (on n) n)
places-more f on n =
    let here : 0 + n ≡ n = omega arith in
    ap (λ t. flat_map f (filter on t)) (range-more 0 n ∙ ap (λ k. range_with_len 0 n ++ k ∷ []) here)
    ∙ ap (flat_map f) (filter-append on (range_with_len 0 n) (n ∷ []))
    ∙ flat_map-append f (filter on (range_with_len 0 n)) (place_where (on n) n)

-- ---- two places for one

two_where : (f g : ℕ → List ℕ) (b : Bool) (n : ℕ) → f n ≡ g (2 * n) ++ g (2 * n + 1)
    → flat_map f (place_where b n) ≡ flat_map g (place_where b (2 * n)) ++ flat_map g (place_where b (2 * n + 1))
two_where f g true n halves =
    append-nil (f n) ∙ halves ∙ ap₂ (λ a b. a ++ b) (sym (append-nil (g (2 * n)))) (sym (append-nil (g (2 * n + 1))))
two_where f g false n halves = refl

two_places : (f g : ℕ → List ℕ) (on half : ℕ → Bool) (n : ℕ) → ((i : ℕ) → f i ≡ g (2 * i) ++ g (2 * i + 1))
    → ((k : ℕ) → k < 2 * n → half k ≡ on (k / 2)) → of_places f on n ≡ of_places g half (2 * n)
two_places f g on half zero halves same = refl
two_places f g on half (suc n) halves same =
    let next : suc n ≡ n + 1 = omega arith in
    let twice : 2 * suc n ≡ 2 * n + 1 + 1 = omega arith in
    let first : half (2 * n) ≡ on n = same (2 * n) (omega arith) ∙ (let e : 2 * n / 2 ≡ n = omega arith in ap on e) in
    let second : half (2 * n + 1) ≡ on n = same (2 * n + 1) (omega arith) ∙ (let e : (2 * n + 1) / 2 ≡ n = omega arith in ap on e) in
    ap (of_places f on) next ∙ places-more f on n
    ∙ ap₂ (λ a b. a ++ b) (two_places f g on half n halves (λ k lt. same k (omega (arith, lt)))) (two_where f g (on n) n (halves n))
    ∙ sym (append_assoc (of_places g half (2 * n)) (flat_map g (place_where (on n) (2 * n))) (flat_map g (place_where (on n) (2 * n + 1))))
    ∙ ap₂ (λ a b. of_places g half (2 * n) ++ flat_map g (place_where a (2 * n)) ++ flat_map g (place_where b (2 * n + 1)))
    (sym first) (sym second)
    ∙ ap (λ t. t ++ flat_map g (place_where (half (2 * n + 1)) (2 * n + 1))) (sym (places-more g half (2 * n)))
    ∙ sym (places-more g half (2 * n + 1)) ∙ sym (ap (of_places g half) twice)

-- ---- the halves of 16 bytes

run_same : (a b n : ℕ) → a % 2 ^ 64 ≡ b % 2 ^ 64 → run_of a n ≡ run_of b n
unfolding run_of
run_same a b zero e = refl
run_same a b (suc n) e = ap₂ (λ x xs. x ∷ xs) e (run_same (a + 1) (b + 1) n (omega (arith, e)))

run_parts : (a n k : ℕ) → run_of a (n + k) ≡ run_of a n ++ run_of (a + n) k
unfolding run_of
run_parts a zero k =
    (let e : 0 + k ≡ k = omega arith in ap (run_of a) e) ∙ (let e : a + 0 ≡ a = omega arith in ap (λ x. run_of x k) (sym e))
run_parts a (suc n) k =
    (let e : suc n + k ≡ suc (n + k) = omega arith in ap (run_of a) e)
    ∙ ap (λ t. a % 2 ^ 64 ∷ t) (run_parts (a + 1) n k)
    ∙ (let e : a + 1 + n ≡ a + suc n = omega arith in ap (λ x. a % 2 ^ 64 ∷ (run_of (a + 1) n ++ run_of x k)) e)

run_halves : (start i : ℕ) → element_run start 16 i ≡ element_run start 8 (2 * i) ++ element_run start 8 (2 * i + 1)
run_halves start i =
    run_parts ((start + i * 16) % 2 ^ 64) 8 8
    ∙ ap₂ (λ a b. a ++ b) (run_same _ _ 8 (omega arith)) (run_same _ _ 8 (omega arith))

take_parts : (n k : ℕ) (xs : List ℕ) → take (n + k) xs ≡ take n xs ++ take k (drop n xs)
take_parts zero k xs = let e : 0 + k ≡ k = omega arith in ap (λ m. take m xs) e
take_parts (suc n) zero [] = let e : suc n + 0 ≡ suc n = omega arith in ap (λ m. take m []) e
take_parts (suc n) (suc k) [] = let e : suc n + suc k ≡ suc (n + suc k) = omega arith in ap (λ m. take m []) e
take_parts (suc n) k (x ∷ xs) =
    (let e : suc n + k ≡ suc (n + k) = omega arith in ap (λ m. take m (x ∷ xs)) e) ∙ ap (λ t. x ∷ t) (take_parts n k xs)

bytes_halves : (slice : List ℕ) (i : ℕ) → element_bytes 16 slice i ≡ element_bytes 8 slice (2 * i) ++ element_bytes 8 slice (2 * i + 1)
bytes_halves slice i =
    let first : i * 16 ≡ 2 * i * 8 = omega arith in
    let second : i * 16 + 8 ≡ (2 * i + 1) * 8 = omega arith in
    take_parts 8 8 (drop (i * 16) slice)
    ∙ ap₂ (λ a b. take 8 a ++ take 8 b) (ap (λ k. drop k slice) first)
    (drop-drop 8 (i * 16) slice ∙ ap (λ k. drop k slice) second)

-- ---- a predicate of doublewords

half_active : (pg units : List ℕ) (k : ℕ) → get_or units k 0 ≡ get_or pg (k - k % 2) 0 → is_active 8 units k ≡ is_active 16 pg (k / 2)
unfolding bit_of
half_active pg units k same =
    let byte : 8 * k / 8 ≡ k = omega arith in
    let place : 8 * k % 8 ≡ 16 * (k / 2) % 8 = omega arith in
    let before : k - k % 2 ≡ 16 * (k / 2) / 8 = omega arith in
    ap₂ (λ b p. b / 2 ^ p % 2 == 1) (ap (λ j. get_or units j 0) byte ∙ same ∙ ap (λ j. get_or pg j 0) before) place

flat_same : (f g : ℕ → List ℕ) (xs : List ℕ) → ((i : ℕ) → f i ≡ g i) → flat_map f xs ≡ flat_map g xs
flat_same f g [] same = refl
flat_same f g (x ∷ xs) same = ap₂ (λ a b. a ++ b) (same x) (flat_same f g xs same)

-- the same element, its number before or after its size
turned : (e : ℕ) (slice : List ℕ) (i : ℕ) → take e (drop (e * i) slice) ≡ element_bytes e slice i
turned e slice i = let same : e * i ≡ i * e = omega arith in ap (λ k. take e (drop k slice)) same

pairs_places : (f g : ℕ → List ℕ) (pg units : List ℕ) → length units ≡ length pg → length pg % 2 ≡ 0
    → ((k : ℕ) → k < length pg → get_or units k 0 ≡ get_or pg (k - k % 2) 0)
    → ((i : ℕ) → f i ≡ g (2 * i) ++ g (2 * i + 1))
    → of_places g (is_active 8 units) (8 * length units / 8) ≡ of_places f (is_active 16 pg) (8 * length pg / 16)
pairs_places f g pg units long even same halves =
    let count : 8 * length units / 8 ≡ 2 * (8 * length pg / 16) = omega (arith, long, even) in
    ap (of_places g (is_active 8 units)) count
    ∙ sym (two_places f g (is_active 16 pg) (is_active 8 units) (8 * length pg / 16) halves
    (λ k lt. half_active pg units k (same k (omega (arith, lt)))))

-- an element of 16 bytes is two doublewords
quadwords : (pg units : List ℕ) → length units ≡ length pg → length pg % 2 ≡ 0
    → ((k : ℕ) → k < length pg → get_or units k 0 ≡ get_or pg (k - k % 2) 0) → AreUnits Q pg units
unfolding element_addresses unit_bytes size_places active_places active_addresses active_bytes
quadwords pg units long even same = record {
  long = long;
  addresses = λ start.
      pairs_places (element_run start 16) (element_run start 8) pg units long even same (run_halves start);
  bytes = λ slice.
      flat_same (λ i. take 8 (drop (8 * i) slice)) (element_bytes 8 slice)
      (filter (is_active 8 units) (range_with_len 0 (8 * length units / 8))) (turned 8 slice)
      ∙ pairs_places (element_bytes 16 slice) (element_bytes 8 slice) pg units long even same (bytes_halves slice);
}

pub pairs_are_units : (size : Elem) (pg units : List ℕ) → size ≡ Q → length units ≡ length pg → length pg % 2 ≡ 0
    → ((k : ℕ) → k < length pg → get_or units k 0 ≡ get_or pg (k - k % 2) 0) → AreUnits size pg units
pairs_are_units size pg units is long even same = subst (λ s. AreUnits s pg units) (sym is) (quadwords pg units long even same)

-- the others are their own units
own_bytes : (e : ℕ) (pg slice : List ℕ)
    → flat_map (λ i. take e (drop (e * i) slice)) (filter (is_active e pg) (range_with_len 0 (8 * length pg / e)))
    ≡ flat_map (element_bytes e slice) (filter (is_active e pg) (range_with_len 0 (8 * length pg / e)))
own_bytes e pg slice =
    flat_same (λ i. take e (drop (e * i) slice)) (element_bytes e slice)
    (filter (is_active e pg) (range_with_len 0 (8 * length pg / e))) (turned e slice)

pub own_units : (size : Elem) (pg units : List ℕ) → (size ≡ Q → ⊥) → units ≡ pg → AreUnits size pg units
unfolding element_addresses unit_bytes size_places active_places active_addresses active_bytes
own_units B pg units other same =
    subst (AreUnits B pg) (sym same) (record { long = refl; addresses = λ start. refl; bytes = own_bytes 1 pg })
own_units H pg units other same =
    subst (AreUnits H pg) (sym same) (record { long = refl; addresses = λ start. refl; bytes = own_bytes 2 pg })
own_units S pg units other same =
    subst (AreUnits S pg) (sym same) (record { long = refl; addresses = λ start. refl; bytes = own_bytes 4 pg })
own_units D pg units other same =
    subst (AreUnits D pg) (sym same) (record { long = refl; addresses = λ start. refl; bytes = own_bytes 8 pg })
own_units Q pg units other same = absurd (other refl)
