-- The elements of a slice that is loaded.
use Rattle.std.proofs.Common.{◌≡◌, ℕ, zero, suc, ◌+◌, ◌-◌, ◌*◌, ◌/◌, ◌%◌, ◌^◌, ◌<◌, ◌≤◌, Bool, true, if◌then◌else◌, List, [], ◌∷◌, ◌++◌}
use Rattle.std.proofs.Common.{length, take, drop, replicate, refl, ap, ap₂, sym, ◌∙◌, arith, Some, None, inl, inr, append-nil}
use Rattle.std.proofs.Common.{length-append}
use Rattle.std.specs.Prelude.{flat_map, unwrap_or}
use Rattle.std.specs.List.{find, concat}
use Rattle.std.proofs.lemmas.List.{take-replicate, drop-replicate, length-replicate}
use Rattle.std.proofs.lemmas.Bool.{cases_lt}
use Rattle.std.proofs.lemmas.List.{length-take-le, length-drop}
use Rattle.sm_types.specs.declared.vector.Elem.{Elem}
use Rattle.sm_types.specs.declared.vector.Elem.TheVariants.{B, H, S, D, Q}
use Rattle.vector_elements.specs.Elements.{is_active, listed}
use Rattle.paged_memory.specs.Memory.{AddressSpace, first_without, bytes_with}
use Rattle.mem_access.specs.Checks.{lacks}
use Rattle.mem_access.proofs.Lists.{denied_run, bytes_run}
use Rattle.sve_perm.proofs.Sums.{place_where}
use Rattle.sve_access.specs.After.{read_bytes}
use Rattle.sve_access.proofs.Spans.{parts_read}
use Rattle.sve_access.proofs.Lists.{none_fails}
use Rattle.tile_ops.specs.Slices.{element_bytes, with_element}
use Rattle.tile_ops.specs.Moves.{merged, chosen_element}
use Rattle.tile_ops.proofs.Filled.{within}
use Rattle.tile_ops.specs.Named.{element_size}
use Rattle.za_access.specs.Slices.{element_run, active_places, active_addresses, loaded_element, loaded_slice}
use Rattle.za_access.proofs.Units.{of_places, places-more}

-- where no byte of the active elements fails a check, none of each of them does
each_place : (test : ℕ → Bool) (f : ℕ → List ℕ) (on : ℕ → Bool) (n : ℕ) → find test (of_places f on n) ≡ None
    → (k : ℕ) → k < n → on k ≡ true → find test (f k) ≡ None
each_place test f on zero none k lt active = absurd (omega (arith, lt))
each_place test f on (suc n) none k lt active =
    let next : suc n ≡ n + 1 = omega arith in
    let more = ap (of_places f on) next ∙ places-more f on n in
    let split = none_fails test (of_places f on n) (flat_map f (place_where (on n) n)) (ap (find test) (sym more) ∙ none) in
    elim (cases_lt k n) [
      | inl before ↦ each_place test f on n split.0 k before active
      | inr last ↦
          let here : n ≡ k = omega (arith, lt, last) in
          let one : flat_map f (place_where (on n) n) ≡ f k =
          ap (λ j. flat_map f (place_where (on j) j)) here ∙ ap (λ b. flat_map f (place_where b k)) active ∙ append-nil (f k) in
          ap (find test) (sym one) ∙ split.1
    ]

pub each_readable : (start e : ℕ) (pg : List ℕ) (m : AddressSpace) (i : ℕ) → find (lacks 4 m) (active_addresses start e pg) ≡ None
    → i < 8 * length pg / e → is_active e pg i ≡ true → first_without 4 m ((start + i * e) % 2 ^ 64) e ≡ None
unfolding active_addresses active_places
each_readable start e pg m i none below active =
    sym (denied_run 4 m ((start + i * e) % 2 ^ 64) e)
    ∙ each_place (lacks 4 m) (element_run start e) (is_active e pg) (8 * length pg / e) none i below active

-- an element of bytes that were read
element_read : (m : AddressSpace) (start e i : ℕ) (bytes : List ℕ) (n : ℕ) → bytes_with 4 m start n ≡ Some bytes → i * e + e ≤ n
    → element_bytes e bytes i ≡ read_bytes m (element_run start e i)
element_read m start e i bytes n read room =
    let rest = n - (i * e + e) in
    let address = (start + i * e) % 2 ^ 64 in
    let count : i * e + (e + rest) ≡ n = omega (arith, room) in
    let whole : bytes_with 4 m start (i * e + (e + rest)) ≡ Some bytes = ap (bytes_with 4 m start) count ∙ read in
    let later = (parts_read 4 m start (i * e) (e + rest) bytes whole).1 in
    let here = (parts_read 4 m address e rest (drop (i * e) bytes) later).0 in
    sym (ap (λ o. unwrap_or o []) (bytes_run m address e ∙ here))

element_zero : (e i n : ℕ) → i * e + e ≤ n → element_bytes e (replicate n 0) i ≡ replicate e 0
element_zero e i n room =
    ap (take e) (drop-replicate (i * e) n 0) ∙ take-replicate e (n - i * e) 0 (omega (arith, room))

same_listed : (f g : ℕ → List ℕ) (n : ℕ) → ((i : ℕ) → i < n → f i ≡ g i) → listed f n ≡ listed g n
unfolding listed
same_listed f g zero same = refl
same_listed f g (suc n) same =
    ap₂ (λ xs x. xs ++ x ∷ []) (same_listed f g n (λ i lt. same i (omega (arith, lt)))) (same n (omega arith))

-- a slice that is loaded from the bytes of all elements
pub loaded_whole : (start e : ℕ) (pg : List ℕ) (m : AddressSpace) (bytes : List ℕ) (n : ℕ) → bytes_with 4 m start n ≡ Some bytes
    → n ≡ 8 * length pg → merged e pg bytes (replicate n 0) ≡ loaded_slice start e pg m
unfolding merged loaded_slice
loaded_whole start e pg m bytes n read bits =
    let long = length-replicate n 0 in
    ap (λ k. concat (listed (chosen_element e pg bytes (replicate n 0)) (k / e))) long
    ∙ ap concat (same_listed (chosen_element e pg bytes (replicate n 0)) (loaded_element start e pg m) (n / e)
    (λ i below.
    let room = within n e i below in
    ap₂ (λ a b. if is_active e pg i then a else b) (element_read m start e i bytes n read room) (element_zero e i n room)))
    ∙ ap (λ k. concat (listed (loaded_element start e pg m) (k / e))) bits

-- an element that is written keeps the length
pub element_long : (e : ℕ) (bytes x : List ℕ) (i : ℕ) → i * e + e ≤ length bytes → length (with_element e bytes i x) ≡ length bytes
    → length x ≡ e
element_long e bytes x i room same =
    let front = length-take-le (i * e) bytes (omega arith) in
    let back = length-drop (i * e + e) bytes in
    let whole = simp length-append at same in
    omega (arith, front, back, whole)

-- sizes of elements
pub whole_elements : (size : Elem) (n : ℕ) → n % 16 ≡ 0 → n % element_size size ≡ 0
whole_elements B n whole = omega arith
whole_elements H n whole = omega arith
whole_elements S n whole = omega arith
whole_elements D n whole = omega arith
whole_elements Q n whole = whole

pub below_count : (size : Elem) (i n : ℕ) → i * element_size size + element_size size ≤ n → i < n / element_size size
below_count B i n room = omega arith
below_count H i n room = omega arith
below_count S i n room = omega arith
below_count D i n room = omega arith
below_count Q i n room = omega arith
