-- The elements of a tile to which a vector was added.
use Rattle.std.proofs.Common.{◌≡◌, ℕ, zero, suc, ◌+◌, ◌*◌, ◌/◌, ◌%◌, ◌^◌, ◌<◌, ◌&&◌}
use Rattle.std.proofs.Common.{Bool, true, false, if◌then◌else◌, List, [], ◌∷◌, length, take, drop, get_or}
use Rattle.std.proofs.Common.{refl, ap, ◌∙◌, sym, arith, mod-eq_of_lt, mod-lt}
use Rattle.std.proofs.lemmas.Bool.{cond_both}
use Rattle.std.proofs.lemmas.List.{get_or-drop}
use Rattle.std.proofs.Math.Nat.{pow-suc}
use Rattle.std.specs.Simd.Lanes.{number_l}
use Rattle.vector_elements.specs.declared.size.Size.{Size}
use Rattle.vector_elements.specs.declared.size.Size.TheVariants.{B, H, S, D}
use Rattle.vector_elements.specs.Elements.{element_of, is_active, each_element, each_active}
use Rattle.vector_elements.specs.Numbers.{bytes_in, range_of}
use Rattle.vector_elements.proofs.ReadBack.{read_back}
use Rattle.za_array.specs.Tiles.{tile_vector, element_number}
use Rattle.tile_ops.specs.Sums.{row_sum, addend_of}
use Rattle.tile_ops.specs.Laws.{AddsAtPlaces, AddKeepsTiles}
use Rattle.za_array.proofs.Changed.{changed_row, kept_vector, same_place}
use Rattle.tile_ops.proofs.ReadBack.{length-tile_row}

-- a number of n bytes is below 256 ^ n
number_below : (n : ℕ) (xs : List ℕ) → ((k : ℕ) → get_or xs k 0 < 256) → number_l 256 (take n xs) < 256 ^ n
number_below zero xs bytes = omega arith
number_below (suc n) [] bytes = let more = number_below n [] bytes in let power = pow-suc 256 n in omega (arith, more, power)
number_below (suc n) (x ∷ xs) bytes =
    let first : x < 256 = bytes 0 in
    let rest = number_below n xs (λ k. bytes (suc k)) in
    let power = pow-suc 256 n in
    omega (arith, first, rest, power)

range_is : (size : Size) → range_of size ≡ 256 ^ bytes_in size
range_is B = refl
range_is H = refl
range_is S = refl
range_is D = refl

some_range : (size : Size) → 0 < range_of size
some_range B = omega arith
some_range H = omega arith
some_range S = omega arith
some_range D = omega arith

pub element_small : (e : ℕ) (bytes : List ℕ) (c : ℕ) → ((k : ℕ) → get_or bytes k 0 < 256) → element_of e bytes c < 256 ^ e
unfolding element_of
element_small e bytes c small = number_below e (drop (e * c) bytes) (λ k. rw get_or-drop (small (e * c + k)))

-- an element after a change of the active ones
active_element : (e : ℕ) (pm row : List ℕ) (f : ℕ → ℕ → ℕ) (c : ℕ) → c < length row / e → ((k : ℕ) → get_or row k 0 < 256)
    → ((old : ℕ) → f c old < 256 ^ e) → element_of e (each_active e pm row f) c
    ≡ (if is_active e pm c then f c (element_of e row c) else element_of e row c)
unfolding each_element
active_element e pm row f c below small fits =
    read_back e (λ i. if is_active e pm i then f i (element_of e row i) else element_of e row i) (length row / e) c below
    ∙ mod-eq_of_lt (cond_both (is_active e pm c) _ _ (λ x. x < 256 ^ e) (λ _. fits (element_of e row c)) (λ _. element_small e row c small))

-- the two predicates together
both_active : (a b : Bool) (x y : ℕ) → (if a then (if b then x else y) else y) ≡ (if a && b then x else y)
both_active true b x y = refl
both_active false b x y = refl

chosen_row : (b : Bool) (e : ℕ) (xs ys : List ℕ) (c : ℕ)
    → element_of e (if b then xs else ys) c ≡ (if b then element_of e xs c else element_of e ys c)
chosen_row true e xs ys c = refl
chosen_row false e xs ys c = refl

summed_element : (size : Size) (vertical : Bool) (pn pm zn : List ℕ) (r c : ℕ) (row : List ℕ) → c < length row / bytes_in size
    → ((k : ℕ) → get_or row k 0 < 256) → element_of (bytes_in size) (row_sum size vertical pn pm zn r row) c
    ≡ (if is_active (bytes_in size) pn r && is_active (bytes_in size) pm c
    then (element_of (bytes_in size) row c + addend_of size vertical zn r c) % range_of size
    else element_of (bytes_in size) row c)
unfolding row_sum
summed_element size vertical pn pm zn r c row below small =
    let e = bytes_in size in
    let f : ℕ → ℕ → ℕ = λ i old. (old + addend_of size vertical zn r i) % range_of size in
    let fits : (old : ℕ) → f c old < 256 ^ e = λ old.
    rw (sym (range_is size)) (mod-lt (old + addend_of size vertical zn r c) (some_range size)) in
    chosen_row (is_active e pn r) e (each_active e pm row f) row c
    ∙ ap (λ x. if is_active e pn r then x else element_of e row c) (active_element e pm row f c below small fits)
    ∙ both_active (is_active e pn r) (is_active e pm c) (f c (element_of e row c)) (element_of e row c)

pub adds_at_places : AddsAtPlaces
adds_at_places size bytes tile vertical pn pm zn za square t small r c row column =
    let e = bytes_in size in
    let old = get_or za (tile_vector e tile r) [] in
    let long : length old ≡ bytes = length-tile_row bytes e tile r za square t row in
    let first : element_number e tile za r c ≡ element_of e old c = same_place e old c in
    ap (λ b. number_l 256 (take e (drop (c * e) b))) (changed_row e tile (row_sum size vertical pn pm zn) za r t (rw square.count row))
    ∙ same_place e (row_sum size vertical pn pm zn r old) c
    ∙ summed_element size vertical pn pm zn r c old (rw long column) (small (tile_vector e tile r))
    ∙ ap (λ x. if is_active e pn r && is_active e pm c then (x + addend_of size vertical zn r c) % range_of size else x) (sym first)

pub add_keeps_tiles : AddKeepsTiles
add_keeps_tiles size tile vertical pn pm zn za v other = kept_vector (bytes_in size) tile (row_sum size vertical pn pm zn) za v other
