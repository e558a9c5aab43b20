-- Sixteen bytes of a vector as lanes.
use Rattle.std.proofs.Common.{◌≡◌, ℕ, zero, suc, ◌+◌, ◌-◌, ◌*◌, ◌/◌, ◌%◌, ◌^◌, ◌<◌, ◌≤◌, List, [], ◌∷◌, ◌++◌, length, take, drop, get_or}
use Rattle.std.proofs.Common.{ap, ap₂, ◌∙◌, sym, refl, arith, subst, Fits, append_assoc}
use Rattle.std.proofs.Math.Nat.{pow-suc}
use Rattle.std.proofs.Math.Seq.{drop-cons}
use Rattle.std.proofs.lemmas.List.{drop-take, take-take, drop-drop, same_lists, get_or_default, append-nil}
use Rattle.std.proofs.lemmas.Simd.{put_chunk_is, get_or_wider, get_or-chunk, length-chunk, below_from_Fits, chunk-fits, length-zip2, get_or-zip2}
use Rattle.std.specs.Int.{w8}
use Rattle.std.specs.Simd.Lanes.{number_l, digits_l, Each1, zip2, chunk, put_chunk}
use Rattle.vector_elements.specs.declared.size.Size.{Size}
use Rattle.vector_elements.specs.declared.size.Size.TheVariants.{B, H, S, D}
use Rattle.vector_elements.specs.Elements.{listed, element_of, bytes_of}
use Rattle.vector_elements.specs.Numbers.{bytes_in, range_of}
use Rattle.vector_elements.specs.Lanes.{lanes_in, lanes_of, with_lanes}
use Rattle.vector_elements.proofs.Lists.{length-listed, listed-at, length-bytes, length-written, bytes-append, take_front, drop_front}
use Rattle.vector_elements.proofs.Masks.{listed_same}

-- as many numbers as 16 bytes have elements, each of an element
abbrev pub AreLanes : Size → List ℕ → Type 0
AreLanes size lanes = (length lanes ≡ lanes_in size) × Each1 (λ x. x < range_of size) lanes

pub values_of : (size : Size) → 256 ^ bytes_in size ≡ range_of size
values_of B = refl
values_of H = refl
values_of S = refl
values_of D = refl

sixteen : (size : Size) → bytes_in size * lanes_in size ≡ 16
sixteen B = refl
sixteen H = refl
sixteen S = refl
sixteen D = refl

part_of_chunk : (row : List ℕ) (a n b e c : ℕ) → b + e ≤ n → c ≡ a + b → take e (drop b (take n (drop a row))) ≡ take e (drop c row)
part_of_chunk row a n b e c room place =
    let whole : n ≡ b + (n - b) = omega (arith, room) in
    ap (λ k. take e (drop b (take k (drop a row)))) whole ∙ ap (take e) (drop-take b (n - b) (drop a row))
    ∙ take-take e (n - b) (drop b (drop a row)) (omega (arith, room)) ∙ ap (take e) (drop-drop b a row)
    ∙ ap (λ k. take e (drop k row)) (sym place)

-- an element of 16 bytes, as a lane
pub row_lane : (size : Size) (row : List ℕ) (i n j k : ℕ) → ((k : ℕ) → Fits w8 (get_or row k 0)) → j < n
    → bytes_in size * j + bytes_in size ≤ 16 → bytes_in size * k ≡ 16 * i + bytes_in size * j
    → get_or (digits_l (range_of size) n (number_l 256 (chunk (16 * i) 16 row))) j 0 ≡ element_of (bytes_in size) row k
unfolding element_of
row_lane size row i n j k fits inside room place =
    get_or_wider 256 (bytes_in size) (range_of size) n _ j (sym (values_of size))
    (below_from_Fits w8 _ (chunk-fits w8 (16 * i) 16 row fits)) inside
    ∙ ap (number_l 256) (part_of_chunk row (16 * i) 16 (bytes_in size * j) (bytes_in size) (bytes_in size * k) room place)

length-lanes : (q n x : ℕ) → length (digits_l q n x) ≡ n
length-lanes q zero x = refl
length-lanes q (suc n) x = ap suc (length-lanes q n (x / q))

as_listed : (xs : List ℕ) (f : ℕ → ℕ) (n : ℕ) → length xs ≡ n → ((j : ℕ) → j < n → get_or xs j 0 ≡ f j) → xs ≡ listed f n
as_listed xs f n long each =
    same_lists xs (listed f n) (long ∙ sym (length-listed f n))
    (λ j d below.
    let inside : j < n = omega (arith, below, long) in
    get_or_default xs j d 0 below ∙ each j inside ∙ sym (listed-at f n j d inside))

lane_room : (size : Size) (j : ℕ) → j < lanes_in size → bytes_in size * j + bytes_in size ≤ 16
lane_room B j lt = omega (arith, lt)
lane_room H j lt = omega (arith, lt)
lane_room S j lt = omega (arith, lt)
lane_room D j lt = omega (arith, lt)

lane_place : (size : Size) (i j : ℕ) → bytes_in size * (lanes_in size * i + j) ≡ 16 * i + bytes_in size * j
lane_place B i j = omega arith
lane_place H i j = omega arith
lane_place S i j = omega arith
lane_place D i j = omega arith

-- the lanes that are read
pub lanes_read : (size : Size) (row : List ℕ) (i : ℕ) → ((k : ℕ) → Fits w8 (get_or row k 0))
    → digits_l (range_of size) (lanes_in size) (number_l 256 (chunk (16 * i) 16 row)) ≡ lanes_of size row i
unfolding lanes_of
lanes_read size row i fits =
    as_listed _ _ (lanes_in size) (length-lanes (range_of size) (lanes_in size) _)
    (λ j below. row_lane size row i (lanes_in size) j (lanes_in size * i + j) fits below (lane_room size j below) (lane_place size i j))

byte_is : (row : List ℕ) (k : ℕ) → k < length row → get_or row k 0 ≡ element_of 1 row k
unfolding element_of
byte_is row k lt =
    let same : k ≡ 1 * k = omega arith in
    let one : get_or row (1 * k) 0 ≡ get_or row (1 * k) 0 + 256 * 0 = omega arith in
    ap (λ i. get_or row i 0) same ∙ one ∙ sym (ap (λ l. number_l 256 (take 1 l)) (drop-cons row (1 * k) 0 (omega (arith, lt))))

pub bytes_read : (row : List ℕ) (i : ℕ) → 16 * i + 16 ≤ length row → chunk (16 * i) 16 row ≡ lanes_of B row i
unfolding lanes_of
bytes_read row i room =
    as_listed _ _ 16 (length-chunk (16 * i) 16 row room)
    (λ j below. get_or-chunk (16 * i) 16 row j 0 below ∙ byte_is row (16 * i + j) (omega (arith, room, below)))

-- a number's digits, of which the low ones are those of a part
low_digits : (n m x y : ℕ) → x < 256 ^ n → digits_l 256 (n + m) (x + 256 ^ n * y) ≡ digits_l 256 n x ++ digits_l 256 m y
low_digits zero m x y small = let none : x + 256 ^ 0 * y ≡ y = omega (arith, small) in
    ap₂ (digits_l 256) (let same : 0 + m ≡ m = omega arith in same) none
low_digits (suc n) m x y small =
    let power = pow-suc 256 n in
    let upper = 256 ^ n * y in
    let whole : x + 256 ^ suc n * y ≡ x + 256 * upper = rw power omega arith in
    let low : (x + 256 * upper) % 256 ≡ x % 256 = omega arith in
    let high : (x + 256 * upper) / 256 ≡ x / 256 + upper = omega arith in
    ap₂ (digits_l 256) (let same : suc n + m ≡ suc (n + m) = omega arith in same) whole
    ∙ ap₂ (λ a b. a ∷ digits_l 256 (n + m) b) low high
    ∙ ap (λ t. x % 256 ∷ t) (low_digits n m (x / 256) y (omega (arith, small, power)))

-- the bytes of lanes
pub lane_bytes : (e : ℕ) (xs : List ℕ) → Each1 (λ x. x < 256 ^ e) xs → digits_l 256 (e * length xs) (number_l (256 ^ e) xs) ≡ bytes_of e xs
unfolding bytes_of
lane_bytes e [] fits = let none : e * 0 ≡ 0 = omega arith in ap (λ n. digits_l 256 n 0) none
lane_bytes e (x ∷ xs) fits =
    let more : e * suc (length xs) ≡ e + e * length xs = omega arith in
    ap (λ n. digits_l 256 n (x + 256 ^ e * number_l (256 ^ e) xs)) more
    ∙ low_digits e (e * length xs) x (number_l (256 ^ e) xs) fits.0
    ∙ ap (λ t. digits_l 256 e x ++ t) (lane_bytes e xs fits.1)

stored : (size : Size) (row lanes xs : List ℕ) (i : ℕ) → AreLanes size lanes → 16 * i + 16 ≤ length row
    → xs ≡ bytes_of (bytes_in size) lanes → put_chunk (16 * i) row xs ≡ with_lanes size row i lanes
unfolding with_lanes
stored size row lanes xs i are room is =
    let long : length (bytes_of (bytes_in size) lanes) ≡ 16 =
    length-bytes (bytes_in size) lanes ∙ ap (λ n. bytes_in size * n) are.0 ∙ sixteen size in
    ap (put_chunk (16 * i) row) is ∙ put_chunk_is (16 * i) row (bytes_of (bytes_in size) lanes) (omega (arith, long, room))
    ∙ ap (λ t. take (16 * i) row ++ (bytes_of (bytes_in size) lanes ++ t))
    (ap (λ n. drop n (drop (16 * i) row)) long ∙ drop-drop 16 (16 * i) row)

-- the lanes that are written
pub lanes_written : (size : Size) (row lanes : List ℕ) (i : ℕ) → AreLanes size lanes → 16 * i + 16 ≤ length row
    → put_chunk (16 * i) row (digits_l 256 16 (number_l (range_of size) lanes)) ≡ with_lanes size row i lanes
lanes_written size row lanes i are room =
    let all : 16 ≡ bytes_in size * length lanes = sym (ap (λ n. bytes_in size * n) are.0 ∙ sixteen size) in
    stored size row lanes _ i are room (ap (λ n. digits_l 256 n (number_l (range_of size) lanes)) all
    ∙ ap (λ r. digits_l 256 (bytes_in size * length lanes) (number_l r lanes)) (sym (values_of size))
    ∙ lane_bytes (bytes_in size) lanes (subst (λ r. Each1 (λ x. x < r) lanes) (sym (values_of size)) are.1))

own_bytes : (xs : List ℕ) → Each1 (λ x. x < 256) xs → xs ≡ bytes_of 1 xs
unfolding bytes_of
own_bytes [] fits = refl
own_bytes (x ∷ xs) fits = let low : x ≡ x % 256 = omega (arith, fits.0) in ap₂ (λ y ys. y ∷ ys) low (own_bytes xs fits.1)

pub bytes_written : (row lanes : List ℕ) (i : ℕ) → AreLanes B lanes → 16 * i + 16 ≤ length row
    → put_chunk (16 * i) row lanes ≡ with_lanes B row i lanes
bytes_written row lanes i are room = stored B row lanes lanes i are room (own_bytes lanes are.1)

pub listed-more : {A : Type 0} → (f : ℕ → A) (i k : ℕ) → listed f (i + k) ≡ listed f i ++ listed (λ j. f (i + j)) k
unfolding listed
listed-more f i zero = let same : i + 0 ≡ i = omega arith in ap (listed f) same ∙ sym (append-nil (listed f i))
listed-more f i (suc k) =
    let next : i + suc k ≡ suc (i + k) = omega arith in
    ap (listed f) next ∙ ap (λ t. t ++ f (i + k) ∷ []) (listed-more f i k)
    ∙ append_assoc (listed f i) (listed (λ j. f (i + j)) k) (f (i + k) ∷ [])

-- the first c elements of a vector are changed
abbrev pub IsChangedTo : ℕ → (ℕ → ℕ → ℕ) → List ℕ → ℕ → List ℕ → Type 0
IsChangedTo e f old c row = row ≡ bytes_of e (listed (λ k. f k (element_of e old k)) c) ++ drop (e * c) old

-- elements from c on are as they were
kept : (e : ℕ) (f : ℕ → ℕ) (old : List ℕ) (c k : ℕ) (d : List ℕ)
    → d ≡ bytes_of e (listed f c) ++ drop (e * c) old → drop (e * (c + k)) d ≡ drop (e * (c + k)) old
kept e f old c k d is =
    let p = length-written e f c in
    let far : e * (c + k) ≡ e * c + e * k = omega arith in
    ap (drop (e * (c + k))) is ∙ drop_front _ (drop (e * c) old) (e * (c + k)) (e * k) (omega (arith, p, far))
    ∙ drop-drop (e * k) (e * c) old ∙ ap (λ n. drop n old) (sym far)

-- with some elements more
pub changed_more : (e : ℕ) (f : ℕ → ℕ → ℕ) (old row new : List ℕ) (c k : ℕ) → IsChangedTo e f old c row
    → new ≡ take (e * c) row ++ (bytes_of e (listed (λ j. f (c + j) (element_of e row (c + j))) k) ++ drop (e * (c + k)) row)
    → IsChangedTo e f old (c + k) new
unfolding element_of
changed_more e f old row new c k is next =
    let g : ℕ → ℕ = λ i. f i (element_of e old i) in
    let p = length-written e g c in
    let front : take (e * c) row ≡ bytes_of e (listed g c) = ap (take (e * c)) is ∙ take_front _ (drop (e * c) old) (e * c) (sym p) in
    let same : listed (λ j. f (c + j) (element_of e row (c + j))) k ≡ listed (λ j. g (c + j)) k =
    listed_same _ (λ j. g (c + j)) k (λ j below. ap (λ t. f (c + j) (number_l 256 (take e t))) (kept e g old c j row is)) in
    let all : bytes_of e (listed g (c + k)) ≡ bytes_of e (listed g c) ++ bytes_of e (listed (λ j. g (c + j)) k) =
    ap (bytes_of e) (listed-more g c k) ∙ bytes-append e (listed g c) (listed (λ j. g (c + j)) k) in
    let back = kept e g old c k row is in
    next ∙ rw (front, same, back, all) (sym (append_assoc (bytes_of e (listed g c)) (bytes_of e (listed (λ j. g (c + j)) k))
    (drop (e * (c + k)) old)))

length-of : (size : Size) (row : List ℕ) (i : ℕ) → length (lanes_of size row i) ≡ lanes_in size
unfolding lanes_of
length-of size row i = length-listed _ (lanes_in size)

lane-of : (size : Size) (row : List ℕ) (i j : ℕ) → j < lanes_in size
    → get_or (lanes_of size row i) j 0 ≡ element_of (bytes_in size) row (lanes_in size * i + j)
unfolding lanes_of
lane-of size row i j below = listed-at _ (lanes_in size) j 0 below

-- the lanes of two vectors, each two of which give one
pub joined : (size : Size) (g : ℕ → ℕ → ℕ) (row m : List ℕ) (i : ℕ)
    → zip2 g (lanes_of size row i) (lanes_of size m i)
    ≡ listed (λ j. g (element_of (bytes_in size) row (lanes_in size * i + j)) (element_of (bytes_in size) m (lanes_in size * i + j)))
    (lanes_in size)
joined size g row m i =
    let n = length-of size row i in
    let k = length-of size m i in
    as_listed _ _ (lanes_in size) (length-zip2 g (lanes_of size row i) (lanes_of size m i) (n ∙ sym k) ∙ n)
    (λ j below.
    get_or-zip2 g (lanes_of size row i) (lanes_of size m i) j 0 0 0 (subst (λ l. j < l) (sym n) below) (subst (λ l. j < l) (sym k) below)
    ∙ ap₂ g (lane-of size row i j below) (lane-of size m i j below))

-- 16 bytes more are changed
pub lanes_more : (size : Size) (g : ℕ → ℕ → ℕ) (m old row new : List ℕ) (i : ℕ)
    → IsChangedTo (bytes_in size) (λ k a. g a (element_of (bytes_in size) m k)) old (lanes_in size * i) row
    → new ≡ with_lanes size row i (zip2 g (lanes_of size row i) (lanes_of size m i))
    → IsChangedTo (bytes_in size) (λ k a. g a (element_of (bytes_in size) m k)) old (lanes_in size * (i + 1)) new
unfolding with_lanes
lanes_more size g m old row new i is next =
    let e = bytes_in size in
    let n = lanes_in size in
    let front : 16 * i ≡ e * (n * i) = omega (arith, lane_place size i 0) in
    let back : 16 * i + 16 ≡ e * (n * i + n) = omega (arith, lane_place size i 0, sixteen size) in
    let end : n * i + n ≡ n * (i + 1) = omega arith in
    subst (λ c. IsChangedTo e (λ k a. g a (element_of e m k)) old c new) end
    (changed_more e (λ k a. g a (element_of e m k)) old row new (n * i) n is
    (next ∙ ap (λ xs. take (16 * i) row ++ (bytes_of e xs ++ drop (16 * i + 16) row)) (joined size g row m i)
    ∙ ap₂ (λ a b. take a row ++ (bytes_of e (listed (λ j. g (element_of e row (n * i + j)) (element_of e m (n * i + j))) n) ++ drop b row))
    front back))
