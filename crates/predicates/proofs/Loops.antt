-- Predicates of loops, and counts.
use Rattle.std.proofs.Common.{◌≡◌, ℕ, zero, suc, ◌+◌, ◌*◌, ◌/◌, ◌%◌, ◌^◌, ◌<◌, ◌≤◌, ◌==◌, Bool, true, false, ◌&&◌, if◌then◌else◌, List, []}
use Rattle.std.proofs.Common.{◌∷◌, ◌++◌, length, map, take, replicate, get_or, refl, ap, ap₂, ◌∙◌, sym, arith}
use Rattle.std.specs.List.{range_with_len}
use Rattle.std.proofs.lemmas.List.{length-take-le, get_or-take, get_or-replicate}
use Rattle.sve_vectors.specs.Predicates.{predicate_bytes}
use Rattle.vector_elements.specs.declared.size.Size.{Size}
use Rattle.vector_elements.specs.declared.size.Size.TheVariants.{B, H, S, D}
use Rattle.vector_elements.specs.Elements.{listed, bit_of, is_active, active_of}
use Rattle.vector_elements.specs.Numbers.{bytes_in}
use Rattle.predicates.specs.Flags.{governed}
use Rattle.predicates.specs.Loops.{true_count}
use Rattle.predicates.specs.Predicates.{bit_for, predicate_of}
use Rattle.predicates.proofs.Governed.{one_of, governed_to, governed_to-next}

map_same : {X Y : Type 0} (f g : X → Y) (xs : List X) → ((x : X) → f x ≡ g x) → map f xs ≡ map g xs
map_same f g [] same = refl
map_same f g (x ∷ xs) same = ap₂ (λ y ys. y ∷ ys) (same x) (map_same f g xs same)

-- the same elements make the same predicate
pub same_predicate : (e bytes : ℕ) (f g : ℕ → Bool) → ((i : ℕ) → f i ≡ g i) → predicate_of e bytes f ≡ predicate_of e bytes g
unfolding predicate_of
same_predicate e bytes f g same =
    ap predicate_bytes
    (map_same (bit_for e f) (bit_for e g) (range_with_len 0 (8 * bytes)) (λ j. ap (λ b. (j % e == 0) && b) (same (j / e))))

replicate-last : {X : Type 0} (n : ℕ) (x : X) → replicate n x ++ x ∷ [] ≡ replicate (suc n) x
replicate-last zero x = refl
replicate-last (suc n) x = ap (λ t. x ∷ t) (replicate-last n x)

pub listed_all : (f : ℕ → Bool) (n : ℕ) → ((i : ℕ) → i < n → f i ≡ true) → listed f n ≡ replicate n true
unfolding listed
listed_all f zero all = refl
listed_all f (suc n) all =
    ap₂ (λ t x. t ++ x ∷ []) (listed_all f n (λ i below. all i (omega (arith, below)))) (all n (omega arith)) ∙ replicate-last n true

set_bits : (j : ℕ) → j < 8 → 255 / 2 ^ j % 2 ≡ 1
set_bits zero lt = refl
set_bits (suc zero) lt = refl
set_bits (suc (suc zero)) lt = refl
set_bits (suc (suc (suc zero))) lt = refl
set_bits (suc (suc (suc (suc zero)))) lt = refl
set_bits (suc (suc (suc (suc (suc zero))))) lt = refl
set_bits (suc (suc (suc (suc (suc (suc zero)))))) lt = refl
set_bits (suc (suc (suc (suc (suc (suc (suc zero))))))) lt = refl
set_bits (suc (suc (suc (suc (suc (suc (suc (suc j)))))))) lt = absurd (omega (arith, lt))

all_bits : (mask : List ℕ) → ((k : ℕ) → k < length mask → get_or mask k 0 ≡ 255) → (j : ℕ) → j < 8 * length mask → bit_of mask j ≡ true
unfolding bit_of
all_bits mask ones j lt =
    ap (λ n. n / 2 ^ (j % 8) % 2 == 1) (ones (j / 8) (omega (arith, lt))) ∙ ap (λ n. n == 1) (set_bits (j % 8) (omega arith))

place_of : (size : Size) (n i : ℕ) → i < 8 * n / bytes_in size → bytes_in size * i < 8 * n
place_of B n i lt = omega (arith, lt)
place_of H n i lt = omega (arith, lt)
place_of S n i lt = omega (arith, lt)
place_of D n i lt = omega (arith, lt)

-- where all bits are set, all elements are active
pub all_active : (size : Size) (mask : List ℕ) (n : ℕ) → length mask ≡ n → ((k : ℕ) → k < length mask → get_or mask k 0 ≡ 255)
    → active_of (bytes_in size) mask ≡ replicate (8 * n / bytes_in size) true
unfolding active_of
all_active size mask n long ones =
    listed_all (is_active (bytes_in size) mask) (8 * length mask / bytes_in size)
    (λ i below. all_bits mask ones (bytes_in size * i) (place_of size (length mask) i below))
    ∙ ap (λ k. replicate (8 * k / bytes_in size) true) long

-- the first bytes of 32 that have all bits
pub all_first : (size : Size) (n : ℕ) → n ≤ 32
    → active_of (bytes_in size) (take n (replicate 32 255)) ≡ replicate (8 * n / bytes_in size) true
all_first size n within = all_active size (take n (replicate 32 255)) n long (λ k lt. ones k (omega (arith, lt, long)))
  where
    long : length {A = ℕ} (take n (replicate 32 255)) ≡ n
    long = length-take-le n (replicate 32 255) within

    ones : (k : ℕ) → k < n → get_or {A = ℕ} (take n (replicate 32 255)) k 0 ≡ 255
    ones k lt = get_or-take n (replicate 32 255) k 0 lt ∙ get_or-replicate 32 k 255 0 (omega (arith, lt, within))

count-one : (g : List Bool) (on x : Bool) → true_count (g ++ one_of on x) ≡ true_count g + (if on && x then 1 else 0)
count-one [] true true = refl
count-one [] true false = refl
count-one [] false x = refl
count-one (y ∷ g) on x = let h = count-one g on x in omega (arith, h)

-- one element further
pub count_further : (e : ℕ) (mask results : List ℕ) (n count : ℕ) (on x : Bool)
    → count ≡ true_count (governed_to e mask results n) → on ≡ is_active e mask n → x ≡ is_active e results n
    → count + (if on && x then 1 else 0) ≡ true_count (governed_to e mask results (n + 1))
count_further e mask results n count on x is is_on is_x =
    ap (λ k. k + (if on && x then 1 else 0)) is
    ∙ ap₂ (λ a b. true_count (governed_to e mask results n) + (if a && b then 1 else 0)) is_on is_x
    ∙ sym (count-one (governed_to e mask results n) (is_active e mask n) (is_active e results n))
    ∙ ap true_count (sym (governed_to-next e mask results n))

pub at_most_one : (b : Bool) → (if b then 1 else 0) ≤ 1
at_most_one true = omega arith
at_most_one false = omega arith

pub count_none : (e : ℕ) (mask results : List ℕ) → 0 ≡ true_count (governed_to e mask results 0)
unfolding listed governed
count_none e mask results = refl

pub count_is : (e : ℕ) (mask results : List ℕ) (n count : ℕ) → length results ≡ length mask → n ≡ 8 * length mask / e
    → count ≡ true_count (governed_to e mask results n) → count ≡ true_count (governed (active_of e mask) (active_of e results))
unfolding active_of
count_is e mask results n count same is counted =
    let m : n ≡ 8 * length results / e = is ∙ ap (λ k. 8 * k / e) (sym same) in
    counted ∙ ap₂ (λ a b. true_count (governed (listed (is_active e mask) a) (listed (is_active e results) b))) is m
