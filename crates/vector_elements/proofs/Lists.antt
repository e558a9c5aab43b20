-- Vectors that are written element by element.
use Rattle.std.proofs.Common.{◌≡◌, ℕ, zero, suc, ◌+◌, ◌*◌, ◌/◌, ◌%◌, ◌<◌, List, [], ◌∷◌, ◌++◌, length, take, drop, refl, ap}
use Rattle.std.proofs.Common.{◌∙◌, sym, append_assoc, add-one, arith, length-append, ◌-◌, get_or, inl, inr}
use Rattle.std.proofs.lemmas.Bool.{cases_lt}
use Rattle.std.proofs.lemmas.List.{get_or_append_left, get_or-append_right, append-nil}
use Rattle.std.proofs.Math.Seq.{drop-length}
use Rattle.std.proofs.lemmas.Grind.{common_steps}
use Rattle.std.specs.Simd.Lanes.{number_l, digits_l}
use Rattle.plain_lemmas.proofs.Lists.{drop_twice, drop_past}
use Rattle.vector_elements.specs.declared.size.Size.{Size}
use Rattle.vector_elements.specs.declared.size.Size.TheVariants.{B, H, S, D}
use Rattle.vector_elements.specs.Elements.{listed, element_of, bytes_of, each_element}
use Rattle.vector_elements.specs.Numbers.{bytes_in}

pub length-listed : {A : Type 0} → (f : ℕ → A) (n : ℕ) → length (listed f n) ≡ n
unfolding listed
length-listed f zero = refl
length-listed f (suc n) = let h = length-listed f n in simp length-append (omega (arith, h))

pub listed-at : {A : Type 0} → (f : ℕ → A) (n i : ℕ) (d : A) → i < n → get_or (listed f n) i d ≡ f i
unfolding listed
listed-at f zero i d lt = absurd (omega (arith, lt))
listed-at f (suc n) i d lt =
    elim (cases_lt i n) [
      | inl l ↦ get_or_append_left (listed f n) (f n ∷ []) d i (omega (arith, l, length-listed f n)) ∙ listed-at f n i d l
      | inr g ↦ get_or-append_right (listed f n) (f n ∷ []) n i d (length-listed f n) g
          ∙ last f n i d (omega (arith, lt, g))
    ]
  where
    last : {A : Type 0} → (f : ℕ → A) (n i : ℕ) (d : A) → i ≡ n → get_or (f n ∷ []) (i - n) d ≡ f i
    last f n i d e =
        let none : i - n ≡ 0 = omega (arith, e) in
        ap (λ k. get_or (f n ∷ []) k d) none ∙ ap f (sym e)

pub listed-next : {A : Type 0} → (f : ℕ → A) (n : ℕ) → listed f (n + 1) ≡ listed f n ++ f n ∷ []
unfolding listed
listed-next f n = rw add-one refl

pub length-digits : (e x : ℕ) → length (digits_l 256 e x) ≡ e
length-digits zero x = refl
length-digits (suc e) x = ap suc (length-digits e (x / 256))

pub length-bytes : (e : ℕ) (xs : List ℕ) → length (bytes_of e xs) ≡ e * length xs
unfolding bytes_of
length-bytes e [] = omega arith
length-bytes e (x ∷ xs) = let h = length-bytes e xs in let d = length-digits e x in simp length-append (omega (arith, h, d))

pub bytes-append : (e : ℕ) (xs ys : List ℕ) → bytes_of e (xs ++ ys) ≡ bytes_of e xs ++ bytes_of e ys
unfolding bytes_of
bytes-append e [] ys = refl
bytes-append e (x ∷ xs) ys =
    ap (λ t. digits_l 256 e x ++ t) (bytes-append e xs ys)
    ∙ sym (append_assoc (digits_l 256 e x) (bytes_of e xs) (bytes_of e ys))

pub bytes-one : (e x : ℕ) → bytes_of e (x ∷ []) ≡ digits_l 256 e x
unfolding bytes_of
bytes-one e x = append-nil (digits_l 256 e x)

pub drop_front : {A : Type 0} → (xs ys : List A) (n m : ℕ) → n ≡ length xs + m → drop n (xs ++ ys) ≡ drop m ys
drop_front xs ys n m e = ap (λ k. drop k (xs ++ ys)) e ∙ drop_past xs ys m

pub take_front : {A : Type 0} → (xs ys : List A) (n : ℕ) → n ≡ length xs → take n (xs ++ ys) ≡ xs
take_front xs ys n e = grind (arith, common_steps)

-- the bytes of the first i values stand before those that are as they were
pub length-written : (e : ℕ) (f : ℕ → ℕ) (i : ℕ) → length (bytes_of e (listed f i)) ≡ e * i
length-written e f i = length-bytes e (listed f i) ∙ ap (λ k. e * k) (length-listed f i)

-- one value further
pub written : (e : ℕ) (f : ℕ → ℕ) (old : List ℕ) (i : ℕ) (d : List ℕ) (x : ℕ)
    → d ≡ bytes_of e (listed f i) ++ drop (e * i) old → x ≡ f i
    → take (e * i) d ++ (digits_l 256 e x ++ drop (e * i + e) d) ≡ bytes_of e (listed f (i + 1)) ++ drop (e * (i + 1)) old
written e f old i d x is same =
    let p = length-written e f i in
    let front : take (e * i) d ≡ bytes_of e (listed f i) = ap (λ t. take (e * i) t) is ∙ take_front _ (drop (e * i) old) (e * i) (sym p) in
    let back : drop (e * i + e) d ≡ drop (e * (i + 1)) old =
    ap (λ t. drop (e * i + e) t) is ∙ drop_front _ (drop (e * i) old) (e * i + e) e (omega (arith, p))
    ∙ drop_twice old (e * i) e (e * (i + 1)) (omega arith) in
    let next : bytes_of e (listed f (i + 1)) ≡ bytes_of e (listed f i) ++ bytes_of e (f i ∷ []) =
    ap (bytes_of e) (listed-next f i) ∙ bytes-append e (listed f i) (f i ∷ []) in
    let one : bytes_of e (f i ∷ []) ≡ digits_l 256 e x = bytes-one e (f i) ∙ ap (digits_l 256 e) (sym same) in
    rw (front, back, next, one) (sym (append_assoc (bytes_of e (listed f i)) (digits_l 256 e x) (drop (e * (i + 1)) old)))

-- the next element is as it was
pub unread : (e : ℕ) (f : ℕ → ℕ) (old : List ℕ) (i : ℕ) (d : List ℕ)
    → d ≡ bytes_of e (listed f i) ++ drop (e * i) old → element_of e d i ≡ element_of e old i
unfolding element_of
unread e f old i d is =
    let p = length-written e f i in
    let back : drop (e * i) d ≡ drop (e * i) old =
    ap (λ t. drop (e * i) t) is ∙ drop_front _ (drop (e * i) old) (e * i) 0 (omega (arith, p)) in
    ap (λ t. number_l 256 (take e t)) back

pub some_bytes : (size : Size) → 0 < bytes_in size
some_bytes B = omega arith
some_bytes H = omega arith
some_bytes S = omega arith
some_bytes D = omega arith

pub begun : (e : ℕ) (f : ℕ → ℕ) (old : List ℕ) → old ≡ bytes_of e (listed f 0) ++ drop (e * 0) old
unfolding listed bytes_of
begun e f old = let z : e * 0 ≡ 0 = omega arith in sym (ap (λ k. drop k old) z)

-- at the end all bytes are those of the values
pub finished : (e : ℕ) (f : ℕ → ℕ → ℕ) (old d : List ℕ) (n : ℕ)
    → 0 < e → length old % e ≡ 0 → n ≡ length old / e
    → d ≡ bytes_of e (listed (λ i. f i (element_of e old i)) n) ++ drop (e * n) old
    → d ≡ each_element e old f
unfolding each_element
finished e f old d n pos whole is so_far =
    let all : e * n ≡ length old = ap (λ k. e * k) is ∙ omega arith in
    let none : drop (e * n) old ≡ [] = ap (λ k. drop k old) all ∙ drop-length old in
    so_far ∙ ap (λ t. bytes_of e (listed (λ i. f i (element_of e old i)) n) ++ t) none
    ∙ append-nil (bytes_of e (listed (λ i. f i (element_of e old i)) n))
    ∙ ap (λ k. bytes_of e (listed (λ i. f i (element_of e old i)) k)) is
