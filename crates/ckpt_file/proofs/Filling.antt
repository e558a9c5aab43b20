-- Which values fill the kinds of fields, and what is so of values that do.
use Rattle.std.proofs.Common.{◌≡◌, ℕ, zero, suc, ◌<◌, ◌^◌, ◌++◌, List, [], ◌∷◌, length, get_or, All, refl, ap, sym, ◌∙◌, subst, arith}
use Rattle.std.proofs.Common.{append_assoc}
use Rattle.std.specs.List.{flat_map}
use Rattle.std.proofs.lemmas.List.{append-nil}
use Rattle.byteorder.specs.Endian.{little_number, little_bytes}
use Rattle.byteorder.specs.Numbers.{little_number-reads_back}
use Rattle.field_table.specs.Table.{Table, IsFilled}
use Rattle.field_table.specs.Rows.{fields, repeated}

-- the number of the bytes of a number
pub back : (n x : ℕ) → x < 256 ^ n → little_number n (little_bytes n x) ≡ x
back n x l = ap (little_number n) (sym (append-nil (little_bytes n x))) ∙ little_number-reads_back n x [] l

pub word_back : (x : ℕ) → x < 2 ^ 32 → little_number 4 (little_bytes 4 x) ≡ x
word_back x l = back 4 x l

pub doubleword_back : (x : ℕ) → x < 2 ^ 64 → little_number 8 (little_bytes 8 x) ≡ x
doubleword_back x l = back 8 x l

-- ---- fields of one size

-- this is so of each of them
abbrev pub Each : {X : Type 0} → (X → Type 0) → List X → Type 0
Each P [] = Unit {0}
Each P (x ∷ xs) = P x × Each P xs

pub each_of_all : {X : Type 0} (P : X → Type 0) (xs : List X) → All P xs → Each P xs
each_of_all P [] h = tt
each_of_all P (x ∷ xs) h = (h 0 x (omega arith), each_of_all P xs (λ k d l. h (suc k) d (omega arith)))

pub all_of_each : {X : Type 0} (P : X → Type 0) (xs : List X) → Each P xs → All P xs
all_of_each P [] h = λ k d l. absurd (omega arith)
all_of_each P (x ∷ xs) h = λ k d l. elim k as (λ (i : ℕ). i < suc (length xs) → P (get_or (x ∷ xs) i d)) [
  | zero ↦ λ m. h.0
  | suc i ↦ λ m. all_of_each P xs h.1 i d (omega arith)
] l

-- they have so many bytes
abbrev pub AreOfSize : ℕ → List (List ℕ) → Type 0
AreOfSize n values = Each (λ v. length v ≡ n) values

pub fields_good : (count n : ℕ) (next : Table) (values rest : List (List ℕ)) → length values ≡ count
    → IsFilled (fields count n next) (values ++ rest) → IsFilled next rest
unfolding fields
fields_good zero n next [] rest e h = h
fields_good zero n next (v ∷ vs) rest e h = absurd (omega (arith, e))
fields_good (suc count) n next [] rest e h = absurd (omega (arith, e))
fields_good (suc count) n next (v ∷ vs) rest e h =
    let less : length vs ≡ count = omega (arith, e) in fields_good count n next vs rest less h.2

pub fields_fill : (count n : ℕ) (next : Table) (values rest : List (List ℕ)) → length values ≡ count → AreOfSize n values
    → IsFilled next rest → IsFilled (fields count n next) (values ++ rest)
unfolding fields
fields_fill zero n next [] rest e sizes h = h
fields_fill zero n next (v ∷ vs) rest e sizes h = absurd (omega (arith, e))
fields_fill (suc count) n next [] rest e sizes h = absurd (omega (arith, e))
fields_fill (suc count) n next (v ∷ vs) rest e sizes h =
    let less : length vs ≡ count = omega (arith, e) in (sizes.0, refl, fields_fill count n next vs rest less sizes.1 h)

-- ---- items, one after the other

-- the first is good with a number, and each other one with that which the one before it gives
abbrev pub AreGood : {X : Type 0} → (X → ℕ) → (ℕ → X → Type 0) → ℕ → List X → Type 0
AreGood after IsGood key [] = Unit {0}
AreGood after IsGood key (x ∷ xs) = IsGood key x × AreGood after IsGood (after x) xs

module _ {X : Type 0} (item : ℕ → (ℕ → Table) → Table) (value : X → List (List ℕ)) (after : X → ℕ) (IsGood : ℕ → X → Type 0)
    (IsNarrow : X → Type 0) where
  pub items_good : ((key : ℕ) (x : X) (follows : ℕ → Table) (rest : List (List ℕ)) → IsNarrow x
      → IsFilled (item key follows) (value x ++ rest) → IsGood key x × IsFilled (follows (after x)) rest)
      → (xs : List X) (key : ℕ) (next : Table) (rest : List (List ℕ)) → Each IsNarrow xs
      → IsFilled (repeated item (length xs) key next) (flat_map value xs ++ rest) → AreGood after IsGood key xs × IsFilled next rest
  unfolding repeated
  items_good step [] key next rest narrow h = (tt, h)
  items_good step (x ∷ xs) key next rest narrow h =
      let split : IsFilled (item key (λ k. repeated item (length xs) k next)) (value x ++ (flat_map value xs ++ rest)) =
      subst (IsFilled (item key (λ k. repeated item (length xs) k next))) (append_assoc (value x) (flat_map value xs) rest) h in
      let here = step key x (λ k. repeated item (length xs) k next) (flat_map value xs ++ rest) narrow.0 split in
      let others = items_good step xs (after x) next rest narrow.1 here.1 in
      ((here.0, others.0), others.1)

  pub items_fill : ((key : ℕ) (x : X) (follows : ℕ → Table) (rest : List (List ℕ)) → IsNarrow x → IsGood key x
      → IsFilled (follows (after x)) rest → IsFilled (item key follows) (value x ++ rest))
      → (xs : List X) (key : ℕ) (next : Table) (rest : List (List ℕ)) → Each IsNarrow xs → AreGood after IsGood key xs
      → IsFilled next rest → IsFilled (repeated item (length xs) key next) (flat_map value xs ++ rest)
  unfolding repeated
  items_fill step [] key next rest narrow good h = h
  items_fill step (x ∷ xs) key next rest narrow good h =
      let others = items_fill step xs (after x) next rest narrow.1 good.1 h in
      subst (IsFilled (item key (λ k. repeated item (length xs) k next))) (sym (append_assoc (value x) (flat_map value xs) rest))
      (step key x (λ k. repeated item (length xs) k next) (flat_map value xs ++ rest) narrow.0 good.0 others)
