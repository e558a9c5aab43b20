-- What words that were read one after another say.
use Rattle.std.proofs.Common.{◌≡◌, ℕ, ◌^◌, ◌<◌, ◌≤◌, true, false, cond, nat_lt, List, [], ◌∷◌, Option, Some, None, Result, Ok, Err}
use Rattle.std.proofs.Common.{refl, sym, ap, ◌∙◌, arith, lt-ltb}
use Rattle.std.specs.Prelude.{decimal, nat_le, option_and_then}
use Rattle.std.specs.Str.{bytes_eq}
use Rattle.std.proofs.lemmas.Bool.{le-leb}
use Rattle.std.proofs.lemmas.Bool.Decides.{nat_tests}
use Rattle.std.proofs.lemmas.Slice.Eq.{bytes_eq-Decides}
use Rattle.line_reader.specs.Numbers.{decimal_number, number_below, if_below}
use Rattle.line_reader.proofs.Digits.{decimal_read, decimal_printed}
use Rattle.line_reader.specs.Phrases.{Phrase, and_then, said_or, first_word, field, number_of, number, ended}
use Rattle.line_reader.specs.declared.text_fault.TextKind.{TextKind}
use Rattle.line_reader.specs.declared.text_fault.TextKind.TheVariants.{Unknown, BadNumber}

-- ---- two readings, one after the other

-- what the first one said, and the words that were left
pub record Between {A B : Type 0} (first : Result (A × List (List ℕ)) TextKind) (next : A → Phrase B) (b : B) : Type 0 where
  pub value : A
  pub words : List (List ℕ)
  pub before : first ≡ Ok (value, words)
  pub behind : next value words ≡ Ok b

pub between : {A B : Type 0} (first : Result (A × List (List ℕ)) TextKind) (next : A → Phrase B) (b : B) → and_then first next ≡ Ok b
    → Between first next b
between (Err kind) next b e = cc
between (Ok said) next b e = record { value = said.0; words = said.1; before = refl; behind = e }

-- ---- a word among some

-- the first of two choices, or the others
pub chosen : {V : Type 0} (word_for : V → List ℕ) (word name : List ℕ) (first v : V) (others : Option V) → word_for first ≡ name
    → (others ≡ Some v → word ≡ word_for v) → cond (bytes_eq word name) (Some first) others ≡ Some v → word ≡ word_for v
chosen {V} word_for word name first v others is more e =
    elim (bytes_eq word name) as (λ b. bytes_eq word name ≡ b → ◌≡◌ {A = Option V} (cond b (Some first) others) (Some v)
    → word ≡ word_for v) [
      | true ↦ λ same h. (let it : first ≡ v = cc in (bytes_eq-Decides word name).0 same ∙ sym is ∙ ap word_for it)
      | false ↦ λ other h. more h
    ] refl e

-- what two that were said are
pub pair_is : {A : Type 0} (a b : A) (xs ys : List (List ℕ))
    → ◌≡◌ {A = Result (A × List (List ℕ)) TextKind} (Ok (a, xs)) (Ok (b, ys)) → (a ≡ b) × (xs ≡ ys)
pair_is {A} a b xs ys e =
    let it : ◌≡◌ {A = A × List (List ℕ)} (a, xs) (b, ys) = cc in
    (ap (λ (p : A × List (List ℕ)). p.0) it, ap (λ (p : A × List (List ℕ)). p.1) it)

-- a word that was said, and the words behind it
pub said_is : {A : Type 0} (kind : TextKind) (said : Option A) (words : List (List ℕ)) (a : A) (left : List (List ℕ))
    → said_or kind said words ≡ Ok (a, left) → (said ≡ Some a) × (words ≡ left)
said_is kind None words a left e = cc
said_is {A} kind (Some b) words a left e =
    let it = pair_is b a words left e in (ap (λ (x : A). Some x) it.0, it.1)

-- the first word, and a further word, and the words behind it
pub record IsWord {A : Type 0} (says : List ℕ → Option A) (words : List (List ℕ)) (a : A) (left : List (List ℕ)) : Type 0 where
  pub word : List ℕ
  pub is : words ≡ word ∷ left
  pub said : says word ≡ Some a

pub first_is : {A : Type 0} (says : List ℕ → Option A) (words : List (List ℕ)) (a : A) (left : List (List ℕ))
    → first_word says words ≡ Ok (a, left) → IsWord says words a left
unfolding first_word
first_is says [] a left e = cc
first_is says (word ∷ words) a left e =
    let it = said_is _ (says word) words a left e in
    record { word = word; is = ap (λ (ws : List (List ℕ)). word ∷ ws) it.1; said = it.0 }

pub field_is : {A : Type 0} (kind : TextKind) (says : List ℕ → Option A) (words : List (List ℕ)) (a : A) (left : List (List ℕ))
    → field kind says words ≡ Ok (a, left) → IsWord says words a left
unfolding field
field_is kind says [] a left e = cc
field_is kind says (word ∷ words) a left e =
    let it = said_is kind (says word) words a left e in
    record { word = word; is = ap (λ (ws : List (List ℕ)). word ∷ ws) it.1; said = it.0 }

pub first_read : {A : Type 0} (says : List ℕ → Option A) (word : List ℕ) (words : List (List ℕ)) (a : A)
    → says word ≡ Some a → first_word says (word ∷ words) ≡ Ok (a, words)
unfolding first_word
first_read says word words a e = ap (λ o. said_or Unknown o words) e

pub field_read : {A : Type 0} (kind : TextKind) (says : List ℕ → Option A) (word : List ℕ) (words : List (List ℕ)) (a : A)
    → says word ≡ Some a → field kind says (word ∷ words) ≡ Ok (a, words)
unfolding field
field_read kind says word words a e = ap (λ o. said_or kind o words) e

-- ---- a number

below_is : (bound m n : ℕ) → if_below bound m ≡ Some n → (m ≡ n) × (m < bound)
below_is bound m n e =
    elim (nat_lt m bound) as (λ b. nat_lt m bound ≡ b → ◌≡◌ {A = Option ℕ} (cond b (Some m) None) (Some n) → (m ≡ n) × (m < bound)) [
      | true ↦ λ is h. (cc, grind (arith, nat_tests))
      | false ↦ λ is h. cc
    ] refl e

least_is : (least m n : ℕ) → cond (nat_le least m) (Some m) None ≡ Some n → (m ≡ n) × (least ≤ m)
least_is least m n e =
    elim (nat_le least m) as (λ b. nat_le least m ≡ b → ◌≡◌ {A = Option ℕ} (cond b (Some m) None) (Some n) → (m ≡ n) × (least ≤ m)) [
      | true ↦ λ is h. (cc, grind (arith, nat_tests))
      | false ↦ λ is h. cc
    ] refl e

-- what the first of two steps gave
pub record Middle (first : Option ℕ) (next : ℕ → Option ℕ) (n : ℕ) : Type 0 where
  pub value : ℕ
  pub before : first ≡ Some value
  pub behind : next value ≡ Some n

middle : (first : Option ℕ) (next : ℕ → Option ℕ) (n : ℕ) → option_and_then next first ≡ Some n → Middle first next n
middle None next n e = cc
middle (Some m) next n e = record { value = m; before = refl; behind = e }

pub record IsNumber (least bound : ℕ) (word : List ℕ) (n : ℕ) : Type 0 where
  pub is : word ≡ decimal n
  pub least_at : least ≤ n
  pub below : n < bound

module _ (bound : ℕ) (fits : bound ≤ 2 ^ 64) where
  below_printed : (word : List ℕ) (n : ℕ) → number_below bound word ≡ Some n → IsNumber 0 bound word n
  unfolding number_below
  below_printed word n e =
      let it = middle (decimal_number word) (if_below bound) n e in
      let low = below_is bound it.value n it.behind in
      record {
        is = (decimal_printed word it.value it.before).is ∙ ap decimal low.0;
        least_at = omega arith;
        below = omega (arith, low.0, low.1);
      }

  below_read : (n : ℕ) → n < bound → number_below bound (decimal n) ≡ Some n
  unfolding number_below
  below_read n l =
      ap (option_and_then (if_below bound)) (decimal_read n (omega arith))
      ∙ ap (λ b. cond b (Some n) None) (lt-ltb n bound l)

  of_printed : (least : ℕ) (word : List ℕ) (n : ℕ) → number_of least bound word ≡ Some n → IsNumber least bound word n
  unfolding number_of
  of_printed least word n e =
      let step = middle (number_below bound word) (λ m. cond (nat_le least m) (Some m) None) n e in
      let low = least_is least step.value n step.behind in
      let printed = below_printed word step.value step.before in
      record {
        is = printed.is ∙ ap decimal low.0;
        least_at = omega (arith, low.0, low.1);
        below = omega (arith, low.0, printed.below);
      }

  of_read : (least n : ℕ) → least ≤ n → n < bound → number_of least bound (decimal n) ≡ Some n
  unfolding number_of
  of_read least n low below =
      ap (option_and_then (λ m. cond (nat_le least m) (Some m) None)) (below_read n below)
      ∙ ap (λ b. cond b (Some n) None) (le-leb least n low)

  pub number_first : (least : ℕ) (words : List (List ℕ)) (n : ℕ) (left : List (List ℕ)) → number least bound words ≡ Ok (n, left)
      → (words ≡ decimal n ∷ left) × (least ≤ n) × (n < bound)
  number_first least words n left e =
      let it = field_is BadNumber (number_of least bound) words n left e in
      let of = of_printed least it.word n it.said in
      (it.is ∙ ap (λ (w : List ℕ). w ∷ left) of.is, of.least_at, of.below)

  pub number_read : (least n : ℕ) (words : List (List ℕ)) → least ≤ n → n < bound
      → number least bound (decimal n ∷ words) ≡ Ok (n, words)
  number_read least n words low below =
      field_read BadNumber (number_of least bound) (decimal n) words n (of_read least n low below)

pub fitting : 2 ^ 32 ≤ 2 ^ 64
fitting = omega arith

-- ---- the end

pub ended_is : {A : Type 0} (a it : A) (words : List (List ℕ)) → ended a words ≡ Ok it → (a ≡ it) × (words ≡ [])
unfolding ended
ended_is a it [] h = (cc, refl)
ended_is a it (word ∷ words) h = cc
