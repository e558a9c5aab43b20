-- No shape has more than 23 operands, so 24 tokens say all that there is to say.
use Rattle.std.proofs.Common.{◌≡◌, ℕ, zero, suc, ◌+◌, ◌-◌, ◌<◌, ◌≤◌, ◌==◌, ◌&&◌, ◌||◌, Bool, true, nat_lt, List, [], ◌∷◌, Option, Some}
use Rattle.std.proofs.Common.{None, length, take, drop, slice_get, max, refl, ap, ap₂, ◌∙◌, arith, ltb-true, lit<}
use Rattle.std.specs.List.{list_all, list_any}
use Rattle.std.specs.Prelude.{is_some, slice_index, if◌then◌else◌, option_and_then, option_map}
use Rattle.std.proofs.lemmas.Bool.{and_parts}
use Rattle.plain_lemmas.proofs.Lists.{slice_get-take, list_all-drop, list_all-take}
use Rattle.insn_text.specs.declared.shapes.TheConstants.{SHAPES, STARTS}
use Rattle.insn_text.specs.declared.item.Item.{Item}
use Rattle.insn_text.specs.declared.item.Shape.{Shape}
use Rattle.insn_text.specs.Texts.{items_in, items_of}
use Rattle.asm_tokens.specs.declared.token.Token.{Token}
use Rattle.asm_operands.specs.Operands.{PartialWord, partial_after, taken_on, taken, count_on, taken_count, fixed, word_in, taken_count_in}
use Rattle.asm_operands.specs.Operands.{shapes_of}
use Rattle.asm_operands.specs.Operands.{first_of_words, first_word, furthest, is_number_item, wants_number, is_whole, kind_at, Fault}
use Rattle.asm_operands.specs.Operands.{operand_fault, names, target_in, target_of, if_meant, word_said, said_or, Fails, operands_said}
use Rattle.asm_operands.proofs.Failing.{failing, none-failing}

-- ---- one shape
same_on : (f g : PartialWord → Option ℕ) → ((k : PartialWord) → f k ≡ g k) → (o : Option PartialWord) → taken_on f o ≡ taken_on g o
same_on f g e None = refl
same_on f g e (Some k) = e k

same_count_on : (f g : PartialWord → ℕ) → ((k : PartialWord) → f k ≡ g k) → (o : Option PartialWord) → count_on f o ≡ count_on g o
same_count_on f g e None = refl
same_count_on f g e (Some k) = ap suc (e k)

taken-few : (is : List Item) (n : ℕ) (ts : List Token) (partial : PartialWord) → length is < n
    → taken is partial (take n ts) ≡ taken is partial ts
unfolding taken
taken-few is zero ts partial lt = absurd (omega arith)
taken-few [] (suc n) [] partial lt = refl
taken-few [] (suc n) (t ∷ ts) partial lt = refl
taken-few (i ∷ is) (suc n) [] partial lt = refl
taken-few (i ∷ is) (suc n) (t ∷ ts) partial lt =
    same_on (λ next. taken is next (take n ts)) (λ next. taken is next ts) (λ k. taken-few is n ts k (omega arith))
    (partial_after i partial t)

taken_count-few : (is : List Item) (n : ℕ) (ts : List Token) (partial : PartialWord) → length is < n
    → taken_count is partial (take n ts) ≡ taken_count is partial ts
unfolding taken_count
taken_count-few is zero ts partial lt = absurd (omega arith)
taken_count-few [] (suc n) [] partial lt = refl
taken_count-few [] (suc n) (t ∷ ts) partial lt = refl
taken_count-few (i ∷ is) (suc n) [] partial lt = refl
taken_count-few (i ∷ is) (suc n) (t ∷ ts) partial lt =
    same_count_on (λ next. taken_count is next (take n ts)) (λ next. taken_count is next ts) (λ k. taken_count-few is n ts k (omega arith))
    (partial_after i partial t)

count_on-le : (on : PartialWord → ℕ) (n : ℕ) → ((k : PartialWord) → on k ≤ n) → (o : Option PartialWord) → count_on on o ≤ suc n
count_on-le on n le None = omega arith
count_on-le on n le (Some k) = let h = le k in omega arith

pub taken_count-le : (is : List Item) (ts : List Token) (partial : PartialWord) → taken_count is partial ts ≤ length is
unfolding taken_count
taken_count-le [] ts partial = omega arith
taken_count-le (i ∷ is) [] partial = omega arith
taken_count-le (i ∷ is) (t ∷ ts) partial =
    count_on-le (λ next. taken_count is next ts) (length is) (λ k. taken_count-le is ts k) (partial_after i partial t)

-- ---- shapes with few operands
unfoldable pub has_few : Shape → Bool
has_few s = nat_lt (length (items_of s)) 24

few_failing : failing has_few 0 SHAPES ≡ []
unfolding failing items_in items_of has_few
few_failing = refl

all_few : list_all has_few SHAPES ≡ true
all_few = none-failing has_few 0 SHAPES few_failing

few_of_name : (mnemonic : ℕ) → list_all has_few (shapes_of mnemonic) ≡ true
unfolding shapes_of
few_of_name mnemonic =
    let first = slice_index STARTS mnemonic in
    list_all-take has_few (slice_index STARTS (mnemonic + 1) - first) (drop first SHAPES) (list_all-drop has_few first SHAPES all_few)

few-lt : (s : Shape) → has_few s ≡ true → length (items_of s) < 24
unfolding has_few
few-lt s e = ltb-true _ _ e

word-few : (s : Shape) (ts : List Token) → has_few s ≡ true → word_in s (take 24 ts) ≡ word_in s ts
unfolding word_in
word-few s ts e = taken-few (items_of s) 24 ts (fixed s) (few-lt s e)

shape-few : (s : Shape) (ts : List Token) → has_few s ≡ true → taken_count_in s (take 24 ts) ≡ taken_count_in s ts
unfolding taken_count_in
shape-few s ts e = taken_count-few (items_of s) 24 ts (fixed s) (few-lt s e)

shape-le : (s : Shape) (ts : List Token) → has_few s ≡ true → taken_count_in s ts < 24
unfolding taken_count_in
shape-le s ts e = let lt = few-lt s e in let le = taken_count-le (items_of s) ts (fixed s) in omega arith

-- ---- the shapes of a mnemonic
first-few : (ss : List Shape) (ts : List Token) → list_all has_few ss ≡ true → first_word ss (take 24 ts) ≡ first_word ss ts
unfolding first_word
first-few [] ts e = refl
first-few (s ∷ ss) ts e =
    let p = and_parts (has_few s) (list_all has_few ss) e in ap₂ first_of_words (word-few s ts p.0) (first-few ss ts p.1)

furthest-few : (ss : List Shape) (ts : List Token) → list_all has_few ss ≡ true → furthest ss (take 24 ts) ≡ furthest ss ts
unfolding furthest
furthest-few [] ts e = refl
furthest-few (s ∷ ss) ts e = let p = and_parts (has_few s) (list_all has_few ss) e in ap₂ max (shape-few s ts p.0) (furthest-few ss ts p.1)

furthest-lt : (ss : List Shape) (ts : List Token) → list_all has_few ss ≡ true → furthest ss ts < 24
unfolding furthest
furthest-lt [] ts e = lit< tt
furthest-lt (s ∷ ss) ts e =
    let p = and_parts (has_few s) (list_all has_few ss) e in
    let a = shape-le s ts p.0 in
    let b = furthest-lt ss ts p.1 in
    omega arith

wants-few : (ss : List Shape) (count : ℕ) (ts : List Token) → list_all has_few ss ≡ true
    → list_any (wants_number count (take 24 ts)) ss ≡ list_any (wants_number count ts) ss
unfolding wants_number
wants-few [] count ts e = refl
wants-few (s ∷ ss) count ts e =
    let p = and_parts (has_few s) (list_all has_few ss) e in
    ap₂ (λ n b. ((n == count) && is_number_item (slice_get (items_of s) count)) || b) (shape-few s ts p.0) (wants-few ss count ts p.1)

whole-few : (ss : List Shape) (count : ℕ) (ts : List Token) → list_all has_few ss ≡ true
    → list_any (is_whole count (take 24 ts)) ss ≡ list_any (is_whole count ts) ss
unfolding is_whole
whole-few [] count ts e = refl
whole-few (s ∷ ss) count ts e =
    let p = and_parts (has_few s) (list_all has_few ss) e in
    ap₂ (λ n b. ((n == count) && (length (items_of s) == count)) || b) (shape-few s ts p.0) (whole-few ss count ts p.1)

kind-few : (ss : List Shape) (count : ℕ) (ts : List Token) (o : Option Token) → list_all has_few ss ≡ true
    → kind_at ss count (take 24 ts) o ≡ kind_at ss count ts o
unfolding kind_at
kind-few ss count ts None e = refl
kind-few ss count ts (Some t) e = rw (wants-few ss count ts e, whole-few ss count ts e) refl

fault-few : (ss : List Shape) (ts : List Token) → list_all has_few ss ≡ true → operand_fault ss (take 24 ts) ≡ operand_fault ss ts
unfolding operand_fault
fault-few ss ts e =
    let same = furthest-few ss ts e in
    let lt = furthest-lt ss ts e in
    let make : ℕ → Option Token → Fault = λ n o. record { index = n; kind = kind_at ss n (take 24 ts) o } in
    ap (λ n. make n (slice_get (take 24 ts) n)) same
    ∙ ap (make (furthest ss ts)) (slice_get-take 24 (furthest ss ts) ts lt)
    ∙ ap (λ k. record { index = furthest ss ts; kind = k }) (kind-few ss (furthest ss ts) ts (slice_get ts (furthest ss ts)) e)

target_in-few : (is : List Item) (ts : List Token) → length is < 24 → target_in is (take 24 ts) ≡ target_in is ts
unfolding target_in
target_in-few is ts lt =
    let less : length is - 1 < 24 = omega arith in
    ap (λ o. option_map (λ (i : Item). record { index = length is - 1; operand = i })
    (option_and_then (names o) (slice_get is (length is - 1)))) (slice_get-take 24 (length is - 1) ts less)

target-few : (ss : List Shape) (ts : List Token) → list_all has_few ss ≡ true → target_of ss (take 24 ts) ≡ target_of ss ts
unfolding target_of
target-few [] ts e = refl
target-few (s ∷ ss) ts e =
    let p = and_parts (has_few s) (list_all has_few ss) e in
    ap (λ o. if is_some o then target_in (items_of s) (take 24 ts) else target_of ss (take 24 ts)) (word-few s ts p.0)
    ∙ ap₂ (λ a b. if is_some (word_in s ts) then a else b) (target_in-few (items_of s) ts (few-lt s p.0)) (target-few ss ts p.1)

-- what the first 24 tokens say is what all of them say
pub few_operands : (mnemonic : ℕ) (ts : List Token) → operands_said mnemonic (take 24 ts) ≡ operands_said mnemonic ts
unfolding operands_said word_said
few_operands mnemonic ts =
    let e = few_of_name mnemonic in
    let ss = shapes_of mnemonic in
    ap₂ (λ f t. said_or (Fails f) t (option_and_then if_meant (first_word ss (take 24 ts)))) (fault-few ss ts e) (target-few ss ts e)
    ∙ ap (λ w. said_or (Fails (operand_fault ss ts)) (target_of ss ts) (option_and_then if_meant w)) (first-few ss ts e)
