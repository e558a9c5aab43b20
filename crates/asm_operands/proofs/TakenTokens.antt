-- The steps of a shape's way along the tokens.
use Rattle.std.proofs.Common.{◌≡◌, ◌≢◌, ℕ, suc, ◌+◌, ◌<◌, ◌≤◌, List, [], ◌∷◌, Option, Some, None, length, drop, get_or}
use Rattle.std.proofs.Common.{refl, sym, ap, ap₂, ◌∙◌, arith}
use Rattle.std.proofs.Math.ListN.{drop_of_length-le}
use Rattle.std.proofs.lemmas.List.{drop_more}
use Rattle.asm_tokens.specs.declared.token.Token.{Token}
use Rattle.insn_text.specs.declared.item.Item.{Item}
use Rattle.asm_operands.specs.Operands.{PartialWord, partial_after, taken_on, taken, count_on, taken_count}

-- ---- taken
taken-cons : (i : Item) (is : List Item) (partial : PartialWord) (t : Token) (ts : List Token)
    → taken (i ∷ is) partial (t ∷ ts) ≡ taken_on (λ next. taken is next ts) (partial_after i partial t)
unfolding taken
taken-cons i is partial t ts = refl

taken-at : (is : List Item) (ts : List Token) (at : ℕ) (partial : PartialWord) (d : Item) (e : Token) → at < length is
    → length ts ≡ length is
    → taken (drop at is) partial (drop at ts) ≡ taken_on (λ next. taken (drop (at + 1) is) next (drop (at + 1) ts))
    (partial_after (get_or is at d) partial (get_or ts at e))
taken-at is ts at partial d e lt same =
    let less : at < length ts = omega arith in
    ap₂ (λ (x : List Item) (y : List Token). taken x partial y) (drop_more is at d lt) (drop_more ts at e less)
    ∙ taken-cons (get_or is at d) (drop (at + 1) is) partial (get_or ts at e) (drop (at + 1) ts)

pub taken-stops : (is : List Item) (ts : List Token) (at : ℕ) (partial : PartialWord) (d : Item) (e : Token) → at < length is
    → length ts ≡ length is → None ≡ partial_after (get_or is at d) partial (get_or ts at e)
    → taken (drop at is) partial (drop at ts) ≡ None
taken-stops is ts at partial d e lt same h =
    taken-at is ts at partial d e lt same ∙ ap (taken_on (λ next. taken (drop (at + 1) is) next (drop (at + 1) ts))) (sym h)

pub taken-goes : (is : List Item) (ts : List Token) (at : ℕ) (partial next : PartialWord) (d : Item) (e : Token) → at < length is
    → length ts ≡ length is → Some next ≡ partial_after (get_or is at d) partial (get_or ts at e)
    → taken (drop (at + 1) is) next (drop (at + 1) ts) ≡ taken (drop at is) partial (drop at ts)
taken-goes is ts at partial next d e lt same h =
    sym (taken-at is ts at partial d e lt same ∙ ap (taken_on (λ n. taken (drop (at + 1) is) n (drop (at + 1) ts))) (sym h))

nothing_after : (on : PartialWord → Option ℕ) (o : Option PartialWord) → ((k : PartialWord) → on k ≡ None) → taken_on on o ≡ None
nothing_after on None f = refl
nothing_after on (Some k) f = f k

pub taken-lengths : (is : List Item) (ts : List Token) (partial : PartialWord) → length ts ≢ length is → taken is partial ts ≡ None
unfolding taken
taken-lengths [] [] partial ne = absurd (ne refl)
taken-lengths [] (t ∷ ts) partial ne = refl
taken-lengths (i ∷ is) [] partial ne = refl
taken-lengths (i ∷ is) (t ∷ ts) partial ne =
    nothing_after (λ next. taken is next ts) (partial_after i partial t) (λ k. taken-lengths is ts k (λ e. ne (ap suc e)))

pub taken-end : (is : List Item) (ts : List Token) (at : ℕ) (partial : PartialWord) → length is ≤ at → length ts ≡ length is
    → taken (drop at is) partial (drop at ts) ≡ Some partial.value
unfolding taken
taken-end is ts at partial le same =
    let le2 : length ts ≤ at = omega arith in
    ap₂ (λ (x : List Item) (y : List Token). taken x partial y) (drop_of_length-le is le) (drop_of_length-le ts le2)

-- ---- reach
taken_count-cons : (i : Item) (is : List Item) (partial : PartialWord) (t : Token) (ts : List Token)
    → taken_count (i ∷ is) partial (t ∷ ts) ≡ count_on (λ next. taken_count is next ts) (partial_after i partial t)
unfolding taken_count
taken_count-cons i is partial t ts = refl

taken_count-at : (is : List Item) (ts : List Token) (at : ℕ) (partial : PartialWord) (d : Item) (e : Token) → at < length is
    → at < length ts
    → taken_count (drop at is) partial (drop at ts) ≡ count_on (λ next. taken_count (drop (at + 1) is) next (drop (at + 1) ts))
    (partial_after (get_or is at d) partial (get_or ts at e))
taken_count-at is ts at partial d e lt less =
    ap₂ (λ (x : List Item) (y : List Token). taken_count x partial y) (drop_more is at d lt) (drop_more ts at e less)
    ∙ taken_count-cons (get_or is at d) (drop (at + 1) is) partial (get_or ts at e) (drop (at + 1) ts)

pub taken_count-stops : (is : List Item) (ts : List Token) (at all : ℕ) (partial : PartialWord) (d : Item) (e : Token) → at < length is
    → at < length ts
    → None ≡ partial_after (get_or is at d) partial (get_or ts at e)
    → at + taken_count (drop at is) partial (drop at ts) ≡ all → at ≡ all
taken_count-stops is ts at all partial d e lt less h inv =
    let z : taken_count (drop at is) partial (drop at ts) ≡ 0 =
    taken_count-at is ts at partial d e lt less ∙ ap (count_on (λ next. taken_count (drop (at + 1) is) next (drop (at + 1) ts))) (sym h) in
    omega (arith, z, inv)

pub taken_count-goes : (is : List Item) (ts : List Token) (at all : ℕ) (partial next : PartialWord) (d : Item) (e : Token) → at < length is
    → at < length ts → Some next ≡ partial_after (get_or is at d) partial (get_or ts at e)
    → at + taken_count (drop at is) partial (drop at ts) ≡ all → at + 1 + taken_count (drop (at + 1) is) next (drop (at + 1) ts) ≡ all
taken_count-goes is ts at all partial next d e lt less h inv =
    let z : taken_count (drop at is) partial (drop at ts) ≡ suc (taken_count (drop (at + 1) is) next (drop (at + 1) ts)) =
    taken_count-at is ts at partial d e lt less ∙ ap (count_on (λ n. taken_count (drop (at + 1) is) n (drop (at + 1) ts))) (sym h) in
    omega (arith, z, inv)

count_nothing : (is : List Item) (partial : PartialWord) → taken_count is partial [] ≡ 0
unfolding taken_count
count_nothing [] partial = refl
count_nothing (i ∷ is) partial = refl

count_empty : (partial : PartialWord) (ts : List Token) → taken_count [] partial ts ≡ 0
unfolding taken_count
count_empty partial ts = refl

pub taken_count-short : (is : List Item) (ts : List Token) (at all : ℕ) (partial : PartialWord) → length ts ≤ at
    → at + taken_count (drop at is) partial (drop at ts) ≡ all → at ≡ all
taken_count-short is ts at all partial le inv =
    let z : taken_count (drop at is) partial (drop at ts) ≡ 0 =
    ap (λ (y : List Token). taken_count (drop at is) partial y) (drop_of_length-le ts le) ∙ count_nothing (drop at is) partial in
    omega (arith, z, inv)

pub taken_count-end : (is : List Item) (ts : List Token) (at all : ℕ) (partial : PartialWord) → length is ≡ at
    → at + taken_count (drop at is) partial (drop at ts) ≡ all → length is ≡ all
taken_count-end is ts at all partial e inv =
    let le : length is ≤ at = omega arith in
    let z : taken_count (drop at is) partial (drop at ts) ≡ 0 =
    ap (λ (x : List Item). taken_count x partial (drop at ts)) (drop_of_length-le is le) ∙ count_empty partial (drop at ts) in
    omega (arith, z, inv)
