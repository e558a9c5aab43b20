-- The steps of a walk over the shapes of a mnemonic.
use Rattle.std.proofs.Common.{◌≡◌, ℕ, ◌+◌, ◌<◌, ◌≤◌, List, Option, Some, None, length, drop, get_or, cond, max, sym, ap, ◌∙◌, arith}
use Rattle.std.specs.Prelude.{is_some}
use Rattle.std.proofs.Math.ListN.{drop_of_length-le}
use Rattle.std.proofs.lemmas.List.{drop_more}
use Rattle.asm_tokens.specs.declared.token.Token.{Token}
use Rattle.insn_text.specs.declared.item.Item.{Item}
use Rattle.insn_text.specs.declared.item.Shape.{Shape}
use Rattle.insn_text.specs.Texts.{items_of}
use Rattle.asm_operands.specs.declared.operands.Target.{Target}
use Rattle.asm_operands.specs.Operands.{word_in, taken_count_in, first_of_words, first_word, furthest, target_in, target_of}

-- ---- the greatest reach
max_more : (a b c d all : ℕ) → d ≡ max b c → max a d ≡ all → max (max a b) c ≡ all
max_more a b c d all e inv = omega arith

pub furthest-step : (ss : List Shape) (ts : List Token) (at most counted all : ℕ) (d : Shape) → at < length ss
    → counted ≡ taken_count_in (get_or ss at d) ts
    → max most (furthest (drop at ss) ts) ≡ all → max (max most counted) (furthest (drop (at + 1) ss) ts) ≡ all
unfolding furthest
furthest-step ss ts at most counted all d lt e inv =
    max_more most counted (furthest (drop (at + 1) ss) ts) (furthest (drop at ss) ts) all
    (ap (λ (x : List Shape). furthest x ts) (drop_more ss at d lt) ∙ ap (λ n. max n (furthest (drop (at + 1) ss) ts)) (sym e)) inv

pub furthest-end : (ss : List Shape) (ts : List Token) (at most all : ℕ) → length ss ≤ at → max most (furthest (drop at ss) ts) ≡ all
    → most ≡ all
unfolding furthest
furthest-end ss ts at most all le inv =
    let z : furthest (drop at ss) ts ≡ 0 = ap (λ (x : List Shape). furthest x ts) (drop_of_length-le ss le) in omega (arith, z, inv)

-- ---- the first word
first-at : (ss : List Shape) (ts : List Token) (at : ℕ) (d : Shape) → at < length ss
    → first_word (drop at ss) ts ≡ first_of_words (word_in (get_or ss at d) ts) (first_word (drop (at + 1) ss) ts)
unfolding first_word
first-at ss ts at d lt = ap (λ (x : List Shape). first_word x ts) (drop_more ss at d lt)

target-at : (ss : List Shape) (ts : List Token) (at : ℕ) (d : Shape) → at < length ss
    → target_of (drop at ss) ts ≡ cond (is_some (word_in (get_or ss at d) ts)) (target_in (items_of (get_or ss at d)) ts)
    (target_of (drop (at + 1) ss) ts)
unfolding target_of
target-at ss ts at d lt = ap (λ (x : List Shape). target_of x ts) (drop_more ss at d lt)

pub first-none : (ss : List Shape) (ts : List Token) (at : ℕ) (d : Shape) → at < length ss → None ≡ word_in (get_or ss at d) ts
    → first_word (drop (at + 1) ss) ts ≡ first_word (drop at ss) ts
first-none ss ts at d lt e = sym (first-at ss ts at d lt ∙ ap (λ o. first_of_words o (first_word (drop (at + 1) ss) ts)) (sym e))

pub target-none : (ss : List Shape) (ts : List Token) (at : ℕ) (d : Shape) → at < length ss → None ≡ word_in (get_or ss at d) ts
    → target_of (drop (at + 1) ss) ts ≡ target_of (drop at ss) ts
target-none ss ts at d lt e =
    sym (target-at ss ts at d lt ∙ ap (λ o. cond (is_some o) (target_in (items_of (get_or ss at d)) ts) (target_of (drop (at + 1) ss) ts))
    (sym e))

pub first-some : (ss : List Shape) (ts : List Token) (at word : ℕ) (d : Shape) → at < length ss → Some word ≡ word_in (get_or ss at d) ts
    → Some word ≡ first_word (drop at ss) ts
first-some ss ts at word d lt e = sym (first-at ss ts at d lt ∙ ap (λ o. first_of_words o (first_word (drop (at + 1) ss) ts)) (sym e))

pub target-some : (ss : List Shape) (ts : List Token) (at word : ℕ) (d : Shape) → at < length ss → Some word ≡ word_in (get_or ss at d) ts
    → target_in (items_of (get_or ss at d)) ts ≡ target_of (drop at ss) ts
target-some ss ts at word d lt e =
    sym (target-at ss ts at d lt ∙ ap (λ o. cond (is_some o) (target_in (items_of (get_or ss at d)) ts) (target_of (drop (at + 1) ss) ts))
    (sym e))

pub first-end : (ss : List Shape) (ts : List Token) (at : ℕ) → length ss ≤ at → first_word (drop at ss) ts ≡ None
unfolding first_word
first-end ss ts at le = ap (λ (x : List Shape). first_word x ts) (drop_of_length-le ss le)

pub target-is : (s : Shape) (is : List Item) (ts : List Token) (o : Option Target) → is ≡ items_of s → o ≡ target_in is ts
    → o ≡ target_in (items_of s) ts
target-is s is ts o e h = h ∙ ap (λ (x : List Item). target_in x ts) e
