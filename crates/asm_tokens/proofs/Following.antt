-- The first token of a text, and those that follow it.
use Rattle.std.proofs.Common.{◌≡◌, ℕ, zero, suc, ◌+◌, ◌<◌, ◌≤◌, true, false, ◌&&◌, ◌==◌, nat_lt, List, [], ◌∷◌, length, drop, get_or, cond}
use Rattle.std.proofs.Common.{refl, sym, ap, ap₂, ◌∙◌, arith, length-drop, inl, inr}
use Rattle.std.specs.List.{prefix_len}
use Rattle.std.proofs.lemmas.Bool.{cases_Bool, cond-true, cond-false, cond_both}
use Rattle.std.proofs.lemmas.List.{drop-drop, drop_more, drop_all, get_or-drop}
use Rattle.std.proofs.lemmas.List.Sums.{prefix_len_stops, take_while-cons}
use Rattle.asm_tokens.specs.declared.token.Lexeme.{Lexeme}
use Rattle.asm_tokens.specs.Characters.{is_name_character, is_blank, front}
use Rattle.asm_tokens.specs.Tokens.{Read, run, has_sign, read_number, read_distance, read_run, read_character, read_token, lexeme_at}
use Rattle.asm_tokens.specs.Tokens.{lexemes_from, lexemes_of}
use Rattle.asm_tokens.proofs.Steps.{front-length}

-- ---- sizes

run-some : (c : ℕ) (cs : List ℕ) → is_name_character c ≡ true → 1 ≤ length (run (c ∷ cs))
run-some c cs e = omega (arith, ap length (take_while-cons is_name_character c cs ∙ cond-true (is_name_character c) (c ∷ run cs) [] e))

number-some : (cs : List ℕ) → 1 ≤ (read_number cs).size
unfolding read_number
number-some cs = cond_both (get_or cs 0 0 == 45) _ _ (λ (r : Read). 1 ≤ r.size) (λ _. omega arith) (λ _. omega arith)

character-some : (c : ℕ) (cs : List ℕ) → 1 ≤ (read_character c cs).size
unfolding read_character
character-some c cs = cond_both (nat_lt c 128) _ _ (λ (r : Read). 1 ≤ r.size) (λ _. omega arith) (λ _. omega arith)

-- each token has a byte at least
pub size-some : (c : ℕ) (cs : List ℕ) → 1 ≤ (read_token c cs).size
unfolding read_token read_distance read_run
size-some c cs =
    let P : Read → Type 0 = λ r. 1 ≤ r.size in
    cond_both (c == 35) _ _ P (λ _. number-some cs)
    (λ _. cond_both ((c == 46) && has_sign cs) _ _ P (λ _. omega arith)
    (λ _. cond_both (is_name_character c) _ _ P (λ e. run-some c cs e) (λ _. character-some c cs)))

-- ---- as many tokens as there are bytes are enough

enough : (most more at : ℕ) (ts : List ℕ) → length ts ≤ most → length ts ≤ more → lexemes_from most at ts ≡ lexemes_from more at ts
unfolding lexemes_from
enough zero zero at ts l m = refl
enough zero (suc more) at [] l m = refl
enough zero (suc more) at (c ∷ cs) l m = absurd (omega arith)
enough (suc most) zero at [] l m = refl
enough (suc most) zero at (c ∷ cs) l m = absurd (omega arith)
enough (suc most) (suc more) at [] l m = refl
enough (suc most) (suc more) at (c ∷ cs) l m =
    let r = read_token c cs in
    let some : 1 ≤ r.size = size-some c cs in
    let less : length (drop r.size (c ∷ cs)) ≤ length cs = omega (arith, length-drop r.size (c ∷ cs)) in
    ap₂ (λ (xs : List Lexeme) (ys : List Lexeme). cond (is_blank c) xs (lexeme_at at r ∷ ys))
    (enough most more (at + 1) cs (omega arith) (omega arith))
    (enough most more (at + r.size) (drop r.size (c ∷ cs)) (omega arith) (omega arith))

pub lexemes-blank : (at c : ℕ) (cs : List ℕ) → is_blank c ≡ true → lexemes_of at (c ∷ cs) ≡ lexemes_of (at + 1) cs
unfolding lexemes_from
lexemes-blank at c cs e = cond-true (is_blank c) _ _ e

pub lexemes-token : (at c : ℕ) (cs : List ℕ) → is_blank c ≡ false
    → lexemes_of at (c ∷ cs) ≡ lexeme_at at (read_token c cs)
    ∷ lexemes_of (at + (read_token c cs).size) (drop (read_token c cs).size (c ∷ cs))
unfolding lexemes_from
lexemes-token at c cs e =
    let r = read_token c cs in
    let some : 1 ≤ r.size = size-some c cs in
    let less : length (drop r.size (c ∷ cs)) ≤ length cs = omega (arith, length-drop r.size (c ∷ cs)) in
    cond-false (is_blank c) _ _ e
    ∙ ap (λ (ys : List Lexeme). lexeme_at at r ∷ ys)
    (enough (length cs) (length (drop r.size (c ∷ cs))) (at + r.size) (drop r.size (c ∷ cs)) less (omega arith))

prefix-yes : (c : ℕ) (cs : List ℕ) → is_blank c ≡ true → prefix_len is_blank (c ∷ cs) ≡ 1 + prefix_len is_blank cs
prefix-yes c cs e = cond-true (is_blank c) (1 + prefix_len is_blank cs) 0 e

prefix-no : (c : ℕ) (cs : List ℕ) → is_blank c ≡ false → prefix_len is_blank (c ∷ cs) ≡ 0
prefix-no c cs e = cond-false (is_blank c) (1 + prefix_len is_blank cs) 0 e

-- the text after so many bytes
abbrev after : ℕ → List ℕ → ℕ → List Lexeme
after at xs n = lexemes_of (at + n) (drop n xs)

after-zero : (at : ℕ) (xs : List ℕ) → lexemes_of at xs ≡ after at xs 0
after-zero at xs = ap (λ n. lexemes_of n xs) (omega arith)

after-suc : (at c n : ℕ) (cs : List ℕ) → after (at + 1) cs n ≡ after at (c ∷ cs) (1 + n)
after-suc at c n cs =
    let same : 1 + n ≡ suc n = omega arith in
    let sum : at + 1 + n ≡ at + suc n = omega arith in
    ap (λ k. lexemes_of k (drop n cs)) sum ∙ ap (λ k. after at (c ∷ cs) k) (sym same)

lexemes-blanks : (at : ℕ) (xs : List ℕ) → lexemes_of at xs ≡ after at xs (prefix_len is_blank xs)
lexemes-blanks at [] = after-zero at []
lexemes-blanks at (c ∷ cs) =
    elim (cases_Bool (is_blank c)) [
      | inl e ↦ lexemes-blank at c cs e ∙ lexemes-blanks (at + 1) cs ∙ after-suc at c (prefix_len is_blank cs) cs
          ∙ ap (λ n. after at (c ∷ cs) n) (sym (prefix-yes c cs e))
      | inr e ↦ after-zero at (c ∷ cs) ∙ ap (λ n. after at (c ∷ cs) n) (sym (prefix-no c cs e))
    ]

-- blanks say nothing
pub lexemes-skip : (xs : List ℕ) (at start : ℕ) → start ≡ at + length (front is_blank (drop at xs))
    → lexemes_of at (drop at xs) ≡ lexemes_of start (drop start xs)
lexemes-skip xs at start is =
    let n = prefix_len is_blank (drop at xs) in
    let e : at + n ≡ start = omega (arith, front-length is_blank (drop at xs)) in
    lexemes-blanks at (drop at xs) ∙ ap (λ ys. lexemes_of (at + n) ys) (drop-drop n at xs) ∙ ap (λ k. lexemes_of k (drop k xs)) e

-- nothing but blanks stands there
pub lexemes-none : (xs : List ℕ) (at start : ℕ) → start ≡ at + length (front is_blank (drop at xs)) → length xs ≤ start
    → lexemes_of at (drop at xs) ≡ []
unfolding lexemes_from
lexemes-none xs at start is le = lexemes-skip xs at start is ∙ ap (λ ys. lexemes_of start ys) (drop_all start xs le)

no_blank : (xs : List ℕ) (at start : ℕ) → start ≡ at + length (front is_blank (drop at xs)) → start < length xs
    → is_blank (get_or xs start 0) ≡ false
no_blank xs at start is lt =
    let n = prefix_len is_blank (drop at xs) in
    let e : at + n ≡ start = omega (arith, front-length is_blank (drop at xs)) in
    ap (λ k. is_blank (get_or xs k 0)) (sym e) ∙ ap is_blank (sym (get_or-drop at xs n 0))
    ∙ prefix_len_stops is_blank (drop at xs) 0 (omega (arith, length-drop at xs))

-- the first token and the others
pub lexemes-some : (xs : List ℕ) (at start : ℕ) → start ≡ at + length (front is_blank (drop at xs)) → start < length xs
    → lexemes_of at (drop at xs) ≡ lexeme_at start (read_token (get_or xs start 0) (drop (start + 1) xs))
    ∷ lexemes_of (start + (read_token (get_or xs start 0) (drop (start + 1) xs)).size)
    (drop (start + (read_token (get_or xs start 0) (drop (start + 1) xs)).size) xs)
lexemes-some xs at start is lt =
    let c = get_or xs start 0 in
    let cs = drop (start + 1) xs in
    let r = read_token c cs in
    lexemes-skip xs at start is ∙ ap (λ ys. lexemes_of start ys) (drop_more xs start 0 lt)
    ∙ lexemes-token start c cs (no_blank xs at start is lt)
    ∙ ap (λ ys. lexeme_at start r ∷ lexemes_of (start + r.size) (drop r.size ys)) (sym (drop_more xs start 0 lt))
    ∙ ap (λ ys. lexeme_at start r ∷ lexemes_of (start + r.size) ys) (drop-drop r.size start xs)
