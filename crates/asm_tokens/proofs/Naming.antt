-- A name that stands first is the first token.
use Rattle.std.proofs.Common.{◌≡◌, ℕ, ◌+◌, ◌<◌, true, false, not, ◌&&◌, ◌==◌, List, ◌∷◌, length, drop, get_or, sym, ap, ◌∙◌, arith, subst}
use Rattle.std.proofs.lemmas.Bool.{and_parts, not-true, cond-true, cond-false}
use Rattle.std.proofs.lemmas.Bool.Decides.{nat_tests}
use Rattle.std.proofs.lemmas.List.{drop_more, drop-drop}
use Rattle.asm_tokens.specs.Characters.{is_digit, is_name_character, is_blank}
use Rattle.asm_tokens.specs.Tokens.{Read, run, has_sign, begins_name, token_of_name, read_run, read_token, lexeme_at, lexemes_of}
use Rattle.asm_tokens.proofs.Following.{lexemes-token}

-- a character of names is no blank and no `#`
pub name_no_blank : (c : ℕ) → is_name_character c ≡ true → is_blank c ≡ false
unfolding is_name_character is_digit is_blank
name_no_blank c e = grind (arith, nat_tests)

pub name_no_number : (c : ℕ) → is_name_character c ≡ true → (c == 35) ≡ false
unfolding is_name_character is_digit
name_no_number c e = grind (arith, nat_tests)

-- the token of a name
abbrev pub named : List ℕ → Read
named cs = record { token = token_of_name (run cs); size = length (run cs) }

pub read-name : (c : ℕ) (cs : List ℕ) → begins_name (c ∷ cs) ≡ true → read_token c cs ≡ named (c ∷ cs)
unfolding begins_name read_token read_run
read-name c cs e =
    let p = and_parts (is_name_character c && not (is_digit c)) (not ((c == 46) && has_sign cs)) e in
    let q = and_parts (is_name_character c) (not (is_digit c)) p.0 in
    cond-false (c == 35) _ _ (name_no_number c q.0) ∙ cond-false ((c == 46) && has_sign cs) _ _ (not-true _ p.1)
    ∙ cond-true (is_name_character c) _ _ q.0
    ∙ ap (λ t. let r : Read = record { token = t; size = length (run (c ∷ cs)) } in r) (cond-false (is_digit c) _ _ (not-true _ q.1))

begins_no_blank : (c : ℕ) (cs : List ℕ) → begins_name (c ∷ cs) ≡ true → is_blank c ≡ false
unfolding begins_name
begins_no_blank c cs e =
    name_no_blank c (and_parts (is_name_character c) (not (is_digit c)) (and_parts _ (not ((c == 46) && has_sign cs)) e).0).0

lexemes-named : (at c : ℕ) (cs : List ℕ) → begins_name (c ∷ cs) ≡ true
    → lexemes_of at (c ∷ cs) ≡ lexeme_at at (named (c ∷ cs))
    ∷ lexemes_of (at + length (run (c ∷ cs))) (drop (length (run (c ∷ cs))) (c ∷ cs))
lexemes-named at c cs e =
    lexemes-token at c cs (begins_no_blank c cs e)
    ∙ ap (λ (r : Read). lexeme_at at r ∷ lexemes_of (at + r.size) (drop r.size (c ∷ cs))) (read-name c cs e)

-- the first token is the name, and the others follow it
pub first-name : (xs : List ℕ) (start : ℕ) → start < length xs → begins_name (drop start xs) ≡ true
    → lexemes_of start (drop start xs) ≡ lexeme_at start (named (drop start xs))
    ∷ lexemes_of (start + length (run (drop start xs))) (drop (start + length (run (drop start xs))) xs)
first-name xs start lt e =
    let c = get_or xs start 0 in
    let cs = drop (start + 1) xs in
    let same : drop start xs ≡ c ∷ cs = drop_more xs start 0 lt in
    let P : List ℕ → Type 0 =
    λ ys. lexemes_of start ys ≡ lexeme_at start (named ys) ∷ lexemes_of (start + length (run ys)) (drop (length (run ys)) ys) in
    subst P (sym same) (lexemes-named start c cs (ap begins_name (sym same) ∙ e))
    ∙ ap (λ ys. lexeme_at start (named (drop start xs)) ∷ lexemes_of (start + length (run (drop start xs))) ys)
    (drop-drop (length (run (drop start xs))) start xs)
