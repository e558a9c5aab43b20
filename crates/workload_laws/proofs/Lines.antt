-- The lines of a text that is made of lines.
use Rattle.std.proofs.Common.{◌≡◌, ℕ, zero, suc, ◌*◌, ◌≤◌, ◌<◌, true, false, not, ◌==◌, cond, nat_lt, List, [], ◌∷◌, ◌++◌, length, get_or, refl, ap}
use Rattle.std.proofs.Common.{◌∙◌, arith, length-append, append_assoc, ltb-true, leb-true, lit<}
use Rattle.std.specs.List.{flat_map, list_all}
use Rattle.std.specs.Str.{IsAscii}
use Rattle.std.proofs.lemmas.Bool.{and_parts, not-true, cond-false}
use Rattle.std.proofs.lemmas.Str.{IsAscii-append}
use Rattle.std.proofs.lemmas.Str.Ascii.{IsAscii-nil}
use Rattle.asm_core.specs.Source.{lines_of, onto_first}
use Rattle.workload.specs.Source.{ended}
use Rattle.workload_laws.proofs.ShortLines.{is_line_byte, is_short_line, short_parts}

lines_cons : (c : ℕ) (cs : List ℕ) → lines_of (c ∷ cs) ≡ cond (c == 10) ([] ∷ lines_of cs) (onto_first c (lines_of cs))
unfolding lines_of
lines_cons c cs = refl

no_feed : (c : ℕ) → is_line_byte c ≡ true → (c == 10) ≡ false
unfolding is_line_byte
no_feed c e = not-true (c == 10) (and_parts (nat_lt c 128) (not (c == 10)) e).1

-- a line, and what follows its line feed
first_line : (line rest : List ℕ) → list_all is_line_byte line ≡ true → lines_of (line ++ 10 ∷ rest) ≡ line ∷ lines_of rest
first_line [] rest e = lines_cons 10 rest
first_line (c ∷ line) rest e =
    let p = and_parts (is_line_byte c) (list_all is_line_byte line) e in
    lines_cons c (line ++ 10 ∷ rest)
    ∙ cond-false (c == 10) ([] ∷ lines_of (line ++ 10 ∷ rest)) (onto_first c (lines_of (line ++ 10 ∷ rest))) (no_feed c p.0)
    ∙ ap (onto_first c) (first_line line rest p.1)

no_lines : lines_of [] ≡ []
unfolding lines_of
no_lines = refl

ended_then : (line rest : List ℕ) → ended line ++ rest ≡ line ++ 10 ∷ rest
ended_then line rest = append_assoc line (10 ∷ []) rest

-- the lines of lines one after another, each with its line feed, are these lines
pub lines_back : (lines : List (List ℕ)) → list_all is_short_line lines ≡ true → lines_of (flat_map ended lines) ≡ lines
lines_back [] e = no_lines
lines_back (line ∷ lines) e =
    let p = and_parts (is_short_line line) (list_all is_short_line lines) e in
    ap lines_of (ended_then line (flat_map ended lines)) ∙ first_line line (flat_map ended lines) (short_parts line p.0).0
    ∙ ap (λ (ls : List (List ℕ)). line ∷ ls) (lines_back lines p.1)

-- ---- how long such a text is, and of what bytes

line_length : (line : List ℕ) → is_short_line line ≡ true → length (ended line) ≤ 41
line_length line e =
    let short : length line ≤ 40 = leb-true (length line) 40 (short_parts line e).1 in omega (arith, length-append line (10 ∷ []))

pub text_length : (lines : List (List ℕ)) → list_all is_short_line lines ≡ true → length (flat_map ended lines) ≤ 41 * length lines
text_length [] e = omega arith
text_length (line ∷ lines) e =
    let p = and_parts (is_short_line line) (list_all is_short_line lines) e in
    omega (arith, length-append (ended line) (flat_map ended lines), line_length line p.0, text_length lines p.1)

ascii_byte : (c : ℕ) → is_line_byte c ≡ true → c < 128
unfolding is_line_byte
ascii_byte c e = ltb-true c 128 (and_parts (nat_lt c 128) (not (c == 10)) e).0

line_ascii : (line : List ℕ) → list_all is_line_byte line ≡ true → (i : ℕ) → get_or line i 0 < 128
line_ascii [] e i = IsAscii-nil i
line_ascii (c ∷ line) e zero = ascii_byte c (and_parts (is_line_byte c) (list_all is_line_byte line) e).0
line_ascii (c ∷ line) e (suc i) = line_ascii line (and_parts (is_line_byte c) (list_all is_line_byte line) e).1 i

feed_ascii : (i : ℕ) → get_or (10 ∷ []) i 0 < 128
feed_ascii zero = lit< tt
feed_ascii (suc i) = IsAscii-nil i

pub text_ascii : (lines : List (List ℕ)) → list_all is_short_line lines ≡ true → IsAscii (flat_map ended lines)
text_ascii [] e = IsAscii-nil
text_ascii (line ∷ lines) e =
    let p = and_parts (is_short_line line) (list_all is_short_line lines) e in
    IsAscii-append (ended line) (flat_map ended lines) (IsAscii-append line (10 ∷ [])
    (line_ascii line (short_parts line p.0).0) feed_ascii) (text_ascii lines p.1)
