-- Texts that are read as tokens, whatever follows them.
use Rattle.std.proofs.Common.{◌≡◌, ℕ, suc, ◌+◌, ◌^◌, ◌<◌, Bool, true, false, not, ◌&&◌, ◌==◌, nat_lt, List, [], ◌∷◌, ◌++◌, Some, None, cond}
use Rattle.std.proofs.Common.{lt-ltb, length, drop, get_or, refl, sym, ap, ap₂, ◌∙◌, arith}
use Rattle.std.specs.Prelude.{decimal}
use Rattle.std.specs.Fmt.{digits}
use Rattle.std.specs.List.{list_all}
use Rattle.std.proofs.lemmas.Bool.{and_parts, and_from, not-true, not_from_false, cond-true, cond-false}
use Rattle.std.proofs.lemmas.Bool.Decides.{nat_tests}
use Rattle.std.proofs.lemmas.Fmt.{decimal_nonempty}
use Rattle.std.proofs.lemmas.List.{drop_at}
use Rattle.std.proofs.lemmas.List.Sums.{take_while-cons}
use Rattle.insn_text.specs.declared.item.RegisterFile.{RegisterFile}
use Rattle.insn_text.specs.declared.item.RegisterFile.TheVariants.{X, W}
use Rattle.insn_text.specs.Texts.{file_text}
use Rattle.insn_text.specs.declared.keywords.TheConstants.{KEYWORDS}
use Rattle.line_reader.specs.Numbers.{decimal_number}
use Rattle.line_reader.proofs.Digits.{decimal_read}
use Rattle.asm_tokens.specs.declared.token.Lexeme.{Lexeme}
use Rattle.asm_tokens.specs.declared.token.Token.{Token}
use Rattle.asm_tokens.specs.declared.token.Token.TheVariants.{Register, Keyword, Number, Distance, Punctuation, Bare}
use Rattle.asm_tokens.specs.Characters.{is_name_character, is_blank, is_digit}
use Rattle.asm_tokens.specs.Numbers.{number_in, begins_hexadecimal}
use Rattle.asm_tokens.specs.Tokens.{Read, run, has_sign, begins_name, name_token, token_or, file_of, register_of, register_in}
use Rattle.asm_tokens.specs.Tokens.{sized_in, bare_token, read_run}
use Rattle.asm_tokens.specs.Tokens.{token_of_name, number_token, distance_token, index_in, read_number, read_distance, read_character}
use Rattle.asm_tokens.specs.Tokens.{read_token, lexemes_of}
use Rattle.asm_tokens.proofs.Following.{lexemes-token}
use Rattle.asm_tokens.proofs.Naming.{read-name, name_no_blank}
use Rattle.asm_parser.proofs.Numerals.{decimal-names, decimal-digits, number-read, no_minus, hexadecimal-read}
use Rattle.asm_parser.proofs.Numerals.{hexadecimal-names}

-- no character of a name stands first
unfoldable pub opens : List ℕ → Bool
opens [] = true
opens (c ∷ cs) = not (is_name_character c)

pub run-whole : (xs rest : List ℕ) → list_all is_name_character xs ≡ true → opens rest ≡ true → run (xs ++ rest) ≡ xs
unfolding opens
run-whole [] [] a o = refl
run-whole [] (c ∷ cs) a o = take_while-cons is_name_character c cs ∙ cond-false (is_name_character c) _ _ (not-true _ o)
run-whole (x ∷ xs) rest a o =
    let p = and_parts (is_name_character x) (list_all is_name_character xs) a in
    take_while-cons is_name_character x (xs ++ rest) ∙ cond-true (is_name_character x) _ _ p.0 ∙ ap (λ ys. x ∷ ys) (run-whole xs rest p.1 o)

-- no character is that with which a comment begins
abbrev pub no_slash : ℕ → Bool
no_slash c = not (c == 47)

name_no_slash : (c : ℕ) → is_name_character c ≡ true → (c == 47) ≡ false
unfolding is_name_character is_digit
name_no_slash c e = grind (arith, nat_tests)

pub names_no_slash : (xs : List ℕ) → list_all is_name_character xs ≡ true → list_all no_slash xs ≡ true
names_no_slash [] e = refl
names_no_slash (c ∷ cs) e =
    let p = and_parts (is_name_character c) (list_all is_name_character cs) e in
    and_from (no_slash c) (list_all no_slash cs) (not_from_false _ (name_no_slash c p.0)) (names_no_slash cs p.1)

abbrev make : Token → ℕ → Read
make t k = record { token = t; size = k }

-- the text, which has a `/` only where it is one, is read as the token where it stands before the other text
pub record IsRead (slash : Bool) (xs rest : List ℕ) (t : Token) : Type 0 where
  pub first : ℕ
  pub others : List ℕ
  pub whole : xs ≡ first ∷ others
  pub no_blank : is_blank first ≡ false
  pub plain : slash ≡ false → list_all no_slash xs ≡ true
  pub reads : read_token first (others ++ rest) ≡ record { token = t; size = length xs }

pub lexemes-read : (slash : Bool) (xs rest : List ℕ) (t : Token) (at : ℕ) → IsRead slash xs rest t
    → lexemes_of at (xs ++ rest) ≡ record { token = t; start = at; end = at + length xs } ∷ lexemes_of (at + length xs) rest
lexemes-read slash xs rest t at r =
    let next : Read → List Lexeme =
    λ q. record { token = q.token; start = at; end = at + q.size }
    ∷ lexemes_of (at + q.size) (drop q.size (r.first ∷ (r.others ++ rest))) in
    let l : Lexeme = record { token = t; start = at; end = at + length xs } in
    ap (λ ys. lexemes_of at (ys ++ rest)) r.whole ∙ lexemes-token at r.first (r.others ++ rest) r.no_blank ∙ ap next r.reads
    ∙ ap (λ ys. l ∷ lexemes_of (at + length xs) (drop (length xs) (ys ++ rest))) (sym r.whole)
    ∙ ap (λ ys. l ∷ lexemes_of (at + length xs) ys) (drop_at xs rest (length xs) refl)

-- ---- words and names

-- characters of names, no digit and no dot first
unfoldable pub is_plain : List ℕ → Bool
is_plain [] = false
is_plain (c ∷ cs) = list_all is_name_character (c ∷ cs) && not (is_digit c) && not (c == 46)

pub plain-names : (xs : List ℕ) → is_plain xs ≡ true → list_all is_name_character xs ≡ true
unfolding is_plain
plain-names [] e = refl
plain-names (c ∷ cs) e = (and_parts (list_all is_name_character (c ∷ cs)) (not (is_digit c)) (and_parts _ (not (c == 46)) e).0).0

pub plain-begins : (xs rest : List ℕ) → is_plain xs ≡ true → begins_name (xs ++ rest) ≡ true
unfolding is_plain begins_name
plain-begins [] rest e = cc
plain-begins (c ∷ cs) rest e =
    let p = and_parts (list_all is_name_character (c ∷ cs) && not (is_digit c)) (not (c == 46)) e in
    let q = and_parts (list_all is_name_character (c ∷ cs)) (not (is_digit c)) p.0 in
    let name = (and_parts (is_name_character c) (list_all is_name_character cs) q.0).0 in
    and_from _ _ (and_from (is_name_character c) (not (is_digit c)) name q.1)
    (not_from_false _ (ap (λ b. b && has_sign (cs ++ rest)) (not-true (c == 46) p.1)))

-- a name is read as its token
pub name-is-read : (xs rest : List ℕ) (t : Token) → is_plain xs ≡ true → token_of_name xs ≡ t → opens rest ≡ true → IsRead false xs rest t
unfolding is_plain
name-is-read [] rest t e is o = cc
name-is-read (c ∷ cs) rest t e is o =
    let names = plain-names (c ∷ cs) e in
    record {
      first = c;
      others = cs;
      whole = refl;
      no_blank = name_no_blank c (and_parts (is_name_character c) (list_all is_name_character cs) names).0;
      plain = λ _. names_no_slash (c ∷ cs) names;
      reads =
          read-name c (cs ++ rest) (plain-begins (c ∷ cs) rest e)
          ∙ ap (λ ys. make (token_of_name ys) (length ys)) (run-whole (c ∷ cs) rest names o)
          ∙ ap (λ v. make v (length (c ∷ cs))) is;
    }

pub word-read : (xs rest : List ℕ) (index : ℕ) → is_plain xs ≡ true → register_in xs ≡ None → sized_in xs ≡ None
    → index_in KEYWORDS xs ≡ Some index → opens rest ≡ true → IsRead false xs rest (Keyword index)
unfolding token_of_name name_token
word-read xs rest index e other unsized found o =
    name-is-read xs rest (Keyword index) e
    (ap₂ (λ p r. token_or (token_or (name_token p) (sized_in xs)) r) found other ∙ ap (token_or (Keyword index)) unsized) o

abbrev unregistered : List ℕ → Token
unregistered cs = token_or (name_token (index_in KEYWORDS cs)) (sized_in cs)

register-token : (file : RegisterFile) (n : ℕ) → n < 31 → token_of_name (file_text file ++ decimal n) ≡ Register file n
unfolding token_of_name register_in register_of file_of file_text
register-token X n lt =
    let fits : n < 2 ^ 64 = omega arith in
    ap (λ m. token_or (unregistered (120 ∷ decimal n)) (register_of (Some X) m)) (decimal_read n fits)
    ∙ ap (λ b. token_or (unregistered (120 ∷ decimal n)) (cond b (Some (Register X n)) None)) (lt-ltb n 31 lt)
register-token W n lt =
    let fits : n < 2 ^ 64 = omega arith in
    ap (λ m. token_or (unregistered (119 ∷ decimal n)) (register_of (Some W) m)) (decimal_read n fits)
    ∙ ap (λ b. token_or (unregistered (119 ∷ decimal n)) (cond b (Some (Register W n)) None)) (lt-ltb n 31 lt)

register-plain : (file : RegisterFile) (n : ℕ) → n < 2 ^ 64 → is_plain (file_text file ++ decimal n) ≡ true
unfolding is_plain file_text is_name_character is_digit
register-plain X n lt = ap (λ b. b && true && true) (decimal-names n lt)
register-plain W n lt = ap (λ b. b && true && true) (decimal-names n lt)

pub register-is-read : (file : RegisterFile) (n : ℕ) (rest : List ℕ) → n < 31 → opens rest ≡ true
    → IsRead false (file_text file ++ decimal n) rest (Register file n)
register-is-read file n rest lt o =
    name-is-read (file_text file ++ decimal n) rest (Register file n) (register-plain file n (omega arith)) (register-token file n lt) o

-- ---- numbers

-- digits are a number without `#`
digit_no_punctuation : (c : ℕ) → is_digit c ≡ true → (c == 35) ≡ false
unfolding is_digit
digit_no_punctuation c e = grind (arith, nat_tests)

digit_no_dot : (c : ℕ) → is_digit c ≡ true → (c == 46) ≡ false
unfolding is_digit
digit_no_dot c e = grind (arith, nat_tests)

digits-are-read : (xs rest : List ℕ) (n : ℕ) → 0 < length xs → list_all is_digit xs ≡ true → list_all is_name_character xs ≡ true
    → number_in xs ≡ Some n → opens rest ≡ true → IsRead false xs rest (Bare n)
unfolding read_token read_run bare_token
digits-are-read [] rest n some digits names reads o = absurd (omega arith)
digits-are-read (c ∷ cs) rest n some digits names reads o =
    let digit = (and_parts (is_digit c) (list_all is_digit cs) digits).0 in
    let name = (and_parts (is_name_character c) (list_all is_name_character cs) names).0 in
    record {
      first = c;
      others = cs;
      whole = refl;
      no_blank = name_no_blank c name;
      plain = λ _. names_no_slash (c ∷ cs) names;
      reads =
          cond-false (c == 35) _ _ (digit_no_punctuation c digit)
          ∙ cond-false ((c == 46) && has_sign (cs ++ rest)) _ _ (ap (λ b. b && has_sign (cs ++ rest)) (digit_no_dot c digit))
          ∙ cond-true (is_name_character c) _ _ name
          ∙ ap (λ b. make (cond b (bare_token (number_in (run (c ∷ (cs ++ rest))))) (token_of_name (run (c ∷ (cs ++ rest)))))
          (length (run (c ∷ (cs ++ rest))))) digit
          ∙ ap (λ ys. make (bare_token (number_in ys)) (length ys)) (run-whole (c ∷ cs) rest names o)
          ∙ ap (λ v. make (bare_token v) (length (c ∷ cs))) reads;
    }

pub bare-is-read : (n : ℕ) (rest : List ℕ) → n < 2 ^ 64 → opens rest ≡ true → IsRead false (decimal n) rest (Bare n)
bare-is-read n rest lt o =
    digits-are-read (decimal n) rest n (decimal_nonempty n lt) (decimal-digits n lt) (decimal-names n lt) (number-read n lt) o

pub first_of : (xs rest : List ℕ) → 0 < length xs → get_or (xs ++ rest) 0 0 ≡ get_or xs 0 0
first_of [] rest some = absurd (omega arith)
first_of (x ∷ xs) rest some = refl

-- a number after one character, or after one and a sign
one_more : (n : ℕ) → 1 + n ≡ suc n
one_more n = omega arith

two_more : (n : ℕ) → 2 + n ≡ suc (suc n)
two_more n = omega arith

-- `#` and digits with no sign
after-character : (ds rest : List ℕ) (n : ℕ) → list_all is_name_character ds ≡ true → (get_or (ds ++ rest) 0 0 == 45) ≡ false
    → number_in ds ≡ Some n → opens rest ≡ true
    → IsRead false (35 ∷ ds) rest (Number false n)
unfolding read_token read_number number_token is_blank
after-character ds rest n names plus reads o = record {
  first = 35;
  others = ds;
  whole = refl;
  no_blank = refl;
  plain = λ _. names_no_slash ds names;
  reads =
      cond-false _ _ _ plus
      ∙ ap (λ ys. make (number_token false (number_in ys)) (1 + length ys)) (run-whole ds rest names o)
      ∙ ap₂ (λ v k. make (number_token false v) k) reads (one_more (length ds));
}

pub number-is-read : (n : ℕ) (rest : List ℕ) → n < 2 ^ 64 → opens rest ≡ true → IsRead false (35 ∷ decimal n) rest (Number false n)
number-is-read n rest lt o =
    after-character (decimal n) rest n (decimal-names n lt)
    (ap (λ c. c == 45) (first_of (decimal n) rest (decimal_nonempty n lt)) ∙ no_minus n lt) (number-read n lt) o

pub mask-is-read : (n : ℕ) (rest : List ℕ) → n < 2 ^ 64 → opens rest ≡ true
    → IsRead false (35 ∷ 48 ∷ 120 ∷ digits 16 false n) rest (Number false n)
unfolding number_in begins_hexadecimal is_name_character is_digit
mask-is-read n rest lt o = after-character (48 ∷ 120 ∷ digits 16 false n) rest n (hexadecimal-names n lt) refl (hexadecimal-read n lt) o

-- a character, a sign and digits
after-sign : (first sign : ℕ) (n : ℕ) (rest : List ℕ) (t : Token) (token : List ℕ → Token) → n < 2 ^ 64 → opens rest ≡ true
    → is_blank first ≡ false → (no_slash first && no_slash sign) ≡ true
    → ((cs : List ℕ) → read_token first (sign ∷ cs) ≡ make (token (run cs)) (2 + length (run cs))) → token (decimal n) ≡ t
    → IsRead false (first ∷ sign ∷ decimal n) rest t
after-sign first sign n rest t token lt o blank slash reads is =
    let p = and_parts (no_slash first) (no_slash sign) slash in
    record {
      first = first;
      others = sign ∷ decimal n;
      whole = refl;
      no_blank = blank;
      plain = λ _. and_from (no_slash first) _ p.0 (and_from (no_slash sign) _ p.1 (names_no_slash (decimal n) (decimal-names n lt)));
      reads =
          reads (decimal n ++ rest) ∙ ap (λ ys. make (token ys) (2 + length ys)) (run-whole (decimal n) rest (decimal-names n lt) o)
          ∙ ap₂ (λ v k. make v k) is (two_more (length (decimal n)));
    }

pub negative-is-read : (n : ℕ) (rest : List ℕ) → n < 2 ^ 64 → opens rest ≡ true → IsRead false (35 ∷ 45 ∷ decimal n) rest (Number true n)
unfolding read_token read_number number_token is_blank
negative-is-read n rest lt o =
    after-sign 35 45 n rest (Number true n) (λ ys. number_token true (number_in ys)) lt o refl refl (λ cs. refl)
    (ap (number_token true) (number-read n lt))

pub forward-is-read : (n : ℕ) (rest : List ℕ) → n < 2 ^ 64 → opens rest ≡ true → IsRead false (46 ∷ 43 ∷ decimal n) rest (Distance false n)
unfolding read_token read_distance distance_token has_sign is_blank
forward-is-read n rest lt o =
    after-sign 46 43 n rest (Distance false n) (λ ys. distance_token false (decimal_number ys)) lt o refl refl (λ cs. refl)
    (ap (distance_token false) (decimal_read n lt))

pub back-is-read : (n : ℕ) (rest : List ℕ) → n < 2 ^ 64 → opens rest ≡ true → IsRead false (46 ∷ 45 ∷ decimal n) rest (Distance true n)
unfolding read_token read_distance distance_token has_sign is_blank
back-is-read n rest lt o =
    after-sign 46 45 n rest (Distance true n) (λ ys. distance_token true (decimal_number ys)) lt o refl refl (λ cs. refl)
    (ap (distance_token true) (decimal_read n lt))

-- ---- marks

unfoldable pub is_clean_punctuation : ℕ → Bool
is_clean_punctuation c = nat_lt c 128 && (not (is_name_character c) && (not (is_blank c) && (not (c == 35) && not (c == 46))))

pub record IsCleanMark (c : ℕ) : Type 0 where
  pub ascii : nat_lt c 128 ≡ true
  pub no_name : is_name_character c ≡ false
  pub no_blank : is_blank c ≡ false
  pub no_number : (c == 35) ≡ false
  pub no_dot : (c == 46) ≡ false

pub clean_punctuation : (c : ℕ) → is_clean_punctuation c ≡ true → IsCleanMark c
unfolding is_clean_punctuation
clean_punctuation c e =
    let p = and_parts (nat_lt c 128) _ e in
    let q = and_parts (not (is_name_character c)) _ p.1 in
    let r = and_parts (not (is_blank c)) _ q.1 in
    let s = and_parts (not (c == 35)) (not (c == 46)) r.1 in
    record {
      ascii = p.0;
      no_name = not-true _ q.0;
      no_blank = not-true _ r.0;
      no_number = not-true _ s.0;
      no_dot = not-true _ s.1;
    }

pub character-is-read : (c : ℕ) (rest : List ℕ) → is_clean_punctuation c ≡ true → IsRead (c == 47) (c ∷ []) rest (Punctuation c)
unfolding read_token read_character
character-is-read c rest e =
    let m = clean_punctuation c e in
    record {
      first = c;
      others = [];
      whole = refl;
      no_blank = m.no_blank;
      plain = λ e. and_from (no_slash c) true (not_from_false _ e) refl;
      reads =
          cond-false (c == 35) _ _ m.no_number ∙ cond-false ((c == 46) && has_sign rest) _ _ (ap (λ b. b && has_sign rest) m.no_dot)
          ∙ cond-false (is_name_character c) _ _ m.no_name ∙ cond-true (nat_lt c 128) _ _ m.ascii;
    }
