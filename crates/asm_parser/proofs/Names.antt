-- Names of directives and of instructions.
use Rattle.std.proofs.Common.{◌≡◌, ℕ, ◌+◌, ◌-◌, ◌<◌, ◌≤◌, Bool, true, false, not, ◌&&◌, ◌==◌, nat_lt, List, [], ◌∷◌, Option, Some, None, Ok}
use Rattle.std.proofs.Common.{Err, length, take, drop, get_or, refl, sym, ap, ap₂, ◌∙◌, arith, length-drop}
use Rattle.std.specs.Prelude.{Result, IfErr}
use Rattle.std.proofs.lemmas.Bool.{cond_both, cond-true, cond-false}
use Rattle.std.proofs.lemmas.List.{drop_more, drop-take, take-take, length-take}
use Rattle.std.proofs.lemmas.List.Sums.{prefix_len-le-length}
use Rattle.insn_text.specs.declared.keywords.TheConstants.{MNEMONICS, KEYWORDS}
use Rattle.insn_text.specs.declared.item.VectorFile.{VectorFile}
use Rattle.insn_text.specs.declared.item.RegisterFile.{RegisterFile}
use Rattle.asm_tokens.specs.declared.token.Lexeme.{Lexeme}
use Rattle.asm_tokens.specs.declared.token.Token.{Token}
use Rattle.asm_tokens.specs.declared.token.Token.TheVariants.{Register, Sized}
use Rattle.asm_tokens.specs.Characters.{is_blank, is_digit, is_name_character, front, column_at, starts_comment, before_comment}
use Rattle.asm_tokens.specs.Tokens.{Read, run, begins_name, has_sign, name_token, token_or, register_of, register_in, token_of_name}
use Rattle.asm_tokens.specs.Tokens.{file_size, has_suffix, sized_of, sized_after, begins_za, sized_in}
use Rattle.asm_tokens.specs.Tokens.{number_token, distance_token, bare_token, index_in, read_number, read_distance, read_run}
use Rattle.asm_tokens.specs.Tokens.{read_character, read_token, lexeme_at, is_name}
use Rattle.asm_tokens.proofs.Steps.{take_front, front-length}
use Rattle.asm_tokens.proofs.Following.{lexemes-skip, lexemes-none, lexemes-some}
use Rattle.asm_tokens.proofs.Naming.{named, first-name}
use Rattle.asm_operands.specs.declared.fault.FaultKind.TheVariants.{UnknownName, Extra}
use Rattle.asm_parser.specs.declared.parse_fault.ParseFault.{ParseFault}
use Rattle.asm_parser.specs.declared.parse_fault.ParseFault.TheVariants.{Syntax, Memory}
use Rattle.asm_parser.specs.Statements.{Nothing}
use Rattle.asm_parser.specs.Lines.{Answer, text_of_lexeme, Directive, is_of_list, if_of_list, begin_list, directive_of, directive_says}
use Rattle.asm_parser.specs.Lines.{instruction_says, named_says, tokens_say}
use Rattle.asm_parser.specs.Told.{located, lexemes_from, said_from}
use Rattle.asm_parser.proofs.Saying.{First, said-empty, said-stops, said-goes}

-- a directive's name begins with a dot
pub undotted : (name : List ℕ) → (get_or name 0 0 == 46) ≡ false → directive_of name ≡ None
unfolding directive_of
undotted [] e = refl
undotted (c ∷ cs) e = rw e refl

-- ---- which tokens are names

no_number_name : (negative : Bool) (o : Option ℕ) → is_name (number_token negative o) ≡ false
unfolding is_name number_token
no_number_name negative None = refl
no_number_name negative (Some n) = refl

no_distance_name : (back : Bool) (o : Option ℕ) → is_name (distance_token back o) ≡ false
unfolding is_name distance_token
no_distance_name back None = refl
no_distance_name back (Some n) = refl

no_bare_name : (o : Option ℕ) → is_name (bare_token o) ≡ false
unfolding is_name bare_token
no_bare_name None = refl
no_bare_name (Some n) = refl

name_is_name : (o : Option ℕ) → is_name (name_token o) ≡ true
unfolding is_name name_token
name_is_name None = refl
name_is_name (Some index) = refl

register_is_name : (file : Option RegisterFile) (number : Option ℕ) (t : Token) → is_name t ≡ true
    → is_name (token_or t (register_of file number)) ≡ true
unfolding is_name register_of
register_is_name None number t e = e
register_is_name (Some file) None t e = e
register_is_name (Some file) (Some number) t e =
    cond_both (nat_lt number 31) (Some (Register file number)) None (λ o. is_name (token_or t o) ≡ true) (λ _. refl) (λ _. e)

sized_of_is_name : (file : VectorFile) (number suffix : Option ℕ) (t : Token) → is_name t ≡ true
    → is_name (token_or t (sized_of file number suffix)) ≡ true
unfolding is_name sized_of
sized_of_is_name file None suffix t e = e
sized_of_is_name file (Some number) None t e = e
sized_of_is_name file (Some number) (Some suffix) t e =
    cond_both (nat_lt number (file_size file) && has_suffix file suffix) (Some (Sized file number suffix)) None
    (λ o. is_name (token_or t o) ≡ true) (λ _. refl) (λ _. e)

sized_after_is_name : (file : Option VectorFile) (cs : List ℕ) (t : Token) → is_name t ≡ true
    → is_name (token_or t (sized_after file cs)) ≡ true
unfolding sized_after
sized_after_is_name None cs t e = e
sized_after_is_name (Some file) cs t e = sized_of_is_name file _ _ t e

sized_is_name : (cs : List ℕ) (t : Token) → is_name t ≡ true → is_name (token_or t (sized_in cs)) ≡ true
unfolding sized_in
sized_is_name cs t e =
    cond_both (begins_za cs) _ _ (λ o. is_name (token_or t o) ≡ true) (λ _. sized_after_is_name _ _ t e)
    (λ _. sized_after_is_name _ _ t e)

token_is_name : (cs : List ℕ) → is_name (token_of_name cs) ≡ true
unfolding token_of_name register_in
token_is_name cs = register_is_name _ _ _ (sized_is_name cs (name_token (index_in KEYWORDS cs)) (name_is_name (index_in KEYWORDS cs)))

digit_first : (a d s : Bool) → (a && not d && not s) ≡ false → a ≡ true → s ≡ false → d ≡ true
digit_first true true s e f g = refl
digit_first true false true e f g = cc
digit_first true false false e f g = cc
digit_first false d s e f g = cc

abbrev NoName : Read → Type 0
NoName r = is_name r.token ≡ false

number_no_name : (cs : List ℕ) → NoName (read_number cs)
unfolding read_number
number_no_name cs = cond_both (get_or cs 0 0 == 45) _ _ NoName (λ _. no_number_name true _) (λ _. no_number_name false _)

character_no_name : (c : ℕ) (cs : List ℕ) → NoName (read_character c cs)
unfolding read_character is_name
character_no_name c cs = cond_both (nat_lt c 128) _ _ NoName (λ _. refl) (λ _. refl)

run_no_name : (c : ℕ) (cs : List ℕ) → is_digit c ≡ true → NoName (read_run (c ∷ cs))
unfolding read_run
run_no_name c cs e = ap is_name (cond-true (is_digit c) _ _ e) ∙ no_bare_name _

-- where no name begins, the token is none
pub no_name : (c : ℕ) (cs : List ℕ) → begins_name (c ∷ cs) ≡ false → is_name (read_token c cs).token ≡ false
unfolding begins_name read_token read_distance
no_name c cs e =
    cond_both (c == 35) _ _ NoName (λ _. number_no_name cs)
    (λ _. cond_both ((c == 46) && has_sign cs) _ _ NoName (λ _. no_distance_name _ _)
    (λ plain. cond_both (is_name_character c) _ _ NoName (λ name. run_no_name c cs (digit_first _ (is_digit c) _ e name plain))
    (λ _. character_no_name c cs)))

-- ---- the text before the comment is the first part of the line

comment-cut : (line : List ℕ) → before_comment line ≡ take (length (before_comment line)) line
unfolding before_comment
comment-cut [] = refl
comment-cut (c ∷ cs) =
    cond_both (starts_comment c cs) [] (c ∷ before_comment cs) (λ ys. ys ≡ take (length ys) (c ∷ cs)) (λ _. refl)
    (λ _. ap (λ ys. c ∷ ys) (comment-cut cs))

pub comment_le : (line : List ℕ) → length (before_comment line) ≤ length line
comment_le line = omega (arith, ap length (comment-cut line), length-take (length (before_comment line)) line)

-- a part of the text is that part of the line
part-same : (line : List ℕ) (start count : ℕ) → start + count ≤ length (before_comment line)
    → take count (drop start (before_comment line)) ≡ take count (drop start line)
part-same line start count le =
    let n = length (before_comment line) in
    let room : start + (n - start) ≡ n = omega arith in
    ap (λ ys. take count (drop start ys)) (comment-cut line) ∙ ap (λ m. take count (drop start (take m line))) (sym room)
    ∙ ap (λ ys. take count ys) (drop-take start (n - start) line) ∙ take-take count (n - start) (drop start line) (omega arith)

module _ (line text : List ℕ) (start : ℕ) (part : text ≡ before_comment line) (lt : start < length text)
    (name : begins_name (drop start text) ≡ true) where
  abbrev word : List ℕ
  word = run (drop start text)

  abbrev l : Lexeme
  l = lexeme_at start (named (drop start text))

  first : First text start l
  first = first-name text start lt name

  text-is : text_of_lexeme line l ≡ word
  unfolding text_of_lexeme
  text-is =
      let size : start + length word - start ≡ length word = omega arith in
      let within : start + length word ≤ length (before_comment line) =
      omega (
        arith,
        ap length part,
        front-length is_name_character (drop start text),
        prefix_len-le-length is_name_character (drop start text),
        length-drop start text,
      ) in
      ap (λ n. take n (drop start line)) size ∙ sym (part-same line start (length word) within)
      ∙ ap (λ ys. take (length word) (drop start ys)) (sym part) ∙ take_front is_name_character (drop start text)

  says-named : (d : Option Directive) (p : Option ℕ) → d ≡ directive_of word → p ≡ index_in MNEMONICS word
      → tokens_say line (l ∷ lexemes_from text l.end) ≡ named_says line l (lexemes_from text l.end) d p
  unfolding tokens_say
  says-named d p e f =
      cond-true _ _ _ (token_is_name word)
      ∙ ap (λ ys. named_says line l (lexemes_from text l.end) (directive_of ys) (index_in MNEMONICS ys)) text-is
      ∙ ap₂ (λ x y. named_says line l (lexemes_from text l.end) x y) (sym e) (sym f)

  pub named-directive : (d : Directive) → Some d ≡ directive_of word
      → said_from (tokens_say line) text start
      ≡ said_from (directive_says line (column_at line start) d) text (start + length word)
  named-directive d e =
      said-goes (tokens_say line) (directive_says line (column_at line start) d) text start l first (says-named (Some d) (index_in MNEMONICS word) e refl)

  pub named-instruction : (index : ℕ) → None ≡ directive_of word → Some index ≡ index_in MNEMONICS word
      → said_from (tokens_say line) text start ≡ said_from (instruction_says line index (column_at line start)) text (start + length word)
  named-instruction index e f =
      said-goes (tokens_say line) (instruction_says line index (column_at line start)) text start l first (says-named None (Some index) e f)

  -- a list follows the directive of the first token
  pub named-list : (d : Directive) → Some d ≡ directive_of word → is_of_list d ≡ true → begin_list line (lexemes_from text start) ≡ true
  unfolding begin_list
  named-list d e list =
      ap (begin_list line) first
      ∙ ap₂ (λ a b. a && if_of_list b) (token_is_name word) (ap directive_of text-is ∙ sym e)
      ∙ list

  pub named-unknown : None ≡ directive_of word → None ≡ index_in MNEMONICS word
      → said_from (tokens_say line) text start ≡ Err (Syntax (Some start) UnknownName)
  named-unknown e f = said-stops (tokens_say line) text start l UnknownName first (says-named None None e f)

-- a out of memory that is passed on
pub only_memory : {R : Type 0} (result : Result R ParseFault) (P Q : Type 0) → (P → Q) → IfErr result (λ fault. fault ≡ Memory → P)
    → IfErr result (λ fault. fault ≡ Memory → Q)
only_memory (Ok r) P Q f h = tt
only_memory (Err fault) P Q f h = λ e. f (h e)

-- ---- the first token after blanks

module _ (text : List ℕ) (at start : ℕ) (skips : start ≡ at + length (front is_blank (drop at text))) where
  pub said-skip : {A : Type 0} (says : List Lexeme → Answer A) → said_from says text start ≡ said_from says text at
  unfolding said_from
  said-skip says = ap (λ ls. located ls (says ls)) (sym (lexemes-skip text at start skips))

  pub said-nothing : (line : List ℕ) → length text ≤ start → said_from (tokens_say line) text at ≡ Ok Nothing
  unfolding tokens_say located
  said-nothing line le = said-empty (tokens_say line) text at (lexemes-none text at start skips le)

  pub said-other : (line : List ℕ) → start < length text → begins_name (drop start text) ≡ false
      → said_from (tokens_say line) text at ≡ Err (Syntax (Some start) Extra)
  unfolding tokens_say
  said-other line lt other =
      let c = get_or text start 0 in
      let cs = drop (start + 1) text in
      let l : Lexeme = lexeme_at start (read_token c cs) in
      said-stops (tokens_say line) text at l Extra (lexemes-some text at start skips lt)
      (cond-false (is_name (read_token c cs).token) _ _ (no_name c cs (ap begins_name (sym (drop_more text start 0 lt)) ∙ other)))
