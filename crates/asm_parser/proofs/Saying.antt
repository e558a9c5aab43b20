-- What the tokens of a text say, one token after another.
use Rattle.std.proofs.Common.{◌≡◌, ℕ, suc, ◌+◌, true, false, List, [], ◌∷◌, ◌++◌, Option, Some, None, Ok, Err, Result, map, cond, refl, sym}
use Rattle.std.proofs.Common.{ap, ◌∙◌, arith, append_assoc}
use Rattle.std.proofs.lemmas.List.{append-nil, map-append}
use Rattle.asm_tokens.specs.declared.token.Lexeme.{Lexeme}
use Rattle.asm_operands.specs.declared.fault.FaultKind.{FaultKind}
use Rattle.asm_operands.specs.declared.fault.FaultKind.TheVariants.{BadNumber, Extra, BadOperand}
use Rattle.asm_tokens.specs.Tokens.{is_name, is_number_token}
use Rattle.asm_parser.specs.declared.parse_fault.ParseFault.{ParseFault}
use Rattle.asm_parser.specs.declared.parse_fault.ParseFault.TheVariants.{Syntax, Memory}
use Rattle.asm_parser.specs.Lines.{Answer, Tells, Stops, and_then, further, ends, no_number, number_up_to, number_then_end, one_number}
use Rattle.asm_parser.specs.Lines.{one_name, text_of_lexeme, cons_answer, is_comma_token, value_or_fault, values_from}
use Rattle.asm_parser.specs.Told.{located, lexemes_from, said_from, FaultsAs, before}

-- the tokens from a place on are this one and those from its end on
abbrev pub First : List ℕ → ℕ → Lexeme → Type 0
First text at l = lexemes_from text at ≡ l ∷ lexemes_from text l.end

module _ {A : Type 0} where
  further-located : (l : Lexeme) (ls : List Lexeme) (answer : Answer A) → located (l ∷ ls) (further 1 answer) ≡ located ls answer
  unfolding located
  further-located l ls (Tells a) = refl
  further-located l ls (Stops index kind) =
      let e : 1 + index ≡ suc index = omega arith in
      ap (λ n. located {A = A} (l ∷ ls) (Stops n kind)) e

  pub said-empty : (says : List Lexeme → Answer A) (text : List ℕ) (at : ℕ) → lexemes_from text at ≡ []
      → said_from says text at ≡ located [] (says [])
  unfolding said_from
  said-empty says text at e = ap (λ ls. located ls (says ls)) e

  -- the first token says all
  pub said-stops : (says : List Lexeme → Answer A) (text : List ℕ) (at : ℕ) (l : Lexeme) (kind : FaultKind) → First text at l
      → says (l ∷ lexemes_from text l.end) ≡ Stops 0 kind → said_from says text at ≡ Err (Syntax (Some l.start) kind)
  unfolding said_from located
  said-stops says text at l kind e s = ap (λ ls. located ls (says ls)) e ∙ ap (λ answer. located (l ∷ lexemes_from text l.end) answer) s

  -- the others say the rest
  pub said-goes : (says : List Lexeme → Answer A) (next : List Lexeme → Answer A) (text : List ℕ) (at : ℕ) (l : Lexeme) → First text at l
      → says (l ∷ lexemes_from text l.end) ≡ further 1 (next (lexemes_from text l.end)) → said_from says text at ≡ said_from next text l.end
  unfolding said_from
  said-goes says next text at l e s =
      ap (λ ls. located ls (says ls)) e ∙ ap (λ answer. located (l ∷ lexemes_from text l.end) answer) s
      ∙ further-located l (lexemes_from text l.end) (next (lexemes_from text l.end))

  -- ---- nothing follows

  pub ends-none : (a : A) (text : List ℕ) (at : ℕ) → lexemes_from text at ≡ [] → said_from (ends a) text at ≡ Ok a
  unfolding ends located
  ends-none a text at e = said-empty (ends a) text at e

  pub ends-some : (a : A) (text : List ℕ) (at : ℕ) (l : Lexeme) → First text at l
      → said_from (ends a) text at ≡ Err (Syntax (Some l.start) Extra)
  unfolding ends
  ends-some a text at l e = said-stops (ends a) text at l Extra e refl

-- ---- values

module _ {A : Type 0} (value : Lexeme → Option A) where
  pub values-empty : (text : List ℕ) (at : ℕ) → lexemes_from text at ≡ []
      → said_from (values_from value true) text at ≡ Err (Syntax None BadOperand)
  unfolding values_from located
  values-empty text at e = said-empty (values_from value true) text at e

  pub values-bad : (text : List ℕ) (at : ℕ) (l : Lexeme) → First text at l → None ≡ value l
      → said_from (values_from value true) text at ≡ Err (Syntax (Some l.start) (cond (is_number_token l.token) BadNumber BadOperand))
  unfolding values_from no_number
  values-bad text at l e none =
      said-stops (values_from value true) text at l _ e
      (ap (λ o. value_or_fault value l.token (λ b. further 1 (cons_answer b (values_from value false (lexemes_from text l.end)))) o)
      (sym none))

  located-cons : (a : A) (ls : List Lexeme) (answer : Answer (List A))
      → located ls (cons_answer a answer) ≡ before (a ∷ []) (located ls answer)
  unfolding located
  located-cons a ls (Tells rest) = refl
  located-cons a ls (Stops index kind) = refl

  pub values-some : (text : List ℕ) (at : ℕ) (l : Lexeme) (a : A) → First text at l → Some a ≡ value l
      → said_from (values_from value true) text at ≡ before (a ∷ []) (said_from (values_from value false) text l.end)
  unfolding values_from said_from
  values-some text at l a e some =
      said-goes (values_from value true) (λ ls. cons_answer a (values_from value false ls)) text at l e
      (ap (λ o. value_or_fault value l.token (λ b. further 1 (cons_answer b (values_from value false (lexemes_from text l.end)))) o)
      (sym some))
      ∙ located-cons a (lexemes_from text l.end) (values_from value false (lexemes_from text l.end))

  pub values-end : (text : List ℕ) (at : ℕ) → lexemes_from text at ≡ [] → said_from (values_from value false) text at ≡ Ok []
  unfolding values_from located
  values-end text at e = said-empty (values_from value false) text at e

  pub values-comma : (text : List ℕ) (at : ℕ) (l : Lexeme) → First text at l → true ≡ is_comma_token l.token
      → said_from (values_from value false) text at ≡ said_from (values_from value true) text l.end
  unfolding values_from
  values-comma text at l e comma =
      said-goes (values_from value false) (values_from value true) text at l e
      (ap (λ b. cond b (further 1 (values_from value true (lexemes_from text l.end))) (Stops 0 Extra)) (sym comma))

  pub values-extra : (text : List ℕ) (at : ℕ) (l : Lexeme) → First text at l → false ≡ is_comma_token l.token
      → said_from (values_from value false) text at ≡ Err (Syntax (Some l.start) Extra)
  unfolding values_from
  values-extra text at l e comma =
      said-stops (values_from value false) text at l Extra e
      (ap (λ b. cond b (further 1 (values_from value true (lexemes_from text l.end))) (Stops 0 Extra)) (sym comma))

-- ---- values before others

module _ {A : Type 0} where
  pub before-none : (said : Result (List A) ParseFault) → before [] said ≡ said
  before-none (Ok others) = refl
  before-none (Err fault) = refl

  pub before-more : (values : List A) (a : A) (said : Result (List A) ParseFault)
      → before values (before (a ∷ []) said) ≡ before (values ++ (a ∷ [])) said
  before-more values a (Ok others) = ap Ok (sym (append_assoc values (a ∷ []) others))
  before-more values a (Err fault) = refl

-- ---- one number and one name

pub number-empty : (most : ℕ) (text : List ℕ) (at : ℕ) → lexemes_from text at ≡ []
    → said_from (one_number most) text at ≡ Err (Syntax None BadOperand)
unfolding one_number located
number-empty most text at e = said-empty (one_number most) text at e

pub number-bad : (most : ℕ) (text : List ℕ) (at : ℕ) (l : Lexeme) → First text at l → None ≡ number_up_to most l.token
    → said_from (one_number most) text at ≡ Err (Syntax (Some l.start) (cond (is_number_token l.token) BadNumber BadOperand))
unfolding one_number no_number
number-bad most text at l e none =
    said-stops (one_number most) text at l _ e (ap (λ o. number_then_end l.token o (lexemes_from text l.end)) (sym none))

pub number-some : (most : ℕ) (text : List ℕ) (at : ℕ) (l : Lexeme) (n : ℕ) → First text at l → Some n ≡ number_up_to most l.token
    → said_from (one_number most) text at ≡ said_from (ends n) text l.end
unfolding one_number
number-some most text at l n e some =
    said-goes (one_number most) (ends n) text at l e (ap (λ o. number_then_end l.token o (lexemes_from text l.end)) (sym some))

pub name-empty : (line text : List ℕ) (at : ℕ) → lexemes_from text at ≡ []
    → said_from (one_name line) text at ≡ Err (Syntax None BadOperand)
unfolding one_name located
name-empty line text at e = said-empty (one_name line) text at e

pub name-bad : (line text : List ℕ) (at : ℕ) (l : Lexeme) → First text at l → false ≡ is_name l.token
    → said_from (one_name line) text at ≡ Err (Syntax (Some l.start) BadOperand)
unfolding one_name
name-bad line text at l e other =
    said-stops (one_name line) text at l BadOperand e
    (ap (λ b. cond b (further 1 (ends (text_of_lexeme line l) (lexemes_from text l.end))) (Stops 0 BadOperand)) (sym other))

pub name-some : (line text : List ℕ) (at : ℕ) (l : Lexeme) → First text at l → true ≡ is_name l.token
    → said_from (one_name line) text at ≡ said_from (ends (text_of_lexeme line l)) text l.end
unfolding one_name
name-some line text at l e name =
    said-goes (one_name line) (ends (text_of_lexeme line l)) text at l e
    (ap (λ b. cond b (further 1 (ends (text_of_lexeme line l) (lexemes_from text l.end))) (Stops 0 BadOperand)) (sym name))

-- ---- where nothing follows one value nothing follows another

module _ {A B : Type 0} (a : A) (b : B) where
  ends_ok : (ls : List Lexeme) → located ls (ends a ls) ≡ Ok a → located ls (ends b ls) ≡ Ok b
  unfolding located ends
  ends_ok [] e = refl
  ends_ok (l ∷ ls) e = cc

  pub ends-ok : (text : List ℕ) (at : ℕ) → said_from (ends a) text at ≡ Ok a → said_from (ends b) text at ≡ Ok b
  unfolding said_from
  ends-ok text at e = ends_ok (lexemes_from text at) e

  ends_err : (ls : List Lexeme) (fault : ParseFault) → located ls (ends a ls) ≡ Err fault → located ls (ends b ls) ≡ Err fault
  unfolding located ends
  ends_err [] fault e = cc
  ends_err (l ∷ ls) fault e = cc

  pub ends-err : (text : List ℕ) (at : ℕ) (fault : ParseFault) → said_from (ends a) text at ≡ Err fault
      → said_from (ends b) text at ≡ Err fault
  unfolding said_from
  ends-err text at fault e = ends_err (lexemes_from text at) fault e

-- ---- what is made of an answer

module _ {A B : Type 0} (make : A → B) where
  made_ok : (ls : List Lexeme) (answer : Answer A) (a : A) → located ls answer ≡ Ok a → located ls (and_then make answer) ≡ Ok (make a)
  unfolding located
  made_ok ls (Tells b) a e = let same : b ≡ a = cc in ap (λ x. Ok (make x)) same
  made_ok ls (Stops index kind) a e = cc

  made_err : (ls : List Lexeme) (answer : Answer A) (fault : ParseFault) → located ls answer ≡ Err fault
      → located ls (and_then make answer) ≡ Err fault
  unfolding located
  made_err ls (Tells b) fault e = cc
  made_err ls (Stops index kind) fault e = cc

  pub made-ok : (says : List Lexeme → Answer A) (text : List ℕ) (at : ℕ) (a : A) → said_from says text at ≡ Ok a
      → said_from (λ ls. and_then make (says ls)) text at ≡ Ok (make a)
  unfolding said_from
  made-ok says text at a e = made_ok (lexemes_from text at) (says (lexemes_from text at)) a e

  pub made-err : (says : List Lexeme → Answer A) (text : List ℕ) (at : ℕ) (fault : ParseFault) → said_from says text at ≡ Err fault
      → said_from (λ ls. and_then make (says ls)) text at ≡ Err fault
  unfolding said_from
  made-err says text at fault e = made_err (lexemes_from text at) (says (lexemes_from text at)) fault e

-- a fault that is passed on
pub passes_on : {A B : Type 0} (said : Result A ParseFault) (other : Result B ParseFault) (fault : ParseFault)
    → ((s : ParseFault) → said ≡ Err s → other ≡ Err s)
    → FaultsAs fault said → FaultsAs fault other
passes_on said other Memory same e = tt
passes_on said other (Syntax start kind) same e = same (Syntax start kind) e

-- ---- a list that is read so far

module _ {T A : Type 0} (seen : T → A) (value : Lexeme → Option A) where
  -- one more value
  pub listed-more : (text : List ℕ) (from end : ℕ) (old new : List T) (v : T) (whole : Result (List A) ParseFault)
      → before (map seen old) (said_from (values_from value true) text from) ≡ whole
      → said_from (values_from value true) text from ≡ before (seen v ∷ []) (said_from (values_from value false) text end)
      → new ≡ old ++ (v ∷ []) → before (map seen new) (said_from (values_from value false) text end) ≡ whole
  listed-more text from end old new v whole so_far here push =
      ap (λ (xs : List T). before (map seen xs) (said_from (values_from value false) text end)) push
      ∙ ap (λ (xs : List A). before xs (said_from (values_from value false) text end)) (map-append seen old (v ∷ []))
      ∙ sym (before-more (map seen old) (seen v) (said_from (values_from value false) text end))
      ∙ ap (λ said. before (map seen old) said) (sym here) ∙ so_far

  -- the list ends
  pub listed-end : (text : List ℕ) (end : ℕ) (items : List T) (whole : Result (List A) ParseFault)
      → before (map seen items) (said_from (values_from value false) text end) ≡ whole → lexemes_from text end ≡ []
      → whole ≡ Ok (map seen items)
  listed-end text end items whole so_far none =
      sym so_far ∙ ap (λ said. before (map seen items) said) (values-end value text end none) ∙ ap Ok (append-nil (map seen items))

  pub listed-extra : (text : List ℕ) (end : ℕ) (items : List T) (whole : Result (List A) ParseFault) (l : Lexeme)
      → before (map seen items) (said_from (values_from value false) text end) ≡ whole → First text end l → false ≡ is_comma_token l.token
      → whole ≡ Err (Syntax (Some l.start) Extra)
  listed-extra text end items whole l so_far first other =
      sym so_far ∙ ap (λ said. before (map seen items) said) (values-extra value text end l first other)

  pub listed-comma : (text : List ℕ) (end : ℕ) (items : List T) (whole : Result (List A) ParseFault) (l : Lexeme)
      → before (map seen items) (said_from (values_from value false) text end) ≡ whole → First text end l → true ≡ is_comma_token l.token
      → before (map seen items) (said_from (values_from value true) text l.end) ≡ whole
  listed-comma text end items whole l so_far first comma =
      ap (λ said. before (map seen items) said) (sym (values-comma value text end l first comma)) ∙ so_far
