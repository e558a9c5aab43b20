-- A line is what the grammar says, and its fault stands where the grammar goes no further.
use Rattle.std.proofs.Common.{◌≡◌, ℕ, suc, ◌+◌, ◌-◌, ◌<◌, ◌≤◌, inl, inr, append_assoc, Bool, true, false, cond, List, [], ◌∷◌, ◌++◌, Option}
use Rattle.std.proofs.Common.{Some, None, Result, Ok, Err, take, drop, map, slice_get, refl, sym, ap, ap₂, ◌∙◌, subst, arith}
use Rattle.std.specs.Prelude.{◌≢◌, IfOk, IfErr, option_map}
use Rattle.std.proofs.lemmas.List.{take-append-drop}
use Rattle.std.proofs.lemmas.Bool.{cases_lt}
use Rattle.std.proofs.Math.Seq.{take-add}
use Rattle.std.proofs.lemmas.Option.{slice_get-map, slice_get_within}
use Rattle.plain_lemmas.proofs.Options.{same_Err, same_Ok}
use Rattle.insn_text.specs.declared.keywords.TheConstants.{MNEMONICS}
use Rattle.asm_tokens.specs.declared.token.Lexeme.{Lexeme}
use Rattle.asm_tokens.specs.Characters.{before_comment}
use Rattle.asm_tokens.specs.Tokens.{index_in, is_name, is_number_token}
use Rattle.asm_operands.specs.declared.fault.FaultKind.{FaultKind}
use Rattle.asm_operands.specs.declared.fault.FaultKind.TheVariants.{UnknownName, BadNumber, Extra, BadOperand}
use Rattle.asm_parser.specs.declared.line.Line.{Line}
use Rattle.asm_parser.specs.declared.line.LineFault.{LineFault}
use Rattle.asm_parser.specs.declared.line.LineFault.TheVariants.{Memory}
use Rattle.asm_parser.specs.Statements.{Says, Nothing, Codes, Instruction, SupportRoutines, CallTail}
use Rattle.asm_parser.specs.Statements.{SourceLine, line_said}
use Rattle.asm_parser.specs.Lines.{Answer, Tells, Stops, text_of_lexeme, Directive, directive_of}
use Rattle.asm_parser.specs.Lines.{named_says, tokens_say, column_of, fault_of_kind, line_answer, line_lexemes, label_of, line_of}
use Rattle.asm_parser.specs.Grammar.{Written, written, written_of, IsWritten, IsMeaning, IsLine, GoesOn, IsWhy}
use Rattle.asm_parser.specs.Grammar.{StopsAt, IsFirstFault, IsLineWhy, IsReason, is_leading_name, column_of_written, IsFaultOf}
use Rattle.asm_parser.proofs.Tied.{no_number_name}
use Rattle.asm_parser.proofs.Following.{said_directive, directive_is, leads_name, IsTold, directive_told}
use Rattle.asm_parser.proofs.Instructing.{instruction_told}

-- ---- the tokens

nothing_only : (says : Says) → IsWritten says [] → Nothing ≡ says
unfolding IsWritten
nothing_only Nothing h = refl
nothing_only (Codes (Instruction word target) column) h = let e = h.all in cc
nothing_only (Codes SupportRoutines column) h = let e = h.all in cc
nothing_only (Codes CallTail column) h = let e = h.all in cc
nothing_only says h = let e = h.all in cc

no_number : (t : Written) (xs : List Written) (says : Says) → is_number_token t.token ≡ true → IsWritten says (t ∷ xs) → ⊥
no_number t xs says n h = no_number_name t.token n (leads_name says t xs h)

other_why : (t : Written) (b : Bool) → is_name t.token ≡ b → b ≡ false → IsReason b [] (Some t) Extra
unfolding IsWritten
other_why t true e f = cc
other_why t false e f = ((λ n w. no_number w.0 w.2.0 w.2.1 w.1 w.2.2), (Nothing, refl))

other_told : (t : Written) (xs : List Written) → is_name t.token ≡ false → IsTold (Stops 0 Extra) (t ∷ xs)
unfolding IsWritten
other_told t xs e = record {
  goes_on = ([], Nothing, refl);
  stops = λ g. let n = leads_name g.1 t g.0 g.2 in let clash : false ≡ true = sym e ∙ n in cc;
  why = other_why t (is_name t.token) refl e;
}

unknown_why : (t : Written) (b : Bool) → b ≡ true → IsReason b [] (Some t) UnknownName
unknown_why t true e = refl
unknown_why t false e = cc

no_statement : (says : Says) (t : Written) (xs : List Written) → directive_of t.text ≡ None → index_in MNEMONICS t.text ≡ None
    → IsWritten says (t ∷ xs) → ⊥
unfolding said_directive IsWritten
no_statement Nothing t xs d p h = cc
no_statement (Codes (Instruction word target) column) t xs d p h =
    let same : h.first ≡ t = (let e = h.all in cc) in
    let clash : None ≡ Some h.name = sym p ∙ ap (λ (u : Written). index_in MNEMONICS u.text) (sym same) ∙ h.listed in
    cc
no_statement (Codes SupportRoutines column) t xs d p h = let e = directive_is (Codes SupportRoutines column) t xs h in cc
no_statement (Codes CallTail column) t xs d p h = let e = directive_is (Codes CallTail column) t xs h in cc
no_statement says t xs d p h = let e = directive_is says t xs h in cc

unknown_told : (t : Written) (xs : List Written) → is_name t.token ≡ true → directive_of t.text ≡ None → index_in MNEMONICS t.text ≡ None
    → IsTold (Stops 0 UnknownName) (t ∷ xs)
unfolding IsWritten
unknown_told t xs n d p = record {
  goes_on = ([], Nothing, refl);
  stops = λ g. no_statement g.1 t g.0 d p g.2;
  why = unknown_why t (is_name t.token) n;
}

named_told : (line : List ℕ) (l : Lexeme) (ls : List Lexeme) (d : Option Directive) (p : Option ℕ) → is_name l.token ≡ true
    → directive_of (text_of_lexeme line l) ≡ d → index_in MNEMONICS (text_of_lexeme line l) ≡ p
    → IsTold (named_says line l ls d p) (map (written line) (l ∷ ls))
named_told line l ls (Some d) p n e f = directive_told line l ls d n e
named_told line l ls None (Some name) n e f = instruction_told line l ls name n f
named_told line l ls None None n e f = unknown_told (written line l) (map (written line) ls) n e f

name_told : (line : List ℕ) (l : Lexeme) (ls : List Lexeme) (b : Bool) → is_name l.token ≡ b
    → IsTold (cond b (named_says line l ls (directive_of (text_of_lexeme line l)) (index_in MNEMONICS (text_of_lexeme line l)))
    (Stops 0 Extra))
    (map (written line) (l ∷ ls))
name_told line l ls true e =
    named_told line l ls (directive_of (text_of_lexeme line l)) (index_in MNEMONICS (text_of_lexeme line l)) e refl refl
name_told line l ls false e = other_told (written line l) (map (written line) ls) e

tokens_told : (line : List ℕ) (ls : List Lexeme) → IsTold (tokens_say line ls) (map (written line) ls)
unfolding tokens_say IsWritten
tokens_told line [] = (refl, tt, nothing_only)
tokens_told line (l ∷ ls) = name_told line l ls (is_name l.token) refl

-- ---- lines

no_line : (ts : List Written) (index : ℕ) (kind : FaultKind) (says : Says) (o : Option Written) → slice_get ts index ≡ o
    → StopsAt IsWritten IsMeaning ts index o → IsWritten says ts → IsMeaning says → ⊥
no_line ts index kind says (Some t) e s h m =
    s (drop (suc index) ts, says, subst (IsWritten says) (sym (take-append-drop (suc index) ts)) h)
no_line ts index kind says None e s h m = s.1 says h m

column_is : (line : List ℕ) (o : Option Lexeme) → column_of line o ≡ column_of_written line (option_map (written line) o)
column_is line None = refl
column_is line (Some l) = refl

module _ (line : List ℕ) where
  abbrev ls : List Lexeme
  ls = line_lexemes line

  abbrev label : Option (List ℕ)
  label = label_of (before_comment line)

  told : IsTold (tokens_say line ls) (written_of line)
  unfolding written_of
  told = tokens_told line ls

  answer_line : (answer : Answer Says) (said : SourceLine) → IsTold answer (written_of line) → line_answer line label ls answer ≡ Ok said
      → IsLine line said
  answer_line (Tells says) said h e =
      let same = same_Ok (record { label = label; says = says }) said e in
      subst (IsLine line) same (record { label = refl; tokens = h.0; meaning = h.1 })
  answer_line (Stops index kind) said h e = cc

  pub line_says : (said : SourceLine) → line_of line ≡ Ok said → IsLine line said
  unfolding line_of
  line_says said e = answer_line (tokens_say line ls) said told e

  answer_only : (answer : Answer Says) (said : SourceLine) → IsTold answer (written_of line) → IsLine line said
      → line_answer line label ls answer ≡ Ok said
  answer_only (Tells says) said h l =
      let same = h.2 said.says l.tokens in
      λ i. Ok (record { label = sym l.label i; says = same i })
  answer_only (Stops index kind) said h l =
      absurd (no_line (written_of line) index kind said.says (slice_get (written_of line) index) refl h.stops l.tokens l.meaning)

  pub line_only : (said : SourceLine) → IsLine line said → line_of line ≡ Ok said
  unfolding line_of
  line_only said l = answer_only (tokens_say line ls) said told l

  answer_fault : (answer : Answer Says) (fault : LineFault) → IsTold answer (written_of line) → line_answer line label ls answer ≡ Err fault
      → IsFaultOf line fault
  unfolding written_of
  answer_fault (Tells says) fault h e = cc
  answer_fault (Stops index kind) fault h e = record {
    index = index;
    kind = kind;
    first = h;
    fault_is =
        sym (same_Err _ fault e) ∙ ap (fault_of_kind kind)
        (column_is line (slice_get ls index) ∙ ap (column_of_written line) (sym (slice_get-map (written line) ls index)));
  }

  pub line_fault : (fault : LineFault) → line_of line ≡ Err fault → IsFaultOf line fault
  unfolding line_of
  line_fault fault e = answer_fault (tokens_say line ls) fault told e

-- ---- a line has one fault

whys_one : (ts : List Written) (o : Option Written) (p q : FaultKind) → IsWhy IsWritten ts o p → IsWhy IsWritten ts o q → p ≡ q
whys_one ts (Some t) BadNumber BadNumber h g = refl
whys_one ts (Some t) BadNumber Extra h g = absurd (g.0 h.0 h.1)
whys_one ts (Some t) BadNumber BadOperand h g = absurd (g.0 h.0 h.1)
whys_one ts (Some t) Extra BadNumber h g = absurd (h.0 g.0 g.1)
whys_one ts (Some t) Extra Extra h g = refl
whys_one ts (Some t) Extra BadOperand h g = absurd (g.1 h.1)
whys_one ts (Some t) BadOperand BadNumber h g = absurd (h.0 g.0 g.1)
whys_one ts (Some t) BadOperand Extra h g = absurd (h.1 g.1)
whys_one ts (Some t) BadOperand BadOperand h g = refl
whys_one ts (Some t) UnknownName q h g = absurd h
whys_one ts (Some t) p UnknownName h g = absurd g
whys_one ts None BadOperand BadOperand h g = refl
whys_one ts None BadOperand UnknownName h g = absurd g
whys_one ts None BadOperand BadNumber h g = absurd g
whys_one ts None BadOperand Extra h g = absurd g
whys_one ts None UnknownName q h g = absurd h
whys_one ts None BadNumber q h g = absurd h
whys_one ts None Extra q h g = absurd h

reasons_one : (b : Bool) (ts : List Written) (o : Option Written) (p q : FaultKind) → IsReason b ts o p → IsReason b ts o q → p ≡ q
reasons_one true ts o p q h g = h ∙ sym g
reasons_one false ts o p q h g = whys_one ts o p q h g

abbrev Fails : List Written → ℕ → FaultKind → Type 0
Fails ts index kind = IsFirstFault IsWritten IsMeaning IsLineWhy ts index kind

front_goes : (ts : List Written) (m n : ℕ) → m ≤ n → GoesOn IsWritten (take n ts) → GoesOn IsWritten (take m ts)
front_goes ts m n le g =
    let parts : take n ts ≡ take m ts ++ take (n - m) (drop m ts) =
    ap (λ k. take k ts) (let e : n ≡ m + (n - m) = omega arith in e) ∙ take-add m (n - m) ts in
    let joined : take n ts ++ g.0 ≡ take m ts ++ (take (n - m) (drop m ts) ++ g.0) =
    ap (λ us. us ++ g.0) parts ∙ append_assoc (take m ts) (take (n - m) (drop m ts)) g.0 in
    (take (n - m) (drop m ts) ++ g.0, g.1, subst (IsWritten g.1) joined g.2)

-- a fault stands at no place past another's
fault_low : (ts : List Written) (m n : ℕ) (p q : FaultKind) (o r : Option Written) → slice_get ts m ≡ o → slice_get ts n ≡ r
    → StopsAt IsWritten IsMeaning ts m o → StopsAt IsWritten IsMeaning ts n r → GoesOn IsWritten (take n ts) → m < n → ⊥
fault_low ts m n p q (Some t) r e f s u g lt = s (front_goes ts (suc m) n (omega arith) g)
fault_low ts m n p q None (Some t) e f s u g lt = let a = slice_get_within ts n t f in let b = s.0 in omega arith
fault_low ts m n p q None None e f s u g lt = let a = u.0 in let b = s.0 in omega arith

one_index : (ts : List Written) (m n : ℕ) (p q : FaultKind) → Fails ts m p → Fails ts n q → m ≡ n
one_index ts m n p q h g =
    let low = fault_low ts m n p q (slice_get ts m) (slice_get ts n) refl refl h.stops g.stops g.goes_on in
    let high = fault_low ts n m q p (slice_get ts n) (slice_get ts m) refl refl g.stops h.stops h.goes_on in
    elim (cases_lt m n) [
      | inl lt ↦ absurd (low lt)
      | inr le ↦ elim (cases_lt n m) [ inl lt ↦ absurd (high lt) | inr ge ↦ omega arith ]
    ]

one_kind : (ts : List Written) (m n : ℕ) (p q : FaultKind) → m ≡ n → Fails ts m p → Fails ts n q → p ≡ q
one_kind ts m n p q e h g =
    let f = subst (λ k. Fails ts k p) e h in
    reasons_one (is_leading_name (take n ts) (slice_get ts n)) (take n ts) (slice_get ts n) p q f.why g.why

fault_only_by : (line : List ℕ) (answer : Answer Says) (fault : LineFault) → IsTold answer (written_of line) → IsFaultOf line fault
    → line_answer line (label line) (ls line) answer ≡ Err fault
unfolding written_of
fault_only_by line (Tells says) fault h f =
    absurd (no_line (written_of line) f.index f.kind says (slice_get (written_of line) f.index) refl f.first.stops h.0 h.1)
fault_only_by line (Stops index kind) fault h f =
    let index_is = one_index (written_of line) index f.index kind f.kind h f.first in
    let kind_is = one_kind (written_of line) index f.index kind f.kind index_is h f.first in
    let column : column_of line (slice_get (ls line) index) ≡ column_of_written line (slice_get (written_of line) f.index) =
    column_is line (slice_get (ls line) index)
    ∙ ap (column_of_written line) (sym (slice_get-map (written line) (ls line) index) ∙ ap (slice_get (written_of line)) index_is) in
    ap Err (ap₂ fault_of_kind kind_is column ∙ sym f.fault_is)

pub fault_only : (line : List ℕ) (fault : LineFault) → IsFaultOf line fault → line_of line ≡ Err fault
unfolding line_of
fault_only line fault f = fault_only_by line (tokens_say line (ls line)) fault (told line) f

-- ---- a parsed line

pub parsed_line : (bytes text : List ℕ) (result : Result Line LineFault) → bytes ≡ text
    → IfOk result (λ l. line_of bytes ≡ Ok (line_said l)) → IfOk result (λ l. IsLine text (line_said l))
parsed_line bytes text (Ok l) e h = line_says text (line_said l) (ap line_of (sym e) ∙ h)
parsed_line bytes text (Err fault) e h = tt

pub parsed_fault : (bytes text : List ℕ) (result : Result Line LineFault) → bytes ≡ text
    → IfErr result (λ fault. fault ≢ Memory → line_of bytes ≡ Err fault) → IfErr result (λ fault. fault ≢ Memory → IsFaultOf text fault)
parsed_fault bytes text (Ok l) e h = tt
parsed_fault bytes text (Err fault) e h = λ other. line_fault text fault (ap line_of (sym e) ∙ h other)
