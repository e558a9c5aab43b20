-- A line of the grammar aligns to 2 ^ 12 at most.
use Rattle.std.proofs.Common.{◌≡◌, ℕ, ◌-◌, ◌^◌, ◌≤◌, Bool, true, false, cond, List, [], ◌∷◌, Option, Some, None, Ok, nat_le, refl}
use Rattle.std.proofs.Common.{subst, leb-true}
use Rattle.std.proofs.lemmas.Option.{same_Some}
use Rattle.plain_lemmas.proofs.Options.{same_Ok}
use Rattle.insn_text.specs.declared.keywords.TheConstants.{MNEMONICS}
use Rattle.asm_tokens.specs.declared.token.Token.{Token}
use Rattle.asm_tokens.specs.declared.token.Token.TheVariants.{Bare}
use Rattle.asm_tokens.specs.declared.token.Lexeme.{Lexeme}
use Rattle.asm_tokens.specs.Characters.{column_at, before_comment}
use Rattle.asm_tokens.specs.Tokens.{index_in, is_name}
use Rattle.asm_operands.specs.declared.fault.FaultKind.TheVariants.{Extra}
use Rattle.asm_operands.specs.Operands.{OperandsSaid, operands_said}
use Rattle.asm_operands.specs.Operands as operands
use Rattle.asm_parser.specs.Statements.{Says, IntoText, IntoData, Quads, Words, Bytes, Zeros, Aligns, Globals, Codes, SupportRoutines, CallTail, SourceLine}
use Rattle.asm_parser.specs.Lines.{Answer, Tells, Stops, and_then, further, ends, no_number, number_up_to, number_then_end, one_number}
use Rattle.asm_parser.specs.Lines.{one_name, values_from, quad_value, number_value, Directive, TextDirective, DataDirective, QuadDirective}
use Rattle.asm_parser.specs.Lines.{WordDirective, ByteDirective, ZeroDirective, AlignDirective, GlobalDirective, AbiDirective, TailDirective, directive_of}
use Rattle.asm_parser.specs.Lines.{directive_says, instruction_or_fault, instruction_says, named_says, tokens_say, text_of_lexeme}
use Rattle.asm_parser.specs.Lines.{line_answer, line_lexemes, label_of, line_of}
use Rattle.asm_core.specs.Limits.{HasSmallAlign}

-- what an answer tells has a property
abbrev Told : {A : Type 0} → (A → Type 0) → Answer A → Type 0
Told P (Tells a) = P a
Told P (Stops index kind) = Unit {0}

further_told : {A : Type 0} (P : A → Type 0) (k : ℕ) (a : Answer A) → Told P a → Told P (further k a)
further_told P k (Tells a) h = h
further_told P k (Stops index kind) h = tt

made_told : {A : Type 0} (make : A → Says) → ((a : A) → HasSmallAlign (make a)) → (a : Answer A) → Told HasSmallAlign (and_then make a)
made_told make small (Tells a) = small a
made_told make small (Stops index kind) = tt

ends_told : {A : Type 0} (P : A → Type 0) (a : A) (ls : List Lexeme) → P a → Told P (ends a ls)
unfolding ends
ends_told P a [] h = h
ends_told P a (l ∷ ls) h = tt

up_to : (most n m : ℕ) (b : Bool) → nat_le n most ≡ b → cond b (Some n) None ≡ Some m → m ≤ most
up_to most n m true e h = subst (λ k. k ≤ most) (same_Some n m h) (leb-true n most e)
up_to most n m false e h = cc

number_small : (most : ℕ) (t : Token) (m : ℕ) → number_up_to most t ≡ Some m → m ≤ most
unfolding number_up_to
number_small most (Bare n) m e = up_to most n m (nat_le n most) refl e
number_small most t m e = cc

number_told : (most : ℕ) (t : Token) (o : Option ℕ) (ls : List Lexeme) → ((m : ℕ) → o ≡ Some m → m ≤ most)
    → Told (λ m. m ≤ most) (number_then_end t o ls)
unfolding no_number
number_told most t None ls h = tt
number_told most t (Some n) ls h = further_told (λ m. m ≤ most) 1 (ends n ls) (ends_told (λ m. m ≤ most) n ls (h n refl))

one_told : (most : ℕ) (ls : List Lexeme) → Told (λ m. m ≤ most) (one_number most ls)
unfolding one_number
one_told most [] = tt
one_told most (l ∷ ls) = number_told most l.token (number_up_to most l.token) ls (number_small most l.token)

aligns_told : (a : Answer ℕ) → Told (λ m. m ≤ 12) a → Told HasSmallAlign (and_then Aligns a)
aligns_told (Tells n) h = h
aligns_told (Stops index kind) h = tt

directive_told : (line : List ℕ) (column : ℕ) (d : Directive) (ls : List Lexeme) → Told HasSmallAlign (directive_says line column d ls)
unfolding directive_says
directive_told line column TextDirective ls = ends_told HasSmallAlign IntoText ls tt
directive_told line column DataDirective ls = ends_told HasSmallAlign IntoData ls tt
directive_told line column QuadDirective ls = made_told Quads (λ a. tt) (values_from (quad_value line) true ls)
directive_told line column WordDirective ls = made_told Words (λ a. tt) (values_from (number_value (2 ^ 32 - 1)) true ls)
directive_told line column ByteDirective ls = made_told Bytes (λ a. tt) (values_from (number_value 255) true ls)
directive_told line column ZeroDirective ls = made_told Zeros (λ a. tt) (one_number (2 ^ 64 - 1) ls)
directive_told line column AlignDirective ls = aligns_told (one_number 12 ls) (one_told 12 ls)
directive_told line column GlobalDirective ls = made_told Globals (λ a. tt) (one_name line ls)
directive_told line column AbiDirective ls = ends_told HasSmallAlign (Codes SupportRoutines column) ls tt
directive_told line column TailDirective ls = ends_told HasSmallAlign (Codes CallTail column) ls tt

operands_told : (line : List ℕ) (column : ℕ) (ls : List Lexeme) (said : OperandsSaid)
    → Told HasSmallAlign (instruction_or_fault line column ls said)
operands_told line column ls (operands.Says it target) = tt
operands_told line column ls (operands.Fails f) = tt

instruction_told : (line : List ℕ) (name column : ℕ) (ls : List Lexeme) → Told HasSmallAlign (instruction_says line name column ls)
unfolding instruction_says
instruction_told line name column ls = operands_told line column ls _

named_told : (line : List ℕ) (l : Lexeme) (ls : List Lexeme) (d : Option Directive) (name : Option ℕ)
    → Told HasSmallAlign (named_says line l ls d name)
named_told line l ls (Some d) name = further_told HasSmallAlign 1 (directive_says line (column_at line l.start) d ls) (directive_told line (column_at line l.start) d ls)
named_told line l ls None (Some name) =
    further_told HasSmallAlign 1 (instruction_says line name (column_at line l.start) ls)
    (instruction_told line name (column_at line l.start) ls)
named_told line l ls None None = tt

tokens_told : (line : List ℕ) (ls : List Lexeme) → Told HasSmallAlign (tokens_say line ls)
unfolding tokens_say
tokens_told line [] = tt
tokens_told line (l ∷ ls) =
    elim (is_name l.token) as (λ b. Told HasSmallAlign
    (cond b (named_says line l ls (directive_of (text_of_lexeme line l)) (index_in MNEMONICS (text_of_lexeme line l))) (Stops 0 Extra))) [
      | true ↦ named_told line l ls (directive_of (text_of_lexeme line l)) (index_in MNEMONICS (text_of_lexeme line l))
      | false ↦ tt
    ]

answer_told : (text : List ℕ) (label : Option (List ℕ)) (ls : List Lexeme) (a : Answer Says) (line : SourceLine) → Told HasSmallAlign a
    → line_answer text label ls a ≡ Ok line → HasSmallAlign line.says
answer_told text label ls (Tells says) line h e = subst (λ (l : SourceLine). HasSmallAlign l.says) (same_Ok _ line e) h
answer_told text label ls (Stops index kind) line h e = cc

pub small_align : (text : List ℕ) (line : SourceLine) → line_of text ≡ Ok line → HasSmallAlign line.says
unfolding line_of
small_align text line e =
    answer_told text (label_of (before_comment text)) (line_lexemes text) (tokens_say text (line_lexemes text)) line
    (tokens_told text (line_lexemes text)) e
