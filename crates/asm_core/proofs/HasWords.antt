-- The word of a line of the grammar means an instruction.
use Rattle.std.proofs.Common.{◌≡◌, ℕ, zero, suc, ◌-◌, ◌^◌, true, false, cond, List, [], ◌∷◌, map, Option, Some, None, Ok, refl, subst}
use Rattle.std.specs.Prelude.{is_some, slice_get}
use Rattle.plain_lemmas.proofs.Options.{same_Ok}
use Rattle.a64_encode.specs.Either.{instruction_of}
use Rattle.insn_text.specs.declared.keywords.TheConstants.{MNEMONICS}
use Rattle.asm_tokens.specs.declared.token.Token.{Token}
use Rattle.asm_tokens.specs.declared.token.Token.TheVariants.{Name}
use Rattle.asm_tokens.specs.declared.token.Lexeme.{Lexeme}
use Rattle.asm_tokens.specs.Characters.{column_at, before_comment}
use Rattle.asm_tokens.specs.Tokens.{index_in, is_name}
use Rattle.asm_operands.specs.declared.fault.FaultKind.TheVariants.{Extra}
use Rattle.asm_operands.specs.declared.operands.Target.{Target}
use Rattle.asm_operands.specs.Operands.{OperandsSaid, operands_said}
use Rattle.asm_operands.specs.Operands as operands
use Rattle.asm_operands.proofs.AnyDistance.{said-means, target-sound, resolved-means}
use Rattle.asm_parser.specs.Statements.{Says, TargetSaid, Code, SupportRoutines, CallTail, Codes, IntoText, IntoData, Quads, Words, Bytes, Zeros, Aligns, Globals}
use Rattle.asm_parser.specs.Statements.{SourceLine}
use Rattle.asm_parser.specs.Lines.{Answer, Tells, Stops, and_then, further, ends, number_value, one_number, one_name, values_from}
use Rattle.asm_parser.specs.Lines.{quad_value, Directive, TextDirective, DataDirective, QuadDirective, WordDirective, ByteDirective}
use Rattle.asm_parser.specs.Lines.{ZeroDirective, AlignDirective, GlobalDirective, AbiDirective, TailDirective, directive_of, directive_says, target_named, target_at}
use Rattle.asm_parser.specs.Lines.{instruction_or_fault, instruction_says, named_says, tokens_say, text_of_lexeme, line_answer}
use Rattle.asm_parser.specs.Lines.{line_lexemes, label_of, line_of}
use Rattle.asm_core.specs.Resolved.{MeansResolved}
use Rattle.asm_core.specs.Targets.{word_to}
use Rattle.asm_core.proofs.Immediates.{named-resolves, named-far}
use Rattle.asm_core.specs.Code.{CodeWord, restore_target, code_words}
use Rattle.asm_core.specs.Emitted.{CanHave, CanBeResolved, IsMeant, AreMeant, HasWord}
use Rattle.asm_core.proofs.RoutineWords.{routines_meant, tail_parts}
use Rattle.asm_core.proofs.CallSaid.{call_is_said}

abbrev Told : Answer Says → Type 0
Told (Tells says) = HasWord says
Told (Stops index kind) = Unit {0}

further_told : (k : ℕ) (a : Answer Says) → Told a → Told (further k a)
further_told k (Tells says) h = h
further_told k (Stops index kind) h = tt

made_told : {A : Type 0} (make : A → Says) → ((a : A) → HasWord (make a)) → (a : Answer A) → Told (and_then make a)
made_told make has (Tells a) = has a
made_told make has (Stops index kind) = tt

ends_told : (says : Says) (ls : List Lexeme) → HasWord says → Told (ends says ls)
unfolding ends
ends_told says [] h = h
ends_told says (l ∷ ls) h = tt

-- a target can have each distance
abbrev CanResolve : ℕ → Option Target → Type 0
CanResolve word None = Unit {0}
CanResolve word (Some target) = CanHave target.operand word

-- the word that operands say means an instruction
abbrev Means : OperandsSaid → Type 0
Means (operands.Says word target) = (is_some (instruction_of word) ≡ true) × CanResolve word target
Means (operands.Fails fault) = Unit {0}

can_resolve : (name : ℕ) (ts : List Token) (word : ℕ) (target : Option Target) → operands_said name ts ≡ operands.Says word target
    → CanResolve word target
can_resolve name ts word None e = tt
can_resolve name ts word (Some target) e =
    record {
      sound = target-sound name ts word target e;
      means = λ back size resolved is. resolved-means name ts word target back size resolved e is;
      resolves = named-resolves name ts word target e;
      far = named-far name ts word target e;
    }

operands_mean : (name : ℕ) (ts : List Token) (said : OperandsSaid) → operands_said name ts ≡ said → Means said
operands_mean name ts (operands.Says word target) e = (said-means name ts word target e, can_resolve name ts word target e)
operands_mean name ts (operands.Fails fault) e = tt

pub call_meant : IsMeant 0x94000000 (Some restore_target)
call_meant = let m = operands_mean 39 (Name ∷ []) _ call_is_said in record { means = m.0; resolves = m.1 }

routines_mean : AreMeant (code_words SupportRoutines)
unfolding code_words
routines_mean = routines_meant

tail_means : AreMeant (code_words CallTail)
unfolding code_words
tail_means =
    let plain = tail_parts in
    (plain.0, (plain.1.0, (plain.1.1.0, (plain.1.1.1.0, (call_meant, plain.1.1.1.1.1)))))

directive_told : (line : List ℕ) (column : ℕ) (d : Directive) (ls : List Lexeme) → Told (directive_says line column d ls)
unfolding directive_says
directive_told line column TextDirective ls = ends_told IntoText ls tt
directive_told line column DataDirective ls = ends_told IntoData ls tt
directive_told line column QuadDirective ls = made_told Quads (λ a. tt) (values_from (quad_value line) true ls)
directive_told line column WordDirective ls = made_told Words (λ a. tt) (values_from (number_value (2 ^ 32 - 1)) true ls)
directive_told line column ByteDirective ls = made_told Bytes (λ a. tt) (values_from (number_value 255) true ls)
directive_told line column ZeroDirective ls = made_told Zeros (λ a. tt) (one_number (2 ^ 64 - 1) ls)
directive_told line column AlignDirective ls = made_told Aligns (λ a. tt) (one_number 12 ls)
directive_told line column GlobalDirective ls = made_told Globals (λ a. tt) (one_name line ls)
directive_told line column AbiDirective ls = ends_told (Codes SupportRoutines column) ls routines_mean
directive_told line column TailDirective ls = ends_told (Codes CallTail column) ls tail_means

resolves_named : (line : List ℕ) (word : ℕ) (target : Target) (o : Option Lexeme) → CanHave target.operand word
    → CanBeResolved word (target_named line target.operand o)
resolves_named line word target None h = tt
resolves_named line word target (Some l) h = h

resolves_at : (line : List ℕ) (ls : List Lexeme) (word : ℕ) (target : Option Target) → CanResolve word target
    → CanBeResolved word (target_at line ls target)
resolves_at line ls word None h = tt
resolves_at line ls word (Some target) h = resolves_named line word target (slice_get ls target.index) h

operands_told : (line : List ℕ) (column : ℕ) (ls : List Lexeme) (said : OperandsSaid) → Means said
    → Told (instruction_or_fault line column ls said)
unfolding code_words
operands_told line column ls (operands.Says word target) h = (record { means = h.0; resolves = resolves_at line ls word target h.1 }, tt)
operands_told line column ls (operands.Fails f) h = tt

instruction_told : (line : List ℕ) (name column : ℕ) (ls : List Lexeme) → Told (instruction_says line name column ls)
unfolding instruction_says
instruction_told line name column ls =
    let ts = map (λ (l : Lexeme). l.token) ls in
    operands_told line column ls (operands_said name ts) (operands_mean name ts (operands_said name ts) refl)

named_told : (line : List ℕ) (l : Lexeme) (ls : List Lexeme) (d : Option Directive) (name : Option ℕ) → Told (named_says line l ls d name)
named_told line l ls (Some d) name = further_told 1 (directive_says line (column_at line l.start) d ls) (directive_told line (column_at line l.start) d ls)
named_told line l ls None (Some name) =
    further_told 1 (instruction_says line name (column_at line l.start) ls) (instruction_told line name (column_at line l.start) ls)
named_told line l ls None None = tt

tokens_told : (line : List ℕ) (ls : List Lexeme) → Told (tokens_say line ls)
unfolding tokens_say
tokens_told line [] = tt
tokens_told line (l ∷ ls) =
    elim (is_name l.token) as (λ b. Told (cond b
    (named_says line l ls (directive_of (text_of_lexeme line l)) (index_in MNEMONICS (text_of_lexeme line l))) (Stops 0 Extra))) [
      | true ↦ named_told line l ls (directive_of (text_of_lexeme line l)) (index_in MNEMONICS (text_of_lexeme line l))
      | false ↦ tt
    ]

answer_told : (text : List ℕ) (label : Option (List ℕ)) (ls : List Lexeme) (a : Answer Says) (line : SourceLine) → Told a
    → line_answer text label ls a ≡ Ok line → HasWord line.says
answer_told text label ls (Tells says) line h e = subst (λ (l : SourceLine). HasWord l.says) (same_Ok _ line e) h
answer_told text label ls (Stops index kind) line h e = cc

pub line_word : (text : List ℕ) (line : SourceLine) → line_of text ≡ Ok line → HasWord line.says
unfolding line_of
line_word text line e =
    answer_told text (label_of (before_comment text)) (line_lexemes text) (tokens_say text (line_lexemes text)) line
    (tokens_told text (line_lexemes text)) e

meant_at : (words : List CodeWord) (k : ℕ) (w : CodeWord) → AreMeant words → slice_get words k ≡ Some w → IsMeant w.word w.target
meant_at [] k w h e = cc
meant_at (v ∷ words) zero w h e = let same : v ≡ w = cc in subst (λ (x : CodeWord). IsMeant x.word x.target) same h.0
meant_at (v ∷ words) (suc k) w h e = meant_at words k w h.1 e

code_meant : (code : Code) (column : ℕ) (says : Says) → says ≡ Codes code column → HasWord says → AreMeant (code_words code)
code_meant code column says e h = subst HasWord e h

module _ (text : List ℕ) (line : SourceLine) (code : Code) (column k word from to : ℕ) (target : TargetSaid) (is : line_of text ≡ Ok line)
    (says : line.says ≡ Codes code column)
    (listed : slice_get (code_words code) k ≡ Some (record { word = word; target = Some target })) where
  meant : IsMeant word (Some target)
  meant =
      meant_at (code_words code) k (record { word = word; target = Some target }) (code_meant code column line.says says (line_word text line is))
      listed

  pub line_resolves : (resolved : ℕ) → word_to target.operand word from to ≡ Some resolved → MeansResolved word from to resolved
  line_resolves resolved e = meant.resolves.resolves from to resolved e

  pub line_far : word_to target.operand word from to ≡ None → (resolved : ℕ) → MeansResolved word from to resolved → ⊥
  line_far e = meant.resolves.far from to e
