use Rattle.std.proofs.Common.{◌≡◌, ◌+◌, true, ℕ, List, length, subst, sym, ap, ◌∙◌, arith}
use Rattle.std.specs.Prelude.{Result}
use Rattle.insn_text.specs.declared.keywords.TheConstants.{MNEMONICS}
use Rattle.asm_tokens.specs.Characters.{column_at}
use Rattle.asm_tokens.specs.Tokens.{index_in}
use Rattle.asm_parser.specs.declared.parse_fault.ParseFault.{ParseFault}
use Rattle.asm_parser.specs.Statements.{Says, says_of}
use Rattle.asm_parser.specs.Lines.{is_of_list, begin_list, directive_of, directive_says, instruction_says}
use Rattle.asm_parser.specs.Told.{Shows, lexemes_from, said_from, directive_said}
use Rattle.asm_parser.proofs.Names.{comment_le, named-list, only_memory, named-directive, named-instruction, named-unknown}
use Rattle.asm_parser.proofs.statements.named_says.Goals as goal

pub directive_says-requires-clause-part : goal.directive_says-requires-clause-part
directive_says-requires-clause-part c = omega (arith, comment_le c.args.line.now, ap length c.requires.part)

pub instruction_says-requires-clause-part : goal.instruction_says-requires-clause-part
instruction_says-requires-clause-part c = omega (arith, comment_le c.args.line.now, ap length c.requires.part)

pub returns-in-Some-clause-said : goal.returns-in-Some-clause-said
returns-in-Some-clause-said c =
    let P : Result Says ParseFault → Type 0 = λ said. Shows says_of c.directive_says.result said in
    let says = directive_says c.args.line.now (column_at c.args.line.now c.args.start) (directive_said c.in-Some.directive) in
    let text = c.args.text.now in
    subst P
    (ap (λ (name : List ℕ). said_from says text (c.args.start + length name)) c.run_at-name.ensures.value
    ∙ sym (named-directive c.args.line.now text c.args.start c.requires.part c.requires.within c.requires.name
    (directive_said c.in-Some.directive) (c.in-Some.ensures ∙ ap directive_of c.run_at-name.ensures.value)))
    c.directive_says.ensures.said

pub returns-in-Some-mnemonic_index-clause-said : goal.returns-in-Some-mnemonic_index-clause-said
returns-in-Some-mnemonic_index-clause-said c =
    let P : Result Says ParseFault → Type 0 = λ said. Shows says_of c.instruction_says.result said in
    let says = instruction_says c.args.line.now c.in-Some-mnemonic_index.mnemonic (column_at c.args.line.now c.args.start) in
    let text = c.args.text.now in
    subst P
    (ap (λ (name : List ℕ). said_from says text (c.args.start + length name)) c.run_at-name.ensures.value
    ∙ sym (named-instruction c.args.line.now text c.args.start c.requires.part c.requires.within c.requires.name
    c.in-Some-mnemonic_index.mnemonic
    (c.in-None.ensures ∙ ap directive_of c.run_at-name.ensures.value)
    (c.in-Some-mnemonic_index.ensures ∙ ap (index_in MNEMONICS) c.run_at-name.ensures.value)))
    c.instruction_says.ensures.said

pub returns-in-None-mnemonic_index-clause-said : goal.returns-in-None-mnemonic_index-clause-said
returns-in-None-mnemonic_index-clause-said c =
    named-unknown c.args.line.now c.args.text.now c.args.start c.requires.part c.requires.within c.requires.name
    (c.in-None.ensures ∙ ap directive_of c.run_at-name.ensures.value)
    (c.in-None-mnemonic_index.ensures ∙ ap (index_in MNEMONICS) c.run_at-name.ensures.value)

pub returns-in-Some-clause-memory : goal.returns-in-Some-clause-memory
returns-in-Some-clause-memory c =
    let d = directive_said c.in-Some.directive in
    let lists : is_of_list d ≡ true → begin_list c.args.line.now (lexemes_from c.args.text.now c.args.start) ≡ true =
    named-list c.args.line.now c.args.text.now c.args.start c.requires.part c.requires.within c.requires.name d
    (c.in-Some.ensures ∙ ap directive_of c.run_at-name.ensures.value) in
    only_memory c.directive_says.result _ _ lists c.directive_says.ensures.memory
