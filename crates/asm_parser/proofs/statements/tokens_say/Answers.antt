use Rattle.std.proofs.Common.{◌≡◌, List, true, subst, sym, arith}
use Rattle.std.specs.Prelude.{Result, IfErr}
use Rattle.asm_tokens.specs.declared.token.Lexeme.{Lexeme}
use Rattle.asm_tokens.proofs.Following.{lexemes-skip}
use Rattle.asm_parser.specs.declared.parse_fault.ParseFault.{ParseFault}
use Rattle.asm_parser.specs.declared.parse_fault.ParseFault.TheVariants.{Memory}
use Rattle.asm_parser.specs.Statements.{Says, says_of}
use Rattle.asm_parser.specs.Lines.{begin_list, tokens_say}
use Rattle.asm_parser.specs.Told.{Shows}
use Rattle.asm_parser.proofs.Names.{said-skip, said-nothing, said-other}
use Rattle.asm_parser.proofs.statements.tokens_say.Goals as goal

pub returns-then-start-text-clause-said : goal.returns-then-start-text-clause-said
returns-then-start-text-clause-said c =
    said-nothing c.args.text.now c.args.offset c.skip_blanks-start.result c.skip_blanks-start.ensures.value c.args.line.now (omega arith)

pub returns-then-begins_name-clause-said : goal.returns-then-begins_name-clause-said
returns-then-begins_name-clause-said c =
    let P : Result Says ParseFault → Type 0 = λ said. Shows says_of c.named_says.result said in
    subst P (said-skip c.args.text.now c.args.offset c.skip_blanks-start.result c.skip_blanks-start.ensures.value
    (tokens_say c.args.line.now))
    c.named_says.ensures.said

pub returns-else-begins_name-clause-said : goal.returns-else-begins_name-clause-said
returns-else-begins_name-clause-said c =
    said-other c.args.text.now c.args.offset c.skip_blanks-start.result c.skip_blanks-start.ensures.value c.args.line.now (omega arith)
    (sym c.if-begins_name.ensures)

pub returns-then-begins_name-clause-memory : goal.returns-then-begins_name-clause-memory
returns-then-begins_name-clause-memory c =
    let P : List Lexeme → Type 0 = λ ls. IfErr c.named_says.result (λ fault. fault ≡ Memory → begin_list c.args.line.now ls ≡ true) in
    subst P (sym (lexemes-skip c.args.text.now c.args.offset c.skip_blanks-start.result c.skip_blanks-start.ensures.value))
    c.named_says.ensures.memory
