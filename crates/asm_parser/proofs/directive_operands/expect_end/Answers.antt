use Rattle.asm_parser.proofs.Saying.{ends-none, ends-some}
use Rattle.asm_parser.proofs.directive_operands.expect_end.Goals as goal

pub returns-in-None-clause-said : goal.returns-in-None-clause-said
returns-in-None-clause-said c = ends-none (tt {0}) c.args.text.now c.args.offset c.in-None.ensures.first

pub returns-in-Some-clause-said : goal.returns-in-Some-clause-said
returns-in-Some-clause-said c = ends-some (tt {0}) c.args.text.now c.args.offset c.in-Some.extra c.in-Some.ensures.first
