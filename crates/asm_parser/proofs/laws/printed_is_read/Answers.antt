use Rattle.asm_parser.proofs.Round.{round}
use Rattle.asm_parser.proofs.laws.printed_is_read.Goals as goal

pub returns : goal.returns
returns c = λ word it m. round word it m
