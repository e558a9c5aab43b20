use Rattle.std.proofs.Common.{sym}
use Rattle.asm_operands.specs.Views.{partial_of}
use Rattle.asm_operands.proofs.Bare.{with_bare}
use Rattle.asm_operands.proofs.partial_word.PartialWord.with.Goals as goal

pub returns-then-is_bare : goal.returns-then-is_bare
returns-then-is_bare c = with_bare c.args.item.now (partial_of c.args.self) c.args.field (sym c.if-is_bare.ensures)
