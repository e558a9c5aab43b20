use Rattle.std.proofs.Common.{◌<◌, length, sym, ap, arith, length-append}
use Rattle.insn_text.specs.Texts.{shape_text}
use Rattle.insn_text.proofs.Lengths.{printed_length}
use Rattle.insn_text.proofs.print.print_word.Goals as goal

pub push_shape-requires : goal.push_shape-requires
push_shape-requires c =
    let short : length (shape_text c.in-Some.shape c.args.word) < 96 = printed_length c.args.word c.in-Some.shape (sym c.in-Some.ensures) in
    let none = ap length c.clear.ensures in
    omega arith

pub returns-in-Some-clause-short : goal.returns-in-Some-clause-short
returns-in-Some-clause-short c =
    let short : length (shape_text c.in-Some.shape c.args.word) < 96 = printed_length c.args.word c.in-Some.shape (sym c.in-Some.ensures) in
    let none = ap length c.clear.ensures in
    let whole = ap length c.push_shape.ensures in
    omega (arith, length-append c.clear.new.self.bytes (shape_text c.in-Some.shape c.args.word))
