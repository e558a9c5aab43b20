use Rattle.line_reader.proofs.Digits.{digits-small}
use Rattle.line_reader.proofs.numbers.hex_number.Goals as goal

pub returns-then-digits-count-clause-small : goal.returns-then-digits-count-clause-small
returns-then-digits-count-clause-small c =
    digits-small c.args.count c.args.digits.now c.digits_in.result c.if-digits-count.true c.digits_in.ensures
