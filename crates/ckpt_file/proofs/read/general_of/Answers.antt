use Rattle.std.proofs.Common.{◌≤◌, length, drop, ◌∙◌, arith}
use Rattle.std.proofs.lemmas.List.{take_all, length-drop}
use Rattle.ckpt_file.proofs.read.general_of.Goals as goal

pub returns-clause-value : goal.returns-clause-value
returns-clause-value c =
    let short : length (drop 2 c.args.registers.now) ≤ 31 = omega (arith, length-drop 2 c.args.registers.now) in
    c.copy_from_slice.ensures.after ∙ take_all 31 (drop 2 c.args.registers.now) short
