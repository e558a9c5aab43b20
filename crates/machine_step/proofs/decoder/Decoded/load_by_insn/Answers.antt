use Rattle.std.proofs.Common.{ap, ◌∙◌, Some}
use Rattle.machine_step.proofs.Flats.{pair_row}
use Rattle.machine_step.proofs.decoder.Decoded.load_by_insn.Goals as goal

pub load_registers_near-requires-clause-fields : goal.load_registers_near-requires-clause-fields
load_registers_near-requires-clause-fields c =
    let k = c.args.self.now in
    pair_row k.word c.in-LoadStorePair.x c.requires (k.known ∙ ap Some c.in-LoadStorePair.is)
