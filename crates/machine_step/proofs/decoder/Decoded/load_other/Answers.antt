use Rattle.std.proofs.Common.{ap, ◌∙◌, Some}
use Rattle.machine_step.proofs.Flats.{load_row, pair_row, literal_row}
use Rattle.machine_step.proofs.decoder.Decoded.load_other.Goals as goal

pub load_register-requires-clause-fields : goal.load_register-requires-clause-fields
load_register-requires-clause-fields c =
    let k = c.args.self.now in
    load_row k.word c.in-LoadStore.x c.requires (k.known ∙ ap Some c.in-LoadStore.is)

pub load_literal-requires : goal.load_literal-requires
load_literal-requires c =
    let k = c.args.self.now in
    literal_row k.word c.in-LoadLiteral.x c.requires (k.known ∙ ap Some c.in-LoadLiteral.is)

pub load_registers-requires-clause-fields : goal.load_registers-requires-clause-fields
load_registers-requires-clause-fields c =
    let k = c.args.self.now in
    pair_row k.word c.in-LoadStorePair.x c.requires (k.known ∙ ap Some c.in-LoadStorePair.is)
