use Rattle.machine_step.proofs.Flats.{load_row}
use Rattle.machine_step.proofs.decoder.Decoded.load_by.Goals as goal

pub load_register_near-requires-clause-fields : goal.load_register_near-requires-clause-fields
load_register_near-requires-clause-fields c = load_row c.args.self.now.word _ c.requires.word c.requires.means
