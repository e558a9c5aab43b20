use Rattle.std.proofs.Common.{Some}
use Rattle.std.proofs.lemmas.Map.Text.{hash_map_updates_str}
use Rattle.asm_core.proofs.labels.Labels.add.Goals as goal

pub returns-in-Ok : goal.returns-in-Ok
returns-in-Ok c =
    λ other. hash_map_updates_str c.args.name.now c.args.self.now.positions c.insert.new.self (Some c.args.position) c.in-Ok.ensures.updates
    other
