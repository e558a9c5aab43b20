use Rattle.std.proofs.Common.{w32}
use Rattle.std.proofs.lemmas.Int.{to_z-of_z}
use Rattle.sve_access.proofs.Registers.{load_made}
use Rattle.sve_access.proofs.transfers.load_register_checked.Goals as goal

pub returns-in-None-clause-made : goal.returns-in-None-clause-made
returns-in-None-clause-made c =
    let times = to_z-of_z w32 c.args.times c.ranges.times in
    load_made c.args.register c.args.times c.args.rn c.run_from-run.result.address c.args.s.now c.args.vectors.now
    c.fill.new.vectors c.args.pages.now (cc) (cc) c.fill.ensures
