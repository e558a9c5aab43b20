use Rattle.std.proofs.Common.{w32, refl, length, subst, true}
use Rattle.std.proofs.lemmas.Int.{to_z-of_z}
use Rattle.scalar_exec.specs.Registers.{x_or_sp}
use Rattle.sve_vectors.specs.State.{length_of}
use Rattle.mem_access.specs.DataAccess.{DataAccess}
use Rattle.mem_access.specs.Transfer.{HasRoom}
use Rattle.sve_access.specs.Contiguous.{multiple_from}
use Rattle.sve_access.specs.Registers.{register_size}
use Rattle.sve_access.proofs.Kept.{run_owned}
use Rattle.sve_access.proofs.Registers.{access_is}
use Rattle.sve_access.proofs.transfers.store_register.Goals as goal

pub returns-clause-room : goal.returns-clause-room
returns-clause-room c = λ room.
    let v = c.args.vectors.now in
    let size = register_size c.args.register (length_of v) in
    let times = to_z-of_z w32 c.args.times c.ranges.times in
    let is = access_is c.args.register true c.args.times c.args.rn c.args.s.now (length_of v) v.registers in
    c.store_run.ensures.room (run_owned c.args.pages.now c.run_from-run.result.address (length c.bytes.result.now)
    (multiple_from (x_or_sp c.args.s.now c.args.rn) c.args.times size) size (cc) c.bytes.ensures.long
    (subst (λ (x : DataAccess). HasRoom x c.args.pages.now) is room refl))
