use Rattle.std.proofs.Common.{refl}
use Rattle.sve_access.proofs.Kept.{each_owned}
use Rattle.sve_access.proofs.transfers.store_each.Goals as goal

pub returns-in-Err-clause-room : goal.returns-in-Err-clause-room
returns-in-Err-clause-room c = λ room same.
    let x = c.args.elements.now in
    let made = c.in-Err.ensures.room (each_owned x.start x.memory x.element x.pg.now c.args.pages.now (room refl)) in
    cc
