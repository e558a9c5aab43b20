use Rattle.std.proofs.Common.{length, refl}
use Rattle.sve_access.proofs.Kept.{run_owned}
use Rattle.sve_access.proofs.Whole.{run_addresses, run_bytes}
use Rattle.sve_access.proofs.transfers.store_elements.Goals as goal

pub returns-then-are_run-clause-made : goal.returns-then-are_run-clause-made
returns-then-are_run-clause-made c =
    let x = c.args.elements.now in
    let z = c.args.z.now in
    let run = c.are_run.ensures.0 c.if-are_run.true in
    rw (
      run_addresses x.start x.memory x.element x.pg.now z run.long run.active c.requires.bits,
      run_bytes x.memory x.element x.pg.now z run.long run.active c.requires.bits,
    ) c.store_run.ensures.made

pub returns-then-are_run-clause-room : goal.returns-then-are_run-clause-room
returns-then-are_run-clause-room c = λ room.
    let x = c.args.elements.now in
    let z = c.args.z.now in
    let run = c.are_run.ensures.0 c.if-are_run.true in
    let addresses = run_addresses x.start x.memory x.element x.pg.now z run.long run.active c.requires.bits in
    c.store_run.ensures.room (run_owned c.args.pages.now x.start (length z) x.start (length z) refl refl (rw addresses at (room refl)))

pub returns-then-are_run-clause-owned : goal.returns-then-are_run-clause-owned
returns-then-are_run-clause-owned c =
    let x = c.args.elements.now in
    let z = c.args.z.now in
    let run = c.are_run.ensures.0 c.if-are_run.true in
    rw (run_addresses x.start x.memory x.element x.pg.now z run.long run.active c.requires.bits) c.store_run.ensures.owned
