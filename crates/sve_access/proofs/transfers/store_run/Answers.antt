use Rattle.std.proofs.Common.{sym, ap, refl, ◌∙◌, length, true, Some, None}
use Rattle.paged_memory.specs.Memory.{run_of}
use Rattle.mem_access.specs.Checks.{access_fault}
use Rattle.mem_access.specs.Runs.{denied_write, with_bytes}
use Rattle.mem_access.specs.Transfer.{written}
use Rattle.mem_access.proofs.Lists.{written_run}
use Rattle.sve_access.specs.After.{at_base}
use Rattle.sve_access.proofs.Faults.{stored_run}
use Rattle.sve_access.proofs.Unfaulted.{store_denied, store_placed}
use Rattle.sve_access.proofs.transfers.store_run.Goals as goal

pub returns-in-None-clause-made : goal.returns-in-None-clause-made
returns-in-None-clause-made c =
    let m = c.args.pages.now.memory in
    let a = c.args.run.now.address in
    let n = c.args.run.now.size in
    let bytes = c.args.bytes.now in
    stored_run (access_fault None (at_base c.args.rn true (run_of a n)) c.args.s.now m) (denied_write m a (length bytes))
    (written m (run_of a n) (Some bytes)) (with_bytes m a bytes) m c.write_bytes.new.pages.memory c.write_bytes.result
    (store_denied c.args.rn a n c.args.s.now m (sym (c.place_fault.ensures true) ∙ c.in-None.is) ∙ ap (denied_write m a) c.requires.size)
    (written_run m a n bytes (sym c.requires.size))
    c.write_bytes.ensures.allowed c.write_bytes.ensures.ok c.write_bytes.ensures.stops c.write_bytes.ensures.err

pub returns-in-Some-clause-made : goal.returns-in-Some-clause-made
returns-in-Some-clause-made c = (
  store_placed c.args.rn (run_of c.args.run.now.address c.args.run.now.size) c.args.s.now c.args.pages.now.memory c.in-Some.exception
      (sym (c.place_fault.ensures true) ∙ c.in-Some.is),
  refl,
)
