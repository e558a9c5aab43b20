use Rattle.std.proofs.Common.{sym, ◌∙◌}
use Rattle.paged_memory.specs.Accesses.{need_of}
use Rattle.mem_access.proofs.Lists.{denied_run}
use Rattle.sve_access.proofs.checks.PermittedCheck.first.Goals as goal

pub returns-in-Ok : goal.returns-in-Ok
returns-in-Ok c =
    sym (denied_run (need_of c.args.self.now.access) c.args.self.now.pages.now.memory c.args.address c.args.size ∙ c.in-Ok.ensures.ok)

pub returns-in-Err : goal.returns-in-Err
returns-in-Err c =
    sym (denied_run (need_of c.args.self.now.access) c.args.self.now.pages.now.memory c.args.address c.args.size ∙ c.in-Err.ensures.abort)
