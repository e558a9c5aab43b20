use Rattle.std.proofs.Common.{length}
use Rattle.paged_memory.proofs.Owned.{owns_no_more}
use Rattle.sve_access.proofs.stores.write_owned.Goals as goal

pub returns-clause-owned : goal.returns-clause-owned
returns-clause-owned c =
    owns_no_more c.args.pages.now c.write.new.self c.args.address (length c.args.bytes.now) c.requires.owned c.in-Ok.ensures.owned
