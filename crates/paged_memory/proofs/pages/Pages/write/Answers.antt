use Rattle.std.proofs.Common.{◌≡◌, length, arith}
use Rattle.paged_memory.proofs.Order.{same_count}
use Rattle.paged_memory.proofs.Whole.{whole_pages}
use Rattle.paged_memory.proofs.Written.{written, written_ok, written_allowed, written_abort, written_access, written_err, written_room}
use Rattle.paged_memory.proofs.Written.{written_owned, written_count, written_perm}
use Rattle.paged_memory.proofs.pages.Pages.write.Goals as goal

pub invariant_of-self : goal.invariant_of-self
invariant_of-self c =
    let count : length c.write_bytes.new.pages.items ≡ length c.self.inside.pages.items =
    same_count _ _ c.self.invariant.0 c.write_bytes.ensures.fine (written_perm _ _ _ _ _ c.write_bytes.ensures.writes) in
    (c.write_bytes.ensures.fine, omega arith)

pub returns-clause-ok : goal.returns-clause-ok
returns-clause-ok c =
    written_ok _ _ _ _ c.write_bytes.result (written _ _ c.self.inside.pages.items _ _ _ c.self.view_is c.write_bytes.ensures.writes)

pub returns-clause-allowed : goal.returns-clause-allowed
returns-clause-allowed c =
    written_allowed _ _ _ _ c.write_bytes.result (written _ _ c.self.inside.pages.items _ _ _ c.self.view_is c.write_bytes.ensures.writes)

pub returns-clause-abort : goal.returns-clause-abort
returns-clause-abort c =
    written_abort _ _ _ _ c.write_bytes.result (written _ _ c.self.inside.pages.items _ _ _ c.self.view_is c.write_bytes.ensures.writes)

pub returns-clause-access : goal.returns-clause-access
returns-clause-access c = written_access _ _ _ _ c.write_bytes.result c.write_bytes.ensures.writes

pub returns-clause-err : goal.returns-clause-err
returns-clause-err c =
    written_err _ _ _ _ c.write_bytes.result (written _ _ c.self.inside.pages.items _ _ _ c.self.view_is c.write_bytes.ensures.writes)

pub returns-clause-room : goal.returns-clause-room
returns-clause-room c =
    written_room _ _ _ _ c.write_bytes.result (written _ _ c.self.inside.pages.items _ _ _ c.self.view_is c.write_bytes.ensures.writes)

pub returns-clause-owned : goal.returns-clause-owned
returns-clause-owned c =
    written_owned _ _ _ _ c.write_bytes.result (written _ _ c.self.inside.pages.items _ _ _ c.self.view_is c.write_bytes.ensures.writes)

pub returns-clause-count : goal.returns-clause-count
returns-clause-count c =
    written_count _ _ _ _ c.write_bytes.result (written _ _ c.self.inside.pages.items _ _ _ c.self.view_is c.write_bytes.ensures.writes)

pub returns-clause-whole : goal.returns-clause-whole
returns-clause-whole c = whole_pages c.write_bytes.new.pages.items c.write_bytes.ensures.fine
