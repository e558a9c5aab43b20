-- Room for an access: the pages that it writes are owned.
use Rattle.std.proofs.Common.{◌≡◌, ℕ, true, sym, ap, subst}
use Rattle.paged_memory.specs.PageTable.{PageTable, AreOwned}
use Rattle.mem_access.specs.declared.access.MemoryAccess.{MemoryAccess}
use Rattle.mem_access.specs.Runs.{RunHasRoom}

-- the bytes of an access that writes and has room are in owned pages
pub owned_bytes : (access made : MemoryAccess) (pages : PageTable) (n : ℕ) → made ≡ access → access.writes ≡ true → access.size ≡ n
    → RunHasRoom access pages → AreOwned pages made.address n
owned_bytes access made pages n is writes size room =
    subst (λ a. AreOwned pages a n) (ap (λ x. x.address) (sym is)) (subst (AreOwned pages access.address) size (room writes))
