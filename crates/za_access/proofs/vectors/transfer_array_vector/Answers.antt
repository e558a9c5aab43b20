use Rattle.std.proofs.Common.{◌≡◌, ℕ, Bool, false, List, [], ap}
use Rattle.sm_types.specs.declared.scalars.Scalars.{Scalars}
use Rattle.sve_vectors.specs.Lengths.{vector_bytes}
use Rattle.paged_memory.proofs.Owned.{owns_none}
use Rattle.mem_access.specs.Transfer.{raised_by}
use Rattle.mem_access.proofs.Owned.{owns_as}
use Rattle.za_access.specs.Vectors.{stored, vector_writes}
use Rattle.za_access.proofs.vectors.transfer_array_vector.Goals as goal

-- a load writes no byte
load_writes : (store : Bool) (rv offset rn : ℕ) (s : Scalars) (size : ℕ) (za : List (List ℕ)) → store ≡ false
    → vector_writes store rv offset rn s size za ≡ []
unfolding stored
load_writes store rv offset rn s size za load = ap (λ b. vector_writes b rv offset rn s size za) load

pub returns-else-store-clause-owned : goal.returns-else-store-clause-owned
returns-else-store-clause-owned c =
    let za = c.args.za.now in
    owns_as _ _ _ _ c.load_vector.result
    (load_writes c.args.store c.args.rv c.args.offset c.args.rn c.args.scalars.now (vector_bytes za.svl) za.vectors c.if-store.false)
    (owns_none raised_by c.args.pages.now c.load_vector.result)
