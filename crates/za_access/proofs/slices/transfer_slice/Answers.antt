use Rattle.std.proofs.Common.{◌≡◌, ℕ, false, List, [], ap}
use Rattle.sm_types.specs.declared.scalars.Scalars.{Scalars}
use Rattle.sm_types.specs.declared.matrix.TileAccess.{TileAccess}
use Rattle.sve_vectors.specs.Lengths.{vector_bytes}
use Rattle.sve_vectors.specs.Registers.{predicate_at}
use Rattle.paged_memory.proofs.Owned.{owns_none}
use Rattle.mem_access.specs.Transfer.{raised_by, written_addresses}
use Rattle.mem_access.proofs.Owned.{owns_as}
use Rattle.tile_ops.specs.Named.{slice_of}
use Rattle.za_access.specs.Slices.{slice_access, slice_stored, slice_writes}
use Rattle.za_access.proofs.slices.transfer_slice.Goals as goal

-- a load writes no byte
load_writes : (x : TileAccess) (s : Scalars) (pg : List ℕ) (size : ℕ) (za : List (List ℕ)) → x.store ≡ false
    → slice_writes x s pg size za ≡ []
unfolding slice_stored
load_writes x s pg size za load =
    ap (λ store. written_addresses (slice_access x s pg).bytes (slice_stored store (slice_of x.slice s size) pg za)) load

pub returns-else-insn-clause-owned : goal.returns-else-insn-clause-owned
returns-else-insn-clause-owned c =
    let za = c.args.za.now in
    owns_as _ _ _ _ c.load_slice.result
    (load_writes c.args.insn.now c.args.scalars.now (predicate_at c.args.vectors.now.registers c.args.insn.now.pg) (vector_bytes za.svl)
    za.vectors c.if-insn.false)
    (owns_none raised_by c.args.pages.now c.load_slice.result)
