use Rattle.std.proofs.Common.{◌≡◌, ◌+◌, ◌*◌, ◌%◌, ◌^◌, ◌<◌, ℕ, [], Some, length}
use Rattle.std.specs.Prelude.{slice_index_or}
use Rattle.sve_vectors.specs.Layout.{items_of}
use Rattle.paged_memory.specs.Memory.{bytes_with}
use Rattle.lazy_saving.specs.Block.{buffer_of, saved_of}
use Rattle.abi_checker.proofs.open_call.OpenCall.is_saved.Given as goal

abbrev pub invariant-slices : goal.invariant-slices
invariant-slices l =
    (i : ℕ) → i < l.index → i < saved_of l.self.bytes.block →
    bytes_with 4 l.pages.memory ((buffer_of l.self.bytes.block + i * length l.self.za.items) % 2 ^ 64)
    (length (slice_index_or (items_of l.self.za.items) i []))
    ≡ Some (slice_index_or (items_of l.self.za.items) i [])
