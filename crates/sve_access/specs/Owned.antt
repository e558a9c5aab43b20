-- The pages of the active elements of an access.
use Rattle.std.specs.Prelude.{◌≡◌, ℕ, ◌+◌, ◌*◌, ◌/◌, ◌%◌, ◌^◌, ◌<◌, true, List, length}
use Rattle.vector_elements.specs.declared.size.Size.{Size}
use Rattle.vector_elements.specs.Elements.{is_active}
use Rattle.vector_elements.specs.Numbers.{bytes_in}
use Rattle.paged_memory.specs.PageTable.{PageTable, AreOwned}

-- the pages of each element, where it is active, are owned
abbrev pub OwnsElements : ℕ → Size → Size → List ℕ → PageTable → Type 0
OwnsElements start memory element pg pages =
    (i : ℕ) → i < 8 * length pg / bytes_in element → is_active (bytes_in element) pg i ≡ true →
    AreOwned pages ((start + i * bytes_in memory) % 2 ^ 64) (bytes_in memory)
