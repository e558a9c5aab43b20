-- What the two ways to keep a page's bytes hold.
use Rattle.std.specs.Arc.{arc_value}
use Rattle.paged_memory.specs.PageBytes.{HeldBytes, own_bytes, shared_bytes}
use Rattle.paged_memory.specs.declared.page_bytes.Kept.{Kept}
use Rattle.paged_memory.specs.declared.page_bytes.Kept.TheVariants.{Shared, Own}

-- the bytes that are held so
abbrev pub held_in : Kept → HeldBytes
held_in (Shared bytes) = shared_bytes (arc_value bytes).items
held_in (Own bytes) = own_bytes bytes.items
