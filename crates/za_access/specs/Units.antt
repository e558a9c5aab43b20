-- Elements of 16 bytes as doublewords, which the accesses of vectors know.
use Rattle.std.specs.Prelude.{◌≡◌, ℕ, List, length}
use Rattle.sm_types.specs.declared.vector.Elem.{Elem}
use Rattle.sve_access.specs.Contiguous.{size_of}
use Rattle.sve_access.specs.Elements.{element_addresses, element_bytes}
use Rattle.tile_ops.specs.Named.{element_size}
use Rattle.za_access.specs.Slices.{active_addresses, active_bytes}

-- elements of at most 8 bytes under a predicate are the same bytes as elements of a size under another
pub record AreUnits (size : Elem) (pg units : List ℕ) : Type 0 where
  pub long : length units ≡ length pg
  pub addresses : (start : ℕ) →
      element_addresses start (size_of size) (size_of size) units
      ≡ active_addresses start (element_size size) pg
  pub bytes : (slice : List ℕ) →
      element_bytes slice (size_of size) (size_of size) units ≡ active_bytes (element_size size) pg slice
