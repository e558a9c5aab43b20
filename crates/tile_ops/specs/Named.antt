-- The slice that an instruction names. Source: DDI 0487, C9.2: MOVA, LD1B to LD1Q and ST1B to ST1Q (tile
-- slices).
use Rattle.std.specs.Prelude.{ℕ, ◌/◌}
use Rattle.sm_types.specs.declared.scalars.Scalars.{Scalars}
use Rattle.sm_types.specs.declared.vector.Elem.{Elem}
use Rattle.sm_types.specs.declared.matrix.TileSlice.{TileSlice}
use Rattle.sve_table.specs.Ranges.{bits_of_elem}
use Rattle.scalar_exec.specs.Registers.{x_of}
use Rattle.tile_ops.specs.declared.slices.SliceAt.{SliceAt}
use Rattle.tile_ops.specs.Slices.{slice_number}

-- the bytes of an element
abbrev pub element_size : Elem → ℕ
element_size size = bits_of_elem size / 8

-- where an array has vectors of `size` bytes: the number is the register's low 32 bits and the offset, modulo
-- the number of slices
abbrev pub slice_of : TileSlice → Scalars → ℕ → SliceAt
slice_of x s size = record {
  bytes = element_size x.size;
  tile = x.tile;
  vertical = x.vertical;
  number = slice_number (x_of s x.rv) x.offset (size / element_size x.size);
}
