-- The scalar registers, the vectors and ZA after an instruction of ZA or of the streaming vector length that
-- accesses no memory, but for PC. S, the streaming vector length in bytes, is the number of vectors of ZA.
-- Source: DDI 0487, C9.2: ZERO, MOVA, ADDHA, ADDVA, SMOPA to UMOPS, RDSVL, ADDSVL, ADDSPL.
use Rattle.std.specs.Prelude.{ℕ, ◌/◌, ◌%◌, ◌^◌, ◌==◌, Bool, true, false, if◌then◌else◌, List, length}
use Rattle.std.specs.Prelude.{replicate}
use Rattle.sm_types.specs.declared.scalars.Scalars.{Scalars}
use Rattle.sm_types.specs.declared.insn.Insn.{Insn}
use Rattle.sm_types.specs.declared.insn.Insn.TheVariants as insn
use Rattle.sm_types.specs.declared.matrix as types
use types.{ArrayAccess.ArrayAccess, TileMove.TileMove, TileAdd.TileAdd, OuterProduct.OuterProduct}
use types.OuterProductOp.{OuterProductOp}
use types.OuterProductOp.TheVariants.{Smopa, Sumopa, Usmopa, Umopa}
use types.ArrayAccess.TheVariants.{Zero, Transfer}
use Rattle.vector_elements.specs.declared.size.Size.{Size}
use Rattle.vector_elements.specs.declared.size.Size.TheVariants.{S, D}
use Rattle.vector_elements.specs.Numbers.{bytes_in}
use Rattle.sve_vectors.specs.Registers.{VectorRegisters, vector_at, predicate_at, vector_written}
use Rattle.sve_vectors.specs.State.{SveState}
use Rattle.za_array.specs.Array.{ArrayState}
use Rattle.za_array.specs.Tiles.{changed_tile}
use Rattle.tile_ops.specs.Named.{slice_of}
use Rattle.tile_ops.specs.Moves.{moved_to_tile, moved_to_vector}
use Rattle.tile_ops.specs.Sums.{added_to_tile}
use Rattle.outer_products.specs.declared.kind.MopaKind.{MopaKind}
use Rattle.outer_products.specs.OuterProducts.{sum_size, outer_row}
use Rattle.matrix_step.specs.Lengths.{after_streaming_length}

-- what such an instruction reads and writes
pub record MatrixCore : Type 0 where
  pub scalars : Scalars
  pub registers : VectorRegisters
  pub za : List (List ℕ)

abbrev pub core_of : Scalars → SveState → ArrayState → MatrixCore
core_of scalars s za = record { scalars = scalars; registers = s.registers; za = za.vectors }

-- ZERO: bit i of the mask is for tile i of doublewords, which has each eighth vector of the array from number
-- i on
abbrev pub is_zeroed : ℕ → ℕ → Bool
is_zeroed mask v = mask / 2 ^ (v % 8) % 2 == 1

-- the whole array is the tile of bytes, of which each vector is a row
unfoldable pub zeroed_tiles : ℕ → List (List ℕ) → List (List ℕ)
zeroed_tiles mask za = changed_tile 1 0 (λ v row. if is_zeroed mask v then replicate (length row) 0
    else row) za

-- the vectors of the array after ZERO; a load or store of one is no matter of this file
abbrev pub zeroed_by : ArrayAccess → List (List ℕ) → List (List ℕ)
zeroed_by (Zero mask) za = zeroed_tiles mask za
zeroed_by (Transfer store rv offset rn) za = za

-- MOVA: to the slice, or to the vector
unfoldable pub after_move : TileMove → MatrixCore → MatrixCore
after_move x s =
    let slice = slice_of x.slice s.scalars (length s.za) in
    let pg = predicate_at s.registers x.pg in
    let z = vector_at s.registers x.z in
    if x.to_tile then record s { za = moved_to_tile slice pg z s.za }
    else record s { registers = vector_written s.registers x.z (moved_to_vector slice pg s.za z) }

-- the elements of the tile of ADDHA and ADDVA
abbrev pub added_size : Bool → Size
added_size true = D
added_size false = S

-- ADDHA, ADDVA
unfoldable pub after_add : TileAdd → MatrixCore → MatrixCore
after_add x s =
    let r = s.registers in
    record s {
      za = added_to_tile (added_size x.wide) x.tile x.vertical (predicate_at r x.pn) (predicate_at r x.pm)
          (vector_at r x.zn) s.za;
    }

-- whether the elements of the first source have a sign, and those of the second
abbrev pub is_first_signed : OuterProductOp → Bool
is_first_signed Smopa = true
is_first_signed Sumopa = true
is_first_signed Usmopa = false
is_first_signed Umopa = false

abbrev pub is_second_signed : OuterProductOp → Bool
is_second_signed Smopa = true
is_second_signed Sumopa = false
is_second_signed Usmopa = true
is_second_signed Umopa = false

abbrev pub kind_of : OuterProduct → MopaKind
kind_of x = record {
  n_signed = is_first_signed x.op;
  m_signed = is_second_signed x.op;
  subtract = x.subtract;
  halves = x.wide;
}

-- SMOPA to UMOPS
unfoldable pub after_outer_product : OuterProduct → MatrixCore → MatrixCore
after_outer_product x s =
    let r = s.registers in
    record s {
      za = changed_tile (bytes_in (sum_size x.wide)) x.tile
          (outer_row (kind_of x) (predicate_at r x.pn) (predicate_at r x.pm) (vector_at r x.zn)
          (vector_at r x.zm))
          s.za;
    }

abbrev pub is_zero : ArrayAccess → Bool
is_zero (Zero mask) = true
is_zero (Transfer store rv offset rn) = false

-- the instruction accesses no memory, and ZA or the streaming vector length
abbrev pub is_matrix_computed : Insn → Bool
is_matrix_computed (insn.ArrayAccess x) = is_zero x
is_matrix_computed (insn.TileMove x) = true
is_matrix_computed (insn.TileAdd x) = true
is_matrix_computed (insn.OuterProduct x) = true
is_matrix_computed (insn.StreamingLength x) = true
is_matrix_computed other = false

-- of these, those that move or change elements of tiles, at the streaming vector length
abbrev pub is_tile_computed : Insn → Bool
is_tile_computed (insn.TileMove x) = true
is_tile_computed (insn.TileAdd x) = true
is_tile_computed (insn.OuterProduct x) = true
is_tile_computed other = false

-- the registers and ZA after such an instruction; no other changes them here
unfoldable pub matrix_step : Insn → MatrixCore → MatrixCore
matrix_step (insn.ArrayAccess x) s = record s { za = zeroed_by x s.za }
matrix_step (insn.TileMove x) s = after_move x s
matrix_step (insn.TileAdd x) s = after_add x s
matrix_step (insn.OuterProduct x) s = after_outer_product x s
matrix_step (insn.StreamingLength x) s = record s {
  scalars = after_streaming_length (length s.za) x
      s.scalars;
}
matrix_step other s = s
