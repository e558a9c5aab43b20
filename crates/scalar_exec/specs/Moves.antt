-- Moves of halfwords and of bit fields. Source: DDI 0487, C6.2: MOVN, MOVZ, MOVK, SBFM, BFM, UBFM, EXTR.
use Rattle.std.specs.Prelude.{ℕ, ◌+◌, ◌-◌, ◌*◌, ◌/◌, ◌%◌, ◌^◌, Bool, nat_le, cond}
use Rattle.sm_types.specs.declared.scalars.Scalars.{Scalars}
use Rattle.sm_types.specs.declared.insn.MoveOp.{MoveOp}
use Rattle.sm_types.specs.declared.insn.MoveOp.TheVariants.{Movn, Movz, Movk}
use Rattle.sm_types.specs.declared.insn.MoveWide.{MoveWide}
use Rattle.sm_types.specs.declared.insn.BitfieldOp.{BitfieldOp}
use Rattle.sm_types.specs.declared.insn.BitfieldOp.TheVariants.{Sbfm, Bfm, Ubfm}
use Rattle.sm_types.specs.declared.insn.BitfieldMove.{BitfieldMove}
use Rattle.sm_types.specs.declared.insn.Extract.{Extract}
use Rattle.bit_ops.specs.Sums.{word_size}
use Rattle.bit_ops.specs.Bits.{width_of}
use Rattle.scalar_exec.specs.Registers.{register_of, with_x}
use Rattle.scalar_exec.specs.Operands.{inverted}

-- the old word with `count` bits from place `low` on replaced by the field: what is above, the field, what
-- is below
unfoldable pub with_field : ℕ → ℕ → ℕ → ℕ → ℕ
with_field low count field old = old / 2 ^ (low + count) * 2 ^ (low + count) + field * 2 ^ low + old % 2 ^ low

-- the immediate at its halfword
abbrev pub halfword_of : MoveWide → ℕ
halfword_of x = x.imm * 2 ^ (16 * x.hw)

-- MOVN inverts it, MOVZ has zeros round it, and MOVK keeps what is round it
unfoldable pub moved : MoveOp → MoveWide → Scalars → ℕ
moved Movn x s = inverted x.wide (halfword_of x)
moved Movz x s = halfword_of x
moved Movk x s = with_field (16 * x.hw) 16 x.imm (register_of x.wide s x.rd)

-- move wide
unfoldable pub move_wide : MoveWide → Scalars → Scalars
move_wide x s = with_x s x.rd (moved x.op x s)

-- a field of so many bits at a place: over zeros, with its top bit in all places above it and zeros below,
-- or over the old word
unfoldable pub placed : BitfieldOp → Bool → ℕ → ℕ → ℕ → ℕ → ℕ
placed Ubfm wide field count place old = field * 2 ^ place
placed Sbfm wide field count place old =
    cond (nat_le (2 ^ (count - 1)) field) (word_size wide - 2 ^ (place + count) + field * 2 ^ place)
    (field * 2 ^ place)
placed Bfm wide field count place old = with_field place count field old

-- bits immr to imms go to bit 0; where imms is below immr, bits 0 to imms go to bit width - immr
unfoldable pub bitfield_of : BitfieldMove → ℕ → ℕ → ℕ
bitfield_of x from old =
    cond (nat_le x.immr x.imms)
    (placed x.op x.wide (from / 2 ^ x.immr % 2 ^ (x.imms - x.immr + 1)) (x.imms - x.immr + 1) 0 old)
    (placed x.op x.wide (from % 2 ^ (x.imms + 1)) (x.imms + 1) (width_of x.wide - x.immr) old)

-- bit field moves
unfoldable pub bitfield_move : BitfieldMove → Scalars → Scalars
bitfield_move x s = with_x s x.rd (bitfield_of x (register_of x.wide s x.rn) (register_of x.wide s x.rd))

-- the word from bit lsb on of the first register above the second
unfoldable pub extract : Extract → Scalars → Scalars
extract x s =
    with_x s x.rd ((register_of x.wide s x.rn * word_size x.wide + register_of x.wide s x.rm) / 2 ^ x.lsb %
    word_size x.wide)
