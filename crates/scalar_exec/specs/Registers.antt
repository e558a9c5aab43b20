-- How instructions name registers, and what a write leaves.
-- Source: DDI 0487, C1.2.5 and J1.1, X[] and SP[]: number 31 is the zero register, or SP where the
-- instruction says so. Registers are of 64 bits where `wide` holds, else W registers: the low 32 bits are
-- read, and a write clears the others.
use Rattle.std.specs.Prelude.{ℕ, ◌+◌, ◌%◌, ◌^◌, ◌==◌, Bool, cond, slice_index, slice_set}
use Rattle.sm_types.specs.declared.scalars.Scalars.{Scalars}
use Rattle.bit_ops.specs.declared.sums.Nzcv.{Nzcv}
use Rattle.bit_ops.specs.Sums.{word_size}

-- the 64 bits of the register; number 31 is zero
unfoldable pub x_of : Scalars → ℕ → ℕ
x_of s n = cond (n == 31) 0 (slice_index s.x n)

-- the 64 bits of the register; number 31 is SP
unfoldable pub x_or_sp : Scalars → ℕ → ℕ
x_or_sp s n = cond (n == 31) s.sp (slice_index s.x n)

-- the register of the width; number 31 is zero
abbrev pub register_of : Bool → Scalars → ℕ → ℕ
register_of wide s n = x_of s n % word_size wide

-- the register of the width; number 31 is SP
abbrev pub register_or_sp : Bool → Scalars → ℕ → ℕ
register_or_sp wide s n = x_or_sp s n % word_size wide

-- the registers after a write to one; number 31 keeps nothing
unfoldable pub with_x : Scalars → ℕ → ℕ → Scalars
with_x s d value = cond (d == 31) s (record s { x = slice_set s.x d value })

-- the registers after a write to one; number 31 is SP
unfoldable pub with_x_or_sp : Scalars → ℕ → ℕ → Scalars
with_x_or_sp s d value = cond (d == 31) (record s { sp = value }) (record s { x = slice_set s.x d value })

-- the registers with these flags
unfoldable pub with_flags : Scalars → Nzcv → Scalars
with_flags s flags = record s { n = flags.n; z = flags.z; c = flags.c; v = flags.v }

-- the address of the next instruction
abbrev pub next_address : ℕ → ℕ
next_address pc = (pc + 4) % 2 ^ 64

-- on to the next instruction
unfoldable pub past : Scalars → Scalars
past s = record s { pc = next_address s.pc }
