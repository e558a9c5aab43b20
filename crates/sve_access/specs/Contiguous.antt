-- Where a contiguous access of vectors or predicates is in memory, and the sizes of its elements there and in
-- the register. A vector has L bytes.
-- Source: DDI 0487, C8.2: LD1B, LD1SB, LD1H, LD1SH, LD1W, LD1SW, LD1D, ST1B, ST1H, ST1W and ST1D (scalar plus
-- immediate, scalar plus scalar), LDR and STR (vector, predicate). Addresses are taken modulo 2 ^ 64.
use Rattle.std.specs.Prelude.{ℕ, ◌+◌, ◌*◌, ◌/◌, ◌%◌, ◌^◌, Bool, true, false, if◌then◌else◌, ℤ, pos, ◌*ℤ◌}
use Rattle.std.specs.Prelude.{unwrap_or}
use Rattle.sm_types.specs.declared.scalars.Scalars.{Scalars}
use Rattle.sm_types.specs.declared.vector as types
use types.{Elem.Elem, LoadType.LoadType, VectorOffset.VectorOffset}
use types.LoadType.TheVariants.{ByteToB, ByteToH, ByteToS, ByteToD, SignedWordToD, HalfwordToH, HalfwordToS}
use types.LoadType.TheVariants.{HalfwordToD, SignedHalfwordToD, SignedHalfwordToS, WordToS, WordToD}
use types.LoadType.TheVariants.{SignedByteToD, SignedByteToS, SignedByteToH, DoublewordToD}
use types.VectorOffset.TheVariants.{Vectors, Register}
use Rattle.vector_elements.specs.declared.size.Size.{Size}
use Rattle.vector_elements.specs.declared.size.Size.TheVariants.{B, H, S, D}
use Rattle.vector_elements.specs.Numbers.{bytes_in, signed_of, wrapped, size_in}
use Rattle.scalar_exec.specs.Registers.{x_of}
use Rattle.scalar_exec.specs.Branches.{address_at}

-- the size of elements; no access of this group has those of 128 bits
abbrev pub size_of : Elem → Size
size_of elem = unwrap_or (size_in elem) D

-- what a load reads of memory for an element
abbrev pub memory_size : LoadType → Size
memory_size ByteToB = B
memory_size ByteToH = B
memory_size ByteToS = B
memory_size ByteToD = B
memory_size SignedWordToD = S
memory_size HalfwordToH = H
memory_size HalfwordToS = H
memory_size HalfwordToD = H
memory_size SignedHalfwordToD = H
memory_size SignedHalfwordToS = H
memory_size WordToS = S
memory_size WordToD = S
memory_size SignedByteToD = B
memory_size SignedByteToS = B
memory_size SignedByteToH = B
memory_size DoublewordToD = D

-- the element that it makes of it
abbrev pub element_size : LoadType → Size
element_size ByteToB = B
element_size ByteToH = H
element_size ByteToS = S
element_size ByteToD = D
element_size SignedWordToD = D
element_size HalfwordToH = H
element_size HalfwordToS = S
element_size HalfwordToD = D
element_size SignedHalfwordToD = D
element_size SignedHalfwordToS = S
element_size WordToS = S
element_size WordToD = D
element_size SignedByteToD = D
element_size SignedByteToS = S
element_size SignedByteToH = H
element_size DoublewordToD = D

-- it extends by the sign
abbrev pub is_signed : LoadType → Bool
is_signed ByteToB = false
is_signed ByteToH = false
is_signed ByteToS = false
is_signed ByteToD = false
is_signed SignedWordToD = true
is_signed HalfwordToH = false
is_signed HalfwordToS = false
is_signed HalfwordToD = false
is_signed SignedHalfwordToD = true
is_signed SignedHalfwordToS = true
is_signed WordToS = false
is_signed WordToD = false
is_signed SignedByteToD = true
is_signed SignedByteToS = true
is_signed SignedByteToH = true
is_signed DoublewordToD = false

-- the number that was read, as an element
unfoldable pub loaded : LoadType → ℕ → ℕ
loaded kind number =
    if is_signed kind then wrapped (element_size kind) (signed_of (memory_size kind) number) else number

-- an address so many times so many bytes from a base
abbrev pub multiple_from : ℕ → ℤ → ℕ → ℕ
multiple_from base times bytes = address_at base (times *ℤ pos bytes)

-- the address of element 0: an immediate counts all bytes that L bytes of elements have in memory, a register
-- one element's
unfoldable pub first_address : VectorOffset → Size → Size → ℕ → ℕ → Scalars → ℕ
first_address (Vectors imm) memory element l base s =
    multiple_from base imm (l / bytes_in element * bytes_in memory)
first_address (Register rm) memory element l base s = (base + x_of s rm * bytes_in memory) % 2 ^ 64
