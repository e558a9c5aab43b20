-- The image of a program: its memory, its entry and its code words. Source: ELF, program headers of type
-- LOAD.
use Rattle.std.specs.Prelude.{◌≡◌, ℕ, ◌+◌, ◌-◌, ◌/◌, ◌<◌, ◌≤◌, ◌^◌, ◌⊎◌, cond, List, [], ◌∷◌, Option, Some}
use Rattle.std.specs.Prelude.{None, ◌&&◌, nat_lt, nat_le, slice_get, bit_or, refl, IsSome}
use Rattle.std.specs.FinMap.{get, len}
use Rattle.std.specs.Coded.{Coded, code_by, coded×, coded_ℕ, coded_list}
use Rattle.std.specs.Option.{option_or}
use Rattle.paged_memory.specs.Memory.{AddressSpace, IsWhole, memory_code}
use Rattle.paged_memory.specs.declared.image.Part.{Part}

pub record Program : Type 0 where
  pub memory : AddressSpace
  -- the address of the first instruction
  pub entry : ℕ
  -- the code words, each with its address
  pub code : List (ℕ × ℕ)

-- bytes at an address, with zeros after them up to a size; flags are a sum of execute 1, write 2 and read 4
pub record Extent : Type 0 where
  pub address : ℕ
  pub size : ℕ
  pub flags : ℕ
  pub bytes : List ℕ

-- what a part of a program is
abbrev pub extent_of : Part → Extent
extent_of part =
    record { address = part.address; size = part.size; flags = part.flags; bytes = part.bytes.now }

-- flags of both
abbrev pub union : Option ℕ → Option ℕ → Option ℕ
union None b = b
union (Some a) None = Some a
union (Some a) (Some b) = Some (bit_or a b)

-- the flags of a part, at a page that it touches
abbrev pub part_flags : Extent → ℕ → Option ℕ
part_flags part n =
    cond (nat_lt 0 part.size && nat_le (part.address / 4096) n
    && nat_le n ((part.address + part.size - 1) / 4096)) (Some part.flags) None

-- the union of the flags of the parts that touch the page, if any does
unfoldable pub image_flags : List Extent → ℕ → Option ℕ
image_flags [] n = None
image_flags (part ∷ parts) n = union (part_flags part n) (image_flags parts n)

-- a byte, or a zero where there is none
abbrev pub or_zero : Option ℕ → ℕ
or_zero None = 0
or_zero (Some b) = b

-- the byte of a part at an address that it has: one of its bytes, or a zero past them
abbrev pub part_byte : Extent → ℕ → Option ℕ
part_byte part a =
    cond (nat_le part.address a && nat_lt a (part.address + part.size))
    (Some (or_zero (slice_get part.bytes (a - part.address)))) None

-- the byte of the part that has the address, if one has
unfoldable pub parts_byte : List Extent → ℕ → Option ℕ
parts_byte [] a = None
parts_byte (part ∷ parts) a = option_or (part_byte part a) (parts_byte parts a)

-- a zero, where there is a page
abbrev pub zero_in : Option ℕ → Option ℕ
zero_in None = None
zero_in (Some flags) = Some 0

-- the byte of the parts at an address, and a zero elsewhere in their pages
unfoldable pub image_byte : List Extent → ℕ → Option ℕ
image_byte parts a = option_or (parts_byte parts a) (zero_in (image_flags parts (a / 4096)))

-- the memory has the pages that the parts touch, with their flags and bytes, and no others
pub record IsMemoryOf (parts : List Extent) (m : AddressSpace) : Type 0 where
  pub flags : (n : ℕ) → get m.perm n ≡ image_flags parts n
  pub bytes : (a : ℕ) → get m.mem a ≡ image_byte parts a

-- a program, seen as pairs
abbrev pub program_code : Coded Program
program_code =
    code_by (AddressSpace × (ℕ × List (ℕ × ℕ))) (coded× memory_code
    (coded× coded_ℕ (coded_list (coded× coded_ℕ coded_ℕ)))) (λ p. (p.memory, (p.entry, p.code)))
    (λ t. record { memory = t.0; entry = t.1.0; code = t.1.1 }) (λ _. refl)

-- a page of that number may be an image's: it is below 2 ^ 47 and in neither the stack nor the shared region
abbrev pub IsLoadablePage : ℕ → Type 0
IsLoadablePage n = (n < 2 ^ 35) × ((n < 0x7DFFFFFC0) ⊎ (0x7F0000001 ≤ n))

-- what every image keeps: its memory has exactly the addresses of its pages, and permissions below 8; at most
-- 4,032 pages, each where an image may have one
pub record IsImage (p : Program) : Type 0 where
  pub whole : IsWhole p.memory
  pub few : len p.memory.perm ≤ 4032
  pub places : (n : ℕ) → IsSome (get p.memory.perm n) → IsLoadablePage n
