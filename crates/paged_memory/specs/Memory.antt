-- The private memory of a guest thread: a byte at each address of its pages, and the permission of each page.
-- Source: DDI 0487, D8 (translation granule of 4 KiB, permissions to read, write and execute), with addresses
-- modulo 2 ^ 64.
use Rattle.std.specs.Prelude.{◌≡◌, ℕ, zero, suc, ◌+◌, ◌*◌, ◌/◌, ◌%◌, ◌^◌, ◌<◌, is_some, Bool, cond, List, []}
use Rattle.std.specs.Prelude.{◌∷◌, ◌++◌, Option, Some, None, bit_and, ◌==◌, refl, option_map, replicate}
use Rattle.std.specs.Prelude.{unwrap_or}
use Rattle.std.specs.FinMap.{FinMap, get, insert, empty}
use Rattle.std.specs.FinMap as map
use Rattle.std.specs.Option.{option_or}
use Rattle.std.specs.Ordering.{nat_cmp}
use Rattle.std.specs.Coded.{Coded, code_by, coded×, coded_ℕ}
use Rattle.sm_types.specs.Bytes.{little_number}

pub record AddressSpace : Type 0 where
  -- from address to byte
  pub mem : FinMap nat_cmp ℕ
  -- from the number of a page, its address over 4096, to its permission: a sum of execute 1, write 2 and read
  -- 4
  pub perm : FinMap nat_cmp ℕ

-- a memory, seen as a pair of maps
abbrev pub memory_code : Coded AddressSpace
memory_code =
    code_by (FinMap nat_cmp ℕ × FinMap nat_cmp ℕ) (coded× (map.code coded_ℕ coded_ℕ)
    (map.code coded_ℕ coded_ℕ)) (λ m. (m.mem, m.perm)) (λ p. record { mem = p.0; perm = p.1 }) (λ _. refl)

-- no page
abbrev pub no_memory : AddressSpace
no_memory = record { mem = empty; perm = empty }

-- the addresses that have a byte are those of the pages, and each permission is a sum of execute, write and
-- read
pub record IsWhole (m : AddressSpace) : Type 0 where
  pub bytes : (a : ℕ) → is_some (get m.mem a) ≡ is_some (get m.perm (a / 4096))
  pub flags : (n flags : ℕ) → get m.perm n ≡ Some flags → flags < 8

-- the flags have the permission, which is one of execute 1, write 2 and read 4
abbrev pub permits : ℕ → ℕ → Bool
permits need flags = bit_and flags need == need

-- the byte, where there is a page and its flags have the permission
abbrev pub permitted : ℕ → Option ℕ → Option ℕ → Option ℕ
permitted need None byte = None
permitted need (Some flags) byte = cond (permits need flags) byte None

-- the byte at an address whose page has the permission
unfoldable pub byte_with : ℕ → AddressSpace → ℕ → Option ℕ
byte_with need m a = permitted need (get m.perm (a / 4096)) (get m.mem a)

-- a list with one more byte at its end
abbrev pub and_byte : Option (List ℕ) → Option ℕ → Option (List ℕ)
and_byte None b = None
and_byte (Some bs) None = None
and_byte (Some bs) (Some b) = Some (bs ++ b ∷ [])

-- the n bytes from an address on, where each has the permission
unfoldable pub bytes_with : ℕ → AddressSpace → ℕ → ℕ → Option (List ℕ)
bytes_with need m a zero = Some []
bytes_with need m a (suc n) = and_byte (bytes_with need m a n) (byte_with need m ((a + n) % 2 ^ 64))

-- the address, where it has no byte
abbrev pub unless_there : ℕ → Option ℕ → Option ℕ
unless_there a None = Some a
unless_there a (Some b) = None

-- the first of the n addresses from an address on that has no byte with the permission
unfoldable pub first_without : ℕ → AddressSpace → ℕ → ℕ → Option ℕ
first_without need m a zero = None
first_without need m a (suc n) =
    option_or (first_without need m a n) (unless_there ((a + n) % 2 ^ 64)
    (byte_with need m ((a + n) % 2 ^ 64)))

-- so many addresses, one after another
unfoldable pub run_of : ℕ → ℕ → List ℕ
run_of a zero = []
run_of a (suc n) = a % 2 ^ 64 ∷ run_of (a + 1) n

-- the word of the four bytes at an address, where each is in an executable page
unfoldable pub word_at : AddressSpace → ℕ → Option ℕ
word_at m pc = option_map little_number (bytes_with 1 m pc 4)

-- the bytes as they stand after some are set from an address on
unfoldable pub set_bytes : FinMap nat_cmp ℕ → ℕ → List ℕ → FinMap nat_cmp ℕ
set_bytes mem a [] = mem
set_bytes mem a (b ∷ bs) = set_bytes (insert mem (a % 2 ^ 64) b) (a + 1) bs

-- the memory with one more page
unfoldable pub with_page : AddressSpace → ℕ → ℕ → List ℕ → AddressSpace
with_page m number flags bytes =
    record { mem = set_bytes m.mem (4096 * number) bytes; perm = insert m.perm number flags }

-- a page of zeros
unfoldable pub zero_page : List ℕ
zero_page = replicate 4096 0

-- the memory with some more pages of zeros, from a page on
unfoldable pub with_zero_pages : AddressSpace → ℕ → ℕ → ℕ → AddressSpace
with_zero_pages m number flags zero = m
with_zero_pages m number flags (suc n) =
    with_page (with_zero_pages m number flags n) (number + n) flags zero_page

-- the memory with the stack: 64 pages of zeros that can be read and written, the last below 0x7E0000000000
unfoldable pub with_stack : AddressSpace → AddressSpace
with_stack m = with_zero_pages m 0x7DFFFFFC0 6 64

-- the n bytes from an address on, whatever their permission
unfoldable pub bytes_from : FinMap nat_cmp ℕ → ℕ → ℕ → List ℕ
bytes_from mem a zero = []
bytes_from mem a (suc n) = unwrap_or (get mem a) 0 ∷ bytes_from mem (a + 1) n
