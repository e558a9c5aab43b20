-- What a list of pages holds, by address and by number of page.
-- Source: a page is 4096 bytes from its number times 4096 on.
use Rattle.std.specs.Prelude.{◌≡◌, ℕ, ◌*◌, ◌<◌, ◌^◌, Bool, true, cond, List, [], ◌∷◌, Option, Some, None}
use Rattle.std.specs.Prelude.{◌==◌}
use Rattle.std.specs.Prelude.{length, All, map}
use Rattle.std.specs.FinMap.{FinMap, insert, empty, is_sorted}
use Rattle.std.specs.FinSet.{FinSet}
use Rattle.std.specs.FinSet as set
use Rattle.std.specs.Ordering.{nat_cmp}
use Rattle.paged_memory.specs.declared.page.Page.{Page}
use Rattle.paged_memory.specs.Memory.{AddressSpace, set_bytes}
use Rattle.paged_memory.specs.PageTable.{PageTable}
use Rattle.paged_memory.specs.Image.{Program}

-- the page of that number
abbrev pub page_at : List Page → ℕ → Option Page
page_at [] n = None
page_at (p ∷ ps) n = cond (p.number == n) (Some p) (page_at ps n)

-- the bytes of the pages, by address
unfoldable pub mem_of : List Page → FinMap nat_cmp ℕ
mem_of [] = empty
mem_of (p ∷ ps) = set_bytes (mem_of ps) (4096 * p.number) p.bytes.items

-- the flags of the pages, by number
unfoldable pub perm_of : List Page → FinMap nat_cmp ℕ
perm_of [] = empty
perm_of (p ∷ ps) = insert (perm_of ps) p.number p.flags

-- the memory that the pages make
abbrev pub memory_of : List Page → AddressSpace
memory_of ps = record { mem = mem_of ps; perm = perm_of ps }

-- the numbers of the pages whose bytes are their own
unfoldable pub own_numbers : List Page → FinSet nat_cmp
own_numbers [] = set.empty
own_numbers (p ∷ ps) = cond p.bytes.own (set.insert (own_numbers ps) p.number) (own_numbers ps)

-- the bytes of each page are its own, or of none
abbrev pub AreHeld : Bool → List Page → Type 0
AreHeld own ps = All (λ p. p.bytes.own ≡ own) ps

-- the table of pages, of which each is owned whose bytes are its own
abbrev pub table_of : List Page → PageTable
table_of ps = record { memory = memory_of ps; owned = own_numbers ps }

-- the program of some pages, an entry and code words
abbrev pub program_of : List Page → ℕ → List (ℕ × ℕ) → Program
program_of ps entry code = record { memory = memory_of ps; entry = entry; code = code }

-- number and flags of a page
abbrev pub page_entry : Page → ℕ × ℕ
page_entry p = (p.number, p.flags)

-- each page is whole and below address 2 ^ 64, its flags are a sum of execute, write and read, and the
-- numbers rise
pub record IsFine (ps : List Page) : Type 0 where
  pub full : All (λ p. length p.bytes.items ≡ 4096) ps
  pub flags : All (λ p. p.flags < 8) ps
  pub low : All (λ p. p.number < 2 ^ 52) ps
  pub sorted : is_sorted nat_cmp (map page_entry ps) ≡ true
