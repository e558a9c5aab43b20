-- The pages of a guest thread as its callers see them: the memory that they make, and which of them are
-- owned. An owned page is the thread's alone, and a write to it takes no memory. Source: copy on write, as
-- System V's fork has it.
use Rattle.std.specs.Prelude.{◌≡◌, ℕ, ◌+◌, ◌/◌, ◌%◌, ◌^◌, ◌<◌, ◌==◌, ◌||◌, ◌&&◌, Bool, false, cond, not}
use Rattle.std.specs.Prelude.{List, [], ◌∷◌, refl, IsSome, is_some}
use Rattle.std.specs.Prelude.{IsTrue, Option, Some, None, Result, Ok, Err}
use Rattle.std.specs.List.{list_any}
use Rattle.std.specs.FinMap.{get}
use Rattle.std.specs.FinSet.{FinSet, contains}
use Rattle.std.specs.FinSet as set
use Rattle.std.specs.Ordering.{nat_cmp}
use Rattle.std.specs.Coded.{Coded, code_by, coded×, coded_ℕ}
use Rattle.paged_memory.specs.Memory.{AddressSpace, memory_code}

pub record PageTable : Type 0 where
  pub memory : AddressSpace
  -- the numbers of the owned pages
  pub owned : FinSet nat_cmp

-- a page table, seen as a pair
abbrev pub page_table_code : Coded PageTable
page_table_code =
    code_by (AddressSpace × FinSet nat_cmp) (coded× memory_code (set.code coded_ℕ))
    (λ t. (t.memory, t.owned)) (λ p. record { memory = p.0; owned = p.1 }) (λ _. refl)

-- the page of that number is owned
abbrev pub IsOwned : PageTable → ℕ → Type 0
IsOwned t n = IsTrue (contains t.owned n)

-- one of the bytes at these addresses lies in the page of that number, and there is such a page
abbrev pub is_touched : AddressSpace → List ℕ → ℕ → Bool
is_touched m addresses number =
    list_any (λ a. a / 4096 == number) addresses && is_some (get m.perm number)

-- the owned pages are exactly those that were, and besides them the pages of the bytes at these addresses
abbrev pub OwnsAlso : PageTable → PageTable → List ℕ → Type 0
OwnsAlso old new addresses =
    (number : ℕ) →
    contains new.owned number ≡ (is_touched old.memory addresses number || contains old.owned number)

-- the pages of the n bytes from an address on are owned, where there are such pages
abbrev pub AreOwned : PageTable → ℕ → ℕ → Type 0
AreOwned t address n =
    (k : ℕ) → k < n → IsSome (get t.memory.perm ((address + k) % 2 ^ 64 / 4096))
    → IsOwned t ((address + k) % 2 ^ 64 / 4096)

-- the owned pages stay owned
abbrev pub KeepsOwned : PageTable → PageTable → Type 0
KeepsOwned old new = (n : ℕ) → IsOwned old n → IsOwned new n

-- the owned pages are those that were; the bytes of the others, and all permissions, stay
pub record KeepsShared (old new : PageTable) : Type 0 where
  pub owned : new.owned ≡ old.owned
  pub flags : new.memory.perm ≡ old.memory.perm
  pub bytes : (address : ℕ) → contains old.owned (address / 4096) ≡ false
      → get new.memory.mem address ≡ get old.memory.mem address

-- the page table after a refusal: as it was where a cause is named; want of memory names none, and more pages
-- may then be owned
abbrev pub IsRefused : {Cause : Type 0} → PageTable → PageTable → Option Cause → Type 0
IsRefused old new (Some cause) = new ≡ old
IsRefused old new None = KeepsOwned old new

-- the owned pages after an answer: Ok owns besides exactly the pages of the bytes that are written
abbrev pub Owns : {Value Stop Cause : Type 0}
    → (Stop → Option Cause) → List ℕ → PageTable → PageTable → Result Value Stop → Type 0
Owns cause_of written old new (Ok value) = OwnsAlso old new written
Owns cause_of written old new (Err stop) = IsRefused old new (cause_of stop)

-- the pages of the bytes at these addresses that are not owned yet
unfoldable pub shared_pages : PageTable → List ℕ → FinSet nat_cmp
shared_pages t [] = set.empty
shared_pages t (a ∷ addresses) =
    cond (is_some (get t.memory.perm (a / 4096)) && not (contains t.owned (a / 4096)))
    (set.insert (shared_pages t addresses) (a / 4096)) (shared_pages t addresses)

-- how many pages are owned
abbrev pub owned_count : PageTable → ℕ
owned_count t = set.len t.owned
