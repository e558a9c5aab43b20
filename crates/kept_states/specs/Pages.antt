-- Pages that kept states share: which of them a thread may have, and the memory that they make.
use Rattle.std.specs.Prelude.{◌≡◌, ◌≢◌, ℕ, ◌/◌, ◌%◌, ◌<◌, ◌≤◌, List, length, map, All, slice_get, Some}
use Rattle.std.specs.Arc.{arc_value}
use Rattle.std.specs.FinMap.{entries}
use Rattle.sm_types.specs.declared.limits.TheConstants.{PAGE_LIMIT, SHARED_PAGE}
use Rattle.paged_memory.specs.Memory.{AddressSpace, IsWhole, bytes_from}
use Rattle.kept_states.specs.declared.pages.SharedPage.{SharedPage}

-- its bytes
abbrev pub bytes_of : SharedPage → List ℕ
bytes_of page = (arc_value page.bytes).items

-- its number and its flags
abbrev pub entry_of : SharedPage → ℕ × ℕ
entry_of page = (page.address / 4096, page.flags)

-- a page that a thread may have: it stands at a multiple of 4096 and not in the shared region, its flags are
-- a sum of execute 1, write 2 and read 4, and it has 4096 bytes
pub record IsPage (page : SharedPage) : Type 0 where
  pub aligned : page.address % 4096 ≡ 0
  pub private : page.address ≢ SHARED_PAGE
  pub flags : page.flags < 8
  pub full : length (bytes_of page) ≡ 4096

-- each is one, their addresses ascend, and there are no more than a checkpoint has
pub record ArePages (list : List SharedPage) : Type 0 where
  pub each : All IsPage list
  pub ascending :
      (i j : ℕ) (p q : SharedPage) → i < j → slice_get list i ≡ Some p → slice_get list j ≡ Some q
      → p.address < q.address
  pub few : length list ≤ PAGE_LIMIT

-- a memory has exactly these pages
pub record HasShared (m : AddressSpace) (list : List SharedPage) : Type 0 where
  pub pages : entries m.perm ≡ map entry_of list
  pub bytes : All (λ page. bytes_from m.mem page.address 4096 ≡ bytes_of page) list
  pub whole : IsWhole m
