-- Lists of pages with their addresses, and which of them make a memory. Source: the table of pages in a file
-- of a thread's state, which has them by ascending address and none in the shared region.
use Rattle.std.specs.Prelude.{◌≡◌, ◌≢◌, ℕ, ◌/◌, ◌%◌, ◌<◌, ◌≤◌, List, length, All, slice_get, Some}
use Rattle.paged_memory.specs.declared.page.Page.{Page}
use Rattle.paged_memory.specs.declared.page_list.PageImage.{PageImage}
use Rattle.paged_memory.specs.Memory.{AddressSpace, bytes_from}
use Rattle.paged_memory.specs.PageBytes.{own_bytes}

-- a page of a list may be a thread's: it stands at a multiple of 4096 and not in the shared region, its flags
-- are a sum of execute 1, write 2 and read 4, and it has 4096 bytes
pub record IsPageImage (page : PageImage) : Type 0 where
  pub aligned : page.address % 4096 ≡ 0
  pub private : page.address ≢ 0x7F0000000000
  pub flags : page.flags < 8
  pub full : length page.bytes.items ≡ 4096

-- pages that make a memory: each may be a thread's, their addresses ascend, and there are at most 4096
pub record IsPageList (list : List PageImage) : Type 0 where
  pub each : All IsPageImage list
  pub ascending :
      (i j : ℕ) (p q : PageImage) → i < j → slice_get list i ≡ Some p → slice_get list j ≡ Some q
      → p.address < q.address
  pub few : length list ≤ 4096

-- number and flags of a page of a list
abbrev pub image_entry : PageImage → ℕ × ℕ
image_entry page = (page.address / 4096, page.flags)

-- the memory has the bytes of a page of a list
abbrev pub HasPage : AddressSpace → PageImage → Type 0
HasPage m page = bytes_from m.mem page.address 4096 ≡ page.bytes.items

-- the page that is made of one of a list
abbrev pub page_made : PageImage → Page
page_made page =
    record { number = page.address / 4096; flags = page.flags; bytes = own_bytes page.bytes.items }
