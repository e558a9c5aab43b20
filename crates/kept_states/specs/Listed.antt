-- Pages that are listed with copies of the bytes that kept states share.
use Rattle.std.specs.Prelude.{◌≡◌, ℕ, List, map}
use Rattle.paged_memory.specs.declared.page_list.PageImage.{PageImage}
use Rattle.kept_states.specs.Pages.{bytes_of}
use Rattle.kept_states.specs.declared.pages.SharedPage.{SharedPage}

-- address, flags and bytes
abbrev pub image_parts : PageImage → ℕ × ℕ × List ℕ
image_parts page = (page.address, page.flags, page.bytes.items)

abbrev pub shared_parts : SharedPage → ℕ × ℕ × List ℕ
shared_parts page = (page.address, page.flags, bytes_of page)

-- they are the same pages, in the same order
abbrev pub AreSame : List PageImage → List SharedPage → Type 0
AreSame list pages = map image_parts list ≡ map shared_parts pages
