-- A page of code that is held.
use Rattle.std.specs.Prelude.{◌≡◌, ℕ, ◌/◌, false, List, length, Some}
use Rattle.std.specs.Arc.{arc_value}
use Rattle.std.specs.FinSet.{contains}
use Rattle.paged_memory.specs.Memory.{bytes_with}
use Rattle.paged_memory.specs.PageTable.{PageTable}
use Rattle.paged_memory.specs.declared.code.Code.{Code}

abbrev pub code_bytes : Code → List ℕ
code_bytes code = (arc_value code.bytes).items

-- it has the bytes of the page from an address on, which can be executed and is not owned
pub record IsHeld (code : Code) (base : ℕ) (pages : PageTable) : Type 0 where
  pub full : length (code_bytes code) ≡ 4096
  pub bytes : bytes_with 1 pages.memory base 4096 ≡ Some (code_bytes code)
  pub shared : contains pages.owned (base / 4096) ≡ false
