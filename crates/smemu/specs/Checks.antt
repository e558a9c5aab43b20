-- The check of the marked calls of a thread of a report: what is written of it.
use Rattle.std.specs.Prelude.{◌≡◌, ℕ, List, codes}
use Rattle.abi_checker.specs.Checked.{IsChecked}
use Rattle.abi_checker.specs.declared.abi.Abi.{Abi}
use Rattle.abi_checker.specs.declared.abi.Abi.TheVariants.{Yes, No}
use Rattle.abi_checker.specs.declared.abi.AbiKind.{AbiKind}
use Rattle.abi_checker.specs.declared.abi.AbiKind.TheVariants.{NotDormant, NotLawful, TooDeep}
use Rattle.command_lines.specs.LawLines.{lawful_line, unlawful_line}
use Rattle.smemu.specs.Replay.{IsBlockIn}

-- this is told of the run of a thread of a report, over the journal and to the count of its block
pub record IsCheckOf (file report : List ℕ) (thread : ℕ) (abi : Abi) : Type 0 where
  pub at : IsBlockIn file report thread
  pub checked : IsChecked at.program at.config thread at.block.journal at.block.count abi

-- no marked call of the thread is at fault, and the text says how many returned, and how many did not
pub record IsLawfulOf (file report : List ℕ) (thread : ℕ) (text : List ℕ) : Type 0 where
  pub calls : ℕ
  pub unreturned : ℕ
  pub check : IsCheckOf file report thread (Yes calls unreturned)
  pub is_text : text ≡ lawful_line calls unreturned

-- the kind of a fault
abbrev pub kind_word : AbiKind → List ℕ
kind_word NotDormant = codes "notdormant"
kind_word NotLawful = codes "notlawful"
kind_word TooDeep = codes "toodeep"

-- the text is the line of the first fault of a marked call of the thread
pub record IsUnlawfulOf (file report : List ℕ) (thread : ℕ) (text : List ℕ) : Type 0 where
  pub count : ℕ
  pub pc : ℕ
  pub kind : AbiKind
  pub check : IsCheckOf file report thread (No count pc kind)
  pub is_text : text ≡ unlawful_line count pc (kind_word kind)
