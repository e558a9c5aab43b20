-- How two texts of one ending agree.
use Rattle.std.specs.Prelude.{◌≡◌, ℕ, List}
use Rattle.cmd_words.specs.declared.verb.Verb.{Verb}
use Rattle.cmd_words.specs.declared.verb.Verb.TheVariants.{Run, Asm, Bench}
use Rattle.command_lines.specs.declared.status.Status.{Status}
use Rattle.command_lines.specs.declared.status.Status.TheVariants.{Done}
use Rattle.paged_memory.specs.Image.{Program}
use Rattle.elf_loader.specs.Loading.{Loads}

-- two files are loaded as one program
abbrev pub AreLoadedAsOne : List ℕ → List ℕ → Type 0
AreLoadedAsOne file other = (program : Program) × Loads file program × Loads other program

-- two texts of a command on so many cores and a status are one; of an assembled program, two files that are
-- loaded as one program. Two reports of a run, and two lines of a workload, are one where it has one core: on
-- more, who comes first to a shared word is left open
abbrev pub AreOneText : Verb → ℕ → Status → List ℕ → List ℕ → Type 0
AreOneText Run cores Done text other = cores ≡ 1 → text ≡ other
AreOneText Bench cores Done text other = cores ≡ 1 → text ≡ other
AreOneText Asm cores Done text other = AreLoadedAsOne text other
AreOneText verb cores status text other = text ≡ other
