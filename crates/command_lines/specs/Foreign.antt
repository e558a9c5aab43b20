-- Words of a command line of which one is no text. Source: this project's own command line.
use Rattle.std.specs.Prelude.{ℕ, [], List, length, nat_lt, Option, Some, None, Ok, Err, if◌then◌else◌}
use Rattle.edge_io.specs.Sink.{SinkView, Writes}
use Rattle.edge_io.specs.declared.sink.PutFault.TheVariants.{Failed}
use Rattle.cmd_words.specs.Words.{Fault, usage_fault}
use Rattle.cmd_words.specs.declared.command.UsageKind.TheVariants.{Unknown}
use Rattle.command_lines.specs.Texts.{usage_line}
use Rattle.command_lines.specs.declared.status.Status.{Status}
use Rattle.command_lines.specs.declared.status.Status.TheVariants.{Usage, WriteFault, OutOfMemory}

-- the fault, where it stands before the place; else the word at the place is unknown
abbrev pub earlier_fault : Option Fault → ℕ → Fault
earlier_fault None place = record { place = place; kind = Unknown }
earlier_fault (Some fault) place =
    (if nat_lt fault.place place then fault else record { place = place; kind = Unknown })

-- the first fault of words of which the one after these is no text
abbrev pub foreign_fault : List (List ℕ) → Fault
foreign_fault words = earlier_fault (usage_fault words) (length words)

-- the line of that fault was written, with Usage, or a part of it, with WriteFault; or nothing, with
-- OutOfMemory
abbrev pub EndsForeign : SinkView → SinkView → List (List ℕ) → Status → Type 0
EndsForeign old new words Usage = Writes old new (Ok tt) (usage_line (foreign_fault words))
EndsForeign old new words WriteFault = Writes old new (Err Failed) (usage_line (foreign_fault words))
EndsForeign old new words OutOfMemory = Writes old new (Ok tt) []
EndsForeign old new words other = ⊥
