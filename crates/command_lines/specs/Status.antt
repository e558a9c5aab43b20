-- The exit status of each answer.
use Rattle.std.specs.Prelude.{ℕ}
use Rattle.command_lines.specs.declared.status.Status.{Status}
use Rattle.command_lines.specs.declared.status.Status.TheVariants.{Done, Usage, Absent, ReadFault, WriteFault}
use Rattle.command_lines.specs.declared.status.Status.TheVariants.{BadFile, BadSource, OutOfMemory, BadReport}
use Rattle.command_lines.specs.declared.status.Status.TheVariants.{Differs, BadPlan, BadCheckpoint, Unlawful}
use Rattle.command_lines.specs.declared.status.Status.TheVariants.{BadVectors}

abbrev pub code_of : Status → ℕ
code_of Done = 0
code_of Usage = 2
code_of Absent = 3
code_of ReadFault = 4
code_of WriteFault = 5
code_of BadFile = 6
code_of BadSource = 7
code_of OutOfMemory = 8
code_of BadReport = 9
code_of Differs = 10
code_of BadPlan = 11
code_of BadCheckpoint = 12
code_of Unlawful = 13
code_of BadVectors = 14
