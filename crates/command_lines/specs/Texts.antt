-- The texts that do not depend on a program: the line of a fault of the words, the text of help, and the
-- version.
use Rattle.std.specs.Prelude.{◌≡◌, ℕ, ◌++◌, ◌==◌, ◌&&◌, ◌||◌, nat_le, ◌∷◌, [], Bool, false, List, decimal}
use Rattle.std.specs.Prelude.{codes}
use Rattle.std.specs.List.{concat}
use Rattle.cmd_words.specs.Options.{default_of}
use Rattle.cmd_words.specs.Words.{Fault}
use Rattle.cmd_words.specs.declared.command.UsageKind.{UsageKind}
use Rattle.cmd_words.specs.declared.command.UsageKind.TheVariants.{Unknown, Missing, Repeated, BadNumber}
use Rattle.cmd_words.specs.declared.command.UsageKind.TheVariants.{OutOfRange, Extra}
use Rattle.cmd_words.specs.declared.setting.Setting.{Setting}
use Rattle.cmd_words.specs.declared.setting.Setting.TheVariants.{Vl, Svl, Slice, Budget, Threads, Cores}
use Rattle.command_lines.specs.declared.help.TheConstants.{HELP, VERSION}
use Rattle.command_lines.specs.declared.status.Status.{Status}
use Rattle.command_lines.specs.declared.status.Status.TheVariants.{Done, Usage, Absent, ReadFault, WriteFault}
use Rattle.command_lines.specs.declared.status.Status.TheVariants.{BadFile, BadSource, OutOfMemory, BadReport}
use Rattle.command_lines.specs.declared.status.Status.TheVariants.{Differs, BadPlan, BadCheckpoint, Unlawful}
use Rattle.command_lines.specs.declared.status.Status.TheVariants.{BadVectors}
use Rattle.command_lines.specs.Status.{code_of}

-- what is wrong with a word
abbrev pub kind_word : UsageKind → List ℕ
kind_word Unknown = codes "unknown"
kind_word Missing = codes "missing"
kind_word Repeated = codes "repeated"
kind_word BadNumber = codes "badnumber"
kind_word OutOfRange = codes "outofrange"
kind_word Extra = codes "extra"

-- the line of a fault of the words: its place and what is wrong there
unfoldable pub usage_line : Fault → List ℕ
usage_line fault =
    concat (codes "usage: word " ∷ decimal fault.place ∷ codes ": " ∷ kind_word fault.kind ∷ codes "\n" ∷ [])

-- the numbers that an option takes, as help says them: each of some, or those from one to another
pub data Numbers : Type 0 where
  OneOf : List ℕ → Numbers
  FromTo : ℕ → ℕ → Numbers

abbrev pub numbers_taken : Setting → Numbers
numbers_taken Vl = OneOf (128 ∷ 256 ∷ 512 ∷ 1024 ∷ 2048 ∷ [])
numbers_taken Svl = OneOf (128 ∷ 256 ∷ 512 ∷ 1024 ∷ 2048 ∷ [])
numbers_taken Slice = FromTo 1 1000000
numbers_taken Budget = FromTo 1 4294967295
numbers_taken Threads = FromTo 1 32
numbers_taken Cores = FromTo 1 64

abbrev pub is_among : ℕ → List ℕ → Bool
is_among n [] = false
is_among n (m ∷ ms) = (n == m) || is_among n ms

-- a number is one of them
abbrev pub has_number : Numbers → ℕ → Bool
has_number (OneOf ms) n = is_among n ms
has_number (FromTo least most) n = nat_le least n && nat_le n most

-- some numbers after the first
abbrev pub listed : List ℕ → List ℕ
listed [] = []
listed (n ∷ []) = codes " or " ++ decimal n
listed (n ∷ m ∷ ms) = codes ", " ++ (decimal n ++ listed (m ∷ ms))

abbrev pub numbers_text : Numbers → List ℕ
numbers_text (OneOf []) = []
numbers_text (OneOf (n ∷ ms)) = decimal n ++ listed ms
numbers_text (FromTo least most) = decimal least ++ (codes " to " ++ decimal most)

-- an option with what it is
abbrev pub option_word : Setting → List ℕ
option_word Vl = codes "  --vl BITS     vector length outside streaming mode: "
option_word Svl = codes "  --svl BITS    vector length in streaming mode: "
option_word Slice = codes "  --slice N     instructions between polls of the pending signals: "
option_word Budget = codes "  --budget N    instructions after which a thread is stopped: "
option_word Threads = codes "  --threads N   guest threads: "
option_word Cores = codes "  --cores N     cores: "

-- what the text of help says of an option: the numbers that it takes, and the one where it is not given
abbrev pub option_line : Setting → List ℕ
option_line setting =
    option_word setting
    ++ (numbers_text (numbers_taken setting) ++ (codes "; else " ++ (decimal (default_of setting)
    ++ codes "\n")))

-- how the text that is written with a status begins, or what became of it
abbrev pub status_words : Status → List ℕ
status_words Done = codes "the text was written\n"
status_words Usage = codes "usage: word "
status_words Absent = codes "absent: "
status_words ReadFault = codes "read fault: "
status_words WriteFault = codes "the output could not be written\n"
status_words BadFile = codes "bad file: "
status_words BadSource = codes "bad source: line "
status_words OutOfMemory = codes "there was no memory\n"
status_words BadReport = codes "bad report: line "
status_words Differs = codes "differs: "
status_words BadPlan = codes "bad plan: line "
status_words BadCheckpoint = codes "bad checkpoint: "
status_words Unlawful = codes "unlawful: count "
status_words BadVectors = codes "bad vectors: "

-- what the text of help says of a status, from the end of the line before: the number that the process
-- ends with, and those words
abbrev pub status_line : Status → List ℕ
status_line status = codes "\n  " ++ (decimal (code_of status) ++ (codes "   " ++ status_words status))

-- the text begins with that part
abbrev pub HasFront : List ℕ → List ℕ → Type 0
HasFront text part = (rest : List ℕ) × (text ≡ part ++ rest)

-- the text has that part
abbrev pub HasPart : List ℕ → List ℕ → Type 0
HasPart text part = (front : List ℕ) × (rest : List ℕ) × (text ≡ front ++ (part ++ rest))

-- the text of help
unfoldable pub help_text : List ℕ
help_text = HELP.now

-- the line of the version
unfoldable pub version_text : List ℕ
version_text = VERSION.now
