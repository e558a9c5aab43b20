-- The words of the command line, without the program's name: what they ask for, or which is the first at
-- fault and why. Places count words from 0. Source: this project's own command line.
use Rattle.std.specs.Prelude.{ℕ, ◌+◌, ◌-◌, ◌%◌, ◌==◌, ◌&&◌, nat_le, nat_lt, Bool, false, List, [], ◌∷◌, length}
use Rattle.std.specs.Prelude.{slice_get, Option, Some, None, is_some, is_none, option_map, option_and_then}
use Rattle.std.specs.Prelude.{unwrap_or, codes, drop, if◌then◌else◌}
use Rattle.std.specs.List.{find, range_with_len}
use Rattle.std.specs.Option.{option_map_or}
use Rattle.std.specs.Str.{bytes_eq}
use Rattle.line_reader.specs.Numbers.{is_decimal, decimal_value}
use Rattle.cmd_words.specs.Forms.{Form, form_of, options_from}
use Rattle.sm_types.specs.declared.numbers.Numbers.{Numbers}
use Rattle.cmd_words.specs.Options.{default_options, word_of, setting_in, takes, default_of}
use Rattle.cmd_words.specs.Options.{with_numbers}
use Rattle.cmd_words.specs.declared.command.UsageKind.{UsageKind}
use Rattle.cmd_words.specs.declared.command.UsageKind.TheVariants.{Unknown, Missing, Repeated, BadNumber}
use Rattle.cmd_words.specs.declared.command.UsageKind.TheVariants.{OutOfRange, Extra}
use Rattle.cmd_words.specs.declared.form.Operand.{Operand}
use Rattle.cmd_words.specs.declared.form.Operand.TheVariants.{Name, Thread, Workload, Count}
use Rattle.cmd_words.specs.declared.setting.Setting.{Setting}
use Rattle.cmd_words.specs.declared.verb.Verb.{Verb}
use Rattle.cmd_words.specs.declared.verb.Verb.TheVariants.{Run, Sim, Dis, Asm, Replay, Debug, Ckpt, Resume}
use Rattle.cmd_words.specs.declared.verb.Verb.TheVariants.{AbiCheck, Vectors, Gen, Bench, Help, Version}

-- the command of a word
unfoldable pub verb_of : List ℕ → Option Verb
verb_of word =
    if bytes_eq word (codes "run") then Some Run
    else (if bytes_eq word (codes "sim") then Some Sim
    else (if bytes_eq word (codes "dis") then Some Dis
    else (if bytes_eq word (codes "asm") then Some Asm
    else (if bytes_eq word (codes "replay") then Some Replay
    else (if bytes_eq word (codes "debug") then Some Debug
    else (if bytes_eq word (codes "ckpt") then Some Ckpt
    else (if bytes_eq word (codes "resume") then Some Resume
    else (if bytes_eq word (codes "abi-check") then Some AbiCheck
    else (if bytes_eq word (codes "vectors") then Some Vectors
    else (if bytes_eq word (codes "gen") then Some Gen
    else (if bytes_eq word (codes "bench") then Some Bench
    else (if bytes_eq word (codes "--help") then Some Help
    else (if bytes_eq word (codes "--version") then Some Version
    else None)))))))))))))

-- the form of the command that the first word is
abbrev pub form_asked : List (List ℕ) → Option Form
form_asked words = option_map form_of (option_and_then verb_of (slice_get words 0))

-- an option is to stand at the place, and not the value of one: at each second place from that of the first
-- option on
abbrev pub is_option_place : Form → ℕ → Bool
is_option_place form place = nat_le (options_from form) place && ((place - options_from form) % 2 == 0)

-- that word stands at the place as an option
abbrev pub stands_at : Form → List (List ℕ) → List ℕ → ℕ → Bool
stands_at form words option place =
    is_option_place form place && option_map_or (bytes_eq option) (slice_get words place) false

-- the places below n, from left to right
abbrev pub places : ℕ → List ℕ
places n = range_with_len 0 n

-- the first place below n at which that word stands as an option
unfoldable pub option_place : Form → List (List ℕ) → List ℕ → ℕ → Option ℕ
option_place form words option n = find (stands_at form words option) (places n)

-- ---- what is wrong at a place, with the word that stands there

-- a command is to stand
abbrev pub command_fault : Option (List ℕ) → Option UsageKind
command_fault None = Some Missing
command_fault (Some word) = if is_some (verb_of word) then None else Some Unknown

-- a word is to be a number that is taken
abbrev pub number_fault : (ℕ → Bool) → List ℕ → Option UsageKind
number_fault taken word =
    if is_decimal word then (if taken (decimal_value word) then None else Some OutOfRange) else Some BadNumber

-- a word is to be the number of a guest thread, of which a run has at most 32
abbrev pub thread_fault : List ℕ → Option UsageKind
thread_fault = number_fault (λ number. nat_lt number 32)

-- a word is to be the number of a workload
abbrev pub workload_fault : List ℕ → Option UsageKind
workload_fault = number_fault (λ number. nat_le 1 number && nat_le number 20000)

-- a word is to be a count of instructions, which has 32 bits
abbrev pub count_fault : List ℕ → Option UsageKind
count_fault = number_fault (λ number. nat_le number 4294967295)

-- an operand is to stand
abbrev pub operand_fault : Operand → Option (List ℕ) → Option UsageKind
operand_fault operand None = Some Missing
operand_fault Name (Some word) = None
operand_fault Thread (Some word) = thread_fault word
operand_fault Workload (Some word) = workload_fault word
operand_fault Count (Some word) = count_fault word

-- what a word is that is none of the options: one too many, where the command takes none
abbrev pub no_option : List Setting → UsageKind
no_option [] = Extra
no_option (setting ∷ settings) = Unknown

-- an option may stand that does not stand before
abbrev pub option_fault : Form → List (List ℕ) → ℕ → Option (List ℕ) → Option UsageKind
option_fault form words place None = None
option_fault form words place (Some word) =
    if is_none (setting_in form.options word) then Some (no_option form.options)
    else (if is_some (option_place form words word place) then Some Repeated
    else None)

-- a number is to stand that the option takes; where the option is none, the fault is before
abbrev pub value_fault : Option Setting → Option (List ℕ) → Option UsageKind
value_fault setting None = Some Missing
value_fault None (Some word) = None
value_fault (Some setting) (Some word) = number_fault (takes setting) word

-- after a command of that form: its operands, then its options, and after each its value
abbrev pub rest_fault : Form → List (List ℕ) → ℕ → Option Operand → Option UsageKind
rest_fault form words place (Some operand) = operand_fault operand (slice_get words place)
rest_fault form words place None =
    if is_option_place form place then option_fault form words place (slice_get words place)
    else value_fault (option_and_then (setting_in form.options) (slice_get words (place - 1)))
    (slice_get words place)

-- after no command the fault is before
abbrev pub form_fault : Option Form → List (List ℕ) → ℕ → Option UsageKind
form_fault None words place = None
form_fault (Some form) words place = rest_fault form words place (slice_get form.operands (place - 1))

-- what is wrong at a place
unfoldable pub fault_at : List (List ℕ) → ℕ → Option UsageKind
fault_at words place =
    if place == 0 then command_fault (slice_get words 0)
    else form_fault (form_asked words) words place

-- ---- the words as a whole

-- what is wrong with the words, and at which place
pub record Fault : Type 0 where
  pub place : ℕ
  pub kind : UsageKind

-- a fault at a place
abbrev pub place_fault : List (List ℕ) → ℕ → Option Fault
place_fault words place = option_map (λ kind. record { place = place; kind = kind }) (fault_at words place)

-- the first fault from left to right; the last place is that just past the last word
unfoldable pub usage_fault : List (List ℕ) → Option Fault
usage_fault words =
    option_and_then (place_fault words) (find (λ place. is_some (fault_at words place))
    (places (length words + 1)))

-- the number of an option that stands below place n: that of the word after it
unfoldable pub value_below : Form → List (List ℕ) → Setting → ℕ → Option ℕ
value_below form words setting n =
    option_and_then (λ place. option_map decimal_value (slice_get words (place + 1)))
    (option_place form words (word_of setting) n)

-- the number of an option
unfoldable pub number_given : Form → List (List ℕ) → Setting → ℕ
number_given form words setting =
    unwrap_or (value_below form words setting (length words)) (default_of setting)

-- the numbers of the options: of those that the command takes, those that are given
unfoldable pub options_given : Form → List (List ℕ) → Numbers
options_given form words = with_numbers default_options form.options (number_given form words)

-- what an operand says: the name of a file, the number of a guest thread or of a workload, or a count of
-- instructions
pub data Argument : Type 0 where
  NameSaid : List ℕ → Argument
  ThreadSaid : ℕ → Argument
  WorkloadSaid : ℕ → Argument
  CountSaid : ℕ → Argument

abbrev pub argument_of : Operand → List ℕ → Argument
argument_of Name word = NameSaid word
argument_of Thread word = ThreadSaid (decimal_value word)
argument_of Workload word = WorkloadSaid (decimal_value word)
argument_of Count word = CountSaid (decimal_value word)

-- what operands say, each by the word at its place
abbrev pub arguments_of : List Operand → List (List ℕ) → List Argument
arguments_of [] words = []
arguments_of (operand ∷ operands) [] = []
arguments_of (operand ∷ operands) (word ∷ words) = argument_of operand word ∷ arguments_of operands words

-- what words ask for: a command, what its operands say, and the numbers of all options
pub record Request : Type 0 where
  pub verb : Verb
  pub operands : List Argument
  pub options : Numbers

-- what the words of a command ask for
abbrev pub request_for : List (List ℕ) → Verb → Request
request_for words verb = record {
  verb = verb;
  operands = arguments_of (form_of verb).operands (drop 1 words);
  options = options_given (form_of verb) words;
}

-- what words without a fault ask for
unfoldable pub command_of : List (List ℕ) → Option Request
command_of words =
    if is_none (usage_fault words) then option_map (request_for words)
    (option_and_then verb_of (slice_get words 0))
    else None
