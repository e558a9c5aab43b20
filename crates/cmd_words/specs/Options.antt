-- The options of a run: their words, the numbers that they take, and the numbers where they are not given.
-- Source: this project's own command line.
use Rattle.std.specs.Prelude.{ℕ, Bool, List, [], ◌∷◌, Option, Some, None, codes, if◌then◌else◌}
use Rattle.std.specs.Str.{bytes_eq}
use Rattle.sm_types.specs.Ranges.{is_length, is_slice, is_budget, are_threads, are_cores}
use Rattle.sm_types.specs.declared.numbers.Numbers.{Numbers}
use Rattle.cmd_words.specs.declared.setting.Setting.{Setting}
use Rattle.cmd_words.specs.declared.setting.Setting.TheVariants.{Vl, Svl, Slice, Budget, Threads, Cores}

-- the options of a run that is given none
abbrev pub default_options : Numbers
default_options =
    record { vl = 128; svl = 256; slice = 1000; budget = 10000000; threads = 1; cores = 1; kernel = 2 }

-- ---- each option

-- its word
abbrev pub word_of : Setting → List ℕ
word_of Vl = codes "--vl"
word_of Svl = codes "--svl"
word_of Slice = codes "--slice"
word_of Budget = codes "--budget"
word_of Threads = codes "--threads"
word_of Cores = codes "--cores"

-- the numbers that it takes
abbrev pub takes : Setting → ℕ → Bool
takes Vl number = is_length number
takes Svl number = is_length number
takes Slice number = is_slice number
takes Budget number = is_budget number
takes Threads number = are_threads number
takes Cores number = are_cores number

-- its number among those of the options
abbrev pub number_in : Numbers → Setting → ℕ
number_in options Vl = options.vl
number_in options Svl = options.svl
number_in options Slice = options.slice
number_in options Budget = options.budget
number_in options Threads = options.threads
number_in options Cores = options.cores

-- the options with that number for it
abbrev pub with_number : Numbers → Setting → ℕ → Numbers
with_number options Vl number = record options { vl = number }
with_number options Svl number = record options { svl = number }
with_number options Slice number = record options { slice = number }
with_number options Budget number = record options { budget = number }
with_number options Threads number = record options { threads = number }
with_number options Cores number = record options { cores = number }

-- ---- the same of all

-- the number of an option that is not given
abbrev pub default_of : Setting → ℕ
default_of setting = number_in default_options setting

-- the option of a word, among those of a list
unfoldable pub setting_in : List Setting → List ℕ → Option Setting
setting_in [] word = None
setting_in (setting ∷ settings) word =
    if bytes_eq word (word_of setting) then Some setting else setting_in settings word

-- the options of a list with these numbers, and all others as they are
abbrev pub with_numbers : Numbers → List Setting → (Setting → ℕ) → Numbers
with_numbers options [] numbers = options
with_numbers options (setting ∷ settings) numbers =
    with_numbers (with_number options setting (numbers setting)) settings numbers
