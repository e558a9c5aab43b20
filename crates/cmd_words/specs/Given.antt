-- What the options that have been read give, and how far the words have been read.
use Rattle.std.specs.Prelude.{◌≡◌, ℕ, ◌-◌, ◌<◌, ◌≤◌, ◌%◌, true, List, length, Option, Some, None, is_some}
use Rattle.std.specs.Prelude.{Bool, false, unwrap_or}
use Rattle.std.specs.Option.{ForSome}
use Rattle.sm_types.specs.declared.numbers.Numbers.{Numbers}
use Rattle.cmd_words.specs.Forms as forms
use Rattle.cmd_words.specs.Options.{default_of, word_of, setting_in, takes}
use Rattle.cmd_words.specs.Words.{form_asked, option_place, value_below, fault_at}
use Rattle.cmd_words.specs.declared.form.Form.{Form}
use Rattle.cmd_words.specs.declared.given.Given.{Given}
use Rattle.cmd_words.specs.declared.setting.Setting.{Setting}
use Rattle.cmd_words.specs.declared.setting.Setting.TheVariants.{Vl, Svl, Slice, Budget, Threads, Cores}
use Rattle.cmd_words.specs.declared.verb.Verb.{Verb}
use Rattle.cmd_words.specs.declared.verb.Verb.TheVariants.{Replay, Debug, Ckpt, Resume, AbiCheck}

-- the number of an option, where it is given
abbrev pub given_of : Given → Setting → Option ℕ
given_of given Vl = given.vl
given_of given Svl = given.svl
given_of given Slice = given.slice
given_of given Budget = given.budget
given_of given Threads = given.threads
given_of given Cores = given.cores

-- the number of an option, given or not
abbrev pub number_for : Given → Setting → ℕ
number_for given setting = unwrap_or (given_of given setting) (default_of setting)

-- the numbers of the options, given or not; no word gives the kernel, which is the second
abbrev pub numbers_given : Given → Numbers
numbers_given given =
    record {
      vl = number_for given Vl;
      svl = number_for given Svl;
      slice = number_for given Slice;
      budget = number_for given Budget;
      threads = number_for given Threads;
      cores = number_for given Cores;
      kernel = 2;
    }

-- the commands that take up a run by its report, which is their second operand
abbrev pub reads_report : Verb → Bool
reads_report Replay = true
reads_report Debug = true
reads_report Ckpt = true
reads_report Resume = true
reads_report AbiCheck = true
reads_report other = false

-- what a form of the code says
abbrev pub form_said : Form → forms.Form
form_said form = record { operands = form.operands.now; options = form.options.now }

-- the words below place n have no fault
pub record IsSoundTo (words : List (List ℕ)) (n : ℕ) : Type 0 where
  pub inside : n ≤ length words
  pub sound : (place : ℕ) → place < n → fault_at words place ≡ None

-- the words of a command of that form below place n, one of an option, have no fault, and give these options;
-- an option that the form does not have is not given
pub record IsReadTo (words : List (List ℕ)) (form : forms.Form) (n : ℕ) (given : Given) : Type 0 where
  pub asked : form_asked words ≡ Some form
  pub even : (n - forms.options_from form) % 2 ≡ 0
  pub past : forms.options_from form ≤ n
  pub inside : n ≤ length words
  pub sound : (place : ℕ) → place < n → fault_at words place ≡ None
  pub placed : (setting : Setting)
      → is_some (given_of given setting) ≡ is_some (option_place form words (word_of setting) n)
  pub valued : (setting : Setting) → given_of given setting ≡ value_below form words setting n
  pub untaken : (setting : Setting) → setting_in form.options (word_of setting) ≡ None
      → given_of given setting ≡ None
  pub in_range :
      (setting : Setting) → ForSome (given_of given setting) (λ number. takes setting number ≡ true)
