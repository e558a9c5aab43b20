-- What a thread and a report are to one another where the thread's file is read with that report.
use Rattle.std.specs.Prelude.{◌≡◌, ℕ, ◌<◌, ◌≤◌, IsSome, length, slice_index}
use Rattle.std.specs.FinMap.{get}
use Rattle.sm_types.specs.Options.{numbers_of}
use Rattle.paged_memory.specs.Image.{Program, IsLoadablePage}
use Rattle.kernel_contexts.specs.State.{State}
use Rattle.kernel_contexts.specs.Context.{state_of, config_of, thread_of, journal_of}
use Rattle.kernel_contexts.specs.declared.context.Context.{Context}
use Rattle.report_reader.specs.Report.{Report}
use Rattle.ckpt_fields.specs.Rows.{counts, journals}

-- each page of a program is where an image may have one, as each page of an image is
abbrev pub HasLoadablePages : Program → Type 0
HasLoadablePages program = (n : ℕ) → IsSome (get program.memory.perm n) → IsLoadablePage n

-- a report has the options of a thread, and its block of the thread has a higher count and no fewer events; and
-- the budget is not used up
pub record GoesBeyond (report : Report) (c : Context) : Type 0 where
  pub options : report.options ≡ numbers_of (config_of c)
  pub count : (state_of c).count < slice_index (counts report) (thread_of c)
  pub budget : (state_of c).count < (config_of c).budget
  pub events : length (journal_of c) ≤ slice_index (journals report) (thread_of c)

-- the report has the thread, whose block has a higher count and no fewer events
pub record StandsInBlock (report : Report) (s : State) (number used : ℕ) : Type 0 where
  pub thread : number < report.options.threads
  pub count : s.count < slice_index (counts report) number
  pub events : used ≤ slice_index (journals report) number
