-- What is written of the run of a workload.
use Rattle.std.specs.Prelude.{◌≡◌, ℕ, ◌+◌, ◌∷◌, [], List, codes, decimal, slice_index}
use Rattle.std.specs.List.{concat}
use Rattle.sm_types.specs.declared.config.Config.{Config}
use Rattle.sm_types.specs.declared.shared_words.Words.{Words}
use Rattle.sm_types.specs.Options.{numbers_of}
use Rattle.sm_types.specs.declared.numbers.Numbers.{Numbers}
use Rattle.paged_memory.specs.Image.{Program}
use Rattle.report_text.specs.Report.{ThreadEnd}
use Rattle.workload.specs.Source.{source_of}
use Rattle.workload_image.specs.Image.{IsImageOf}
use Rattle.smemu.specs.Runs.{IsWholeRun}

-- the instructions that threads have counted, added up
abbrev pub all_counted : List ThreadEnd → ℕ
all_counted [] = 0
all_counted (end ∷ ends) = end.state.count + all_counted ends

-- the line of a workload: its number, its threads, what they counted in all, and shared word 0
unfoldable pub bench_line : ℕ → ℕ → ℕ → List ℕ
bench_line number counted word = concat (
    codes "bench "
    ∷ decimal number
    ∷ codes " threads 4 instructions "
    ∷ decimal counted
    ∷ codes " word0 "
    ∷ decimal word
    ∷ codes "\n"
    ∷ [])

-- the text is the line of a run of the image of the workload's source, of four threads
pub record IsBenchOf (number : ℕ) (config : Config) (text : List ℕ) : Type 0 where
  pub program : Program
  pub image : IsImageOf (source_of number) program
  pub ends : List ThreadEnd
  pub words : Words
  pub run : IsWholeRun program config ends words
  pub is_text : text ≡ bench_line number (all_counted ends) (slice_index words.shared 0)

-- with four threads and else these options
pub record IsBench (number : ℕ) (options : Numbers) (text : List ℕ) : Type 0 where
  pub config : Config
  pub given : numbers_of config ≡ record options { threads = 4 }
  pub bench : IsBenchOf number config text
