-- A run of all threads of a program.
use Rattle.std.specs.Prelude.{◌≡◌, ℕ, List, Some, length, slice_get}
use Rattle.sm_types.specs.declared.config.Config.{Config}
use Rattle.sm_types.specs.declared.shared_words.Words.{Words}
use Rattle.sm_types.specs.declared.stop.Stop.{Stop}
use Rattle.shared_region.specs.History.{AreOneHistory}
use Rattle.paged_memory.specs.Image.{Program}
use Rattle.lone_runner.specs.LoneRun.{IsLoneRun}
use Rattle.report_text.specs.Report.{ThreadEnd}
use Rattle.smemu.specs.Worlds.{AreSerialEnds, journals_of}

-- guest thread k of the program ends so, alone, where its journal answers it
pub record IsEndOf (program : Program) (config : Config) (k : ℕ) (end : ThreadEnd) : Type 0 where
  pub number : end.thread ≡ k
  pub stop : Stop
  pub stopped : end.stop ≡ Some stop
  pub run : IsLoneRun program config k end.journal end.state stop

-- the threads of a program with these options end so, and share these words at the end: each thread ends as
-- it does alone, and the journals are one history, which ends in the words. On one core the ends and the
-- words are those after the serial events
pub record IsWholeRun (program : Program) (config : Config) (ends : List ThreadEnd) (words : Words)
    : Type 0 where
  pub threads : length ends ≡ config.threads
  pub each : (k : ℕ) (end : ThreadEnd) → slice_get ends k ≡ Some end → IsEndOf program config k end
  pub one_history : AreOneHistory (journals_of ends) words
  pub serial : config.cores ≡ 1 → AreSerialEnds program config ends words
