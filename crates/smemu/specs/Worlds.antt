-- What the command writes of the threads of a world: where each of them stands, and the text of a plan's
-- events.
use Rattle.std.specs.Prelude.{◌≡◌, ℕ, List, Some, Ok, Contains, length, map, slice_get}
use Rattle.sha2.specs.Sha256.{sha256}
use Rattle.sm_types.specs.declared.config.Config.{Config}
use Rattle.sm_types.specs.declared.shared_op.Event.{Event}
use Rattle.sm_types.specs.declared.shared_words.Words.{Words}
use Rattle.shared_region.specs.History.{AreOneHistory, ends_in}
use Rattle.sm_types.specs.Options.{numbers_of}
use Rattle.sm_types.specs.declared.numbers.Numbers.{Numbers}
use Rattle.paged_memory.specs.Image.{Program}
use Rattle.elf_loader.specs.Loading.{Loads}
use Rattle.kernel_contexts.specs.Standing.{IsRunOf}
use Rattle.kernel_contexts.specs.Guest.{Guest}
use Rattle.plan_reader.specs.Plan.{plan_in, event_lines}
use Rattle.sm_types.specs.declared.world_event.WorldEvent.{WorldEvent}
use Rattle.world_core.specs.Happens.{world_after, answers_after}
use Rattle.world_core.specs.Kept.{IsKept}
use Rattle.world_core.specs.Serial.{AreSerial}
use Rattle.world_core.specs.World.{World, start_world, threads_of}
use Rattle.report_text.specs.Report.{ThreadEnd, report_text}
use Rattle.sim_text.specs.Sim.{sim_text}

-- the journals of threads
abbrev pub journals_of : List ThreadEnd → List (List Event)
journals_of ends = map (λ (end : ThreadEnd). end.journal) ends

-- where a guest thread stands
abbrev pub end_in : Guest → ThreadEnd
end_in g = record { thread = g.number; state = g.state; stop = g.stop; journal = g.journal }

-- so the thread of that number stands, which is among some
pub record IsEndAmong (threads : List Guest) (k : ℕ) (end : ThreadEnd) : Type 0 where
  pub guest : Guest
  pub among : Contains threads guest
  pub number : guest.number ≡ k
  pub stands : end ≡ end_in guest

-- so the threads of a world stand, in the order of their numbers, and in these words its history ends
pub record AreEndsIn (w : World) (ends : List ThreadEnd) (words : Words) : Type 0 where
  pub count : length ends ≡ w.config.threads
  pub each : (k : ℕ) (end : ThreadEnd) → slice_get ends k ≡ Some end → IsEndAmong (threads_of w) k end
  pub ends_so : words ≡ ends_in w.history

-- ---- one core, and all threads until they are done

-- so the threads stand after the serial events, and in these words the history ends
pub record AreSerialEnds (program : Program) (config : Config) (ends : List ThreadEnd) (words : Words)
    : Type 0 where
  pub events : List WorldEvent
  pub last : World
  pub serial : AreSerial (start_world program config) events last
  pub are : AreEndsIn last ends words

-- ---- the events of a plan

-- guest thread k stands where it comes to alone over its journal; it may not have stopped
pub record IsEndBy (program : Program) (config : Config) (k : ℕ) (end : ThreadEnd) : Type 0 where
  pub number : end.thread ≡ k
  pub run : IsRunOf program config k end.journal end.state end.stop

-- the text is that of a plan for the program of a file with these options: a line for each event that was not
-- enabled, the report of the world after the events, and its history. Each thread is where it comes to alone
-- over its journal, the journals are one history, which ends in the words, and it is the one that is written
pub record IsSimulationOf (file plan : List ℕ) (config : Config) (text : List ℕ) : Type 0 where
  pub program : Program
  pub loads : Loads file program
  pub events : List WorldEvent
  pub planned : plan_in plan ≡ Ok events
  pub last : World
  pub happened : last ≡ world_after (start_world program config) events
  pub kept : IsKept program last
  pub ends : List ThreadEnd
  pub words : Words
  pub are : AreEndsIn last ends words
  pub each : (k : ℕ) (end : ThreadEnd) → slice_get ends k ≡ Some end → IsEndBy program config k end
  pub one_history : AreOneHistory (journals_of ends) words
  pub is_text : text ≡ sim_text (event_lines plan) (answers_after (start_world program config) events)
      (report_text config (sha256 file) ends words) last.history

-- with options
pub record IsSimulation (file plan : List ℕ) (options : Numbers) (text : List ℕ) : Type 0 where
  pub config : Config
  pub given : numbers_of config ≡ options
  pub simulation : IsSimulationOf file plan config text
