-- What holds of every world that events lead to from the start.
use Rattle.std.specs.Prelude.{◌≡◌, ◌<◌, true, List, None, All, is_some}
use Rattle.std.specs.List.{AllByRecursion as Each}
use Rattle.sm_types.specs.declared.config.Config.{Config}
use Rattle.sm_types.specs.declared.shared_words.Entry.{Entry}
use Rattle.shared_region.specs.History.{IsLegal, part_of}
use Rattle.paged_memory.specs.Image.{Program}
use Rattle.kernel_contexts.specs.Standing.{IsRunOf}
use Rattle.kernel_contexts.specs.Guest.{Guest}
use Rattle.world_core.specs.World.{World, threads_of, residents_of, IsOwned}

-- a thread of a world with these options and this history has its program and its options, its journal is its
-- part of the history, and its state and its stop are those to which it comes alone over that journal
pub record Stands (program : Program) (config : Config) (history : List Entry) (g : Guest) : Type 0 where
  pub started : g.program ≡ program
  pub options : g.config ≡ config
  pub part : part_of g.number history ≡ g.journal
  pub run : IsRunOf program config g.number g.journal g.state g.stop

-- a thread that goes on, and one that has stopped
abbrev pub Goes : Guest → Type 0
Goes g = g.stop ≡ None

abbrev pub HasStopped : Guest → Type 0
HasStopped g = is_some g.stop ≡ true

-- each thread of the options is in the world once, and no other; each thread stands, and those that have
-- stopped are those that are done; the history is legal, and no entry of it is of another thread
pub record IsKept (program : Program) (w : World) : Type 0 where
  pub owned : IsOwned w
  pub each : Each (Stands program w.config w.history) (threads_of w)
  pub queued : Each Goes w.queue
  pub resident : Each Goes (residents_of w.cores)
  pub stopped : Each HasStopped w.done
  pub legal : IsLegal w.history
  pub alone : All (λ e. e.thread < w.config.threads) w.history
