-- The world of the guest threads and the cores.
use Rattle.std.specs.Prelude.{◌≡◌, ℕ, ◌++◌, ◌==◌, if◌then◌else◌, List, [], ◌∷◌, None}
use Rattle.std.specs.Prelude.{map, replicate}
use Rattle.std.specs.List.{range_with_len}
use Rattle.sm_types.specs.declared.config.Config.{Config}
use Rattle.sm_types.specs.declared.shared_words.Entry.{Entry}
use Rattle.paged_memory.specs.Image.{Program}
use Rattle.kernel_contexts.specs.State.{start_state}
use Rattle.thread_lists.specs.Counts.{total, once_below}
use Rattle.kernel_contexts.specs.Guest.{Guest}

-- the options, the queue, the residents of each core, of which the first one makes turns, the threads that
-- are done, each a guest thread with its state and its journal, and the history of the shared words
pub record World : Type 0 where
  pub config : Config
  pub queue : List Guest
  pub cores : List (List Guest)
  pub done : List Guest
  pub history : List Entry

-- ---- at first all threads are in the queue, in order

-- a thread before its first turn
abbrev pub starting : Program → Config → ℕ → Guest
starting program config thread = record {
  program = program;
  config = config;
  number = thread;
  state = start_state program config thread;
  stop = None;
  journal = [];
}

abbrev pub start_world : Program → Config → World
start_world program config = record {
  config = config;
  queue = map (starting program config) (range_with_len 0 config.threads);
  cores = replicate config.cores [];
  done = [];
  history = [];
}

-- ---- the threads of a world

-- the residents of all cores
abbrev pub residents_of : List (List Guest) → List Guest
residents_of [] = []
residents_of (residents ∷ cores) = residents ++ residents_of cores

-- those of the queue, of the cores and those that are done
abbrev pub threads_of : World → List Guest
threads_of w = w.queue ++ residents_of w.cores ++ w.done

-- how often a thread of this number is among some
abbrev pub times : ℕ → List Guest → ℕ
times t threads = total (λ g. if g.number == t then 1 else 0) threads

-- each thread of the options is exactly once in the queue, in one core's residents, or among those that are
-- done, and no other is
abbrev pub IsOwned : World → Type 0
IsOwned w = (t : ℕ) → times t (threads_of w) ≡ once_below t w.config.threads
