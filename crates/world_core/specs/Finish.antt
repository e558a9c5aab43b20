-- What a world hands out at its end.
use Rattle.std.specs.Prelude.{◌≡◌, ℕ, true, List, Some, Contains, length, slice_get}
use Rattle.sm_types.specs.declared.shared_words.Words.{Words}
use Rattle.shared_region.specs.History.{ends_in}
use Rattle.kernel_contexts.specs.Context.{thread_of, is_home}
use Rattle.kernel_contexts.specs.declared.context.Context.{Context}
use Rattle.kernel_contexts.specs.Guest.{Guest, guest_of}
use Rattle.world_core.specs.World.{World, threads_of}

-- a context is the thread of that number among some, and home
pub record IsPlaced (threads : List Guest) (number : ℕ) (c : Context) : Type 0 where
  pub home : is_home c ≡ true
  pub number_of : thread_of c ≡ number
  pub among : Contains threads (guest_of c)

-- the contexts are the threads of a world, in the order of their numbers, and the words are those in which
-- its history ends
pub record AreThreadsOf (w : World) (contexts : List Context) (words : Words) : Type 0 where
  pub count : length contexts ≡ w.config.threads
  pub each : (k : ℕ) (c : Context) → slice_get contexts k ≡ Some c → IsPlaced (threads_of w) k c
  pub ends : words ≡ ends_in w.history
