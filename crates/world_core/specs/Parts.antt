-- The parts of the code's world, as threads.
use Rattle.std.specs.Prelude.{◌≡◌, ◌≤◌, ℕ, List, Some, map, length, slice_get}
use Rattle.sm_types.specs.declared.config.Config.{Config}
use Rattle.sm_types.specs.declared.shared_words.Entry.{Entry}
use Rattle.kernel_contexts.specs.Context.{config_of}
use Rattle.kernel_contexts.specs.declared.whole.Whole.{Whole}
use Rattle.core_unit.specs.CoreState.{CoreState}
use Rattle.kernel_contexts.specs.Guest.{Guest, guest_of}
use Rattle.core_unit.specs.Held.{Held}
use Rattle.core_unit.specs.View.{core_state}
use Rattle.core_unit.specs.declared.unit.Core.{Core}
use Rattle.world_core.specs.Happens.{Scene}
use Rattle.world_core.specs.World.{World, threads_of}

-- the threads of some contexts that are home
abbrev pub guests_of : {P T : Type 0} {b : _} → List (Whole P T b) → List Guest
guests_of wholes = map (λ w. guest_of w.context) wholes

-- the threads that are held with tickets, without these
abbrev pub guests_in : {T : Type 0} → List (Held T) → List Guest
guests_in helds = map (λ h. h.guest) helds

-- the threads that are resident on a core
abbrev pub core_guests : {P T : Type 0} {b : _} → Core P T b → List Guest
core_guests c = guests_in (core_state c).residents

-- what a core in this state sees of a world with this queue, threads that are done, and history
abbrev pub scene_with : {T : Type 0} → CoreState T → List Guest → List Guest → List Entry → Scene
scene_with c queue done history =
    record { residents = guests_in c.residents; queue = queue; done = done; history = history }

-- what a core sees of a world with this queue, threads that are done, and history
abbrev pub scene_in : {P T : Type 0} {b : _} → Core P T b → List Guest → List Guest → List Entry → Scene
scene_in c queue done history = scene_with (core_state c) queue done history

-- the world of these options, contexts in the queue, cores, contexts that are done, and history
abbrev pub world_from : {P T : Type 0} {b : _} → Config → List (Whole P T b) → List (Core P T b)
    → List (Whole P T b) → List Entry → World
world_from config queue cores done history = record {
  config = config;
  queue = guests_of queue;
  cores = map core_guests cores;
  done = guests_of done;
  history = history;
}

-- contexts with these options
abbrev pub HaveOptions : {P T : Type 0} {b : _} → Config → List (Whole P T b) → Type 0
HaveOptions config wholes = (i : ℕ) (w : _) → slice_get wholes i ≡ Some w → config_of w.context ≡ config

-- the core at a place in a world of these options: its number is its place, its threads have the options, and
-- none of them has stopped in it
module _ {T : Type 0} where
  pub record IsCoreOf (config : Config) (place : ℕ) (c : CoreState T) : Type 0 where
    pub number : c.number ≡ place
    pub options : c.config ≡ config
    pub none_done : length c.done ≡ 0

-- there is room for all threads in two lists of such capacities
pub record HasRoom (w : World) (queue done : ℕ) : Type 0 where
  pub queue_room : length (threads_of w) ≤ queue
  pub done_room : length (threads_of w) ≤ done
