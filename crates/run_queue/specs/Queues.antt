-- What a clause says of a queue and of a pass.
use Rattle.std.specs.Prelude.{◌≡◌, ℕ, List, Option}
use Rattle.crossbeam_queue.specs.declared.array_queue.Doing.{Doing}
use Rattle.crossbeam_queue.specs.declared.array_queue.Slotted.{Slotted}
use Rattle.crossbeam_queue.specs.Passes.{Pass, view, ruled_capacity, IsPassOf}
use Rattle.run_queue.specs.declared.origin.Origin.{Origin}
use Rattle.run_queue.specs.declared.view.Role.{Role}
use Rattle.run_queue.specs.declared.view.PassView.{PassView}
use Rattle.run_queue.specs.Passes.{known_threads}

module _ {T : Type 0} where
  -- which pass it is
  abbrev pub role_of : Pass T PassView → Role
  role_of pass = (view pass).role

  -- the origin that it knows
  abbrev pub origin_of : Pass T PassView → Option Origin
  origin_of pass = (view pass).origin

  -- the threads that it holds
  abbrev pub threads_held : Pass T PassView → List ℕ
  threads_held pass = (view pass).held

-- it is a pass of this queue, which has a place for each thread that the pass knows
module _ {T Q A : Type 0} (queue : Slotted (Option T) (Doing T PassView) Q A) where
  pub record IsPassFor (pass : Pass T PassView) : Type 0 where
    pub same : IsPassOf queue pass
    pub places : known_threads (origin_of pass) ≡ ruled_capacity queue
