-- What the caller has while it takes the workers' passes back.
use Rattle.std.specs.Prelude.{◌≡◌, ℕ, ◌<◌, true, List, Option, Some, None, slice_get}
use Rattle.run_queue.specs.declared.origin.Origin.{Origin}
use Rattle.run_queue.specs.declared.view.Role.{Role}
use Rattle.run_queue.specs.declared.view.PassView.{PassView}
use Rattle.run_queue.specs.declared.view.Whereabouts.{Whereabouts}
use Rattle.run_queue.specs.declared.view.Whereabouts.TheVariants.{Out}
use Rattle.run_queue.specs.Ticketed.{Ticketed}
use Rattle.run_queue.specs.Passes.{is_first_pass, given_in, with_back}
use Rattle.smp_runner.specs.Contexts.{HasEnded}

-- all contexts that the first pass holds
pub record Gathered (v : PassView) (all : List Ticketed) : Type 0 where
  pub first : is_first_pass v.role ≡ true
  pub ended : HasEnded v all

-- each number whose pass is out is below n
abbrev pub AreOutBelow : List Whereabouts → ℕ → Type 0
AreOutBelow given n = (k : ℕ) → slice_get given k ≡ Some Out → k < n

-- the first pass took the pass of that role back
pub record HasJoined (old : PassView) (role : Role) (new : PassView) : Type 0 where
  pub origin : new.origin ≡ old.origin
  pub given : given_in new.role ≡ with_back (given_in old.role) role

-- the start is known, with this name of a port
abbrev pub IsNamed : Option Origin → List ℕ → Type 0
IsNamed None name = ⊥
IsNamed (Some origin) name = origin.name ≡ name
