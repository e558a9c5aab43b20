-- Workers before their run.
use Rattle.std.specs.Prelude.{◌≡◌, ℕ, ◌<◌, List, [], length, slice_index_or}
use Rattle.sm_types.specs.declared.config.Config.{Config}
use Rattle.core_unit.specs.CoreState.{CoreState}
use Rattle.run_queue.specs.declared.view.Role.{Role}
use Rattle.run_queue.specs.declared.view.Role.TheVariants.{Numbered}
use Rattle.run_queue.specs.declared.view.PassView.{PassView}
use Rattle.smp_runner.specs.Contexts.{IsOf}

-- a pass that holds nothing, with which a worker runs threads of these options over the port of this name,
-- and a core and a list of contexts that are empty
pub record IsUnused {T X : Type 0} (config : Config) (name : List ℕ) (v : PassView) (c : CoreState T)
    (done : List X)
    : Type 0 where
  pub of : IsOf v.origin config name
  pub holds : v.held ≡ []
  pub options : c.config ≡ config
  pub residents : c.residents ≡ []
  pub stopped : c.done ≡ []
  pub collected : done ≡ []

-- each has its place for its number
abbrev pub AreNumbered : {X : Type 0} → (X → Role) → List X → Type 0
AreNumbered {X} role xs = (i : ℕ) (d : X) → i < length xs → role (slice_index_or xs i d) ≡ Numbered i
