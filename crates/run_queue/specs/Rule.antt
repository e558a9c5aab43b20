-- What holds of a queue and of all its passes between any two steps.
use Rattle.std.specs.Prelude.{◌≡◌, ℕ, ◌+◌, List, [], map, Option, Some, None, slice_get}
use Rattle.std.specs.List.{All}
use mathlib.Core.Option.{some}
use lib.ListN.{get_elem?}
use Rattle.run_queue.specs.declared.origin.Origin.{Origin}
use Rattle.run_queue.specs.declared.view.Whereabouts.{Whereabouts}
use Rattle.run_queue.specs.declared.view.Whereabouts.TheVariants.{Out}
use Rattle.run_queue.specs.declared.view.Role.{Role}
use Rattle.run_queue.specs.declared.view.Role.TheVariants.{Unopened, First, Numbered, Spent}
use Rattle.run_queue.specs.declared.view.PassView.{PassView}
use Rattle.run_queue.specs.Ticketed.{Ticketed}
use Rattle.thread_lists.specs.Counts.{total, occurrences, once_below}
use Rattle.run_queue.specs.Passes.{known_threads}

-- the threads of some contexts
abbrev pub threads_in : List Ticketed → List ℕ
threads_in items = map (λ x. x.thread) items

-- they are of that origin
abbrev pub AreOf : Option Origin → List Ticketed → Type 0
AreOf origin items = All (λ x. Some x.origin ≡ origin) items

-- What holds of pass number id among all, by its role. The first one tells which numbers were given. Another
-- has a number that was given and is out, and is its owner. A spent one holds nothing. All others know the
-- origin; before the queue is opened there is none.
abbrev pub Fits : Option Origin → List Whereabouts → (ℕ → ℕ) → ℕ → PassView → Role → Type 0
Fits origin given owner id v Unopened = (id ≡ 0) × (origin ≡ None) × (given ≡ [])
Fits origin given owner id v (First told) = (id ≡ 0) × (v.origin ≡ origin) × (told ≡ given)
Fits origin given owner id v (Numbered number) =
    (v.origin ≡ origin) × (slice_get given number ≡ Some Out) × (owner number ≡ id)
Fits origin given owner id v Spent = v.held ≡ []

-- The contexts in the queue are of one origin. Their threads, and those that all passes hold, are the threads
-- of its options, each once.
pub record IsEachOnce (items : List Ticketed) (views : List PassView) : Type 0 where
  pub origin : Option Origin
  pub given : List Whereabouts
  pub owner : ℕ → ℕ
  pub known : AreOf origin items
  pub once : (t : ℕ)
      → occurrences t (threads_in items) + total (λ v. occurrences t v.held) views
      ≡ once_below t (known_threads origin)
  pub fits : (id : ℕ) (v : PassView) → get_elem? views id ≡ some v → Fits origin given owner id v v.role

-- what a pass knows agrees with a queue that has these contexts: with some views of the others the rule holds
pub record StoodWith (items : List Ticketed) (v : PassView) : Type 0 where
  pub views : List PassView
  pub id : ℕ
  pub at : get_elem? views id ≡ some v
  pub rule : IsEachOnce items views

-- what a pass knows agrees with a queue that is empty
abbrev pub WasEmpty : PassView → Type 0
WasEmpty v = StoodWith [] v
