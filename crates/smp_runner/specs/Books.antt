-- What the maker's seat keeps while the threads' seats are given and taken back, in order of the threads.
use Rattle.std.specs.Prelude.{◌≡◌, ℕ, ◌-◌, List, ◌∷◌, ◌++◌, [], map, replicate, Some}
use Rattle.sm_types.specs.declared.shared_op.Event.{Event}
use Rattle.shared_table.specs.declared.view.Told.{Told}
use Rattle.shared_table.specs.declared.view.Told.TheVariants.{Never, Out, Back}
use Rattle.run_queue.specs.declared.origin.Origin.{Origin}
use Rattle.run_queue.specs.declared.view.Role.TheVariants.{First}
use Rattle.run_queue.specs.declared.view.PassView.{PassView}

-- what the maker's seat tells of each number, where n were given: the first of them came back with these
-- journals, and k are out
abbrev pub book_at : List (List Event) → ℕ → ℕ → List Told
book_at journals k n = map Back journals ++ (replicate k Out ++ replicate (32 - n) Never)

-- the first pass of a queue for contexts from that start, which gave no number
pub record IsWithoutSplits (origin : Origin) (v : PassView) : Type 0 where
  pub role : v.role ≡ First []
  pub origin_of : v.origin ≡ Some origin
