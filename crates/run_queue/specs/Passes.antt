-- What a pass knows before and after each step.
use Rattle.std.specs.Prelude.{◌≡◌, ◌≢◌, ℕ, ◌+◌, ◌<◌, Bool, true, false, ◌||◌, List, [], ◌∷◌, ◌++◌, length}
use Rattle.std.specs.Prelude.{Option, Some, None, slice_get, slice_set}
use Rattle.std.specs.List.{range_with_len}
use Rattle.run_queue.specs.declared.origin.Origin.{Origin}
use Rattle.run_queue.specs.declared.view.Whereabouts.{Whereabouts}
use Rattle.run_queue.specs.declared.view.Whereabouts.TheVariants.{Out, Back}
use Rattle.run_queue.specs.declared.view.Role.{Role}
use Rattle.run_queue.specs.declared.view.Role.TheVariants.{Unopened, First, Numbered, Spent}
use Rattle.run_queue.specs.declared.view.PassView.{PassView}
use Rattle.run_queue.specs.Ticketed.{Ticketed}
use Rattle.thread_lists.specs.Counts.{occurrences, once_below, without}

-- how many threads there are, where the origin is known
abbrev pub known_threads : Option Origin → ℕ
known_threads None = 0
known_threads (Some origin) = origin.config.threads

abbrev pub pass_with : Role → Option Origin → List ℕ → PassView
pass_with role origin held = record { role = role; origin = origin; held = held }

-- ---- which pass it is

-- the first one, of a queue that has been opened
abbrev pub is_first_pass : Role → Bool
is_first_pass Unopened = false
is_first_pass (First given) = true
is_first_pass (Numbered number) = false
is_first_pass Spent = false

-- one that was split off and not joined
abbrev pub is_numbered : Role → Bool
is_numbered Unopened = false
is_numbered (First given) = false
is_numbered (Numbered number) = true
is_numbered Spent = false

-- one of these two, as every pass that a caller has
abbrev pub is_in_use : Role → Bool
is_in_use role = is_first_pass role || is_numbered role

-- ---- the numbers that the first pass gave

-- of each of them, in order, where its pass is
abbrev pub given_in : Role → List Whereabouts
given_in Unopened = []
given_in (First given) = given
given_in (Numbered number) = []
given_in Spent = []

-- a pass of that role came back
abbrev pub with_back : List Whereabouts → Role → List Whereabouts
with_back given Unopened = given
with_back given (First others) = given
with_back given (Numbered number) = slice_set given number Back
with_back given Spent = given

-- each of them came back
abbrev pub AreAllBack : List Whereabouts → Type 0
AreAllBack given = (number : ℕ) → slice_get given number ≢ Some Out

-- ---- the steps

-- the first pass of a queue that has no contexts yet
abbrev pub unopened : PassView
unopened = pass_with Unopened None []

-- one that was joined
abbrev pub spent : PassView
spent = pass_with Spent None []

-- the first pass at the start: it has given no number, and holds every thread
abbrev pub opened : Option Origin → PassView
opened origin = pass_with (First []) origin (range_with_len 0 (known_threads origin))

-- the first pass after a split has given the next number
abbrev pub after_split : PassView → PassView
after_split v = pass_with (First (given_in v.role ++ Out ∷ [])) v.origin v.held

-- the pass that it split off has that number, and holds nothing
abbrev pub split_off : PassView → PassView
split_off v = pass_with (Numbered (length (given_in v.role))) v.origin []

-- the first pass after it took another one back holds also what that held
abbrev pub after_join : PassView → PassView → PassView
after_join v other =
    pass_with (First (with_back (given_in v.role) other.role)) v.origin (v.held ++ other.held)

-- a pass after it offered the context of a thread
abbrev pub after_offer : PassView → ℕ → PassView
after_offer v thread = pass_with v.role v.origin (without thread v.held)

-- and after it fetched one
abbrev pub after_fetch : PassView → ℕ → PassView
after_fetch v thread = pass_with v.role v.origin (v.held ++ thread ∷ [])

-- a pass has fetched a context: one of the origin that it knows, whose thread is one of the options' and was
-- not held by the pass
pub record HasFetched (v : PassView) (x : Ticketed) (w : PassView) : Type 0 where
  pub view : w ≡ after_fetch v x.thread
  pub known : Some x.origin ≡ v.origin
  pub small : x.thread < known_threads v.origin
  pub fresh : occurrences x.thread v.held ≡ 0

-- where it is the first pass and all others came back, it holds each thread once but these
abbrev pub HoldsRest : List ℕ → PassView → Type 0
HoldsRest threads v =
    (given : List Whereabouts) → v.role ≡ First given → AreAllBack given
    → (t : ℕ) → occurrences t threads + occurrences t v.held ≡ once_below t (known_threads v.origin)
