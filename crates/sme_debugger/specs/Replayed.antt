-- A thread on its recorded run, and how it comes to a count.
use Rattle.std.specs.Prelude.{◌≡◌, ◌≢◌, ℕ, ◌<◌, ◌≤◌, Some, None}
use Rattle.kernel_contexts.specs.State.{State}
use Rattle.sme_debugger.specs.Recording.{Recording, Shows, recorded}
use Rattle.sme_debugger.specs.declared.replay.Replay.{Replay}

-- the run
abbrev pub recording_in : Replay → Recording
recording_in r = recorded r.image r.config r.thread r.ticket r.last

-- the thread shows the count, or an earlier one from which it goes on
pub record IsOnTheWay (r : Replay) (count : ℕ) : Type 0 where
  pub shown : ℕ
  pub is : r.shown ≡ Some shown
  pub most : shown ≤ count
  pub runs : shown < count → r.stop ≡ None

-- no state that is shown from the one count on and before the other has this PC
abbrev pub NoneFrom : Recording → ℕ → ℕ → ℕ → Type 0
NoneFrom r first below address =
    (count : ℕ) (s : State)
    → first ≤ count → count < below → Shows r count s → s.core.scalars.pc ≢ address
