-- What a session is: a recorded run, and the count at which it stands.
use Rattle.std.specs.Prelude.{ℕ}
use Rattle.sme_debugger.specs.Recording.{Recording}
use Rattle.sme_debugger.specs.Replayed.{recording_in}
use Rattle.sme_debugger.specs.declared.session.Session.{Session}

-- the run
abbrev pub recording_of : Session → Recording
recording_of s = recording_in s.replay

-- how many instructions are counted where it stands
abbrev pub place_of : Session → ℕ
place_of s = s.place
