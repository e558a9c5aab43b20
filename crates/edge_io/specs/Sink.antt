-- A sink that text is added to. Source: the project's own rule.
use Rattle.std.specs.Prelude.{ℕ, ◌≡◌, ◌≤◌, ◌+◌, ◌++◌, List, Option, Some, None, take, length, Result, IsOk}
use Rattle.std.specs.Prelude.{OnOk, OnErr}
use Rattle.edge_io.specs.Cause.{Rose}
use Rattle.edge_io.specs.declared.sink.PutFault.{PutFault}

-- What is known of a sink: the bytes that it holds, where it tells them; how often a write has failed; and
-- how many bytes more are written without a fault, in whatever pieces they come. What does not know of
-- itself has room for none.
pub record SinkView : Type 0 where
  pub held : Option (List ℕ)
  pub faults : ℕ
  pub room : ℕ

-- what a sink tells after these bytes were added
abbrev pub added : Option (List ℕ) → List ℕ → Option (List ℕ)
added None text = None
added (Some held) text = Some (held ++ text)

-- After a call with this result the sink has the text, or after a fault a part of it from the front. A text
-- for which there is room has no fault, and takes no more of the room than its length; so an empty one
-- never has.
pub record Writes (old new : SinkView) (result : Result Unit PutFault) (text : List ℕ) : Type 0 where
  pub ok : OnOk result ((new.held ≡ added old.held text) × (new.faults ≡ old.faults))
  pub failed : OnErr result ((n : ℕ) × (new.held ≡ added old.held (take n text)))
  pub cause : OnErr result (Rose old.faults new.faults × (old.faults ≤ new.faults))
  pub accepts : length text ≤ old.room → IsOk result × (old.room ≤ length text + new.room)
