-- A text that is gathered into pieces before it is written. Source: the project's own rule.
use Rattle.std.specs.Prelude.{ℕ, ◌≡◌, ◌+◌, ◌≤◌, ◌++◌, List, length, Result, Ok, IsOk, OnOk, OnErr}
use Rattle.edge_io.specs.Sink.{SinkView, Writes}
use Rattle.edge_io.specs.declared.piece.Piece.{Piece}
use Rattle.edge_io.specs.declared.sink.PutFault.{PutFault}

-- the bytes that are gathered before they are written
abbrev pub piece_size : ℕ
piece_size = 16384

-- what is known of a sink, and the bytes of a text that are gathered for it and not yet written
pub record Gathered : Type 0 where
  pub sink : SinkView
  pub held : List ℕ

-- the bytes that a piece has gathered
abbrev pub held_of : Piece → List ℕ
held_of piece = piece.held.items

-- a sink, and a piece that gathers for it
abbrev pub gathered : SinkView → Piece → Gathered
gathered sink piece = record { sink = sink; held = held_of piece }

-- After a call with this result the text follows what was gathered: some of both, from the front, was
-- written, and the rest is gathered. After a fault the sink has a part of both, from the front. A text for
-- which there is room has no fault, and is not written yet.
pub record Gathers (old new : Gathered) (result : Result Unit PutFault) (text : List ℕ) : Type 0 where
  pub ok : OnOk result ((written : List ℕ) × Writes old.sink new.sink (Ok tt) written
      × (written ++ new.held ≡ old.held ++ text))
  pub failed : OnErr result (Writes old.sink new.sink result (old.held ++ text))
  pub spared : length old.held + length text ≤ piece_size → IsOk result × (new.sink ≡ old.sink)
