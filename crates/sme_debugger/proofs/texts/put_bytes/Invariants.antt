use Rattle.std.proofs.Common.{◌≡◌, ◌-◌, ◌≤◌, List, ℕ, drop, Some}
use Rattle.hex.specs.Hex.{encode_lower}
use Rattle.edge_io.specs.Pieces.{gathered}
use Rattle.edge_io.specs.Sofar.{SoFar}
use Rattle.paged_memory.specs.Memory.{bytes_with}
use Rattle.sme_debugger.proofs.texts.put_bytes.Given as goal

abbrev pub invariant-bytes : goal.invariant-bytes
invariant-bytes g l = record {
  within : l.done ≤ l.size;
  sofar : (bytes : List ℕ) → bytes_with 4 l.pages.memory l.address l.size ≡ Some bytes
      → SoFar (gathered (g.K.Sink.view l.initial.out) l.initial.piece) (gathered (g.K.Sink.view l.out) l.piece)
      (encode_lower (drop l.done bytes)) (encode_lower bytes);
}

abbrev pub decreases-bytes : goal.decreases-bytes
decreases-bytes g l = l.size - l.done
