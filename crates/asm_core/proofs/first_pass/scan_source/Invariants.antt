use Rattle.std.proofs.Common.{length}
use Rattle.asm_core.specs.Scanned.{AreKeptTo, IsScannedTo}
use Rattle.asm_core.proofs.first_pass.scan_source.Given as goal

abbrev pub invariant-loop-text : goal.invariant-loop-text
invariant-loop-text l =
    record { scanned : IsScannedTo l.source l.number l.counter l.labels l.rest; kept : AreKeptTo l.source l.kept.items l.rest }

abbrev pub decreases-loop-text : goal.decreases-loop-text
decreases-loop-text l = length l.rest
