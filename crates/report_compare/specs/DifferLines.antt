-- The line that says how a thread parts from its journal and count.
use Rattle.std.specs.Prelude.{ℕ, [], ◌∷◌, List, decimal, codes}
use Rattle.std.specs.List.{concat}
use Rattle.lone_runner.specs.declared.fault.AloneFault.{AloneFault}
use Rattle.lone_runner.specs.declared.fault.AloneFault.TheVariants.{JournalShort, JournalDiffers, JournalLong}
use Rattle.lone_runner.specs.declared.fault.AloneFault.TheVariants.{EndsEarly, GoesOn, Memory}
use Rattle.text_lines.specs.Words.{stop_words}

-- how a thread parts from its journal and count, with the values of the fault in their order
unfoldable pub parting_words : AloneFault → List ℕ
parting_words (JournalShort count) = concat (codes "journalshort " ∷ decimal count ∷ [])
parting_words (JournalDiffers event) = concat (codes "journaldiffers " ∷ decimal event ∷ [])
parting_words (JournalLong left) = concat (codes "journallong " ∷ decimal left ∷ [])
parting_words (EndsEarly count stop) =
    concat (codes "endsearly " ∷ decimal count ∷ codes " " ∷ stop_words stop ∷ [])
parting_words (GoesOn count) = concat (codes "goeson " ∷ decimal count ∷ [])
parting_words Memory = codes "memory"

-- the line that is written for it
unfoldable pub parting_line : AloneFault → List ℕ
parting_line fault = concat (codes "differs: " ∷ parting_words fault ∷ codes "\n" ∷ [])
