-- How far the first pass over a source has come.
use Rattle.std.specs.Prelude.{◌≡◌, ℕ, ◌+◌, ◌≤◌, List, [], ◌∷◌, ◌++◌, length, Option, None, Ok}
use Rattle.asm_parser.specs.declared.line.LineFault.{LineFault}
use Rattle.asm_parser.specs.declared.line.LineFault.TheVariants as line
use Rattle.asm_parser.specs.Statements.{SourceLine}
use Rattle.asm_core.specs.declared.fault.AsmFault.{AsmFault}
use Rattle.asm_core.specs.declared.fault.AsmFault.TheVariants as fault
use Rattle.asm_parser.specs.Lines.{line_of}
use Rattle.asm_core.specs.declared.labels.Labels.{Labels}
use Rattle.asm_core.specs.declared.location_counter.LocationCounter.{LocationCounter}
use Rattle.asm_core.specs.Source.{lines_of, said_lines}
use Rattle.asm_core.specs.Layout.{first_counter, Label, labels_of, labels_from, counter_after, counter_past}
use Rattle.asm_core.specs.Faults.{line_fault, lines_fault, labels_after}
use Rattle.asm_core.specs.Limits.{IsInLimits}
use Rattle.asm_core.specs.Known.{Knows}
use Rattle.asm_core.specs.Kept.{AreKept, IsKept}
use Rattle.asm_core.specs.declared.kept_words.KeptWord.{KeptWord}

-- the fault of line number n that its parsing gave
abbrev pub fault_at : ℕ → LineFault → AsmFault
fault_at n line.Memory = fault.Memory
fault_at n (line.UnknownName column) = fault.Line n (line.UnknownName column)
fault_at n (line.BadOperand column) = fault.Line n (line.BadOperand column)
fault_at n (line.BadNumber column) = fault.Line n (line.BadNumber column)
fault_at n (line.Extra column) = fault.Line n (line.Extra column)

-- a line is in the grammar and has no fault, and these are the location counter after it and a table of the
-- labels after it
pub record Passes (n : ℕ) (p : LocationCounter) (labels : List Label) (text : List ℕ)
    (after : LocationCounter) (table : Labels) : Type 0 where
  pub said : SourceLine
  pub says : line_of text ≡ Ok said
  pub sound : line_fault n p labels (Ok said) ≡ None
  pub after_is : after ≡ counter_after p said.says
  pub limits : IsInLimits after
  pub knows : Knows table (labels_after p labels said)

-- of a source the lines before number n are passed, which leave this location counter and these labels, and
-- this is the rest of it
pub record IsScannedTo (source : List ℕ) (n : ℕ) (p : LocationCounter) (table : Labels)
    (rest : List ℕ) : Type 0 where
  pub list : List Label
  pub knows : Knows table list
  pub limits : IsInLimits p
  pub faults : lines_fault 1 first_counter [] (lines_of source) ≡ lines_fault n p list (lines_of rest)
  pub labels : labels_of (said_lines (lines_of source)) ≡ list ++ labels_from p (said_lines (lines_of rest))
  pub counter :
      counter_past first_counter (said_lines (lines_of source)) ≡ counter_past p (said_lines (lines_of rest))
  pub numbered : 1 ≤ n
  pub count : n + length rest ≤ 67108865

-- something is kept of one more line
pub record HasKept (old : List (Option KeptWord)) (text : List ℕ) (new : List (Option KeptWord)) : Type 0
  where
    pub kept : Option KeptWord
    pub added : new ≡ old ++ kept ∷ []
    pub is_kept : IsKept kept text

-- these are kept of the lines of a source before the rest of it, whatever is kept of that
abbrev pub AreKeptTo : List ℕ → List (Option KeptWord) → List ℕ → Type 0
AreKeptTo source kept rest =
    (more : List (Option KeptWord)) → AreKept more (lines_of rest) → AreKept (kept ++ more) (lines_of source)
