-- The fault of a line by the tests on it, in their order.
use Rattle.std.proofs.Common.{◌≡◌, ℕ, true, false, List, Some, None, Ok, refl}
use Rattle.asm_parser.specs.declared.line.LineFault.TheVariants.{BadOperand}
use Rattle.asm_parser.specs.Statements.{SourceLine}
use Rattle.asm_core.specs.declared.fault.AsmFault.TheVariants.{Line, Doubled, TooLarge}
use Rattle.asm_core.specs.declared.location_counter.LocationCounter.{LocationCounter}
use Rattle.asm_core.specs.Layout.{Label, here, labels_at}
use Rattle.asm_core.specs.Faults.{misaligned, is_doubled, is_too_large, line_fault}

module _ (n : ℕ) (p : LocationCounter) (labels : List Label) (line : SourceLine) where
  pub misaligned_fault : (column : ℕ) → misaligned line.says (here p) ≡ Some column
      → line_fault n p labels (Ok line) ≡ Some (Line n (BadOperand column))
  unfolding line_fault
  misaligned_fault column e = rw e refl

  pub doubled_fault : misaligned line.says (here p) ≡ None → is_doubled labels (labels_at p line) ≡ true
      → line_fault n p labels (Ok line) ≡ Some (Doubled n)
  unfolding line_fault
  doubled_fault e f = rw (e, f) refl

  pub large_fault : misaligned line.says (here p) ≡ None → is_doubled labels (labels_at p line) ≡ false → is_too_large p line.says ≡ true
      → line_fault n p labels (Ok line) ≡ Some (TooLarge n)
  unfolding line_fault
  large_fault e f g = rw (e, f, g) refl

  pub no_fault : misaligned line.says (here p) ≡ None → is_doubled labels (labels_at p line) ≡ false → is_too_large p line.says ≡ false
      → line_fault n p labels (Ok line) ≡ None
  unfolding line_fault
  no_fault e f g = rw (e, f, g) refl
