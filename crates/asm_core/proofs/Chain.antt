-- The faults of a source in their order.
use Rattle.std.proofs.Common.{◌≡◌, ℕ, true, false, nat_lt, List, [], length, Some, None, refl, ◌∙◌, subst}
use Rattle.std.specs.Str.Lossy.{utf8_valid_len}
use Rattle.sm_types.specs.declared.object.Object.{Object}
use Rattle.sm_types.specs.declared.object.Section.{Section}
use Rattle.sm_types.specs.declared.object.Section.TheVariants.{Text, Data}
use Rattle.asm_parser.specs.Statements.{SourceLine}
use Rattle.asm_core.specs.declared.fault.AsmFault.{AsmFault}
use Rattle.asm_core.specs.declared.fault.AsmFault.TheVariants.{TooLong, NotText, NoStart}
use Rattle.asm_core.specs.Source.{lines_of, said_lines}
use Rattle.asm_core.specs.declared.object_parts.Parts.{Parts}
use Rattle.asm_core.specs.Layout.{first_counter, counter_of, names_in}
use Rattle.asm_core.specs.Assembly.{Puts, part_bytes, Assembles}
use Rattle.asm_core.specs.Parts.{bytes_in, ArePartsOf}
use Rattle.asm_core.specs.Faults.{lines_fault, targets_fault, text_length_of, start_of, said_fault, text_fault, asm_fault}

pub long_source : (source : List ℕ) → nat_lt 67108864 (length source) ≡ true → asm_fault source ≡ Some TooLong
unfolding asm_fault
long_source source e = rw e refl

pub no_text : (source : List ℕ) → nat_lt 67108864 (length source) ≡ false → nat_lt (utf8_valid_len source) (length source) ≡ true
    → asm_fault source ≡ Some (NotText (utf8_valid_len source))
unfolding asm_fault
no_text source e f = rw (e, f) refl

is_text : (source : List ℕ) → nat_lt 67108864 (length source) ≡ false → nat_lt (utf8_valid_len source) (length source) ≡ false
    → asm_fault source ≡ text_fault (lines_of source)
unfolding asm_fault
is_text source e f = rw (e, f) refl

faulty_text : (texts : List (List ℕ)) (fault : AsmFault) → lines_fault 1 first_counter [] texts ≡ Some fault → text_fault texts ≡ Some fault
unfolding text_fault
faulty_text texts fault e = rw e refl

sound_text : (texts : List (List ℕ)) → lines_fault 1 first_counter [] texts ≡ None → text_fault texts ≡ said_fault (said_lines texts)
unfolding text_fault
sound_text texts e = rw e refl

module _ (lines : List SourceLine) where
  faulty_target : (fault : AsmFault) → targets_fault 1 (text_length_of lines) (names_in lines) first_counter lines ≡ Some fault
      → said_fault lines ≡ Some fault
  unfolding said_fault
  faulty_target fault e = rw e refl

  no_start : targets_fault 1 (text_length_of lines) (names_in lines) first_counter lines ≡ None
      → start_of (text_length_of lines) (names_in lines) ≡ None → said_fault lines ≡ Some NoStart
  unfolding said_fault
  no_start e f = rw (e, f) refl

  no_said_fault : (entry : ℕ) → targets_fault 1 (text_length_of lines) (names_in lines) first_counter lines ≡ None
      → start_of (text_length_of lines) (names_in lines) ≡ Some entry → said_fault lines ≡ None
  unfolding said_fault
  no_said_fault entry e f = rw (e, f) refl

-- a source that is short enough and is text
module _ (source : List ℕ) (short : nat_lt 67108864 (length source) ≡ false) (text : nat_lt (utf8_valid_len source) (length source) ≡ false)
  where
    pub line_fault_is : (fault : AsmFault) → lines_fault 1 first_counter [] (lines_of source) ≡ Some fault → asm_fault source ≡ Some fault
    line_fault_is fault e = is_text source short text ∙ faulty_text (lines_of source) fault e

    -- and whose lines have no fault
    module _ (accepted : lines_fault 1 first_counter [] (lines_of source) ≡ None) where
      said_is : asm_fault source ≡ said_fault (said_lines (lines_of source))
      said_is = is_text source short text ∙ sound_text (lines_of source) accepted

      pub target_fault_is : (fault : AsmFault)
          → targets_fault 1 (text_length_of (said_lines (lines_of source))) (names_in (said_lines (lines_of source))) first_counter
          (said_lines (lines_of source)) ≡ Some fault → asm_fault source ≡ Some fault
      target_fault_is fault e = said_is ∙ faulty_target (said_lines (lines_of source)) fault e

      pub no_start_is : targets_fault 1 (text_length_of (said_lines (lines_of source)))
          (names_in (said_lines (lines_of source))) first_counter
          (said_lines (lines_of source)) ≡ None
          → start_of (text_length_of (said_lines (lines_of source))) (names_in (said_lines (lines_of source))) ≡ None
          → asm_fault source ≡ Some NoStart
      no_start_is e f = said_is ∙ no_start (said_lines (lines_of source)) e f

      pub no_fault_is : (entry : ℕ) → targets_fault 1 (text_length_of (said_lines (lines_of source)))
          (names_in (said_lines (lines_of source))) first_counter (said_lines (lines_of source)) ≡ None
          → start_of (text_length_of (said_lines (lines_of source))) (names_in (said_lines (lines_of source))) ≡ Some entry
          → asm_fault source ≡ None
      no_fault_is entry e f = said_is ∙ no_said_fault (said_lines (lines_of source)) entry e f

-- the parts with an entry
abbrev object_with : Parts → ℕ → Object
object_with parts entry = record { text_bytes = parts.text_bytes; data_bytes = parts.data_bytes; symbols = parts.symbols; entry = entry }

same_bytes : (parts : Parts) (entry : ℕ) (part : Section) → bytes_in parts part ≡ part_bytes (object_with parts entry) part
same_bytes parts entry Text = refl
same_bytes parts entry Data = refl

-- the object of a source
pub assembled : (source : List ℕ) (parts : Parts) (entry : ℕ) → asm_fault source ≡ None → ArePartsOf (said_lines (lines_of source)) parts
    → start_of (text_length_of (said_lines (lines_of source))) (names_in (said_lines (lines_of source))) ≡ Some entry
    → Assembles source (object_with parts entry)
assembled source parts entry accepted are starts = record {
  accepted = accepted;
  object_is = record {
    text_size = are.text_size;
    data_size = are.data_size;
    puts = λ k line at.
        let lines = said_lines (lines_of source) in
        subst (λ (bytes : List ℕ). Puts (text_length_of lines) (names_in lines) bytes (counter_of lines k) line.says)
        (same_bytes parts entry (counter_of lines k).part) (are.puts k line at);
    symbols = are.symbols;
    starts = starts;
  };
}
