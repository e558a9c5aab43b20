-- The object of a source can be written.
use Rattle.sm_types.specs.Objects.{text_address}
use Rattle.std.proofs.Common.{◌≡◌, ℕ, ◌+◌, ◌%◌, ◌<◌, ◌≤◌, Bool, true, false, cond, ◌==◌, ◌&&◌, nat_lt, List, [], Option, Some, None, refl}
use Rattle.std.proofs.Common.{sym, subst, arith}
use Rattle.std.proofs.lemmas.Bool.{and_parts, ltb-true}
use Rattle.std.proofs.lemmas.Bool.Decides.{nat_tests}
use Rattle.std.proofs.lemmas.Option.{same_Some}
use Rattle.sm_types.specs.declared.object.Object.{Object}
use Rattle.sm_types.specs.declared.object.Section.{Section}
use Rattle.sm_types.specs.declared.object.Section.TheVariants.{Text, Data}
use Rattle.asm_core.specs.declared.location_counter.LocationCounter.{LocationCounter}
use Rattle.asm_core.specs.Source.{lines_of, said_lines}
use Rattle.asm_core.specs.declared.labels.LabelPosition.{LabelPosition}
use Rattle.asm_core.specs.Layout.{first_counter, counter_past, Names, names_in}
use Rattle.asm_core.specs.Faults.{lines_fault, start_in, start_at, start_of, text_length_of}
use Rattle.asm_core.specs.Limits.{IsInLimits}
use Rattle.asm_core.specs.Assembly.{Assembles}
use Rattle.a64_encode.specs.Writable.{IsWritable}
use Rattle.asm_core.proofs.Listed.{object_listed}

-- an address at which a program can start
record Starts (size entry : ℕ) : Type 0 where
  aligned : entry % 4 ≡ 0
  from : text_address ≤ entry
  before : entry < text_address + size

is_multiple : (n : ℕ) → (n % 4 == 0) ≡ true → n % 4 ≡ 0
is_multiple n e = grind (arith, nat_tests)

starts_there : (size offset : ℕ) → offset % 4 ≡ 0 → offset < size → Starts size (text_address + offset)
starts_there size offset e l = record { aligned = omega arith; from = omega arith; before = omega arith }

starts_if : (size offset entry : ℕ) (b : Bool) → (offset % 4 == 0 && nat_lt offset size) ≡ b
    → cond b (Some (text_address + offset)) None ≡ Some entry → Starts size entry
starts_if size offset entry true is e =
    let p = and_parts (offset % 4 == 0) (nat_lt offset size) is in
    subst (Starts size) (same_Some (text_address + offset) entry e)
    (starts_there size offset (is_multiple offset p.0) (ltb-true offset size p.1))
starts_if size offset entry false is e = cc

starts_in : (size : ℕ) (part : Section) (offset entry : ℕ) → start_in size part offset ≡ Some entry → Starts size entry
starts_in size Text offset entry e = starts_if size offset entry (offset % 4 == 0 && nat_lt offset size) refl e
starts_in size Data offset entry e = cc

starts_at : (size entry : ℕ) (label : Option LabelPosition) → start_at size label ≡ Some entry → Starts size entry
starts_at size entry None e = cc
starts_at size entry (Some label) e = starts_in size label.part label.offset entry e

starts : (size entry : ℕ) (names : Names) → start_of size names ≡ Some entry → Starts size entry
unfolding start_of
starts size entry names e = starts_at size entry (names _) e

pub sound_object : (source : List ℕ) (object : Object) (end : LocationCounter) → lines_fault 1 first_counter [] (lines_of source) ≡ None
    → Assembles source object → end ≡ counter_past first_counter (said_lines (lines_of source)) → IsInLimits end
    → IsWritable object
sound_object source object end accepted h is limits =
    let o = h.object_is in
    let s = starts (text_length_of (said_lines (lines_of source))) object.entry (names_in (said_lines (lines_of source))) o.starts in
    let placed = subst IsInLimits is limits in
    record {
      startable =
          record { aligned = s.aligned; from = s.from; before = subst (λ n. object.entry < text_address + n) (sym o.text_size) s.before };
      text_size = subst (λ n. n ≤ 4194304) (sym o.text_size) placed.text;
      data_size = subst (λ n. n ≤ 4194304) (sym o.data_size) placed.data_part;
      listed = object_listed (lines_of source) accepted object o;
    }
