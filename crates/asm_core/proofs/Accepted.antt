-- Lines of which none has a fault by itself: what holds of the first, of the location counters and of the labels.
use Rattle.std.proofs.Common.{◌≡◌, ℕ, ◌+◌, ◌≤◌, Bool, true, false, cond, List, [], ◌∷◌, ◌++◌, map, Option, Some, None, Result, Ok, Err}
use Rattle.std.proofs.Common.{nat_lt, refl, sym, ap, ◌∙◌, subst, arith, ltb-false}
use Rattle.std.proofs.lemmas.Bool.{or_parts}
use Rattle.std.specs.Prelude.{option_map}
use Rattle.std.specs.List.{find}
use Rattle.std.specs.Str.{bytes_eq}
use Rattle.asm_parser.specs.declared.line.LineFault.{LineFault}
use Rattle.asm_parser.specs.declared.line.LineFault.TheVariants.{BadOperand}
use Rattle.asm_parser.specs.Statements.{Instruction, SupportRoutines, CallTail, Says, Nothing, IntoText, IntoData, Quads, Words, Bytes, Zeros}
use Rattle.asm_parser.specs.Statements.{Aligns, Globals, Codes, SourceLine}
use Rattle.asm_parser.specs.Lines.{line_of}
use Rattle.asm_core.specs.declared.fault.AsmFault.{AsmFault}
use Rattle.asm_core.specs.declared.fault.AsmFault.TheVariants.{Line, Doubled, TooLarge}
use Rattle.asm_core.specs.declared.location_counter.LocationCounter.{LocationCounter}
use Rattle.asm_core.specs.declared.target_addresses.Addresses.{Addresses}
use Rattle.asm_core.specs.declared.labels.LabelPosition.{LabelPosition}
use Rattle.asm_core.specs.declared.labels.Labels.{Labels}
use Rattle.asm_core.specs.Source.{said_lines}
use Rattle.sm_types.specs.declared.object.Section.{Section}
use Rattle.sm_types.specs.declared.object.Section.TheVariants.{Text, Data}
use Rattle.asm_core.specs.Code.{NamedByte, code_words, names_said}
use Rattle.asm_core.specs.Layout.{here, here_in, size_of, grown_in, Label, label_at, label_past, labels_at, if_some, counter_after, counter_past, labels_from}
use Rattle.asm_core.specs.Layout.{label_named, label_position, labels_of, names_of, first_counter}
use Rattle.std.specs.Option.{option_or as or_else}
use Rattle.plain_lemmas.proofs.Options.{same_Ok}
use Rattle.asm_core.specs.Faults.{fault_if, misaligned, is_doubled, is_too_large, line_fault, labels_after, after_line, lines_fault}
use Rattle.asm_core.specs.Faults.{text_length_of}
use Rattle.asm_core.specs.Limits.{IsInLimits}
use Rattle.asm_core.specs.Known.{Knows, known}
use Rattle.asm_core.specs.Emitted.{IsFine, AreNear}

-- neither of two is a fault
both_none : (first second : Option AsmFault) → or_else first second ≡ None → (first ≡ None) × (second ≡ None)
both_none None second e = (refl, e)
both_none (Some fault) second e = cc

not_large : (b : Bool) (fault : AsmFault) → fault_if b fault ≡ None → b ≡ false
not_large true fault e = cc
not_large false fault e = refl

not_misaligned : (n : ℕ) (o : Option ℕ) → option_map (λ column. Line n (BadOperand column)) o ≡ None → o ≡ None
not_misaligned n None e = refl
not_misaligned n (Some column) e = cc

-- a line and the lines after it
pub record IsAccepted (n : ℕ) (p : LocationCounter) (labels : List Label) (text : List ℕ) (texts : List (List ℕ)) : Type 0 where
  pub line : SourceLine
  pub says : line_of text ≡ Ok line
  pub aligned : misaligned line.says (here p) ≡ None
  pub fits : is_too_large p line.says ≡ false
  pub rest : lines_fault (n + 1) (counter_after p line.says) (labels_after p labels line) texts ≡ None

accepted_by : (n : ℕ) (p : LocationCounter) (labels : List Label) (text : List ℕ) (texts : List (List ℕ)) (r : Result SourceLine LineFault)
    → line_of text ≡ r
    → or_else (line_fault n p labels r) (after_line (λ next known. lines_fault (n + 1) next known texts) p labels r) ≡ None
    → IsAccepted n p labels text texts
unfolding line_fault
accepted_by n p labels text texts (Err fault) is e = cc
accepted_by n p labels text texts (Ok line) is e =
    let parts = both_none (line_fault n p labels (Ok line)) _ e in
    let first = both_none (option_map (λ column. Line n (BadOperand column)) (misaligned line.says (here p))) _ parts.0 in
    let second = both_none (fault_if (is_doubled labels (labels_at p line)) (Doubled n)) _ first.1 in
    record {
      line = line;
      says = is;
      aligned = not_misaligned n (misaligned line.says (here p)) first.0;
      fits = not_large (is_too_large p line.says) (TooLarge n) second.1;
      rest = parts.1;
    }

pub accepted_first : (n : ℕ) (p : LocationCounter) (labels : List Label) (text : List ℕ) (texts : List (List ℕ))
    → lines_fault n p labels (text ∷ texts) ≡ None → IsAccepted n p labels text texts
unfolding lines_fault
accepted_first n p labels text texts e = accepted_by n p labels text texts (line_of text) refl e

pub fine_first : (n : ℕ) (p : LocationCounter) (labels : List Label) (text : List ℕ) (texts : List (List ℕ))
    → lines_fault n p labels (text ∷ texts) ≡ None → IsFine p text
fine_first n p labels text texts e =
    let a = accepted_first n p labels text texts e in record { line = a.line; says = a.says; fits = a.fits }

pub said_first : (text : List ℕ) (texts : List (List ℕ)) (line : SourceLine) → line_of text ≡ Ok line → said_lines (text ∷ texts) ≡ line
    ∷ said_lines texts
unfolding said_lines
said_first text texts line e = rw e refl

-- ---- limits

pub limits_after : (p : LocationCounter) (says : Says) → is_too_large p says ≡ false → IsInLimits (counter_after p says)
unfolding is_too_large
limits_after p says e =
    let parts = or_parts (nat_lt 4194304 (counter_after p says).text_size) (nat_lt 4194304 (counter_after p says).data_size) e in
    record { text = ltb-false _ _ parts.0; data_part = ltb-false _ _ parts.1 }

pub limits_past : (n : ℕ) (p : LocationCounter) (labels : List Label) (texts : List (List ℕ)) → IsInLimits p
    → lines_fault n p labels texts ≡ None
    → IsInLimits (counter_past p (said_lines texts))
unfolding counter_past said_lines
limits_past n p labels [] h e = h
limits_past n p labels (text ∷ texts) h e =
    let a = accepted_first n p labels text texts e in
    let rest =
    limits_past (n + 1) (counter_after p a.line.says) (labels_after p labels a.line) texts (limits_after p a.line.says a.fits) a.rest in
    rw (said_first text texts a.line a.says) rest

fits_in : (part : Section) (p : LocationCounter) (size : ℕ) → (grown_in part p size).text_size ≤ 4194304
    → (grown_in part p size).data_size ≤ 4194304
    → here_in part p + size ≤ 4194304
fits_in Text p size t d = t
fits_in Data p size t d = d

-- the bytes of a line fit into its part
pub fits_here : (p : LocationCounter) (says : Says) → is_too_large p says ≡ false → here p + size_of says (here p) ≤ 4194304
unfolding counter_after
fits_here p says e = let h = limits_after p says e in fits_in p.part p (size_of says (here p)) h.text h.data_part

pub one_line : (text : List ℕ) (a b : SourceLine) → line_of text ≡ Ok a → line_of text ≡ Ok b → a ≡ b
one_line text a b e f = same_Ok a b (sym e ∙ f)

-- a line that is fine, as it was parsed
pub fine_fits : (p : LocationCounter) (text : List ℕ) (line : SourceLine) → IsFine p text → line_of text ≡ Ok line
    → is_too_large p line.says ≡ false
fine_fits p text line fine e =
    subst (λ (l : SourceLine). is_too_large p l.says ≡ false) (one_line text fine.line line fine.says e) fine.fits

-- ---- labels

near_found : (test : Label → Bool) (l found : Label) (ls : List Label) → l.offset ≤ 4194304
    → ((f : Label) → find test ls ≡ Some f → f.offset ≤ 4194304) → find test (l ∷ ls) ≡ Some found → found.offset ≤ 4194304
near_found test l found ls near rest e = elim (test l) as (λ b. cond b (Some l) (find test ls) ≡ Some found → found.offset ≤ 4194304) [
  | true ↦ λ h. let same : l ≡ found = cc in subst (λ (x : Label). x.offset ≤ 4194304) same near
  | false ↦ λ h. rest found h
] e

here_part : (part : Section) (p : LocationCounter) → IsInLimits p → here_in part p ≤ 4194304
here_part Text p h = h.text
here_part Data p h = h.data_part

pub here_near : (p : LocationCounter) → IsInLimits p → here p ≤ 4194304
here_near p h = here_part p.part p h

-- each item of a list has a property
abbrev Each : {A : Type 0} → (A → Type 0) → List A → Type 0
Each P [] = Unit {0}
Each P (a ∷ items) = P a × Each P items

-- a label is near
abbrev IsNear : Label → Type 0
IsNear l = l.offset ≤ 4194304

near_labelled : (test : Label → Bool) (more : List Label) (found : Label) (ls : List Label) → Each IsNear more
    → ((f : Label) → find test ls ≡ Some f → f.offset ≤ 4194304) → find test (more ++ ls) ≡ Some found → found.offset ≤ 4194304
near_labelled test [] found ls h rest e = rest found e
near_labelled test (l ∷ more) found ls h rest e =
    near_found test l found (more ++ ls) h.0 (λ f g. near_labelled test more f ls h.1 rest g) e

-- the names of a line are of its bytes
within_line : (says : Says) (offset : ℕ) → Each (λ (n : NamedByte). n.offset ≤ size_of says offset) (names_said says)
unfolding size_of code_words
within_line (Codes SupportRoutines column) offset = (omega arith, (omega arith, (omega arith, tt)))
within_line (Codes (Instruction word target) column) offset = tt
within_line (Codes CallTail column) offset = tt
within_line Nothing offset = tt
within_line IntoText offset = tt
within_line IntoData offset = tt
within_line (Quads values) offset = tt
within_line (Words numbers) offset = tt
within_line (Bytes numbers) offset = tt
within_line (Zeros count) offset = tt
within_line (Aligns power) offset = tt
within_line (Globals name) offset = tt

names_near : (p : LocationCounter) (size : ℕ) (names : List NamedByte) → here p + size ≤ 4194304 → Each (λ (n : NamedByte). n.offset ≤ size) names
    → Each IsNear (map (label_past p) names)
names_near p size [] h w = tt
names_near p size (n ∷ names) h w =
    let first : n.offset ≤ size = w.0 in let near : here p + n.offset ≤ 4194304 = omega arith in (near, names_near p size names h w.1)

near_all : (xs ys : List Label) → Each IsNear xs → Each IsNear ys → Each IsNear (xs ++ ys)
near_all [] ys h g = g
near_all (x ∷ xs) ys h g = (h.0, near_all xs ys h.1 g)

own_near : (p : LocationCounter) (label : Option (List ℕ)) → here p ≤ 4194304 → Each IsNear (if_some (option_map (label_at p) label))
own_near p None h = tt
own_near p (Some name) h = (h, tt)

line_near : (p : LocationCounter) (line : SourceLine) → IsInLimits p → is_too_large p line.says ≡ false → Each IsNear (labels_at p line)
line_near p line h e =
    near_all _ _ (own_near p line.label (here_near p h))
    (names_near p (size_of line.says (here p)) (names_said line.says) (fits_here p line.says e) (within_line line.says (here p)))

labels_near : (test : Label → Bool) (n : ℕ) (p : LocationCounter) (labels : List Label) (texts : List (List ℕ)) → IsInLimits p
    → lines_fault n p labels texts ≡ None → (found : Label) → find test (labels_from p (said_lines texts)) ≡ Some found
    → found.offset ≤ 4194304
unfolding labels_from said_lines
labels_near test n p labels [] h e found g = cc
labels_near test n p labels (text ∷ texts) h e found g =
    let a = accepted_first n p labels text texts e in
    let after = counter_after p a.line.says in
    let rest = labels_near test (n + 1) after (labels_after p labels a.line) texts (limits_after p a.line.says a.fits) a.rest in
    near_labelled test (labels_at p a.line) found (labels_from after (said_lines texts)) (line_near p a.line h a.fits) rest
    (sym (ap (λ ls. find test (labels_from p ls)) (said_first text texts a.line a.says)) ∙ g)

near_counter : (o : Option Label) (counter : LabelPosition) → ((found : Label) → o ≡ Some found → found.offset ≤ 4194304)
    → option_map label_position o ≡ Some counter → counter.offset ≤ 4194304
near_counter None counter near e = cc
near_counter (Some found) counter near e =
    let same : label_position found ≡ counter = cc in subst (λ (l : LabelPosition). l.offset ≤ 4194304) same (near found refl)

-- the text of such lines has at most 4 MiB, and so has what stands before their labels
pub addresses_near : (addresses : Addresses) (texts : List (List ℕ)) → addresses.text_size ≡ text_length_of (said_lines texts)
    → Knows addresses.labels.now (labels_of (said_lines texts)) → lines_fault 1 first_counter [] texts ≡ None → AreNear addresses
unfolding label_named
addresses_near addresses texts size knows e = record {
  text =
      subst (λ n. n ≤ 4194304) (sym size) (limits_past 1 first_counter [] texts (record { text = omega arith; data_part = omega arith })
      e).text;
  labels = λ name counter is.
      near_counter (label_named (labels_of (said_lines texts)) name) counter
      (λ found named. labels_near (λ label. bytes_eq label.name name) 1 first_counter [] texts
      (record { text = omega arith; data_part = omega arith }) e found named)
      (sym (knows.each name) ∙ is);
}

-- what a table knows is what the names of its labels stand for
pub same_names : (table : Labels) (labels : List Label) → Knows table labels → names_of labels ≡ known table
same_names table labels knows = λ i name. sym (knows.each name) i
