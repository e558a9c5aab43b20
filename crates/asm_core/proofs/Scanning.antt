-- The steps of the first pass.
use Rattle.std.proofs.Common.{◌≡◌, ℕ, ◌+◌, ◌<◌, ◌≤◌, ◌≢◌, Bool, true, false, cond, List, [], ◌∷◌, ◌++◌, length, Option, Some, None, Ok, Err}
use Rattle.std.proofs.Common.{refl, sym, ap, ◌∙◌, subst, arith}
use Rattle.std.specs.Prelude.{option_map, is_some}
use Rattle.std.specs.Str.{bytes_eq}
use Rattle.std.proofs.lemmas.List.{append_assoc, append-nil}
use Rattle.std.proofs.lemmas.Slice.Eq.{bytes_eq-Decides}
use Rattle.asm_parser.specs.declared.line.LineFault.{LineFault}
use Rattle.asm_parser.specs.Statements.{SourceLine}
use Rattle.asm_parser.specs.Lines.{line_of}
use Rattle.asm_core.specs.declared.fault.AsmFault.{AsmFault}
use Rattle.asm_core.specs.declared.fault.AsmFault.TheVariants.{Line}
use Rattle.asm_core.specs.declared.labels.Labels.{Labels}
use Rattle.asm_core.specs.declared.location_counter.LocationCounter.{LocationCounter}
use Rattle.asm_core.specs.Source.{lines_of, said_lines}
use Rattle.asm_core.specs.Layout.{first_counter, Label, labels_at, label_named, label_position, labels_of, labels_from, counter_after, counter_past}
use Rattle.std.specs.Option.{option_or as or_else}
use Rattle.plain_lemmas.proofs.Options.{is_some-false}
use Rattle.asm_core.specs.Faults.{after_line, line_fault, lines_fault, labels_after}
use Rattle.asm_core.specs.Known.{known, Knows}
use Rattle.asm_core.specs.Scanned.{fault_at, Passes, IsScannedTo}
use Rattle.asm_core.specs.declared.fault.AsmFault.TheVariants as fault
use Rattle.asm_parser.specs.declared.line.LineFault.TheVariants as line

-- ---- one more label

named_cons : (l : Label) (ls : List Label) (name : List ℕ)
    → label_named (l ∷ ls) name ≡ cond (bytes_eq l.name name) (Some l) (label_named ls name)
unfolding label_named
named_cons l ls name = refl

named_none : (name : List ℕ) → label_named [] name ≡ None
unfolding label_named
named_none name = refl

-- the label of a name among labels with one more at the end: the first such
abbrev or_last : Option Label → Label → List ℕ → Option Label
or_last None l name = cond (bytes_eq l.name name) (Some l) None
or_last (Some found) l name = Some found

or_last-cond : (b : Bool) (a l : Label) (o : Option Label) (name : List ℕ)
    → cond b (Some a) (or_last o l name) ≡ or_last (cond b (Some a) o) l name
or_last-cond true a l o name = refl
or_last-cond false a l o name = refl

named_last : (ls : List Label) (l : Label) (name : List ℕ) → label_named (ls ++ l ∷ []) name ≡ or_last (label_named ls name) l name
named_last [] l name =
    named_cons l [] name ∙ ap (λ o. cond (bytes_eq l.name name) (Some l) o) (named_none name)
    ∙ ap (λ o. or_last o l name) (sym (named_none name))
named_last (a ∷ ls) l name =
    named_cons a (ls ++ l ∷ []) name ∙ ap (λ o. cond (bytes_eq a.name name) (Some a) o) (named_last ls l name)
    ∙ or_last-cond (bytes_eq a.name name) a l (label_named ls name) name ∙ ap (λ o. or_last o l name) (sym (named_cons a ls name))

placed_last : (o : Option Label) (l : Label) (name : List ℕ) (b : Bool) → bytes_eq l.name name ≡ b → (b ≡ true → o ≡ None)
    → option_map label_position (or_last o l name) ≡ cond b (Some (label_position l)) (option_map label_position o)
placed_last None l name true e h = rw e refl
placed_last None l name false e h = rw e refl
placed_last (Some found) l name true e h = let n : ◌≡◌ {A = Option Label} (Some found) None = h refl in cc
placed_last (Some found) l name false e h = refl

-- a table with one more label
pub knows_more : (table next : Labels) (list : List Label) (l : Label) → Knows table list → label_named list l.name ≡ None
    → ((other : List ℕ) → known next other ≡ cond (bytes_eq l.name other) (Some (label_position l)) (known table other))
    → Knows next (list ++ l ∷ [])
knows_more table next list l h new told = record {
  each = λ name.
      told name ∙ ap (λ o. cond (bytes_eq l.name name) (Some (label_position l)) o) (h.each name)
      ∙ sym (placed_last (label_named list name) l name (bytes_eq l.name name) refl
      (λ same. ap (label_named list) (sym ((bytes_eq-Decides l.name name).0 same)) ∙ new))
      ∙ sym (ap (option_map label_position) (named_last list l name));
}

-- ---- one more line

pub lines_cons : (n : ℕ) (p : LocationCounter) (list : List Label) (text : List ℕ) (texts : List (List ℕ))
    → lines_fault n p list (text ∷ texts) ≡ or_else (line_fault n p list (line_of text))
    (after_line (λ next known. lines_fault (n + 1) next known texts) p list (line_of text))
unfolding lines_fault
lines_cons n p list text texts = refl

pub line_passes : (n : ℕ) (p : LocationCounter) (list : List Label) (text : List ℕ) (texts : List (List ℕ)) (line : SourceLine)
    → line_of text ≡ Ok line → line_fault n p list (Ok line) ≡ None
    → lines_fault n p list (text ∷ texts) ≡ lines_fault (n + 1) (counter_after p line.says) (labels_after p list line) texts
line_passes n p list text texts line is sound = lines_cons n p list text texts ∙ rw (is, sound) refl

pub line_stops : (n : ℕ) (p : LocationCounter) (list : List Label) (text : List ℕ) (texts : List (List ℕ)) (fault : AsmFault)
    → line_fault n p list (line_of text) ≡ Some fault → lines_fault n p list (text ∷ texts) ≡ Some fault
line_stops n p list text texts fault e =
    lines_cons n p list text texts ∙ ap (λ o. or_else o
    (after_line (λ next known. lines_fault (n + 1) next known texts) p list (line_of text))) e

pub said_cons : (text : List ℕ) (texts : List (List ℕ)) (line : SourceLine) → line_of text ≡ Ok line → said_lines (text ∷ texts) ≡ line
    ∷ said_lines texts
unfolding said_lines
said_cons text texts line e = rw e refl

labels_cons : (p : LocationCounter) (line : SourceLine) (lines : List SourceLine)
    → labels_from p (line ∷ lines) ≡ labels_at p line ++ labels_from (counter_after p line.says) lines
unfolding labels_from
labels_cons p line lines = refl

counter_cons : (p : LocationCounter) (line : SourceLine) (lines : List SourceLine)
    → counter_past p (line ∷ lines) ≡ counter_past (counter_after p line.says) lines
unfolding counter_past
counter_cons p line lines = refl

-- the first pass comes past one more line
pub scanned_more : (source : List ℕ) (n : ℕ) (p : LocationCounter) (table : Labels) (rest text after : List ℕ) (next : LocationCounter)
    (more : Labels)
    (h : IsScannedTo source n p table rest)
    → lines_of rest ≡ text ∷ lines_of after → length after < length rest → Passes n p h.list text next more
    → IsScannedTo source (n + 1) next more after
scanned_more source n p table rest text after next more h split shorter passes =
    let line = passes.said in
    let said : said_lines (lines_of rest) ≡ line ∷ said_lines (lines_of after) =
    ap said_lines split ∙ said_cons text (lines_of after) line passes.says in
    record {
      list = labels_after p h.list line;
      knows = passes.knows;
      limits = passes.limits;
      faults = h.faults ∙ ap (lines_fault n p h.list) split ∙ line_passes n p h.list text (lines_of after) line passes.says passes.sound
          ∙ ap (λ (q : LocationCounter). lines_fault (n + 1) q (labels_after p h.list line) (lines_of after)) (sym passes.after_is);
      labels =
          h.labels ∙ ap (λ (ls : List SourceLine). h.list ++ labels_from p ls) said
          ∙ ap (λ (ls : List Label). h.list ++ ls) (labels_cons p line (said_lines (lines_of after)))
          ∙ sym (append_assoc h.list (labels_at p line)
          (labels_from (counter_after p line.says) (said_lines (lines_of after))))
          ∙ ap (λ (q : LocationCounter). labels_after p h.list line ++ labels_from q (said_lines (lines_of after))) (sym passes.after_is);
      counter =
          h.counter ∙ ap (counter_past p) said ∙ counter_cons p line (said_lines (lines_of after))
          ∙ ap (λ (q : LocationCounter). counter_past q (said_lines (lines_of after))) (sym passes.after_is);
      numbered = omega arith;
      count = let c : n + length rest ≤ 67108865 = h.count in omega arith;
    }

-- a line's fault is the source's
pub scanned_stops : (source : List ℕ) (n : ℕ) (p : LocationCounter) (table : Labels) (rest text after : List ℕ) (fault : AsmFault)
    (h : IsScannedTo source n p table rest) → lines_of rest ≡ text ∷ lines_of after
    → line_fault n p h.list (line_of text) ≡ Some fault → lines_fault 1 first_counter [] (lines_of source) ≡ Some fault
scanned_stops source n p table rest text after fault h split e =
    h.faults ∙ ap (lines_fault n p h.list) split ∙ line_stops n p h.list text (lines_of after) fault e

no_lines_fault : (n : ℕ) (p : LocationCounter) (list : List Label) → lines_fault n p list [] ≡ None
unfolding lines_fault
no_lines_fault n p list = refl

no_labels : (p : LocationCounter) → labels_from p [] ≡ []
unfolding labels_from
no_labels p = refl

no_counter : (p : LocationCounter) → counter_past p [] ≡ p
unfolding counter_past
no_counter p = refl

nothing_said : said_lines [] ≡ []
unfolding said_lines
nothing_said = refl

-- nothing is passed yet
pub scanned_none : (source : List ℕ) (table : Labels) → length source ≤ 67108864 → ((name : List ℕ) → known table name ≡ None)
    → IsScannedTo source 1 first_counter table source
scanned_none source table short empty = record {
  list = [];
  knows = record { each = λ name. empty name ∙ sym (ap (option_map label_position) (named_none name)) };
  limits = record { text = omega arith; data_part = omega arith };
  faults = refl;
  labels = refl;
  counter = refl;
  numbered = omega arith;
  count = omega arith;
}

-- all lines are passed
module _ (source : List ℕ) (n : ℕ) (p : LocationCounter) (table : Labels) (rest : List ℕ) (h : IsScannedTo source n p table rest)
    (over : lines_of rest ≡ []) where
  pub all_accepted : lines_fault 1 first_counter [] (lines_of source) ≡ None
  all_accepted = h.faults ∙ ap (lines_fault n p h.list) over ∙ no_lines_fault n p h.list

  nothing_left : said_lines (lines_of rest) ≡ []
  nothing_left = ap said_lines over ∙ nothing_said

  pub all_known : Knows table (labels_of (said_lines (lines_of source)))
  all_known =
      subst (Knows table) (sym (h.labels ∙ ap (λ (ls : List SourceLine). h.list ++ labels_from p ls) nothing_left
      ∙ ap (λ (ls : List Label). h.list ++ ls) (no_labels p) ∙ append-nil h.list)) h.knows

  pub all_placed : p ≡ counter_past first_counter (said_lines (lines_of source))
  all_placed = sym (h.counter ∙ ap (counter_past p) nothing_left ∙ no_counter p)

-- a line that is not in the grammar
pub unread : (n : ℕ) (p : LocationCounter) (list : List Label) (text : List ℕ) (fault : LineFault) → line_of text ≡ Err fault
    → line_fault n p list (line_of text) ≡ Some (Line n fault)
unfolding line_fault
unread n p list text fault e = rw e refl

-- the fault that its parsing gave is the line's
pub read_fault : (n : ℕ) (p : LocationCounter) (list : List Label) (text : List ℕ) (f : LineFault)
    → (f ≢ line.Memory → line_of text ≡ Err f)
    → fault_at n f ≢ fault.Memory → line_fault n p list (line_of text) ≡ Some (fault_at n f)
read_fault n p list text line.Memory h ne = absurd (ne refl)
read_fault n p list text (line.UnknownName column) h ne = unread n p list text (line.UnknownName column) (h (λ e. cc))
read_fault n p list text (line.BadOperand column) h ne = unread n p list text (line.BadOperand column) (h (λ e. cc))
read_fault n p list text (line.BadNumber column) h ne = unread n p list text (line.BadNumber column) (h (λ e. cc))
read_fault n p list text (line.Extra column) h ne = unread n p list text (line.Extra column) (h (λ e. cc))

pub doubled_name : (list : List Label) (name : List ℕ) → is_some (label_named list name) ≡ false → label_named list name ≡ None
doubled_name list name e = is_some-false (label_named list name) e
