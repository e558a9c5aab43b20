-- Lines that are in the format are read, one after another.
use Rattle.std.proofs.Common.{◌≡◌, ℕ, zero, suc, ◌+◌, ◌-◌, min, cond, not, ◌&&◌, Bool, true, false, List, [], ◌∷◌, ◌++◌, length, map}
use Rattle.std.proofs.Common.{Option, Some, None, Result, Ok, refl, sym, ap, ◌∙◌, arith, subst, append_assoc, length-append}
use Rattle.std.specs.Prelude.{is_some, option_map}
use Rattle.std.specs.Str.{bytes_eq}
use Rattle.std.proofs.lemmas.Bool.{and_parts, not-true}
use Rattle.plain_lemmas.proofs.Lists.{cons_inj, bytes_eq-true}
use Rattle.line_reader.specs.Lines.{words_of}
use Rattle.line_reader.specs.Fields.{Saying, named, is_name, field, said_by}
use Rattle.line_reader.specs.Fields as fields
use Rattle.line_reader.specs.Reading.{Left, and_then, first_of, past_first, past_line, said_if, past_first_all, past_all, onto_said}
use Rattle.line_reader.specs.Reading.{first_said, each}
use Rattle.text_lines.specs.Forms.{name_of, fields_of, often_of}
use Rattle.text_lines.specs.declared.forms.LineKind.{LineKind}
use Rattle.text_lines.specs.declared.forms.FieldKind.{FieldKind}
use Rattle.text_lines.specs.declared.forms.Often.{Often}
use Rattle.text_lines.specs.declared.forms.Often.TheVariants.{Once, AtMostOnce, AnyTimes}
use Rattle.report_reader.specs.Reading.{Fault, Reading, taken, line, line_by}
use Rattle.report_reader.specs.Forms.{is_line, has_form, are_fields}
use Rattle.report_reader.specs.Events.{number_line, setting_line, out_line}
use Rattle.report_reader.specs.Block.{together, lines_of_kinds, out_lines}
use Rattle.report_reader.specs.Grammar.{IsOften, AllOfKind, AreOfKinds, AreOutput, bytes_in}
use Rattle.report_reader.specs.declared.events.Setting.{Setting}
use Rattle.report_reader.specs.declared.fault.ReportKind.{ReportKind}
use Rattle.report_reader.specs.declared.fault.ReportKind.TheVariants as part
use Rattle.report_reader.proofs.Passing.{bytes-append}
use Rattle.report_laws.proofs.FirstLines.{from_line, any_read, all_read}
use Rattle.report_laws.proofs.StateKinds.{differ_from, is_foreign, are_apart, parted}

-- ---- places

-- the place behind some lines
abbrev pub behind : ℕ → ℕ → List (List ℕ) → List (List ℕ) → Left
behind line place own rest = from_line (line + length own) (place + bytes_in own) rest

-- this was read up to that place
abbrev pub read_to : {A : Type 0} → A → ℕ → ℕ → List (List ℕ) → Result (A × Left) Fault
read_to a line place rest = Ok (a, from_line line place rest)

pub same_place : {A : Type 0} (a : A) (l m p q : ℕ) (rest : List (List ℕ)) → l ≡ m → p ≡ q → read_to a l p rest ≡ read_to a m q rest
same_place a l m p q rest e f = ap (λ n. read_to a n p rest) e ∙ ap (λ n. read_to a m n rest) f

-- the second of two readings
pub then_read : {A B : Type 0} (read : Result (A × Left) Fault) (next : A → Reading B) (a : A) (mid : Left) (all : Result (B × Left) Fault)
    → read ≡ Ok (a, mid) → next a mid ≡ all → and_then read next ≡ all
then_read read next a mid all first second = ap (λ r. and_then r next) first ∙ second

-- the second of two readings, of which the first reads several lines
pub lines_then : {A B : Type 0} (first : Reading A) (next : A → Reading B) (line place : ℕ) (own more rest : List (List ℕ)) (a : A)
    (all : Result (B × Left) Fault) → first (from_line line place (own ++ (more ++ rest))) ≡ Ok (a, behind line place own (more ++ rest))
    → next a (behind line place own (more ++ rest)) ≡ all → and_then (first (from_line line place ((own ++ more) ++ rest))) next ≡ all
lines_then first next line place own more rest a all one two =
    ap (λ ls. and_then (first (from_line line place ls)) next) (append_assoc own more rest)
    ∙ then_read (first (from_line line place (own ++ (more ++ rest)))) next a (behind line place own (more ++ rest)) all one two

-- ---- one line

pub line_read : {A : Type 0} (part : ReportKind) (says : List ℕ → Option A) (n place : ℕ) (text : List ℕ) (rest : List (List ℕ)) (a : A)
    → says text ≡ Some a → line part says (from_line n place (text ∷ rest)) ≡ read_to a (n + 1) (place + length text) rest
unfolding past_line
line_read part says n place text rest a said = ap (λ o. taken part o (from_line n place (text ∷ rest))) said

pub line_by_read : (part : List ℕ → ReportKind) (is : List ℕ → Bool) (n place : ℕ) (text : List ℕ) (rest : List (List ℕ)) → is text ≡ true
    → line_by part is (from_line n place (text ∷ rest)) ≡ read_to tt (n + 1) (place + length text) rest
unfolding past_line
line_by_read part is n place text rest holds = ap (λ b. taken (part text) (said_if b) (from_line n place (text ∷ rest))) holds

-- ---- the name of a line

-- the first word of a line is that name
pub record HasName (text name : List ℕ) : Type 0 where
  pub word : List ℕ
  pub words : List (List ℕ)
  pub are : words_of text ≡ word ∷ words
  pub is : word ≡ name

form_named : (text name : List ℕ) (fields : List FieldKind) (words : List (List ℕ)) → words_of text ≡ words
    → has_form name fields words ≡ true → HasName text name
unfolding has_form
form_named text name fields [] are e = cc
form_named text name fields (word ∷ words) are e =
    record {
      word = word;
      words = words;
      are = are;
      is = bytes_eq-true word name
          (and_parts (bytes_eq word name) (are_fields fields words) e).0;
    }

kind_named : (kind : LineKind) (text : List ℕ) → is_line kind text ≡ true → HasName text (name_of kind)
unfolding is_line
kind_named kind text e = form_named text (name_of kind) (fields_of kind) (words_of text) refl e

other_kind : (kind : LineKind) (text name : List ℕ) → HasName text name → bytes_eq name (name_of kind) ≡ false → is_line kind text ≡ false
unfolding is_line has_form
other_kind kind text name it other =
    ap (has_form (name_of kind) (fields_of kind)) it.are
    ∙ ap (λ b. b && are_fields (fields_of kind) it.words) (ap (λ w. bytes_eq w (name_of kind)) it.is ∙ other)

named_words : {A : Type 0} (text name : List ℕ) (next : Unit {0} → Saying A) (a : A) (words : List (List ℕ)) → words_of text ≡ words
    → option_map (λ (said : A × List (List ℕ)). said.0) (fields.and_then (named name words) next) ≡ Some a → HasName text name
unfolding named is_name
named_words {A} text name next a [] are e = cc
named_words {A} text name next a (word ∷ words) are e =
    elim (bytes_eq word name) as (λ b. bytes_eq word name ≡ b
    → option_map (λ (said : A × List (List ℕ)). said.0)
    (fields.and_then (option_map (λ (u : Unit {0}). (u, words)) (cond b (Some tt) None)) next) ≡ Some a → HasName text name) [
      | true ↦ λ is h. record { word = word; words = words; are = are; is = bytes_eq-true word name is }
      | false ↦ λ is h. cc
    ] refl e

number_named : (name text : List ℕ) (n : ℕ) → number_line name text ≡ Some n → HasName text name
unfolding number_line said_by
number_named name text n e = named_words text name _ n (words_of text) refl e

pub setting_named : (name : List ℕ) (bound : ℕ) (text : List ℕ) (setting : Setting) → setting_line name bound text ≡ Some setting
    → HasName text name
unfolding setting_line said_by
setting_named name bound text setting e = named_words text name _ setting (words_of text) refl e

other_words : {A : Type 0} (text name other : List ℕ) (next : Unit {0} → Saying A) → HasName text name → bytes_eq name other ≡ false
    → option_map (λ (said : A × List (List ℕ)). said.0) (fields.and_then (named other (words_of text)) next) ≡ None
unfolding named is_name
other_words {A} text name other next it differ =
    ap (λ ws. option_map (λ (said : A × List (List ℕ)). said.0) (fields.and_then (named other ws) next)) it.are
    ∙ ap (λ b. option_map (λ (said : A × List (List ℕ)). said.0)
    (fields.and_then (option_map (λ (u : Unit {0}). (u, it.words)) (cond b (Some tt) None)) next))
    (ap (λ w. bytes_eq w other) it.is ∙ differ)

pub other_setting : (text name other : List ℕ) (bound : ℕ) → HasName text name → bytes_eq name other ≡ false
    → setting_line other bound text ≡ None
unfolding setting_line said_by
other_setting text name other bound it differ = other_words text name other _ it differ

-- ---- lines of kinds

-- the line is of none of those kinds
abbrev pub IsNone : List LineKind → List ℕ → Type 0
IsNone [] text = Unit {0}
IsNone (kind ∷ kinds) text = (is_line kind text ≡ false) × IsNone kinds text

foreign_none : (kinds : List LineKind) (text name : List ℕ) → HasName text name → is_foreign name kinds ≡ true → IsNone kinds text
foreign_none [] text name it foreign = tt
foreign_none (kind ∷ kinds) text name it foreign =
    let parts = and_parts (not (bytes_eq name (name_of kind))) (is_foreign name kinds) foreign in
    (other_kind kind text name it (not-true _ parts.0), foreign_none kinds text name it parts.1)

pub number_none : (kinds : List LineKind) (text name : List ℕ) (n : ℕ) → number_line name text ≡ Some n → is_foreign name kinds ≡ true
    → IsNone kinds text
number_none kinds text name n e foreign = foreign_none kinds text name (number_named name text n e) foreign

-- so the line behind lines of later kinds is of no earlier one
unlike_first : (kind other : LineKind) (own others rest : List (List ℕ)) → AllOfKind other own
    → bytes_eq (name_of other) (name_of kind) ≡ false
    → is_line kind (first_of (others ++ rest)) ≡ false → is_line kind (first_of ((own ++ others) ++ rest)) ≡ false
unlike_first kind other [] others rest all differ unlike = unlike
unlike_first kind other (text ∷ own) others rest all differ unlike =
    other_kind kind text (name_of other) (kind_named other text all.0) differ

unlike_later : (kind : LineKind) (kinds : List LineKind) (own rest : List (List ℕ)) → AreOfKinds kinds own
    → differ_from (name_of kind) kinds ≡ true → is_line kind (first_of rest) ≡ false → is_line kind (first_of (own ++ rest)) ≡ false
unlike_later kind [] own rest are differ unlike = subst (λ ls. is_line kind (first_of (ls ++ rest)) ≡ false) (sym are) unlike
unlike_later kind (other ∷ kinds) own rest are differ unlike =
    let parts = and_parts (not (bytes_eq (name_of other) (name_of kind))) (differ_from (name_of kind) kinds) differ in
    let one = are.1 in
    subst (λ ls. is_line kind (first_of (ls ++ rest)) ≡ false) (sym one.whole)
    (unlike_first kind other one.first are.0 rest one.each (not-true _ parts.0)
    (unlike_later kind kinds are.0 rest are.2 parts.1 unlike))

all_passed : (kind : LineKind) (line place : ℕ) (own rest : List (List ℕ)) → AllOfKind kind own → is_line kind (first_of rest) ≡ false
    → any_read (is_line kind) line place (own ++ rest) ≡ Ok (tt, behind line place own rest)
all_passed kind line place [] [] all unlike = same_place tt line (line + 0) place (place + 0) [] (omega arith) (omega arith)
all_passed kind line place [] (text ∷ rest) all unlike =
    ap (λ b. let it : Result (Unit {0} × Left) Fault = Ok (
      tt,
      cond b (past_first_all (is_line kind) (line + 1) (place + length text) rest) (from_line line place (text ∷ rest)),
    ) in it) unlike
    ∙ same_place tt line (line + 0) place (place + 0) (text ∷ rest) (omega arith) (omega arith)
all_passed kind line place (text ∷ own) rest all unlike =
    ap (λ b. let it : Result (Unit {0} × Left) Fault = Ok (
      tt,
      cond b (past_first_all (is_line kind) (line + 1) (place + length text) (own ++ rest)) (from_line line place (text ∷ (own ++ rest))),
    ) in it) all.0
    ∙ all_passed kind (line + 1) (place + length text) own rest all.1 unlike
    ∙ same_place tt (line + 1 + length own) (line + suc (length own)) (place + length text + bytes_in own)
    (place + (length text + bytes_in own)) rest (omega arith) (omega arith)

together_read : (often : Often) (kind : LineKind) (line place : ℕ) (own rest : List (List ℕ)) → IsOften often (length own)
    → AllOfKind kind own
    → is_line kind (first_of rest) ≡ false
    → together often kind (from_line line place (own ++ rest)) ≡ Ok (tt, behind line place own rest)
unfolding past_line past_all
together_read Once kind line place [] rest many all unlike = absurd (omega (arith, many))
together_read Once kind line place (text ∷ []) rest many all unlike =
    line_read part.Block (λ t. said_if (is_line kind t)) line place text rest tt (ap said_if all.0)
    ∙ same_place tt (line + 1) (line + 1) (place + length text) (place + (length text + 0)) rest refl (omega arith)
together_read Once kind line place (text ∷ other ∷ own) rest many all unlike = absurd (omega (arith, many))
together_read AtMostOnce kind line place [] rest many all unlike =
    ap (λ b. let it : Result (Unit {0} × Left) Fault = Ok
    (tt, cond b (past_first line place rest) (from_line line place rest)) in it) unlike
    ∙ same_place tt line (line + 0) place (place + 0) rest (omega arith) (omega arith)
together_read AtMostOnce kind line place (text ∷ []) rest many all unlike =
    ap (λ b. let it : Result (Unit {0} × Left) Fault = Ok (
      tt,
      cond b (past_first line place (text ∷ rest)) (from_line line place (text ∷ rest)),
    ) in it) all.0
    ∙ same_place tt (line + 1) (line + 1) (place + length text) (place + (length text + 0)) rest refl (omega arith)
together_read AtMostOnce kind line place (text ∷ other ∷ own) rest many all unlike = absurd (omega (arith, many))
together_read AnyTimes kind line place own rest many all unlike = all_passed kind line place own rest all unlike

pub kinds_read : (kinds : List LineKind) (line place : ℕ) (own rest : List (List ℕ)) → are_apart kinds ≡ true → AreOfKinds kinds own
    → IsNone kinds (first_of rest) → lines_of_kinds kinds (from_line line place (own ++ rest)) ≡ Ok (tt, behind line place own rest)
unfolding lines_of_kinds
kinds_read [] line place own rest apart are none =
    subst (λ ls. lines_of_kinds [] (from_line line place (ls ++ rest)) ≡ Ok (tt, behind line place ls rest)) (sym are)
    (same_place tt line (line + 0) place (place + 0) rest (omega arith) (omega arith))
kinds_read (kind ∷ kinds) line place own rest apart are none =
    let parts = parted kind kinds apart in
    let one = are.1 in
    let others = are.0 in
    subst (λ ls. lines_of_kinds (kind ∷ kinds) (from_line line place (ls ++ rest)) ≡ Ok (tt, behind line place ls rest)) (sym one.whole)
    (lines_then (together (often_of kind) kind) (λ u. lines_of_kinds kinds) line place one.first others rest tt
    (Ok (tt, behind line place (one.first ++ others) rest))
    (together_read (often_of kind) kind line place one.first (others ++ rest) one.many one.each
    (unlike_later kind kinds others rest are.2 parts.differ none.0))
    (kinds_read kinds (line + length one.first) (place + bytes_in one.first) others rest parts.others are.2 none.1
    ∙ same_place tt (line + length one.first + length others) (line + length (one.first ++ others))
    (place + bytes_in one.first + bytes_in others) (place + bytes_in (one.first ++ others)) rest
    (omega (arith, length-append one.first others)) (omega (arith, bytes-append one.first others))))

-- ---- output

pub out_read : (n size line place : ℕ) (own rest : List (List ℕ)) → AreOutput n size own
    → out_lines n size (from_line line place (own ++ rest)) ≡ Ok (tt, behind line place own rest)
unfolding out_lines
out_read zero size n place own rest are =
    subst (λ ls. out_lines zero size (from_line n place (ls ++ rest)) ≡ Ok (tt, behind n place ls rest)) (sym are)
    (same_place tt n (n + 0) place (place + 0) rest (omega arith) (omega arith))
out_read (suc k) size n place [] rest are = absurd are
out_read (suc k) size n place (text ∷ own) rest are =
    then_read (line part.Block (out_line (min size 32)) (from_line n place (text ∷ (own ++ rest)))) (λ u. out_lines k (size - 32)) tt
    (from_line (n + 1) (place + length text) (own ++ rest)) (Ok (tt, behind n place (text ∷ own) rest))
    (line_read part.Block (out_line (min size 32)) n place text (own ++ rest) tt are.0)
    (out_read k (size - 32) (n + 1) (place + length text) own rest are.1
    ∙ same_place tt (n + 1 + length own) (n + suc (length own)) (place + length text + bytes_in own)
    (place + (length text + bytes_in own)) rest (omega arith) (omega arith))

-- ---- lines that say something each

pub each_read : {A : Type 0} (part : ReportKind) (says : List ℕ → Option A) (k n place : ℕ) (own rest : List (List ℕ)) (all : List A)
    → map says own ≡ map (λ a. Some a) all
    → each (λ j. line part says) (length all) k (from_line n place (own ++ rest)) ≡ Ok (all, behind n place own rest)
unfolding each
each_read part says k n place [] rest [] said = same_place [] n (n + 0) place (place + 0) rest (omega arith) (omega arith)
each_read part says k n place [] rest (a ∷ all) said = cc
each_read part says k n place (text ∷ own) rest [] said = cc
each_read {A} part says k n place (text ∷ own) rest (a ∷ all) said =
    let both = cons_inj said in
    let last : A → List A → Reading (List A) = λ b others left. Ok (b ∷ others, left) in
    let more : A → Reading (List A) = λ b left. and_then (each (λ j. line part says) (length all) (k + 1) left) (last b) in
    then_read (line part says (from_line n place (text ∷ (own ++ rest)))) more a
    (from_line (n + 1) (place + length text) (own ++ rest)) (Ok (a ∷ all, behind n place (text ∷ own) rest))
    (line_read part says n place text (own ++ rest) a both.0)
    (then_read (each (λ j. line part says) (length all) (k + 1) (from_line (n + 1) (place + length text) (own ++ rest))) (last a) all
    (behind (n + 1) (place + length text) own rest) (Ok (a ∷ all, behind n place (text ∷ own) rest))
    (each_read part says (k + 1) (n + 1) (place + length text) own rest all both.1)
    (same_place (a ∷ all) (n + 1 + length own) (n + suc (length own)) (place + length text + bytes_in own)
    (place + (length text + bytes_in own)) rest (omega arith) (omega arith)))

-- as many as come next
pub all_said : {A B : Type 0} (of : List A → B) (says : List ℕ → Option A) (line place : ℕ) (own rest : List (List ℕ)) (all : List A)
    → map says own ≡ map (λ a. Some a) all → says (first_of rest) ≡ None
    → all_read of says line place (own ++ rest) ≡ Ok (of all, behind line place own rest)
all_said of says line place [] [] [] said none = same_place (of []) line (line + 0) place (place + 0) [] (omega arith) (omega arith)
all_said {A} {B} of says line place [] (text ∷ rest) [] said none =
    ap (λ o. let it : Result (B × Left) Fault = Ok (
      of (onto_said o (first_said says rest)),
      cond (is_some o) (past_first_all (λ t. is_some (says t)) (line + 1) (place + length text) rest) (from_line line place (text ∷ rest)),
    ) in it) none
    ∙ same_place (of []) line (line + 0) place (place + 0) (text ∷ rest) (omega arith) (omega arith)
all_said of says line place [] rest (a ∷ all) said none = cc
all_said of says line place (text ∷ own) rest [] said none = cc
all_said {A} {B} of says line place (text ∷ own) rest (a ∷ all) said none =
    let both = cons_inj said in
    ap (λ o. let it : Result (B × Left) Fault = Ok (
      of (onto_said o (first_said says (own ++ rest))),
      cond (is_some o) (past_first_all (λ t. is_some (says t)) (line + 1) (place + length text) (own ++ rest))
          (from_line line place (text ∷ (own ++ rest))),
    ) in it) both.0
    ∙ all_said (λ more. of (a ∷ more)) says (line + 1) (place + length text) own rest all both.1 none
    ∙ same_place (of (a ∷ all)) (line + 1 + length own) (line + suc (length own)) (place + length text + bytes_in own)
    (place + (length text + bytes_in own)) rest (omega arith) (omega arith)
