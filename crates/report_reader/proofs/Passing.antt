-- Which lines a reading passes, and what they say.
use Rattle.std.proofs.Common.{◌≡◌, ℕ, zero, suc, ◌+◌, ◌-◌, ◌≤◌, min, Bool, true, false, ◌==◌, cond, List, [], ◌∷◌, ◌++◌, length, map, Option, Some, None, Result, Ok, Err, refl, sym, ap, ◌∙◌, arith, subst, append_assoc, length-append}
use Rattle.std.specs.Prelude.{is_some}
use Rattle.line_reader.specs.Lines.{lines_of, words_of, is_ended, onto_first}
use Rattle.line_reader.specs.Fields.{said_by, named}
use Rattle.line_reader.specs.Reading.{Left, and_then, first_of, next_line, past_first, past_line, past_first_all, past_all, said_if, onto_said, first_said, each}
use Rattle.text_lines.specs.Forms.{often_of}
use Rattle.text_lines.specs.declared.forms.LineKind.{LineKind}
use Rattle.text_lines.specs.declared.forms.Often.{Often}
use Rattle.text_lines.specs.declared.forms.Often.TheVariants.{Once, AtMostOnce, AnyTimes}
use Rattle.report_reader.specs.Reading.{Fault, Reading, taken, line, line_by}
use Rattle.report_reader.specs.Forms.{is_line, has_form}
use Rattle.report_reader.specs.Events.{out_line}
use Rattle.report_reader.specs.Block.{together, lines_of_kinds, out_lines}
use Rattle.report_reader.specs.Grammar.{IsOften, AllOfKind, AreOfKinds, AreOutput, bytes_in}
use Rattle.report_reader.specs.declared.fault.ReportKind.{ReportKind}
use Rattle.report_reader.specs.declared.fault.ReportKind.TheVariants as part

-- ---- results

-- the two parts of what is read
pub read_is : {A : Type 0} (a b : A) (left after : Left)
    → ◌≡◌ {A = Result (A × Left) Fault} (Ok (a, left)) (Ok (b, after)) → (a ≡ b) × (left ≡ after)
read_is {A} a b left after e = (ap (value_of a) e, ap (left_of left) e)
  where
    value_of : A → Result (A × Left) Fault → A
    value_of d (Ok read) = read.0
    value_of d (Err fault) = d

    left_of : Left → Result (A × Left) Fault → Left
    left_of d (Ok read) = read.1
    left_of d (Err fault) = d

-- what the first of two readings read, and what is left for the second
pub record Split {A B : Type 0} (read : Result (A × Left) Fault) (next : A → Reading B) (b : B) (after : Left) : Type 0 where
  pub value : A
  pub mid : Left
  pub first : read ≡ Ok (value, mid)
  pub second : next value mid ≡ Ok (b, after)

pub split : {A B : Type 0} (read : Result (A × Left) Fault) (next : A → Reading B) (b : B) (after : Left)
    → and_then read next ≡ Ok (b, after) → Split read next b after
split (Ok read) next b after e = record { value = read.0; mid = read.1; first = refl; second = e }
split (Err fault) next b after e = cc

-- ---- lines that are passed

pub bytes-append : (xs ys : List (List ℕ)) → bytes_in (xs ++ ys) ≡ bytes_in xs + bytes_in ys
bytes-append [] ys = omega arith
bytes-append (x ∷ xs) ys = omega (arith, bytes-append xs ys)

-- these lines are between two places
pub record Passed (left after : Left) (lines : List (List ℕ)) : Type 0 where
  pub split : left.lines ≡ lines ++ after.lines
  pub line : after.line ≡ left.line + length lines
  pub place : after.place ≡ left.place + bytes_in lines

pub passed_none : (left : Left) → Passed left left []
passed_none left = record { split = refl; line = omega arith; place = omega arith }

pub passed_then : {left mid after : Left} {xs ys : List (List ℕ)} → Passed left mid xs → Passed mid after ys → Passed left after (xs ++ ys)
passed_then {left} {mid} {after} {xs} {ys} first second = record {
  split = first.split ∙ ap (λ (ls : List (List ℕ)). xs ++ ls) second.split ∙ sym (append_assoc xs ys after.lines);
  line = omega (arith, first.line, second.line, length-append xs ys);
  place = omega (arith, first.place, second.place, bytes-append xs ys);
}

passed_first : (line place : ℕ) (text : List ℕ) (lines : List (List ℕ))
    → Passed (record { line = line; place = place; lines = text ∷ lines }) (past_first line place (text ∷ lines)) (text ∷ [])
passed_first line place text lines = record { split = refl; line = omega arith; place = omega arith }

-- ---- one line

-- one line is between two places, and says this
pub record IsOne {A : Type 0} (says : List ℕ → Option A) (left after : Left) (a : A) : Type 0 where
  pub text : List ℕ
  pub passed : Passed left after (text ∷ [])
  pub said : says text ≡ Some a

first_one : {A : Type 0} (says : List ℕ → Option A) (line place : ℕ) (lines : List (List ℕ)) (a : A) → says [] ≡ None
    → says (first_of lines) ≡ Some a → IsOne says (record { line = line; place = place; lines = lines }) (past_first line place lines) a
first_one says line place [] a silent said = cc
first_one says line place (text ∷ lines) a silent said =
    record { text = text; passed = passed_first line place text lines; said = said }

taken_one : {A : Type 0} (part : ReportKind) (says : List ℕ → Option A) (left : Left) (said : Option A) (a : A) (after : Left)
    → says [] ≡ None → says (next_line left) ≡ said → taken part said left ≡ Ok (a, after) → IsOne says left after a
unfolding past_line
taken_one part says left None a after silent is e = cc
taken_one part says left (Some b) a after silent is e =
    let same = read_is b a (past_line left) after e in
    subst (λ l. IsOne says left l a) same.1
    (first_one says left.line left.place left.lines a silent (is ∙ ap (λ x. Some x) same.0))

pub one_line : {A : Type 0} (part : ReportKind) (says : List ℕ → Option A) (left : Left) (a : A) (after : Left) → says [] ≡ None
    → line part says left ≡ Ok (a, after) → IsOne says left after a
one_line part says left a after silent e = taken_one part says left (says (next_line left)) a after silent refl e

said_true : (b : Bool) (u : Unit {0}) → said_if b ≡ Some u → b ≡ true
said_true true u e = refl
said_true false u e = cc

-- one line that is as it should be
pub record IsHeld (is : List ℕ → Bool) (left after : Left) : Type 0 where
  pub text : List ℕ
  pub passed : Passed left after (text ∷ [])
  pub holds : is text ≡ true

pub one_by : (part : ReportKind) (is : List ℕ → Bool) (left : Left) (u : Unit {0}) (after : Left) → is [] ≡ false
    → taken part (said_if (is (next_line left))) left ≡ Ok (u, after) → IsHeld is left after
one_by part is left u after silent e =
    let one = taken_one part (λ text. said_if (is text)) left (said_if (is (next_line left))) u after (ap said_if silent) refl e in
    record { text = one.text; passed = one.passed; holds = said_true (is one.text) u one.said }

-- ---- lines of a kind

pub no_kind : (kind : LineKind) → is_line kind [] ≡ false
unfolding is_line has_form words_of is_ended
no_kind kind = refl

-- lines of a kind are between two places, so many as may stand together
record AreTogether (often : Often) (kind : LineKind) (left after : Left) : Type 0 where
  own : List (List ℕ)
  passed : Passed left after own
  many : IsOften often (length own)
  each : AllOfKind kind own

maybe_first : (kind : LineKind) (line place : ℕ) (lines : List (List ℕ))
    → AreTogether AtMostOnce kind (record { line = line; place = place; lines = lines })
    (cond (is_line kind (first_of lines)) (past_first line place lines) (record { line = line; place = place; lines = lines }))
maybe_first kind line place [] =
    subst (λ b. AreTogether AtMostOnce kind (record { line = line; place = place; lines = [] })
    (cond b (past_first line place []) (record { line = line; place = place; lines = [] }))) (sym (no_kind kind))
    (record { own = []; passed = passed_none _; many = omega arith; each = tt })
maybe_first kind line place (text ∷ lines) =
    elim (is_line kind text) as (λ b. is_line kind text ≡ b
    → AreTogether AtMostOnce kind (record { line = line; place = place; lines = text ∷ lines })
    (cond b (past_first line place (text ∷ lines)) (record { line = line; place = place; lines = text ∷ lines }))) [
      | true ↦ λ is. record { own = text ∷ []; passed = passed_first line place text lines; many = omega arith; each = (is, tt) }
      | false ↦ λ is. record { own = []; passed = passed_none _; many = omega arith; each = tt }
    ] refl

all_first : (kind : LineKind) (line place : ℕ) (lines : List (List ℕ))
    → AreTogether AnyTimes kind (record { line = line; place = place; lines = lines }) (past_first_all (is_line kind) line place lines)
all_first kind line place [] = record { own = []; passed = passed_none _; many = tt; each = tt }
all_first kind line place (text ∷ lines) =
    let more = all_first kind (line + 1) (place + length text) lines in
    elim (is_line kind text) as (λ b. is_line kind text ≡ b
    → AreTogether AnyTimes kind (record { line = line; place = place; lines = text ∷ lines })
    (cond b (past_first_all (is_line kind) (line + 1) (place + length text) lines)
    (record { line = line; place = place; lines = text ∷ lines }))) [
      | true ↦ λ is. record {
        own = text ∷ more.own;
        passed = passed_then (passed_first line place text lines) more.passed;
        many = tt;
        each = (is, more.each);
      }
      | false ↦ λ is. record { own = []; passed = passed_none _; many = tt; each = tt }
    ] refl

together_read : (often : Often) (kind : LineKind) (left : Left) (u : Unit {0}) (after : Left) → together often kind left ≡ Ok (u, after)
    → AreTogether often kind left after
unfolding past_line past_all
together_read Once kind left u after e =
    let one = one_by part.Block (is_line kind) left u after (no_kind kind) e in
    record { own = one.text ∷ []; passed = one.passed; many = refl; each = (one.holds, tt) }
together_read AtMostOnce kind left u after e =
    let mid = cond (is_line kind (next_line left)) (past_line left) left in
    subst (λ l. AreTogether AtMostOnce kind left l) (read_is tt u mid after e).1 (maybe_first kind left.line left.place left.lines)
together_read AnyTimes kind left u after e =
    subst (λ l. AreTogether AnyTimes kind left l) (read_is tt u (past_all (is_line kind) left) after e).1
    (all_first kind left.line left.place left.lines)

-- lines of kinds, one after another
pub record AreKinds (kinds : List LineKind) (left after : Left) : Type 0 where
  pub own : List (List ℕ)
  pub passed : Passed left after own
  pub are : AreOfKinds kinds own

pub kinds_read : (kinds : List LineKind) (left : Left) (u : Unit {0}) (after : Left) → lines_of_kinds kinds left ≡ Ok (u, after)
    → AreKinds kinds left after
unfolding lines_of_kinds
kinds_read [] left u after e =
    subst (λ l. AreKinds [] left l) (read_is tt u left after e).1 (record { own = []; passed = passed_none left; are = refl })
kinds_read (kind ∷ kinds) left u after e =
    let parts = split (together (often_of kind) kind left) _ u after e in
    let first = together_read (often_of kind) kind left parts.value parts.mid parts.first in
    let more = kinds_read kinds parts.mid u after parts.second in
    record {
      own = first.own ++ more.own;
      passed = passed_then first.passed more.passed;
      are = (more.own, record { first = first.own; whole = refl; many = first.many; each = first.each }, more.are);
    }

-- ---- output

no_output : (size : ℕ) → out_line size [] ≡ None
unfolding out_line said_by named words_of is_ended
no_output size = refl

pub record AreOut (n size : ℕ) (left after : Left) : Type 0 where
  pub own : List (List ℕ)
  pub passed : Passed left after own
  pub are : AreOutput n size own

pub out_read : (n size : ℕ) (left : Left) (u : Unit {0}) (after : Left) → out_lines n size left ≡ Ok (u, after) → AreOut n size left after
unfolding out_lines
out_read zero size left u after e =
    subst (λ l. AreOut zero size left l) (read_is tt u left after e).1 (record { own = []; passed = passed_none left; are = refl })
out_read (suc n) size left u after e =
    let parts = split (line part.Block (out_line (min size 32)) left) _ u after e in
    let one = one_line part.Block (out_line (min size 32)) left parts.value parts.mid (no_output (min size 32)) parts.first in
    let more = out_read n (size - 32) parts.mid u after parts.second in
    record { own = one.text ∷ more.own; passed = passed_then one.passed more.passed; are = (one.said, more.are) }

-- ---- lines that say something each

pub record AreSaid {A : Type 0} (says : List ℕ → Option A) (left after : Left) (all : List A) : Type 0 where
  pub own : List (List ℕ)
  pub passed : Passed left after own
  pub each : map says own ≡ map (λ a. Some a) all

-- so many
pub each_read : {A : Type 0} (part : ReportKind) (says : List ℕ → Option A) (n k : ℕ) (left : Left) (all : List A) (after : Left)
    → says [] ≡ None → each (λ j. line part says) n k left ≡ Ok (all, after) → AreSaid says left after all × (length all ≡ n)
unfolding each
each_read {A} part says zero k left all after silent e =
    let same = read_is [] all left after e in
    subst (λ l. AreSaid says left l all × (length all ≡ 0)) same.1
    (subst (λ (xs : List A). AreSaid says left left xs × (length xs ≡ 0)) same.0
    (record { own = []; passed = passed_none left; each = refl }, refl))
each_read {A} part says (suc n) k left all after silent e =
    let one = split (line part says left) _ all after e in
    let others = split (each (λ j. line part says) n (k + 1) one.mid) _ all after one.second in
    let first = one_line part says left one.value one.mid silent one.first in
    let more = each_read part says n (k + 1) one.mid others.value others.mid silent others.first in
    let same = read_is (one.value ∷ others.value) all others.mid after others.second in
    subst (λ l. AreSaid says left l all × (length all ≡ suc n)) same.1
    (subst (λ (xs : List A). AreSaid says left others.mid xs × (length xs ≡ suc n)) same.0 (
      record {
        own = first.text ∷ more.0.own;
        passed = passed_then first.passed more.0.passed;
        each = rw (first.said, more.0.each) refl;
      },
      ap suc more.1,
    ))

-- as many as come next
pub next_said : {A : Type 0} (says : List ℕ → Option A) (line place : ℕ) (lines : List (List ℕ))
    → AreSaid says (record { line = line; place = place; lines = lines })
    (past_first_all (λ text. is_some (says text)) line place lines) (first_said says lines)
next_said says line place [] = record { own = []; passed = passed_none _; each = refl }
next_said {A} says line place (text ∷ lines) =
    let more = next_said says (line + 1) (place + length text) lines in
    let here : Left = record { line = line; place = place; lines = text ∷ lines } in
    let beyond = past_first_all (λ t. is_some (says t)) (line + 1) (place + length text) lines in
    elim (says text) as (λ o. says text ≡ o → AreSaid says here (cond (is_some o) beyond here) (onto_said o (first_said says lines))) [
      | None ↦ λ is. record { own = []; passed = passed_none _; each = refl }
      | Some a ↦ λ is. record {
        own = text ∷ more.own;
        passed = passed_then (passed_first line place text lines) more.passed;
        each = rw (is, more.each) refl;
      }
    ] refl

-- ---- the lines of a text

onto_bytes : (b : ℕ) (lines : List (List ℕ)) → bytes_in (onto_first b lines) ≡ suc (bytes_in lines)
onto_bytes b [] = refl
onto_bytes b (line ∷ lines) = longer (length line) (bytes_in lines)
  where
    longer : (n m : ℕ) → suc n + m ≡ suc (n + m)
    longer n m = omega arith

pub bytes_of_text : (text : List ℕ) → bytes_in (lines_of text) ≡ length text
unfolding lines_of
bytes_of_text [] = refl
bytes_of_text (b ∷ bs) =
    elim (b == 10) as (λ t. bytes_in (cond t ((b ∷ []) ∷ lines_of bs) (onto_first b (lines_of bs))) ≡ suc (length bs)) [
      | true ↦ one_more (bytes_in (lines_of bs)) (length bs) (bytes_of_text bs)
      | false ↦ onto_bytes b (lines_of bs) ∙ ap suc (bytes_of_text bs)
    ]
  where
    one_more : (n m : ℕ) → n ≡ m → 1 + n ≡ suc m
    one_more n m e = omega arith
