-- A reading goes by the lines up to the last one that it looks at: all texts whose first lines are the same
-- are read the same so far.
use Rattle.std.proofs.Common.{◌≡◌, ℕ, zero, suc, ◌+◌, ◌<◌, ◌≤◌, cond, Bool, true, false, List, [], ◌∷◌, length, Option, Some, None}
use Rattle.std.proofs.Common.{Result, Ok, Err, refl, sym, ap, arith, subst}
use Rattle.std.specs.Prelude.{is_some}
use Rattle.line_reader.specs.Reading.{Left, and_then, give, first_of, next_line, past_first, past_line, fault_at, said_if}
use Rattle.line_reader.specs.Reading.{past_first_all, past_all, any_lines, maybe_line, onto_said, first_said, each, nothing}
use Rattle.report_reader.specs.Reading.{Fault, Reading, taken, line, line_by}
use Rattle.report_reader.specs.declared.fault.ReportKind.{ReportKind}
use Rattle.report_reader.specs.declared.fault.ReportKind.TheVariants.{NotText}

-- ---- what is the same

-- so many of the first lines are the same
abbrev pub AreAlike : ℕ → List (List ℕ) → List (List ℕ) → Type 0
AreAlike zero lines others = Unit {0}
AreAlike (suc n) [] [] = Unit {0}
AreAlike (suc n) (line ∷ lines) (other ∷ others) = (line ≡ other) × AreAlike n lines others
AreAlike (suc n) lines others = ⊥

-- the same place with other lines behind it
abbrev pub with_lines : Left → List (List ℕ) → Left
with_lines left lines = record left { lines = lines }

-- the same is read, and left are lines that are the same up to line n
pub record GoesOn {A : Type 0} (n : ℕ) (read : A × Left) (other : Result (A × Left) Fault) : Type 0 where
  pub others : List (List ℕ)
  pub ahead : ℕ
  pub reach : n ≤ read.1.line + ahead
  pub alike : AreAlike ahead read.1.lines others
  pub is : other ≡ Ok (read.0, with_lines read.1 others)

-- what two texts say that are the same up to line n is the same so far
abbrev pub IsSame : {A : Type 0} → ℕ → Result (A × Left) Fault → Result (A × Left) Fault → Type 0
IsSame n (Err fault) other = fault.line ≤ n → other ≡ Err fault
IsSame n (Ok read) other = read.1.line < n → GoesOn n read other

-- a reading ends where it began or later, and its fault is at a line behind that
abbrev pub IsLater : {A : Type 0} → Left → Result (A × Left) Fault → Type 0
IsLater left (Err fault) = left.line < fault.line
IsLater left (Ok read) = left.line ≤ read.1.line

-- a reading goes by the lines that it looks at, one after another
pub record GoesByLines {A : Type 0} (reads : Reading A) : Type 0 where
  pub later : (left : Left) → IsLater left (reads left)
  pub same : (n ahead : ℕ) (left : Left) (others : List (List ℕ)) → n ≤ left.line + ahead → AreAlike ahead left.lines others
      → IsSame n (reads left) (reads (with_lines left others))

alike_self : (n : ℕ) (lines : List (List ℕ)) → AreAlike n lines lines
alike_self zero lines = tt
alike_self (suc n) [] = tt
alike_self (suc n) (line ∷ lines) = (refl, alike_self n lines)

same_self : {A : Type 0} (n : ℕ) (read : Result (A × Left) Fault) → IsSame n read read
same_self n (Err fault) = λ before. refl
same_self n (Ok read) = λ before. record {
  others = read.1.lines;
  ahead = n;
  reach = omega arith;
  alike = alike_self n read.1.lines;
  is = refl;
}

-- past line n nothing is said
same_where : {A : Type 0} (n : ℕ) (left : Left) (read other : Result (A × Left) Fault) → IsLater left read
    → (left.line < n → IsSame n read other) → IsSame n read other
same_where n left (Err fault) other later same = λ before. same (omega (arith, later, before)) before
same_where n left (Ok read) other later same = λ before. same (omega (arith, later, before)) before

-- ---- readings one after another

later_more : {A : Type 0} (left mid : Left) (read : Result (A × Left) Fault) → left.line ≤ mid.line → IsLater mid read → IsLater left read
later_more left mid (Err fault) first second = omega (arith, first, second)
later_more left mid (Ok read) first second = omega (arith, first, second)

later_then : {A B : Type 0} (left : Left) (read : Result (A × Left) Fault) (next : A → Reading B) → IsLater left read
    → ((a : A) → GoesByLines (next a)) → IsLater left (and_then read next)
later_then left (Err fault) next later by = later
later_then left (Ok read) next later by = later_more left read.1 (next read.0 read.1) later ((by read.0).later read.1)

same_then : {A B : Type 0} (n : ℕ) (read other : Result (A × Left) Fault) (next : A → Reading B) → IsSame n read other
    → ((a : A) → GoesByLines (next a)) → IsSame n (and_then read next) (and_then other next)
same_then n (Err fault) other next same by = λ before. ap (λ r. and_then r next) (same before)
same_then n (Ok read) other next same by =
    same_where n read.1 (next read.0 read.1) (and_then other next) ((by read.0).later read.1) (λ before.
    let on = same before in
    subst (λ r. IsSame n (next read.0 read.1) (and_then r next)) (sym on.is)
    ((by read.0).same n on.ahead read.1 on.others on.reach on.alike))

pub by_then : {A B : Type 0} (first : Reading A) (next : A → Reading B) → GoesByLines first → ((a : A) → GoesByLines (next a))
    → GoesByLines (λ left. and_then (first left) next)
by_then first next one by = record {
  later = λ left. later_then left (first left) next (one.later left) by;
  same = λ n ahead left others reach alike.
      same_then n (first left) (first (with_lines left others)) next (one.same n ahead left others reach alike) by;
}

pub by_give : {A : Type 0} (a : A) → GoesByLines (give a)
by_give a = record {
  later = λ left. omega arith;
  same = λ n ahead left others reach alike before. record { others = others; ahead = ahead; reach = reach; alike = alike; is = refl };
}

-- what is read tells its place
pub by_place : {A : Type 0} (says : ℕ → A) → GoesByLines (λ left. let it : Result (A × Left) Fault = Ok (says left.place, left) in it)
by_place says = record {
  later = λ left. omega arith;
  same = λ n ahead left others reach alike before. record { others = others; ahead = ahead; reach = reach; alike = alike; is = refl };
}

pub by_each : {A : Type 0} (reads : ℕ → Reading A) → ((k : ℕ) → GoesByLines (reads k)) → (n k : ℕ) → GoesByLines (each reads n k)
unfolding each
by_each reads by zero k = by_give []
by_each reads by (suc n) k =
    by_then (reads k) _ (by k) (λ a. by_then (each reads n (k + 1)) _ (by_each reads by n (k + 1)) (λ others. by_give (a ∷ others)))

-- ---- one line

abbrev pub from_line : ℕ → ℕ → List (List ℕ) → Left
from_line line place lines = record { line = line; place = place; lines = lines }

later_past : (line place : ℕ) (lines : List (List ℕ)) → line ≤ (past_first line place lines).line
later_past line place [] = omega arith
later_past line place (text ∷ lines) = omega arith

later_taken : {A : Type 0} (part : ReportKind) (said : Option A) (left : Left) → IsLater left (taken part said left)
unfolding past_line fault_at
later_taken part None left = omega arith
later_taken part (Some a) left = later_past left.line left.place left.lines

said_same : {A : Type 0} (n m line place : ℕ) (part : ReportKind) (said : Option A) (text : List ℕ) (lines others : List (List ℕ))
    → n ≤ line + suc m → AreAlike m lines others
    → IsSame n (taken part said (from_line line place (text ∷ lines))) (taken part said (from_line line place (text ∷ others)))
unfolding past_line fault_at
said_same n m line place part None text lines others reach alike = λ before. refl
said_same n m line place part (Some a) text lines others reach alike =
    λ before. record { others = others; ahead = m; reach = omega (arith, reach); alike = alike; is = refl }

taken_same : {A : Type 0} (n m line place : ℕ) (part : List ℕ → ReportKind) (says : List ℕ → Option A) (lines others : List (List ℕ))
    → n ≤ line + m → line < n → AreAlike m lines others
    → IsSame n (taken (part (first_of lines)) (says (first_of lines)) (from_line line place lines))
    (taken (part (first_of others)) (says (first_of others)) (from_line line place others))
taken_same n zero line place part says lines others reach before alike = absurd (omega (arith, reach, before))
taken_same n (suc m) line place part says [] [] reach before alike =
    same_self n (taken (part []) (says []) (from_line line place []))
taken_same n (suc m) line place part says [] (other ∷ others) reach before alike = absurd alike
taken_same n (suc m) line place part says (text ∷ lines) [] reach before alike = absurd alike
taken_same n (suc m) line place part says (text ∷ lines) (other ∷ others) reach before alike =
    subst (λ t. IsSame n (taken (part text) (says text) (from_line line place (text ∷ lines)))
    (taken (part t) (says t) (from_line line place (t ∷ others)))) alike.0
    (said_same n m line place (part text) (says text) text lines others reach alike.1)

by_taken : {A : Type 0} (part : List ℕ → ReportKind) (says : List ℕ → Option A)
    → GoesByLines (λ left. taken (part (next_line left)) (says (next_line left)) left)
by_taken part says = record {
  later = λ left. later_taken (part (next_line left)) (says (next_line left)) left;
  same = λ n ahead left others reach alike.
      same_where n left (taken (part (next_line left)) (says (next_line left)) left)
      (taken (part (first_of others)) (says (first_of others)) (with_lines left others))
      (later_taken (part (next_line left)) (says (next_line left)) left)
      (λ before. taken_same n ahead left.line left.place part says left.lines others reach before alike);
}

pub by_line : {A : Type 0} (part : ReportKind) (says : List ℕ → Option A) → GoesByLines (line part says)
by_line part says = by_taken (λ text. part) says

pub by_line_by : (part : List ℕ → ReportKind) (is : List ℕ → Bool) → GoesByLines (line_by part is)
by_line_by part is = by_taken part (λ text. said_if (is text))

-- ---- lines of a kind

-- one, or none
abbrev maybe_read : (List ℕ → Bool) → ℕ → ℕ → List (List ℕ) → Result (Unit {0} × Left) Fault
maybe_read is line place lines = Ok (tt, cond (is (first_of lines)) (past_first line place lines) (from_line line place lines))

later_maybe : (is : List ℕ → Bool) (line place : ℕ) (lines : List (List ℕ))
    → IsLater (from_line line place lines) (maybe_read is line place lines)
later_maybe is line place lines =
    elim (is (first_of lines)) as (λ b. line ≤ (cond b (past_first line place lines) (from_line line place lines)).line) [
      | true ↦ later_past line place lines
      | false ↦ omega arith
    ]

maybe_same : (is : List ℕ → Bool) (n m line place : ℕ) (lines others : List (List ℕ)) → n ≤ line + m → line < n → AreAlike m lines others
    → IsSame n (maybe_read is line place lines) (maybe_read is line place others)
maybe_same is n zero line place lines others reach before alike = absurd (omega (arith, reach, before))
maybe_same is n (suc m) line place [] [] reach before alike = same_self n (maybe_read is line place [])
maybe_same is n (suc m) line place [] (other ∷ others) reach before alike = absurd alike
maybe_same is n (suc m) line place (text ∷ lines) [] reach before alike = absurd alike
maybe_same is n (suc m) line place (text ∷ lines) (other ∷ others) reach before alike =
    subst (λ t. IsSame n (maybe_read is line place (text ∷ lines)) (maybe_read is line place (t ∷ others))) alike.0
    (elim (is text) as (λ b. IsSame n
    (let it : Result (Unit {0} × Left) Fault =
    Ok (tt, cond b (past_first line place (text ∷ lines)) (from_line line place (text ∷ lines))) in it)
    (Ok (tt, cond b (past_first line place (text ∷ others)) (from_line line place (text ∷ others))))) [
      | true ↦ λ before. record { others = others; ahead = m; reach = omega (arith, reach); alike = alike.1; is = refl }
      | false ↦ λ before. record { others = text ∷ others; ahead = suc m; reach = reach; alike = (refl, alike.1); is = refl }
    ])

pub by_maybe : (is : List ℕ → Bool) → GoesByLines (λ left. let it : Result (Unit {0} × Left) Fault = maybe_line is left in it)
unfolding past_line
by_maybe is = record {
  later = λ left. later_maybe is left.line left.place left.lines;
  same = λ n ahead left others reach alike.
      same_where n left (maybe_read is left.line left.place left.lines) (maybe_read is left.line left.place others)
      (later_maybe is left.line left.place left.lines)
      (λ before. maybe_same is n ahead left.line left.place left.lines others reach before alike);
}

-- as many as come next
later_all : (is : List ℕ → Bool) (line place : ℕ) (lines : List (List ℕ)) → line ≤ (past_first_all is line place lines).line
later_all is line place [] = omega arith
later_all is line place (text ∷ lines) =
    let more = later_all is (line + 1) (place + length text) lines in
    elim (is text) as (λ b. line ≤ (cond b (past_first_all is (line + 1) (place + length text) lines)
    (from_line line place (text ∷ lines))).line) [
      | true ↦ omega (arith, more)
      | false ↦ omega arith
    ]

abbrev pub any_read : (List ℕ → Bool) → ℕ → ℕ → List (List ℕ) → Result (Unit {0} × Left) Fault
any_read is line place lines = Ok (tt, past_first_all is line place lines)

any_same : (is : List ℕ → Bool) (n m line place : ℕ) (lines others : List (List ℕ)) → n ≤ line + m → AreAlike m lines others
    → IsSame n (any_read is line place lines) (any_read is line place others)
any_same is n zero line place lines others reach alike =
    λ before. absurd (omega (arith, reach, before, later_all is line place lines))
any_same is n (suc m) line place [] [] reach alike = same_self n (any_read is line place [])
any_same is n (suc m) line place [] (other ∷ others) reach alike = absurd alike
any_same is n (suc m) line place (text ∷ lines) [] reach alike = absurd alike
any_same is n (suc m) line place (text ∷ lines) (other ∷ others) reach alike =
    let more = any_same is n m (line + 1) (place + length text) lines others (omega (arith, reach)) alike.1 in
    subst (λ t. IsSame n (any_read is line place (text ∷ lines)) (any_read is line place (t ∷ others))) alike.0
    (elim (is text) as (λ b. IsSame n
    (let it : Result (Unit {0} × Left) Fault =
    Ok (tt, cond b (past_first_all is (line + 1) (place + length text) lines) (from_line line place (text ∷ lines))) in it)
    (Ok (tt, cond b (past_first_all is (line + 1) (place + length text) others) (from_line line place (text ∷ others))))) [
      | true ↦ more
      | false ↦ λ before. record { others = text ∷ others; ahead = suc m; reach = reach; alike = (refl, alike.1); is = refl }
    ])

pub by_any : (is : List ℕ → Bool) → GoesByLines (λ left. let it : Result (Unit {0} × Left) Fault = any_lines is left in it)
unfolding past_all
by_any is = record {
  later = λ left. later_all is left.line left.place left.lines;
  same = λ n ahead left others reach alike. any_same is n ahead left.line left.place left.lines others reach alike;
}

-- as many as come next, with what they say
abbrev pub all_read : {A B : Type 0} → (List A → B) → (List ℕ → Option A) → ℕ → ℕ → List (List ℕ) → Result (B × Left) Fault
all_read of says line place lines = Ok (of (first_said says lines), past_first_all (λ text. is_some (says text)) line place lines)

all_same : {A B : Type 0} (of : List A → B) (says : List ℕ → Option A) (n m line place : ℕ) (lines others : List (List ℕ)) → n ≤ line + m
    → AreAlike m lines others → IsSame n (all_read of says line place lines) (all_read of says line place others)
all_same of says n zero line place lines others reach alike =
    λ before. absurd (omega (arith, reach, before, later_all (λ text. is_some (says text)) line place lines))
all_same of says n (suc m) line place [] [] reach alike = same_self n (all_read of says line place [])
all_same of says n (suc m) line place [] (other ∷ others) reach alike = absurd alike
all_same of says n (suc m) line place (text ∷ lines) [] reach alike = absurd alike
all_same {A} {B} of says n (suc m) line place (text ∷ lines) (other ∷ others) reach alike =
    let is : List ℕ → Bool = λ t. is_some (says t) in
    subst (λ t. IsSame n (all_read of says line place (text ∷ lines)) (all_read of says line place (t ∷ others))) alike.0
    (elim (says text) as (λ o. IsSame n
    (let it : Result (B × Left) Fault = Ok (
      of (onto_said o (first_said says lines)),
      cond (is_some o) (past_first_all is (line + 1) (place + length text) lines) (from_line line place (text ∷ lines)),
    ) in it)
    (Ok (
      of (onto_said o (first_said says others)),
      cond (is_some o) (past_first_all is (line + 1) (place + length text) others) (from_line line place (text ∷ others)),
    ))) [
      | None ↦ λ before. record { others = text ∷ others; ahead = suc m; reach = reach; alike = (refl, alike.1); is = refl }
      | Some a ↦ all_same (λ more. of (a ∷ more)) says n m (line + 1) (place + length text) lines others (omega (arith, reach)) alike.1
    ])

pub by_all : {A B : Type 0} (of : List A → B) (says : List ℕ → Option A)
    → GoesByLines (λ left. all_read of says left.line left.place left.lines)
by_all of says = record {
  later = λ left. later_all (λ text. is_some (says text)) left.line left.place left.lines;
  same = λ n ahead left others reach alike. all_same of says n ahead left.line left.place left.lines others reach alike;
}

-- ---- the end of a text

nothing_same : (part : ReportKind) (n m line place : ℕ) (lines others : List (List ℕ)) → n ≤ line + m → line < n → AreAlike m lines others
    → IsSame n (nothing NotText part (from_line line place lines)) (nothing NotText part (from_line line place others))
unfolding fault_at
nothing_same part n zero line place lines others reach before alike = absurd (omega (arith, reach, before))
nothing_same part n (suc m) line place [] [] reach before alike = same_self n (nothing NotText part (from_line line place []))
nothing_same part n (suc m) line place [] (other ∷ others) reach before alike = absurd alike
nothing_same part n (suc m) line place (text ∷ lines) [] reach before alike = absurd alike
nothing_same part n (suc m) line place (text ∷ lines) (other ∷ others) reach before alike =
    subst (λ t. IsSame n (nothing NotText part (from_line line place (text ∷ lines)))
    (nothing NotText part (from_line line place (t ∷ others))))
    alike.0 (λ at. refl)

later_nothing : (part : ReportKind) (line place : ℕ) (lines : List (List ℕ))
    → IsLater (from_line line place lines) (nothing NotText part (from_line line place lines))
unfolding fault_at
later_nothing part line place [] = omega arith
later_nothing part line place (text ∷ lines) = omega arith

pub by_nothing : (part : ReportKind) → GoesByLines (nothing NotText part)
by_nothing part = record {
  later = λ left. later_nothing part left.line left.place left.lines;
  same = λ n ahead left others reach alike.
      same_where n left (nothing NotText part left) (nothing NotText part (with_lines left others))
      (later_nothing part left.line left.place left.lines)
      (λ before. nothing_same part n ahead left.line left.place left.lines others reach before alike);
}
