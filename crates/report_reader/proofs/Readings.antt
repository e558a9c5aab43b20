-- Readings one after another: lines of output, and so many of one kind.
use Rattle.std.proofs.Common.{◌≡◌, ℕ, suc, ◌+◌, ◌-◌, ◌/◌, ◌<◌, ◌≤◌, min, List, [], ◌∷◌, ◌++◌, Result, Ok, Err, refl, sym, ap, ◌∙◌, arith, append_assoc}
use Rattle.std.proofs.lemmas.List.{append-nil}
use Rattle.line_reader.specs.Reading.{Left, and_then, next_line, each}
use Rattle.report_reader.specs.Reading.{Fault, Reading, taken, IsFault}
use Rattle.report_reader.specs.Events.{out_line}
use Rattle.report_reader.specs.Block.{out_lines}
use Rattle.report_reader.specs.declared.fault.ReportFault.{ReportFault}
use Rattle.report_reader.specs.declared.fault.ReportFault.TheVariants as fault
use Rattle.report_reader.specs.declared.fault.ReportKind.TheVariants as part

-- ---- lines of output

lines_left : (size : ℕ) → 0 < size → (size + 31) / 32 ≡ suc ((size - min size 32 + 31) / 32)
lines_left size some = omega arith

size_left : (size : ℕ) → size - 32 ≡ size - min size 32
size_left size = omega arith

-- one line more
pub out-more : (size : ℕ) (left : Left) → 0 < size → out_lines ((size + 31) / 32) size left
    ≡ and_then (taken part.Block (out_line (min size 32) (next_line left)) left)
    (λ _ after. out_lines ((size - min size 32 + 31) / 32) (size - min size 32) after)
unfolding out_lines
out-more size left some =
    ap (λ n. out_lines n size left) (lines_left size some)
    ∙ ap (λ s. and_then (taken part.Block (out_line (min size 32) (next_line left)) left)
    (λ _ after. out_lines ((size - min size 32 + 31) / 32) s after)) (size_left size)

-- all have been read
pub out-end : (size : ℕ) (left : Left) → size ≤ 0 → out_lines ((size + 31) / 32) size left ≡ Ok (tt, left)
unfolding out_lines
out-end size left none =
    let no_line : (size + 31) / 32 ≡ 0 = omega arith in ap (λ n. out_lines n size left) no_line

-- ---- so many of one kind

-- what was read before others
abbrev pub onto : {A : Type 0} → List A → Result (List A × Left) Fault → Result (List A × Left) Fault
onto before (Err fault) = Err fault
onto before (Ok read) = Ok (before ++ read.0, read.1)

onto_more : {A : Type 0} (before : List A) (a : A) (r : Result (List A × Left) Fault)
    → onto before (and_then r (λ others left. Ok (a ∷ others, left))) ≡ onto (before ++ a ∷ []) r
onto_more before a (Err fault) = refl
onto_more before a (Ok read) =
    ap (λ items. let x : Result (List _ × Left) Fault = Ok (items, read.1) in x) (sym (append_assoc before (a ∷ []) read.0))

one_less : (n k : ℕ) → k < n → n - k ≡ suc (n - (k + 1))
one_less n k l = omega arith

-- one more
pub each-more : {A : Type 0} (reads : ℕ → Reading A) (n k : ℕ) (left after : Left) (before : List A) (a : A) → k < n
    → reads k left ≡ Ok (a, after)
    → onto before (each reads (n - k) k left) ≡ onto (before ++ a ∷ []) (each reads (n - (k + 1)) (k + 1) after)
unfolding each
each-more reads n k left after before a l is =
    ap (λ m. onto before (each reads m k left)) (one_less n k l)
    ∙ ap (λ r. onto before (and_then r (λ a after.
    and_then (each reads (n - (k + 1)) (k + 1) after) (λ others left. Ok (a ∷ others, left))))) is
    ∙ onto_more before a (each reads (n - (k + 1)) (k + 1) after)

-- one is at fault
pub each-fault : {A : Type 0} (reads : ℕ → Reading A) (n k : ℕ) (left : Left) (before : List A) (fault : Fault) → k < n
    → reads k left ≡ Err fault → onto before (each reads (n - k) k left) ≡ Err fault
unfolding each
each-fault reads n k left before fault l is =
    ap (λ m. onto before (each reads m k left)) (one_less n k l)
    ∙ ap (λ r. onto before (and_then r (λ a after.
    and_then (each reads (n - (k + 1)) (k + 1) after) (λ others left. Ok (a ∷ others, left))))) is

-- all have been read
pub each-end : {A : Type 0} (reads : ℕ → Reading A) (n k : ℕ) (left : Left) (before : List A) → n ≤ k
    → onto before (each reads (n - k) k left) ≡ Ok (before, left)
unfolding each
each-end reads n k left before l =
    let none : n - k ≡ 0 = omega arith in
    ap (λ m. onto before (each reads m k left)) none
    ∙ ap (λ items. let x : Result (List _ × Left) Fault = Ok (items, left) in x) (append-nil before)

-- ---- faults of the first of two readings

pub fault_first : {A B : Type 0} (read : Result (A × Left) Fault) (next : A → Reading B) (it : ReportFault) → IsFault read it
    → IsFault (and_then read next) it
fault_first read next (fault.Line line kind) h = ap (λ r. and_then r next) h
fault_first read next fault.Memory h = tt

pub fault_of_each : {A : Type 0} (reads : ℕ → Reading A) (n k : ℕ) (left : Left) (before : List A) (it : ReportFault) → k < n
    → IsFault (reads k left) it → IsFault (onto before (each reads (n - k) k left)) it
fault_of_each reads n k left before (fault.Line line kind) l h = each-fault reads n k left before (record { line = line; kind = kind }) l h
fault_of_each reads n k left before fault.Memory l h = tt
