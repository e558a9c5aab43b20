-- What is printed of a state fits the kinds of its lines.
use Rattle.std.proofs.Common.{◌≡◌, ℕ, zero, suc, ◌+◌, ◌*◌, ◌/◌, ◌^◌, ◌<◌, ◌≤◌, Bool, true, false, ◌&&◌, cond, List, [], ◌∷◌, ◌++◌}
use Rattle.std.proofs.Common.{length, map, take, drop, refl, sym, ap, ◌∙◌, arith, subst, nat_lt, lt-ltb, lit<}
use Rattle.std.specs.Prelude.{slice_index, codes}
use Rattle.std.specs.List.{list_all, range_with_len}
use Rattle.std.specs.Int.{w32, to_be_bytes}
use Rattle.std.specs.FinMap.{entries}
use Rattle.std.proofs.Math.Pow.{pow_pos}
use Rattle.std.proofs.Math.Nat.{pow-succ'}
use Rattle.std.proofs.lemmas.List.{length-map}
use Rattle.std.proofs.lemmas.List.Folds.{list_all-append}
use Rattle.sha2.specs.Sha256.{sha256, digest_bytes, final_hash, initial_hash_256}
use Rattle.sha2.proofs.Facts256.{length-sha256}
use Rattle.sm_types.specs.declared.shared_op.Event.{Event}
use Rattle.sm_types.specs.declared.version.Version.{Version}
use Rattle.sm_types.specs.declared.version.Version.TheVariants.{One, Two}
use Rattle.sve_vectors.specs.Predicates.{predicate_bytes, byte_of_truths}
use Rattle.machine_step.specs.ProcessorState.{ProcessorState}
use Rattle.machine_step.specs.System.{svcr_of}
use Rattle.bit_ops.specs.Sums.{bool_number}
use Rattle.kernel_contexts.specs.State.{State}
use Rattle.text_lines.specs.Forms.{state_lines, often_of}
use Rattle.text_lines.specs.declared.forms.LineKind.{LineKind}
use Rattle.text_lines.specs.declared.forms.LineKind.TheVariants as kind
use Rattle.report_reader.specs.Grammar.{IsOften}
use Rattle.report_text.specs.Digest.{memory_text}
use Rattle.report_text.specs.State.{rows_of, lines_text}
use Rattle.report_laws.specs.Fits.{are_bytes, AllBytes, StateFits}
use Rattle.report_laws.specs.Sizes.{AllShort, HasSizes}
use Rattle.text_lines.specs.Rows.{Row, numbered_rows}
use Rattle.report_laws.proofs.Numerals.{are_32}
use Rattle.report_laws.proofs.StateKinds.{RowsFit, RowsOfStateFit, AllFieldsShort, AreFew, are_apart, are_small, is_foreign, kinds_length}
use Rattle.report_laws.proofs.Rows.{values_fit, values_few, numbered_fit, numbered_few, bytes_fit, bytes_few, bytes_one, handlers_fit}
use Rattle.report_laws.proofs.Rows.{handlers_few}

-- ---- the two versions

pub lines_apart : (version : Version) → are_apart (state_lines version) ≡ true
unfolding state_lines
lines_apart One = refl
lines_apart Two = refl

pub lines_foreign : (version : Version) → is_foreign (codes "output") (state_lines version) ≡ true
unfolding state_lines
lines_foreign One = refl
lines_foreign Two = refl

lines_small : (version : Version) → are_small (state_lines version) ≡ true
unfolding state_lines
lines_small One = refl
lines_small Two = refl

lines_few : (version : Version) → length (state_lines version) ≤ 18
unfolding state_lines
lines_few One = omega arith
lines_few Two = omega arith

-- ---- values

svcr_small : (core : ProcessorState) → svcr_of core < 2 ^ 32
svcr_small core =
    elim core.streaming as (λ sm. bool_number sm + 2 * bool_number core.za_on < 2 ^ 32) [
      | true ↦ elim core.za_on as (λ za. bool_number true + 2 * bool_number za < 2 ^ 32) [ true ↦ lit< tt | false ↦ lit< tt ]
      | false ↦ elim core.za_on as (λ za. bool_number false + 2 * bool_number za < 2 ^ 32) [ true ↦ lit< tt | false ↦ lit< tt ]
    ]

bool_below : (b : Bool) (n m : ℕ) → n < m → cond b 1 0 + 2 * n < 2 * m
bool_below true n m l = omega arith
bool_below false n m l = omega arith

-- truth values as a number
truths_below : (n : ℕ) (truths : List Bool) → byte_of_truths (take n truths) < 2 ^ n
truths_below zero truths = lit< tt
truths_below (suc n) [] = pow_pos (suc n)
truths_below (suc n) (holds ∷ truths) =
    subst (λ m. byte_of_truths (take (suc n) (holds ∷ truths)) < m) (sym (pow-succ' 2 n))
    (bool_below holds (byte_of_truths (take n truths)) (2 ^ n) (truths_below n truths))

all_map : (f : ℕ → ℕ) (xs : List ℕ) → ((k : ℕ) → f k < 256) → are_bytes (map f xs) ≡ true
all_map f [] small = refl
all_map f (x ∷ xs) small = ap (λ b. b && are_bytes (map f xs)) (lt-ltb (f x) 256 (small x)) ∙ all_map f xs small

predicate_small : (truths : List Bool) → are_bytes (predicate_bytes truths) ≡ true
unfolding predicate_bytes
predicate_small truths = all_map _ (range_with_len 0 (length truths / 8)) (λ k. truths_below 8 (drop (8 * k) truths))

pub predicates_small : (predicates : List (List Bool)) → AllBytes (map predicate_bytes predicates)
predicates_small [] = tt
predicates_small (truths ∷ predicates) = (predicate_small truths, predicates_small predicates)

hash_small : (h : List ℕ) (n : ℕ) → are_bytes (digest_bytes h n) ≡ true
unfolding digest_bytes
hash_small h zero = refl
hash_small h (suc n) =
    list_all-append (λ b. nat_lt b 256) (digest_bytes h n) (to_be_bytes w32 (slice_index h n))
    ∙ rw (hash_small h n, are_32 (slice_index h n)) refl

pub sha_small : (text : List ℕ) → are_bytes (sha256 text) ≡ true
unfolding sha256
sha_small text = hash_small (final_hash initial_hash_256 text) 8

-- ---- the rows

za_fit : (on : Bool) (za : List (List ℕ)) → length za ≤ 2 ^ 32 → AllBytes za
    → RowsFit kind.Za (cond on (numbered_rows 0 za) [])
za_fit true za few all = numbered_fit kind.Za 0 za refl (omega (arith, few)) all
za_fit false za few all = tt

za_few : (on : Bool) (za : List (List ℕ)) → length za ≤ 256 → AllShort za → AreFew (cond on (numbered_rows 0 za) [])
za_few true za few short = numbered_few 0 za few short
za_few false za few short = record { count = omega arith; short = tt }

rows_fit : (s : State) → StateFits s → (kind : LineKind) → RowsFit kind (rows_of s kind)
rows_fit s it kind.Turns = (record { form = refl; fields = (it.turns, tt) }, tt)
rows_fit s it kind.Pc = (record { form = refl; fields = (it.pc, tt) }, tt)
rows_fit s it kind.X = values_fit kind.X 0 s.core.scalars.x refl (omega (arith, it.x_few)) it.x
rows_fit s it kind.Sp = (record { form = refl; fields = (it.sp, tt) }, tt)
rows_fit s it kind.Nzcv = (record { form = refl; fields = (refl, tt) }, tt)
rows_fit s it kind.Tpidr = (record { form = refl; fields = (it.tpidr, tt) }, tt)
rows_fit s it kind.Tpidr2 = (record { form = refl; fields = (it.tpidr2, tt) }, tt)
rows_fit s it kind.Svcr = (record { form = refl; fields = (svcr_small s.core, tt) }, tt)
rows_fit s it kind.Z = numbered_fit kind.Z 0 s.core.bank.registers.vectors refl (omega (arith, it.vectors_few)) it.vectors
rows_fit s it kind.P =
    numbered_fit kind.P 0 (map predicate_bytes s.core.bank.registers.predicates) refl
    (omega (arith, length-map s.core.bank.registers.predicates predicate_bytes, it.predicates_few))
    (predicates_small s.core.bank.registers.predicates)
rows_fit s it kind.Ffr = bytes_fit kind.Ffr (predicate_bytes s.core.bank.registers.ffr) refl (predicate_small s.core.bank.registers.ffr)
rows_fit s it kind.Za = za_fit s.core.za_on s.core.bank.za it.za_few it.za
rows_fit s it kind.Memory =
    let text = memory_text s.core.memory in
    (record { form = refl; fields = (it.pages_few, ((length-sha256 text, sha_small text), tt)) }, tt)
rows_fit s it kind.Held = (record { form = refl; fields = (it.held, tt) }, tt)
rows_fit s it kind.Inside = (record { form = refl; fields = (tt, tt) }, tt)
rows_fit s it kind.Mask = (record { form = refl; fields = (it.mask, tt) }, tt)
rows_fit s it kind.Depth = (record { form = refl; fields = (it.depth, tt) }, tt)
rows_fit s it kind.Polled = (record { form = refl; fields = (tt, tt) }, tt)
rows_fit s it kind.Handler = handlers_fit (entries s.handlers) it.handlers

rows_many : (s : State) (kind : LineKind) → IsOften (often_of kind) (length (rows_of s kind))
rows_many s kind.Turns = refl
rows_many s kind.Pc = refl
rows_many s kind.X = tt
rows_many s kind.Sp = refl
rows_many s kind.Nzcv = refl
rows_many s kind.Tpidr = refl
rows_many s kind.Tpidr2 = refl
rows_many s kind.Svcr = refl
rows_many s kind.Z = tt
rows_many s kind.P = tt
rows_many s kind.Ffr = bytes_one (predicate_bytes s.core.bank.registers.ffr)
rows_many s kind.Za = tt
rows_many s kind.Memory = refl
rows_many s kind.Held = refl
rows_many s kind.Inside = refl
rows_many s kind.Mask = refl
rows_many s kind.Depth = refl
rows_many s kind.Polled = refl
rows_many s kind.Handler = tt

pub rows_of_state : (s : State) → StateFits s → RowsOfStateFit s
rows_of_state s it = record { fit = rows_fit s it; many = rows_many s }

one_row : (row : Row) → AllFieldsShort row → AreFew (row ∷ [])
one_row row short = record { count = omega arith; short = (short, tt) }

rows_few : (s : State) (events : List Event) → HasSizes s events → (kind : LineKind) → AreFew (rows_of s kind)
rows_few s events it kind.Turns = one_row _ (tt, tt)
rows_few s events it kind.Pc = one_row _ (tt, tt)
rows_few s events it kind.X = values_few 0 s.core.scalars.x (omega (arith, it.x))
rows_few s events it kind.Sp = one_row _ (tt, tt)
rows_few s events it kind.Nzcv = one_row _ (tt, tt)
rows_few s events it kind.Tpidr = one_row _ (tt, tt)
rows_few s events it kind.Tpidr2 = one_row _ (tt, tt)
rows_few s events it kind.Svcr = one_row _ (tt, tt)
rows_few s events it kind.Z = numbered_few 0 s.core.bank.registers.vectors (omega (arith, it.bank.vector_count)) it.bank.vectors
rows_few s events it kind.P =
    numbered_few 0 (map predicate_bytes s.core.bank.registers.predicates) (omega (arith, it.bank.predicate_count)) it.bank.predicates
rows_few s events it kind.Ffr = bytes_few (predicate_bytes s.core.bank.registers.ffr) it.bank.ffr
rows_few s events it kind.Za = za_few s.core.za_on s.core.bank.za it.bank.za_count it.bank.za
rows_few s events it kind.Memory = one_row _ (tt, (tt, tt))
rows_few s events it kind.Held = one_row _ (tt, tt)
rows_few s events it kind.Inside = one_row _ (tt, tt)
rows_few s events it kind.Mask = one_row _ (tt, tt)
rows_few s events it kind.Depth = one_row _ (tt, tt)
rows_few s events it kind.Polled = one_row _ (tt, tt)
rows_few s events it kind.Handler = handlers_few (entries s.handlers) it.handlers

pub lines_length : (version : Version) (s : State) (events : List Event) → StateFits s → HasSizes s events
    → length (lines_text s (state_lines version)) ≤ 4764672
lines_length version s events fits sizes =
    omega (
      arith,
      kinds_length s (rows_of_state s fits) (rows_few s events sizes) (state_lines version) (lines_small version),
      lines_few version,
    )
