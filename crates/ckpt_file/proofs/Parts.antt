-- The parts of the table of a checkpoint: which values fill them, and what is so of values that do.
use Rattle.std.proofs.Common.{◌≡◌, ℕ, ◌+◌, ◌*◌, ◌/◌, ◌<◌, ◌^◌, ◌==◌, ◌++◌, Bool, true, false, List, [], ◌∷◌, length, map, refl, ap, sym}
use Rattle.std.proofs.Common.{◌∙◌, subst, arith, append_assoc}
use Rattle.std.specs.Prelude.{nat_lt, nat_le, slice_index}
use Rattle.std.specs.List.{flat_map}
use Rattle.std.proofs.lemmas.Bool.Decides.{nat_tests}
use Rattle.std.proofs.lemmas.List.{append-nil}
use Rattle.plain_lemmas.proofs.Lists.{bytes_eq-self}
use Rattle.sm_types.specs.declared.numbers.Numbers.{Numbers}
use Rattle.bit_ops.specs.Sums.{bool_number}
use Rattle.byteorder.specs.Endian.{little_number, little_bytes}
use Rattle.report_reader.specs.Report.{Report}
use Rattle.field_table.specs.Table.{Table, End, IsFilled}
use Rattle.field_table.specs.Rows.{number, said, fields, repeated}
use Rattle.ckpt_fields.specs.Rows.{first_rows, options_rows, thread_rows, system_rows, vector_rows, handler_row, handlers_of, output_rows}
use Rattle.ckpt_fields.specs.Rows.{page_row, pages_of, counts, journals, most_depth, is_count, are_events, are_flags, is_mask}
use Rattle.ckpt_fields.specs.Rows.{length_for, array_size}
use Rattle.ckpt_fields.specs.Rows.{is_signal_past, is_page_address, tag}
use Rattle.ckpt_fields.specs.Values.{first_values, option_values, thread_values, system_values, handler_value, handler_values}
use Rattle.ckpt_fields.specs.Values.{output_values}
use Rattle.ckpt_fields.specs.Values.{page_value, page_values}
use Rattle.ckpt_file.proofs.Filling.{back, word_back, doubleword_back, Each, AreOfSize, AreGood, items_good, items_fill, fields_good}
use Rattle.ckpt_file.proofs.Filling.{fields_fill}

-- ---- the tag, the digest and the options

-- the numbers of options fit their fields
pub record AreNarrow (options : Numbers) : Type 0 where
  pub vl : options.vl < 2 ^ 32
  pub svl : options.svl < 2 ^ 32
  pub slice : options.slice < 2 ^ 32
  pub budget : options.budget < 2 ^ 32
  pub threads : options.threads < 2 ^ 32
  pub kernel : options.kernel < 2 ^ 32

pub first_good : (digest : List ℕ) (options : Numbers) (next : Table) (rest : List (List ℕ))
    → IsFilled (first_rows digest options next) (first_values digest options ++ rest) → IsFilled next rest
unfolding first_rows options_rows first_values option_values said number
first_good digest options next rest h = h.2.2.2.2.2.2.2.2

told_right : (n : ℕ) → n < 2 ^ 32 → (little_number 4 (little_bytes 4 n) == n) ≡ true
told_right n l =
    let self : (n == n) ≡ true = grind (arith, nat_tests) in ap (λ k. k == n) (word_back n l) ∙ self

pub first_fill : (digest : List ℕ) (options : Numbers) (next : Table) (rest : List (List ℕ)) → AreNarrow options
    → IsFilled next rest → IsFilled (first_rows digest options next) (first_values digest options ++ rest)
unfolding first_rows options_rows first_values option_values said number
first_fill digest options next rest narrow h = (
  refl,
  bytes_eq-self tag,
  (
    refl,
    bytes_eq-self digest,
    (
      refl,
      told_right options.vl narrow.vl,
      (
        refl,
        told_right options.svl narrow.svl,
        (
          refl,
          told_right options.slice narrow.slice,
          (
            refl,
            told_right options.budget narrow.budget,
            (
              refl,
              told_right options.threads narrow.threads,
              (refl, told_right options.kernel narrow.kernel, h),
            ),
          ),
        ),
      ),
    ),
  ),
)

-- ---- how far the thread has come

-- the numbers fit their fields
pub record IsNarrowProgress (thread count events depth turns : ℕ) : Type 0 where
  pub thread_fits : thread < 2 ^ 32
  pub count_fits : count < 2 ^ 32
  pub events_fits : events < 2 ^ 32
  pub depth_fits : depth < 2 ^ 32
  pub turns_fits : turns < 2 ^ 64

-- and are as the table says
pub record IsProgress (report : Report) (thread count events depth turns : ℕ) : Type 0 where
  pub thread_good : nat_lt thread report.options.threads ≡ true
  pub count_good : is_count (slice_index (counts report) thread) report.options.budget count ≡ true
  pub events_good : are_events (slice_index (journals report) thread) events ≡ true
  pub depth_good : nat_le depth (most_depth report.options.kernel) ≡ true
  pub turns_good : nat_le turns (64 * report.options.budget) ≡ true

pub thread_good : (report : Report) (next : Table) (thread count events depth turns : ℕ) (rest : List (List ℕ))
    → IsNarrowProgress thread count events depth turns
    → IsFilled (thread_rows report next) (thread_values thread count events depth turns ++ rest)
    → IsProgress report thread count events depth turns × IsFilled next rest
unfolding thread_rows thread_values number
thread_good report next thread count events depth turns rest narrow h =
    let t : little_number 4 (little_bytes 4 thread) ≡ thread = word_back thread narrow.thread_fits in (
      record {
        thread_good = ap (λ k. nat_lt k report.options.threads) (sym t) ∙ h.1;
        count_good = ap (λ k. is_count (slice_index (counts report) thread) report.options.budget k)
            (sym (word_back count narrow.count_fits))
            ∙ ap (λ k. is_count (slice_index (counts report) k) report.options.budget (little_number 4 (little_bytes 4 count))) (sym t)
            ∙ h.2.1;
        events_good = ap (λ k. are_events (slice_index (journals report) thread) k) (sym (word_back events narrow.events_fits))
            ∙ ap (λ k. are_events (slice_index (journals report) k) (little_number 4 (little_bytes 4 events))) (sym t) ∙ h.2.2.1;
        depth_good = ap (λ k. nat_le k (most_depth report.options.kernel)) (sym (word_back depth narrow.depth_fits)) ∙ h.2.2.2.1;
        turns_good = ap (λ k. nat_le k (64 * report.options.budget)) (sym (doubleword_back turns narrow.turns_fits)) ∙ h.2.2.2.2.1;
      },
      h.2.2.2.2.2,
    )

pub thread_fill : (report : Report) (next : Table) (thread count events depth turns : ℕ) (rest : List (List ℕ))
    → IsNarrowProgress thread count events depth turns → IsProgress report thread count events depth turns
    → IsFilled next rest → IsFilled (thread_rows report next) (thread_values thread count events depth turns ++ rest)
unfolding thread_rows thread_values number
thread_fill report next thread count events depth turns rest narrow good h =
    let t : little_number 4 (little_bytes 4 thread) ≡ thread = word_back thread narrow.thread_fits in (
      refl,
      ap (λ k. nat_lt k report.options.threads) t ∙ good.thread_good,
      (
        refl,
        ap (λ k. is_count (slice_index (counts report) k) report.options.budget (little_number 4 (little_bytes 4 count))) t
            ∙ ap (λ k. is_count (slice_index (counts report) thread) report.options.budget k) (word_back count narrow.count_fits)
            ∙ good.count_good,
        (
          refl,
          ap (λ k. are_events (slice_index (journals report) k) (little_number 4 (little_bytes 4 events))) t
              ∙ ap (λ k. are_events (slice_index (journals report) thread) k) (word_back events narrow.events_fits) ∙ good.events_good,
          (
            refl,
            ap (λ k. nat_le k (most_depth report.options.kernel)) (word_back depth narrow.depth_fits) ∙ good.depth_good,
            (
              refl,
              ap (λ k. nat_le k (64 * report.options.budget)) (doubleword_back turns narrow.turns_fits) ∙ good.turns_good,
              h,
            ),
          ),
        ),
      ),
    )

-- ---- PC, SP and X0 to X30

pub words_of_size : (n : ℕ) (numbers : List ℕ) → AreOfSize 8 (map (little_bytes 8) numbers)
words_of_size n [] = tt
words_of_size n (x ∷ xs) = (refl, words_of_size n xs)

-- ---- the system registers, and what the kernel keeps

pub record IsNarrowSystem (nzcv svcr tpidr tpidr2 held mask : ℕ) : Type 0 where
  pub nzcv_fits : nzcv < 2 ^ 64
  pub svcr_fits : svcr < 2 ^ 64
  pub tpidr_fits : tpidr < 2 ^ 64
  pub tpidr2_fits : tpidr2 < 2 ^ 64
  pub held_fits : held < 2 ^ 64
  pub mask_fits : mask < 2 ^ 64

pub record IsSystem (kernel nzcv svcr mask : ℕ) : Type 0 where
  pub nzcv_good : are_flags nzcv ≡ true
  pub svcr_good : nat_lt svcr 4 ≡ true
  pub mask_good : is_mask kernel mask ≡ true

pub system_good : (kernel : ℕ) (next : ℕ → Table) (nzcv svcr tpidr tpidr2 held mask : ℕ) (polled : Bool) (rest : List (List ℕ))
    → IsNarrowSystem nzcv svcr tpidr tpidr2 held mask
    → IsFilled (system_rows kernel next) (system_values nzcv svcr tpidr tpidr2 held mask polled ++ rest)
    → IsSystem kernel nzcv svcr mask × IsFilled (next svcr) rest
unfolding system_rows system_values number
system_good kernel next nzcv svcr tpidr tpidr2 held mask polled rest narrow h =
    let s : little_number 8 (little_bytes 8 svcr) ≡ svcr = doubleword_back svcr narrow.svcr_fits in (
      record {
        nzcv_good = ap are_flags (sym (doubleword_back nzcv narrow.nzcv_fits)) ∙ h.1;
        svcr_good = ap (λ k. nat_lt k 4) (sym s) ∙ h.2.1;
        mask_good = ap (is_mask kernel) (sym (doubleword_back mask narrow.mask_fits)) ∙ h.2.2.2.2.2.1;
      },
      subst (λ k. IsFilled (next k) rest) s h.2.2.2.2.2.2.2,
    )

truth_small : (b : Bool) → nat_lt (little_number 8 (little_bytes 8 (bool_number b))) 2 ≡ true
truth_small true = refl
truth_small false = refl

pub system_fill : (kernel : ℕ) (next : ℕ → Table) (nzcv svcr tpidr tpidr2 held mask : ℕ) (polled : Bool) (rest : List (List ℕ))
    → IsNarrowSystem nzcv svcr tpidr tpidr2 held mask → IsSystem kernel nzcv svcr mask → IsFilled (next svcr) rest
    → IsFilled (system_rows kernel next) (system_values nzcv svcr tpidr tpidr2 held mask polled ++ rest)
unfolding system_rows system_values number
system_fill kernel next nzcv svcr tpidr tpidr2 held mask polled rest narrow good h =
    let s : little_number 8 (little_bytes 8 svcr) ≡ svcr = doubleword_back svcr narrow.svcr_fits in (
      refl,
      ap are_flags (doubleword_back nzcv narrow.nzcv_fits) ∙ good.nzcv_good,
      (
        refl,
        ap (λ k. nat_lt k 4) s ∙ good.svcr_good,
        (
          refl,
          refl,
          (
            refl,
            refl,
            (
              refl,
              refl,
              (
                refl,
                ap (is_mask kernel) (doubleword_back mask narrow.mask_fits) ∙ good.mask_good,
                (refl, truth_small polled, subst (λ k. IsFilled (next k) rest) (sym s) h),
              ),
            ),
          ),
        ),
      ),
    )

-- ---- handlers

abbrev pub IsNarrowEntry : ℕ × ℕ → Type 0
IsNarrowEntry h = (h.0 < 2 ^ 32) × (h.1 < 2 ^ 64)

abbrev pub IsHandlerPast : ℕ → ℕ × ℕ → Type 0
IsHandlerPast last h = (is_signal_past last h.0 ≡ true) × (nat_lt 0 h.1 ≡ true)

abbrev pub AreHandlersPast : ℕ → List (ℕ × ℕ) → Type 0
AreHandlersPast last handlers = AreGood (λ (h : ℕ × ℕ). h.0) IsHandlerPast last handlers

handler_good : (last : ℕ) (h : ℕ × ℕ) (follows : ℕ → Table) (rest : List (List ℕ)) → IsNarrowEntry h
    → IsFilled (handler_row last follows) (handler_value h ++ rest) → IsHandlerPast last h × IsFilled (follows h.0) rest
unfolding handler_row number
handler_good last h follows rest narrow k =
    let s : little_number 4 (little_bytes 4 h.0) ≡ h.0 = word_back h.0 narrow.0 in (
      (ap (is_signal_past last) (sym s) ∙ k.1, ap (nat_lt 0) (sym (doubleword_back h.1 narrow.1)) ∙ k.2.1),
      subst (λ n. IsFilled (follows n) rest) s k.2.2,
    )

handler_fill : (last : ℕ) (h : ℕ × ℕ) (follows : ℕ → Table) (rest : List (List ℕ)) → IsNarrowEntry h → IsHandlerPast last h
    → IsFilled (follows h.0) rest → IsFilled (handler_row last follows) (handler_value h ++ rest)
unfolding handler_row number
handler_fill last h follows rest narrow good k =
    let s : little_number 4 (little_bytes 4 h.0) ≡ h.0 = word_back h.0 narrow.0 in (
      refl,
      ap (is_signal_past last) s ∙ good.0,
      (refl, ap (nat_lt 0) (doubleword_back h.1 narrow.1) ∙ good.1, subst (λ n. IsFilled (follows n) rest) (sym s) k),
    )

-- how many there are
count_back : (most n : ℕ) → n < 2 ^ 32 → nat_le (little_number 4 (little_bytes 4 n)) most ≡ true → nat_le n most ≡ true
count_back most n l h = ap (λ k. nat_le k most) (sym (word_back n l)) ∙ h

count_there : (most n : ℕ) → n < 2 ^ 32 → nat_le n most ≡ true → nat_le (little_number 4 (little_bytes 4 n)) most ≡ true
count_there most n l h = ap (λ k. nat_le k most) (word_back n l) ∙ h

pub handlers_good : (next : Table) (handlers : List (ℕ × ℕ)) (rest : List (List ℕ)) → length handlers < 2 ^ 32
    → Each IsNarrowEntry handlers → IsFilled (handlers_of next) (handler_values handlers ++ rest)
    → (nat_le (length handlers) 62 ≡ true) × AreHandlersPast 0 handlers × IsFilled next rest
unfolding handlers_of handler_values number
handlers_good next handlers rest few narrow h =
    let all : IsFilled (repeated handler_row (length handlers) 0 next) (flat_map handler_value handlers ++ rest) =
    subst (λ n. IsFilled (repeated handler_row n 0 next) (flat_map handler_value handlers ++ rest)) (word_back (length handlers) few) h.2 in
    let good = items_good handler_row handler_value
    (λ (e : ℕ × ℕ). e.0) IsHandlerPast IsNarrowEntry handler_good handlers 0 next rest narrow all in
    (count_back 62 (length handlers) few h.1, good.0, good.1)

pub handlers_fill : (next : Table) (handlers : List (ℕ × ℕ)) (rest : List (List ℕ)) → length handlers < 2 ^ 32
    → Each IsNarrowEntry handlers → nat_le (length handlers) 62 ≡ true → AreHandlersPast 0 handlers → IsFilled next rest
    → IsFilled (handlers_of next) (handler_values handlers ++ rest)
unfolding handlers_of handler_values number
handlers_fill next handlers rest few narrow count good h =
    let all = items_fill handler_row handler_value
    (λ (e : ℕ × ℕ). e.0) IsHandlerPast IsNarrowEntry handler_fill handlers 0 next rest narrow good h in (
      refl,
      count_there 62 (length handlers) few count,
      subst (λ n. IsFilled (repeated handler_row n 0 next) (flat_map handler_value handlers ++ rest))
          (sym (word_back (length handlers) few)) all,
    )

-- ---- the output

pub output_good : (next : Table) (output : List ℕ) (rest : List (List ℕ)) → length output < 2 ^ 32
    → IsFilled (output_rows next) (output_values output ++ rest) → (nat_le (length output) 1048576 ≡ true) × IsFilled next rest
unfolding output_rows output_values number fields
output_good next output rest few h = (count_back 1048576 (length output) few h.1, h.2.2)

pub output_fill : (next : Table) (output : List ℕ) (rest : List (List ℕ)) → length output < 2 ^ 32
    → nat_le (length output) 1048576 ≡ true → IsFilled next rest → IsFilled (output_rows next) (output_values output ++ rest)
unfolding output_rows output_values number fields
output_fill next output rest few count h = (
  refl,
  count_there 1048576 (length output) few count,
  (sym (word_back (length output) few), refl, h),
)

-- ---- pages

abbrev pub IsNarrowPage : ℕ × ℕ × List ℕ → Type 0
IsNarrowPage p = (p.0 < 2 ^ 64) × (p.1 < 256)

abbrev pub IsPagePast : ℕ → ℕ × ℕ × List ℕ → Type 0
IsPagePast least p = (is_page_address least p.0 ≡ true) × (nat_lt p.1 8 ≡ true) × (length p.2 ≡ 4096)

abbrev pub ArePagesPast : ℕ → List (ℕ × ℕ × List ℕ) → Type 0
ArePagesPast least pages = AreGood (λ (p : ℕ × ℕ × List ℕ). p.0 + 1) IsPagePast least pages

page_good : (least : ℕ) (p : ℕ × ℕ × List ℕ) (follows : ℕ → Table) (rest : List (List ℕ)) → IsNarrowPage p
    → IsFilled (page_row least follows) (page_value p ++ rest) → IsPagePast least p × IsFilled (follows (p.0 + 1)) rest
unfolding page_row number fields
page_good least p follows rest narrow k =
    let a : little_number 8 (little_bytes 8 p.0) ≡ p.0 = doubleword_back p.0 narrow.0 in (
      (ap (is_page_address least) (sym a) ∙ k.1, ap (λ n. nat_lt n 8) (sym (back 1 p.1 narrow.1)) ∙ k.2.1, k.2.2.0),
      subst (λ n. IsFilled (follows (n + 1)) rest) a k.2.2.2,
    )

page_fill : (least : ℕ) (p : ℕ × ℕ × List ℕ) (follows : ℕ → Table) (rest : List (List ℕ)) → IsNarrowPage p → IsPagePast least p
    → IsFilled (follows (p.0 + 1)) rest → IsFilled (page_row least follows) (page_value p ++ rest)
unfolding page_row number fields
page_fill least p follows rest narrow good k =
    let a : little_number 8 (little_bytes 8 p.0) ≡ p.0 = doubleword_back p.0 narrow.0 in (
      refl,
      ap (is_page_address least) a ∙ good.0,
      (
        refl,
        ap (λ n. nat_lt n 8) (back 1 p.1 narrow.1) ∙ good.1,
        (good.2, refl, subst (λ n. IsFilled (follows (n + 1)) rest) (sym a) k),
      ),
    )

pub pages_good : (pages : List (ℕ × ℕ × List ℕ)) → length pages < 2 ^ 32 → Each IsNarrowPage pages
    → IsFilled pages_of (page_values pages) → (nat_le (length pages) 4096 ≡ true) × ArePagesPast 0 pages
unfolding pages_of page_values number
pages_good pages few narrow h =
    let all : IsFilled (repeated page_row (length pages) 0 End) (flat_map page_value pages ++ []) =
    subst (IsFilled (repeated page_row (length pages) 0 End)) (sym (append-nil (flat_map page_value pages)))
    (subst (λ n. IsFilled (repeated page_row n 0 End) (flat_map page_value pages)) (word_back (length pages) few) h.2) in
    let good = items_good page_row page_value
    (λ (p : ℕ × ℕ × List ℕ). p.0 + 1) IsPagePast IsNarrowPage page_good pages 0 End [] narrow all in
    (count_back 4096 (length pages) few h.1, good.0)

pub pages_fill : (pages : List (ℕ × ℕ × List ℕ)) → length pages < 2 ^ 32 → Each IsNarrowPage pages
    → nat_le (length pages) 4096 ≡ true → ArePagesPast 0 pages → IsFilled pages_of (page_values pages)
unfolding pages_of page_values number
pages_fill pages few narrow count good =
    let all = items_fill page_row page_value
    (λ (p : ℕ × ℕ × List ℕ). p.0 + 1) IsPagePast IsNarrowPage page_fill pages 0 End [] narrow good tt in (
      refl,
      count_there 4096 (length pages) few count,
      subst (λ n. IsFilled (repeated page_row n 0 End) (flat_map page_value pages)) (sym (word_back (length pages) few))
          (subst (IsFilled (repeated page_row (length pages) 0 End)) (append-nil (flat_map page_value pages)) all),
    )

-- ---- the vectors, the predicates and FFR, and ZA

pub vectors_good : (options : Numbers) (svcr : ℕ) (next : Table) (vectors predicates array rest : List (List ℕ))
    → length vectors ≡ 32 → length predicates ≡ 17 → length array ≡ array_size options svcr
    → IsFilled (vector_rows options svcr next) ((vectors ++ predicates) ++ (array ++ rest)) → IsFilled next rest
unfolding vector_rows
vectors_good options svcr next vectors predicates array rest a b c h =
    let apart : IsFilled (vector_rows options svcr next) (vectors ++ (predicates ++ (array ++ rest))) =
    subst (IsFilled (vector_rows options svcr next)) (append_assoc vectors predicates (array ++ rest)) h in
    fields_good (array_size options svcr) (options.svl / 8) next array rest c
    (fields_good 17 (length_for options svcr / 8) (fields (array_size options svcr) (options.svl / 8) next) predicates (array ++ rest) b
    (fields_good 32 (length_for options svcr)
    (fields 17 (length_for options svcr / 8) (fields (array_size options svcr) (options.svl / 8) next)) vectors
    (predicates ++ (array ++ rest)) a apart))

pub vectors_fill : (options : Numbers) (svcr : ℕ) (next : Table) (vectors predicates array rest : List (List ℕ))
    → length vectors ≡ 32 → AreOfSize (length_for options svcr) vectors
    → length predicates ≡ 17 → AreOfSize (length_for options svcr / 8) predicates
    → length array ≡ array_size options svcr → AreOfSize (options.svl / 8) array → IsFilled next rest
    → IsFilled (vector_rows options svcr next) ((vectors ++ predicates) ++ (array ++ rest))
unfolding vector_rows
vectors_fill options svcr next vectors predicates array rest a sizes_a b sizes_b c sizes_c h =
    subst (IsFilled (vector_rows options svcr next)) (sym (append_assoc vectors predicates (array ++ rest)))
    (fields_fill 32 (length_for options svcr)
    (fields 17 (length_for options svcr / 8) (fields (array_size options svcr) (options.svl / 8) next)) vectors
    (predicates ++ (array ++ rest)) a sizes_a
    (fields_fill 17 (length_for options svcr / 8) (fields (array_size options svcr) (options.svl / 8) next) predicates
    (array ++ rest) b sizes_b
    (fields_fill (array_size options svcr) (options.svl / 8) next array rest c sizes_c h)))
