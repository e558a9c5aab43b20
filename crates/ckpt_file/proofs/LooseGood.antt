-- The fields of a file that are as the table says are those of a thread.
use Rattle.std.proofs.Common.{◌≡◌, ◌≢◌, ℕ, zero, suc, ◌+◌, ◌*◌, ◌/◌, ◌%◌, ◌<◌, ◌≤◌, ◌^◌, ◌==◌, ◌&&◌, ◌++◌, true, List, [], ◌∷◌, length}
use Rattle.std.proofs.Common.{map, Some, refl, ap, ◌∙◌, subst, arith}
use Rattle.std.specs.Prelude.{nat_lt, nat_le, not, slice_get, slice_index}
use Rattle.std.proofs.lemmas.Bool.Decides.{nat_tests}
use Rattle.std.proofs.lemmas.List.{length-map, length-append}
use Rattle.std.proofs.lemmas.Bool.{eqb-true, leb-true, ltb-true}
use Rattle.plain_lemmas.proofs.Tests.{ne_from_not_eqb, and_second, and_first}
use Rattle.byteorder.specs.Endian.{little_bytes}
use Rattle.sm_types.specs.Options.{numbers_of}
use Rattle.sm_types.specs.declared.numbers.Numbers.{Numbers}
use Rattle.report_reader.specs.Told.{report_said}
use Rattle.report_reader.specs.declared.parts.Report as code
use Rattle.paged_memory.specs.PageList.{IsPageImage, IsPageList}
use Rattle.paged_memory.specs.declared.page_list.PageImage.{PageImage}
use Rattle.field_table.specs.Table.{IsFilled}
use Rattle.field_table.specs.Rows.{rows}
use Rattle.kernel_contexts.specs.Handlers.{is_signal}
use Rattle.kernel_contexts.specs.LooseState.{IsHandler, AreHandlers, IsLooseState, handler_entry, loose_length}
use Rattle.kernel_contexts.specs.declared.loose_state.LooseState.{LooseState}
use Rattle.kernel_contexts.specs.declared.loose_state.Handler.{Handler}
use Rattle.ckpt_fields.specs.Rows.{checkpoint_table, length_for, array_size, most_depth, counts, journals}
use Rattle.ckpt_fields.specs.Rows.{is_signal_past, is_page_address, from_thread, from_registers, from_system, from_vectors}
use Rattle.ckpt_fields.specs.Rows.{from_handlers, from_output, pages_of}
use Rattle.ckpt_fields.specs.Values.{doublewords, thread_values, system_values, handler_values, output_values, page_values, page_said}
use Rattle.ckpt_file.specs.Loose.{loose_values, HasLooseSizes, HasNarrowNumbers}
use Rattle.ckpt_file.specs.Loose as loose
use Rattle.ckpt_file.proofs.Filling.{Each, each_of_all, all_of_each, fields_good}
use Rattle.ckpt_file.proofs.Parts.{first_good, thread_good, system_good, vectors_good, handlers_good, output_good, pages_good}
use Rattle.ckpt_file.proofs.Parts.{IsProgress, IsSystem}
use Rattle.ckpt_file.proofs.Parts.{IsNarrowEntry, IsNarrowPage, AreHandlersPast, ArePagesPast}
use Rattle.ckpt_file.proofs.Modes.{length_is, array_bytes, depth_is, unmasked_by}

-- ---- handlers

signal_good : (last n : ℕ) → is_signal_past last n ≡ true → is_signal n ≡ true
signal_good last n e =
    let low : last < n = ltb-true last n (and_first (nat_lt last n) (nat_le n 62) e) in
    let high : n ≤ 62 = leb-true n 62 (and_second (nat_lt last n) (nat_le n 62) e) in
    grind (arith, nat_tests)

later : (last n : ℕ) → is_signal_past last n ≡ true → last < n
later last n e = ltb-true last n (and_first (nat_lt last n) (nat_le n 62) e)

each_handler : (last : ℕ) (list : List Handler) → AreHandlersPast last (map handler_entry list) → Each IsHandler list
each_handler last [] h = tt
each_handler last (g ∷ gs) h = (
  record { signal = signal_good last g.signal h.0.0; address = let n : 0 < g.address = ltb-true 0 g.address h.0.1 in omega (arith, n) },
  each_handler g.signal gs h.1,
)

past : (last : ℕ) (list : List Handler) (j : ℕ) (h : Handler) → AreHandlersPast last (map handler_entry list)
    → slice_get list j ≡ Some h → last < h.signal
past last [] j h good e = cc
past last (g ∷ gs) zero h good e =
    let same : g ≡ h = cc in subst (λ (x : Handler). last < x.signal) same (later last g.signal good.0.0)
past last (g ∷ gs) (suc j) h good e =
    let first = later last g.signal good.0.0 in
    let next = past g.signal gs j h good.1 e in omega (arith, first, next)

ascend : (last : ℕ) (list : List Handler) (i j : ℕ) (g h : Handler) → AreHandlersPast last (map handler_entry list) → i < j
    → slice_get list i ≡ Some g → slice_get list j ≡ Some h → g.signal < h.signal
ascend last [] i j g h good l e f = cc
ascend last (x ∷ xs) i zero g h good l e f = absurd (omega (arith, l))
ascend last (x ∷ xs) zero (suc j) g h good l e f =
    let same : x ≡ g = cc in subst (λ (y : Handler). y.signal < h.signal) same (past x.signal xs j h good.1 f)
ascend last (x ∷ xs) (suc i) (suc j) g h good l e f = ascend x.signal xs i j g h good.1 (omega (arith, l)) e f

handlers_are : (list : List Handler) → AreHandlersPast 0 (map handler_entry list) → AreHandlers list
handlers_are list good = record {
  each = all_of_each IsHandler list (each_handler 0 list good);
  ascending = λ i j g h l e f. ascend 0 list i j g h good l e f;
}

-- ---- pages

-- what the test of an address says
record IsPlace (least a : ℕ) : Type 0 where
  pub low : least ≤ a
  pub aligned : a % 4096 ≡ 0
  pub private : a ≢ 0x7F0000000000

place_good : (least a : ℕ) → is_page_address least a ≡ true → IsPlace least a
place_good least a e =
    let both : (nat_le least a && (a % 4096 == 0)) ≡ true =
    and_first (nat_le least a && (a % 4096 == 0)) (not (a == 0x7F0000000000)) e in
    record {
      low = leb-true least a (and_first (nat_le least a) (a % 4096 == 0) both);
      aligned = eqb-true (a % 4096) 0 (and_second (nat_le least a) (a % 4096 == 0) both);
      private = ne_from_not_eqb a 0x7F0000000000 (and_second (nat_le least a && (a % 4096 == 0)) (not (a == 0x7F0000000000)) e);
    }

each_page : (least : ℕ) (list : List PageImage) → ArePagesPast least (map page_said list) → Each IsPageImage list
each_page least [] h = tt
each_page least (p ∷ ps) h =
    let place : IsPlace least p.address = place_good least p.address h.0.0 in (
      record {
        aligned = place.aligned;
        private = place.private;
        flags = ltb-true p.flags 8 h.0.1;
        full = h.0.2;
      },
      each_page (p.address + 1) ps h.1,
    )

page_past : (least : ℕ) (list : List PageImage) (j : ℕ) (q : PageImage) → ArePagesPast least (map page_said list)
    → slice_get list j ≡ Some q → least ≤ q.address
page_past least [] j q good e = cc
page_past least (p ∷ ps) zero q good e =
    let same : p ≡ q = cc in
    let place : IsPlace least p.address = place_good least p.address good.0.0 in
    subst (λ (x : PageImage). least ≤ x.address) same place.low
page_past least (p ∷ ps) (suc j) q good e =
    let place : IsPlace least p.address = place_good least p.address good.0.0 in
    let next = page_past (p.address + 1) ps j q good.1 e in omega (arith, place.low, next)

page_ascend : (least : ℕ) (list : List PageImage) (i j : ℕ) (p q : PageImage) → ArePagesPast least (map page_said list) → i < j
    → slice_get list i ≡ Some p → slice_get list j ≡ Some q → p.address < q.address
page_ascend least [] i j p q good l e f = cc
page_ascend least (x ∷ xs) i zero p q good l e f = absurd (omega (arith, l))
page_ascend least (x ∷ xs) zero (suc j) p q good l e f =
    let same : x ≡ p = cc in
    let next : x.address + 1 ≤ q.address = page_past (x.address + 1) xs j q good.1 f in
    let more : x.address < q.address = omega (arith, next) in
    subst (λ (y : PageImage). y.address < q.address) same more
page_ascend least (x ∷ xs) (suc i) (suc j) p q good l e f =
    page_ascend (x.address + 1) xs i j p q good.1 (omega (arith, l)) e f

pages_are : (list : List PageImage) → length list ≤ 4096 → ArePagesPast 0 (map page_said list) → IsPageList list
pages_are list few good = record {
  each = all_of_each IsPageImage list (each_page 0 list good);
  ascending = λ i j p q l e f. page_ascend 0 list i j p q good l e f;
  few = few;
}

-- ---- all fields

-- from the pages on, from the output on, and so on
abbrev pages_left : LooseState → List (List ℕ)
pages_left t = page_values (map page_said t.pages.items)

abbrev output_left : LooseState → List (List ℕ)
output_left t = output_values t.output.items ++ pages_left t

abbrev handlers_left : LooseState → List (List ℕ)
handlers_left t = handler_values (map handler_entry t.handlers.items) ++ output_left t

abbrev vectors_said : Numbers → LooseState → List (List ℕ)
vectors_said o t = rows 32 (length_for o t.svcr) t.z.items

abbrev predicates_said : Numbers → LooseState → List (List ℕ)
predicates_said o t = rows 16 (length_for o t.svcr / 8) t.p.items ++ t.ffr.items ∷ []

abbrev array_said : Numbers → LooseState → List (List ℕ)
array_said o t = rows (array_size o t.svcr) (o.svl / 8) t.za.items

abbrev vectors_left : Numbers → LooseState → List (List ℕ)
vectors_left o t = (vectors_said o t ++ predicates_said o t) ++ (array_said o t ++ handlers_left t)

abbrev system_left : Numbers → LooseState → List (List ℕ)
system_left o t = system_values t.nzcv t.svcr t.tpidr t.tpidr2 t.held t.mask t.polled ++ vectors_left o t

abbrev registers_left : Numbers → LooseState → List (List ℕ)
registers_left o t = doublewords (t.pc ∷ t.sp ∷ t.x) ++ system_left o t

abbrev thread_left : Numbers → LooseState → List (List ℕ)
thread_left o t = thread_values t.thread t.count t.events t.depth t.turns ++ registers_left o t

length-rows : (count size : ℕ) (bytes : List ℕ) → length (rows count size bytes) ≡ count
unfolding rows
length-rows zero size bytes = refl
length-rows (suc count) size bytes = ap suc (length-rows count size _)

narrow_entries : (list : List Handler) → Each loose.IsNarrowEntry list → Each IsNarrowEntry (map handler_entry list)
narrow_entries [] h = tt
narrow_entries (g ∷ gs) h = (h.0, narrow_entries gs h.1)

narrow_pages : (list : List PageImage) → Each (λ p. (p.address < 2 ^ 64) × (p.flags < 256)) list → Each IsNarrowPage (map page_said list)
narrow_pages [] h = tt
narrow_pages (p ∷ ps) h = (h.0, narrow_pages ps h.1)

-- what the table says of each of them
pub record AreGoodFields (r : code.Report) (t : LooseState) : Type 0 where
  pub progress : IsProgress (report_said r) t.thread t.count t.events t.depth t.turns
  pub system : IsSystem r.config.kernel t.nzcv t.svcr t.mask
  pub handlers : AreHandlersPast 0 (map handler_entry t.handlers.items)
  pub pages : ArePagesPast 0 (map page_said t.pages.items)

fields_are_good : (r : code.Report) (t : LooseState) → HasNarrowNumbers t → HasLooseSizes (numbers_of r.config) t
    → IsFilled (checkpoint_table (report_said r)) (loose_values r.image (numbers_of r.config) t) → AreGoodFields r t
unfolding checkpoint_table loose_values
fields_are_good r t narrow sizes h =
    let o : Numbers = numbers_of r.config in
    let first : IsFilled (from_thread (report_said r)) (thread_left o t) =
    first_good r.image o (from_thread (report_said r)) (thread_left o t) h in
    let progress = thread_good (report_said r) (from_registers (report_said r)) t.thread t.count t.events t.depth t.turns
    (registers_left o t)
    (record {
      thread_fits = narrow.thread;
      count_fits = narrow.count;
      events_fits = narrow.events;
      depth_fits = narrow.depth;
      turns_fits = narrow.turns;
    }) first in
    let many : length (doublewords (t.pc ∷ t.sp ∷ t.x)) ≡ 33 = omega (arith, length-map t.x (little_bytes 8), sizes.registers) in
    let registers : IsFilled (from_system (report_said r)) (system_left o t) =
    fields_good 33 8 (from_system (report_said r)) (doublewords (t.pc ∷ t.sp ∷ t.x)) (system_left o t) many progress.1 in
    let system = system_good r.config.kernel (from_vectors (report_said r)) t.nzcv t.svcr t.tpidr t.tpidr2 t.held t.mask t.polled
    (vectors_left o t)
    (record {
      nzcv_fits = narrow.nzcv;
      svcr_fits = narrow.svcr;
      tpidr_fits = narrow.tpidr;
      tpidr2_fits = narrow.tpidr2;
      held_fits = narrow.held;
      mask_fits = narrow.mask;
    }) registers in
    let seventeen : length (predicates_said o t) ≡ 17 =
    omega (
      arith,
      length-append (rows 16 (length_for o t.svcr / 8) t.p.items) (t.ffr.items ∷ []),
      length-rows 16 (length_for o t.svcr / 8) t.p.items,
    ) in
    let vectors : IsFilled from_handlers (handlers_left t) =
    vectors_good o t.svcr from_handlers (vectors_said o t) (predicates_said o t) (array_said o t) (handlers_left t)
    (length-rows 32 (length_for o t.svcr) t.z.items) seventeen (length-rows (array_size o t.svcr) (o.svl / 8) t.za.items) system.1 in
    let few_handlers : length (map handler_entry t.handlers.items) < 2 ^ 32 =
    omega (arith, length-map t.handlers.items handler_entry, sizes.few_handlers) in
    let handlers = handlers_good from_output (map handler_entry t.handlers.items) (output_left t) few_handlers
    (narrow_entries t.handlers.items (each_of_all loose.IsNarrowEntry t.handlers.items sizes.handlers)) vectors in
    let few_bytes : length t.output.items < 2 ^ 32 = omega (arith, sizes.few_bytes) in
    let output = output_good pages_of t.output.items (pages_left t) few_bytes handlers.2 in
    let few_pages : length (map page_said t.pages.items) < 2 ^ 32 = omega (arith, length-map t.pages.items page_said, sizes.few_pages) in
    let pages = pages_good (map page_said t.pages.items) few_pages
    (narrow_pages t.pages.items (each_of_all
    (λ (p : PageImage). (p.address < 2 ^ 64) × (p.flags < 256)) t.pages.items sizes.pages)) output.1 in
    record { progress = progress.0; system = system.0; handlers = handlers.1; pages = pages.1 }

-- so they are those of a thread with the options of the report
pub loose_good : (r : code.Report) (t : LooseState) → HasNarrowNumbers t → HasLooseSizes (numbers_of r.config) t
    → IsFilled (checkpoint_table (report_said r)) (loose_values r.image (numbers_of r.config) t) → IsLooseState r.config t
loose_good r t narrow sizes h =
    let good : AreGoodFields r t = fields_are_good r t narrow sizes h in
    let budget : nat_lt t.count r.config.budget ≡ true =
    and_second (nat_lt t.count (slice_index (counts (report_said r)) t.thread)) (nat_lt t.count r.config.budget) good.progress.count_good in
    let most : nat_le t.events 262144 ≡ true =
    and_second (nat_le t.events (slice_index (journals (report_said r)) t.thread)) (nat_le t.events 262144) good.progress.events_good in
    let modes : t.svcr < 4 = ltb-true t.svcr 4 good.system.svcr_good in
    let signals : ((t.mask % 2 == 0) && nat_lt t.mask (2 ^ 63)) ≡ true =
    and_first ((t.mask % 2 == 0) && nat_lt t.mask (2 ^ 63)) _ good.system.mask_good in
    let long : length_for (numbers_of r.config) t.svcr ≡ loose_length r.config t = length_is r.config t.svcr in
    record {
      numbers = record {
        thread = ltb-true t.thread r.config.threads good.progress.thread_good;
        count = ltb-true t.count r.config.budget budget;
        events = leb-true t.events 262144 most;
        depth = subst (λ n. t.depth ≤ n) (depth_is r.config) (leb-true t.depth (most_depth r.config.kernel) good.progress.depth_good);
        turns = leb-true t.turns (64 * r.config.budget) good.progress.turns_good;
        flags = eqb-true (t.nzcv % 2 ^ 28) 0 (and_first (t.nzcv % 2 ^ 28 == 0) (nat_lt t.nzcv (2 ^ 32)) good.system.nzcv_good);
        word = ltb-true t.nzcv (2 ^ 32) (and_second (t.nzcv % 2 ^ 28 == 0) (nat_lt t.nzcv (2 ^ 32)) good.system.nzcv_good);
        modes = modes;
        signals = eqb-true (t.mask % 2) 0 (and_first (t.mask % 2 == 0) (nat_lt t.mask (2 ^ 63)) signals);
        highest = ltb-true t.mask (2 ^ 63) (and_second (t.mask % 2 == 0) (nat_lt t.mask (2 ^ 63)) signals);
        unmasked = unmasked_by r.config t.mask good.system.mask_good;
      };
      vectors = sizes.vectors ∙ ap (λ n. 32 * n) long;
      predicates = sizes.predicates ∙ ap (λ n. 16 * (n / 8)) long;
      first_fault = sizes.first_fault ∙ ap (λ n. n / 8) long;
      array = sizes.array ∙ array_bytes r.config t.svcr modes;
      handlers = handlers_are t.handlers.items good.handlers;
      output = sizes.few_bytes;
      pages = pages_are t.pages.items sizes.few_pages good.pages;
    }
