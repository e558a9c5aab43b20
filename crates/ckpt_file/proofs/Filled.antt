-- The fields of a thread's state are as the table of a checkpoint says.
use Rattle.std.proofs.Common.{◌≡◌, ℕ, ◌+◌, ◌*◌, ◌/◌, ◌%◌, ◌<◌, ◌≤◌, ◌^◌, ◌==◌, ◌++◌, Bool, true, false, List, [], ◌∷◌, length, map}
use Rattle.std.proofs.Common.{refl, ap, sym, ◌∙◌, subst, arith}
use Rattle.std.specs.Prelude.{nat_lt, if◌then◌else◌}
use Rattle.std.specs.FinMap.{entries, len}
use Rattle.std.proofs.lemmas.Bool.Decides.{nat_tests}
use Rattle.std.proofs.lemmas.List.{length-map, length-append}
use Rattle.std.proofs.lemmas.Bool.{le-leb, and_from}
use Rattle.bit_ops.specs.Sums.{bool_number}
use Rattle.byteorder.specs.Endian.{little_bytes}
use Rattle.sm_types.specs.declared.numbers.Numbers.{Numbers}
use Rattle.sm_types.specs.declared.scalars.Scalars.{Scalars}
use Rattle.sve_vectors.specs.Predicates.{predicate_bytes}
use Rattle.sve_vectors.specs.Registers.{VectorRegisters, AreOfLength}
use Rattle.za_array.specs.Array.{IsSquare}
use Rattle.signal_frames.proofs.Lengths.{length-predicate}
use Rattle.machine_step.specs.System.{nzcv_of, svcr_of}
use Rattle.machine_step.specs.Mode.{length_at}
use Rattle.kernel_contexts.specs.State.{State}
use Rattle.report_reader.specs.Report.{Report}
use Rattle.field_table.specs.Table.{IsFilled}
use Rattle.ckpt_fields.specs.Rows.{checkpoint_table, length_for, array_size, is_mask, are_flags}
use Rattle.ckpt_fields.specs.Rows.{from_thread, from_registers, from_system, from_vectors, from_handlers, from_output, pages_of}
use Rattle.ckpt_fields.specs.Values.{thread_values, system_values, handler_values, output_values, page_values}
use Rattle.ckpt_file.specs.Checkpoint.{register_values, vector_values, array_values, pages_in, state_values, checkpoint_values, HasWidths}
use Rattle.ckpt_file.proofs.Filling.{each_of_all, AreOfSize, fields_fill}
use Rattle.ckpt_file.proofs.Parts.{AreNarrow, IsProgress, first_fill, thread_fill, words_of_size, system_fill, vectors_fill}
use Rattle.ckpt_file.proofs.Parts.{handlers_fill, output_fill, pages_fill}
use Rattle.ckpt_file.proofs.Parts.{IsNarrowEntry, AreHandlersPast}
use Rattle.ckpt_file.proofs.Sized.{sized, sized_predicates}
use Rattle.ckpt_file.proofs.Puts.{pages_count}
use Rattle.ckpt_file.proofs.Kept.{HasPlaces, memory_past, memory_narrow, each_end}

-- ---- flags and modes

small_flag : (b : Bool) → bool_number b ≤ 1
small_flag true = omega arith
small_flag false = omega arith

-- NZCV has bits 31 to 28 alone
flags_good : (s : Scalars) → are_flags (nzcv_of s) ≡ true
unfolding nzcv_of
flags_good s =
    let n = small_flag s.n in
    let z = small_flag s.z in
    let c = small_flag s.c in
    let v = small_flag s.v in
    let value : ℕ = bool_number s.n * 2 ^ 31 + bool_number s.z * 2 ^ 30 + bool_number s.c * 2 ^ 29 + bool_number s.v * 2 ^ 28 in
    let low : value % 2 ^ 28 ≡ 0 = omega arith in
    let first : (value % 2 ^ 28 == 0) ≡ true = ap (λ r. r == 0) low in
    let high : value < 2 ^ 32 = omega (arith, n, z, c, v) in
    let second : nat_lt value (2 ^ 32) ≡ true = below_test value (2 ^ 32) high in
    and_from (value % 2 ^ 28 == 0) (nat_lt value (2 ^ 32)) first second
  where
    below_test : (a b : ℕ) → a < b → nat_lt a b ≡ true
    below_test a b l = grind (arith, nat_tests)

pub flags_low : (s : Scalars) → nzcv_of s < 2 ^ 64
unfolding nzcv_of
flags_low s =
    let n = small_flag s.n in
    let z = small_flag s.z in
    let c = small_flag s.c in
    let v = small_flag s.v in omega (arith, n, z, c, v)

modes_good : (a b : Bool) → nat_lt (bool_number a + 2 * bool_number b) 4 ≡ true
modes_good true true = refl
modes_good true false = refl
modes_good false true = refl
modes_good false false = refl

pub modes_low : (a b : Bool) → bool_number a + 2 * bool_number b < 2 ^ 64
modes_low a b =
    let first = small_flag a in
    let second = small_flag b in omega (arith, first, second)

-- L goes by PSTATE.SM
length_by : (options : Numbers) (on za : Bool) (array : List (List ℕ)) → length array ≡ options.svl / 8
    → length_for options (bool_number on + 2 * bool_number za) ≡ (if on then length array else options.vl / 8)
length_by options true true array l = sym l
length_by options true false array l = sym l
length_by options false true array l = refl
length_by options false false array l = refl

pub array_by : (options : Numbers) (on za : Bool)
    → array_size options (bool_number on + 2 * bool_number za) ≡ (if za then options.svl / 8 else 0)
array_by options true true = refl
array_by options true false = refl
array_by options false true = refl
array_by options false false = refl

-- ---- vectors

registers_sized : (size : ℕ) (r : VectorRegisters) → AreOfLength size r
    → AreOfSize (size / 8) (map predicate_bytes r.predicates ++ predicate_bytes r.ffr ∷ [])
registers_sized size r h =
    each_end (λ (v : List ℕ). length v ≡ size / 8) (map predicate_bytes r.predicates) (predicate_bytes r.ffr)
    (sized_predicates 16 size r.predicates h.predicate_count h.predicate_length)
    (length-predicate r.ffr ∙ ap (λ n. n / 8) h.ffr_length)

pub predicates_many : (size : ℕ) (r : VectorRegisters) → AreOfLength size r
    → length (map predicate_bytes r.predicates ++ predicate_bytes r.ffr ∷ []) ≡ 17
predicates_many size r h =
    omega (
      arith,
      length-append (map predicate_bytes r.predicates) (predicate_bytes r.ffr ∷ []),
      length-map r.predicates predicate_bytes,
      h.predicate_count,
    )

pub array_many : (on : Bool) (size : ℕ) (za : List (List ℕ)) → length za ≡ size → length (array_values on za) ≡ (if on then size else 0)
array_many true size za h = h
array_many false size za h = refl

array_sized : (on : Bool) (size : ℕ) (za : List (List ℕ)) → length za ≡ size → IsSquare (length za) za → AreOfSize size (array_values on za)
array_sized true size za h square =
    subst (λ n. AreOfSize n za) h (sized (length za) (length za) za refl square.long)
array_sized false size za h square = tt

-- ---- the whole state

-- what the table asks of a state, besides the widths
pub record IsInTable (report : Report) (s : State) (thread events : ℕ) : Type 0 where
  pub progress : IsProgress report thread s.count events s.depth s.turns
  pub mask : is_mask report.options.kernel s.mask ≡ true
  pub handlers : AreHandlersPast 0 (entries s.handlers)
  pub few_handlers : length (entries s.handlers) ≤ 62
  pub few_bytes : length s.output ≤ 1048576
  pub places : HasPlaces s.core.memory
  pub few_pages : len s.core.memory.perm ≤ 4096

-- from the pages on, from the output on, and so on
abbrev pub output_left : State → List (List ℕ)
output_left s = output_values s.output ++ page_values (pages_in s.core.memory)

abbrev pub handlers_left : State → List (List ℕ)
handlers_left s = handler_values (entries s.handlers) ++ output_left s

abbrev pub vectors_left : State → List (List ℕ)
vectors_left s = vector_values s.core.bank.registers ++ (array_values s.core.za_on s.core.bank.za ++ handlers_left s)

module _ (report : Report) (s : State) (thread events : ℕ) (good : IsInTable report s thread events)
    (wide : HasWidths report.options s thread events) where
  pages_filled : IsFilled pages_of (page_values (pages_in s.core.memory))
  pages_filled =
      let few : length (pages_in s.core.memory) ≤ 4096 = omega (arith, pages_count s.core.memory, good.few_pages) in
      pages_fill (pages_in s.core.memory) (omega (arith, few))
      (memory_narrow s.core.memory (each_of_all (λ (e : ℕ × ℕ). (e.0 < 2 ^ 52) × (e.1 < 2 ^ 8)) (entries s.core.memory.perm) wide.pages))
      (le-leb (length (pages_in s.core.memory)) 4096 few) (memory_past s.core.memory good.places)

  output_filled : IsFilled from_output (output_left s)
  output_filled =
      let few : length s.output < 2 ^ 32 = omega (arith, good.few_bytes) in
      output_fill pages_of s.output (page_values (pages_in s.core.memory)) few
      (le-leb (length s.output) 1048576 good.few_bytes) pages_filled

  handlers_filled : IsFilled from_handlers (handlers_left s)
  handlers_filled =
      handlers_fill from_output (entries s.handlers) (output_left s) wide.few_handlers
      (each_of_all IsNarrowEntry (entries s.handlers) wide.handlers) (le-leb (length (entries s.handlers)) 62 good.few_handlers)
      good.handlers output_filled

  vectors_filled : IsFilled (from_vectors report (svcr_of s.core)) (vectors_left s)
  unfolding vector_values
  vectors_filled =
      let r : VectorRegisters = s.core.bank.registers in
      let ps : List (List ℕ) = map predicate_bytes r.predicates ++ predicate_bytes r.ffr ∷ [] in
      let za : List (List ℕ) = array_values s.core.za_on s.core.bank.za in
      let long : length_for report.options (svcr_of s.core) ≡ length_at (report.options.vl / 8) s.core =
      length_by report.options s.core.streaming s.core.za_on s.core.bank.za wide.array in
      let sizes : AreOfSize (length_at (report.options.vl / 8) s.core) r.vectors =
      sized 32 (length_at (report.options.vl / 8) s.core) r.vectors wide.core.registers.vector_count wide.core.registers.vector_length in
      let others : AreOfSize (length_at (report.options.vl / 8) s.core / 8) ps =
      registers_sized (length_at (report.options.vl / 8) s.core) r wide.core.registers in
      vectors_fill report.options (svcr_of s.core) from_handlers r.vectors ps za (handlers_left s)
      wide.core.registers.vector_count (subst (λ n. AreOfSize n r.vectors) (sym long) sizes)
      (predicates_many (length_at (report.options.vl / 8) s.core) r wide.core.registers)
      (subst (λ n. AreOfSize (n / 8) ps) (sym long) others)
      (array_many s.core.za_on (report.options.svl / 8) s.core.bank.za wide.array
      ∙ sym (array_by report.options s.core.streaming s.core.za_on))
      (array_sized s.core.za_on (report.options.svl / 8) s.core.bank.za wide.array wide.core.square) handlers_filled

  abbrev system_left : List (List ℕ)
  system_left =
      system_values (nzcv_of s.core.scalars) (svcr_of s.core) s.core.tpidr s.core.tpidr2 s.held s.mask s.polled ++ vectors_left s

  system_filled : IsFilled (from_system report) system_left
  system_filled =
      system_fill report.options.kernel (from_vectors report) (nzcv_of s.core.scalars)
      (svcr_of s.core) s.core.tpidr s.core.tpidr2 s.held s.mask
      s.polled (vectors_left s)
      (record {
        nzcv_fits = flags_low s.core.scalars;
        svcr_fits = modes_low s.core.streaming s.core.za_on;
        tpidr_fits = wide.core.tpidr;
        tpidr2_fits = wide.core.tpidr2;
        held_fits = wide.held;
        mask_fits = wide.mask;
      })
      (record {
        nzcv_good = flags_good s.core.scalars;
        svcr_good = modes_good s.core.streaming s.core.za_on;
        mask_good = good.mask;
      }) vectors_filled

  registers_filled : IsFilled (from_registers report) (register_values s.core.scalars ++ system_left)
  registers_filled =
      let many : length (register_values s.core.scalars) ≡ 33 =
      omega (arith, length-map s.core.scalars.x (little_bytes 8), wide.core.count) in
      fields_fill 33 8 (from_system report) (register_values s.core.scalars) system_left many
      (words_of_size 33 (s.core.scalars.pc ∷ s.core.scalars.sp ∷ s.core.scalars.x)) system_filled

  pub state_filled : AreNarrow report.options
      → IsFilled (checkpoint_table report) (checkpoint_values report.image report.options s thread events)
  unfolding checkpoint_table checkpoint_values state_values
  state_filled narrow =
      first_fill report.image report.options (from_thread report)
      (thread_values thread s.count events s.depth s.turns ++ (register_values s.core.scalars ++ system_left)) narrow
      (thread_fill report (from_registers report) thread s.count events s.depth s.turns (register_values s.core.scalars ++ system_left)
      (record {
        thread_fits = wide.thread;
        count_fits = wide.count;
        events_fits = wide.events;
        depth_fits = wide.depth;
        turns_fits = wide.turns;
      }) good.progress registers_filled)
