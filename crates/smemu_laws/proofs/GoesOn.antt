-- What is left of a run from a checkpoint that a report reads either parts from the block, or ends as it says.
use Rattle.std.proofs.Common.{◌≡◌, ℕ, ◌+◌, ◌/◌, ◌<◌, ◌++◌, true, false, cond, List, [], ◌∷◌, length, map}
use Rattle.std.proofs.Common.{None, Some, refl, ap, sym, ◌∙◌, arith}
use Rattle.std.specs.Prelude.{nat_lt, slice_index}
use Rattle.std.specs.FinMap.{entries, find, get-entries}
use Rattle.std.specs.Ordering.{eq_by_cmp, nat_cmp}
use Rattle.std.proofs.lemmas.Bool.Decides.{nat_tests}
use Rattle.std.proofs.lemmas.List.{length-map}
use Rattle.std.proofs.lemmas.Bool.{both_ways, false_from_ne_true, eqb-true}
use Rattle.plain_lemmas.proofs.Tests.{and_second, eq_by_cmp-true}
use Rattle.byteorder.specs.Endian.{little_bytes, little_number}
use Rattle.sm_types.specs.declared.numbers.Numbers.{Numbers}
use Rattle.sve_vectors.specs.Predicates.{predicate_bytes}
use Rattle.sve_vectors.specs.Registers.{VectorRegisters}
use Rattle.machine_step.specs.System.{nzcv_of, svcr_of}
use Rattle.kernel_contexts.specs.Handlers.{is_signal}
use Rattle.kernel_contexts.specs.State.{State}
use Rattle.kernel_contexts.specs.Watch.{AreOfSignals}
use Rattle.lone_runner.specs.Rest.{IsPartingFrom}
use Rattle.lone_runner.specs.declared.fault.AloneFault.{AloneFault}
use Rattle.lone_runner.proofs.Partings.{rest_ends_unless}
use Rattle.report_reader.specs.Report.{Report}
use Rattle.field_table.specs.Rows.{number, said}
use Rattle.field_table.specs.Table.{IsFilled}
use Rattle.ckpt_fields.specs.Rows.{checkpoint_table, counts, from_handlers, from_output, from_registers, from_system, from_thread}
use Rattle.ckpt_fields.specs.Rows.{first_rows, from_vectors, is_signal_past, options_rows}
use Rattle.ckpt_fields.specs.Values.{first_values, option_values, system_values}
use Rattle.ckpt_file.specs.Checkpoint.{array_values, checkpoint_values, register_values, state_values, vector_values, ReadsCheckpoint}
use Rattle.ckpt_file.proofs.Filled.{array_by, array_many, flags_low, handlers_left, modes_low, output_left, predicates_many, vectors_left}
use Rattle.ckpt_file.proofs.Filling.{each_of_all, fields_good}
use Rattle.ckpt_file.proofs.Parts.{first_good, handlers_good, system_good, thread_good, vectors_good, AreHandlersPast, IsNarrowEntry}
use Rattle.ckpt_file.proofs.Parts.{IsProgress}
use Rattle.smemu.specs.Resume.{rest_of, IsRestIn, RestEnds}

-- ---- handlers of signals alone

above : (last n : ℕ) → is_signal_past last n ≡ true → last < n
above last n e = grind (arith, nat_tests)

is_one : (last n : ℕ) → is_signal_past last n ≡ true → is_signal n ≡ true
is_one last n e = grind (arith, nat_tests)

not_found : (last k : ℕ) (es : List (ℕ × ℕ)) → AreHandlersPast last es → is_signal k ≡ false → find nat_cmp k es ≡ None
not_found last k [] h none = refl
not_found last k (e ∷ es) h none =
    let other : eq_by_cmp nat_cmp k e.0 ≡ false =
    false_from_ne_true (eq_by_cmp nat_cmp k e.0) (λ same.
    both_ways (is_signal k) none (ap is_signal (eq_by_cmp-true k e.0 same) ∙ is_one last e.0 h.0.0)) in
    ap (λ b. cond b (Some e.1) (find nat_cmp k es)) other ∙ not_found e.0 k es h.1 none

-- ---- the fields of a state

module _ (bytes : List ℕ) (report : Report) (s : State) (thread events : ℕ) (h : ReadsCheckpoint bytes report s thread events) where
  abbrev system_left : List (List ℕ)
  system_left =
      system_values (nzcv_of s.core.scalars) (svcr_of s.core) s.core.tpidr s.core.tpidr2 s.held s.mask s.polled ++ vectors_left s

  progress : IsProgress report thread s.count events s.depth s.turns × IsFilled (from_registers report) (state_values s)
  unfolding checkpoint_table checkpoint_values
  progress =
      thread_good report (from_registers report) thread s.count events s.depth s.turns (state_values s)
      (record {
        thread_fits = h.widths.thread;
        count_fits = h.widths.count;
        events_fits = h.widths.events;
        depth_fits = h.widths.depth;
        turns_fits = h.widths.turns;
      })
      (first_good report.image report.options (from_thread report) _ h.fields)

  system_filled : IsFilled (from_system report) system_left
  unfolding state_values
  system_filled =
      let many : length (register_values s.core.scalars) ≡ 33 =
      omega (arith, length-map s.core.scalars.x (little_bytes 8), h.widths.core.count) in
      fields_good 33 8 (from_system report) (register_values s.core.scalars) system_left many progress.1

  vectors_filled : IsFilled (from_vectors report (svcr_of s.core)) (vectors_left s)
  vectors_filled =
      (system_good report.options.kernel (from_vectors report) (nzcv_of s.core.scalars) (svcr_of s.core) s.core.tpidr s.core.tpidr2 s.held
      s.mask s.polled (vectors_left s)
      (record {
        nzcv_fits = flags_low s.core.scalars;
        svcr_fits = modes_low s.core.streaming s.core.za_on;
        tpidr_fits = h.widths.core.tpidr;
        tpidr2_fits = h.widths.core.tpidr2;
        held_fits = h.widths.held;
        mask_fits = h.widths.mask;
      }) system_filled).1

  handlers_filled : IsFilled from_handlers (handlers_left s)
  unfolding vector_values
  handlers_filled =
      let r : VectorRegisters = s.core.bank.registers in
      vectors_good report.options (svcr_of s.core) from_handlers r.vectors (map predicate_bytes r.predicates ++ predicate_bytes r.ffr ∷ [])
      (array_values s.core.za_on s.core.bank.za) (handlers_left s) h.widths.core.registers.vector_count
      (predicates_many _ r h.widths.core.registers)
      (array_many s.core.za_on (report.options.svl / 8) s.core.bank.za h.widths.array
      ∙ sym (array_by report.options s.core.streaming s.core.za_on)) vectors_filled

  of_signals : AreOfSignals s.handlers
  of_signals k none =
      let good =
      handlers_good from_output (entries s.handlers) (output_left s) h.widths.few_handlers
      (each_of_all IsNarrowEntry (entries s.handlers) h.widths.handlers) handlers_filled in
      get-entries s.handlers k ∙ not_found 0 k (entries s.handlers) good.1 none

  pub below_budget : s.count < report.options.budget
  below_budget =
      let less : nat_lt s.count report.options.budget ≡ true =
      and_second (nat_lt s.count (slice_index (counts report) thread)) (nat_lt s.count report.options.budget) progress.0.count_good in
      grind (arith, nat_tests)

  -- the budget is one of 32 bits, as its field says
  pub budget_kept : little_number 4 (little_bytes 4 report.options.budget) ≡ report.options.budget
  unfolding checkpoint_table first_rows options_rows checkpoint_values first_values option_values number said
  budget_kept = eqb-true _ _ h.fields.2.2.2.2.2.1

-- ---- the rest of the run

pub rest_ends : (file report checkpoint : List ℕ) (r : IsRestIn file report checkpoint)
    → ((fault : AloneFault) → ¬ IsPartingFrom r.at.config r.thread r.from r.used (rest_of r) r.at.block.count fault) → RestEnds r
rest_ends file report checkpoint r none =
    rest_ends_unless r.at.config r.thread r.from r.used (rest_of r) r.at.block.count
    (let below = below_budget checkpoint r.at.said r.from r.thread r.used r.reads in
    let same : r.at.config.budget ≡ r.at.said.options.budget = ap (λ (o : Numbers). o.budget) r.at.given in omega (arith, below, same))
    (of_signals checkpoint r.at.said r.from r.thread r.used r.reads) none
