-- Where the file of a state that is read stands in a report.
use Rattle.std.proofs.Common.{◌≡◌, ℕ, ◌<◌, ◌≤◌, true, List, ◌++◌, sym, ◌∙◌, ap, arith}
use Rattle.std.specs.Prelude.{nat_le, nat_lt, slice_index}
use Rattle.std.proofs.lemmas.Bool.Decides.{nat_tests}
use Rattle.plain_lemmas.proofs.Tests.{and_first}
use Rattle.field_table.specs.Rows.{number, said}
use Rattle.field_table.specs.Table.{IsFilled}
use Rattle.kernel_contexts.specs.State.{State}
use Rattle.report_reader.specs.Report.{Report}
use Rattle.ckpt_fields.specs.Rows.{are_events, checkpoint_table, counts, first_rows, from_registers, is_count, journals, options_rows}
use Rattle.ckpt_fields.specs.Rows.{thread_rows}
use Rattle.ckpt_fields.specs.Values.{first_values, option_values, thread_values}
use Rattle.ckpt_file.specs.Beyond.{StandsInBlock}
use Rattle.ckpt_file.specs.Checkpoint.{checkpoint_values, state_values, ReadsCheckpoint}
use Rattle.ckpt_file.proofs.Filling.{back}

module _ (bytes : List ℕ) (it : Report) (s : State) (thread used : ℕ) (h : ReadsCheckpoint bytes it s thread used) where
  from_thread_on : IsFilled (thread_rows it (from_registers it)) (thread_values thread s.count used s.depth s.turns ++ state_values s)
  unfolding checkpoint_table first_rows options_rows checkpoint_values first_values option_values number said
  from_thread_on = h.fields.2.2.2.2.2.2.2.2

  thread_so : nat_lt thread it.options.threads ≡ true
  unfolding thread_rows thread_values number
  thread_so = sym (ap (λ n. nat_lt n it.options.threads) (back 4 thread h.widths.thread)) ∙ from_thread_on.1

  count_so : is_count (slice_index (counts it) thread) it.options.budget s.count ≡ true
  unfolding thread_rows thread_values number
  count_so =
      sym (λ i. is_count (slice_index (counts it) (back 4 thread h.widths.thread i)) it.options.budget (back 4 s.count h.widths.count i))
      ∙ from_thread_on.2.1

  events_so : are_events (slice_index (journals it) thread) used ≡ true
  unfolding thread_rows thread_values number
  events_so =
      sym (λ i. are_events (slice_index (journals it) (back 4 thread h.widths.thread i)) (back 4 used h.widths.events i))
      ∙ from_thread_on.2.2.1

  thread_below : thread < it.options.threads
  thread_below = let is = thread_so in grind (arith, nat_tests)

  count_below : s.count < slice_index (counts it) thread
  count_below =
      let is : nat_lt s.count (slice_index (counts it) thread) ≡ true =
      and_first (nat_lt s.count (slice_index (counts it) thread)) (nat_lt s.count it.options.budget) count_so in
      grind (arith, nat_tests)

  events_within : used ≤ slice_index (journals it) thread
  events_within =
      let is : nat_le used (slice_index (journals it) thread) ≡ true =
      and_first (nat_le used (slice_index (journals it) thread)) (nat_le used 262144) events_so in
      grind (arith, nat_tests)

  pub stands_in_block : StandsInBlock it s thread used
  stands_in_block = record { thread = thread_below; count = count_below; events = events_within }
