-- A checkpoint that a report reads has few bytes, so it is accepted as one.
use Rattle.std.proofs.Common.{◌≡◌, ℕ, zero, suc, ◌+◌, ◌*◌, ◌/◌, ◌≤◌, ◌++◌, Bool, true, false, cond, List, [], ◌∷◌, length, None}
use Rattle.std.proofs.Common.{ap, ◌∙◌}
use Rattle.std.proofs.Common.{arith, length-append}
use Rattle.std.specs.Prelude.{◌==◌, ◌%◌, nat_le, nat_lt, option_map, Some}
use Rattle.std.specs.List.{concat}
use Rattle.std.proofs.lemmas.Bool.{cond_both, leb-true}
use Rattle.std.proofs.lemmas.Bool.Decides.{nat_tests}
use Rattle.std.proofs.Math.Nat.{suc-mul}
use Rattle.sm_types.specs.Length.{bits_of}
use Rattle.sm_types.specs.declared.length.VecLen.{VecLen}
use Rattle.sm_types.specs.declared.length.VecLen.TheVariants.{Bits128, Bits256, Bits512, Bits1024, Bits2048}
use Rattle.field_table.specs.Rows.{fields, number, repeated, said}
use Rattle.field_table.specs.Table.{End, Field, IsFilled, Table}
use Rattle.field_table.proofs.Tables.{filled_reads}
use Rattle.report_reader.specs.Report.{Report}
use Rattle.kernel_contexts.specs.State.{State}
use Rattle.ckpt_fields.specs.Rows.{array_size, bad_field, checkpoint_fault, checkpoint_table, first_rows, from_handlers, from_output}
use Rattle.ckpt_fields.specs.Rows.{from_system, from_thread, from_vectors, handler_row, handlers_of, length_for, options_rows, output_rows}
use Rattle.ckpt_fields.specs.Rows.{page_row, pages_of, system_rows, thread_rows, vector_rows}
use Rattle.ckpt_fields.specs.Rows as ckpt
use Rattle.ckpt_file.specs.Checkpoint.{checkpoint, checkpoint_values, ReadsCheckpoint}

-- ---- what fills a table has so many bytes at most

record AtMost (n : ℕ) (table : Table) : Type 0 where
  few : (values : List (List ℕ)) → IsFilled table values → length (concat values) ≤ n

weaker : (m n : ℕ) (table : Table) → m ≤ n → AtMost m table → AtMost n table
weaker m n table l h = record { few = λ values filled. let here = h.few values filled in omega (arith, l, here) }

end_few : (values : List (List ℕ)) → IsFilled End values → length (concat values) ≤ 0
end_few [] h = omega arith
end_few (value ∷ values) h = absurd h

end_most : AtMost 0 End
end_most = record { few = end_few }

module _ (n most limit : ℕ) (is_right : List ℕ → Bool) (next : List ℕ → Table) (l : n ≤ most)
    (rest : (value : List ℕ) → is_right value ≡ true → AtMost limit (next value))
  where
    field_few : (values : List (List ℕ)) → IsFilled (Field n is_right next) values → length (concat values) ≤ most + limit
    field_few [] h = absurd h
    field_few (value ∷ values) h =
        let all : length (value ++ concat values) ≡ length value + length (concat values) = length-append value (concat values) in
        let more = (rest value h.1).few values h.2 in
        let long : length value ≡ n = h.0 in
        omega (arith, all, more, long, l)

    field_most : AtMost (most + limit) (Field n is_right next)
    field_most = record { few = field_few }

number_most : (n limit : ℕ) (holds : ℕ → Bool) (next : ℕ → Table) → ((k : ℕ) → holds k ≡ true → AtMost limit (next k))
    → AtMost (n + limit) (number n holds next)
unfolding number
number_most n limit holds next rest = field_most n n limit _ _ (omega arith) (λ value right. rest _ right)

said_most : (bytes : List ℕ) (most limit : ℕ) (next : Table) → length bytes ≤ most → AtMost limit next
    → AtMost (most + limit) (said bytes next)
unfolding said
said_most bytes most limit next l rest = field_most (length bytes) most limit _ _ l (λ value right. rest)

fields_most : (count n most limit : ℕ) (next : Table) → n ≤ most → AtMost limit next → AtMost (count * most + limit) (fields count n next)
unfolding fields
fields_most zero n most limit next l rest = weaker limit (0 * most + limit) next (omega arith) rest
fields_most (suc count) n most limit next l rest =
    let longer = suc-mul count most in
    weaker (most + (count * most + limit)) (suc count * most + limit) _ (omega (arith, longer))
    (field_most n most (count * most + limit) _ _ l (λ value right. fields_most count n most limit next l rest))

module _ (item : ℕ → (ℕ → Table) → Table) (size : ℕ)
    (one : (limit key : ℕ) (follows : ℕ → Table) → ((k : ℕ) → AtMost limit (follows k)) → AtMost (size + limit) (item key follows))
  where
    repeated_most : (count limit key : ℕ) (next : Table) → AtMost limit next → AtMost (count * size + limit) (repeated item count key next)
    unfolding repeated
    repeated_most zero limit key next rest = weaker limit (0 * size + limit) next (omega arith) rest
    repeated_most (suc count) limit key next rest =
        let longer = suc-mul count size in
        weaker (size + (count * size + limit)) (suc count * size + limit) _ (omega (arith, longer))
        (one (count * size + limit) key (λ k. repeated item count k next) (λ k. repeated_most count limit k next rest))

-- ---- the table of a checkpoint

page_most : (limit key : ℕ) (follows : ℕ → Table) → ((k : ℕ) → AtMost limit (follows k)) → AtMost (4105 + limit) (page_row key follows)
unfolding page_row
page_most limit key follows rest =
    weaker (8 + (1 + (1 * 4096 + limit))) (4105 + limit) _ (omega arith)
    (number_most 8 (1 + (1 * 4096 + limit)) _ _ (λ a ok. number_most 1 (1 * 4096 + limit) _ _ (λ flags right.
    fields_most 1 4096 4096 limit (follows (a + 1)) (omega arith) (rest (a + 1)))))

pages_most : AtMost 16814084 pages_of
unfolding pages_of
pages_most =
    number_most 4 16814080 _ _ (λ n ok.
    let most : n ≤ 4096 = leb-true n 4096 ok in
    weaker (n * 4105 + 0) 16814080 _ (omega (arith, most)) (repeated_most page_row 4105 page_most n 0 0 End end_most))

output_most : AtMost 17862664 from_output
unfolding output_rows
output_most =
    number_most 4 17862660 _ _ (λ n ok.
    let most : n ≤ 1048576 = leb-true n 1048576 ok in
    weaker (1 * 1048576 + 16814084) 17862660 _ (omega arith) (fields_most 1 n 1048576 16814084 pages_of most pages_most))

handler_most : (limit key : ℕ) (follows : ℕ → Table) → ((k : ℕ) → AtMost limit (follows k)) → AtMost (12 + limit) (handler_row key follows)
unfolding handler_row
handler_most limit key follows rest =
    weaker (4 + (8 + limit)) (12 + limit) _ (omega arith)
    (number_most 4 (8 + limit) _ _ (λ signal ok. number_most 8 limit _ _ (λ address right. rest signal)))

handlers_most : AtMost 17863412 from_handlers
unfolding handlers_of
handlers_most =
    number_most 4 17863408 _ _ (λ n ok.
    let most : n ≤ 62 = leb-true n 62 ok in
    weaker (n * 12 + 17862664) 17863408 _ (omega (arith, most))
    (repeated_most handler_row 12 handler_most n 17862664 0 from_output output_most))

module _ (report : Report) (vl : report.options.vl / 8 ≤ 256) (svl : report.options.svl / 8 ≤ 256) (digest : length report.image ≤ 32) where
  short_vectors : (svcr : ℕ) → length_for report.options svcr ≤ 256
  short_vectors svcr = cond_both (svcr % 2 == 1) _ _ (λ n. n ≤ 256) (λ _. svl) (λ _. vl)

  short_array : (svcr : ℕ) → array_size report.options svcr ≤ 256
  short_array svcr = cond_both (nat_le 2 svcr) _ _ (λ n. n ≤ 256) (λ _. svl) (λ _. omega arith)

  vectors_most : (svcr : ℕ) → AtMost 17937684 (from_vectors report svcr)
  unfolding vector_rows
  vectors_most svcr =
      let long = short_vectors svcr in
      let wide = short_array svcr in
      weaker (32 * 256 + (17 * 32 + (array_size report.options svcr * 256 + 17863412))) 17937684 _ (omega (arith, wide))
      (fields_most 32 (length_for report.options svcr) 256 (17 * 32 + (array_size report.options svcr * 256 + 17863412)) _ long
      (fields_most 17 (length_for report.options svcr / 8) 32 (array_size report.options svcr * 256 + 17863412) _ (omega (arith, long))
      (fields_most (array_size report.options svcr) (report.options.svl / 8) 256 17863412 from_handlers svl handlers_most)))

  system_most : AtMost 17937740 (from_system report)
  unfolding system_rows
  system_most =
      number_most 8 17937732 _ _ (λ nzcv a. number_most 8 17937724 _ _ (λ svcr b. number_most 8 17937716 _ _ (λ tpidr c.
      number_most 8 17937708 _ _ (λ tpidr2 d. number_most 8 17937700 _ _ (λ held e. number_most 8 17937692 _ _ (λ mask f.
      number_most 8 17937684 _ _ (λ polled g. vectors_most svcr)))))))

  thread_most : AtMost 17938028 (from_thread report)
  unfolding thread_rows
  thread_most =
      number_most 4 17938024 _ _ (λ thread a. number_most 4 17938020 _ _ (λ count b. number_most 4 17938016 _ _ (λ events c.
      number_most 4 17938012 _ _ (λ depth d. number_most 8 17938004 _ _ (λ turns e.
      fields_most 33 8 8 17937740 (from_system report) (omega arith) system_most)))))

  table_most : AtMost 17938092 (checkpoint_table report)
  unfolding checkpoint_table first_rows options_rows
  table_most =
      said_most _ 8 17938084 _ (omega arith) (said_most report.image 32 17938052 _ digest (
      number_most 4 17938048 _ _ (λ vl a. number_most 4 17938044 _ _ (λ svl b. number_most 4 17938040 _ _ (λ slice c.
      number_most 4 17938036 _ _ (λ budget d. number_most 4 17938032 _ _ (λ threads e. number_most 4 17938028 _ _ (λ kernel f.
      thread_most))))))))

  not_long : (n : ℕ) → n ≤ 17938092 → nat_lt 67108864 n ≡ false
  not_long n l = grind (arith, nat_tests)

  pub read_accepted : (bytes : List ℕ) (s : State) (thread events : ℕ) → ReadsCheckpoint bytes report s thread events
      → checkpoint_fault report bytes ≡ None
  unfolding checkpoint checkpoint_fault
  read_accepted bytes s thread events h =
      let most : length (concat (checkpoint_values report.image report.options s thread events)) ≤ 17938092 =
      table_most.few (checkpoint_values report.image report.options s thread events) h.fields in
      let whole : length bytes ≡ length (concat (checkpoint_values report.image report.options s thread events)) = ap length h.file in
      let good : bad_field report bytes ≡ None =
      ap (λ b. bad_field report b) h.file
      ∙ filled_reads (checkpoint_table report) (checkpoint_values report.image report.options s thread events) 0 h.fields in
      ap (λ b. cond b (Some ckpt.TooLong) (option_map ckpt.Field (bad_field report bytes)))
      (not_long (length bytes) (omega (arith, most, whole)))
      ∙ ap (option_map ckpt.Field) good

-- ---- the report of a program, with its options

pub short_length : (v : VecLen) → bits_of v / 8 ≤ 256
short_length Bits128 = omega arith
short_length Bits256 = omega arith
short_length Bits512 = omega arith
short_length Bits1024 = omega arith
short_length Bits2048 = omega arith
