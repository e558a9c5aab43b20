use Rattle.std.proofs.Common.{◌≡◌, ℕ, ◌*◌, ◌/◌, ◌++◌, ◌∷◌, [], List, length, map, take, drop, ap, ◌∙◌, arith}
use Rattle.std.specs.Prelude.{slice_index}
use Rattle.std.proofs.lemmas.List.{length-map, length-drop}
use Rattle.sm_types.specs.Options.{numbers_of}
use Rattle.sm_types.specs.declared.numbers.Numbers.{Numbers}
use Rattle.field_table.specs.Rows.{rows}
use Rattle.kernel_contexts.specs.LooseState.{handler_entry}
use Rattle.ckpt_fields.specs.Rows.{length_for, array_size}
use Rattle.ckpt_fields.specs.Values.{doublewords, first_values, thread_values, system_values, handler_values, output_values, page_values}
use Rattle.ckpt_fields.specs.Values.{page_said, handler_said, fields_said, vectors_said}
use Rattle.ckpt_file.specs.Loose.{loose_values}
use Rattle.ckpt_file.proofs.Registers.{three_parts, rows_split, regrouped}
use Rattle.ckpt_file.proofs.read.state_of.Goals as goal

pub returns-clause-sizes : goal.returns-clause-sizes
returns-clause-sizes c =
    let f = c.args.fields in
    let q : ℕ = length_for (numbers_of c.args.config.now) f.system.svcr / 8 in
    let same : length (map handler_entry c.in_ok-handlers_of.field-0.items) ≡ length (map handler_said f.handlers.items) =
    ap length c.in_ok-handlers_of.ensures.same ∙ ap (λ l. length (map handler_said l)) c.as_slice.ensures.value in
    record {
      registers = ap length c.general_of.ensures.value ∙ length-drop 2 c.registers_of-registers.result
          ∙ omega (arith, c.general_of.ensures.count);
      vectors = ap length c.in_ok-from_slice.ensures.items ∙ c.requires.vectors.z;
      predicates =
          let size : length c.in_ok-from_slice-2.field-0.items ≡ length f.vectors.predicates.now / 17 * 16 =
          ap length c.in_ok-from_slice-2.ensures.items ∙ c.split_at.ensures.front_len in
          omega (arith, size, c.requires.vectors.predicates);
      first_fault =
          let size : length c.in_ok-from_slice-3.field-0.items ≡ length c.split_at.result.1.now =
          ap length c.in_ok-from_slice-3.ensures.items in
          omega (arith, size, c.split_at.ensures.back_len, c.requires.vectors.predicates);
      array = ap length c.in_ok-from_slice-4.ensures.items ∙ c.requires.vectors.za;
      handlers = c.in_ok-handlers_of.ensures.narrow;
      few_handlers =
          omega (
            arith,
            same,
            length-map c.in_ok-handlers_of.field-0.items handler_entry,
            length-map f.handlers.items handler_said,
            c.requires.few_handlers,
          );
      few_bytes = let size = ap length c.in_ok-from_slice-5.ensures.items in omega (arith, size, c.requires.few_bytes);
      pages = c.requires.pages;
      few_pages = c.requires.few_pages;
    }

pub returns-clause-values : goal.returns-clause-values
unfolding loose_values fields_said vectors_said
returns-clause-values c = λ digest.
    let f = c.args.fields in
    let o : Numbers = numbers_of c.args.config.now in
    let long : ℕ = length_for o f.system.svcr in
    let q : ℕ = long / 8 in
    let n : ℕ = array_size o f.system.svcr in
    let preds : List ℕ = f.vectors.predicates.now in
    let middle : length preds / 17 * 16 ≡ 16 * q = omega (arith, c.requires.vectors.predicates) in
    let registers : doublewords (slice_index c.registers_of-registers.result 0 ∷ slice_index c.registers_of-registers.result 1
    ∷ c.general_of.result) ≡ rows 33 8 f.registers.now =
    ap doublewords ((λ i. slice_index c.registers_of-registers.result 0 ∷ slice_index c.registers_of-registers.result 1
    ∷ c.general_of.ensures.value i)
    ∙ three_parts c.registers_of-registers.result (omega (arith, c.general_of.ensures.count))) ∙ c.registers_of-registers.ensures in
    let p : c.in_ok-from_slice-2.field-0.items ≡ take (16 * q) preds =
    c.in_ok-from_slice-2.ensures.items ∙ c.split_at.ensures.front ∙ ap (λ k. take k preds) middle in
    let ffr : c.in_ok-from_slice-3.field-0.items ≡ drop (16 * q) preds =
    c.in_ok-from_slice-3.ensures.items ∙ c.split_at.ensures.back ∙ ap (λ k. drop k preds) middle in
    let predicates : rows 16 q c.in_ok-from_slice-2.field-0.items ++ c.in_ok-from_slice-3.field-0.items ∷ [] ≡ rows 17 q preds =
    (λ i. rows 16 q (p i) ++ ffr i ∷ []) ∙ rows_split 16 q preds c.requires.vectors.predicates in
    let handlers : map handler_entry c.in_ok-handlers_of.field-0.items ≡ map handler_said f.handlers.items =
    c.in_ok-handlers_of.ensures.same ∙ ap (map handler_said) c.as_slice.ensures.value in
    let first = first_values digest o in
    let thread = thread_values f.progress.thread f.progress.count f.progress.events f.progress.depth f.progress.turns in
    let system = system_values f.system.nzcv f.system.svcr f.system.tpidr f.system.tpidr2 f.system.held f.system.mask f.system.polled in
    let pages = page_values (map page_said f.pages.items) in
    let rest = handler_values (map handler_said f.handlers.items) ++ (output_values f.output.now ++ pages) in
    (λ i. first ++ (thread ++ (registers i ++ (system
    ++ ((rows 32 long (c.in_ok-from_slice.ensures.items i) ++ predicates i)
    ++ (rows n (o.svl / 8) (c.in_ok-from_slice-4.ensures.items i)
    ++ (handler_values (handlers i) ++ (output_values (c.in_ok-from_slice-5.ensures.items i) ++ pages))))))))
    ∙ ap (λ l. first ++ (thread ++ (rows 33 8 f.registers.now ++ (system ++ l))))
    (regrouped (rows 32 long f.vectors.z.now) (rows 17 q preds) (rows n (o.svl / 8) f.vectors.za.now) rest)
