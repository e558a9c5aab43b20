use Rattle.std.proofs.Common.{◌≡◌, ◌/◌, List, [], Option, length, vec_len, ap, ◌∙◌, arith}
use Rattle.sm_types.specs.Objects.{mappings_of}
use Rattle.elf_headers.specs.Below.{answers_below}
use Rattle.elf_writer.specs.declared.mapping_symbols.TextMapping.{TextMapping}
use Rattle.elf_writer.specs.TextMappings.{text_mapping_at, text_mappings}
use Rattle.elf_writer.specs.Slots.{slots_say, AreSlots}
use Rattle.elf_writer.proofs.Appending.{if_ok-more}
use Rattle.elf_writer.proofs.Governing.{mappings_listed, few_mappings}
use Rattle.elf_writer.proofs.mapping_symbols.text_mappings.Goals as goal

pub returns-clause-mappings : goal.returns-clause-mappings
returns-clause-mappings c =
    let size : vec_len c.args.object.now.text_bytes ≡ length c.args.object.now.text_bytes.items = omega arith in
    let count : length c.in_ok-slots.slots.items ≡ length c.args.object.now.text_bytes.items / 4 =
    c.in_ok-slots.ensures.count ∙ ap (λ n. n / 4) (c.len-count.ensures ∙ size) in
    let slots : AreSlots c.in_ok-slots.slots.items [] (mappings_of c.args.object.now.symbols.items) =
    rw c.as_slice.ensures.value at c.in_ok-slots.ensures.slots in
    let all : answers_below (text_mapping_at (slots_say c.as_slice-2.result.now)) (length c.as_slice-2.result.now)
    ≡ text_mappings c.args.object.now =
    ap (λ (s : List (Option TextMapping)). answers_below (text_mapping_at (slots_say s)) (length s)) c.as_slice-2.ensures.value
    ∙ mappings_listed c.args.object.now c.in_ok-slots.slots.items count slots in
    if_ok-more _ _ c.list_mappings.result (λ v h. h ∙ all) c.list_mappings.ensures

pub returns-clause-few : goal.returns-clause-few
returns-clause-few c =
    if_ok-more _ _ c.list_mappings.result (λ v h. rw h (omega (arith, few_mappings c.args.object.now, c.requires)))
    (returns-clause-mappings c)
