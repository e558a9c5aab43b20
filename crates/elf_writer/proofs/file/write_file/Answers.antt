use Rattle.std.proofs.Common.{◌≡◌, ◌+◌, ℕ, suc, List, length, ap, ◌∙◌, arith}
use Rattle.sm_types.specs.declared.object.Object.{Object}
use Rattle.elf_writer.specs.declared.mapping_symbols.TextMapping.{TextMapping}
use Rattle.elf_writer.specs.TextMappings.{text_mappings}
use Rattle.elf_writer.specs.File.{file_bytes, layout_of, file_of}
use Rattle.elf_writer.proofs.file.write_file.Goals as goal

is_file : (o : Object) (text_size data_size count : ℕ) (mappings slice : List TextMapping) → text_size ≡ length o.text_bytes.items
    → data_size ≡ length o.data_bytes.items → count ≡ length mappings → mappings ≡ text_mappings o → slice ≡ mappings
    → file_bytes (record { entry = o.entry; text_size = text_size; data_size = data_size; symbol_count = count + 1 }) o.text_bytes.items
    o.data_bytes.items slice ≡ file_of o
unfolding file_of layout_of
is_file o text_size data_size count mappings slice t d n m s =
    let number : count + 1 ≡ suc (length (text_mappings o)) = omega (arith, n, ap length m) in
    λ i. file_bytes (record { entry = o.entry; text_size = t i; data_size = d i; symbol_count = number i }) o.text_bytes.items
    o.data_bytes.items ((s ∙ m) i)

pub returns : goal.returns
returns c =
    rw c.in_ok-out.ensures.items at c.in_ok-put_file.ensures
    ∙ is_file c.args.object.now c.len.result c.len-2.result c.len-3.result c.in_ok-mappings.mappings.items c.as_slice.result.now
    (omega arith)
    (omega arith) (omega arith) c.in_ok-mappings.ensures.mappings c.as_slice.ensures.value
