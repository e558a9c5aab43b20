-- The mapping symbols that are written of an object's text: as few as say which of its words are code.
-- Source: ELF for the Arm 64-bit Architecture (AArch64), mapping symbols `$x` and `$d`.
use Rattle.std.specs.Prelude.{ℕ, zero, suc, ◌+◌, ◌*◌, ◌/◌, cond, List, length, Option, Some}
use Rattle.std.specs.Prelude.{None}
use Rattle.sm_types.specs.declared.object.Content.{Content}
use Rattle.sm_types.specs.declared.object.Object.{Object}
use Rattle.sm_types.specs.Objects.{text_address, mappings_of, text_content, is_same}
use Rattle.elf_headers.specs.Below.{answers_below}
use Rattle.elf_writer.specs.declared.mapping_symbols.TextMapping.{TextMapping}

-- the address of word number n of the text
abbrev pub word_address : ℕ → ℕ
word_address n = text_address + 4 * n

-- what word number n of the text begins with
unfoldable pub word_content : Object → ℕ → Content
word_content o n = text_content (mappings_of o.symbols.items) (word_address n)

-- what was said before word number n
abbrev pub said_before : (ℕ → Content) → ℕ → Option Content
said_before says zero = None
said_before says (suc n) = Some (says n)

-- the mapping symbol of word number n: one is written unless the same was said before
unfoldable pub text_mapping_at : (ℕ → Content) → ℕ → Option TextMapping
text_mapping_at says n =
    cond (is_same (said_before says n) (says n)) None
    (Some (record { address = word_address n; content = says n }))

-- the mapping symbols that are written of an object
unfoldable pub text_mappings : Object → List TextMapping
text_mappings o = answers_below (text_mapping_at (word_content o)) (length o.text_bytes.items / 4)
