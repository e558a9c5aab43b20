-- What a reader finds in the file of an object.
use Rattle.std.proofs.Common.{◌≡◌, ◌≤◌, length, None, refl, arith}
use Rattle.sm_types.specs.declared.object.Object.{Object}
use Rattle.sm_types.specs.Objects.{object_code, IsStartable}
use Rattle.elf_headers.specs.Header.{header_entry}
use Rattle.elf_headers.specs.Loads.{extents_of, headers_fault}
use Rattle.elf_sections.specs.Sections.{sections_fault}
use Rattle.elf_sections.specs.Code.{code_words}
use Rattle.elf_writer.specs.TextMappings.{text_mappings}
use Rattle.elf_writer.specs.File.{layout_of, file_of}
use Rattle.elf_writer.proofs.Governing.{few_mappings}
use Rattle.elf_writer.proofs.SaidCode.{low_mappings}
use Rattle.elf_writer.proofs.Reading.{IsFile, reads}
use Rattle.elf_writer.proofs.Headers.{entry-is}
use Rattle.elf_writer.proofs.Images.{images, extents_of-is}
use Rattle.elf_writer.proofs.HeadersPass.{headers_pass}
use Rattle.elf_writer.proofs.SectionsPass.{sections_pass}
use Rattle.elf_writer.proofs.CodeWords.{code_words-are}

-- the object can start, and each of its parts has at most 4 MiB
pub record IsSmallObject (o : Object) : Type 0 where
  pub startable : IsStartable o
  pub text_size : length o.text_bytes.items ≤ 4194304
  pub data_size : length o.data_bytes.items ≤ 4194304

is_file : (o : Object) → IsSmallObject o
    → IsFile (file_of o) (layout_of o (text_mappings o)) o.text_bytes.items o.data_bytes.items (text_mappings o)
unfolding file_of layout_of
is_file o s = record {
  whole = refl;
  text_size = refl;
  data_size = refl;
  count = refl;
  small =
      record {
        text = s.text_size;
        data_bytes = s.data_size;
        symbols = omega (arith, few_mappings o, s.text_size);
        entry = omega (arith, s.startable.before, s.text_size);
      };
  aligned = s.startable.aligned;
  from = s.startable.from;
  before = s.startable.before;
  addresses = low_mappings o s.text_size;
}

pub headers-written : (o : Object) → IsSmallObject o → headers_fault (file_of o) ≡ None
headers-written o s =
    headers_pass (file_of o) (layout_of o (text_mappings o)) o.text_bytes.items o.data_bytes.items (text_mappings o) (is_file o s)

pub sections-written : (o : Object) → IsSmallObject o → sections_fault (file_of o) ≡ None
sections-written o s =
    sections_pass (file_of o) (layout_of o (text_mappings o)) o.text_bytes.items o.data_bytes.items (text_mappings o) (is_file o s)

pub entry-written : (o : Object) → IsSmallObject o → header_entry (file_of o) ≡ o.entry
unfolding layout_of
entry-written o s =
    entry-is (file_of o) (layout_of o (text_mappings o)) (is_file o s).small
    (reads (file_of o) (layout_of o (text_mappings o)) o.text_bytes.items o.data_bytes.items (text_mappings o) (is_file o s))

pub extents-written : (o : Object) → IsSmallObject o → extents_of (file_of o) ≡ images o.text_bytes.items o.data_bytes.items
unfolding layout_of
extents-written o s =
    extents_of-is (file_of o) (layout_of o (text_mappings o)) o.text_bytes.items o.data_bytes.items (text_mappings o) (is_file o s)
    (omega (arith, s.startable.from, s.startable.before))

pub code-written : (o : Object) → IsSmallObject o → code_words (file_of o) ≡ object_code o
code-written o s = code_words-are o (file_of o) (layout_of o (text_mappings o)) (is_file o s)
