-- The symbols of a source's object say of each byte of its text whether an instruction put it.
use Rattle.std.proofs.Common.{ℕ, ◌+◌, ◌<◌, List, None, refl, ap, ◌∙◌, subst, arith}
use Rattle.std.specs.List.{filter_map}
use Rattle.sm_types.specs.declared.object.Object.{Object}
use Rattle.sm_types.specs.Objects.{text_address, text_content, is_text_code, governing_mapping, mapping_says, is_code}
use Rattle.asm_core.specs.Assembly.{Assembles}
use Rattle.asm_core.specs.Faults.{text_length_of}
use Rattle.asm_core.specs.Layout.{first_counter, counter_past}
use Rattle.asm_core.specs.Mapped.{MapsCode}
use Rattle.asm_core.specs.Source.{lines_of, said_lines}
use Rattle.asm_core.proofs.MappingSymbols.{mappings_said, line_mappings_said, told}

pub mapped_object : (source : List ℕ) (object : Object) → Assembles source object → MapsCode source object
unfolding is_text_code text_content
mapped_object source object h = λ offset l.
    let lines = said_lines (lines_of source) in
    let is = h.object_is in
    let inside : offset < (counter_past first_counter lines).text_size = subst (λ m. offset < m) is.text_size l in
    let t = told lines first_counter None None offset refl (omega arith) inside in
    let mappings =
    mappings_said object.symbols.items ∙ ap (filter_map _) is.symbols
    ∙ line_mappings_said (text_length_of lines) first_counter None lines in
    record {
      line = t.put.line;
      put = record { number = t.put.k; listed = t.put.listed; in_text = t.put.in_text; from = t.put.from; to = t.put.to };
      code = ap (λ ms. is_code (mapping_says (governing_mapping (text_address + offset) None ms))) mappings ∙ t.kind;
    }
