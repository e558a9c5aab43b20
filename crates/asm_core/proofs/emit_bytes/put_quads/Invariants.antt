use Rattle.std.proofs.Common.{◌≡◌, ◌++◌, take, map, false}
use Rattle.std.specs.List.{list_any}
use Rattle.asm_parser.specs.Statements.{value_of}
use Rattle.asm_core.specs.Faults.{is_undefined}
use Rattle.asm_core.specs.Assembly.{numbers_bytes, quad_number}
use Rattle.asm_core.specs.Emitted.{names_by}
use Rattle.asm_core.proofs.emit_bytes.put_quads.Given as goal

abbrev pub invariant-loop-value : goal.invariant-loop-value
invariant-loop-value l = record {
  defined : list_any (is_undefined (names_by l.addresses)) (map value_of (take l.value-index l.values)) ≡ false;
  bytes : l.bytes.items ≡ l.initial.bytes.items
      ++ numbers_bytes 8 (map (quad_number l.addresses.text_size (names_by l.addresses)) (map value_of (take l.value-index l.values)));
}
