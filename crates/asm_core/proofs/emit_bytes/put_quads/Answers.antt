use Rattle.std.proofs.Common.{◌≡◌, ◌+◌, ◌++◌, [], ◌∷◌, get_or, refl, take, map}
use Rattle.std.proofs.lemmas.List.{take_more}
use Rattle.asm_parser.specs.declared.line.Value.TheVariants as value
use Rattle.asm_parser.specs.Statements.{value_of}
use Rattle.asm_core.specs.Assembly.{quad_number}
use Rattle.asm_core.specs.Faults.{is_undefined}
use Rattle.asm_core.specs.Emitted.{names_by}
use Rattle.asm_core.proofs.Pieces.{numbers_more, none_more, mapped_more, mapped_at}
use Rattle.asm_core.proofs.emit_bytes.put_quads.Goals as goal

pub returns-in_default-clause-err : goal.returns-in_default-clause-err
returns-in_default-clause-err c = λ differs. (
  mapped_at (is_undefined (names_by c.args.addresses.now)) value_of c.args.values.now c.loop-value.value-index
      (value.Number 0) c.loop-value-test.true
      c.in_default.ensures,
  refl,
)

pub loop-value-preserved : goal.loop-value-preserved
loop-value-preserved c =
    let values = c.args.values.now in
    let i = c.loop-value.value-index in
    let x = get_or values i (value.Number 0) in
    let before = c.loop-value.invariant in
    let read = c.in-Some.ensures in
    let grown : take (i + 1) values ≡ take i values ++ x ∷ [] = take_more values i (value.Number 0) c.loop-value-test.true in
    let said = mapped_more value_of (take i values) (take (i + 1) values) x grown in
    record {
      defined =
          none_more (is_undefined (names_by c.args.addresses.now)) (map value_of (take i values)) (map value_of (take (i + 1) values))
          (value_of x)
          before.defined read.0
          said;
      bytes =
          numbers_more 8 c.args.bytes.now.items c.loop-value.bytes.items c.put_quad.new.bytes.items
          (map (quad_number c.args.addresses.now.text_size (names_by c.args.addresses.now)) (map value_of (take i values)))
          (map (quad_number c.args.addresses.now.text_size (names_by c.args.addresses.now)) (map value_of (take
          (i + 1) values))) c.in-Some.address before.bytes
          c.in_ok-put_quad.ensures.ok
          (rw read.1 (mapped_more (quad_number c.args.addresses.now.text_size (names_by c.args.addresses.now)) (map value_of
          (take i values))
          (map value_of (take (i + 1) values)) (value_of x) said));
    }
