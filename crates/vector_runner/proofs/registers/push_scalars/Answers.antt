use Rattle.std.proofs.Common.{◌++◌, List, map}
use Rattle.vector_runner.specs.Answer.{flags_field, modes_field, number_field}
use Rattle.vector_runner.specs.Field.{Field, Sp, Tpidr, Tpidr2}
use Rattle.vector_runner.specs.Told.{field_told}
use Rattle.vector_runner.proofs.Numbered.{behind_both}
use Rattle.vector_runner.proofs.registers.push_scalars.Goals as goal

pub returns : goal.returns
returns c =
    let s = c.args.machine.now in
    let first : List Field = map field_told c.args.fields.now.items in
    let with_sp : List Field = map field_told c.push_number.new.fields.items in
    let with_flags : List Field = map field_told c.push_flags.new.fields.items in
    let with_tpidr : List Field = map field_told c.push_number-2.new.fields.items in
    let with_tpidr2 : List Field = map field_told c.push_number-3.new.fields.items in
    let all : List Field = map field_told c.push_modes.new.fields.items in
    let sp : List Field = number_field Sp s.scalars.sp in
    let flags : List Field = flags_field s.scalars in
    let tpidr : List Field = number_field Tpidr s.tpidr in
    let tpidr2 : List Field = number_field Tpidr2 s.tpidr2 in
    let modes : List Field = modes_field s.streaming s.za_on in
    behind_both first with_sp sp (flags ++ (tpidr ++ (tpidr2 ++ modes))) all c.in_ok-push_number.ensures
    (behind_both with_sp with_flags flags (tpidr ++ (tpidr2 ++ modes)) all c.in_ok-push_flags.ensures
    (behind_both with_flags with_tpidr tpidr (tpidr2 ++ modes) all c.in_ok-push_number-2.ensures
    (behind_both with_tpidr with_tpidr2 tpidr2 modes all c.in_ok-push_number-3.ensures c.in_ok-push_modes.ensures)))
