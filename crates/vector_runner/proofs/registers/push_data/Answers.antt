use Rattle.std.proofs.Common.{◌≡◌, ◌++◌, map, sym, ap, ◌∙◌, subst}
use Rattle.std.proofs.lemmas.List.{append-nil}
use Rattle.std.specs.Prelude.{OnOk}
use Rattle.vector_runner.specs.Answer.{bytes_field}
use Rattle.vector_runner.specs.Field.{M}
use Rattle.vector_runner.specs.Told.{field_told}
use Rattle.vector_runner.proofs.Numbered.{data_gone, data_there}
use Rattle.vector_runner.proofs.registers.push_data.Goals as goal

pub returns-in-Some : goal.returns-in-Some
returns-in-Some c =
    let m = c.args.pages.now.memory in
    let same = c.up_to_last.ensures ∙ sym (data_there m c.in-Some.data.now c.in-Some.ensures.there) in
    subst (λ bytes. OnOk c.push_bytes.result (map field_told c.push_bytes.new.fields.items
    ≡ map field_told c.args.fields.now.items ++ bytes_field M bytes)) same c.push_bytes.ensures

pub returns-in-None : goal.returns-in-None
returns-in-None c =
    let old = map field_told c.args.fields.now.items in
    sym (ap (λ l. old ++ l) (data_gone c.args.pages.now.memory c.in-None.ensures.gone) ∙ append-nil old)
