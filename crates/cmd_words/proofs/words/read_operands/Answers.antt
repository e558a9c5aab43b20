use Rattle.std.proofs.Common.{◌≡◌, ◌+◌, map, Some, None, sym, ap, ◌∙◌, get_or}
use Rattle.std.proofs.lemmas.Option.{slice_get-get_or}
use Rattle.std.specs.Prelude.{slice_get}
use Rattle.std.specs.String.{string_bytes}
use Rattle.cmd_words.specs.Given.{form_said}
use Rattle.cmd_words.specs.Words.{operand_fault}
use Rattle.cmd_words.specs.declared.form.Operand.TheVariants.{Name}
use Rattle.cmd_words.proofs.Reading.{sound_first, operand_usage, operand_more}
use Rattle.cmd_words.proofs.words.read_operands.Goals as goal

pub loop-k-init : goal.loop-k-init
loop-k-init c = sound_first (map string_bytes c.args.words.now) (form_said c.args.form) c.requires

pub returns-in-Some-clause-err : goal.returns-in-Some-clause-err
returns-in-Some-clause-err c =
    let words = map string_bytes c.args.words.now in
    let operand = get_or c.args.form.operands.now c.loop-k.k Name in
    let fault : operand_fault operand (slice_get words (c.loop-k.k + 1)) ≡ Some c.in-Some.kind =
    ap (operand_fault operand) (sym c.word_at.ensures) ∙ sym c.operand_fault.ensures ∙ c.in-Some.is in
    rw c.usage.ensures (operand_usage words (form_said c.args.form) c.loop-k.k operand c.requires
    (slice_get-get_or c.args.form.operands.now c.loop-k.k Name c.loop-k-test.true) c.loop-k.invariant c.in-Some.kind fault)

pub loop-k-preserved : goal.loop-k-preserved
loop-k-preserved c =
    let words = map string_bytes c.args.words.now in
    let operand = get_or c.args.form.operands.now c.loop-k.k Name in
    let none : operand_fault operand (slice_get words (c.loop-k.k + 1)) ≡ None =
    ap (operand_fault operand) (sym c.word_at.ensures) ∙ sym c.operand_fault.ensures ∙ c.in_default.is in
    operand_more words (form_said c.args.form) c.loop-k.k operand c.requires
    (slice_get-get_or c.args.form.operands.now c.loop-k.k Name c.loop-k-test.true) c.loop-k.invariant none
