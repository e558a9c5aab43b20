use Rattle.std.proofs.Common.{◌∙◌, ap, refl}
use Rattle.std.specs.Prelude.{decimal}
use Rattle.kernel_contexts.specs.Loose.{loose_state}
use Rattle.machine_step.specs.declared.machine.Machine.{Machine}
use Rattle.text_lines.specs.Lines.{hex64}
use Rattle.edge_io.proofs.Gathering.{as_text, and_then, and_stop, and_end}
use Rattle.sme_debugger.specs.Texts.{listed_word}
use Rattle.sme_debugger.proofs.Lines.{place_first}
use Rattle.sme_debugger.proofs.texts.put_place_line.Goals as goal

pub returns-in_err-put_all : goal.returns-in_err-put_all
returns-in_err-put_all g c =
    let s = loose_state c.args.loose.now in
    let counts = c.as_bytes-count.ensures.value ∙ c.format.ensures.text ∙ ap decimal c.count.ensures in
    let there = c.hex64_digits-digits.ensures ∙ ap (λ (m : Machine). hex64 m.scalars.pc) c.machine-machine.ensures in
    as_text (place_first s c.as_bytes-count.result.now c.hex64_digits-digits.result _ counts there refl)
    (and_stop _ c.in_err-put_all.ensures c.from_residual.ensures.0)

pub returns-in_err-put_insn : goal.returns-in_err-put_insn
returns-in_err-put_insn g c =
    let s = loose_state c.args.loose.now in
    let counts = c.as_bytes-count.ensures.value ∙ c.format.ensures.text ∙ ap decimal c.count.ensures in
    let there = c.hex64_digits-digits.ensures ∙ ap (λ (m : Machine). hex64 m.scalars.pc) c.machine-machine.ensures in
    let listed = c.listed_word.ensures ∙ ap (λ (m : Machine). listed_word m.pages.memory m.scalars.pc) c.machine-machine.ensures in
    as_text (place_first s c.as_bytes-count.result.now c.hex64_digits-digits.result c.listed_word.result counts there listed)
    (and_then c.in_ok-put_all.ensures (and_stop _ c.in_err-put_insn.ensures c.from_residual-in_err-put_insn.ensures.0))

pub returns : goal.returns
returns g c =
    let s = loose_state c.args.loose.now in
    let counts = c.as_bytes-count.ensures.value ∙ c.format.ensures.text ∙ ap decimal c.count.ensures in
    let there = c.hex64_digits-digits.ensures ∙ ap (λ (m : Machine). hex64 m.scalars.pc) c.machine-machine.ensures in
    let listed = c.listed_word.ensures ∙ ap (λ (m : Machine). listed_word m.pages.memory m.scalars.pc) c.machine-machine.ensures in
    as_text (place_first s c.as_bytes-count.result.now c.hex64_digits-digits.result c.listed_word.result counts there listed)
    (and_then c.in_ok-put_all.ensures (and_then c.in_ok-put_insn.ensures (and_end c.put.ensures)))
