use Rattle.std.proofs.Common.{rules, ◌≡◌, ◌≢◌, None, sym, ap, ◌∙◌}
use Rattle.elf_headers.specs.declared.fault.LoadFault.TheVariants.{Memory}
use Rattle.elf_loader.specs.Loading.{words_fault, load_fault, Refuses}
use Rattle.elf_loader.proofs.Checks.{headers_refused, sections_refused, words_refused, all_accepted, loaded}
use Rattle.elf_loader.proofs.loader.load.Goals as goal

pub returns-in_err-loads-clause-refuses : goal.returns-in_err-loads-clause-refuses
returns-in_err-loads-clause-refuses c =
    let refused : c.in_err-loads.field-0.0 ≢ Memory → Refuses c.args.file.now c.in_err-loads.field-0.0 =
    λ some. headers_refused c.args.file.now c.in_err-loads.field-0.0 (c.in_err-loads.ensures.refused some) in
    search rules

pub returns-in_err-code-clause-refuses : goal.returns-in_err-code-clause-refuses
returns-in_err-code-clause-refuses c =
    let refused : c.in_err-code.field-0.0 ≢ Memory → Refuses c.args.file.now c.in_err-code.field-0.0 =
    λ some. sections_refused c.args.file.now c.in_err-code.field-0.0 c.in_ok-loads.ensures.accepted (c.in_err-code.ensures.refused some) in
    search rules

pub returns-in_err-check_words-clause-refuses : goal.returns-in_err-check_words-clause-refuses
returns-in_err-check_words-clause-refuses c =
    let same = c.as_slice-2.ensures.value ∙ c.in_ok-code.ensures.code in
    let refused : Refuses c.args.file.now c.in_err-check_words.field-0.0 =
    words_refused c.args.file.now c.in_err-check_words.field-0.0 c.in_ok-loads.ensures.accepted c.in_ok-code.ensures.accepted
    (sym (ap words_fault same) ∙ c.in_err-check_words.ensures) in
    search rules

pub returns-clause-loads : goal.returns-clause-loads
returns-clause-loads c =
    let same = c.as_slice-2.ensures.value ∙ c.in_ok-code.ensures.code in
    let accepted : load_fault c.args.file.now ≡ None =
    all_accepted c.args.file.now c.in_ok-loads.ensures.accepted c.in_ok-code.ensures.accepted
    (sym (ap words_fault same) ∙ c.in_ok-check_words.ensures) in
    loaded c.args.file.now _ _ _ c.image_of.result accepted (c.as_slice-3.ensures.value ∙ c.in_ok-loads.ensures.loads) c.u64_at.ensures
    (c.as_slice-4.ensures.value ∙ c.in_ok-code.ensures.code)
    c.image_of.ensures.memory c.image_of.ensures.entry c.image_of.ensures.code
