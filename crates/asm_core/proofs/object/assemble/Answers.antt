use Rattle.std.proofs.Common.{rules, ◌≡◌, ◌≢◌, true, false, nat_lt, length, Some, sym, ap, ap₂, ◌∙◌, arith}
use Rattle.std.proofs.lemmas.Bool.Decides.{nat_tests}
use Rattle.asm_core.specs.declared.fault.AsmFault.TheVariants.{NotText, Memory}
use Rattle.asm_core.specs.declared.location_counter.LocationCounter.{LocationCounter}
use Rattle.asm_core.specs.Source.{lines_of, said_lines}
use Rattle.asm_core.specs.Layout.{names_in}
use Rattle.asm_core.specs.Faults.{asm_fault, start_of, text_length_of}
use Rattle.asm_core.proofs.Chain.{long_source, no_text, line_fault_is, target_fault_is, no_start_is, no_fault_is, assembled}
use Rattle.asm_core.proofs.MappedBytes.{mapped_object}
use Rattle.asm_core.proofs.Writable.{sound_object}
use Rattle.asm_core.proofs.Accepted.{same_names}
use Rattle.asm_core.proofs.object.assemble.Goals as goal

pub returns-then-source-gt-SOURCE_LIMIT-clause-fault : goal.returns-then-source-gt-SOURCE_LIMIT-clause-fault
returns-then-source-gt-SOURCE_LIMIT-clause-fault c = λ other.
    let long : nat_lt 67108864 (length c.args.source.now) ≡ true = grind (arith, nat_tests) in
    long_source c.args.source.now long

pub returns-in-Some-clause-fault : goal.returns-in-Some-clause-fault
returns-in-Some-clause-fault c = λ other.
    let short : nat_lt 67108864 (length c.args.source.now) ≡ false = grind (arith, nat_tests) in
    no_text c.args.source.now short c.in-Some.ensures.0 ∙ ap (λ n. Some (NotText n)) (sym c.in-Some.ensures.1)

pub returns-in_err-first_pass-clause-fault : goal.returns-in_err-first_pass-clause-fault
returns-in_err-first_pass-clause-fault c =
    let short : nat_lt 67108864 (length c.args.source.now) ≡ false = grind (arith, nat_tests) in
    let fault = c.in_err-first_pass.field-0.0 in
    let refused : fault ≢ Memory → asm_fault c.args.source.now ≡ Some fault =
    λ other. line_fault_is c.args.source.now short c.in_default.ensures fault (c.in_err-first_pass.ensures.err other) in
    search rules

pub returns-in_err-parts-clause-fault : goal.returns-in_err-parts-clause-fault
returns-in_err-parts-clause-fault c =
    let short : nat_lt 67108864 (length c.args.source.now) ≡ false = grind (arith, nat_tests) in
    let fault = c.in_err-parts.field-0.0 in
    let refused : fault ≢ Memory → asm_fault c.args.source.now ≡ Some fault =
    λ other. target_fault_is c.args.source.now short c.in_default.ensures c.in_ok-first_pass.ensures.accepted fault
    (c.in_err-parts.ensures.err other) in
    search rules

pub returns-in-Some-start_of-clause-assembles : goal.returns-in-Some-start_of-clause-assembles
returns-in-Some-start_of-clause-assembles c =
    let source = c.args.source.now in
    let lines = said_lines (lines_of source) in
    let short : nat_lt 67108864 (length source) ≡ false = grind (arith, nat_tests) in
    let size : c.in_ok-first_pass.first_pass.end.text_size ≡ text_length_of lines =
    ap (λ (p : LocationCounter). p.text_size) c.in_ok-first_pass.ensures.end in
    let starts : start_of (text_length_of lines) (names_in lines) ≡ Some c.in-Some-start_of.entry =
    ap₂ start_of (sym size) (same_names _ _ c.in_ok-first_pass.ensures.knows) ∙ sym c.in-Some-start_of.ensures in
    assembled source c.in_ok-parts.parts c.in-Some-start_of.entry
    (no_fault_is source short c.in_default.ensures c.in_ok-first_pass.ensures.accepted c.in-Some-start_of.entry
    c.in_ok-parts.ensures.ok starts)
    c.in_ok-parts.ensures.parts starts

pub returns-in-Some-start_of-clause-sound : goal.returns-in-Some-start_of-clause-sound
returns-in-Some-start_of-clause-sound c =
    sound_object c.args.source.now _ c.in_ok-first_pass.first_pass.end c.in_ok-first_pass.ensures.accepted
    (returns-in-Some-start_of-clause-assembles c)
    c.in_ok-first_pass.ensures.end c.in_ok-first_pass.ensures.limits

pub returns-in-Some-start_of-clause-code : goal.returns-in-Some-start_of-clause-code
returns-in-Some-start_of-clause-code c = mapped_object c.args.source.now _ (returns-in-Some-start_of-clause-assembles c)

pub returns-clause-fault : goal.returns-clause-fault
returns-clause-fault c = λ other.
    let source = c.args.source.now in
    let lines = said_lines (lines_of source) in
    let short : nat_lt 67108864 (length source) ≡ false = grind (arith, nat_tests) in
    let size : c.in_ok-first_pass.first_pass.end.text_size ≡ text_length_of lines =
    ap (λ (p : LocationCounter). p.text_size) c.in_ok-first_pass.ensures.end in
    no_start_is source short c.in_default.ensures c.in_ok-first_pass.ensures.accepted c.in_ok-parts.ensures.ok
    (ap₂ start_of (sym size) (same_names _ _ c.in_ok-first_pass.ensures.knows) ∙ sym c.in-None.ensures)
