use Rattle.std.proofs.Common.{◌≡◌, Some, refl, rules, arith}
use Rattle.elf_loader.specs.Loading.{words_fault}
use Rattle.elf_loader.proofs.FirstUnlisted.{fault_here, fault_further, fault_none}
use Rattle.elf_loader.proofs.words.check_words.Goals as goal

pub loop-entry-init : goal.loop-entry-init
loop-entry-init c = refl

pub returns-in_err-check_word : goal.returns-in_err-check_word
returns-in_err-check_word c =
    let found : words_fault c.args.code.now ≡ Some c.in_err-check_word.field-0.0 =
    fault_here c.args.code.now c.loop-entry.entry-index (0, 0) c.in_err-check_word.field-0.0 c.loop-entry-test.true c.loop-entry.invariant
    c.in_err-check_word.ensures in
    search rules

pub loop-entry-preserved : goal.loop-entry-preserved
loop-entry-preserved c =
    fault_further c.args.code.now c.loop-entry.entry-index (0, 0) c.loop-entry-test.true c.loop-entry.invariant c.in_ok-check_word.ensures

pub returns : goal.returns
returns c = fault_none c.args.code.now c.loop-entry.entry-index (omega arith) c.loop-entry.invariant
