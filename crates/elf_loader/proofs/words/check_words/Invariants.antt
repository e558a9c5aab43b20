use Rattle.std.proofs.Common.{◌≡◌, drop}
use Rattle.elf_loader.specs.Loading.{words_fault}
use Rattle.elf_loader.proofs.words.check_words.Given as goal

abbrev pub invariant-loop-entry : goal.invariant-loop-entry
invariant-loop-entry l = words_fault l.code ≡ words_fault (drop l.entry-index l.code)
