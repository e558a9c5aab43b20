use Rattle.std.proofs.Common.{◌≡◌, ◌≤◌, max}
use Rattle.elf_headers.specs.Below.{answers_below}
use Rattle.elf_sections.specs.Code.{code_word}
use Rattle.elf_sections.proofs.code.list_words.Given as goal

abbrev pub invariant-loop-n : goal.invariant-loop-n
invariant-loop-n l = record {
  code : l.code.items ≡ answers_below (code_word l.file) l.n;
  within : l.n ≤ max l.start l.end;
}
