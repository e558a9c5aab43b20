use Rattle.std.proofs.Common.{ℕ, ◌≡◌, ◌<◌, true}
use Rattle.elf_sections.specs.Sections.{ends_inside, symbol_name, strings_of}
use Rattle.elf_sections.proofs.symbols.names_end_inside.Given as goal

abbrev pub invariant-loop-k : goal.invariant-loop-k
invariant-loop-k l = (k : ℕ) → k < l.k → ends_inside l.file (strings_of l.file l.s) (symbol_name l.file l.s k) ≡ true
