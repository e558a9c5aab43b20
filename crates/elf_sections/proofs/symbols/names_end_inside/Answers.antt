use Rattle.std.proofs.Common.{◌≡◌, ◌∙◌, arith, false, sym}
use Rattle.std.proofs.lemmas.Bool.{le-ltb}
use Rattle.elf_sections.specs.Sections.{ends_inside, symbol_name}
use Rattle.elf_sections.proofs.Names.{names-none, names-all}
use Rattle.elf_sections.proofs.symbols.names_end_inside.Goals as goal

pub returns-then-from-end : goal.returns-then-from-end
returns-then-from-end c =
    let name : c.from.result ≡ symbol_name c.args.file.now c.args.s.now c.loop-k.k = c.from.ensures ∙ c.u32_at-name.ensures in
    let past : ends_inside c.args.file.now c.args.strings.now c.from.result ≡ false =
    c.names_end-end.ensures c.from.result ∙ le-ltb _ _ c.if-from-end.true in
    sym (names-none c.args.file.now c.args.s.now c.loop-k.k c.loop-k-test.true (rw (← name, ← c.requires.linked) past))

pub returns : goal.returns
returns c = sym (names-all c.args.file.now c.args.s.now (λ k l. c.loop-k.invariant k (omega arith)))
