use Rattle.std.proofs.Common.{◌≡◌, ◌∙◌, ap, sym, eq-eqb}
use Rattle.std.specs.Prelude.{unwrap_or}
use Rattle.abi_checker.proofs.Marked.{first_there}
use Rattle.abi_checker.proofs.marks.has_first_bytes.Goals as goal

pub returns-in-Some : goal.returns-in-Some
returns-in-Some c = λ p at h.
    let there = first_there c.args.pages.now.memory c.args.tail c.ranges.tail.fits c.word_in.result c.word_in.ensures p at h in
    let same : c.in-Some.word ≡ 0xD503457F = ap (λ o. unwrap_or o 0) (sym c.in-Some.is ∙ there) in
    eq-eqb c.in-Some.word 0xD503457F same

pub returns-in-None : goal.returns-in-None
returns-in-None c = λ p at h.
    let there = first_there c.args.pages.now.memory c.args.tail c.ranges.tail.fits c.word_in.result c.word_in.ensures p at h in
    let no = c.in-None.is in
    cc
