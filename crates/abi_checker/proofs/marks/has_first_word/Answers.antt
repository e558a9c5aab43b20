use Rattle.std.proofs.Common.{◌≡◌, ◌∙◌, ap, sym, eq-eqb, Some}
use Rattle.std.specs.Prelude.{unwrap_or}
use Rattle.abi_checker.proofs.Marked.{first_there}
use Rattle.abi_checker.proofs.Words.{word_any}
use Rattle.abi_checker.proofs.marks.has_first_word.Goals as goal

pub returns-in-Some : goal.returns-in-Some
returns-in-Some c = λ p at h.
    let m = c.args.pages.now.memory in
    let here = word_any m c.args.tail c.in-Some.word (sym c.fetch.ensures ∙ c.in-Some.is) in
    let there = first_there m c.args.tail c.ranges.tail.fits (Some c.in-Some.word) here p at h in
    let same : c.in-Some.word ≡ 0xD503457F = ap (λ o. unwrap_or o 0) there in
    eq-eqb c.in-Some.word 0xD503457F same
