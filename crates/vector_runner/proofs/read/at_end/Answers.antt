use Rattle.std.proofs.Common.{◌≡◌, ◌≢◌, List, ℕ, length, sym, ap, ◌∙◌, subst, arith}
use Rattle.std.proofs.lemmas.Bool.Decides.{nat_tests}
use Rattle.line_reader.proofs.Past.{first_is}
use Rattle.vector_runner.proofs.Said.{none_left}
use Rattle.vector_runner.proofs.read.at_end.Goals as goal

pub returns-clause-none : goal.returns-clause-none
returns-clause-none c empty =
    let s = c.args.lines.now in
    let none : length c.line.result.now ≡ 0 = grind (arith, nat_tests) in
    let first : length s.line.now ≡ 0 = ap length (first_is s.line.now s.rest.now s.whole ∙ sym c.line.ensures) ∙ none in
    none_left s.line.now s.rest.now first (s.whole first)

pub returns-clause-some : goal.returns-clause-some
returns-clause-some c full =
    let some : length c.line.result.now ≢ 0 = grind (arith, nat_tests) in
    subst (λ (l : List ℕ). length l ≢ 0) c.line.ensures some
