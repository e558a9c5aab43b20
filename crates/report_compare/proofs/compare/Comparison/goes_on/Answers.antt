use Rattle.std.proofs.Common.{rules, ◌≡◌, ◌++◌, length, take, drop, sym, ap, ◌∙◌}
use Rattle.std.proofs.Math.Seq.{take-add}
use Rattle.std.proofs.lemmas.Slice.Eq.{bytes_eq-Decides}
use Rattle.report_compare.proofs.compare.Comparison.goes_on.Goals as goal

pub returns-then-bytes-self-clause-next : goal.returns-then-bytes-self-clause-next
returns-then-bytes-self-clause-next c = λ is.
    let c' = c.args.self.now in
    let next = take (length c.args.bytes.now) (drop c'.same c'.expected.now) in
    let same : next ≡ c.args.bytes.now = (bytes_eq-Decides next c.args.bytes.now).0 (search (rules, is)) in
    sym (take-add c'.same (length c.args.bytes.now) c'.expected.now ∙ ap (λ t. take c'.same c'.expected.now ++ t) same)
