use Rattle.std.proofs.Common.{◌≡◌, ℕ, true, not, nat_lt, length, arith, sym, ap, ◌∙◌}
use Rattle.std.proofs.lemmas.Bool.Decides.{nat_tests}
use Rattle.std.proofs.lemmas.Str.{utf8_valid_len-IsUtf8}
use Rattle.line_reader.specs.Lines.{is_text}
use Rattle.line_reader.proofs.lines.is_text.Goals as goal

not_below : (n : ℕ) → not (nat_lt n n) ≡ true
not_below n = grind (arith, nat_tests)

pub returns-in-Ok : goal.returns-in-Ok
unfolding is_text
returns-in-Ok c =
    sym (ap (λ n. not (nat_lt n (length c.args.line.now))) (utf8_valid_len-IsUtf8 c.args.line.now c.in-Ok.ensures.cases.1)
    ∙ not_below (length c.args.line.now))
