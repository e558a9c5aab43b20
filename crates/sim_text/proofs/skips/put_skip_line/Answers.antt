use Rattle.std.proofs.Common.{◌≡◌, ℕ, List, [], ◌∷◌, ◌++◌, codes, decimal}
use Rattle.std.specs.List.{concat}
use Rattle.edge_io.proofs.Gathering.{and_then, and_stop, and_end, as_text}
use Rattle.world_core.specs.declared.event.Applied.TheVariants.{NotEnabled}
use Rattle.world_core.specs.declared.event.Why.{Why}
use Rattle.sim_text.specs.Skips.{why_words, skip_line}
use Rattle.sim_text.proofs.Counted.{counted_then}
use Rattle.sim_text.proofs.skips.put_skip_line.Goals as goal

-- the line, after its number
after_line : Why → List ℕ
after_line why = concat (codes " " ∷ why_words why ∷ codes "\n" ∷ [])

as_line : (line : ℕ) (why : Why) → concat (codes "skip " ∷ decimal line ∷ []) ++ after_line why ≡ skip_line line (NotEnabled why)
unfolding skip_line after_line
as_line line why = counted_then (codes "skip ") (decimal line) (after_line why)

pub returns-in_err-put_counted : goal.returns-in_err-put_counted
returns-in_err-put_counted g c =
    as_text (as_line c.args.line c.args.why) (and_stop _ c.in_err-put_counted.ensures c.from_residual.ensures.0)

pub returns-in_err-put : goal.returns-in_err-put
unfolding after_line
returns-in_err-put g c =
    as_text (as_line c.args.line c.args.why)
    (and_then c.in_ok-put_counted.ensures (and_stop _ c.in_err-put.ensures c.from_residual-in_err-put.ensures.0))

pub returns-in_err-put_why : goal.returns-in_err-put_why
unfolding after_line
returns-in_err-put_why g c =
    as_text (as_line c.args.line c.args.why)
    (and_then c.in_ok-put_counted.ensures (and_then c.in_ok-put.ensures
    (and_stop _ c.in_err-put_why.ensures c.from_residual-in_err-put_why.ensures.0)))

pub returns : goal.returns
unfolding after_line
returns g c =
    as_text (as_line c.args.line c.args.why)
    (and_then c.in_ok-put_counted.ensures (and_then c.in_ok-put.ensures (and_then c.in_ok-put_why.ensures
    (and_end c.put-2.ensures))))
