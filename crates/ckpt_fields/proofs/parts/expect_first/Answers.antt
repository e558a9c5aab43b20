use Rattle.std.proofs.Common.{◌∷◌, []}
use Rattle.sm_types.specs.Options.{numbers_of}
use Rattle.field_table.proofs.Reading.{reads_more, fails_more}
use Rattle.ckpt_fields.specs.Rows.{first_rows, tag}
use Rattle.ckpt_fields.specs.Values.{first_values, option_values}
use Rattle.ckpt_fields.proofs.Chains.{answers_more, passed_on}
use Rattle.ckpt_fields.proofs.parts.expect_first.Goals as goal

pub returns-in_err-expect : goal.returns-in_err-expect
unfolding first_rows first_values
returns-in_err-expect c = λ next.
    passed_on _ _ _ _ _ _ _ c.from_residual.ensures.1
    (c.in_err-expect.ensures _)

pub returns-in_err-expect-2 : goal.returns-in_err-expect-2
unfolding first_rows first_values
returns-in_err-expect-2 c = λ next.
    passed_on _ _ _ _ _ _ _ c.from_residual-in_err-expect-2.ensures.1
    (fails_more (c.in_ok-expect.ensures _)
    (c.in_err-expect-2.ensures _))

pub returns : goal.returns
unfolding first_rows first_values
returns c = λ next.
    answers_more _ _ (tag ∷ c.args.report.now.image ∷ []) (λ r. option_values (numbers_of c.args.report.now.config)) (λ r. next) _ _ _
    c.expect_options.result
    (reads_more (c.in_ok-expect.ensures _)
    (c.in_ok-expect-2.ensures _))
    (c.expect_options.ensures next)
