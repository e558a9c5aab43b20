use Rattle.std.proofs.Common.{◌∷◌, []}
use Rattle.sm_types.specs.Options.{numbers_of}
use Rattle.field_table.proofs.Reading.{reads_more, fails_more}
use Rattle.ckpt_fields.specs.Rows.{options_rows}
use Rattle.ckpt_fields.specs.Values.{option_values, words}
use Rattle.ckpt_fields.proofs.Chains.{answers_more, passed_on, told_as, told_fails_as}
use Rattle.ckpt_fields.proofs.parts.expect_options.Goals as goal

pub returns-in_err-expect_word : goal.returns-in_err-expect_word
unfolding options_rows option_values
returns-in_err-expect_word c = λ next.
    passed_on _ _ _ _ _ _ _ c.from_residual.ensures.1
    (told_fails_as _ _ _ _ _ c.bits.ensures (c.in_err-expect_word.ensures _))

pub returns-in_err-expect_word-2 : goal.returns-in_err-expect_word-2
unfolding options_rows option_values
returns-in_err-expect_word-2 c = λ next.
    passed_on _ _ _ _ _ _ _ c.from_residual-in_err-expect_word-2.ensures.1
    (fails_more (told_as _ _ _ _ _ c.bits.ensures (c.in_ok-expect_word.ensures _))
    (told_fails_as _ _ _ _ _ c.bits-2.ensures (c.in_err-expect_word-2.ensures _)))

pub returns-in_err-expect_word-3 : goal.returns-in_err-expect_word-3
unfolding options_rows option_values
returns-in_err-expect_word-3 c = λ next.
    passed_on _ _ _ _ _ _ _ c.from_residual-in_err-expect_word-3.ensures.1
    (fails_more (told_as _ _ _ _ _ c.bits.ensures (c.in_ok-expect_word.ensures _))
    (fails_more (told_as _ _ _ _ _ c.bits-2.ensures (c.in_ok-expect_word-2.ensures _))
    (c.in_err-expect_word-3.ensures _)))

pub returns-in_err-expect_word-4 : goal.returns-in_err-expect_word-4
unfolding options_rows option_values
returns-in_err-expect_word-4 c = λ next.
    passed_on _ _ _ _ _ _ _ c.from_residual-in_err-expect_word-4.ensures.1
    (fails_more (told_as _ _ _ _ _ c.bits.ensures (c.in_ok-expect_word.ensures _))
    (fails_more (told_as _ _ _ _ _ c.bits-2.ensures (c.in_ok-expect_word-2.ensures _))
    (fails_more (c.in_ok-expect_word-3.ensures _)
    (c.in_err-expect_word-4.ensures _))))

pub returns-in_err-expect_word-5 : goal.returns-in_err-expect_word-5
unfolding options_rows option_values
returns-in_err-expect_word-5 c = λ next.
    passed_on _ _ _ _ _ _ _ c.from_residual-in_err-expect_word-5.ensures.1
    (fails_more (told_as _ _ _ _ _ c.bits.ensures (c.in_ok-expect_word.ensures _))
    (fails_more (told_as _ _ _ _ _ c.bits-2.ensures (c.in_ok-expect_word-2.ensures _))
    (fails_more (c.in_ok-expect_word-3.ensures _)
    (fails_more (c.in_ok-expect_word-4.ensures _)
    (c.in_err-expect_word-5.ensures _)))))

pub returns : goal.returns
unfolding options_rows option_values
returns c = λ next.
    let options = numbers_of c.args.config.now in
    answers_more _ _ (words (options.vl ∷ options.svl ∷ options.slice ∷ options.budget ∷ options.threads ∷ []))
    (λ r. words (options.kernel ∷ [])) (λ r. next) _ _ _ c.expect_word-6.result
    (reads_more (told_as _ _ _ _ _ c.bits.ensures (c.in_ok-expect_word.ensures _))
    (reads_more (told_as _ _ _ _ _ c.bits-2.ensures (c.in_ok-expect_word-2.ensures _))
    (reads_more (c.in_ok-expect_word-3.ensures _)
    (reads_more (c.in_ok-expect_word-4.ensures _)
    (c.in_ok-expect_word-5.ensures _)))))
    (c.expect_word-6.ensures next)
