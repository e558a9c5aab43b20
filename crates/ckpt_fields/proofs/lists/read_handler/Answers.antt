use Rattle.std.proofs.Common.{refl, sym}
use Rattle.field_table.proofs.Reading.{reads_more, fails_more}
use Rattle.ckpt_fields.specs.Rows.{handler_row}
use Rattle.ckpt_fields.proofs.Chains.{passed_on}
use Rattle.ckpt_fields.proofs.lists.read_handler.Goals as goal

pub returns-in_err-pass_word-clause-read : goal.returns-in_err-pass_word-clause-read
unfolding handler_row
returns-in_err-pass_word-clause-read c = λ next.
    passed_on _ _ _ _ _ _ _ c.from_residual.ensures.1
    (c.in_err-pass_word.ensures.read _ _ (sym c.is_signal_past.ensures))

pub returns-in_err-pass_doubleword-clause-read : goal.returns-in_err-pass_doubleword-clause-read
unfolding handler_row
returns-in_err-pass_doubleword-clause-read c = λ next.
    passed_on _ _ _ _ _ _ _ c.from_residual-in_err-pass_doubleword.ensures.1
    (fails_more (c.in_ok-pass_word.ensures.read _ _ (sym c.is_signal_past.ensures))
    (c.in_err-pass_doubleword.ensures.read _ _ refl))

pub returns-clause-read : goal.returns-clause-read
unfolding handler_row
returns-clause-read c = λ next.
    reads_more (c.in_ok-pass_word.ensures.read _ _ (sym c.is_signal_past.ensures))
    (c.in_ok-pass_doubleword.ensures.read _ _ refl)
