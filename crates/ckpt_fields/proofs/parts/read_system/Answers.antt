use Rattle.byteorder.specs.Endian.{little_bytes}
use Rattle.bit_ops.specs.Sums.{bool_number}
use Rattle.std.proofs.Common.{◌==◌, ◌∷◌, [], refl, ap, sym}
use Rattle.field_table.proofs.Reading.{reads_more, fails_more}
use Rattle.ckpt_fields.specs.Rows.{system_rows}
use Rattle.ckpt_fields.specs.Values.{system_values}
use Rattle.ckpt_fields.proofs.Chains.{passed_on, reads_as, truth_told}
use Rattle.ckpt_fields.proofs.parts.read_system.Goals as goal

pub returns-in_err-pass_doubleword : goal.returns-in_err-pass_doubleword
unfolding system_rows system_values
returns-in_err-pass_doubleword c = λ next.
    passed_on _ _ _ _ _ _ _ c.from_residual.ensures.1
    (c.in_err-pass_doubleword.ensures.read _ _ (sym c.are_flags.ensures))

pub returns-in_err-pass_doubleword-2 : goal.returns-in_err-pass_doubleword-2
unfolding system_rows system_values
returns-in_err-pass_doubleword-2 c = λ next.
    passed_on _ _ _ _ _ _ _ c.from_residual-in_err-pass_doubleword-2.ensures.1
    (fails_more (c.in_ok-pass_doubleword.ensures.read _ _ (sym c.are_flags.ensures))
    (c.in_err-pass_doubleword-2.ensures.read _ _ refl))

pub returns-in_err-tpidr : goal.returns-in_err-tpidr
unfolding system_rows system_values
returns-in_err-tpidr c = λ next.
    passed_on _ _ _ _ _ _ _ c.from_residual-in_err-tpidr.ensures.1
    (fails_more (c.in_ok-pass_doubleword.ensures.read _ _ (sym c.are_flags.ensures))
    (fails_more (c.in_ok-pass_doubleword-2.ensures.read _ _ refl)
    (c.in_err-tpidr.ensures _)))

pub returns-in_err-tpidr2 : goal.returns-in_err-tpidr2
unfolding system_rows system_values
returns-in_err-tpidr2 c = λ next.
    passed_on _ _ _ _ _ _ _ c.from_residual-in_err-tpidr2.ensures.1
    (fails_more (c.in_ok-pass_doubleword.ensures.read _ _ (sym c.are_flags.ensures))
    (fails_more (c.in_ok-pass_doubleword-2.ensures.read _ _ refl)
    (fails_more (c.in_ok-tpidr.ensures _)
    (c.in_err-tpidr2.ensures _))))

pub returns-in_err-held : goal.returns-in_err-held
unfolding system_rows system_values
returns-in_err-held c = λ next.
    passed_on _ _ _ _ _ _ _ c.from_residual-in_err-held.ensures.1
    (fails_more (c.in_ok-pass_doubleword.ensures.read _ _ (sym c.are_flags.ensures))
    (fails_more (c.in_ok-pass_doubleword-2.ensures.read _ _ refl)
    (fails_more (c.in_ok-tpidr.ensures _)
    (fails_more (c.in_ok-tpidr2.ensures _)
    (c.in_err-held.ensures _)))))

pub returns-in_err-pass_doubleword-3 : goal.returns-in_err-pass_doubleword-3
unfolding system_rows system_values
returns-in_err-pass_doubleword-3 c = λ next.
    passed_on _ _ _ _ _ _ _ c.from_residual-in_err-pass_doubleword-3.ensures.1
    (fails_more (c.in_ok-pass_doubleword.ensures.read _ _ (sym c.are_flags.ensures))
    (fails_more (c.in_ok-pass_doubleword-2.ensures.read _ _ refl)
    (fails_more (c.in_ok-tpidr.ensures _)
    (fails_more (c.in_ok-tpidr2.ensures _)
    (fails_more (c.in_ok-held.ensures _)
    (c.in_err-pass_doubleword-3.ensures.read _ _ (sym c.is_mask.ensures)))))))

pub returns-in_err-pass_doubleword-4 : goal.returns-in_err-pass_doubleword-4
unfolding system_rows system_values
returns-in_err-pass_doubleword-4 c = λ next.
    passed_on _ _ _ _ _ _ _ c.from_residual-in_err-pass_doubleword-4.ensures.1
    (fails_more (c.in_ok-pass_doubleword.ensures.read _ _ (sym c.are_flags.ensures))
    (fails_more (c.in_ok-pass_doubleword-2.ensures.read _ _ refl)
    (fails_more (c.in_ok-tpidr.ensures _)
    (fails_more (c.in_ok-tpidr2.ensures _)
    (fails_more (c.in_ok-held.ensures _)
    (fails_more (c.in_ok-pass_doubleword-3.ensures.read _ _ (sym c.is_mask.ensures))
    (c.in_err-pass_doubleword-4.ensures.read _ _ refl)))))))

pub returns : goal.returns
unfolding system_rows system_values
returns c = λ next.
    reads_more (c.in_ok-pass_doubleword.ensures.read _ _ (sym c.are_flags.ensures))
    (reads_more (c.in_ok-pass_doubleword-2.ensures.read _ _ refl)
    (reads_more (c.in_ok-tpidr.ensures _)
    (reads_more (c.in_ok-tpidr2.ensures _)
    (reads_more (c.in_ok-held.ensures _)
    (reads_more (c.in_ok-pass_doubleword-3.ensures.read _ _ (sym c.is_mask.ensures))
    (reads_as (little_bytes 8 c.doubleword-polled.result ∷ []) (little_bytes 8 (bool_number (c.doubleword-polled.result == 1)) ∷ [])
    (ap (λ n. little_bytes 8 n ∷ []) (sym (truth_told c.doubleword-polled.result c.in_ok-pass_doubleword-4.ensures.right)))
    (c.in_ok-pass_doubleword-4.ensures.read _ _ refl)))))))
