use Rattle.std.proofs.Common.{refl, sym, ◌∷◌, []}
use Rattle.field_table.proofs.Reading.{reads_more, fails_more, one_field}
use Rattle.ckpt_fields.specs.Rows.{page_row}
use Rattle.ckpt_fields.proofs.Chains.{reads_as}
use Rattle.ckpt_fields.proofs.Faults.{told_on}
use Rattle.ckpt_fields.proofs.lists.read_page.Goals as goal

pub returns-in_err-pass_doubleword-clause-read : goal.returns-in_err-pass_doubleword-clause-read
unfolding page_row
returns-in_err-pass_doubleword-clause-read c = λ next.
    told_on _ _ _ _ _ _ _ c.from_residual.ensures.1
    (c.in_err-pass_doubleword.ensures.read _ _ (sym c.is_page_address.ensures))

pub returns-in_err-pass_byte-clause-read : goal.returns-in_err-pass_byte-clause-read
unfolding page_row
returns-in_err-pass_byte-clause-read c = λ next.
    told_on _ _ _ _ _ _ _ c.from_residual-in_err-pass_byte.ensures.1
    (fails_more (c.in_ok-pass_doubleword.ensures.read _ _ (sym c.is_page_address.ensures))
    (c.in_err-pass_byte.ensures.read _ _ refl))

pub returns-in_err-bytes-clause-read : goal.returns-in_err-bytes-clause-read
unfolding page_row
returns-in_err-bytes-clause-read c = λ next.
    told_on _ _ _ _ _ _ _ c.from_residual-in_err-bytes.ensures.1
    (fails_more (c.in_ok-pass_doubleword.ensures.read _ _ (sym c.is_page_address.ensures))
    (fails_more (c.in_ok-pass_byte.ensures.read _ _ refl)
    (c.in_err-bytes.ensures.read _)))

pub returns-clause-read : goal.returns-clause-read
unfolding page_row
returns-clause-read c = λ next.
    reads_more (c.in_ok-pass_doubleword.ensures.read _ _ (sym c.is_page_address.ensures))
    (reads_more (c.in_ok-pass_byte.ensures.read _ _ refl)
    (reads_as _ (c.in_ok-bytes-2.bytes.items ∷ [])
    (one_field 4096 c.in_ok-bytes.bytes.now c.in_ok-bytes-2.bytes.items c.in_ok-bytes.ensures.size c.in_ok-bytes-2.ensures.items)
    (c.in_ok-bytes.ensures.read _)))
