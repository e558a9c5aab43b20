use Rattle.std.proofs.Common.{◌≡◌, ◌∙◌, ℕ, ◌-◌, ◌%◌, ap, sym, subst, refl, arith, Bool}
use Rattle.bit_ops.specs.Masks.{size_of, ones_of, IsFieldsOf}
use Rattle.bit_ops.specs.Bits.{width_of}
use Rattle.bit_ops.proofs.Fields.{IsPeriodic, periodic-of, some-start, start-on, first-below, turn-is, next-is, none-is, ones-are}
use Rattle.bit_ops.proofs.masks.likely_fields.Goals.{in-Some, in-None}
use Rattle.bit_ops.proofs.masks.likely_fields.Goals as goal

-- at the width that the code has
periodic : (n wide : Bool) (imms immr word width : ℕ) → width ≡ width_of wide → IsFieldsOf n imms immr wide word
    → IsPeriodic word width (size_of n imms) immr (ones_of n imms)
periodic n wide imms immr word width e f =
    subst (λ w. IsPeriodic word w (size_of n imms) immr (ones_of n imms)) (sym e) (periodic-of n wide imms immr word f)

pub returns-in_err-first-clause-only : goal.returns-in_err-first-clause-only
returns-in_err-first-clause-only c n imms immr f =
    let p = periodic n c.args.wide imms immr c.args.word c.width-width.result c.width-width.ensures f in
    absurd (some-start c.args.word c.width-width.result (size_of n imms) immr (ones_of n imms) p (c.in_err-first.ensures.none refl))

pub returns-clause-only : goal.returns-clause-only
returns-clause-only c n imms immr f =
    let word = c.args.word in
    let width = c.width-width.result in
    let size = size_of n imms in
    let ones = ones_of n imms in
    let first = c.in_ok-first.first in
    let p = periodic n c.args.wide imms immr word width c.width-width.ensures f in
    let start = c.in_ok-first.ensures.some in
    let origin = start-on word width size immr ones first p start.1 start.2 in
    let below = first-below word width size immr ones first p start.3 in
    let room = p.room in
    let same : c.match-next_start.size ≡ size = elim c.match-next_start.branch [
      | in-Some w ↦
          let next = w.in-Some.ensures.some in
          w.size-is ∙ next-is word width size immr ones first w.in-Some.next p origin next.0 next.1 next.2 next.3
      | in-None w ↦ w.size-is ∙ none-is word width size immr ones first p below origin (w.in-None.ensures.none refl)
    ] in
    let count =
    ones-are word width size immr ones first c.run_of_ones.result p origin c.run_of_ones.ensures.small c.run_of_ones.ensures.ones
    c.run_of_ones.ensures.end in
    let turn = turn-is size immr first f.immr_in_range below origin in
    let in_range = f.immr_in_range in
    c.written.ensures.only n imms immr f.imms_in_range (omega arith) same count (omega arith) (omega arith)
    (turn ∙ ap (λ s. (s - first) % s) (sym same))
