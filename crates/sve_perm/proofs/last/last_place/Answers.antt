use Rattle.std.proofs.Common.{◌≡◌, ◌+◌, ◌-◌, ◌*◌, length, ap, ◌∙◌, sym, refl, arith}
use Rattle.vector_elements.specs.Elements.{bit_of}
use Rattle.sve_perm.specs.Active.{active_places, last_or, last_place}
use Rattle.sve_perm.proofs.Sums.{last_found, last_before, no_last, place_fits}
use Rattle.sve_perm.proofs.last.last_place.Goals as goal

pub loop-end-init : goal.loop-end-init
unfolding last_place
loop-end-init c = (omega arith, refl)

pub overflow_mul-width : goal.overflow_mul-width
overflow_mul-width c =
    let here = place_fits c.args.size (c.loop-end.end - 1) c.args.count (8 * length c.args.pg.now)
    (let most = c.loop-end.invariant.0 in let some = c.loop-end-test.true in omega (arith, most, some)) c.requires.bits in
    let few = c.requires.fits in
    rw c.bytes-width.ensures (omega (arith, here, few))

pub returns-then-bit-clause-value : goal.returns-then-bit-clause-value
returns-then-bit-clause-value c =
    let next : c.loop-end.end ≡ c.loop-end.end - 1 + 1 = (let some = c.loop-end-test.true in omega (arith, some)) in
    let on = sym (ap (λ w. bit_of c.args.pg.now (w * (c.loop-end.end - 1))) c.bytes-width.ensures) ∙ sym c.bit.ensures ∙ c.if-bit.true in
    sym (c.loop-end.invariant.1 ∙ ap (λ k. last_or (c.args.count - 1) (active_places c.args.size c.args.pg.now k)) next
    ∙ last_found c.args.size c.args.pg.now (c.args.count - 1) (c.loop-end.end - 1) on)

pub loop-end-preserved : goal.loop-end-preserved
loop-end-preserved c =
    let next : c.loop-end.end ≡ c.loop-end.end - 1 + 1 = (let some = c.loop-end-test.true in omega (arith, some)) in
    let off = sym (ap (λ w. bit_of c.args.pg.now (w * (c.loop-end.end - 1))) c.bytes-width.ensures) ∙ sym c.bit.ensures
    ∙ c.if-bit.false in (
      (let most = c.loop-end.invariant.0 in omega (arith, most)),
      c.loop-end.invariant.1 ∙ ap (λ k. last_or (c.args.count - 1) (active_places c.args.size c.args.pg.now k)) next
          ∙ last_before c.args.size c.args.pg.now (c.args.count - 1) (c.loop-end.end - 1) off,
    )

pub returns-clause-value : goal.returns-clause-value
returns-clause-value c =
    let none : c.loop-end.end ≡ 0 = (let test = c.loop-end-test.false in omega (arith, test)) in
    sym (c.loop-end.invariant.1 ∙ ap (λ k. last_or (c.args.count - 1) (active_places c.args.size c.args.pg.now k)) none
    ∙ no_last c.args.size c.args.pg.now (c.args.count - 1))
