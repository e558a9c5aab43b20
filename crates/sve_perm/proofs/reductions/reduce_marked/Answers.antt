use Rattle.std.proofs.Common.{◌≡◌, ◌*◌, ◌<◌, ℕ, length, map, ap, ◌∙◌, sym, subst, arith}
use Rattle.vector_elements.specs.Elements.{element_of}
use Rattle.vector_elements.specs.Numbers.{bytes_in}
use Rattle.vector_elements.proofs.Masks.{within}
use Rattle.sve_perm.specs.Active.{active_places}
use Rattle.sve_perm.proofs.Sums.{none-yet, elements-more, all-joined}
use Rattle.sve_perm.proofs.reductions.reduce_marked.Goals as goal

pub loop-i-init : goal.loop-i-init
loop-i-init g c = (
  c.neutral-total.ensures.value
      ∙ ap (g.R.Reduction.gives c.args.reduction c.args.size) (sym (none-yet c.args.size c.args.pg.now c.args.n.now)),
  c.neutral-total.ensures.fits,
)

pub loop-i-preserved : goal.loop-i-preserved
loop-i-preserved g c =
    let size = c.args.size in
    let n = c.args.n.now in
    let below = subst (λ (k : ℕ). c.loop-i.i < k) c.count-i-end.ensures c.loop-i-test.true in
    let inside = within size c.loop-i.i (length n) below in
    let place : bytes_in size * c.loop-i.i < 8 * length c.args.pg.now = (let bits = c.requires.bits in omega (arith, bits, inside)) in
    let on = c.is_marked.ensures ∙ c.expand.ensures (bytes_in size * c.loop-i.i) place in
    let so_far = map (element_of (bytes_in size) n) (active_places size c.args.pg.now c.loop-i.i) in (
      c.join_where-total.ensures.value so_far c.loop-i.invariant.0
          ∙ ap (g.R.Reduction.gives c.args.reduction size)
          (elements-more size c.args.pg.now n c.loop-i.i c.element-x.result c.is_marked.result c.element-x.ensures.value on),
      c.join_where-total.ensures.fits,
    )

pub returns-clause-value : goal.returns-clause-value
returns-clause-value g c =
    let all : c.loop-i.i ≡ c.count-i-end.result = (let end = c.loop-i-test.false in let most = c.loop-i.auto.i-end in omega (
      arith,
      end,
      most,
    )) in
    c.loop-i.invariant.0
    ∙ ap (g.R.Reduction.gives c.args.reduction c.args.size)
    (all-joined c.args.size c.args.pg.now c.args.n.now c.loop-i.i (all ∙ c.count-i-end.ensures))
