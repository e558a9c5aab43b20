use Rattle.std.proofs.Common.{arith, refl, subst, sym, ◌*◌, ◌+◌}
use Rattle.std.specs.Int.{w32}
use Rattle.vector_elements.specs.declared.size.Size.TheVariants.{H}
use Rattle.vector_elements.specs.Elements.{listed}
use Rattle.outer_products.specs.Sources.{AllFit, pair_number}
use Rattle.outer_products.proofs.Widened.{written_run, all_written, pairs_fit}
use Rattle.outer_products.proofs.Numbers.{halfword_fits}
use Rattle.outer_products.proofs.sources.put_halfword_pairs.Goals as goal

pub loop-i-init : goal.loop-i-init
unfolding listed
loop-i-init c = refl

pub loop-i-preserved : goal.loop-i-preserved
loop-i-preserved c =
    written_run (pair_number 2 H c.args.signed c.args.bytes.now) c.loop-i.out _ (8 * c.loop-i.i) 8 (8 * (c.loop-i.i + 1))
    c.loop-i.invariant c.halfword_pairs.ensures (omega arith)

pub returns-clause-value : goal.returns-clause-value
returns-clause-value c =
    all_written (pair_number 2 H c.args.signed c.args.bytes.now) c.loop-i.out _ (8 * c.loop-i.i)
    (omega (arith, c.requires.same, c.requires.whole, c.loop-i.auto.out, c.loop-i.auto.i-end, c.loop-i-test.false))
    (omega (arith, c.requires.same, c.requires.whole, c.loop-i.auto.i-end, c.loop-i-test.false)) c.loop-i.invariant

pub returns-clause-fit : goal.returns-clause-fit
returns-clause-fit c =
    subst (AllFit w32) (sym (returns-clause-value c))
    (pairs_fit H w32 halfword_fits (record { sfits = omega arith }) 2 c.args.signed c.args.bytes.now
    (λ k. (c.type_inv.bytes k).fits))
