use Rattle.std.proofs.Common.{arith, refl, subst, sym, ◌*◌, ◌+◌}
use Rattle.std.specs.Int.{w16}
use Rattle.vector_elements.specs.declared.size.Size.TheVariants.{B}
use Rattle.vector_elements.specs.Elements.{listed}
use Rattle.outer_products.specs.Sources.{AllFit, pair_number}
use Rattle.outer_products.proofs.Widened.{written_run, all_written, pairs_fit}
use Rattle.outer_products.proofs.Numbers.{byte_fits}
use Rattle.outer_products.proofs.sources.put_byte_pairs.Goals as goal

pub loop-i-init : goal.loop-i-init
unfolding listed
loop-i-init c = refl

pub loop-i-preserved : goal.loop-i-preserved
loop-i-preserved c =
    written_run (pair_number 4 B c.args.signed c.args.bytes.now) c.loop-i.out _ (16 * c.loop-i.i) 16 (16 * (c.loop-i.i + 1))
    c.loop-i.invariant c.byte_pairs.ensures (omega arith)

pub returns-clause-value : goal.returns-clause-value
returns-clause-value c =
    all_written (pair_number 4 B c.args.signed c.args.bytes.now) c.loop-i.out _ (16 * c.loop-i.i)
    (omega (arith, c.requires.same, c.requires.whole, c.loop-i.auto.out, c.loop-i.auto.i-end, c.loop-i-test.false))
    (omega (arith, c.requires.same, c.requires.whole, c.loop-i.auto.i-end, c.loop-i-test.false)) c.loop-i.invariant

pub returns-clause-fit : goal.returns-clause-fit
returns-clause-fit c =
    subst (AllFit w16) (sym (returns-clause-value c))
    (pairs_fit B w16 byte_fits (record { sfits = omega arith }) 4 c.args.signed c.args.bytes.now
    (λ k. (c.type_inv.bytes k).fits))
