use Rattle.std.proofs.Common.{arith, ap, ◌∙◌, sym, refl, subst}
use Rattle.std.specs.Int.{w32}
use Rattle.std.proofs.lemmas.Int.{to_z-of_z}
use Rattle.vector_elements.specs.declared.size.Size.TheVariants.{H}
use Rattle.vector_elements.specs.Elements.{listed}
use Rattle.outer_products.specs.OuterProducts.{number_of}
use Rattle.outer_products.specs.Sources.{AllFit, number_at, negated}
use Rattle.outer_products.proofs.Widened.{written_to, all_written, numbers_fit}
use Rattle.outer_products.proofs.Numbers.{halfword_fits}
use Rattle.outer_products.proofs.sources.write_halfwords.Goals as goal

pub loop-i-init : goal.loop-i-init
unfolding listed
loop-i-init c = refl

pub loop-i-preserved : goal.loop-i-preserved
loop-i-preserved c =
    written_to _ c.loop-i.out c.loop-i.i _ (omega (arith, c.loop-i.auto.out, c.loop-i-test.true)) c.loop-i.invariant
    (to_z-of_z w32 c.halfword_number.result (record { sfits = c.halfword_number.type_inv }) ∙ c.halfword_number.ensures
    ∙ ap (λ x. negated c.args.negative (number_of c.args.signed H x)) c.element.ensures.value)

pub returns-clause-value : goal.returns-clause-value
returns-clause-value c =
    all_written (number_at H c.args.signed c.args.negative c.args.bytes.now) c.loop-i.out _ c.loop-i.i
    (omega (arith, c.loop-i.auto.out, c.loop-i.auto.i-end, c.loop-i-test.false))
    (omega (arith, c.requires, c.loop-i.auto.i-end, c.loop-i-test.false)) c.loop-i.invariant

pub returns-clause-fit : goal.returns-clause-fit
returns-clause-fit c =
    subst (AllFit w32) (sym (returns-clause-value c))
    (numbers_fit H w32 halfword_fits (record { sfits = omega arith }) c.args.signed c.args.negative c.args.bytes.now
    (λ k. (c.type_inv.bytes k).fits))
