use Rattle.std.proofs.Common.{arith, ap, take, ◌∙◌, ◌+◌, ◌*◌, ◌++◌}
use Rattle.std.specs.Int.{w32}
use Rattle.std.proofs.lemmas.Simd.{take_more_put_chunk}
use Rattle.vector_elements.specs.declared.size.Size.TheVariants.{H}
use Rattle.vector_elements.specs.Elements.{listed}
use Rattle.outer_products.proofs.Lanes.{eight_lanes, pair_lane}
use Rattle.outer_products.proofs.sources.halfword_pairs.Goals as goal

pub returns : goal.returns
unfolding listed
returns c =
    let lane = pair_lane w32 H c.args.signed c.args.bytes.now 2 in
    take_more_put_chunk (8 * c.args.i) c.args.out.now _ (8 * c.args.i + 8) (omega arith) c.requires.out
    ∙ ap (λ xs. take (8 * c.args.i) c.args.out.now ++ xs)
    (eight_lanes
    (lane _ _ _ _ (record { sfits = c.halfword_number.type_inv }) c.halfword_number.ensures c.element.ensures.value (omega arith))
    (lane _ _ _ _ (record { sfits = c.halfword_number-2.type_inv }) c.halfword_number-2.ensures c.element-2.ensures.value (omega arith))
    (lane _ _ _ _ (record { sfits = c.halfword_number-5.type_inv }) c.halfword_number-5.ensures c.element-5.ensures.value (omega arith))
    (lane _ _ _ _ (record { sfits = c.halfword_number-6.type_inv }) c.halfword_number-6.ensures c.element-6.ensures.value (omega arith))
    (lane _ _ _ _ (record { sfits = c.halfword_number-3.type_inv }) c.halfword_number-3.ensures c.element-3.ensures.value (omega arith))
    (lane _ _ _ _ (record { sfits = c.halfword_number-4.type_inv }) c.halfword_number-4.ensures c.element-4.ensures.value (omega arith))
    (lane _ _ _ _ (record { sfits = c.halfword_number-7.type_inv }) c.halfword_number-7.ensures c.element-7.ensures.value (omega arith))
    (lane _ _ _ _ (record { sfits = c.halfword_number-8.type_inv }) c.halfword_number-8.ensures c.element-8.ensures.value (omega arith)))
