use Rattle.std.proofs.Common.{arith, ap, ap₂, take, ◌∙◌, ◌+◌, ◌*◌, ◌++◌}
use Rattle.std.specs.Int.{w16}
use Rattle.std.proofs.lemmas.Simd.{take_more_put_chunk}
use Rattle.vector_elements.specs.declared.size.Size.TheVariants.{B}
use Rattle.vector_elements.specs.Elements.{listed}
use Rattle.outer_products.proofs.Lanes.{eight_lanes, pair_lane}
use Rattle.outer_products.proofs.sources.byte_pairs.Goals as goal

pub returns : goal.returns
unfolding listed
returns c =
    let lane = pair_lane w16 B c.args.signed c.args.bytes.now 4 in
    take_more_put_chunk (16 * c.args.i) c.args.out.now _ (16 * c.args.i + 16) (omega arith) c.requires.out
    ∙ ap (λ xs. take (16 * c.args.i) c.args.out.now ++ xs)
    (ap₂ (λ a b. a ++ b)
    (eight_lanes
    (lane _ _ _ _ (record { sfits = c.byte_number.type_inv }) c.byte_number.ensures c.element.ensures.value (omega arith))
    (lane _ _ _ _ (record { sfits = c.byte_number-2.type_inv }) c.byte_number-2.ensures c.element-2.ensures.value (omega arith))
    (lane _ _ _ _ (record { sfits = c.byte_number-5.type_inv }) c.byte_number-5.ensures c.element-5.ensures.value (omega arith))
    (lane _ _ _ _ (record { sfits = c.byte_number-6.type_inv }) c.byte_number-6.ensures c.element-6.ensures.value (omega arith))
    (lane _ _ _ _ (record { sfits = c.byte_number-9.type_inv }) c.byte_number-9.ensures c.element-9.ensures.value (omega arith))
    (lane _ _ _ _ (record { sfits = c.byte_number-10.type_inv }) c.byte_number-10.ensures c.element-10.ensures.value (omega arith))
    (lane _ _ _ _ (record { sfits = c.byte_number-13.type_inv }) c.byte_number-13.ensures c.element-13.ensures.value (omega arith))
    (lane _ _ _ _ (record { sfits = c.byte_number-14.type_inv }) c.byte_number-14.ensures c.element-14.ensures.value (omega arith)))
    (eight_lanes
    (lane _ _ _ _ (record { sfits = c.byte_number-3.type_inv }) c.byte_number-3.ensures c.element-3.ensures.value (omega arith))
    (lane _ _ _ _ (record { sfits = c.byte_number-4.type_inv }) c.byte_number-4.ensures c.element-4.ensures.value (omega arith))
    (lane _ _ _ _ (record { sfits = c.byte_number-7.type_inv }) c.byte_number-7.ensures c.element-7.ensures.value (omega arith))
    (lane _ _ _ _ (record { sfits = c.byte_number-8.type_inv }) c.byte_number-8.ensures c.element-8.ensures.value (omega arith))
    (lane _ _ _ _ (record { sfits = c.byte_number-11.type_inv }) c.byte_number-11.ensures c.element-11.ensures.value (omega arith))
    (lane _ _ _ _ (record { sfits = c.byte_number-12.type_inv }) c.byte_number-12.ensures c.element-12.ensures.value (omega arith))
    (lane _ _ _ _ (record { sfits = c.byte_number-15.type_inv }) c.byte_number-15.ensures c.element-15.ensures.value (omega arith))
    (lane _ _ _ _ (record { sfits = c.byte_number-16.type_inv }) c.byte_number-16.ensures c.element-16.ensures.value (omega arith))))
