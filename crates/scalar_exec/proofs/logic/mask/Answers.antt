use Rattle.std.proofs.Common.{◌≡◌, true, false, sym, ◌∙◌, ap₂}
use Rattle.bit_ops.specs.Masks.{are_mask_fields}
use Rattle.scalar_exec.proofs.WordMasks.{ones_below, length_long, length_short}
use Rattle.scalar_exec.proofs.logic.mask.Goals as goal

pub long_mask-requires : goal.long_mask-requires
long_mask-requires c =
    let x = c.args.x.now in
    let fields : are_mask_fields true x.imms x.immr true ≡ true =
    ap₂ (λ n wide. are_mask_fields n x.imms x.immr wide) (sym c.in-true-true.is-0) (sym c.in-true-true.is-1) ∙ c.requires.mask in
    let below = ones_below true true x.imms x.immr 6 (length_long x.imms) c.requires.imms fields in
    record { imms = below.0; immr = below.1 }

pub short_mask-requires : goal.short_mask-requires
short_mask-requires c =
    let x = c.args.x.now in
    let fields : are_mask_fields false x.imms x.immr false ≡ true =
    ap₂ (λ n wide. are_mask_fields n x.imms x.immr wide) (sym c.in-false-false.is-0) (sym c.in-false-false.is-1) ∙ c.requires.mask in
    let below = ones_below false false x.imms x.immr 5 (length_short x.imms c.if-x-lt32.true) c.if-x-lt32.true fields in
    record { imms = below.0; immr = below.1 }
