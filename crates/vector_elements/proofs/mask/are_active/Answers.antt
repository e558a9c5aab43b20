use Rattle.std.proofs.Common.{◌≡◌, ℕ, true, subst, sym, ◌==◌, bit_and}
use Rattle.vector_elements.proofs.Full.{active_if}
use Rattle.vector_elements.proofs.mask.are_active.Goals as goal

pub returns : goal.returns
returns c =
    let Holds : ℕ → Type 0 = λ n. (bit_and c.common_bits.result n == n) ≡ true in
    let both = active_if c.args.size c.common_bits.result c.args.p.now c.common_bits.type_inv c.common_bits.ensures in (
      λ holds. both.0 (subst Holds c.element_bits-bits.ensures holds),
      λ active.
          subst Holds (sym c.element_bits-bits.ensures) (both.1 active),
    )
