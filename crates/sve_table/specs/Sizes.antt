-- The elements that an operation has.
-- Source: DDI 0487, C8.2: the sizes of each instruction's encoding, but those that its page calls reserved.
use Rattle.std.specs.Prelude.{Bool, true, false, ◌&&◌, nat_le}
use Rattle.sm_types.specs.declared.vector as types
use types.{Elem.Elem, PredicatedBinaryOp.PredicatedBinaryOp, PredicatedUnaryOp.PredicatedUnaryOp}
use types.{ReductionOp.ReductionOp, ReductionOp.TheVariants.Saddv}
use types.Elem.TheVariants.{B, H, S, D}
use types.PredicatedBinaryOp.TheVariants.{Sdiv, Udiv}
use types.PredicatedUnaryOp.TheVariants.{Sxtb, Uxtb, Sxth, Uxth, Sxtw, Uxtw}
use Rattle.sve_table.specs.Values.{elem_number}

-- the elements are no narrower than the first and no wider than the second
abbrev pub is_size_between : Elem → Elem → Elem → Bool
is_size_between least widest size =
    nat_le (elem_number least) (elem_number size) && nat_le (elem_number size) (elem_number widest)

-- the narrowest elements: words are divided, and an extension is of less bits than it gives
unfoldable pub least_binary : PredicatedBinaryOp → Elem
least_binary Sdiv = S
least_binary Udiv = S
least_binary _ = B

unfoldable pub least_unary : PredicatedUnaryOp → Elem
least_unary Sxtb = H
least_unary Uxtb = H
least_unary Sxth = S
least_unary Uxth = S
least_unary Sxtw = D
least_unary Uxtw = D
least_unary _ = B

-- an immediate is not shifted by the 8 bits of a byte
unfoldable pub least_shifted : Bool → Elem
least_shifted true = H
least_shifted false = B

-- the widest elements: a sum by the sign has 64 bits, and its elements fewer
unfoldable pub widest_reduced : ReductionOp → Elem
widest_reduced Saddv = S
widest_reduced _ = D
