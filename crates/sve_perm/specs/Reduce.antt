-- Reductions of the active elements of a vector to one number.
-- Source: DDI 0487, C8.2: SADDV, UADDV, SMAXV, UMAXV, SMINV, UMINV, ORV, EORV and ANDV.
use Rattle.std.specs.Prelude.{ℕ, ◌-◌, ◌%◌, ◌^◌, min, max, List, fold, sum, bit_and, bit_or, bit_xor}
use Rattle.std.specs.Prelude.{pos, ◌+ℤ◌}
use Rattle.std.specs.Simd.Lanes.{digits_l}
use Rattle.sm_types.specs.declared.vector.ReductionOp.{ReductionOp}
use Rattle.sm_types.specs.declared.vector.ReductionOp.TheVariants.{Saddv, Uaddv, Smaxv, Umaxv, Sminv, Uminv}
use Rattle.sm_types.specs.declared.vector.ReductionOp.TheVariants.{Orv, Eorv, Andv}
use Rattle.sm_types.specs.declared.vector.PredicatedBinaryOp.TheVariants.{Smax, Smin}
use Rattle.vector_elements.specs.declared.size.Size.{Size}
use Rattle.vector_elements.specs.declared.size.Size.TheVariants.{D}
use Rattle.vector_elements.specs.Numbers.{range_of, half_of, signed_of, wrapped}
use Rattle.sve_exec.specs.Binary.{binary_of}
use Rattle.sve_perm.specs.Active.{active_elements}

-- the operation on some elements, from its neutral value on: for a sum 0, for the greatest the least number,
-- and so on. Sums are of 64 bits
unfoldable pub reduction_of : ReductionOp → Size → List ℕ → ℕ
reduction_of Saddv size xs = wrapped D (fold (λ total x. total +ℤ signed_of size x) (pos 0) xs)
reduction_of Uaddv size xs = sum xs % 2 ^ 64
reduction_of Smaxv size xs = fold (binary_of Smax size) (half_of size) xs
reduction_of Umaxv size xs = fold max 0 xs
reduction_of Sminv size xs = fold (binary_of Smin size) (half_of size - 1) xs
reduction_of Uminv size xs = fold min (range_of size - 1) xs
reduction_of Orv size xs = fold bit_or 0 xs
reduction_of Eorv size xs = fold bit_xor 0 xs
reduction_of Andv size xs = fold bit_and (range_of size - 1) xs

-- the size of the result
abbrev pub result_size : ReductionOp → Size → Size
result_size Saddv size = D
result_size Uaddv size = D
result_size Smaxv size = size
result_size Umaxv size = size
result_size Sminv size = size
result_size Uminv size = size
result_size Orv size = size
result_size Eorv size = size
result_size Andv size = size

-- the operation on the active elements of a vector
unfoldable pub reduced : ReductionOp → Size → List ℕ → List ℕ → ℕ
reduced op size pg n = reduction_of op size (active_elements size pg n)

-- ZeroExtend: a number as a vector of so many bytes
abbrev pub scalar_vector : ℕ → ℕ → List ℕ
scalar_vector bytes value = digits_l 256 bytes value
