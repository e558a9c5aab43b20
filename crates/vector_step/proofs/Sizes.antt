-- A vector has whole elements of each size.
use Rattle.std.proofs.Common.{◌≡◌, ◌≢◌, ℕ, ◌*◌, ◌%◌, ◌≤◌, Bool, true, false, IsTrue, refl, arith}
use Rattle.sm_types.specs.declared.length.VecLen.{VecLen}
use Rattle.sm_types.specs.declared.length.VecLen.TheVariants.{Bits128, Bits256, Bits512, Bits1024, Bits2048}
use Rattle.sm_types.specs.declared.vector.Elem.{Elem}
use Rattle.sm_types.specs.declared.vector.Elem.TheVariants as elem
use Rattle.vector_elements.specs.declared.size.Size.{Size}
use Rattle.vector_elements.specs.declared.size.Size.TheVariants.{B, H, S, D}
use Rattle.vector_elements.specs.Numbers.{bytes_in}
use Rattle.sve_table.specs.Sizes.{is_size_between}
use Rattle.sve_vectors.specs.Lengths.{vector_bytes, current_bytes}
use Rattle.sve_vectors.specs.State.{SveState, length_of}
use Rattle.vector_step.specs.Sizes.{element_size, IsVectorLength}

whole_elements : (size : Size) (n : ℕ) → n % 16 ≡ 0 → n % bytes_in size ≡ 0
whole_elements B n e = omega arith
whole_elements H n e = omega (arith, e)
whole_elements S n e = omega (arith, e)
whole_elements D n e = omega (arith, e)

whole_pairs : (size : Size) (n : ℕ) → n % 16 ≡ 0 → n % (2 * bytes_in size) ≡ 0
whole_pairs B n e = omega (arith, e)
whole_pairs H n e = omega (arith, e)
whole_pairs S n e = omega (arith, e)
whole_pairs D n e = omega (arith, e)

a_length : (n : ℕ) → 16 ≤ n → n ≤ 256 → n % 16 ≡ 0 → IsVectorLength n
a_length n le small e = record {
  least = le;
  small = small;
  eights = omega (arith, e);
  whole = λ size. whole_elements size n e;
  pairs = λ size. whole_pairs size n e;
}

one_length : (length : VecLen) → IsVectorLength (vector_bytes length)
one_length Bits128 = a_length 16 (omega arith) (omega arith) refl
one_length Bits256 = a_length 32 (omega arith) (omega arith) refl
one_length Bits512 = a_length 64 (omega arith) (omega arith) refl
one_length Bits1024 = a_length 128 (omega arith) (omega arith) refl
one_length Bits2048 = a_length 256 (omega arith) (omega arith) refl

current_length : (vl svl : VecLen) (on : Bool) → IsVectorLength (current_bytes vl svl on)
current_length vl svl true = one_length svl
current_length vl svl false = one_length vl

-- the current length of vectors is such a length
pub is_length : (s : SveState) → IsVectorLength (length_of s)
is_length s = current_length s.vl s.svl s.streaming

-- elements wider than a byte are not bytes
pub wider_than_byte : (e : Elem) → IsTrue (is_size_between elem.H elem.D e) → element_size e ≢ B
wider_than_byte elem.B h = λ same. cc h
wider_than_byte elem.H h = λ same. cc
wider_than_byte elem.S h = λ same. cc
wider_than_byte elem.D h = λ same. cc
wider_than_byte elem.Q h = λ same. cc
