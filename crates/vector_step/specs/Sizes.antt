-- The elements of an instruction, and the lengths of vectors.
use Rattle.std.specs.Prelude.{◌≡◌, ℕ, ◌*◌, ◌%◌, ◌≤◌}
use Rattle.sm_types.specs.declared.vector.Elem.{Elem}
use Rattle.sm_types.specs.declared.vector.Elem.TheVariants as elem
use Rattle.vector_elements.specs.declared.size.Size.{Size}
use Rattle.vector_elements.specs.declared.size.Size.TheVariants.{B, H, S, D}
use Rattle.vector_elements.specs.Numbers.{bytes_in}

-- their size; the instructions that do not access memory or ZA have none of 128 bits
abbrev pub element_size : Elem → Size
element_size elem.B = B
element_size elem.H = H
element_size elem.S = S
element_size elem.D = D
element_size elem.Q = D

-- a length of vectors in bytes: whole elements of each size, and whole pairs of them
pub record IsVectorLength (bytes : ℕ) : Type 0 where
  pub least : 16 ≤ bytes
  pub small : bytes ≤ 256
  pub eights : bytes % 8 ≡ 0
  pub whole : (size : Size) → bytes % bytes_in size ≡ 0
  pub pairs : (size : Size) → bytes % (2 * bytes_in size) ≡ 0
