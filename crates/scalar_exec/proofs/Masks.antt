-- The fields of a mask that have a row of the table are not reserved.
use Rattle.std.proofs.Common.{refl, ◌≡◌, ℕ, Bool, true, not, Some}
use Rattle.std.proofs.lemmas.Bool.{and_parts, not-true}
use Rattle.bit_ops.specs.Masks.{are_mask_fields, is_reserved, mask_of, bit_mask_of}

-- the value of the mask
pub mask-is : (wide n : Bool) (imms immr : ℕ) → are_mask_fields n imms immr wide ≡ true
    → bit_mask_of n imms immr wide ≡ Some (mask_of n imms immr wide)
unfolding bit_mask_of are_mask_fields
mask-is wide n imms immr it = let free = not-true (is_reserved n imms wide) (and_parts _ _ it).0 in rw free refl
