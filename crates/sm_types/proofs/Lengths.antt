-- A vector length is that of its bits.
use Rattle.std.proofs.Common.{◌≡◌, ◌==◌, ℕ, cond, refl, ap, sym, ◌∙◌}
use Rattle.sm_types.specs.Length.{bits_of}
use Rattle.sm_types.specs.declared.length.VecLen.{VecLen}
use Rattle.sm_types.specs.declared.length.VecLen.TheVariants.{Bits128, Bits256, Bits512, Bits1024, Bits2048}

-- the length of so many bits
length_of : ℕ → VecLen
length_of bits =
    cond (bits == 128) Bits128 (cond (bits == 256) Bits256 (cond (bits == 512) Bits512 (cond (bits == 1024) Bits1024 Bits2048)))

length-bits : (v : VecLen) → length_of (bits_of v) ≡ v
unfolding length_of
length-bits Bits128 = refl
length-bits Bits256 = refl
length-bits Bits512 = refl
length-bits Bits1024 = refl
length-bits Bits2048 = refl

-- lengths of the same bits are the same
pub same_length : (a b : VecLen) → bits_of a ≡ bits_of b → a ≡ b
same_length a b e = sym (length-bits a) ∙ ap length_of e ∙ length-bits b
