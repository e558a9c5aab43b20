-- The word of four bytes.
use Rattle.std.proofs.Common.{◌≡◌, ℕ, List, [], ◌∷◌, length, refl, ap, sym, ◌∙◌, arith, Some, None}
use Rattle.std.specs.Int.{from_le_bytes, w32}
use Rattle.sm_types.specs.Bytes.{little_number}
use Rattle.paged_memory.specs.Memory.{AddressSpace, bytes_with, word_at}

four_bytes : (bs : List ℕ) → length bs ≡ 4 → little_number bs ≡ from_le_bytes w32 bs
four_bytes (a ∷ b ∷ c ∷ d ∷ []) h = omega arith
four_bytes (a ∷ b ∷ c ∷ d ∷ e ∷ bs) h = absurd (omega arith)
four_bytes (a ∷ b ∷ c ∷ []) h = absurd (omega arith)
four_bytes (a ∷ b ∷ []) h = absurd (omega arith)
four_bytes (a ∷ []) h = absurd (omega arith)
four_bytes [] h = absurd (omega arith)

pub word_read : (m now : AddressSpace) (pc n : ℕ) (bs : List ℕ) → m ≡ now → bytes_with 1 m pc 4 ≡ Some bs → length bs ≡ 4
    → n ≡ from_le_bytes w32 bs → Some n ≡ word_at now pc
unfolding word_at
word_read m now pc n bs e there four is = rw (← e, there) (ap Some (is ∙ sym (four_bytes bs four)))

pub word_none : (m now : AddressSpace) (pc : ℕ) → m ≡ now → bytes_with 1 m pc 4 ≡ None → None ≡ word_at now pc
unfolding word_at
word_none m now pc e gone = rw (← e, gone) refl
