-- Numbers of bytes in memory.
use Rattle.std.proofs.Common.{◌≡◌, ℕ, List, take, refl, ap, sym, ◌∙◌, Some, None}
use Rattle.std.specs.Int.{w64, to_le_bytes, bytes_low_first}
use Rattle.sm_types.specs.declared.insn.AccessSize.{AccessSize}
use Rattle.sm_types.specs.declared.insn.AccessSize.TheVariants.{Byte, Halfword, Word, Doubleword}
use Rattle.sm_types.specs.Bytes.{little_number}
use Rattle.paged_memory.specs.Memory.{AddressSpace, bytes_with, set_bytes}
use Rattle.paged_memory.proofs.Accesses.{first_without-none}
use Rattle.mem_access.specs.Access.{bytes_in}
use Rattle.mem_access.specs.Values.{number_or_zero}
use Rattle.mem_access.specs.Runs.{denied_read, number_in, with_number}

-- bytes that were read, as many as were wanted
pub number_read : (m : AddressSpace) (a k n v : ℕ) (bs : List ℕ) → bytes_with 4 m a k ≡ Some bs → k ≡ n → v ≡ little_number bs
    → v ≡ number_in m a n
unfolding number_in
number_read m a k n v bs there count is = is ∙ sym (rw (← count) (ap number_or_zero there))

pub none_denied : (m : AddressSpace) (a k n : ℕ) (bs : List ℕ) → bytes_with 4 m a k ≡ Some bs → k ≡ n → denied_read m a n ≡ None
none_denied m a k n bs there count = rw (← count, first_without-none 4 m a k (rw there refl)) refl

-- the low bytes of a value, of all eight
low_bytes_of : (size : AccessSize) (v : ℕ) → take (bytes_in size) (to_le_bytes w64 v) ≡ bytes_low_first 0 (bytes_in size) v
low_bytes_of Byte v = refl
low_bytes_of Halfword v = refl
low_bytes_of Word v = refl
low_bytes_of Doubleword v = refl

-- bytes that were written, as many as were wanted
pub number_written : (m new : AddressSpace) (a k v : ℕ) (size : AccessSize) (bs : List ℕ) → new ≡ record m { mem = set_bytes m.mem a bs }
    → bs ≡ take k (to_le_bytes w64 v) → k ≡ bytes_in size → new ≡ with_number m a (bytes_in size) v
unfolding with_number
number_written m new a k v size bs is low count =
    is ∙ ap (λ xs. record m { mem = set_bytes m.mem a xs }) (low ∙ rw count (low_bytes_of size v))
