-- Bytes of which each can be read or written, in memory that has more.
use Rattle.std.proofs.Common.{◌≡◌, ℕ, zero, suc, ◌+◌, ◌%◌, ◌^◌, Option, Some, None, refl}
use Rattle.std.specs.Prelude.{IsSome}
use Rattle.plain_lemmas.proofs.Options.{neither_some}
use Rattle.paged_memory.specs.Memory.{AddressSpace, byte_with, unless_there, first_without}

there_then : (x : ℕ) (old new : Option ℕ) → (IsSome old → IsSome new) → unless_there x old ≡ None → unless_there x new ≡ None
there_then x None new f h = cc
there_then x (Some b) None f h = let there : IsSome {T = ℕ} None = f refl in cc
there_then x (Some b) (Some c) f h = refl

-- each of some bytes can still be accessed
pub still_none : (need : ℕ) (m new : AddressSpace) (a n : ℕ) → ((k : ℕ) → IsSome (byte_with need m k) → IsSome (byte_with need new k))
    → first_without need m a n ≡ None → first_without need new a n ≡ None
unfolding first_without
still_none need m new a zero f h = refl
still_none need m new a (suc n) f h =
    let parts : (first_without need m a n ≡ None) × (unless_there ((a + n) % 2 ^ 64) (byte_with need m ((a + n) % 2 ^ 64)) ≡ None) =
    neither_some (first_without need m a n) (unless_there ((a + n) % 2 ^ 64) (byte_with need m ((a + n) % 2 ^ 64))) h in
    rw (
      still_none need m new a n f parts.0,
      there_then ((a + n) % 2 ^ 64) (byte_with need m ((a + n) % 2 ^ 64)) (byte_with need new ((a + n) % 2 ^ 64))
          (f ((a + n) % 2 ^ 64)) parts.1,
    ) refl
