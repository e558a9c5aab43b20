-- Bytes each of which may be read, and the bytes that are read.
use Rattle.std.proofs.Common.{◌≡◌, ◌≢◌, ℕ, zero, suc, ◌+◌, ◌%◌, ◌^◌, List, Option, Some, None, refl, sym, ◌∙◌}
use Rattle.std.specs.Prelude.{IsSome}
use Rattle.plain_lemmas.proofs.Options.{second_none, first_none}
use Rattle.paged_memory.specs.Memory.{AddressSpace, byte_with, bytes_with, and_byte, unless_there, first_without}
use Rattle.paged_memory.proofs.Accesses.{first_without-none}

is_there : (a : ℕ) (b : Option ℕ) → unless_there a b ≡ None → IsSome b
is_there a None h = cc
is_there a (Some b) h = refl

both_there : (o : Option (List ℕ)) (b : Option ℕ) → IsSome o → IsSome b → IsSome (and_byte o b)
both_there None b h g = cc
both_there (Some bs) None h g = cc
both_there (Some bs) (Some b) h g = refl

all_there : (need : ℕ) (m : AddressSpace) (a n : ℕ) → first_without need m a n ≡ None → IsSome (bytes_with need m a n)
unfolding bytes_with first_without
all_there need m a zero h = refl
all_there need m a (suc n) h =
    let byte = byte_with need m ((a + n) % 2 ^ 64) in
    both_there (bytes_with need m a n) byte (all_there need m a n (first_none (first_without need m a n) _ h))
    (is_there ((a + n) % 2 ^ 64) byte (second_none (first_without need m a n) _ h))

some_is : (o : Option (List ℕ)) → IsSome o → o ≢ None
some_is None h = cc
some_is (Some bs) h = λ e. cc

none_is : (o : Option (List ℕ)) → ¬ IsSome o → o ≡ None
none_is None h = refl
none_is (Some bs) h = absurd (h refl)

-- where none is without, they are read
pub readable : (need : ℕ) (m : AddressSpace) (a n : ℕ) → first_without need m a n ≡ None → bytes_with need m a n ≢ None
readable need m a n h = some_is (bytes_with need m a n) (all_there need m a n h)

-- and where one is, they are not
pub unreadable : (need : ℕ) (m : AddressSpace) (a n x : ℕ) → first_without need m a n ≡ Some x → bytes_with need m a n ≡ None
unreadable need m a n x h =
    none_is (bytes_with need m a n) (λ there.
    let none = first_without-none need m a n there in cc (sym h ∙ none))
