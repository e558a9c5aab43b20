-- Bytes that may all be accessed are in pages.
use Rattle.std.proofs.Common.{◌≡◌, ℕ, ◌+◌, ◌/◌, ◌%◌, ◌^◌, ◌<◌, ◌≤◌, refl, arith, Option, Some, None}
use Rattle.std.specs.Prelude.{IsSome}
use Rattle.std.specs.FinMap.{get}
use Rattle.paged_memory.specs.Memory.{AddressSpace, byte_with, first_without, permitted}
use Rattle.paged_memory.specs.Parts.{AreMapped}
use Rattle.paged_memory.proofs.Accesses.{first_without-at, first_without-stays}

none_before : (need : ℕ) (m : AddressSpace) (a n k : ℕ) (o : Option ℕ) → first_without need m a k ≡ o → first_without need m a n ≡ None
    → k ≤ n → o ≡ None
none_before need m a n k None is none l = refl
none_before need m a n k (Some x) is none l = let there : first_without need m a n ≡ Some x = first_without-stays need m a k n x is l in cc

byte_there : (need : ℕ) (m : AddressSpace) (a n k : ℕ) (o : Option ℕ) → byte_with need m ((a + k) % 2 ^ 64) ≡ o
    → first_without need m a n ≡ None → k < n → IsSome o
byte_there need m a n k None is none l =
    let before : first_without need m a k ≡ None = none_before need m a n k (first_without need m a k) refl none (omega arith) in
    let stop : first_without need m a n ≡ Some ((a + k) % 2 ^ 64) = first_without-at need m a k n before is l in
    cc
byte_there need m a n k (Some b) is none l = refl

flags_there : (need : ℕ) (flags byte : Option ℕ) → IsSome (permitted need flags byte) → IsSome flags
flags_there need None byte h = cc
flags_there need (Some f) byte h = refl

pub permitted_mapped : (need : ℕ) (m : AddressSpace) (a n : ℕ) → first_without need m a n ≡ None → AreMapped m a n
unfolding byte_with
permitted_mapped need m a n none k l =
    let at : ℕ = (a + k) % 2 ^ 64 in
    flags_there need (get m.perm (at / 4096)) (get m.mem at) (byte_there need m a n k (byte_with need m at) refl none l)
