-- The places of the words of a page.
use Rattle.std.proofs.Common.{◌≡◌, ℕ, ◌<◌, ◌%◌, ◌^◌, ◌-◌, bit_and, ap, sym, ◌∙◌, refl, arith, lit≤}
use Rattle.std.proofs.Common.{Option, Some, List, length, get_or}
use Rattle.std.proofs.lemmas.Option.{slice_get-get_or}
use Rattle.machine_step.specs.declared.decoder.Decoded.{Decoded}
use Rattle.paged_memory.specs.Memory.{AddressSpace, word_at}
use Rattle.std.proofs.lemmas.Nat.{and_assoc, and_mask}
use Rattle.std.proofs.lemmas.Nat.Bits.{and_high_mask}

masked : (n a b c : ℕ) → bit_and a b ≡ c → bit_and n a ≡ 0 → bit_and n c ≡ 0
masked n a b c e h = ap (bit_and n) (sym e) ∙ sym (and_assoc b n a) ∙ ap (λ k. bit_and k b) h

pub place_within : (n : ℕ) → n < 2 ^ 64 → bit_and n 0xFFFF_FFFF_FFFF_F003 ≡ 0 → n < 4096
place_within n lt h =
    let z : bit_and n (2 ^ 64 - 2 ^ 12) ≡ 0 = masked n 0xFFFF_FFFF_FFFF_F003 (2 ^ 64 - 2 ^ 12) (2 ^ 64 - 2 ^ 12) refl h in
    let e = and_high_mask 64 12 (lit≤ tt) n lt in
    omega (arith, e, z)

pub place_aligned : (n : ℕ) → bit_and n 0xFFFF_FFFF_FFFF_F003 ≡ 0 → n % 4 ≡ 0
place_aligned n h = sym (and_mask n 2) ∙ masked n 0xFFFF_FFFF_FFFF_F003 3 3 refl h

pub fetched_at : (m : AddressSpace) (pc place : ℕ) (word : Option ℕ) → place ≡ pc → word_at m place ≡ word → word_at m pc ≡ word
fetched_at m pc place word same h = ap (λ (p : ℕ). word_at m p) (sym same) ∙ h

-- the word at a place of a list
pub word_there : (places : List Decoded) (i : ℕ) (p d : Decoded) → i < length places → p ≡ get_or places i p
    → (get_or places i d).word ≡ p.word
word_there places i p d l is =
    let some : Some (get_or places i d) ≡ Some (get_or places i p) =
    sym (slice_get-get_or places i d l) ∙ slice_get-get_or places i p l in
    let same : get_or places i d ≡ get_or places i p = cc in
    ap (λ (k : Decoded). k.word) (same ∙ sym is)
