-- The word of four bytes within some that are there.
use Rattle.std.proofs.Common.{◌≡◌, ℕ, zero, suc, ◌+◌, ◌-◌, ◌%◌, ◌^◌, ◌<◌, ◌≤◌, List, [], ◌∷◌, ◌++◌, length, take, drop, refl, ap, sym, ◌∙◌, arith}
use Rattle.std.proofs.Common.{Option, Some, None, add-one}
use Rattle.std.proofs.lemmas.List.{length-append}
use Rattle.std.proofs.Math.Seq.{drop-append_seam, take-append_seam}
use Rattle.std.specs.Int.{from_le_bytes, w32}
use Rattle.paged_memory.specs.Memory.{AddressSpace, bytes_with, byte_with, and_byte, word_at}
use Rattle.paged_memory.proofs.Accesses.{joined, bytes_with-join}
use Rattle.paged_memory.proofs.Words.{word_read}

length_more : (o : Option (List ℕ)) (b : Option ℕ) (n : ℕ) (bs : List ℕ) → ((cs : List ℕ) → o ≡ Some cs → length cs ≡ n)
    → and_byte o b ≡ Some bs → length bs ≡ suc n
length_more None b n bs h e = cc
length_more (Some cs) None n bs h e = cc
length_more (Some cs) (Some b) n bs h e =
    let is : cs ++ b ∷ [] ≡ bs = cc in
    let more : length (cs ++ b ∷ []) ≡ length cs + 1 = length-append cs (b ∷ []) in
    ap length (sym is) ∙ more ∙ ap (λ k. k + 1) (h cs refl) ∙ add-one n

pub bytes_with-length : (need : ℕ) (m : AddressSpace) (a n : ℕ) (bs : List ℕ) → bytes_with need m a n ≡ Some bs → length bs ≡ n
unfolding bytes_with
bytes_with-length need m a zero bs e = let is : [] ≡ bs = cc in ap length (sym is)
bytes_with-length need m a (suc n) bs e =
    length_more (bytes_with need m a n) (byte_with need m ((a + n) % 2 ^ 64)) n bs (bytes_with-length need m a n) e

-- the second of two runs that are there together, as a part of both
second_part : (n : ℕ) (o p : Option (List ℕ)) (bs : List ℕ) → joined o p ≡ Some bs → ((cs : List ℕ) → o ≡ Some cs → length cs ≡ n)
    → p ≡ Some (drop n bs)
second_part n None p bs e h = cc
second_part n (Some cs) None bs e h = cc
second_part n (Some cs) (Some ds) bs e h =
    let is : cs ++ ds ≡ bs = cc in
    ap Some (sym (ap (λ (l : List ℕ). drop n l) (sym is) ∙ ap (λ (k : ℕ). drop k (cs ++ ds)) (sym (h cs refl)) ∙ drop-append_seam cs ds))

first_part : (n : ℕ) (o p : Option (List ℕ)) (bs : List ℕ) → joined o p ≡ Some bs → ((cs : List ℕ) → o ≡ Some cs → length cs ≡ n)
    → o ≡ Some (take n bs)
first_part n None p bs e h = cc
first_part n (Some cs) None bs e h = cc
first_part n (Some cs) (Some ds) bs e h =
    let is : cs ++ ds ≡ bs = cc in
    ap Some (sym (ap (λ (l : List ℕ). take n l) (sym is) ∙ ap (λ (k : ℕ). take k (cs ++ ds)) (sym (h cs refl)) ∙ take-append_seam cs ds))

-- bytes within those that are there
pub bytes_within : (need : ℕ) (m : AddressSpace) (a at n k : ℕ) (bs : List ℕ) → bytes_with need m a k ≡ Some bs → at + n ≤ k
    → a + k ≤ 2 ^ 64 → a + at < 2 ^ 64 → bytes_with need m (a + at) n ≡ Some (take n (drop at bs))
bytes_within need m a at n k bs e l low small =
    let there : (a + at) % 2 ^ 64 ≡ a + at = omega arith in
    let split : at + (k - at) ≡ k = omega arith in
    let whole : joined (bytes_with need m a at) (bytes_with need m (a + at) (k - at)) ≡ Some bs =
    ap (λ (x : ℕ). joined (bytes_with need m a at) (bytes_with need m x (k - at))) (sym there)
    ∙ sym (bytes_with-join need m a at (k - at)) ∙ ap (bytes_with need m a) split ∙ e in
    let rest : bytes_with need m (a + at) (k - at) ≡ Some (drop at bs) =
    second_part at (bytes_with need m a at) (bytes_with need m (a + at) (k - at)) bs whole (bytes_with-length need m a at) in
    let again : n + (k - at - n) ≡ k - at = omega arith in
    first_part n (bytes_with need m (a + at) n) (bytes_with need m ((a + at + n) % 2 ^ 64) (k - at - n)) (drop at bs)
    (sym (bytes_with-join need m (a + at) n (k - at - n)) ∙ ap (bytes_with need m (a + at)) again ∙ rest)
    (bytes_with-length need m (a + at) n)

-- the word within those of a page
pub word_within : (m : AddressSpace) (a at n : ℕ) (bs : List ℕ) → bytes_with 1 m a 4096 ≡ Some bs → at + 4 ≤ 4096
    → a + 4096 ≤ 2 ^ 64 → n ≡ from_le_bytes w32 (take (at + 4 - at) (drop at bs)) → word_at m (a + at) ≡ Some n
word_within m a at n bs e l low is =
    let there : bytes_with 1 m (a + at) 4 ≡ Some (take 4 (drop at bs)) = bytes_within 1 m a at 4 4096 bs e l low (omega arith) in
    let four : at + 4 - at ≡ 4 = omega arith in
    sym (word_read m m (a + at) n (take 4 (drop at bs)) refl there (bytes_with-length 1 m (a + at) 4 _ there)
    (is ∙ ap (λ (k : ℕ). from_le_bytes w32 (take k (drop at bs))) four))
