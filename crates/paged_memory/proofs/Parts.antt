-- The parts of an image, taken from the last to the first.
use Rattle.std.proofs.Common.{inl, inr, ◌≡◌, ℕ, zero, suc, ◌+◌, ◌-◌, ◌/◌, ◌%◌, ◌^◌, ◌<◌, ◌≤◌, true, false, List, [], ◌∷◌, length, get_or, drop}
use Rattle.std.proofs.Common.{map, refl, ap, sym, ◌∙◌, arith, Option, Some, None, slice_get, All}
use Rattle.std.specs.Prelude.{◌&&◌, nat_le, nat_lt, IsSome}
use Rattle.std.proofs.lemmas.Bool.Decides.{nat_tests}
use Rattle.std.proofs.lemmas.Option.{slice_get-get_or, slice_get_past}
use Rattle.std.proofs.lemmas.Bool.{cases_lt}
use Rattle.paged_memory.specs.declared.image.Part.{Part}
use Rattle.std.specs.Option.{option_or}
use Rattle.paged_memory.specs.Image.{Extent, extent_of, union, part_flags, image_flags, part_byte, parts_byte, image_byte, or_zero, zero_in}
use Rattle.std.specs.FinMap.{get}
use Rattle.paged_memory.specs.Memory.{AddressSpace}
use Rattle.paged_memory.specs.Parts.{IsPlaced, AreApart, AreMapped}
use Rattle.paged_memory.proofs.Over.{over, over-below, over-above, over-inside}

-- ---- the list of extents

pub extent_at : (parts : List Part) (i : ℕ) (d : Part) (e : Extent) → i < length parts
    → get_or (map extent_of parts) i e ≡ extent_of (get_or parts i d)
extent_at [] i d e l = absurd (omega arith)
extent_at (p ∷ parts) zero d e l = refl
extent_at (p ∷ parts) (suc i) d e l = extent_at parts i d e (omega arith)

pub count_extents : (parts : List Part) → length (map extent_of parts) ≡ length parts
count_extents [] = refl
count_extents (p ∷ parts) = ap suc (count_extents parts)

pub extents_from : (parts : List Part) (i : ℕ) (d : Part) → i < length parts → drop i (map extent_of parts) ≡ extent_of (get_or parts i d)
    ∷ drop (i + 1) (map extent_of parts)
extents_from [] i d l = absurd (omega arith)
extents_from (p ∷ parts) zero d l = refl
extents_from (p ∷ parts) (suc i) d l = let e : suc i + 1 ≡ suc (i + 1) = omega arith in rw e (extents_from parts i d (omega arith))

pub no_extents : (parts : List Part) → drop (length parts) (map extent_of parts) ≡ []
no_extents [] = refl
no_extents (p ∷ parts) = no_extents parts

-- what holds of each extent, at a part
pub placed_at : (P : Extent → Type 0) (parts : List Part) (i : ℕ) (d : Part) → All P (map extent_of parts) → i < length parts
    → P (extent_of (get_or parts i d))
placed_at P parts i d all l =
    let inside : i < length (map extent_of parts) = rw (count_extents parts) l in
    rw (← extent_at parts i d (extent_of d) l) (all i (extent_of d) inside)

-- ---- flags

pub flags_of_none : (parts : List Part) (n : ℕ) → None ≡ image_flags (drop (length parts) (map extent_of parts)) n
unfolding image_flags
flags_of_none parts n = rw (no_extents parts) refl

pub flags_of_more : (parts : List Part) (i : ℕ) (d : Part) (n : ℕ) (old new : Option ℕ) → i < length parts
    → old ≡ image_flags (drop (i + 1) (map extent_of parts)) n → new ≡ union (part_flags (extent_of (get_or parts i d)) n) old
    → new ≡ image_flags (drop i (map extent_of parts)) n
unfolding image_flags
flags_of_more parts i d n old new l before is = is ∙ rw (extents_from parts i d l, before) refl

some_left : (f : ℕ) (o : Option ℕ) → IsSome (union (Some f) o)
some_left f None = refl
some_left f (Some g) = refl

some_right : (o p : Option ℕ) → IsSome p → IsSome (union o p)
some_right None p h = h
some_right (Some f) None h = refl
some_right (Some f) (Some g) h = refl

-- a page that one of them touches is touched
pub touched_there : (parts : List Extent) (n i : ℕ) (d : Extent) → i < length parts
    → part_flags (get_or parts i d) n ≡ Some (get_or parts i d).flags → IsSome (image_flags parts n)
unfolding image_flags
touched_there [] n i d l h = absurd (omega arith)
touched_there (p ∷ parts) n zero d l h = rw h (some_left p.flags (image_flags parts n))
touched_there (p ∷ parts) n (suc i) d l h = some_right (part_flags p n) (image_flags parts n) (touched_there parts n i d (omega arith) h)

pub touches : (p : Extent) (a : ℕ) → p.address ≤ a → a < p.address + p.size → part_flags p (a / 4096) ≡ Some p.flags
touches p a h l =
    let e : (nat_lt 0 p.size && nat_le (p.address / 4096) (a / 4096) && nat_le (a / 4096) ((p.address + p.size - 1) / 4096)) ≡ true =
    grind (arith, nat_tests) in rw e refl

pub touched_at : (parts : List Part) (i : ℕ) (d : Part) (a : ℕ) → i < length parts → (extent_of (get_or parts i d)).address ≤ a
    → a < (extent_of (get_or parts i d)).address + (extent_of (get_or parts i d)).size
    → IsSome (image_flags (map extent_of parts) (a / 4096))
touched_at parts i d a l h m =
    let inside : i < length (map extent_of parts) = rw (count_extents parts) l in
    let flags : part_flags (get_or (map extent_of parts) i (extent_of d)) (a / 4096)
    ≡ Some (get_or (map extent_of parts) i (extent_of d)).flags =
    rw (extent_at parts i d (extent_of d) l) (touches (extent_of (get_or parts i d)) a h m) in
    touched_there (map extent_of parts) (a / 4096) i (extent_of d) inside flags

-- ---- bytes

part_byte-inside : (p : Extent) (a : ℕ) → p.address ≤ a → a < p.address + p.size
    → part_byte p a ≡ Some (or_zero (slice_get p.bytes (a - p.address)))
part_byte-inside p a h l = let e : (nat_le p.address a && nat_lt a (p.address + p.size)) ≡ true = grind (arith, nat_tests) in rw e refl

part_byte-below : (p : Extent) (a : ℕ) → a < p.address → part_byte p a ≡ None
part_byte-below p a h = let e : (nat_le p.address a && nat_lt a (p.address + p.size)) ≡ false = grind (arith, nat_tests) in rw e refl

part_byte-above : (p : Extent) (a : ℕ) → p.address + p.size ≤ a → part_byte p a ≡ None
part_byte-above p a h = let e : (nat_le p.address a && nat_lt a (p.address + p.size)) ≡ false = grind (arith, nat_tests) in rw e refl

-- the bytes of a part put over those of the parts after it
pub part_put : (p : Extent) (rest : List Extent) (a : ℕ) (z old new : Option ℕ) → length p.bytes ≤ p.size
    → (IsSome (part_byte p a) → parts_byte rest a ≡ None) → (p.address ≤ a → a < p.address + p.size → z ≡ Some 0)
    → old ≡ option_or (parts_byte rest a) z → new ≡ over p.address p.bytes a old
    → new ≡ option_or (option_or (part_byte p a) (parts_byte rest a)) z
part_put p rest a z old new fits apart there before is =
    elim (cases_lt a p.address) [
      | inl l ↦ is ∙ over-below p.address p.bytes a old l ∙ before ∙ sym (rw (part_byte-below p a l) refl)
      | inr g ↦ elim (cases_lt a (p.address + p.size)) [
        | inl m ↦
            let mine : part_byte p a ≡ Some (or_zero (slice_get p.bytes (a - p.address))) = part_byte-inside p a g m in
            elim (cases_lt a (p.address + length p.bytes)) [
              | inl b ↦
                  let byte : slice_get p.bytes (a - p.address) ≡ Some (get_or p.bytes (a - p.address) 0) =
                  slice_get-get_or p.bytes (a - p.address) 0 (omega arith) in
                  is ∙ over-inside p.address p.bytes a old g b ∙ sym (rw (mine, byte) refl)
              | inr q ↦
                  let past : slice_get p.bytes (a - p.address) ≡ None = slice_get_past p.bytes (a - p.address) (omega arith) in
                  let none : parts_byte rest a ≡ None = apart (rw mine refl) in
                  is ∙ over-above p.address p.bytes a old q ∙ before ∙ rw (none, mine, past) (there g m)
            ]
        | inr m ↦ is ∙ over-above p.address p.bytes a old (omega arith) ∙ before ∙ sym (rw (part_byte-above p a m) refl)
      ]
    ]

pub apart_from : (parts : List Part) (i : ℕ) (d : Part) (a : ℕ) → AreApart (map extent_of parts) → i < length parts
    → IsSome (part_byte (extent_of (get_or parts i d)) a) → parts_byte (drop (i + 1) (map extent_of parts)) a ≡ None
apart_from [] i d a h l s = absurd (omega arith)
apart_from (p ∷ parts) zero d a h l s = h.0 a s
apart_from (p ∷ parts) (suc i) d a h l s =
    let e : suc i + 1 ≡ suc (i + 1) = omega arith in rw e (apart_from parts i d a h.1 (omega arith) s)

zero_of_some : (o : Option ℕ) → IsSome o → zero_in o ≡ Some 0
zero_of_some None h = cc
zero_of_some (Some f) h = refl

pub bytes_of_none : (parts : List Part) (a : ℕ) (z old : Option ℕ) → old ≡ z
    → old ≡ option_or (parts_byte (drop (length parts) (map extent_of parts)) a) z
unfolding parts_byte
bytes_of_none parts a z old h = rw (no_extents parts) h

pub bytes_of_more : (parts : List Part) (i : ℕ) (d : Part) (a : ℕ) (old new : Option ℕ) → AreApart (map extent_of parts) → i < length parts
    → length (extent_of (get_or parts i d)).bytes ≤ (extent_of (get_or parts i d)).size
    → old ≡ option_or (parts_byte (drop (i + 1) (map extent_of parts)) a) (zero_in (image_flags (map extent_of parts) (a / 4096)))
    → new ≡ over (extent_of (get_or parts i d)).address (extent_of (get_or parts i d)).bytes a old
    → new ≡ option_or (parts_byte (drop i (map extent_of parts)) a) (zero_in (image_flags (map extent_of parts) (a / 4096)))
unfolding parts_byte
bytes_of_more parts i d a old new h l fits before is =
    rw (extents_from parts i d l) (part_put (extent_of (get_or parts i d)) (drop (i + 1) (map extent_of parts)) a
    (zero_in (image_flags (map extent_of parts) (a / 4096))) old new fits
    (apart_from parts i d a h l) (λ g m. zero_of_some (image_flags (map extent_of parts) (a / 4096)) (touched_at parts i d a l g m)) before
    is)

pub bytes_of_all : (parts : List Extent) (a : ℕ) (o : Option ℕ)
    → o ≡ option_or (parts_byte parts a) (zero_in (image_flags parts (a / 4096))) → o ≡ image_byte parts a
unfolding image_byte
bytes_of_all parts a o h = h

-- ---- places

pub placed_low : (p : Extent) → IsPlaced p → 0 < p.size → p.address + p.size ≤ 2 ^ 62
placed_low p placed h =
    let last : (p.address + p.size - 1) / 4096 < 2 ^ 35 = (placed.places (p.address + p.size - 1) (omega arith) (omega arith)).0 in
    omega arith

pub placed_bytes_low : (p : Extent) → IsPlaced p → 0 < length p.bytes → p.address + length p.bytes < 2 ^ 64
placed_bytes_low p placed h =
    let within : length p.bytes ≤ p.size = placed.inside in
    let low : p.address + p.size ≤ 2 ^ 62 = placed_low p placed (omega arith) in
    omega arith

-- the bytes of a part are in pages that are touched
pub bytes_touched : (parts : List Part) (i : ℕ) (d : Part) (a : ℕ) → All IsPlaced (map extent_of parts) → i < length parts
    → (extent_of (get_or parts i d)).address ≤ a → a < (extent_of (get_or parts i d)).address + length (extent_of (get_or parts i d)).bytes
    → IsSome (image_flags (map extent_of parts) (a / 4096))
bytes_touched parts i d a all l g m =
    let within : length (extent_of (get_or parts i d)).bytes ≤ (extent_of (get_or parts i d)).size =
    (placed_at IsPlaced parts i d all l).inside in
    touched_at parts i d a l g (omega arith)

pub bytes_mapped : (parts : List Part) (i : ℕ) (d : Part) (m : AddressSpace) → All IsPlaced (map extent_of parts) → i < length parts
    → ((n : ℕ) → get m.perm n ≡ image_flags (map extent_of parts) n)
    → AreMapped m (extent_of (get_or parts i d)).address (length (extent_of (get_or parts i d)).bytes)
bytes_mapped parts i d m all l flags k inside =
    let low : (extent_of (get_or parts i d)).address + length (extent_of (get_or parts i d)).bytes < 2 ^ 64 =
    placed_bytes_low (extent_of (get_or parts i d)) (placed_at IsPlaced parts i d all l) (omega arith) in
    let place : ((extent_of (get_or parts i d)).address + k) % 2 ^ 64 ≡ (extent_of (get_or parts i d)).address + k = omega arith in
    let touched : IsSome (image_flags (map extent_of parts) (((extent_of (get_or parts i d)).address + k) / 4096)) =
    bytes_touched parts i d ((extent_of (get_or parts i d)).address + k) all l (omega arith) (omega arith) in
    rw (place, flags (((extent_of (get_or parts i d)).address + k) / 4096)) touched
