-- How many pages parts touch.
use Rattle.std.proofs.Common.{◌⊎◌, inl, inr, ◌≡◌, ◌≢◌, ℕ, zero, suc, ◌+◌, ◌-◌, ◌*◌, ◌/◌, ◌^◌, ◌<◌, ◌≤◌, true, false, cond, List, [], ◌∷◌}
use Rattle.std.proofs.Common.{length, get_or, refl, ap, sym, ◌∙◌, arith, Option, Some, None, slice_get, All}
use Rattle.std.specs.Prelude.{◌==◌, ◌&&◌, nat_le, nat_lt, IsSome, is_some}
use Rattle.std.proofs.lemmas.Bool.Decides.{nat_tests}
use Rattle.std.proofs.lemmas.Bool.{eqb-true}
use Rattle.std.specs.FinMap.{FinMap, get, len, insert, remove, empty, get-insert, get-remove, get-empty, len-empty, len-insert, same_map}
use Rattle.std.specs.FinMap.{nat_cmp-IsAntisymmetric}
use Rattle.std.specs.Cmp.{nat_cmp_total}
use Rattle.std.specs.Ordering.{nat_cmp}
use Rattle.std.specs.Option.{option_or}
use Rattle.plain_lemmas.proofs.Tests.{eqb-self, eq_by_cmp-nat}
use Rattle.paged_memory.specs.Memory.{IsWhole}
use Rattle.paged_memory.specs.Image.{Extent, Program, union, part_flags, image_flags, part_byte, parts_byte, or_zero, IsMemoryOf, IsImage}
use Rattle.paged_memory.specs.Image.{IsLoadablePage}
use Rattle.paged_memory.specs.Parts.{IsPlaced, ArePlaced, touched_below}

-- how many keys below a number a map has
count_keys : FinMap nat_cmp ℕ → ℕ → ℕ
count_keys m zero = 0
count_keys m (suc n) = count_keys m n + cond (is_some (get m n)) 1 0

without_key : (m : FinMap nat_cmp ℕ) (k q : ℕ) → get (remove m k) q ≡ cond (k == q) None (get m q)
without_key m k q = rw (get-remove nat_cmp_total, eq_by_cmp-nat) refl

count_without : (m : FinMap nat_cmp ℕ) (k n : ℕ) → n ≤ k → count_keys (remove m k) n ≡ count_keys m n
unfolding count_keys
count_without m k zero h = refl
count_without m k (suc n) h =
    let apart : (k == n) ≡ false = let e : k ≢ n = grind arith in grind (arith, nat_tests) in
    let same : get (remove m k) n ≡ get m n = without_key m k n ∙ rw apart refl in
    rw (count_without m k n (omega arith), same) refl

no_keys : (m : FinMap nat_cmp ℕ) → ((q : ℕ) → 0 ≤ q → get m q ≡ None) → len m ≡ 0
no_keys m h =
    let e : m ≡ empty = same_map nat_cmp_total nat_cmp-IsAntisymmetric _ _ (λ q. h q (omega arith) ∙ sym (get-empty nat_cmp q)) in
    rw e (len-empty nat_cmp ℕ)

none_from_without : (m : FinMap nat_cmp ℕ) (n : ℕ) → ((q : ℕ) → suc n ≤ q → get m q ≡ None) → (q : ℕ) → n ≤ q → get (remove m n) q ≡ None
none_from_without m n h q l =
    without_key m n q ∙ elim (n == q) as (λ t. (n == q) ≡ t → cond t None (get m q) ≡ None) [
      | true ↦ λ t. refl
      | false ↦ λ t. let e : n ≢ q = grind (arith, nat_tests) in let a : suc n ≤ q = grind arith in h q a
    ] refl

without_none : (m : FinMap nat_cmp ℕ) (n : ℕ) → get m n ≡ None → remove m n ≡ m
without_none m n gone = same_map nat_cmp_total nat_cmp-IsAntisymmetric _ _ (λ q.
    without_key m n q ∙ elim (n == q) as (λ t. (n == q) ≡ t → cond t None (get m q) ≡ get m q) [
      | true ↦ λ t. let there : get m q ≡ None = rw (eqb-true n q t) at gone in sym there
      | false ↦ λ t. refl
    ] refl)

with_again : (m : FinMap nat_cmp ℕ) (n v : ℕ) → get m n ≡ Some v → m ≡ insert (remove m n) n v
with_again m n v there = same_map nat_cmp_total nat_cmp-IsAntisymmetric _ _ (λ q.
    let both : get (insert (remove m n) n v) q ≡ cond (n == q) (Some v) (cond (n == q) None (get m q)) =
    rw (get-insert nat_cmp_total, eq_by_cmp-nat, without_key m n q) refl in
    sym (both ∙ elim (n == q) as (λ t. (n == q) ≡ t → cond t (Some v) (cond t None (get m q)) ≡ get m q) [
      | true ↦ λ t. let here : get m q ≡ Some v = rw (eqb-true n q t) at there in sym here
      | false ↦ λ t. refl
    ] refl))

len_with : (m : FinMap nat_cmp ℕ) (n v : ℕ) → get m n ≡ None → len (insert m n v) ≡ len m + 1
len_with m n v gone = len-insert nat_cmp_total m n v ∙ rw gone refl

removed : (m : FinMap nat_cmp ℕ) (n : ℕ) → get (remove m n) n ≡ None
removed m n = without_key m n n ∙ rw (eqb-self n) refl

len_step : (m : FinMap nat_cmp ℕ) (n : ℕ) (o : Option ℕ) → get m n ≡ o → len m ≡ len (remove m n) + cond (is_some o) 1 0
len_step m n None e = sym (ap len (without_none m n e)) ∙ (let z : len (remove m n) + 0 ≡ len (remove m n) = omega arith in sym z)
len_step m n (Some v) e = ap len (with_again m n v e) ∙ len_with (remove m n) n v (removed m n)

len-count_keys : (n : ℕ) (m : FinMap nat_cmp ℕ) → ((q : ℕ) → n ≤ q → get m q ≡ None) → len m ≡ count_keys m n
unfolding count_keys
len-count_keys zero m h = no_keys m h
len-count_keys (suc n) m h =
    let rest : len (remove m n) ≡ count_keys m n =
    len-count_keys n (remove m n) (none_from_without m n h) ∙ count_without m n n (omega arith) in
    len_step m n (get m n) refl ∙ ap (λ k. k + cond (is_some (get m n)) 1 0) rest

count_touched : (parts : List Extent) (m : FinMap nat_cmp ℕ) (n : ℕ) → ((q : ℕ) → get m q ≡ image_flags parts q)
    → count_keys m n ≡ touched_below parts n
unfolding count_keys touched_below
count_touched parts m zero h = refl
count_touched parts m (suc n) h = rw (count_touched parts m n h, h n) refl

-- ---- what the parts' places say of the pages

no_flags : (p : Extent) (n : ℕ) → part_flags p n ≡ None → IsSome (part_flags p n) → ⊥
no_flags p n e h = cc

touch_test : (p : Extent) (n : ℕ) → IsSome (part_flags p n)
    → (nat_lt 0 p.size && nat_le (p.address / 4096) n && nat_le n ((p.address + p.size - 1) / 4096)) ≡ true
touch_test p n h =
    elim (nat_lt 0 p.size && nat_le (p.address / 4096) n
    && nat_le n ((p.address + p.size - 1) / 4096)) as (λ t. IsSome (cond t (Some p.flags) None) → t ≡ true) [
      | true ↦ λ s. refl
      | false ↦ λ s. cc
    ] h

-- an address of the part that lies in the page
address_in : ℕ → ℕ → ℕ
address_in address n = cond (nat_lt (address / 4096) n) (4096 * n) address

pub record TouchesAt (p : Extent) (n a : ℕ) : Type 0 where
  pub from : p.address ≤ a
  pub to : a < p.address + p.size
  pub page : a / 4096 ≡ n

touches_at : (p : Extent) (n : ℕ) → 0 < p.size → p.address / 4096 ≤ n → n ≤ (p.address + p.size - 1) / 4096
    → TouchesAt p n (address_in p.address n)
unfolding address_in
touches_at p n size from to =
    elim (nat_lt (p.address / 4096) n) as (λ t. nat_lt (p.address / 4096) n ≡ t → TouchesAt p n (cond t (4096 * n) p.address)) [
      | true ↦ λ t. let l : p.address / 4096 < n =
          grind (arith, nat_tests) in record { from = omega arith; to = omega arith; page = omega arith }
      | false ↦ λ t. let l : n ≤ p.address / 4096 =
          grind (arith, nat_tests) in record { from = omega arith; to = omega arith; page = omega arith }
    ] refl

page_of_part : (p : Extent) (n : ℕ) → IsPlaced p → IsSome (part_flags p n) → IsLoadablePage n
page_of_part p n placed h =
    let test : (nat_lt 0 p.size && nat_le (p.address / 4096) n && nat_le n ((p.address + p.size - 1) / 4096)) ≡ true = touch_test p n h in
    let size : 0 < p.size = grind (arith, nat_tests) in
    let from : p.address / 4096 ≤ n = grind (arith, nat_tests) in
    let to : n ≤ (p.address + p.size - 1) / 4096 = grind (arith, nat_tests) in
    let at : TouchesAt p n (address_in p.address n) = touches_at p n size from to in
    rw at.page at (placed.places (address_in p.address n) at.from at.to)

either : (o p : Option ℕ) → IsSome (union o p) → IsSome o ⊎ IsSome p
either None p h = inr h
either (Some f) p h = inl refl

pub page_of_parts : (parts : List Extent) (n : ℕ) → All IsPlaced parts → IsSome (image_flags parts n) → IsLoadablePage n
unfolding image_flags
page_of_parts [] n all h = cc
page_of_parts (p ∷ parts) n all h =
    elim (either (part_flags p n) (image_flags parts n) h) [
      | inl s ↦ page_of_part p n (all 0 p (omega arith)) s
      | inr s ↦ page_of_parts parts n (λ k d l. all (suc k) d (omega arith)) s
    ]

not_there : (o : Option ℕ) → (IsSome o → ⊥) → o ≡ None
not_there None h = refl
not_there (Some x) h = absurd (h refl)

pub image_made : (parts : List Extent) (p : Program) → ArePlaced parts → IsMemoryOf parts p.memory → IsWhole p.memory → IsImage p
image_made parts p placed is whole =
    let flags : (n : ℕ) → get p.memory.perm n ≡ image_flags parts n = is.flags in
    let places : (n : ℕ) → IsSome (get p.memory.perm n) → IsLoadablePage n = λ n s. page_of_parts parts n placed.placed (rw (flags n) at s) in
    let past : (q : ℕ) → 2 ^ 35 ≤ q → get p.memory.perm q ≡ None =
    λ q l. not_there (get p.memory.perm q) (λ s. let low : q < 2 ^ 35 = (places q s).0 in absurd (omega arith)) in
    let count : len p.memory.perm ≡ touched_below parts (2 ^ 35) =
    len-count_keys (2 ^ 35) p.memory.perm past ∙ count_touched parts p.memory.perm (2 ^ 35) flags in
    record { whole = whole; few = rw count placed.few; places = places }

-- ---- one part

union_none : (o : Option ℕ) → union o None ≡ o
union_none None = refl
union_none (Some f) = refl

one_more : (p : Extent) (n count : ℕ) → count ≤ n - p.address / 4096 → count ≤ (p.address + p.size - 1) / 4096 + 1 - p.address / 4096
    → (count + cond (is_some (union (part_flags p n) None)) 1 0 ≤ suc n - p.address / 4096)
    × (count + cond (is_some (union (part_flags p n) None)) 1 0 ≤ (p.address + p.size - 1) / 4096 + 1 - p.address / 4096)
one_more p n count h l =
    rw (union_none (part_flags p n)) (elim (nat_lt 0 p.size && nat_le (p.address / 4096) n && nat_le n ((p.address + p.size - 1) / 4096)) as
    (λ t. (nat_lt 0 p.size && nat_le (p.address / 4096) n && nat_le n ((p.address + p.size - 1) / 4096)) ≡ t
    → (count + cond (is_some (cond t (Some p.flags) None)) 1 0 ≤ suc n - p.address / 4096)
    × (count + cond (is_some (cond t (Some p.flags) None)) 1 0 ≤ (p.address + p.size - 1) / 4096 + 1 - p.address / 4096)) [
      | true ↦ λ t.
          let from : p.address / 4096 ≤ n = grind (arith, nat_tests) in
          let to : n ≤ (p.address + p.size - 1) / 4096 = grind (arith, nat_tests) in
          (omega arith, omega arith)
      | false ↦ λ t. (omega arith, omega arith)
    ] refl)

touched_by_one : (p : Extent) (n : ℕ) → (touched_below (p ∷ []) n ≤ n - p.address / 4096)
    × (touched_below (p ∷ []) n ≤ (p.address + p.size - 1) / 4096 + 1 - p.address / 4096)
unfolding touched_below image_flags
touched_by_one p zero = (omega arith, omega arith)
touched_by_one p (suc n) =
    let before : (touched_below (p ∷ []) n ≤ n - p.address / 4096)
    × (touched_below (p ∷ []) n ≤ (p.address + p.size - 1) / 4096 + 1 - p.address / 4096) = touched_by_one p n in
    one_more p n (touched_below (p ∷ []) n) before.0 before.1

-- a part lies where it may if its ends do
pub placed_by_ends : (p : Extent) → length p.bytes ≤ p.size → p.flags < 8 → p.address + p.size ≤ 2 ^ 47
    → (p.address + p.size ≤ 0x7DFFFFFC0000) ⊎ (0x7F0000001000 ≤ p.address) → IsPlaced p
placed_by_ends p inside sum low apart = record {
  inside = inside;
  flags = sum;
  places = λ a from to. (omega arith, elim apart [ inl l ↦ inl (omega arith) | inr g ↦ inr (omega arith) ]);
}

-- ---- two parts

either_counts : (f r : Option ℕ) (a b c : ℕ) → a ≤ b + c
    → a + cond (is_some (union f r)) 1 0 ≤ (b + cond (is_some (union f None)) 1 0) + (c + cond (is_some r) 1 0)
either_counts None None a b c h = omega arith
either_counts None (Some g) a b c h = omega arith
either_counts (Some e) None a b c h = omega arith
either_counts (Some e) (Some g) a b c h = omega arith

touched_by_both : (p : Extent) (parts : List Extent) (n : ℕ)
    → touched_below (p ∷ parts) n ≤ touched_below (p ∷ []) n + touched_below parts n
unfolding touched_below image_flags
touched_by_both p parts zero = omega arith
touched_by_both p parts (suc n) =
    either_counts (part_flags p n) (image_flags parts n) (touched_below (p ∷ parts) n) (touched_below (p ∷ []) n) (touched_below parts n)
    (touched_by_both p parts n)

inside_test : (p : Extent) (a : ℕ) → IsSome (part_byte p a) → a < p.address + p.size
inside_test p a h =
    elim (nat_le p.address a && nat_lt a (p.address + p.size)) as (λ t. (nat_le p.address a && nat_lt a (p.address + p.size)) ≡ t
    → IsSome (cond t (Some (or_zero (slice_get p.bytes (a - p.address)))) None) → a < p.address + p.size) [
      | true ↦ λ t s. grind (arith, nat_tests)
      | false ↦ λ t s. cc
    ] refl h

not_below : (q : Extent) (a : ℕ) → a < q.address → option_or (part_byte q a) None ≡ None
not_below q a l = let e : (nat_le q.address a && nat_lt a (q.address + q.size)) ≡ false = grind (arith, nat_tests) in rw e refl

only_two : (p q : Extent) (k : ℕ) (d : Extent) → IsPlaced p → IsPlaced q → k < 2 → IsPlaced (get_or (p ∷ q ∷ []) k d)
only_two p q zero d first second l = first
only_two p q (suc zero) d first second l = second
only_two p q (suc (suc k)) d first second l = absurd (omega arith)

-- two parts that lie where they may, one after the other, and touch few pages make an image
pub two_placed : (p q : Extent) → IsPlaced p → IsPlaced q → p.address + p.size ≤ q.address
    → ((p.address + p.size - 1) / 4096 + 1 - p.address / 4096) + ((q.address + q.size - 1) / 4096 + 1 - q.address / 4096) ≤ 4032
    → ArePlaced (p ∷ q ∷ [])
unfolding parts_byte
two_placed p q first second order few = record {
  placed = λ k d l. only_two p q k d first second l;
  apart = (λ a h. let below : a < p.address + p.size = inside_test p a h in not_below q a (omega arith), (λ a h. refl, tt));
  few =
      let both : touched_below (p ∷ q ∷ []) (2 ^ 35) ≤ touched_below (p ∷ []) (2 ^ 35) + touched_below (q ∷ []) (2 ^ 35) =
      touched_by_both p (q ∷ []) (2 ^ 35) in
      let one : touched_below (p ∷ []) (2 ^ 35) ≤ (p.address + p.size - 1) / 4096 + 1 - p.address / 4096 = (touched_by_one p (2 ^ 35)).1 in
      let other : touched_below (q ∷ []) (2 ^ 35) ≤ (q.address + q.size - 1) / 4096 + 1 - q.address / 4096 =
      (touched_by_one q (2 ^ 35)).1 in
      omega arith;
}
