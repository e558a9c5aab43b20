-- Runs of bytes, and counts in a slice.
use Rattle.std.proofs.Common.{◌≡◌, ◌⊎◌, inl, inr, ℕ, ◌+◌, ◌-◌, ◌*◌, ◌/◌, ◌%◌, ◌^◌, ◌<◌, ◌≤◌, ◌==◌, Bool, true, false, None}
use Rattle.std.proofs.Common.{◌↔◌, IsTrue, refl, ap, ◌∙◌, arith}
use Rattle.std.specs.Prelude.{nat_le, nat_lt}
use Rattle.std.proofs.lemmas.Nat.{div-add-mod', mod-mul-add, mod_below}
use Rattle.std.proofs.lemmas.Bool.{ltb-true, le-leb, leb-true}
use Rattle.plain_lemmas.proofs.Numbers.{cases_le}
use Rattle.plain_lemmas.proofs.Tests.{eqb-zero_of_pos}
use Rattle.mem_access.specs.Runs.{first_shared}
use Rattle.mem_access.proofs.Shared.{shared-above, first_shared-none, none_below, first_of_them, first_itself}
use Rattle.lazy_saving.specs.Block.{AreApart}

-- ---- tests of numbers

-- what holds exactly where the one number is at most the other
le_iff : (n m : ℕ) (P : Type 0) → (n ≤ m → P) → (m < n → P → ⊥) → IsTrue (nat_le n m) ↔ P
le_iff n m P within past = (
  λ t. within (leb-true n m t),
  λ h. elim (cases_le n m) [ inl le ↦ le-leb n m le | inr lt ↦ absurd (past lt h) ],
)

pub never : (b : Bool) → b ≡ false → IsTrue b → ⊥
never true e t = cc
never false e t = cc

-- what holds, and what does not
pub true_iff : (P : Type 0) → P → IsTrue true ↔ P
true_iff P h = (λ t. h, λ p. refl)

pub false_iff : (P : Type 0) → (P → ⊥) → IsTrue false ↔ P
false_iff P h = (λ t. (let no : ⊥ = cc in absurd no), λ p. absurd (h p))

-- ---- the shared words

-- bytes from past them on, which do not pass 2 ^ 64
pub none_past : (a n : ℕ) → a + n ≤ 2 ^ 64 → 0x7F0000001000 ≤ a → first_shared a n ≡ None
none_past a n end past = first_shared-none a n (λ k l. shared-above ((a + k) % 2 ^ 64) (omega (arith, end, past, l)))

pub none_before : (a n : ℕ) → a < 0x7F0000000000 → n ≤ 0x7F0000000000 - a → first_shared a n ≡ None
none_before a n low fits = none_below a n (omega (arith, low, fits))

-- some byte of others is shared
pub is_shared_there : (a n : ℕ) → 0 < n → a < 0x7F0000001000 → (0x7F0000000000 ≤ a) ⊎ (0x7F0000000000 < a + n) → first_shared a n ≡ None → ⊥
is_shared_there a n some below (inl inside) none =
    let there = first_itself a n inside below (omega (arith, some)) in
    (let no : ⊥ = cc in no)
is_shared_there a n some below (inr reach) none = elim (below_or a) [
  | inl low ↦ (let there = first_of_them a n low reach in let no : ⊥ = cc in no)
  | inr inside ↦ (let there = first_itself a n inside below (omega (arith, some)) in let no : ⊥ = cc in no)
]
  where
    below_or : (a : ℕ) → (a < 0x7F0000000000) ⊎ (0x7F0000000000 ≤ a)
    below_or a = grind arith

pub none_at_all : (a n : ℕ) → n ≡ 0 → first_shared a n ≡ None
none_at_all a n none = first_shared-none a n (λ k l. absurd (omega (arith, none, l)))

pub private_never : (a n : ℕ) → 0x7F0000000000 ≤ a → a < 0x7F0000001000 → 0 < n → IsTrue (nat_lt a 0x7F0000000000)
    ↔ (first_shared a n ≡ None)
private_never a n inside below some = (
  λ t. (let low = ltb-true a 0x7F0000000000 t in absurd (omega (arith, inside, low))),
  λ none. absurd (is_shared_there a n some below (inl inside) none),
)

pub private_below : (a n : ℕ) → a < 0x7F0000000000 → 0 < n → IsTrue (nat_le n (0x7F0000000000 - a)) ↔ (first_shared a n ≡ None)
private_below a n low some =
    le_iff n (0x7F0000000000 - a) (first_shared a n ≡ None) (λ le. none_before a n low le)
    (λ lt none. is_shared_there a n some (omega (arith, low)) (inr (omega (arith, low, lt))) none)

-- ---- two runs

-- the distances from the one's start to the other's, going round at 2 ^ 64, are not below their lengths
pub apart_if : (a n b k : ℕ) → a < 2 ^ 64 → b < 2 ^ 64 → n ≤ (b + (2 ^ 64 - a)) % 2 ^ 64 → k ≤ (a + (2 ^ 64 - b)) % 2 ^ 64
    → AreApart a n b k
apart_if a n b k la lb ln lk i j li lj e = omega (arith, la, lb, ln, lk, li, lj, e)

pub apart_none : (a n b k : ℕ) → (n ≡ 0) ⊎ (k ≡ 0) → AreApart a n b k
apart_none a n b k (inl none) i j li lj e = omega (arith, none, li)
apart_none a n b k (inr none) i j li lj e = omega (arith, none, lj)

pub not_apart : (a n b k : ℕ) → a < 2 ^ 64 → b < 2 ^ 64 → 0 < n → 0 < k → AreApart a n b k
    → ((b + (2 ^ 64 - a)) % 2 ^ 64 < n) ⊎ ((a + (2 ^ 64 - b)) % 2 ^ 64 < k) → ⊥
not_apart a n b k la lb some more h (inl lt) = h ((b + (2 ^ 64 - a)) % 2 ^ 64) 0 lt more (omega (arith, la, lb))
not_apart a n b k la lb some more h (inr lt) = h 0 ((a + (2 ^ 64 - b)) % 2 ^ 64) some lt (omega (arith, la, lb))

pub apart_where : (a n b k : ℕ) → a < 2 ^ 64 → b < 2 ^ 64 → 0 < n → 0 < k → n ≤ (b + (2 ^ 64 - a)) % 2 ^ 64
    → IsTrue (nat_le k ((a + (2 ^ 64 - b)) % 2 ^ 64)) ↔ AreApart a n b k
apart_where a n b k la lb some more ln =
    le_iff k ((a + (2 ^ 64 - b)) % 2 ^ 64) (AreApart a n b k) (λ lk. apart_if a n b k la lb ln lk)
    (λ lt h. not_apart a n b k la lb some more h (inr lt))

pub apart_never : (a n b k : ℕ) → a < 2 ^ 64 → b < 2 ^ 64 → 0 < n → 0 < k → (b + (2 ^ 64 - a)) % 2 ^ 64 < n
    → IsTrue (nat_le n ((b + (2 ^ 64 - a)) % 2 ^ 64)) ↔ AreApart a n b k
apart_never a n b k la lb some more lt =
    le_iff n ((b + (2 ^ 64 - a)) % 2 ^ 64) (AreApart a n b k) (λ le. absurd (omega (arith, le, lt)))
    (λ far h. not_apart a n b k la lb some more h (inl far))

-- ---- counts in a slice

in_slice : (count slice n : ℕ) → count % slice + n < slice → (count + n) % slice ≡ count % slice + n
in_slice count slice n lt =
    let parts = div-add-mod' count slice in
    let same : count + n ≡ count / slice * slice + (count % slice + n) = omega (arith, parts) in
    ap (λ k. k % slice) same ∙ mod-mul-add (count / slice) slice (count % slice + n) lt

pub stays_if : (count turns slice : ℕ) → count % slice + turns ≤ slice → (n : ℕ) → 0 < n → n < turns → ((count + n) % slice == 0) ≡ false
stays_if count turns slice fits n some lt =
    ap (λ k. (k == 0)) (in_slice count slice n (omega (arith, fits, lt))) ∙ eqb-zero_of_pos (count % slice + n) (omega (arith, some))

next_slice : (count slice : ℕ) → 0 < slice → (count + (slice - count % slice)) % slice ≡ 0
next_slice count slice some =
    let parts = div-add-mod' count slice in
    let below = mod_below count slice some in
    let more : (count / slice + 1) * slice ≡ count / slice * slice + slice = grind arith in
    let same : count + (slice - count % slice) ≡ (count / slice + 1) * slice + 0 = omega (arith, parts, below, more) in
    ap (λ k. k % slice) same ∙ mod-mul-add (count / slice + 1) slice 0 some

pub not_staying : (count turns slice : ℕ) → 0 < slice → ((n : ℕ) → 0 < n → n < turns → ((count + n) % slice == 0) ≡ false)
    → slice < count % slice + turns → ⊥
not_staying count turns slice some h lt =
    let below = mod_below count slice some in
    let there : (((count + (slice - count % slice)) % slice) == 0) ≡ true = ap (λ k. (k == 0)) (next_slice count slice some) in
    let not_there = h (slice - count % slice) (omega (arith, below)) (omega (arith, below, lt)) in
    cc

pub stays_where : (count turns slice : ℕ) → 0 < slice → IsTrue (nat_le (count % slice + turns) slice) ↔ ((n : ℕ) → 0 < n → n < turns
    → ((count + n) % slice == 0) ≡ false)
stays_where count turns slice some =
    le_iff (count % slice + turns) slice _ (λ le. stays_if count turns slice le) (λ lt h. not_staying count turns slice some h lt)
