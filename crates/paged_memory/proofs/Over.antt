-- Bytes laid over others, from an address on.
use Rattle.std.proofs.Common.{◌⊎◌, inl, inr, ◌≡◌, ◌≢◌, ℕ, zero, suc, ◌+◌, ◌-◌, ◌*◌, ◌/◌, ◌%◌, ◌^◌, ◌<◌, ◌≤◌, true, false, cond, List, []}
use Rattle.std.proofs.Common.{◌∷◌, ◌++◌, length, drop, take, refl, ap, sym, ◌∙◌, arith, Option, Some, slice_get}
use Rattle.std.specs.Prelude.{◌==◌, ◌&&◌, nat_lt, nat_le}
use Rattle.std.proofs.lemmas.Grind.{common_steps}
use Rattle.std.proofs.lemmas.List.{take-append-drop, take-take, drop-take, length-take-le}
use Rattle.std.proofs.lemmas.Bool.Decides.{nat_tests}
use Rattle.std.proofs.lemmas.Bool.{eq-eqb, ne_eqb, cases_lt}
use Rattle.std.specs.FinMap.{FinMap, get, insert, get-insert}
use Rattle.std.specs.Cmp.{nat_cmp_total}
use Rattle.std.specs.Ordering.{nat_cmp}
use Rattle.plain_lemmas.proofs.Tests.{eq_by_cmp-nat}
use Rattle.paged_memory.specs.Memory.{set_bytes}

-- the byte of a list that lies from an address on, where it has one, else what was there
abbrev pub over : ℕ → List ℕ → ℕ → Option ℕ → Option ℕ
over start bytes a old = cond (nat_le start a && nat_lt a (start + length bytes)) (slice_get bytes (a - start)) old

pub slice_get-take : (xs : List ℕ) (n k : ℕ) → k < n → slice_get (take n xs) k ≡ slice_get xs k
slice_get-take [] n k h = grind (arith, common_steps)
slice_get-take (x ∷ xs) zero k h = absurd (omega arith)
slice_get-take (x ∷ xs) (suc n) zero h = refl
slice_get-take (x ∷ xs) (suc n) (suc k) h = slice_get-take xs n k (omega arith)

pub slice_get-drop : (xs : List ℕ) (n k : ℕ) → slice_get (drop n xs) k ≡ slice_get xs (n + k)
slice_get-drop xs zero k = let e : 0 + k ≡ k = omega arith in rw e refl
slice_get-drop [] (suc n) k = refl
slice_get-drop (x ∷ xs) (suc n) k = let e : suc n + k ≡ suc (n + k) = omega arith in rw e (slice_get-drop xs n k)

pub slice_get-left : (xs ys : List ℕ) (k : ℕ) → k < length xs → slice_get (xs ++ ys) k ≡ slice_get xs k
slice_get-left [] ys k h = absurd (omega arith)
slice_get-left (x ∷ xs) ys zero h = refl
slice_get-left (x ∷ xs) ys (suc k) h = slice_get-left xs ys k (omega arith)

pub slice_get-right : (xs ys : List ℕ) (k : ℕ) → slice_get (xs ++ ys) (length xs + k) ≡ slice_get ys k
slice_get-right [] ys k = let e : 0 + k ≡ k = omega arith in rw e refl
slice_get-right (x ∷ xs) ys k = let e : suc (length xs) + k ≡ suc (length xs + k) = omega arith in rw e (slice_get-right xs ys k)

pub over-inside : (start : ℕ) (bs : List ℕ) (a : ℕ) (old : Option ℕ) → start ≤ a → a < start + length bs
    → over start bs a old ≡ slice_get bs (a - start)
over-inside start bs a old h l = let e : (nat_le start a && nat_lt a (start + length bs)) ≡ true = grind (arith, nat_tests) in rw e refl

pub over-below : (start : ℕ) (bs : List ℕ) (a : ℕ) (old : Option ℕ) → a < start → over start bs a old ≡ old
over-below start bs a old l = let e : (nat_le start a && nat_lt a (start + length bs)) ≡ false = grind (arith, nat_tests) in rw e refl

pub over-above : (start : ℕ) (bs : List ℕ) (a : ℕ) (old : Option ℕ) → start + length bs ≤ a → over start bs a old ≡ old
over-above start bs a old l = let e : (nat_le start a && nat_lt a (start + length bs)) ≡ false = grind (arith, nat_tests) in rw e refl

place_of : (q a : ℕ) → (q < a) ⊎ ((a ≡ q) ⊎ (a < q))
place_of q a = grind arith

slice_get-later : (b : ℕ) (bs : List ℕ) (a q : ℕ) → a < q → slice_get (b ∷ bs) (q - a) ≡ slice_get bs (q - (a + 1))
slice_get-later b bs a q h = let e : q - a ≡ suc (q - (a + 1)) = omega arith in rw e refl

slice_get-now : (b : ℕ) (bs : List ℕ) (a q : ℕ) → a ≡ q → slice_get (b ∷ bs) (q - a) ≡ Some b
slice_get-now b bs a q h = let e : q - a ≡ 0 = omega arith in rw e refl

-- one byte, and the rest after it
over-cons : (a b : ℕ) (bs : List ℕ) (q : ℕ) (old : Option ℕ) → over (a + 1) bs q (cond (a == q) (Some b) old) ≡ over a (b ∷ bs) q old
over-cons a b bs q old =
    elim (place_of q a) [
      | inl l ↦ over-below (a + 1) bs q _ (omega arith) ∙ rw (ne_eqb a q (omega arith)) (sym (over-below a (b ∷ bs) q old l))
      | inr r ↦ elim r [
        | inl e ↦ over-below (a + 1) bs q _ (omega arith)
            ∙ rw (eq-eqb a q e) (sym (over-inside a (b ∷ bs) q old (omega arith) (omega arith) ∙ slice_get-now b bs a q e))
        | inr g ↦ elim (cases_lt q (a + 1 + length bs)) [
          | inl l ↦ over-inside (a + 1) bs q _ (omega arith) l
              ∙ sym (over-inside a (b ∷ bs) q old (omega arith) (omega arith) ∙ slice_get-later b bs a q g)
          | inr m ↦ over-above (a + 1) bs q _ m ∙ rw (ne_eqb a q (omega arith)) (sym (over-above a (b ∷ bs) q old (omega arith)))
        ]
      ]
    ]

pub get-set_bytes : (m : FinMap nat_cmp ℕ) (a : ℕ) (bs : List ℕ) (q : ℕ) → a + length bs ≤ 2 ^ 64
    → get (set_bytes m a bs) q ≡ over a bs q (get m q)
unfolding set_bytes
get-set_bytes m a [] q h = sym (elim (cases_lt q a) [ inl l ↦ over-below a [] q _ l | inr g ↦ over-above a [] q _ (omega arith) ])
get-set_bytes m a (b ∷ bs) q h =
    let low : a % 2 ^ 64 ≡ a = omega arith in
    let more : (a + 1) + length bs ≤ 2 ^ 64 = omega arith in
    rw (get-set_bytes (insert m (a % 2 ^ 64) b) (a + 1) bs q more, get-insert nat_cmp_total, eq_by_cmp-nat, low)
    (over-cons a b bs q (get m q))

-- the same, where no bytes may lie anywhere
pub get-set_bytes-low : (m : FinMap nat_cmp ℕ) (a : ℕ) (bs : List ℕ) (q : ℕ) → (0 < length bs → a + length bs < 2 ^ 64)
    → get (set_bytes m a bs) q ≡ over a bs q (get m q)
unfolding set_bytes
get-set_bytes-low m a [] q h = sym (elim (cases_lt q a) [ inl l ↦ over-below a [] q _ l | inr g ↦ over-above a [] q _ (omega arith) ])
get-set_bytes-low m a (b ∷ bs) q h =
    let low : a + length (b ∷ bs) < 2 ^ 64 = h (omega arith) in
    get-set_bytes m a (b ∷ bs) q (omega arith)

pub set_bytes-round : (m : FinMap nat_cmp ℕ) (a b : ℕ) (bs : List ℕ) → a % 2 ^ 64 ≡ b % 2 ^ 64 → set_bytes m a bs ≡ set_bytes m b bs
unfolding set_bytes
set_bytes-round m a b [] e = refl
set_bytes-round m a b (x ∷ bs) e =
    let next : (a + 1) % 2 ^ 64 ≡ (b + 1) % 2 ^ 64 = omega (arith, e) in
    ap (λ k. set_bytes (insert m k x) (a + 1) bs) e ∙ set_bytes-round (insert m (b % 2 ^ 64) x) (a + 1) (b + 1) bs next

pub set_bytes-append : (m : FinMap nat_cmp ℕ) (a : ℕ) (bs cs : List ℕ)
    → set_bytes m a (bs ++ cs) ≡ set_bytes (set_bytes m a bs) (a + length bs) cs
unfolding set_bytes
set_bytes-append m a [] cs = let z : a + 0 ≡ a = omega arith in rw z refl
set_bytes-append m a (b ∷ bs) cs =
    let e : a + suc (length bs) ≡ a + 1 + length bs = omega arith in rw e (set_bytes-append (insert m (a % 2 ^ 64) b) (a + 1) bs cs)

pub slice_get-run : (xs bs : List ℕ) (i k : ℕ) → i + length bs ≤ length xs
    → slice_get (take i xs ++ (bs ++ drop (i + length bs) xs)) k ≡ over i bs k (slice_get xs k)
slice_get-run xs bs i k h =
    let front : length (take i xs) ≡ i = grind (arith, common_steps) in
    elim (cases_lt k i) [
      | inl l ↦ slice_get-left (take i xs) (bs ++ drop (i + length bs) xs) k (rw front l) ∙ slice_get-take xs i k l
          ∙ sym (over-below i bs k _ l)
      | inr g ↦
          let e : length (take i xs) + (k - i) ≡ k = rw front (omega arith) in
          let right : slice_get (take i xs ++ (bs ++ drop (i + length bs) xs)) k ≡ slice_get (bs ++ drop (i + length bs) xs) (k - i) =
          rw e at (slice_get-right (take i xs) (bs ++ drop (i + length bs) xs) (k - i)) in
          elim (cases_lt k (i + length bs)) [
            | inl l ↦ right ∙ slice_get-left bs (drop (i + length bs) xs) (k - i) (omega arith) ∙ sym (over-inside i bs k _ g l)
            | inr m ↦
                let e2 : length bs + (k - (i + length bs)) ≡ k - i = omega arith in
                let e3 : i + length bs + (k - (i + length bs)) ≡ k = omega arith in
                let rest : slice_get (bs ++ drop (i + length bs) xs) (k - i) ≡ slice_get (drop (i + length bs) xs) (k - (i + length bs)) =
                rw e2 at (slice_get-right bs (drop (i + length bs) xs) (k - (i + length bs))) in
                right ∙ rest ∙ slice_get-drop xs (i + length bs) (k - (i + length bs)) ∙ ap (slice_get xs) e3 ∙ sym (over-above i bs k _ m)
          ]
    ]

-- the same, counted from the start of the page
pub over_shift : (s : ℕ) (bs : List ℕ) (a : ℕ) (old : Option ℕ) → s / 4096 ≡ a / 4096 → over (s % 4096) bs (a % 4096) old ≡ over s bs a old
over_shift s bs a old h =
    elim (cases_lt a s) [
      | inl l ↦ over-below (s % 4096) bs (a % 4096) old (omega arith) ∙ sym (over-below s bs a old l)
      | inr g ↦ elim (cases_lt a (s + length bs)) [
        | inl l ↦ over-inside (s % 4096) bs (a % 4096) old (omega arith) (omega arith)
            ∙ (let e : a % 4096 - s % 4096 ≡ a - s = omega arith in ap (slice_get bs) e) ∙ sym (over-inside s bs a old g l)
        | inr m ↦ over-above (s % 4096) bs (a % 4096) old (omega arith) ∙ sym (over-above s bs a old m)
      ]
    ]

pub apart : (s a n : ℕ) → (s / 4096 == a / 4096) ≡ false → s ≤ a → s % 4096 + n ≤ 4096 → s + n ≤ a
apart s a n t g h = let e : s / 4096 ≢ a / 4096 = grind (arith, nat_tests) in let m : s / 4096 < a / 4096 = grind arith in omega arith

-- the byte of an address inside and outside a page of 4096 bytes
pub in_page : (n a : ℕ) (bs : List ℕ) (old : Option ℕ) → length bs ≡ 4096 → a / 4096 ≡ n
    → over (4096 * n) bs a old ≡ slice_get bs (a % 4096)
in_page n a bs old full e =
    let place : a - 4096 * n ≡ a % 4096 = omega arith in
    over-inside (4096 * n) bs a old (omega arith) (omega arith) ∙ ap (slice_get bs) place

below_or : (n k : ℕ) → k ≢ n → (k < n) ⊎ (n < k)
below_or n k e = grind arith

pub off_page : (n a : ℕ) (bs : List ℕ) (old : Option ℕ) → length bs ≡ 4096 → a / 4096 ≢ n → over (4096 * n) bs a old ≡ old
off_page n a bs old full e =
    elim (below_or n (a / 4096) e) [
      | inl l ↦ over-below (4096 * n) bs a old (omega arith)
      | inr g ↦ over-above (4096 * n) bs a old (omega arith)
    ]

take_add : (d n : ℕ) (bs : List ℕ) → take (d + n) bs ≡ take d bs ++ take n (drop d bs)
take_add d n bs = sym (take-append-drop d (take (d + n) bs)) ∙ rw (take-take d (d + n) bs (omega arith), drop-take d n bs) refl

pub set_bytes-none : (m : FinMap nat_cmp ℕ) (a : ℕ) → m ≡ set_bytes m a []
unfolding set_bytes
set_bytes-none m a = refl

-- one more run of the bytes of a list
pub set_bytes-more : (m now new : FinMap nat_cmp ℕ) (a d n : ℕ) (bs : List ℕ) → d ≤ length bs → now ≡ set_bytes m a (take d bs)
    → new ≡ set_bytes now (a + d) (take (d + n - d) (drop d bs)) → new ≡ set_bytes m a (take (d + n) bs)
set_bytes-more m now new a d n bs inside before is =
    let count : d + n - d ≡ n = omega arith in
    let long : length (take d bs) ≡ d = length-take-le d bs inside in
    let run : new ≡ set_bytes (set_bytes m a (take d bs)) (a + d) (take n (drop d bs)) = rw (count, before) at is in
    let whole : set_bytes m a (take (d + n) bs) ≡ set_bytes (set_bytes m a (take d bs)) (a + d) (take n (drop d bs)) =
    ap (set_bytes m a) (take_add d n bs) ∙ set_bytes-append m a (take d bs) (take n (drop d bs))
    ∙ ap (λ k. set_bytes (set_bytes m a (take d bs)) (a + k) (take n (drop d bs))) long in
    run ∙ sym whole
