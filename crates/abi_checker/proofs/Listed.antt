-- A map as the list of its entries, and the byte of a page.
use Rattle.std.proofs.Common.{◌≡◌, ◌≢◌, ℕ, zero, suc, ◌+◌, ◌/◌, ◌%◌, ◌<◌, ◌≤◌, List, [], ◌∷◌, length, get_or, drop, refl}
use Rattle.std.proofs.Common.{ap, sym}
use Rattle.std.proofs.Common.{◌∙◌, arith, add-one, true, false, Option, Some, None, slice_get}
use Rattle.std.specs.Prelude.{cond, ◌==◌, is_some, unwrap_or}
use Rattle.std.specs.FinMap.{FinMap, get, find}
use Rattle.std.specs.Ordering.{nat_cmp, eq_by_cmp}
use Rattle.std.specs.Int.Bits.{and_zero_r}
use Rattle.std.proofs.lemmas.Bool.Decides.{nat_tests}
use Rattle.std.proofs.lemmas.Option.{same_Some}
use Rattle.paged_memory.specs.Memory.{AddressSpace, IsWhole, permitted, permits, byte_with, bytes_from}

key_same : (q k : ℕ) → k ≡ q → eq_by_cmp nat_cmp q k ≡ true
key_same q k e = grind (arith, nat_tests)

key_other : (q k : ℕ) → k ≢ q → eq_by_cmp nat_cmp q k ≡ false
key_other q k e = grind (arith, nat_tests)

-- the entry at a place, from which a search goes on
pub find_step : (q : ℕ) (es : List (ℕ × ℕ)) (i : ℕ) (e : ℕ × ℕ) → slice_get es i ≡ Some e
    → find nat_cmp q (drop i es) ≡ cond (eq_by_cmp nat_cmp q e.0) (Some e.1) (find nat_cmp q (drop (suc i) es))
find_step q [] zero e h = cc
find_step q [] (suc i) e h = cc
find_step q (x ∷ es) zero e h =
    ap (λ y. cond (eq_by_cmp nat_cmp q y.0) (Some y.1) (find nat_cmp q es)) (same_Some x e h)
find_step q (x ∷ es) (suc i) e h = find_step q es i e h

pub find_here : (q : ℕ) (es : List (ℕ × ℕ)) (i n flags : ℕ) → slice_get es i ≡ Some (n, flags) → n ≡ q
    → find nat_cmp q (drop i es) ≡ Some flags
find_here q es i n flags h e =
    find_step q es i (n, flags) h ∙ ap (λ b. cond b (Some flags) (find nat_cmp q (drop (suc i) es))) (key_same q n e)

pub find_later : (q : ℕ) (es : List (ℕ × ℕ)) (i n flags : ℕ) → slice_get es i ≡ Some (n, flags) → n ≢ q
    → find nat_cmp q (drop i es) ≡ find nat_cmp q (drop (i + 1) es)
find_later q es i n flags h e =
    find_step q es i (n, flags) h ∙ ap (λ b. cond b (Some flags) (find nat_cmp q (drop (suc i) es))) (key_other q n e)
    ∙ ap (λ j. find nat_cmp q (drop j es)) (sym (add-one i))

pub find_past : (q : ℕ) (es : List (ℕ × ℕ)) (i : ℕ) → length es ≤ i → find nat_cmp q (drop i es) ≡ None
find_past q [] zero l = refl
find_past q [] (suc i) l = refl
find_past q (e ∷ es) zero l = absurd (omega arith)
find_past q (e ∷ es) (suc i) l = find_past q es i (omega arith)

-- ---- the byte of a page

byte_from : (m : FinMap nat_cmp ℕ) (a n k : ℕ) → k < n → get_or (bytes_from m a n) k 0 ≡ unwrap_or (get m (a + k)) 0
unfolding bytes_from
byte_from m a zero k l = absurd (omega arith)
byte_from m a (suc n) zero l = let e : a + 0 ≡ a = omega arith in ap (λ i. unwrap_or (get m i) 0) (sym e)
byte_from m a (suc n) (suc k) l =
    let e : a + 1 + k ≡ a + suc k = omega arith in
    byte_from m (a + 1) n k (omega arith) ∙ ap (λ i. unwrap_or (get m i) 0) e

some_unwrapped : (o : Option ℕ) → is_some o ≡ true → Some (unwrap_or o 0) ≡ o
some_unwrapped None h = cc
some_unwrapped (Some x) h = refl

pub always : (flags : ℕ) → permits 0 flags ≡ true
always flags = ap (λ n. n == 0) (and_zero_r flags)

at_place : (a page : ℕ) → page % 4096 ≡ 0 → page / 4096 ≡ a / 4096 → page + a % 4096 ≡ a
at_place a page h k = omega arith

pub byte_there : (m : AddressSpace) (a page flags : ℕ) (bytes : List ℕ) → IsWhole m → get m.perm (a / 4096) ≡ Some flags
    → page % 4096 ≡ 0 → page / 4096 ≡ a / 4096 → bytes ≡ bytes_from m.mem page 4096
    → Some (get_or bytes (a % 4096) 0) ≡ byte_with 0 m a
unfolding byte_with
byte_there m a page flags bytes whole h low same e =
    let there : is_some (get m.mem a) ≡ true = whole.bytes a ∙ ap is_some h in
    let less : a % 4096 < 4096 = omega arith in
    let byte : get_or bytes (a % 4096) 0 ≡ unwrap_or (get m.mem a) 0 =
    ap (λ l. get_or l (a % 4096) 0) e ∙ byte_from m.mem page 4096 (a % 4096) less
    ∙ ap (λ i. unwrap_or (get m.mem i) 0) (at_place a page low same) in
    ap Some byte ∙ some_unwrapped (get m.mem a) there
    ∙ sym (ap (λ p. permitted 0 p (get m.mem a)) h ∙ ap (λ b. cond b (get m.mem a) None) (always flags))

pub byte_nowhere : (m : AddressSpace) (a : ℕ) → get m.perm (a / 4096) ≡ None → None ≡ byte_with 0 m a
unfolding byte_with
byte_nowhere m a h = sym (ap (λ p. permitted 0 p (get m.mem a)) h)
