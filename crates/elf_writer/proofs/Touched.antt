-- How many pages parts touch.
use Rattle.std.proofs.Common.{◌≡◌, ℕ, zero, suc, ◌+◌, ◌-◌, ◌*◌, ◌/◌, ◌%◌, ◌<◌, ◌≤◌, Bool, true, false, List, [], ◌∷◌, Option, Some, None}
use Rattle.std.proofs.Common.{refl, ap, arith}
use Rattle.std.specs.Prelude.{◌&&◌, cond, is_some, nat_lt, nat_le}
use Rattle.std.proofs.lemmas.Bool.Decides.{nat_tests}
use Rattle.paged_memory.specs.Image.{Extent, union, part_flags, image_flags}
use Rattle.paged_memory.specs.Parts.{touched_below}

-- a part touches the page
abbrev touches : Extent → ℕ → Bool
touches p n = nat_lt 0 p.size && nat_le (p.address / 4096) n && nat_le n ((p.address + p.size - 1) / 4096)

some_flags : (t : Bool) (flags : ℕ) → is_some {T = ℕ} (union (cond t (Some flags) None) None) ≡ t
some_flags true flags = refl
some_flags false flags = refl

one_more : (p : Extent) (n : ℕ) → touched_below (p ∷ []) (suc n) ≡ touched_below (p ∷ []) n + cond (touches p n) 1 0
unfolding touched_below image_flags
one_more p n = ap (λ t. touched_below (p ∷ []) n + cond t 1 0) (some_flags (touches p n) p.flags)

count_once : (t : Bool) (count first n size : ℕ) → count ≤ n - first → count ≤ size → (t ≡ true → (first ≤ n) × (n < first + size))
    → (count + cond t 1 0 ≤ suc n - first) × (count + cond t 1 0 ≤ size)
count_once true count first n size a b h = (omega (arith, (h refl).0, (h refl).1), omega (arith, (h refl).0, (h refl).1))
count_once false count first n size a b h = (omega arith, omega arith)

inside : (p : Extent) (n pages : ℕ) → p.address % 4096 ≡ 0 → p.size ≤ 4096 * pages → touches p n ≡ true → (p.address / 4096 ≤ n)
    × (n < p.address / 4096 + pages)
inside p n pages a s h =
    let some : 0 < p.size = grind (arith, nat_tests) in
    let low : p.address / 4096 ≤ n = grind (arith, nat_tests) in
    let high : n ≤ (p.address + p.size - 1) / 4096 = grind (arith, nat_tests) in
    (low, omega arith)

touched-none : (parts : List Extent) → touched_below parts 0 ≡ 0
unfolding touched_below
touched-none parts = refl

touched-one : (p : Extent) (pages n : ℕ) → p.address % 4096 ≡ 0 → p.size ≤ 4096 * pages → (touched_below (p ∷ []) n ≤ n - p.address / 4096)
    × (touched_below (p ∷ []) n ≤ pages)
touched-one p pages zero a s = rw (touched-none (p ∷ [])) (omega arith, omega arith)
touched-one p pages (suc n) a s =
    rw (one_more p n) (count_once (touches p n) (touched_below (p ∷ []) n) (p.address / 4096) n pages (touched-one p pages n a s).0
    (touched-one p pages n a s).1 (inside p n pages a s))

both : (a b : Option ℕ) → cond (is_some (union a b)) 1 0 ≤ cond (is_some (union a None)) 1 0 + cond (is_some b) 1 0
both None None = omega arith
both None (Some y) = omega arith
both (Some x) None = omega arith
both (Some x) (Some y) = omega arith

-- parts touch no more pages than each by itself
touched-cons : (p : Extent) (ps : List Extent) (n : ℕ) → touched_below (p ∷ ps) n ≤ touched_below (p ∷ []) n + touched_below ps n
unfolding touched_below image_flags
touched-cons p ps zero = omega arith
touched-cons p ps (suc n) = omega (arith, touched-cons p ps n, both (part_flags p n) (image_flags ps n))

pub touched-part : (p : Extent) (pages n : ℕ) → p.address % 4096 ≡ 0 → p.size ≤ 4096 * pages → touched_below (p ∷ []) n ≤ pages
touched-part p pages n a s = (touched-one p pages n a s).1

pub touched-two : (p q : Extent) (pages n : ℕ) → p.address % 4096 ≡ 0 → p.size ≤ 4096 * pages → q.address % 4096 ≡ 0 → q.size ≤ 4096 * pages
    → touched_below (p ∷ q ∷ []) n ≤ pages + pages
touched-two p q pages n a s b t = omega (arith, touched-cons p (q ∷ []) n, touched-part p pages n a s, touched-part q pages n b t)
