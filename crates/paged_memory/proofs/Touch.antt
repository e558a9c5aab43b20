-- Pages of zeros, and flags added to them.
use Rattle.std.proofs.Common.{◌≡◌, ◌≢◌, ℕ, ◌+◌, ◌-◌, ◌*◌, ◌/◌, ◌%◌, ◌^◌, ◌<◌, ◌≤◌, true, false, cond, List, [], length, get_or, set, refl}
use Rattle.std.proofs.Common.{ap, sym, ◌∙◌, arith, Option, Some, None, slice_get, replicate}
use Rattle.std.specs.Prelude.{◌==◌, ◌&&◌, bit_or, nat_le, nat_lt}
use Rattle.std.proofs.lemmas.Bool.Decides.{nat_tests}
use Rattle.std.proofs.lemmas.Nat.{or_lt}
use Rattle.std.proofs.lemmas.List.{length-replicate, get_or-replicate}
use Rattle.std.proofs.lemmas.Option.{slice_get-get_or}
use Rattle.std.proofs.lemmas.Bool.{eqb-true}
use Rattle.std.specs.FinMap.{get, get-empty}
use Rattle.std.specs.Ordering.{nat_cmp}
use Rattle.paged_memory.specs.declared.page.Page.{Page}
use Rattle.paged_memory.specs.Memory.{AddressSpace, with_page}
use Rattle.paged_memory.specs.Image.{union, zero_in}
use Rattle.paged_memory.specs.Parts.{IsZero}
use Rattle.paged_memory.specs.Pages.{page_at, mem_of, perm_of, memory_of, IsFine, AreHeld}
use Rattle.paged_memory.proofs.Over.{over, in_page, off_page}
use Rattle.paged_memory.proofs.Insert.{mem-with_page, perm-with_page}
use Rattle.paged_memory.proofs.Set.{perm_of-set, mem_of-set, found_number, found_flags, found_byte}

pub old_flags : (ps : List Page) (i n f : ℕ) (new d : Page) (q : ℕ) → IsFine ps → i < length ps → page_at ps n ≡ slice_get ps i
    → new.number ≡ (get_or ps i d).number → new.flags ≡ bit_or f (get_or ps i d).flags
    → get (perm_of (set ps i new)) q ≡ cond (n == q) (union (Some f) (get (perm_of ps) q)) (get (perm_of ps) q)
old_flags ps i n f new d q fine l found e is =
    let number : new.number ≡ n = e ∙ found_number ps n i d l found in
    perm_of-set ps i new d q fine l e ∙ ap (λ k. cond (k == q) (Some new.flags) (get (perm_of ps) q)) number
    ∙ elim (n == q) as (λ t. (n == q) ≡ t → cond t (Some new.flags) (get (perm_of ps) q)
    ≡ cond t (union (Some f) (get (perm_of ps) q)) (get (perm_of ps) q)) [
      | true ↦ λ t.
          let same : n ≡ q = grind (arith, nat_tests) in
          let was : get (perm_of ps) q ≡ Some (get_or ps i d).flags = found_flags ps q i d l (rw same at found) in
          rw (was, is) refl
      | false ↦ λ t. refl
    ] refl

pub old_zero : (ps : List Page) (i n : ℕ) (new d : Page) → IsFine ps → IsFine (set ps i new) → IsZero (memory_of ps) → i < length ps
    → page_at ps n ≡ slice_get ps i → new.number ≡ (get_or ps i d).number → new.bytes.items ≡ (get_or ps i d).bytes.items
    → IsZero (memory_of (set ps i new))
old_zero ps i n new d fine fine' none l found e is a =
    let number : new.number ≡ n = e ∙ found_number ps n i d l found in
    mem_of-set ps i new d a fine fine' l e ∙ ap (λ k. cond (k == a / 4096) (slice_get new.bytes.items (a % 4096)) (get (mem_of ps) a))
    number
    ∙ elim (n == a / 4096) as (λ t. (n == a / 4096) ≡ t
    → cond t (slice_get new.bytes.items (a % 4096)) (get (mem_of ps) a) ≡ zero_in (cond t (Some new.flags) (get (perm_of ps) (a / 4096)))) [
      | true ↦ λ t.
          let same : n ≡ a / 4096 = grind (arith, nat_tests) in
          let there : page_at ps (a / 4096) ≡ slice_get ps i = rw same at found in
          let byte : get (mem_of ps) a ≡ slice_get (get_or ps i d).bytes.items (a % 4096) = found_byte ps a i d fine l there in
          let flags : get (perm_of ps) (a / 4096) ≡ Some (get_or ps i d).flags = found_flags ps (a / 4096) i d l there in
          ap (λ x. slice_get x (a % 4096)) is ∙ sym byte ∙ none a ∙ ap zero_in flags
      | false ↦ λ t. none a
    ] refl
    ∙ sym (ap zero_in (perm_of-set ps i new d (a / 4096) fine l e
    ∙ ap (λ k. cond (k == a / 4096) (Some new.flags) (get (perm_of ps) (a / 4096))) number))

pub new_flags : (m new : AddressSpace) (n f : ℕ) (bs : List ℕ) (q : ℕ) → get m.perm n ≡ None → new ≡ with_page m n f bs
    → get new.perm q ≡ cond (n == q) (union (Some f) (get m.perm q)) (get m.perm q)
new_flags m new n f bs q gone is =
    ap (λ x. get x.perm q) is ∙ perm-with_page m n f bs q
    ∙ elim (n == q) as (λ t. (n == q) ≡ t → cond t (Some f) (get m.perm q) ≡ cond t (union (Some f) (get m.perm q)) (get m.perm q)) [
      | true ↦ λ t.
          let same : n ≡ q = grind (arith, nat_tests) in
          let was : get m.perm q ≡ None = rw same at gone in
          rw was refl
      | false ↦ λ t. refl
    ] refl

zero_at : (n k : ℕ) → k < n → slice_get {X = ℕ} (replicate n 0) k ≡ Some 0
zero_at n k h = slice_get-get_or (replicate n 0) k 0 (rw (length-replicate {A = ℕ} n 0) h) ∙ ap Some (get_or-replicate {A = ℕ} n k 0 0 h)

pub new_zero : (m new : AddressSpace) (n f : ℕ) (bs : List ℕ) → IsZero m → n < 2 ^ 52 → bs ≡ replicate 4096 0 → new ≡ with_page m n f bs
    → IsZero new
new_zero m new n f bs none low zeros is a =
    let full : length bs ≡ 4096 = ap length zeros ∙ length-replicate {A = ℕ} 4096 0 in
    ap (λ x. get x.mem a) is ∙ mem-with_page m n f bs a full low
    ∙ elim (n == a / 4096) as (λ t. (n == a / 4096) ≡ t
    → over (4096 * n) bs a (get m.mem a) ≡ zero_in (cond t (Some f) (get m.perm (a / 4096)))) [
      | true ↦ λ t.
          let same : a / 4096 ≡ n = grind (arith, nat_tests) in
          in_page n a bs (get m.mem a) full same ∙ ap (λ x. slice_get x (a % 4096)) zeros ∙ zero_at 4096 (a % 4096) (omega arith)
      | false ↦ λ t.
          let apart : a / 4096 ≢ n = grind (arith, nat_tests) in
          off_page n a bs (get m.mem a) full apart ∙ none a
    ] refl
    ∙ ap zero_in (sym (ap (λ x. get x.perm (a / 4096)) is ∙ perm-with_page m n f bs (a / 4096)))

-- flags that are added to others
pub sum_of_both : (f g : ℕ) → f < 8 → g < 8 → bit_or f g < 8
sum_of_both f g l m = or_lt 3 f g l m

-- ---- the pages from one on, up to another

none_before : (first n q : ℕ) → n ≡ q → (nat_le first q && nat_lt q n) ≡ false
none_before first n q e = grind (arith, nat_tests)

one_now : (first n q : ℕ) → first ≤ n → n ≡ q → (nat_le first q && nat_lt q (n + 1)) ≡ true
one_now first n q l e = grind (arith, nat_tests)

no_other : (first n q : ℕ) → (n == q) ≡ false → (nat_le first q && nat_lt q (n + 1)) ≡ (nat_le first q && nat_lt q n)
no_other first n q t = grind (arith, nat_tests)

pub touched_none : (first q f : ℕ) (old : Option ℕ) → old ≡ union (cond (nat_le first q && nat_lt q first) (Some f) None) old
touched_none first q f old = let e : (nat_le first q && nat_lt q first) ≡ false = grind (arith, nat_tests) in rw e refl

pub touched_more : (first n q f : ℕ) (old now new : Option ℕ) → first ≤ n
    → now ≡ union (cond (nat_le first q && nat_lt q n) (Some f) None) old → new ≡ cond (n == q) (union (Some f) now) now
    → new ≡ union (cond (nat_le first q && nat_lt q (n + 1)) (Some f) None) old
touched_more first n q f old now new l before is =
    elim (n == q) as (λ t. (n == q) ≡ t → new ≡ cond t (union (Some f) now) now
    → new ≡ union (cond (nat_le first q && nat_lt q (n + 1)) (Some f) None) old) [
      | true ↦ λ t h.
          let was : now ≡ old = rw (none_before first n q (eqb-true n q t)) at before in
          h ∙ ap (union (Some f)) was ∙ sym (rw (one_now first n q l (eqb-true n q t)) refl)
      | false ↦ λ t h. h ∙ before ∙ sym (rw (no_other first n q t) refl)
    ] refl is

-- ---- no page

pub no_pages_fine : (ps : List Page) → ps ≡ [] → IsFine ps
no_pages_fine ps e =
    rw e (record {
      full = λ k d l. absurd (omega arith);
      flags = λ k d l. absurd (omega arith);
      low = λ k d l. absurd (omega arith);
      sorted = refl;
    })

no_flags : (n : ℕ) → get (perm_of []) n ≡ None
unfolding perm_of
no_flags n = get-empty nat_cmp n

no_bytes : (a : ℕ) → get (mem_of []) a ≡ None
unfolding mem_of
no_bytes a = get-empty nat_cmp a

pub no_pages_flags : (ps : List Page) (n : ℕ) → ps ≡ [] → get (perm_of ps) n ≡ None
no_pages_flags ps n e = rw e (no_flags n)

pub no_pages_zero : (ps : List Page) → ps ≡ [] → IsZero (memory_of ps)
no_pages_zero ps e a = rw e (no_bytes a ∙ ap zero_in (sym (no_flags (a / 4096))))

pub no_pages_own : (ps : List Page) → ps ≡ [] → AreHeld true ps
no_pages_own ps e = rw e (λ k d l. absurd (omega arith))
