-- What a list of pages holds at an address.
use Rattle.std.proofs.Common.{◌≡◌, ℕ, ◌*◌, ◌/◌, ◌%◌, ◌^◌, ◌<◌, Bool, true, false, cond, List, [], ◌∷◌, length, refl, ◌∙◌, arith, Option}
use Rattle.std.proofs.Common.{Some, None, slice_get, option_map}
use Rattle.std.specs.Prelude.{◌==◌}
use Rattle.std.specs.List.{AllByRecursion}
use Rattle.std.proofs.lemmas.List.Elements.{recursion_from_All}
use Rattle.std.proofs.lemmas.Bool.Decides.{nat_tests}
use Rattle.std.specs.FinMap.{get, get-insert, get-empty}
use Rattle.std.specs.Cmp.{nat_cmp_total}
use Rattle.std.specs.Ordering.{nat_cmp}
use Rattle.plain_lemmas.proofs.Tests.{eq_by_cmp-nat}
use Rattle.paged_memory.specs.declared.page.Page.{Page}
use Rattle.paged_memory.specs.Memory.{set_bytes, byte_with, permitted}
use Rattle.paged_memory.specs.Pages.{page_at, mem_of, perm_of, memory_of, IsFine}
use Rattle.paged_memory.proofs.Over.{over, get-set_bytes, in_page, off_page}

-- what the second gives of the value of the first, if any
abbrev pub bind : {A B : Type 0} → Option A → (A → Option B) → Option B
bind None f = None
bind (Some x) f = f x

pub get_perm_step : (b : Bool) (p : Page) (rest : Option Page)
    → cond b (Some p.flags) (option_map (λ p. p.flags) rest) ≡ option_map (λ p. p.flags) (cond b (Some p) rest)
get_perm_step true p rest = refl
get_perm_step false p rest = refl

pub get-perm_of : (ps : List Page) (n : ℕ) → get (perm_of ps) n ≡ option_map (λ p. p.flags) (page_at ps n)
unfolding perm_of
get-perm_of [] n = get-empty nat_cmp n
get-perm_of (p ∷ ps) n = rw (get-insert nat_cmp_total, eq_by_cmp-nat, get-perm_of ps n) (get_perm_step (p.number == n) p (page_at ps n))

pub get_mem_step : (p : Page) (rest : Option Page) (a : ℕ) (old : Option ℕ) → length p.bytes.items ≡ 4096
    → old ≡ bind rest (λ p. slice_get p.bytes.items (a % 4096))
    → over (4096 * p.number) p.bytes.items a old
    ≡ bind (cond (p.number == a / 4096) (Some p) rest) (λ p. slice_get p.bytes.items (a % 4096))
get_mem_step p rest a old full e =
    elim (p.number == a / 4096) as (λ t. (p.number == a / 4096) ≡ t
    → over (4096 * p.number) p.bytes.items a old ≡ bind (cond t (Some p) rest) (λ p. slice_get p.bytes.items (a % 4096))) [
      | true ↦ λ t. in_page p.number a p.bytes.items old full (grind (arith, nat_tests))
      | false ↦ λ t. off_page p.number a p.bytes.items old full (grind (arith, nat_tests)) ∙ e
    ] refl

pub get-mem_of : (ps : List Page) (a : ℕ) → AllByRecursion (λ p. length p.bytes.items ≡ 4096) ps
    → AllByRecursion (λ p. p.number < 2 ^ 52) ps
    → get (mem_of ps) a ≡ bind (page_at ps (a / 4096)) (λ p. slice_get p.bytes.items (a % 4096))
unfolding mem_of
get-mem_of [] a h l = get-empty nat_cmp a
get-mem_of (p ∷ ps) a h l =
    let all : get (set_bytes (mem_of ps) (4096 * p.number) p.bytes.items) a ≡ over (4096 * p.number) p.bytes.items a (get (mem_of ps) a) =
    get-set_bytes _ _ _ _ (rw h.0 (omega arith)) in
    all ∙ get_mem_step p (page_at ps (a / 4096)) a (get (mem_of ps) a) h.0 (get-mem_of ps a h.1 l.1)

pub byte-memory_of : (ps : List Page) (need a : ℕ) → IsFine ps
    → byte_with need (memory_of ps) a ≡ permitted need (option_map (λ p. p.flags) (page_at ps (a / 4096)))
    (bind (page_at ps (a / 4096)) (λ p. slice_get p.bytes.items (a % 4096)))
unfolding byte_with
byte-memory_of ps need a fine =
    rw (get-perm_of ps (a / 4096), get-mem_of ps a (recursion_from_All _ ps fine.full) (recursion_from_All _ ps fine.low)) refl
