-- The memory of some pages has exactly the addresses of these pages.
use Rattle.std.proofs.Common.{◌≡◌, ℕ, zero, suc, ◌/◌, ◌%◌, ◌<◌, true, false, cond, List, [], ◌∷◌, length, refl, ap, sym, ◌∙◌, subst, arith}
use Rattle.std.proofs.Common.{Some, slice_get, option_map}
use Rattle.std.specs.Prelude.{◌==◌, is_some}
use Rattle.std.specs.List.{AllByRecursion}
use Rattle.std.proofs.lemmas.List.Elements.{recursion_from_All}
use Rattle.paged_memory.specs.declared.page.Page.{Page}
use Rattle.paged_memory.specs.Memory.{AddressSpace, IsWhole}
use Rattle.paged_memory.specs.Pages.{page_at, memory_of, IsFine}
use Rattle.paged_memory.proofs.Bytes.{bind, get-perm_of}
use Rattle.paged_memory.proofs.Set.{get-mem_of-fine}

within : (bs : List ℕ) (k : ℕ) → k < length bs → is_some (slice_get bs k) ≡ true
within [] k l = absurd (omega arith)
within (b ∷ bs) zero l = refl
within (b ∷ bs) (suc k) l = within bs k (omega arith)

-- a page has a byte at each of its places
there : (ps : List Page) (n k : ℕ) → AllByRecursion (λ p. length p.bytes.items ≡ 4096) ps → k < 4096
    → is_some (bind (page_at ps n) (λ p. slice_get p.bytes.items k)) ≡ is_some (option_map (λ p. p.flags) (page_at ps n))
there [] n k full l = refl
there (p ∷ ps) n k full l =
    elim (p.number == n) as (λ t. is_some (bind (cond t (Some p) (page_at ps n)) (λ p. slice_get p.bytes.items k))
    ≡ is_some (option_map (λ p. p.flags) (cond t (Some p) (page_at ps n)))) [
      | true ↦ within p.bytes.items k (rw full.0 l)
      | false ↦ there ps n k full.1 l
    ]

-- the flags of a page that is found
found : (ps : List Page) (n flags : ℕ) → AllByRecursion (λ p. p.flags < 8) ps → option_map (λ p. p.flags) (page_at ps n) ≡ Some flags
    → flags < 8
found [] n flags all e = cc
found (p ∷ ps) n flags all e =
    elim (p.number == n) as (λ t. option_map (λ p. p.flags) (cond t (Some p) (page_at ps n)) ≡ Some flags → flags < 8) [
      | true ↦ λ is. let same : p.flags ≡ flags = cc in subst (λ f. f < 8) same all.0
      | false ↦ λ is. found ps n flags all.1 is
    ] e

pub whole_pages : (ps : List Page) → IsFine ps → IsWhole (memory_of ps)
whole_pages ps fine = record {
  bytes = λ a. ap is_some (get-mem_of-fine ps a fine)
      ∙ there ps (a / 4096) (a % 4096) (recursion_from_All (λ p. length p.bytes.items ≡ 4096) ps fine.full) (omega arith)
      ∙ sym (ap is_some (get-perm_of ps (a / 4096)));
  flags = λ n flags e. found ps n flags (recursion_from_All (λ p. p.flags < 8) ps fine.flags) (sym (get-perm_of ps n) ∙ e);
}

pub whole_memory : (ps : List Page) (m : AddressSpace) → IsFine ps → memory_of ps ≡ m → IsWhole m
whole_memory ps m fine is = subst IsWhole is (whole_pages ps fine)
