-- What is near: in the page that is hinted at.
use Rattle.std.proofs.Common.{◌≡◌, ◌≢◌, ℕ, zero, suc, ◌+◌, ◌/◌, ◌%◌, ◌^◌, ◌<◌, ◌≤◌, List, length, refl, ap, sym, ◌∙◌, arith}
use Rattle.std.proofs.Common.{Option, true, false, true≢false, inl, inr, Some}
use Rattle.std.proofs.lemmas.Bool.{cases_lt}
use Rattle.std.specs.FinMap.{get}
use Rattle.std.specs.FinSet.{contains}
use Rattle.paged_memory.specs.declared.page.Page.{Page}
use Rattle.paged_memory.specs.declared.code.Code.{Code}
use Rattle.paged_memory.specs.Code.{IsHeld}
use Rattle.paged_memory.specs.Memory.{set_bytes, byte_with, bytes_with}
use Rattle.paged_memory.specs.PageTable.{PageTable, KeepsShared, KeepsOwned, IsOwned}
use Rattle.paged_memory.specs.Pages.{mem_of, perm_of, own_numbers, table_of}
use Rattle.paged_memory.proofs.Over.{over, over-below, over-above, get-set_bytes}

-- an address of another page than that of some bytes
elsewhere : (a k : ℕ) (bs : List ℕ) (old : Option ℕ) → a / 4096 ≢ k / 4096 → a % 4096 + length bs ≤ 4096 → over a bs k old ≡ old
elsewhere a k bs old other fits =
    elim (cases_lt k a) [
      | inl l ↦ over-below a bs k old l
      | inr g ↦ let p : a / 4096 < k / 4096 = grind arith in over-above a bs k old (omega arith)
    ]

-- bytes are set in a page that is owned
pub keeps_shared : (old new : List Page) (a : ℕ) (bs : List ℕ) → a < 2 ^ 64 → a % 4096 + length bs ≤ 4096
    → IsOwned (table_of old) (a / 4096) → mem_of new ≡ set_bytes (mem_of old) a bs → perm_of new ≡ perm_of old
    → own_numbers new ≡ own_numbers old → KeepsShared (table_of old) (table_of new)
keeps_shared old new a bs low fits owned mem flags own = record {
  owned = own;
  flags = flags;
  bytes = λ k shared. ap (λ m. get m k) mem ∙ get-set_bytes (mem_of old) a bs k (omega arith)
      ∙ elsewhere a k bs (get (mem_of old) k)
      (λ e. true≢false (sym owned ∙ ap (contains (own_numbers old)) e ∙ shared)) fits;
}

pub shared_stay : (t : PageTable) → KeepsShared t t
shared_stay t = record { owned = refl; flags = refl; bytes = λ k h. refl }

pub shared_owned : (t u : PageTable) → KeepsShared t u → KeepsOwned t u
shared_owned t u h n owned = ap (λ s. contains s n) h.owned ∙ owned

code_stays : (t u : PageTable) (base n : ℕ) → KeepsShared t u → contains t.owned (base / 4096) ≡ false → base % 4096 ≡ 0
    → base < 2 ^ 64 → n ≤ 4096 → bytes_with 1 u.memory base n ≡ bytes_with 1 t.memory base n
unfolding bytes_with byte_with
code_stays t u base zero h shared aligned low few = refl
code_stays t u base (suc n) h shared aligned low few =
    let at : ℕ = (base + n) % 2 ^ 64 in
    let page : at / 4096 ≡ base / 4096 = omega arith in
    let byte : byte_with 1 u.memory at ≡ byte_with 1 t.memory at =
    rw (h.flags, h.bytes at (ap (contains t.owned) page ∙ shared)) refl in
    rw (code_stays t u base n h shared aligned low (omega arith), byte) refl

-- a page that is held stays
pub held_stays : (code : Code) (t u : PageTable) (base : ℕ) → base % 4096 ≡ 0 → base < 2 ^ 64 → KeepsShared t u → IsHeld code base t
    → IsHeld code base u
held_stays code t u base aligned low h held = record {
  full = held.full;
  bytes = code_stays t u base 4096 h held.shared aligned low (omega arith) ∙ held.bytes;
  shared = ap (λ s. contains s (base / 4096)) h.owned ∙ held.shared;
}
