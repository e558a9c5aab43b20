-- The pages of the stack.
use Rattle.std.proofs.Common.{◌≡◌, ◌≢◌, ℕ, zero, suc, ◌+◌, ◌≤◌, false, List, refl, ◌∙◌, arith, replicate, add-one}
use Rattle.std.specs.Prelude.{◌==◌}
use Rattle.std.specs.FinMap.{get}
use Rattle.std.proofs.lemmas.Bool.Decides.{nat_tests}
use Rattle.paged_memory.specs.Memory.{AddressSpace, with_page, with_zero_pages, with_stack, zero_page}
use Rattle.paged_memory.proofs.Insert.{perm-with_page}

-- pages past some are as they were
pub perm-with_zero_pages : (m : AddressSpace) (first flags k q : ℕ) → first + k ≤ q
    → get (with_zero_pages m first flags k).perm q ≡ get m.perm q
unfolding with_zero_pages
perm-with_zero_pages m first flags zero q h = refl
perm-with_zero_pages m first flags (suc k) q h =
    let apart : (first + k == q) ≡ false = let e : first + k ≢ q = grind arith in grind (arith, nat_tests) in
    perm-with_page (with_zero_pages m first flags k) (first + k) flags zero_page q
    ∙ rw apart (perm-with_zero_pages m first flags k q (omega arith))

pub zero_page_added : (m : AddressSpace) (first flags k : ℕ) (bs : List ℕ) → bs ≡ replicate 4096 0
    → with_page (with_zero_pages m first flags k) (first + k) flags bs ≡ with_zero_pages m first flags (k + 1)
unfolding with_zero_pages zero_page
zero_page_added m first flags k bs e = rw (add-one, e) refl

pub no_zero_pages : (m : AddressSpace) (first flags : ℕ) → m ≡ with_zero_pages m first flags 0
unfolding with_zero_pages
no_zero_pages m first flags = refl

pub stack_added : (m n : AddressSpace) (k : ℕ) → n ≡ with_zero_pages m 0x7DFFFFFC0 6 k → k ≡ 64 → n ≡ with_stack m
unfolding with_stack
stack_added m n k e is = rw is at e
