-- The state of a thread before its first turn may be kept.
use Rattle.std.proofs.Common.{◌≡◌, ℕ, zero, suc, ◌+◌, ◌≤◌, Option, Some, None, inl, inr, refl, ap, ◌∙◌, arith, cond}
use Rattle.std.specs.Prelude.{IsSome}
use Rattle.std.specs.FinMap.{get, get-insert}
use Rattle.std.specs.Cmp.{nat_cmp_total}
use Rattle.plain_lemmas.proofs.Tests.{eq_by_cmp-above}
use Rattle.sm_types.specs.declared.config.Config.{Config}
use Rattle.paged_memory.specs.Image.{Program, IsImage, IsLoadablePage}
use Rattle.paged_memory.specs.Memory.{AddressSpace, with_page, with_zero_pages, with_stack}
use Rattle.kernel_contexts.specs.State.{start_state}
use Rattle.kept_states.specs.Fields.{MayBeKept}

-- a page past some more pages is as it was
past_pages : (m : AddressSpace) (first q n : ℕ) → first + n ≤ q → get (with_zero_pages m first 6 n).perm q ≡ get m.perm q
unfolding with_zero_pages with_page
past_pages m first q zero l = refl
past_pages m first q (suc n) l =
    get-insert nat_cmp_total (with_zero_pages m first 6 n).perm (first + n) 6 q
    ∙ ap (λ b. cond b (Some 6) (get (with_zero_pages m first 6 n).perm q)) (eq_by_cmp-above (first + n) q (omega (arith, l)))
    ∙ past_pages m first q n (omega (arith, l))

past_stack : (m : AddressSpace) → get (with_stack m).perm 0x7F0000000 ≡ get m.perm 0x7F0000000
unfolding with_stack
past_stack m = past_pages m 0x7DFFFFFC0 0x7F0000000 64 (omega arith)

not_there : (o : Option ℕ) → (IsSome o → IsLoadablePage 0x7F0000000) → o ≡ None
not_there None h = refl
not_there (Some flags) h = absurd (elim (h refl).1 [ inl below ↦ omega (arith, below) | inr above ↦ omega (arith, above) ])

-- no image has a page in the shared region
pub none_shared : (p : Program) → IsImage p → get p.memory.perm 0x7F0000000 ≡ None
none_shared p h = not_there (get p.memory.perm 0x7F0000000) (h.places 0x7F0000000)

pub start_kept : (program : Program) (config : Config) (thread : ℕ) → get program.memory.perm 0x7F0000000 ≡ None
    → MayBeKept config (start_state program config thread)
unfolding start_state
start_kept program config thread none = record {
  goes = record {
    count = let some = config.budget_in_range in omega (arith, some);
    turns = omega arith;
    signals = refl;
    highest = omega arith;
  };
  private = past_stack program.memory ∙ none;
}
