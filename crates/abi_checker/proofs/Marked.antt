-- The mark at a tail, where one of its words is known.
use Rattle.std.proofs.Common.{◌≡◌, ℕ, ℤ, ◌+◌, ◌-◌, ◌*◌, ◌%◌, ◌^◌, ◌<◌, arith, refl, ap, sym, ◌∙◌, subst, Option, Some, None, true}
use Rattle.std.specs.Prelude.{unwrap_or}
use Rattle.sm_types.specs.declared.insn.Insn.TheVariants as insn
use Rattle.sm_types.specs.declared.insn.Branch.TheVariants as branch
use Rattle.a64_encode.specs.Either.{instruction_of}
use Rattle.paged_memory.specs.Memory.{AddressSpace}
use Rattle.lazy_saving.specs.Dormant.{Places}
use Rattle.scalar_exec.specs.Branches.{branch_target}
use Rattle.sm_types.specs.Routines.{tail_words, restore_words, disable_words}
use Rattle.abi_checker.specs.Marks.{HasMark, AreWords, word_in}

same_distance : (d e : ℤ) → Some (insn.Branch (branch.Unconditional true d)) ≡ Some (insn.Branch (branch.Unconditional true e)) → d ≡ e
same_distance d e h = cc

module _ (m : AddressSpace) (tail : ℕ) (w : Option ℕ) (is : w ≡ word_in m ((tail + 16) % 2 ^ 64)) (p : Places) (at : p.tail ≡ tail)
    (h : HasMark m p) where
  there : w ≡ Some h.call
  there = is ∙ ap (λ a. word_in m ((a + 16) % 2 ^ 64)) (sym at) ∙ h.tail 4 h.call refl

  pub no_word : w ≡ None → ⊥
  no_word none = let no : None ≡ Some h.call = sym none ∙ there in cc

  pub no_target : (call : ℕ) → w ≡ Some call
      → ((distance : ℤ) → ¬ (instruction_of call ≡ Some (insn.Branch (branch.Unconditional true distance)))) → ⊥
  no_target call some none =
      let same : h.call ≡ call = ap (λ o. unwrap_or o call) (sym there ∙ some) in
      none h.distance (ap (λ n. instruction_of n) (sym same) ∙ h.calls)

  pub mark_words : (call : ℕ) → w ≡ Some call → (distance : ℤ)
      → instruction_of call ≡ Some (insn.Branch (branch.Unconditional true distance)) → (restore : ℕ)
      → restore ≡ branch_target ((tail + 16) % 2 ^ 64) distance
      → AreWords m tail (tail_words call) × AreWords m restore restore_words
      × AreWords m ((restore + (2 ^ 64 - 80)) % 2 ^ 64) disable_words
  mark_words call some distance calls restore goes =
      let same : h.call ≡ call = ap (λ o. unwrap_or o call) (sym there ∙ some) in
      let far : h.distance ≡ distance = same_distance h.distance distance (sym h.calls ∙ ap (λ n. instruction_of n) same ∙ calls) in
      let place : p.restore ≡ restore =
      h.target ∙ ap (λ a. branch_target ((a + 16) % 2 ^ 64) h.distance) at ∙ ap (λ d. branch_target ((tail + 16) % 2 ^ 64) d) far
      ∙ sym goes in (
        subst (λ a. AreWords m a (tail_words call)) at (subst (λ n. AreWords m p.tail (tail_words n)) same h.tail),
        subst (λ a. AreWords m a restore_words) place h.restore,
        subst (λ a. AreWords m ((a + (2 ^ 64 - 80)) % 2 ^ 64) disable_words) place
            (subst (λ a. AreWords m a disable_words) h.end h.disable),
      )

-- the first word of the tail
pub first_there : (m : AddressSpace) (tail : ℕ) → tail < 2 ^ 64 → (w : Option ℕ) → w ≡ word_in m tail → (p : Places) → p.tail ≡ tail
    → HasMark m p → w ≡ Some 0xD503457F
first_there m tail small w is p at h =
    let place : tail ≡ (tail + 4 * 0) % 2 ^ 64 = omega (arith, small) in
    is ∙ ap (word_in m) place ∙ ap (λ a. word_in m ((a + 4 * 0) % 2 ^ 64)) (sym at) ∙ h.tail 0 0xD503457F refl
