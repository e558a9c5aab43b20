-- A text is looked for slot by slot.
use Rattle.std.proofs.Common.{◌≡◌, ℕ, suc, ◌+◌, ◌-◌, ◌%◌, ◌<◌, ◌≤◌, ◌==◌, Bool, true, false, cond, List, Option, Some, None, refl, sym, ap}
use Rattle.std.proofs.Common.{◌∙◌, arith, eqb-true, eq-eqb}
use Rattle.std.specs.Prelude.{slice_index}
use Rattle.std.proofs.lemmas.Bool.{false_from_ne_true}
use Rattle.insn_text.specs.declared.item.Text.{Text}
use Rattle.asm_tokens.specs.Slots.{index_if, first_of, probed}

module _ (texts : List Text) (slots : List ℕ) (size : ℕ) (text : List ℕ) where
  abbrev found_at : ℕ → Option ℕ
  found_at at = index_if texts (slice_index slots at) text

  abbrev found_after : ℕ → ℕ → Option ℕ
  found_after step at = probed texts slots size text (16 - (step + 1)) ((at + 1) % size)

  -- the steps that are left, one of which is the next
  steps_left : (step : ℕ) → step < 16 → 16 - step ≡ suc (16 - (step + 1))
  steps_left step lt = omega arith

  not_free : (b : Bool) (first second : Option ℕ) → b ≡ false → cond b None (first_of first second) ≡ first_of first second
  not_free true first second e = cc
  not_free false first second e = refl

  is_free : (b : Bool) (first second : Option ℕ) → b ≡ true → cond b None (first_of first second) ≡ None
  is_free true first second e = refl
  is_free false first second e = cc

  pub ends-free : (step at slot : ℕ) → step < 16 → slot ≡ slice_index slots at → slot ≡ 65535
      → probed texts slots size text (16 - step) at ≡ None
  unfolding probed
  ends-free step at slot lt is free =
      ap (λ n. probed texts slots size text n at) (steps_left step lt)
      ∙ is_free (slice_index slots at == 65535) (found_at at) (found_after step at) (ap (λ n. n == 65535) (sym is) ∙ eq-eqb slot 65535 free)

  taken : (slot : ℕ) → (slot ≡ 65535 → ⊥) → (slot == 65535) ≡ false
  taken slot other = false_from_ne_true _ (λ e. other (eqb-true slot 65535 e))

  pub finds : (step at slot index : ℕ) → step < 16 → slot ≡ slice_index slots at → (slot ≡ 65535 → ⊥)
      → Some index ≡ index_if texts slot text → probed texts slots size text (16 - step) at ≡ Some index
  unfolding probed
  finds step at slot index lt is other found =
      ap (λ n. probed texts slots size text n at) (steps_left step lt)
      ∙ not_free (slice_index slots at == 65535) (found_at at) (found_after step at) (ap (λ n. n == 65535) (sym is) ∙ taken slot other)
      ∙ ap (λ o. first_of o (probed texts slots size text (16 - (step + 1)) ((at + 1) % size)))
      (ap (λ k. index_if texts k text) (sym is) ∙ sym found)

  pub goes-on : (step at slot : ℕ) → step < 16 → slot ≡ slice_index slots at → (slot ≡ 65535 → ⊥) → None ≡ index_if texts slot text
      → probed texts slots size text (16 - step) at ≡ probed texts slots size text (16 - (step + 1)) ((at + 1) % size)
  unfolding probed
  goes-on step at slot lt is other none =
      ap (λ n. probed texts slots size text n at) (steps_left step lt)
      ∙ not_free (slice_index slots at == 65535) (found_at at) (found_after step at) (ap (λ n. n == 65535) (sym is) ∙ taken slot other)
      ∙ ap (λ o. first_of o (probed texts slots size text (16 - (step + 1)) ((at + 1) % size)))
      (ap (λ k. index_if texts k text) (sym is) ∙ sym none)

  pub ends : (step at : ℕ) → 16 ≤ step → probed texts slots size text (16 - step) at ≡ None
  unfolding probed
  ends step at le = let none : 16 - step ≡ 0 = omega arith in ap (λ n. probed texts slots size text n at) none
