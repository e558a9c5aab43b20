-- After a lawful callee the tail gives the caller its ZA back.
use Rattle.std.proofs.Common.{◌≡◌, inl, inr, ℕ, ◌+◌, ◌*◌, ◌<◌, ◌≤◌, Bool, true, false, cond, List, [], length, replicate}
use Rattle.std.proofs.Common.{Some, refl, ap, sym, ◌∙◌, arith, subst}
use Rattle.std.specs.Prelude.{slice_index_or, nat_le}
use Rattle.std.proofs.lemmas.List.{ext_get_or}
use Rattle.paged_memory.specs.Memory.{IsWhole as IsWholeMemory, run_of}
use Rattle.scalar_exec.specs.Registers.{x_of}
use Rattle.sve_access.specs.After.{read_bytes}
use Rattle.machine_step.specs.ProcessorState.{ProcessorState}
use Rattle.machine_step.specs.Effect.{Becomes, effect_of}
use Rattle.lazy_saving.specs.Block.{buffer_of, saved_of}
use Rattle.lazy_saving.specs.Dormant.{Places, IsLawful, IsKept, IsSaved}
use Rattle.lazy_saving.specs.Instructions.{after_instructions}
use Rattle.lazy_saving.specs.Interleaved.{IsOver, Covers, IsPastOver}
use Rattle.lazy_saving.specs.Outcome.{IsWhole, IsBack, IsPast, IsRestored, HasSavedSlices, IsCallersArray, slice_back, instructions_past}
use Rattle.lazy_saving.proofs.Lawful.{back, slices_back}
use Rattle.lazy_saving.proofs.Cases.{above_test}
use Rattle.lazy_saving.proofs.Plain.{kept, saved}
use Rattle.lazy_saving.proofs.Returned.{kept_over, kept_goes, saved_over, saved_goes}

-- all slices of ZA were saved
pub whole_array : (on : Bool) (s t : ProcessorState) (bytes : List ℕ) → IsCallersArray on s t bytes
    → saved_of bytes ≡ length s.bank.za → t.bank.za ≡ s.bank.za
whole_array true s t bytes h all = h
whole_array false s t bytes h all =
    let count = h.count in
    ext_get_or [] t.bank.za s.bank.za h.count (λ i lt. h.saved i (omega (arith, lt, count, all)) (omega (arith, lt, count)))

module _ (vl : ℕ) (p : Places) (s r : ProcessorState) (b : ℕ) (h : IsLawful p s r b) (old : IsWholeMemory s.memory)
    (new : IsWholeMemory r.memory) (w : IsWhole r) (same : length r.bank.za ≡ length s.bank.za) (pc : r.scalars.pc ≡ p.tail) where
  abbrev bytes : List ℕ
  bytes = h.dormant.bytes

  ready : IsBack p r bytes
  ready = back p s r b h old new same pc

  -- what is loaded are the saved slices and zeros
  slices_of_caller : IsSaved s r bytes → (t : ProcessorState) → IsRestored r t bytes → HasSavedSlices s t bytes
  unfolding slice_back
  slices_of_caller is t restored = record {
    count = restored.count ∙ same;
    saved = λ i few lt. slices_back p s r b h old new same is t restored i few lt;
    others = λ i past lt.
        restored.slices i (subst (λ k. i < k) (sym same) lt)
        ∙ ap (λ k. cond k (replicate (length r.bank.za) 0)
        (read_bytes r.memory (run_of (buffer_of bytes + i * length r.bank.za) (length r.bank.za)))) (above_test i (saved_of bytes) past)
        ∙ ap (λ k. replicate k 0) same;
  }

  -- the tail is executed, and then this holds
  abbrev Comes : (n : ℕ) → (ProcessorState → Type 0) → Type 0
  Comes n Is = (t : ProcessorState) × (after_instructions vl n r ≡ Some t) × IsPast p r t × Is t

  -- so it does where memory changes between its instructions
  abbrev ComesOver : (ℕ → Bool) → (n : ℕ) → (ProcessorState → Type 0) → Type 0
  ComesOver area n Is =
      ((j : ℕ) (z : ProcessorState) → j < n → IsOver vl area j r z → (u : ProcessorState) × (effect_of vl z ≡ Becomes u))
      × ((t : ProcessorState) → IsOver vl area n r t → IsPastOver area p r t × Is t)

  pointer_kept : IsKept s r b → r.tpidr2 ≡ x_of r.scalars 19
  pointer_kept k = k.pointer ∙ sym h.pointer

  pub comes : Comes (instructions_past r.za_on bytes) (λ t. IsCallersArray r.za_on s t bytes)
  comes = elim h.half [
    | inl k ↦
        let it = kept vl p r bytes ready w k.za_on (pointer_kept k) in
        subst (λ on. Comes (instructions_past on bytes) (λ t. IsCallersArray on s t bytes)) (sym k.za_on)
        (it.state, it.runs, it.is.0, it.is.1 ∙ k.za)
    | inr k ↦
        let it = saved vl p r bytes ready w k.za_on k.pointer in
        subst (λ on. Comes (instructions_past on bytes) (λ t. IsCallersArray on s t bytes)) (sym k.za_on)
        (it.state, it.runs, it.is.0, slices_of_caller k it.state it.is.1)
  ]

  module _ (area : ℕ → Bool) (inside : Covers area p (length s.bank.za) b bytes) where
    covers : Covers area p (length r.bank.za) (x_of r.scalars 19) bytes
    covers =
        subst (λ x. Covers area p (length r.bank.za) x bytes) (sym h.pointer)
        (subst (λ k. Covers area p k b bytes) (sym same) inside)

    pub comes_over : ComesOver area (instructions_past r.za_on bytes) (λ t. IsCallersArray r.za_on s t bytes)
    comes_over = elim h.half [
      | inl k ↦
          let pointer = pointer_kept k in
          subst (λ on. ComesOver area (instructions_past on bytes) (λ t. IsCallersArray on s t bytes)) (sym k.za_on) (
            λ j z lt o. kept_goes vl area p r bytes ready w covers k.za_on pointer j z lt o,
            λ t o. let it = kept_over vl area p r bytes ready w covers k.za_on pointer t o in (it.0, it.1 ∙ k.za),
          )
      | inr k ↦
          subst (λ on. ComesOver area (instructions_past on bytes) (λ t. IsCallersArray on s t bytes)) (sym k.za_on) (
            λ j z lt o. saved_goes vl area p r bytes ready w covers k.za_on k.pointer j z lt o,
            λ t o.
                let it = saved_over vl area p r bytes ready w covers k.za_on k.pointer t o in (it.0, slices_of_caller k t it.1),
          )
    ]
