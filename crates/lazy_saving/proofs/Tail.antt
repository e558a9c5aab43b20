-- The tail of a call, where memory outside an area may change between its instructions.
use Rattle.std.proofs.Common.{◌≡◌, ℕ, ◌^◌, ◌<◌, true, false}
use Rattle.std.proofs.Common.{refl, ap, ◌∙◌, pos}
use Rattle.std.specs.Prelude.{slice_index}
use Rattle.scalar_exec.specs.Registers.{x_of}
use Rattle.machine_step.specs.ProcessorState.{ProcessorState}
use Rattle.machine_step.specs.Mode.{with_za}
use Rattle.machine_step.specs.Effect.{Becomes}
use Rattle.sm_types.specs.Routines.{tail_words}
use Rattle.lazy_saving.specs.Code.{place_of, HasTail}
use Rattle.lazy_saving.proofs.Meanings as word
use Rattle.lazy_saving.proofs.Registers.{Used, at}
use Rattle.lazy_saving.proofs.Interleaved.{Leads, In, IsKept, over, none_leads, in_stable, first_leads}
use Rattle.paged_memory.specs.Memory.{AddressSpace}
use Rattle.lazy_saving.proofs.Steps as step
use Rattle.lazy_saving.proofs.Steps.{Fetches, has_at, next_place, place_on}
use Rattle.lazy_saving.proofs.Reading as read
use Rattle.lazy_saving.proofs.Values.{to_place, values}
use Rattle.std.specs.Prelude.{Bool}

module _ (vl : ℕ) (area : ℕ → Bool) (t routine : ℕ) (r : ProcessorState) (tail : HasTail r.memory t routine) (F : AddressSpace → Type 0)
    (kept : IsKept vl area F) (code_of : (m : AddressSpace) → F m → Fetches m t (tail_words tail.call)) where
  -- ZA with the mode on
  abbrev pub turned_on : ProcessorState
  turned_on = with_za true r

  -- words 0 and 1
  pub opens : (x0 x14 x15 x16 x17 x30 : ℕ)
      → Leads vl area 2 (In vl area F r (values x0 x14 x15 x16 x17 x30) (place_of t 0)) (In vl area F turned_on
      (values x0 r.tpidr2 x15 x16 x17 x30) (place_of t 2))
  opens x0 x14 x15 x16 x17 x30 =
      let u0 = values x0 x14 x15 x16 x17 x30 in
      let u1 = values x0 r.tpidr2 x15 x16 x17 x30 in
      let on = turned_on in
      first_leads vl area 1 F kept r on u0 u0 (place_of t 0) (place_of t 1) _
      (λ m f. to_place _ (over on m) u0 _ _
      (step.turns_on vl (over r m) u0 (place_of t 0) (has_at (over r m) u0 t 0 _ (tail_words tail.call) _
      (code_of m f) refl word.array_on-means)) (next_place t 0))
      (first_leads vl area 0 F kept on on u0 u1 (place_of t 1) (place_of t 2) _
      (λ m f. to_place _ (over on m) u1 _ _
      (step.reads_pointer vl (over on m) u0 (place_of t 1) (has_at (over on m) u0 t 1 _ (tail_words tail.call) _
      (code_of m f) refl word.read_pointer-means))
      (next_place t 1))
      (none_leads vl area (In vl area F on u1 (place_of t 2)) (in_stable vl area F on u1 (place_of t 2) kept)))

  -- word 2, where the callee left ZA dormant
  pub skips : (x0 b x15 x16 x17 x30 : ℕ) → b < 2 ^ 64 → (b ≡ 0 → ⊥)
      → Leads vl area 1 (In vl area F turned_on (values x0 b x15 x16 x17 x30) (place_of t 2)) (In vl area F turned_on
      (values x0 b x15 x16 x17 x30) (place_of t 5))
  unfolding x_of
  skips x0 b x15 x16 x17 x30 small some =
      let u = values x0 b x15 x16 x17 x30 in
      let on = turned_on in
      first_leads vl area 0 F kept on on u u (place_of t 2) (place_of t 5) _
      (λ m f. step.compares vl (over on m) u (place_of t 2) (place_of t 5) true true _ 14 true
      (has_at (over on m) u t 2 _ (tail_words tail.call) _ (code_of m f) refl word.if_kept-means) (read.is_some b small some)
      (place_on t 2 3 (pos 3) refl))
      (none_leads vl area (In vl area F on u (place_of t 5)) (in_stable vl area F on u (place_of t 5) kept))

  -- words 2 to 4, where it saved ZA
  pub calls : (x0 b x15 x16 x17 x30 : ℕ) → slice_index r.scalars.x 19 ≡ b → b < 2 ^ 64
      → Leads vl area 3 (In vl area F turned_on (values x0 0 x15 x16 x17 x30) (place_of t 2)) (In vl area F turned_on
      (values b 0 x15 x16 x17 (place_of t 5)) routine)
  unfolding x_of
  calls x0 b x15 x16 x17 x30 is small =
      let u = values x0 0 x15 x16 x17 x30 in
      let v = values b 0 x15 x16 x17 x30 in
      let on = turned_on in
      first_leads vl area 2 F kept on on u u (place_of t 2) (place_of t 3) _
      (λ m f. to_place _ (over on m) u _ _
      (step.compares vl (over on m) u (place_of t 2) (place_of t 5) true true _ 14 false
      (has_at (over on m) u t 2 _ (tail_words tail.call) _ (code_of m f) refl word.if_kept-means) refl (place_on t 2 3 (pos 3) refl))
      (next_place t 2))
      (first_leads vl area 1 F kept on on u v (place_of t 3) (place_of t 4) _
      (λ m f. to_place _ (over on m) v _ _
      (step.gives_block vl (over on m) u (place_of t 3) b (has_at (over on m) u t 3 _ (tail_words tail.call) _
      (code_of m f) refl word.give_block-means) is small)
      (next_place t 3))
      (first_leads vl area 0 F kept on on v (values b 0 x15 x16 x17 (place_of t 5)) (place_of t 4) routine _
      (λ m f. step.calls vl (over on m) v (place_of t 4) routine tail.distance
      (has_at (over on m) v t 4 tail.call (tail_words tail.call) _ (code_of m f) refl tail.calls) tail.target
      ∙ ap (λ k. Becomes (at (over on m) (values b 0 x15 x16 x17 k) routine)) (next_place t 4))
      (none_leads vl area (In vl area F on (values b 0 x15 x16 x17 (place_of t 5)) routine) (in_stable vl area F on
      (values b 0 x15 x16 x17 (place_of t 5)) routine kept))))

  -- word 5
  pub closes : (s : ProcessorState) (u : Used)
      → Leads vl area 1 (In vl area F s u (place_of t 5)) (In vl area F (record s { tpidr2 = 0 }) u (place_of t 6))
  closes s u =
      let last = record s { tpidr2 = 0 } in
      first_leads vl area 0 F kept s last u u (place_of t 5) (place_of t 6) _
      (λ m f. to_place _ (over last m) u _ _
      (step.clears_pointer vl (over s m) u (place_of t 5)
      (has_at (over s m) u t 5 _ (tail_words tail.call) _ (code_of m f) refl word.clear_pointer-means)) (next_place t 5))
      (none_leads vl area (In vl area F last u (place_of t 6)) (in_stable vl area F last u (place_of t 6) kept))
