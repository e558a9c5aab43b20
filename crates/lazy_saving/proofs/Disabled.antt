-- __arm_za_disable saves ZA and turns it off, whatever becomes of memory outside an area between its instructions.
use Rattle.std.proofs.Common.{◌≡◌, inl, inr, ℕ, suc, ◌+◌, ◌*◌, ◌^◌, ◌<◌, ◌≤◌, ◌==◌, Bool, true, false, cond}
use Rattle.std.proofs.Common.{List, [], length, None, refl, ap, ap₂, sym, ◌∙◌, arith, subst, eqb-true}
use Rattle.std.specs.Bool.{beq}
use Rattle.std.specs.Prelude.{slice_index, slice_index_or}
use Rattle.std.proofs.lemmas.Bool.{cases_Bool}
use Rattle.std.proofs.lemmas.Nat.{row_fits}
use Rattle.paged_memory.specs.Memory.{AddressSpace, first_without}
use Rattle.scalar_exec.specs.Registers.{x_of}
use Rattle.mem_access.specs.Runs.{first_shared, with_bytes}
use Rattle.machine_step.specs.ProcessorState.{ProcessorState}
use Rattle.machine_step.specs.Mode.{with_za}
use Rattle.machine_step.specs.Effect.{Becomes, effect_of}
use Rattle.sm_types.specs.Routines.{disable_words}
use Rattle.lazy_saving.specs.Code.{place_of}
use Rattle.lazy_saving.specs.Block.{IsBlock, buffer_of, slices_of, saved_of}
use Rattle.lazy_saving.specs.Dormant.{Places, IsDormantAt}
use Rattle.lazy_saving.specs.Interleaved.{IsOver, Covers, IsDisabledOver}
use Rattle.lazy_saving.specs.Outcome.{IsWhole, disable_length}
use Rattle.lazy_saving.proofs.Registers.{used_of, at, at_start}
use Rattle.lazy_saving.proofs.Steps.{Fetches}
use Rattle.lazy_saving.proofs.Pieces.{piece_of, read_at}
use Rattle.lazy_saving.proofs.Values.{values}
use Rattle.lazy_saving.proofs.Cases.{place_zero, not_null, saved_none, saved_some, pred_of, array_count}
use Rattle.lazy_saving.proofs.Kept.{temporaries_kept}
use Rattle.lazy_saving.proofs.Interleaved.{Leads, In, IsKept, over, both_lead, so_many_lead, weaken}
use Rattle.lazy_saving.proofs.Disabling as disable
use Rattle.lazy_saving.proofs.Facts as facts
use Rattle.lazy_saving.proofs.Facts.{Facts}

saved_few : (bytes : List ℕ) → saved_of bytes ≤ slices_of bytes
saved_few bytes = elim (cases_Bool (buffer_of bytes == 0)) [
  | inl null ↦ (let e = saved_none bytes null in omega (arith, e))
  | inr some ↦ (let e = saved_some bytes some in omega (arith, e))
]

module _ (vl : ℕ) (area : ℕ → Bool) (p : Places) (s : ProcessorState) (b : ℕ) (h : IsDormantAt p s b) (w : IsWhole s)
    (start : s.scalars.pc ≡ p.disable) (covers : Covers area p (length s.bank.za) b h.bytes) where
  abbrev bytes : List ℕ
  bytes = h.bytes

  abbrev d : ℕ
  d = p.disable

  abbrev a : ℕ
  a = buffer_of bytes

  abbrev wide : ℕ
  wide = length s.bank.za

  abbrev n : ℕ
  n = saved_of bytes

  abbrev x0 : ℕ
  x0 = slice_index s.scalars.x 0

  abbrev x17 : ℕ
  x17 = slice_index s.scalars.x 17

  abbrev x30 : ℕ
  x30 = slice_index s.scalars.x 30

  few : n ≤ wide
  few = let f = h.ready.block.few in let g = saved_few bytes in omega (arith, f, g)

  long : (i : ℕ) → i < n → length (slice_index_or s.bank.za i []) ≡ wide
  long i lt = w.square.long i (omega (arith, lt, few))

  abbrev F : ℕ → AddressSpace → Type 0
  F i m = (i ≤ n) × Facts area s.memory a wide n s.bank.za i m

  kept : (i : ℕ) → IsKept vl area (F i)
  kept i m k f same =
      (f.0, facts.facts_kept area s.memory a wide n s.bank.za covers.buffer h.ready.buffer.end w.small long i f.0 m k f.1 same)

  code : (i : ℕ) (m : AddressSpace) → F i m → Fetches m d disable_words
  code i m f = facts.code_of area s.memory a wide n s.bank.za i m d covers.disable h.ready.off_disable h.ready.disable f.1

  block : (m : AddressSpace) → F 0 m → IsBlock m wide b bytes
  block m f = facts.block_of area s.memory a wide n s.bank.za 0 m wide b bytes covers.block h.ready.off_block h.ready.block f.1

  private : (i : ℕ) → i < n → first_shared (piece_of a wide i) wide ≡ None
  private i lt =
      facts.piece_private area s.memory a wide n s.bank.za covers.buffer h.ready.buffer.end w.small long i lt h.ready.buffer.writable.apart

  there : (i : ℕ) (m : AddressSpace) → i < n → F i m → first_without 2 m (piece_of a wide i) wide ≡ None
  there i m lt f =
      facts.piece_there area s.memory a wide n s.bank.za covers.buffer h.ready.buffer.end w.small long 2 i m lt f.1.writable

  store : (i : ℕ) (m : AddressSpace) → i < n → F i m → F (suc i) (with_bytes m (piece_of a wide i) (slice_index_or s.bank.za i []))
  store i m lt f =
      (omega (arith, lt), facts.facts_more area s.memory a wide n s.bank.za covers.buffer h.ready.buffer.end w.small long i m lt f.1)

  abbrev Start : ProcessorState → Type 0
  Start = In vl area (F 0) s (used_of s.scalars.x) (place_of d 0)

  starts : Start s
  starts = (
    s.memory,
    (omega arith, facts.facts_first area s.memory a wide n s.bank.za h.ready.buffer.writable.there h.ready.buffer.readable.there),
    sym (at_start s (place_of d 0) w.registers (start ∙ place_zero d h.ready.disable.small)),
  )

  abbrev saved : ProcessorState
  saved = with_za false (record s { tpidr2 = 0 })

  abbrev End : ProcessorState → Type 0
  End y = (x14 : ℕ) × (x15 : ℕ) × (x16 : ℕ) × (y17 : ℕ) × In vl area (F n) saved (values x0 x14 x15 x16 y17 x30) x30 y

  reads : Leads vl area 7 Start (In vl area (F 0) s (values x0 b 0 a x17 x30) (place_of d 7))
  reads =
      disable.reads_block vl area d (F 0) (kept 0) (code 0) s b bytes h.ready.block.small h.ready.block.some block h.pointer x0 x17 x30
      (slice_index s.scalars.x 14) (slice_index s.scalars.x 15) (slice_index s.scalars.x 16)

  at_end : (x14 x15 x16 y17 i : ℕ) → i ≡ n → (y : ProcessorState)
      → In vl area (F i) saved (values x0 x14 x15 x16 y17 x30) x30 y → End y
  at_end x14 x15 x16 y17 i e y q =
      (x14, x15, x16, y17, subst (λ k. In vl area (F k) saved (values x0 x14 x15 x16 y17 x30) x30 y) e q)

  with_null : (buffer_of bytes == 0) ≡ true → Leads vl area (disable_length bytes) Start End
  with_null null =
      let zero_buffer = eqb-true (buffer_of bytes) 0 null in
      let count : 11 ≡ disable_length bytes = sym (ap (λ k. cond k 11 (cond (slices_of bytes == 0) 13 (14 + 5 * slices_of bytes))) null) in
      so_many_lead vl area 11 (disable_length bytes) Start End count
      (weaken vl area 11 Start (In vl area (F 0) saved (values x0 b 0 a x17 x30) x30) End
      (both_lead vl area 7 4 Start _ _ reads
      (both_lead vl area 1 3 _ _ _
      (disable.null_buffer vl area d (F 0) (kept 0) (code 0) s b bytes h.ready.block.small h.ready.block.some block h.pointer x0 x17 x30 b
      zero_buffer)
      (disable.ends vl area d (F 0) (kept 0) (code 0) s (values x0 b 0 a x17 x30))))
      (at_end b 0 a x17 0 (sym (saved_none bytes null))))

  with_none : (buffer_of bytes == 0) ≡ false → (slices_of bytes == 0) ≡ true → Leads vl area (disable_length bytes) Start End
  with_none some none =
      let no_slice = eqb-true (slices_of bytes) 0 none in
      let count : 13 ≡ disable_length bytes = sym (ap₂ (λ k l. cond k 11 (cond l 13 (14 + 5 * slices_of bytes))) some none) in
      so_many_lead vl area 13 (disable_length bytes) Start End count
      (weaken vl area 13 Start (In vl area (F 0) saved (values x0 (slices_of bytes) 0 a x17 x30) x30) End
      (both_lead vl area 7 6 Start _ _ reads
      (both_lead vl area 2 4 _ _ _
      (disable.reads_slices vl area d (F 0) (kept 0) (code 0) s b bytes h.ready.block.small h.ready.block.some block h.pointer x0 x17 x30
      (not_null a some) h.ready.buffer.small)
      (both_lead vl area 1 3 _ _ _
      (disable.no_slices vl area d (F 0) (kept 0) (code 0) s b bytes h.ready.block.small h.ready.block.some block h.pointer x0 x17 x30 0
      a no_slice)
      (disable.ends vl area d (F 0) (kept 0) (code 0) s (values x0 (slices_of bytes) 0 a x17 x30)))))
      (at_end (slices_of bytes) 0 a x17 0 (sym (saved_some bytes some ∙ no_slice))))

  with_some : (buffer_of bytes == 0) ≡ false → (slices_of bytes == 0) ≡ false → Leads vl area (disable_length bytes) Start End
  with_some some slices =
      let same = saved_some bytes some in
      let count : 14 + 5 * slices_of bytes ≡ disable_length bytes =
      sym (ap₂ (λ k l. cond k 11 (cond l 13 (14 + 5 * slices_of bytes))) some slices) in
      let sum : 7 + (2 + (2 + (5 * n + 3))) ≡ 14 + 5 * slices_of bytes = omega (arith, same) in
      let low = h.ready.buffer.small in
      let narrow = w.small in
      let fits : slices_of bytes < 2 ^ 32 = omega (arith, same, few, narrow) in
      let z : 0 * wide ≡ 0 = omega arith in
      let first : piece_of a wide 0 ≡ a = omega (arith, z, low) in
      let some_slice = pred_of (slices_of bytes) (not_null (slices_of bytes) slices) in
      let j = some_slice.0 in
      let j_is : 0 + suc j ≡ n = (let e = some_slice.1 in omega (arith, e, same)) in
      let j_suc : suc j ≡ n = omega (arith, j_is) in
      let last = values x0 n n (piece_of a wide n) 0 x30 in
      let Done = In vl area (F n) s last (place_of d 16) in
      let all = disable.stores_all vl area d F kept code s h.za_on a n few w.small w.square private there store x0 x30 j 0 x17 j_is in
      let loop : Leads vl area (5 * n) (In vl area (F 0) s (values x0 (slices_of bytes) 0 a x17 x30) (place_of d 11)) Done =
      subst (λ k. Leads vl area (5 * k) (In vl area (F 0) s (values x0 (slices_of bytes) 0 a x17 x30) (place_of d 11)) Done) j_suc
      (subst (λ k. Leads vl area (5 * suc j) (In vl area (F 0) s (values x0 k 0 a x17 x30) (place_of d 11)) Done) same
      (subst (λ x. Leads vl area (5 * suc j) (In vl area (F 0) s (values x0 n 0 x x17 x30) (place_of d 11)) Done) first all)) in
      so_many_lead vl area (7 + (2 + (2 + (5 * n + 3)))) (disable_length bytes) Start End (sum ∙ count)
      (weaken vl area (7 + (2 + (2 + (5 * n + 3)))) Start (In vl area (F n) saved last x30) End
      (both_lead vl area 7 (2 + (2 + (5 * n + 3))) Start _ _ reads
      (both_lead vl area 2 (2 + (5 * n + 3)) _ _ _
      (disable.reads_slices vl area d (F 0) (kept 0) (code 0) s b bytes h.ready.block.small h.ready.block.some block h.pointer x0 x17 x30
      (not_null a some) low)
      (both_lead vl area 2 (5 * n + 3) _ _ _
      (disable.starts_slices vl area d (F 0) (kept 0) (code 0) s b bytes h.ready.block.small h.ready.block.some block h.pointer x0 x17
      x30 0 a
      (not_null (slices_of bytes) slices) fits)
      (both_lead vl area (5 * n) 3 _ _ _ loop (disable.ends vl area d (F n) (kept n) (code n) s last)))))
      (at_end n n (piece_of a wide n) 0 n refl))

  leads : Leads vl area (disable_length bytes) Start End
  leads = elim (cases_Bool (buffer_of bytes == 0)) [
    | inl null ↦ with_null null
    | inr some ↦ elim (cases_Bool (slices_of bytes == 0)) [ inl none ↦ with_none some none | inr slices ↦ with_some some slices ]
  ]

  disabled_at : (x14 x15 x16 y17 : ℕ) (m : AddressSpace) → F n m
      → IsDisabledOver area s (at (over saved m) (values x0 x14 x15 x16 y17 x30) x30) bytes
  unfolding x_of
  disabled_at x14 x15 x16 y17 m f = record {
    pc = refl;
    saved = record {
      za_on = refl;
      pointer = refl;
      pieces = λ i lt.
          let room = row_fits i wide n wide lt (omega arith) in
          let end = h.ready.buffer.end in
          read_at m wide (a + i * wide) (slice_index_or s.bank.za i []) (omega (arith, room, end)) (f.1.pieces i lt);
    };
    count = array_count (beq s.za_on false) s.bank.za;
    bytes_kept = f.1.outside;
    perm = f.1.perm;
    rest = record {
      scalars = temporaries_kept s x14 x15 x16 y17 x30 w.registers;
      tpidr = refl;
      streaming = refl;
      registers = refl;
    };
  }

  pub disabled_over : (t : ProcessorState) → IsOver vl area (disable_length bytes) s t → IsDisabledOver area s t bytes
  disabled_over t o =
      let e = leads.ends s t starts o in
      let q = e.4 in
      subst (λ (y : ProcessorState). IsDisabledOver area s y bytes) (sym q.2) (disabled_at e.0 e.1 e.2 e.3 q.0 q.1)

  pub goes_over : (j : ℕ) (z : ProcessorState) → j < disable_length bytes → IsOver vl area j s z
      → (u : ProcessorState) × (effect_of vl z ≡ Becomes u)
  goes_over j z lt o = leads.goes j s z lt starts o
