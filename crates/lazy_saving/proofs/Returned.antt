-- The tail leaves ZA active, whatever becomes of memory outside an area between its instructions.
use Rattle.std.proofs.Common.{◌≡◌, inl, inr, ℕ, suc, ◌+◌, ◌*◌, ◌/◌, ◌%◌, ◌^◌, ◌<◌, ◌≤◌, ◌==◌, Bool, true, false, cond}
use Rattle.std.proofs.Common.{List, [], length, replicate, Option, None, refl, ap, ap₂, sym, ◌∙◌, arith, subst, eqb-true}
use Rattle.std.specs.Prelude.{slice_index, slice_index_or, nat_le, unwrap_or, IsSome}
use Rattle.std.specs.FinMap.{get}
use Rattle.std.proofs.lemmas.Bool.{cases_Bool, leb-false, leb-true}
use Rattle.std.proofs.lemmas.List.{length-replicate, get_or-replicate}
use Rattle.std.proofs.lemmas.Nat.{row_fits}
use Rattle.paged_memory.specs.Memory.{AddressSpace, byte_with, first_without, run_of}
use Rattle.scalar_exec.specs.Registers.{x_of}
use Rattle.mem_access.specs.Runs.{first_shared}
use Rattle.mem_access.proofs.Lists.{bytes_run}
use Rattle.sve_access.specs.After.{read_bytes}
use Rattle.za_array.specs.Array.{zero_vectors}
use Rattle.machine_step.specs.ProcessorState.{ProcessorState}
use Rattle.machine_step.specs.Mode.{with_za}
use Rattle.machine_step.specs.Effect.{Becomes, effect_of}
use Rattle.sm_types.specs.Routines.{restore_words, tail_words}
use Rattle.lazy_saving.specs.Code.{place_of}
use Rattle.lazy_saving.specs.Block.{IsBlock, buffer_of, slices_of, saved_of}
use Rattle.lazy_saving.specs.Dormant.{Places, HasSameBytes, HasSamePages, buffer_size}
use Rattle.lazy_saving.specs.Interleaved.{SameMemory, IsOver, IsIn, Covers, IsPastOver}
use Rattle.lazy_saving.specs.Outcome.{IsWhole, IsBack, IsRestored, slice_back, tail_length}
use Rattle.lazy_saving.proofs.Registers.{Used, used_of, at, at_start}
use Rattle.lazy_saving.proofs.Memory.{round_twice}
use Rattle.lazy_saving.proofs.Steps.{Fetches}
use Rattle.lazy_saving.proofs.Pieces.{piece_of}
use Rattle.lazy_saving.proofs.Loading.{loaded, none_loaded, length_loaded, slice_stays, slice_there, piece_there, piece_private}
use Rattle.lazy_saving.proofs.Values.{values}
use Rattle.lazy_saving.proofs.Cases.{fetches_of, place_zero, not_null, saved_none, saved_some, pred_of}
use Rattle.lazy_saving.proofs.Lawful.{byte_same, bytes_same, without_same, words_same}
use Rattle.lazy_saving.proofs.Cases.{array_kept, array_zero, above_test}
use Rattle.lazy_saving.proofs.Kept.{given_up_kept}
use Rattle.lazy_saving.proofs.Interleaved.{Leads, In, IsKept, over, both_lead, so_many_lead}
use Rattle.lazy_saving.proofs.Restoring as restore
use Rattle.lazy_saving.proofs.Tail as tail

module _ (vl : ℕ) (area : ℕ → Bool) (p : Places) (r : ProcessorState) (bytes : List ℕ) (h : IsBack p r bytes) (w : IsWhole r)
    (covers : Covers area p (length r.bank.za) (x_of r.scalars 19) bytes) where
  abbrev t : ℕ
  t = p.tail

  abbrev b : ℕ
  b = x_of r.scalars 19

  abbrev x0 : ℕ
  x0 = slice_index r.scalars.x 0

  abbrev x15 : ℕ
  x15 = slice_index r.scalars.x 15

  abbrev x16 : ℕ
  x16 = slice_index r.scalars.x 16

  abbrev x17 : ℕ
  x17 = slice_index r.scalars.x 17

  abbrev x30 : ℕ
  x30 = slice_index r.scalars.x 30

  abbrev on : ProcessorState
  on = with_za true r

  abbrev F : AddressSpace → Type 0
  F m = SameMemory area r.memory m

  kept_by : IsKept vl area F
  kept_by m k f same = record { bytes = λ q i. same.bytes q i ∙ f.bytes q i; perm = same.perm ∙ f.perm }

  same_run : (m : AddressSpace) (c count : ℕ) → IsIn area c count → F m → HasSameBytes r.memory m c count
  same_run m c count inside f k lt = f.bytes ((c + k) % 2 ^ 64) (inside k lt)

  same_pages : (m : AddressSpace) (c count : ℕ) → F m → HasSamePages r.memory m c count
  same_pages m c count f k lt = ap (λ q. get q ((c + k) % 2 ^ 64 / 4096)) f.perm

  tail_code : (m : AddressSpace) → F m → Fetches m t (tail_words h.ready.tail.call)
  tail_code m f =
      fetches_of m t (tail_words h.ready.tail.call)
      (words_same r.memory m t (tail_words h.ready.tail.call) 24 refl (same_run m t 24 covers.tail f)
      (same_pages m t 24 f) h.ready.tail.there)

  code : (m : AddressSpace) → F m → Fetches m p.restore restore_words
  code m f =
      fetches_of m p.restore restore_words
      (words_same r.memory m p.restore restore_words 72 refl (same_run m p.restore 72 covers.restore f) (same_pages m p.restore 72 f)
      h.ready.restore)

  abbrev Start : ProcessorState → Type 0
  Start = In vl area F r (used_of r.scalars.x) (place_of t 0)

  starts : Start r
  starts = (
    r.memory,
    record { bytes = λ q i. refl; perm = refl },
    sym (at_start r (place_of t 0) w.registers (h.pc ∙ place_zero t h.ready.tail.there.small)),
  )

  opens : (v : ℕ) → r.tpidr2 ≡ v → Leads vl area 2 Start (In vl area F on (values x0 v x15 x16 x17 x30) (place_of t 2))
  opens v e =
      subst (λ k. Leads vl area 2 Start (In vl area F on (values x0 k x15 x16 x17 x30) (place_of t 2))) e
      (tail.opens vl area t p.restore r h.ready.tail F kept_by tail_code x0 (slice_index r.scalars.x 14) x15 x16 x17 x30)

  -- what is the same in all cases
  past : (s : ProcessorState) (u : Used) (m : AddressSpace) → F m → s.za_on ≡ true → s.tpidr ≡ r.tpidr → s.streaming ≡ r.streaming
      → s.bank.registers ≡ r.bank.registers → s.scalars ≡ r.scalars
      → IsPastOver area p r (at (over (record s { tpidr2 = 0 }) m) u (place_of t 6))
  past s u m f za tpidr streaming registers scalars = record {
    pc = refl;
    za_on = za;
    pointer = refl;
    memory = f;
    rest = record {
      scalars = rw (sym scalars) (given_up_kept s u (place_of t 6) (rw scalars w.registers));
      tpidr = tpidr;
      streaming = streaming;
      registers = registers;
    };
  }

  -- what the states come to that so many instructions lead to
  abbrev Last : ProcessorState → Used → ProcessorState → Type 0
  Last s u = In vl area F (record s { tpidr2 = 0 }) u (place_of t 6)

  -- ---- the callee left ZA dormant
  module _ (za : r.za_on ≡ true) (pointer : r.tpidr2 ≡ b) where
    kept_leads : Leads vl area 4 Start (Last on (values x0 b x15 x16 x17 x30))
    kept_leads =
        both_lead vl area 2 2 Start _ _ (opens b pointer)
        (both_lead vl area 1 1 _ _ _
        (tail.skips vl area t p.restore r h.ready.tail F kept_by tail_code x0 b x15 x16 x17 x30 h.ready.block.small h.ready.block.some)
        (tail.closes vl area t p.restore r h.ready.tail F kept_by tail_code on (values x0 b x15 x16 x17 x30)))

    pub kept_over : (y : ProcessorState) → IsOver vl area 4 r y → IsPastOver area p r y × (y.bank.za ≡ r.bank.za)
    kept_over y o =
        let q = kept_leads.ends r y starts o in
        subst (λ (z : ProcessorState). IsPastOver area p r z × (z.bank.za ≡ r.bank.za)) (sym q.2) (
          past on (values x0 b x15 x16 x17 x30) q.0 q.1 refl refl refl refl refl,
          array_kept r.za_on r.bank.za (zero_vectors (length r.bank.za)) za,
        )

    pub kept_goes : (j : ℕ) (z : ProcessorState) → j < 4 → IsOver vl area j r z → (u : ProcessorState) × (effect_of vl z ≡ Becomes u)
    kept_goes j z lt o = kept_leads.goes j r z lt starts o

  -- ---- the callee saved ZA and turned it off
  module _ (off : r.za_on ≡ false) (pointer : r.tpidr2 ≡ 0) where
    abbrev wide : ℕ
    wide = length r.bank.za

    zeros : on.bank.za ≡ zero_vectors wide
    zeros = array_zero r.za_on r.bank.za (zero_vectors wide) off

    wide_is : length on.bank.za ≡ wide
    wide_is = ap length zeros ∙ length-replicate wide (replicate wide 0)

    block : (m : AddressSpace) → F m → IsBlock m (length on.bank.za) b bytes
    block m f = record {
      small = h.ready.block.small;
      aligned = h.ready.block.aligned;
      some = h.ready.block.some;
      private = h.ready.block.private;
      read = bytes_same 4 r.memory m b 16
          (λ k l. byte_same 4 r.memory m ((b + k) % 2 ^ 64) (same_run m b 16 covers.block f k l) (same_pages m b 16 f k l))
          ∙ h.ready.block.read;
      zeros = h.ready.block.zeros;
      few = subst (λ k. slices_of bytes ≤ k) (sym wide_is) h.ready.block.few;
    }

    abbrev back : ℕ
    back = place_of t 5

    abbrev a : ℕ
    a = buffer_of bytes

    reads : Leads vl area 12 Start (In vl area F on (values b 0 0 a x17 back) (place_of p.restore 7))
    unfolding x_of
    reads =
        both_lead vl area 2 10 Start _ _ (opens 0 pointer)
        (both_lead vl area 3 7 _ _ _
        (subst (λ k. Leads vl area 3 (In vl area F on (values x0 0 x15 x16 x17 x30) (place_of t 2)) (In vl area F on
        (values b 0 x15 x16 x17 back) k))
        (place_zero p.restore h.ready.restore.small)
        (tail.calls vl area t p.restore r h.ready.tail F kept_by tail_code x0 b x15 x16 x17 x30 refl h.ready.block.small))
        (restore.reads_block vl area p.restore F kept_by code on b bytes block pointer x17 back 0 x15 x16))

    ends : (s : ProcessorState) (u : Used) → u.x30 ≡ back → Leads vl area 2 (In vl area F s u (place_of p.restore 16)) (Last s u)
    ends s u goes =
        both_lead vl area 1 1 _ _ _
        (subst (λ k. Leads vl area 1 (In vl area F s u (place_of p.restore 16)) (In vl area F s u k)) goes
        (restore.ends vl area p.restore F kept_by code s u))
        (tail.closes vl area t p.restore r h.ready.tail F kept_by tail_code s u)

    abbrev Is : ProcessorState → Type 0
    Is y = IsPastOver area p r y × IsRestored r y bytes

    all_zero : (s : ProcessorState) → s.bank.za ≡ on.bank.za → saved_of bytes ≡ 0 → IsRestored r s bytes
    unfolding slice_back
    all_zero s same none = record {
      count = ap length same ∙ wide_is;
      slices = λ i lt.
          ap (λ za. slice_index_or za i []) (same ∙ zeros) ∙ get_or-replicate wide i (replicate wide 0) [] lt
          ∙ sym (ap (λ k. cond k (replicate wide 0) (read_bytes r.memory (run_of (a + i * wide) wide)))
          (above_test i (saved_of bytes) (omega (arith, none))));
    }

    unsaved : (u : Used) → saved_of bytes ≡ 0 → (y : ProcessorState) → Last on u y → Is y
    unsaved u none y q =
        subst Is (sym q.2)
        (past on u q.0 q.1 refl refl refl refl refl, all_zero (at (over (record on { tpidr2 = 0 }) q.0) u (place_of t 6)) refl none)

    -- leads to states of which both hold
    record Comes : Type 0 where
      pub ends_so : (y : ProcessorState) → IsOver vl area (tail_length bytes) r y → Is y
      pub goes_so : (j : ℕ) (z : ProcessorState) → j < tail_length bytes → IsOver vl area j r z
          → (u : ProcessorState) × (effect_of vl z ≡ Becomes u)

    comes : (n : ℕ) (s : ProcessorState) (u : Used) → n ≡ tail_length bytes → Leads vl area n Start (Last s u)
        → ((y : ProcessorState) → Last s u y → Is y) → Comes
    comes n s u e leads k =
        let all = so_many_lead vl area n (tail_length bytes) Start (Last s u) e leads in
        record { ends_so = λ y o. k y (all.ends r y starts o); goes_so = λ j z lt o. all.goes j r z lt starts o }

    with_null : (buffer_of bytes == 0) ≡ true → Comes
    with_null null =
        let zero_buffer = eqb-true (buffer_of bytes) 0 null in
        let u = values b 0 0 a x17 back in
        let count : 15 ≡ tail_length bytes = sym (ap (λ k. cond k 15 (cond (slices_of bytes == 0) 17 (18 + 5 * slices_of bytes))) null) in
        comes 15 on u count
        (both_lead vl area 12 3 Start _ _ reads
        (both_lead vl area 1 2 _ _ _ (restore.null_buffer vl area p.restore F kept_by code on b bytes block pointer x17 back 0 zero_buffer)
        (ends on u refl)))
        (unsaved u (saved_none bytes null))

    with_none : (buffer_of bytes == 0) ≡ false → (slices_of bytes == 0) ≡ true → Comes
    with_none some none =
        let no_slice = eqb-true (slices_of bytes) 0 none in
        let u = values b (slices_of bytes) 0 a x17 back in
        let count : 17 ≡ tail_length bytes = sym (ap₂ (λ k l. cond k 15 (cond l 17 (18 + 5 * slices_of bytes))) some none) in
        comes 17 on u count
        (both_lead vl area 12 5 Start _ _ reads
        (both_lead vl area 2 3 _ _ _
        (restore.reads_slices vl area p.restore F kept_by code on b bytes block pointer x17 back (not_null a some) h.ready.buffer.small)
        (both_lead vl area 1 2 _ _ _ (restore.no_slices vl area p.restore F kept_by code on b bytes block pointer x17 back 0 a no_slice)
        (ends on u refl))))
        (unsaved u (saved_some bytes some ∙ no_slice))

    module _ (some : (buffer_of bytes == 0) ≡ false) (slices : (slices_of bytes == 0) ≡ false) where
      abbrev n : ℕ
      n = slices_of bytes

      abbrev wide' : ℕ
      wide' = length on.bank.za

      size_is : buffer_size wide bytes ≡ n * wide'
      size_is = ap₂ (λ k l. k * l) (saved_some bytes some) (sym wide_is)

      few : n ≤ wide'
      few = subst (λ k. n ≤ k) (sym wide_is) h.ready.block.few

      small : wide' ≤ 256
      small = subst (λ k. k ≤ 256) (sym wide_is) w.small

      private : first_shared a (n * wide') ≡ None
      private = subst (λ k. first_shared a k ≡ None) size_is h.ready.buffer.readable.apart

      readable : first_without 4 r.memory a (n * wide') ≡ None
      readable = subst (λ k. first_without 4 r.memory a k ≡ None) size_is h.ready.buffer.readable.there

      end : a + n * wide' ≤ 2 ^ 64
      end = subst (λ k. a + k ≤ 2 ^ 64) size_is h.ready.buffer.end

      inside : (i k : ℕ) → i < n → k < wide' → area ((piece_of a wide' i + k) % 2 ^ 64) ≡ true
      inside i k lt l =
          let room = row_fits i wide' n wide' lt (omega arith) in
          ap area (round_twice a (i * wide') k) ∙ covers.buffer (i * wide' + k) (omega (arith, room, l, size_is))

      same_byte : (m : AddressSpace) → F m → (i k : ℕ) → i < n → k < wide'
          → byte_with 4 m ((piece_of a wide' i + k) % 2 ^ 64) ≡ byte_with 4 r.memory ((piece_of a wide' i + k) % 2 ^ 64)
      same_byte m f i k lt l =
          byte_same 4 r.memory m ((piece_of a wide' i + k) % 2 ^ 64) (f.bytes ((piece_of a wide' i + k) % 2 ^ 64) (inside i k lt l))
          (same_pages m (piece_of a wide' i) wide' f k l)

      there : (i : ℕ) (m : AddressSpace) → i < n → F m → first_without 4 m (piece_of a wide' i) wide' ≡ None
      there i m lt f =
          without_same 4 r.memory m (piece_of a wide' i) wide'
          (λ k l some_byte. subst (λ (o : Option ℕ). IsSome o) (sym (same_byte m f i k lt l)) some_byte)
          (piece_there r.memory a wide' n i lt readable)

      read : (i : ℕ) (m : AddressSpace) → i < n → F m
          → read_bytes m (run_of (piece_of a wide' i) wide') ≡ read_bytes r.memory (run_of (piece_of a wide' i) wide')
      read i m lt f =
          ap (λ o. unwrap_or o [])
          (bytes_run m (piece_of a wide' i) wide'
          ∙ bytes_same 4 r.memory m (piece_of a wide' i) wide' (λ k l. same_byte m f i k lt l)
          ∙ sym (bytes_run r.memory (piece_of a wide' i) wide'))

      abbrev after : ProcessorState
      after = record on { bank = record on.bank { za = loaded r.memory a wide' on.bank.za n } }

      abbrev last : Used
      last = values b n n (piece_of a wide' n) 0 back

      loads : (j : ℕ) → suc j ≡ n
          → Leads vl area (5 * n) (In vl area F on (values b n 0 a x17 back) (place_of p.restore 11))
          (In vl area F after last (place_of p.restore 16))
      loads j e =
          let low = h.ready.buffer.small in
          let z : 0 * wide' ≡ 0 = omega arith in
          let first : piece_of a wide' 0 ≡ a = omega (arith, z, low) in
          let j_is : 0 + suc j ≡ n = omega (arith, e) in
          let Done = In vl area F after last (place_of p.restore 16) in
          let all = restore.loads_all vl area p.restore F kept_by code on r.memory refl a n few small
          (λ i lt. piece_private a wide' n i lt private) there read b back j 0 x17 j_is in
          subst (λ k. Leads vl area (5 * k) (In vl area F on (values b n 0 a x17 back) (place_of p.restore 11)) Done) e
          (subst (λ x. Leads vl area (5 * suc j) (In vl area F on (values b n 0 x x17 back) (place_of p.restore 11)) Done) first
          (subst (λ za. Leads vl area (5 * suc j)
          (In vl area F (record on { bank = record on.bank { za = za } }) (values b n 0 (piece_of a wide' 0) x17 back)
          (place_of p.restore 11)) Done)
          (none_loaded r.memory a wide' on.bank.za) all))

      run_low : (i : ℕ) → i < n → run_of (piece_of a wide' i) wide' ≡ run_of (a + i * wide) wide
      run_low i lt =
          let room = row_fits i wide' n wide' lt (omega arith) in
          let low : piece_of a wide' i ≡ a + i * wide' = omega (arith, room, end, lt, few) in
          ap (λ k. run_of k wide') low ∙ ap (λ k. run_of (a + i * k) k) wide_is

      choice : (i : ℕ) (k : Bool) → nat_le n i ≡ k
          → cond (nat_le (saved_of bytes) i) (replicate wide 0) (read_bytes r.memory (run_of (a + i * wide) wide))
          ≡ cond k (replicate wide 0) (read_bytes r.memory (run_of (a + i * wide) wide))
      choice i k e =
          ap (λ j. cond j (replicate wide 0) (read_bytes r.memory (run_of (a + i * wide) wide)))
          (ap (λ m. nat_le m i) (saved_some bytes some) ∙ e)

      restored : (m : AddressSpace) → IsRestored r (at (over (record after { tpidr2 = 0 }) m) last (place_of t 6)) bytes
      unfolding slice_back
      restored m = record {
        count = length_loaded r.memory a wide' on.bank.za n ∙ wide_is;
        slices = λ i lt. elim (cases_Bool (nat_le n i)) [
          | inl past_all ↦
              slice_stays r.memory a wide' on.bank.za n i (leb-true n i past_all)
              ∙ ap (λ za. slice_index_or za i []) zeros ∙ get_or-replicate wide i (replicate wide 0) [] lt
              ∙ sym (choice i true past_all)
          | inr before ↦
              slice_there r.memory a wide' on.bank.za n i (leb-false n i before) few
              ∙ ap (read_bytes r.memory) (run_low i (leb-false n i before)) ∙ sym (choice i false before)
        ];
      }

      with_some : Comes
      with_some =
          let slice = pred_of n (not_null n slices) in
          let count : 18 + 5 * n ≡ tail_length bytes = sym (ap₂ (λ k l. cond k 15 (cond l 17 (18 + 5 * n))) some slices) in
          let sum : 12 + (2 + (2 + (5 * n + 2))) ≡ 18 + 5 * n = omega arith in
          let fits : n < 2 ^ 32 = omega (arith, few, small) in
          comes (12 + (2 + (2 + (5 * n + 2)))) after last (sum ∙ count)
          (both_lead vl area 12 (2 + (2 + (5 * n + 2))) Start _ _ reads
          (both_lead vl area 2 (2 + (5 * n + 2)) _ _ _
          (restore.reads_slices vl area p.restore F kept_by code on b bytes block pointer x17 back (not_null a some) h.ready.buffer.small)
          (both_lead vl area 2 (5 * n + 2) _ _ _
          (restore.starts_slices vl area p.restore F kept_by code on b bytes block pointer x17 back 0 a (not_null n slices) fits)
          (both_lead vl area (5 * n) 2 _ _ _ (loads slice.0 slice.1) (ends after last refl)))))
          (λ y q. subst Is (sym q.2) (past after last q.0 q.1 refl refl refl refl refl, restored q.0))

    saved_comes : Comes
    saved_comes = elim (cases_Bool (buffer_of bytes == 0)) [
      | inl null ↦ with_null null
      | inr some ↦ elim (cases_Bool (slices_of bytes == 0)) [ inl none ↦ with_none some none | inr slices ↦ with_some some slices ]
    ]

    pub saved_over : (y : ProcessorState) → IsOver vl area (tail_length bytes) r y → Is y
    saved_over = saved_comes.ends_so

    pub saved_goes : (j : ℕ) (z : ProcessorState) → j < tail_length bytes → IsOver vl area j r z
        → (u : ProcessorState) × (effect_of vl z ≡ Becomes u)
    saved_goes = saved_comes.goes_so
