-- __arm_tpidr2_restore, where memory outside an area may change between its instructions.
use Rattle.std.proofs.Common.{◌≡◌, ℕ, zero, suc, ◌+◌, ◌*◌, ◌%◌, ◌^◌, ◌<◌, ◌≤◌, ◌==◌, Bool, true, false, not, cond, List, length}
use Rattle.std.proofs.Common.{take, drop, None, refl, ap, ◌∙◌, arith, pos, subst}
use Rattle.std.specs.Prelude.{slice_set, ◌-ℤ◌}
use Rattle.sm_types.specs.declared.insn.AccessSize.TheVariants as size
use Rattle.paged_memory.specs.Memory.{first_without}
use Rattle.scalar_exec.specs.Registers.{x_of, x_or_sp, with_x, past, next_address}
use Rattle.mem_access.specs.Access.{address_of, load_store_access}
use Rattle.mem_access.specs.Runs.{first_shared}
use Rattle.machine_step.specs.ProcessorState.{ProcessorState}
use Rattle.machine_step.specs.Effect.{Becomes}
use Rattle.sm_types.specs.Routines.{restore_words}
use Rattle.lazy_saving.specs.Code.{place_of}
use Rattle.lazy_saving.specs.Block.{IsBlock, buffer_of, slices_of}
use Rattle.lazy_saving.proofs.Meanings as word
use Rattle.lazy_saving.proofs.Registers.{Used, at}
use Rattle.lazy_saving.proofs.Interleaved.{Leads, In, IsKept, over, none_leads, in_stable, first_leads, both_lead, so_many_lead}
use Rattle.lazy_saving.proofs.Steps as step
use Rattle.lazy_saving.proofs.Steps.{Fetches, has_at, next_place, place_on, place_back}
use Rattle.lazy_saving.proofs.Reading as read
use Rattle.lazy_saving.proofs.Values.{to_place, values, left_of, none_left, some_left, left_small, one_counted}
use Rattle.lazy_saving.proofs.Loading.{loaded, one_more_loaded, length_loaded}
use Rattle.lazy_saving.proofs.Pieces.{piece_of, next_piece}
use Rattle.sve_access.specs.After.{read_bytes}
use Rattle.paged_memory.specs.Memory.{run_of}
use Rattle.paged_memory.specs.Memory.{AddressSpace}

module _ (vl : ℕ) (area : ℕ → Bool) (d : ℕ) (F : AddressSpace → Type 0) (kept : IsKept vl area F) (code_of : (m : AddressSpace) → F m
    → Fetches m d restore_words) where
  -- ---- words 0 to 6: the block is read and found valid
  module _ (s : ProcessorState) (b : ℕ) (bytes : List ℕ)
      (block_of : (m : AddressSpace) → F m → IsBlock m (length s.bank.za) b bytes) (pointer : s.tpidr2 ≡ 0) (x17 x30 : ℕ) where
    pub reads_block : (x14 x15 x16 : ℕ)
        → Leads vl area 7 (In vl area F s (values b x14 x15 x16 x17 x30) (place_of d 0)) (In vl area F s (values b 0 0
        (buffer_of bytes) x17 x30) (place_of d 7))
    unfolding load_store_access address_of x_or_sp with_x past x_of
    reads_block x14 x15 x16 =
        let u0 = values b x14 x15 x16 x17 x30 in
        let u1 = values b 0 x15 x16 x17 x30 in
        let u3 = values b 0 0 x16 x17 x30 in
        let u4 = values b 0 0 0 x17 x30 in
        let u7 = values b 0 0 (buffer_of bytes) x17 x30 in
        first_leads vl area 6 F kept s s u0 u1 (place_of d 0) (place_of d 1) _
        (λ m f. to_place _ (over s m) u1 _ _
        (step.reads_pointer vl (over s m) u0 (place_of d 0) (has_at (over s m) u0 d 0 _ restore_words _
        (code_of m f) refl word.read_pointer-means)
        ∙ ap (λ k. Becomes (at (over s m) (values b k x15 x16 x17 x30) (next_address (place_of d 0)))) pointer) (next_place d 0))
        (first_leads vl area 5 F kept s s u1 u1 (place_of d 1) (place_of d 2) _
        (λ m f. to_place _ (over s m) u1 _ _
        (step.compares vl (over s m) u1 (place_of d 1) (place_of d 17) true true _ 14 false
        (has_at (over s m) u1 d 1 _ restore_words _ (code_of m f) refl word.if_block-means) refl (place_on d 1 16 (pos 16) refl))
        (next_place d 1))
        (first_leads vl area 4 F kept s s u1 u3 (place_of d 2) (place_of d 3) _
        (λ m f. to_place _ (over s m) u3 _ _
        (step.loads vl (over s m) u1 (place_of d 2) size.Halfword 5 0 15 ((b + 10) % 2 ^ 64) 0 (take 2 (drop 10 bytes)) _
        (has_at (over s m) u1 d 2 _ restore_words _ (code_of m f) refl word.low_zeros_there-means) refl refl
        (read.low_private m (length s.bank.za) b bytes (block_of m f)) (read.low_read m (length s.bank.za) b bytes (block_of m f))
        (read.low_zeros m (length s.bank.za) b bytes (block_of m f)) refl) (next_place d 2))
        (first_leads vl area 3 F kept s s u3 u4 (place_of d 3) (place_of d 4) _
        (λ m f. to_place _ (over s m) u4 _ _
        (step.loads vl (over s m) u3 (place_of d 3) size.Word 3 0 16 ((b + 12) % 2 ^ 64) 0 (take 4 (drop 12 bytes)) _
        (has_at (over s m) u3 d 3 _ restore_words _ (code_of m f) refl word.high_zeros_there-means) refl refl
        (read.high_private m (length s.bank.za) b bytes (block_of m f)) (read.high_read m (length s.bank.za) b bytes (block_of m f))
        (read.high_zeros m (length s.bank.za) b bytes (block_of m f)) refl) (next_place d 3))
        (first_leads vl area 2 F kept s s u4 u4 (place_of d 4) (place_of d 5) _
        (λ m f. to_place _ (over s m) u4 _ _
        (step.joins_zeros vl (over s m) b 0 x17 x30 (place_of d 4) (has_at (over s m) u4 d 4 _ restore_words _
        (code_of m f) refl word.both_zeros-means))
        (next_place d 4))
        (first_leads vl area 1 F kept s s u4 u4 (place_of d 5) (place_of d 6) _
        (λ m f. to_place _ (over s m) u4 _ _
        (step.compares vl (over s m) u4 (place_of d 5) (place_of d 17) true false _ 15 false
        (has_at (over s m) u4 d 5 _ restore_words _ (code_of m f) refl word.unless_zeros_there-means) refl (place_on d 5 12
        (pos 12) refl)) (next_place d 5))
        (first_leads vl area 0 F kept s s u4 u7 (place_of d 6) (place_of d 7) _
        (λ m f. to_place _ (over s m) u7 _ _
        (step.loads vl (over s m) u4 (place_of d 6) size.Doubleword 0 0 16 ((b + 0) % 2 ^ 64) (buffer_of bytes) (take 8 bytes) _
        (has_at (over s m) u4 d 6 _ restore_words _ (code_of m f) refl word.read_buffer_there-means) refl refl
        (read.buffer_private m (length s.bank.za) b bytes (block_of m f)) (read.buffer_read m (length s.bank.za) b bytes (block_of m f))
        refl refl) (next_place d 6))
        (none_leads vl area (In vl area F s u7 (place_of d 7)) (in_stable vl area F s u7 (place_of d 7) kept))))))))

    -- ---- words 7 to 10: a null buffer, no slices, or some
    pub null_buffer : (x14 : ℕ) → buffer_of bytes ≡ 0
        → Leads vl area 1 (In vl area F s (values b x14 0 (buffer_of bytes) x17 x30) (place_of d 7)) (In vl area F s (values b x14 0
        (buffer_of bytes) x17 x30) (place_of d 16))
    unfolding x_of
    null_buffer x14 null =
        let u = values b x14 0 (buffer_of bytes) x17 x30 in
        let taken : not (not (buffer_of bytes % 2 ^ 64 == 0)) ≡ true = ap not (read.is_null (buffer_of bytes) (2 ^ 64) null) in
        first_leads vl area 0 F kept s s u u (place_of d 7) (place_of d 16) _
        (λ m f. step.compares vl (over s m) u (place_of d 7) (place_of d 16) false true _ 16 true
        (has_at (over s m) u d 7 _ restore_words _ (code_of m f) refl word.if_no_buffer-means) taken (place_on d 7 9 (pos 9) refl))
        (none_leads vl area (In vl area F s u (place_of d 16)) (in_stable vl area F s u (place_of d 16) kept))

    -- the number of slices is read
    pub reads_slices : (buffer_of bytes ≡ 0 → ⊥) → buffer_of bytes < 2 ^ 64
        → Leads vl area 2 (In vl area F s (values b 0 0 (buffer_of bytes) x17 x30) (place_of d 7)) (In vl area F s (values b
        (slices_of bytes) 0 (buffer_of bytes) x17 x30) (place_of d 9))
    unfolding load_store_access address_of x_or_sp with_x past x_of
    reads_slices some small =
        let u = values b 0 0 (buffer_of bytes) x17 x30 in
        let u9 = values b (slices_of bytes) 0 (buffer_of bytes) x17 x30 in
        let passed : not (not (buffer_of bytes % 2 ^ 64 == 0)) ≡ false = ap not (read.is_some (buffer_of bytes) small some) in
        first_leads vl area 1 F kept s s u u (place_of d 7) (place_of d 8) _
        (λ m f. to_place _ (over s m) u _ _
        (step.compares vl (over s m) u (place_of d 7) (place_of d 16) false true _ 16 false
        (has_at (over s m) u d 7 _ restore_words _ (code_of m f) refl word.if_no_buffer-means) passed (place_on d 7 9 (pos 9) refl))
        (next_place d 7))
        (first_leads vl area 0 F kept s s u u9 (place_of d 8) (place_of d 9) _
        (λ m f. to_place _ (over s m) u9 _ _
        (step.loads vl (over s m) u (place_of d 8) size.Halfword 4 0 14 ((b + 8) % 2 ^ 64) (slices_of bytes) (take 2 (drop 8 bytes)) _
        (has_at (over s m) u d 8 _ restore_words _ (code_of m f) refl word.read_count_there-means) refl refl
        (read.slices_private m (length s.bank.za) b bytes (block_of m f)) (read.slices_read m (length s.bank.za) b bytes (block_of m f))
        refl refl) (next_place d 8))
        (none_leads vl area (In vl area F s u9 (place_of d 9)) (in_stable vl area F s u9 (place_of d 9) kept)))

    pub no_slices : (x15 x16 : ℕ) → slices_of bytes ≡ 0
        → Leads vl area 1 (In vl area F s (values b (slices_of bytes) x15 x16 x17 x30) (place_of d 9)) (In vl area F s (values b
        (slices_of bytes) x15 x16 x17 x30) (place_of d 16))
    unfolding x_of
    no_slices x15 x16 none =
        let u = values b (slices_of bytes) x15 x16 x17 x30 in
        let taken : not (not (slices_of bytes % 2 ^ 32 == 0)) ≡ true = ap not (read.is_null (slices_of bytes) (2 ^ 32) none) in
        first_leads vl area 0 F kept s s u u (place_of d 9) (place_of d 16) _
        (λ m f. step.compares vl (over s m) u (place_of d 9) (place_of d 16) false false _ 14 true
        (has_at (over s m) u d 9 _ restore_words _ (code_of m f) refl word.if_no_slices-means) taken (place_on d 9 7 (pos 7) refl))
        (none_leads vl area (In vl area F s u (place_of d 16)) (in_stable vl area F s u (place_of d 16) kept))

    pub starts_slices : (x15 x16 : ℕ) → (slices_of bytes ≡ 0 → ⊥) → slices_of bytes < 2 ^ 32
        → Leads vl area 2 (In vl area F s (values b (slices_of bytes) x15 x16 x17 x30) (place_of d 9)) (In vl area F s (values b
        (slices_of bytes) 0 x16 x17 x30) (place_of d 11))
    unfolding x_of
    starts_slices x15 x16 some small =
        let u = values b (slices_of bytes) x15 x16 x17 x30 in
        let v = values b (slices_of bytes) 0 x16 x17 x30 in
        let passed : not (not (slices_of bytes % 2 ^ 32 == 0)) ≡ false = ap not (read.is_some_word (slices_of bytes) small some) in
        first_leads vl area 1 F kept s s u u (place_of d 9) (place_of d 10) _
        (λ m f. to_place _ (over s m) u _ _
        (step.compares vl (over s m) u (place_of d 9) (place_of d 16) false false _ 14 false
        (has_at (over s m) u d 9 _ restore_words _ (code_of m f) refl word.if_no_slices-means) passed (place_on d 9 7 (pos 7) refl))
        (next_place d 9))
        (first_leads vl area 0 F kept s s u v (place_of d 10) (place_of d 11) _
        (λ m f. to_place _ (over s m) v _ _
        (step.starts_count vl (over s m) u (place_of d 10) (has_at (over s m) u d 10 _ restore_words _
        (code_of m f) refl word.no_slice_yet-means)) (next_place d 10))
        (none_leads vl area (In vl area F s v (place_of d 11)) (in_stable vl area F s v (place_of d 11) kept)))

  -- ---- word 16: the end
  pub ends : (s : ProcessorState) (u : Used)
      → Leads vl area 1 (In vl area F s u (place_of d 16)) (In vl area F s u u.x30)
  ends s u =
      first_leads vl area 0 F kept s s u u (place_of d 16) (u.x30) _
      (λ m f. step.returns vl (over s m) u (place_of d 16) (has_at (over s m) u d 16 _ restore_words _ (code_of m f) refl word.back-means))
      (none_leads vl area (In vl area F s u u.x30) (in_stable vl area F s u u.x30 kept))

  -- ---- words 11 to 15: the slices
  module _ (s : ProcessorState) (first : AddressSpace) (on : s.za_on ≡ true) (a n : ℕ)
      (few : n ≤ length s.bank.za) (small : length s.bank.za ≤ 256)
      (private_of : (i : ℕ) → i < n → first_shared (piece_of a (length s.bank.za) i) (length s.bank.za) ≡ None)
      (there_of : (i : ℕ) (m : AddressSpace) → i < n → F m
      → first_without 4 m (piece_of a (length s.bank.za) i) (length s.bank.za) ≡ None)
      (read_of : (i : ℕ) (m : AddressSpace) → i < n → F m
      → read_bytes m (run_of (piece_of a (length s.bank.za) i) (length s.bank.za))
      ≡ read_bytes first (run_of (piece_of a (length s.bank.za) i) (length s.bank.za)))
      (x0 x30 : ℕ) where
    abbrev wide : ℕ
    wide = length s.bank.za

    abbrev pub array_at : ℕ → List (List ℕ)
    array_at i = loaded first a wide s.bank.za i

    abbrev pub state_at : ℕ → ProcessorState
    state_at i = record s { bank = record s.bank { za = array_at i } }

    abbrev pub slice_at : ℕ → ℕ → Used
    slice_at i x17 = values x0 n i (piece_of a wide i) x17 x30

    abbrev pub AtSlice : ℕ → ℕ → ℕ → ProcessorState → Type 0
    AtSlice i x17 pc = In vl area F (state_at i) (slice_at i x17) pc

    wide_is : (i : ℕ) → length (array_at i) ≡ wide
    wide_is i = length_loaded first a wide s.bank.za i

    pub loads_one : (i x17 : ℕ) (more : Bool) → i < n → not (left_of (suc i) n % 2 ^ 32 == 0) ≡ more
        → Leads vl area 5 (AtSlice i x17 (place_of d 11)) (AtSlice (suc i) (left_of (suc i) n) (cond more (place_of d 11) (place_of d 16)))
    unfolding x_of
    loads_one i x17 more lt test =
        let s0 = state_at i in
        let s1 = state_at (suc i) in
        let low : i < 256 = omega (arith, lt, few, small) in
        let below : piece_of a wide i < 2 ^ 64 = omega arith in
        let here = wide_is i in
        let next = wide_is (suc i) in
        let u0 = slice_at i x17 in
        let u2 = values x0 n i (piece_of a wide (suc i)) x17 x30 in
        let u3 = values x0 n (suc i) (piece_of a wide (suc i)) x17 x30 in
        let u4 = slice_at (suc i) (left_of (suc i) n) in
        first_leads vl area 4 F kept s0 s1 u0 u0 (place_of d 11) (place_of d 12) _
        (λ m f. to_place _ (over s1 m) u0 _ _
        (step.loads_slice vl (over s0 m) u0 (place_of d 11) i (has_at (over s0 m) u0 d 11 _ restore_words _
        (code_of m f) refl word.load_slice-means)
        on below refl (omega (arith, lt, few, here)) (omega (arith, small, here))
        (ap (first_shared (piece_of a wide i)) here ∙ private_of i lt)
        (ap (first_without 4 m (piece_of a wide i)) here ∙ there_of i m lt f)
        ∙ ap (λ k. Becomes (at (over (record s {
          bank = record s.bank {
            za =
                slice_set (array_at i) i (read_bytes m (run_of (piece_of a wide i) k));
          };
        }) m) u0 (next_address (place_of d 11)))) here
        ∙ ap (λ bytes. Becomes (at (over (record s {
          bank = record s.bank {
            za =
                slice_set (array_at i) i bytes;
          };
        }) m) u0 (next_address (place_of d 11)))) (read_of i m lt f)
        ∙ ap (λ za. Becomes (at (over (record s { bank = record s.bank { za = za } }) m) u0 (next_address (place_of d 11))))
        (one_more_loaded first a wide s.bank.za i wide refl)) (next_place d 11))
        (first_leads vl area 3 F kept s1 s1 u0 u2 (place_of d 12) (place_of d 13) _
        (λ m f. to_place _ (over s1 m) u2 _ _
        (step.moves_on vl (over s1 m) u0 (place_of d 12) (piece_of a wide (suc i))
        (has_at (over s1 m) u0 d 12 _ restore_words _ (code_of m f) refl word.next_piece-means) (omega (arith, small, next))
        (ap (λ k. (piece_of a wide i + k) % 2 ^ 64) next ∙ next_piece a wide i)) (next_place d 12))
        (first_leads vl area 2 F kept s1 s1 u2 u3 (place_of d 13) (place_of d 14) _
        (λ m f. to_place _ (over s1 m) u3 _ _
        (step.counts_on vl (over s1 m) u2 (place_of d 13) (suc i)
        (has_at (over s1 m) u2 d 13 _ restore_words _ (code_of m f) refl word.next_slice-means) (one_counted i low)) (next_place d 13))
        (first_leads vl area 1 F kept s1 s1 u3 u4 (place_of d 14) (place_of d 15) _
        (λ m f. to_place _ (over s1 m) u4 _ _
        (step.counts_left vl (over s1 m) u3 (place_of d 14) (left_of (suc i) n)
        (has_at (over s1 m) u3 d 14 _ restore_words _ (code_of m f) refl word.slices_left-means) refl) (next_place d 14))
        (first_leads vl area 0 F kept s1 s1 u4 u4 (place_of d 15) (cond more (place_of d 11) (place_of d 16)) _
        (λ m f. to_place _ (over s1 m) u4 _ _
        (step.compares vl (over s1 m) u4 (place_of d 15) (place_of d 11) true false _ 17 more
        (has_at (over s1 m) u4 d 15 _ restore_words _ (code_of m f) refl word.unless_all-means) test
        (place_back d 11 4 (pos 0 -ℤ pos 4) refl (omega arith))) (ap (cond more (place_of d 11)) (next_place d 15)))
        (none_leads vl area (AtSlice (suc i) (left_of (suc i) n) (cond more (place_of d 11) (place_of d 16)))
        (in_stable vl area F s1 u4 (cond more (place_of d 11) (place_of d 16)) kept))))))

    pub loads_all : (j i x17 : ℕ) → i + suc j ≡ n
        → Leads vl area (5 * suc j) (AtSlice i x17 (place_of d 11)) (AtSlice n 0 (place_of d 16))
    loads_all zero i x17 e =
        let last : suc i ≡ n = omega (arith, e) in
        let size : n ≤ 256 = omega (arith, few, small) in
        let left = none_left (suc i) n last size in
        let once = loads_one i x17 false (omega (arith, e)) (read.is_null (left_of (suc i) n) (2 ^ 32) left) in
        subst (λ k. Leads vl area 5 (AtSlice i x17 (place_of d 11)) (AtSlice k 0 (place_of d 16))) last
        (subst (λ x. Leads vl area 5 (AtSlice i x17 (place_of d 11)) (AtSlice (suc i) x (place_of d 16))) left once)
    loads_all (suc j) i x17 e =
        let size : n ≤ 256 = omega (arith, few, small) in
        let more = some_left (suc i) n (omega (arith, e)) size in
        let once = loads_one i x17 true (omega (arith, e)) (read.is_some_word (left_of (suc i) n) (left_small (suc i) n) more) in
        so_many_lead vl area (5 + 5 * suc j) (5 * suc (suc j)) _ _ (omega arith)
        (both_lead vl area 5 (5 * suc j) _ _ _ once (loads_all j (suc i) (left_of (suc i) n) (omega (arith, e))))
