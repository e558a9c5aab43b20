-- What holds of memory while __arm_za_disable runs, whatever becomes of memory outside an area.
use Rattle.std.proofs.Common.{◌≡◌, inl, inr, ℕ, suc, ◌+◌, ◌-◌, ◌*◌, ◌/◌, ◌%◌, ◌^◌, ◌<◌, ◌≤◌, Bool, true, List, [], length}
use Rattle.std.proofs.Common.{Option, Some, None, refl, ap, sym, ◌∙◌, arith, subst}
use Rattle.std.specs.Prelude.{IsSome, slice_index_or}
use Rattle.std.specs.FinMap.{get}
use Rattle.std.proofs.lemmas.Nat.{row_fits}
use Rattle.plain_lemmas.proofs.Numbers.{cases_lt_suc}
use Rattle.paged_memory.specs.Memory.{AddressSpace, byte_with, bytes_with, first_without}
use Rattle.mem_access.specs.Runs.{with_bytes, first_shared}
use Rattle.mem_access.proofs.ReadBack.{read_back}
use Rattle.sm_types.specs.Routines.{disable_words}
use Rattle.lazy_saving.specs.Code.{HasWords}
use Rattle.lazy_saving.specs.Block.{AreApart, IsBlock}
use Rattle.lazy_saving.specs.Dormant.{HasSameBytes, HasSamePages}
use Rattle.lazy_saving.specs.Interleaved.{SameMemory, IsIn}
use Rattle.lazy_saving.proofs.Memory.{set_others, bytes_kept, access_kept, without_part, shared_part, round_twice}
use Rattle.lazy_saving.proofs.Steps.{Fetches}
use Rattle.lazy_saving.proofs.Pieces.{piece_of, no_common}
use Rattle.lazy_saving.proofs.Lawful.{byte_same, bytes_same, without_same, words_same}
use Rattle.lazy_saving.proofs.Cases.{fetches_of}

module _ (area : ℕ → Bool) (first : AddressSpace) (a wide n : ℕ) (za : List (List ℕ)) where
  -- after i slices: the area outside the buffer and the permissions are as at first, the buffer can be
  -- accessed, and the slices are in their pieces
  pub record Facts (i : ℕ) (m : AddressSpace) : Type 0 where
    pub outside : (q : ℕ) → area q ≡ true → ((t : ℕ) → t < n * wide → (a + t) % 2 ^ 64 ≡ q → ⊥) → get m.mem q ≡ get first.mem q
    pub perm : m.perm ≡ first.perm
    pub writable : first_without 2 m a (n * wide) ≡ None
    pub readable : first_without 4 m a (n * wide) ≡ None
    pub pieces : (j : ℕ) → j < i → bytes_with 4 m (piece_of a wide j) wide ≡ Some (slice_index_or za j [])

  pub facts_first : first_without 2 first a (n * wide) ≡ None → first_without 4 first a (n * wide) ≡ None → Facts 0 first
  facts_first w r = record {
    outside = λ q in_area off. refl;
    perm = refl;
    writable = w;
    readable = r;
    pieces = λ j lt. absurd (omega (arith, lt));
  }

  module _ (covers : IsIn area a (n * wide)) (end : a + n * wide ≤ 2 ^ 64) (small : wide ≤ 256)
      (long : (i : ℕ) → i < n → length (slice_index_or za i []) ≡ wide) where
    same_there : (need : ℕ) (m k : AddressSpace) → SameMemory area m k → (t : ℕ) → t < n * wide
        → byte_with need k ((a + t) % 2 ^ 64) ≡ byte_with need m ((a + t) % 2 ^ 64)
    same_there need m k same t lt =
        byte_same need m k ((a + t) % 2 ^ 64) (same.bytes ((a + t) % 2 ^ 64) (covers t lt))
        (ap (λ p. get p ((a + t) % 2 ^ 64 / 4096)) same.perm)

    accessed : (need : ℕ) (m k : AddressSpace) → SameMemory area m k → first_without need m a (n * wide) ≡ None
        → first_without need k a (n * wide) ≡ None
    accessed need m k same h =
        without_same need m k a (n * wide)
        (λ t lt some. subst (λ (b : Option ℕ). IsSome b) (sym (same_there need m k same t lt)) some) h

    -- a change outside the area keeps them
    pub facts_kept : (i : ℕ) → i ≤ n → (m k : AddressSpace) → Facts i m → SameMemory area m k → Facts i k
    facts_kept i few m k f same = record {
      outside = λ q in_area off. same.bytes q in_area ∙ f.outside q in_area off;
      perm = same.perm ∙ f.perm;
      writable = accessed 2 m k same f.writable;
      readable = accessed 4 m k same f.readable;
      pieces = λ j lt.
          let room = row_fits j wide n wide (omega (arith, lt, few)) (omega arith) in
          bytes_same 4 m k (piece_of a wide j) wide
          (λ t l.
          let e = round_twice a (j * wide) t in
          ap (byte_with 4 k) e ∙ same_there 4 m k same (j * wide + t) (omega (arith, room, l)) ∙ ap (byte_with 4 m) (sym e))
          ∙ f.pieces j lt;
    }

    pub piece_there : (need i : ℕ) (m : AddressSpace) → i < n → first_without need m a (n * wide) ≡ None
        → first_without need m (piece_of a wide i) wide ≡ None
    piece_there need i m l h =
        let room = row_fits i wide n wide l (omega arith) in
        let e : i * wide + (wide + (n * wide - i * wide - wide)) ≡ n * wide = omega (arith, room) in
        without_part need m a (i * wide) wide (n * wide - i * wide - wide) (ap (first_without need m a) e ∙ h)

    pub piece_private : (i : ℕ) → i < n → first_shared a (n * wide) ≡ None → first_shared (piece_of a wide i) wide ≡ None
    piece_private i l h =
        let room = row_fits i wide n wide l (omega arith) in
        let e : i * wide + (wide + (n * wide - i * wide - wide)) ≡ n * wide = omega (arith, room) in
        shared_part a (i * wide) wide (n * wide - i * wide - wide) (ap (first_shared a) e ∙ h)

    -- a store of the next slice makes them those of one slice more
    pub facts_more : (i : ℕ) (m : AddressSpace) → i < n → Facts i m
        → Facts (suc i) (with_bytes m (piece_of a wide i) (slice_index_or za i []))
    facts_more i m lt f =
        let row = slice_index_or za i [] in
        let size = long i lt in
        let room = row_fits i wide n wide lt (omega arith) in
        record {
          outside = λ q in_area off.
              set_others m.mem (piece_of a wide i) row q
              (λ t l e. off (i * wide + t) (omega (arith, room, size, l)) (sym (round_twice a (i * wide) t) ∙ e))
              ∙ f.outside q in_area off;
          perm = f.perm;
          writable = access_kept 2 m (piece_of a wide i) row a (n * wide) f.writable;
          readable = access_kept 4 m (piece_of a wide i) row a (n * wide) f.readable;
          pieces = λ j l. elim (cases_lt_suc j i l) [
            | inl e ↦
                subst (λ k. bytes_with 4 (with_bytes m (piece_of a wide i) row) (piece_of a wide k) wide ≡ Some (slice_index_or za k []))
                (sym e)
                (ap (bytes_with 4 (with_bytes m (piece_of a wide i) row) (piece_of a wide i)) (sym size)
                ∙ read_back m (piece_of a wide i) row
                (ap (first_without 4 m (piece_of a wide i)) size ∙ piece_there 4 i m lt f.readable) (omega (arith, size, small)))
            | inr before ↦
                let first = row_fits j wide i wide before (omega arith) in
                bytes_kept 4 m (piece_of a wide i) row (piece_of a wide j) wide
                (λ t u lt' lu same. no_common a (j * wide) (i * wide) (n * wide) wide t u first room end (omega (arith, size, lt')) lu same)
                ∙ f.pieces j before
          ];
        }

  -- code and block outside the buffer are as at first
  same_run : (i : ℕ) (m : AddressSpace) (c count : ℕ) → IsIn area c count → AreApart a (n * wide) c count → Facts i m
      → HasSameBytes first m c count
  same_run i m c count inside off f k lt = f.outside ((c + k) % 2 ^ 64) (inside k lt) (λ t l e. off t k l lt e)

  same_pages : (i : ℕ) (m : AddressSpace) (c count : ℕ) → Facts i m → HasSamePages first m c count
  same_pages i m c count f k lt = ap (λ p. get p ((c + k) % 2 ^ 64 / 4096)) f.perm

  pub code_of : (i : ℕ) (m : AddressSpace) (d : ℕ) → IsIn area d 80 → AreApart a (n * wide) d 80 → HasWords first d disable_words
      → Facts i m → Fetches m d disable_words
  code_of i m d inside off words f =
      fetches_of m d disable_words
      (words_same first m d disable_words 80 refl (same_run i m d 80 inside off f) (same_pages i m d 80 f) words)

  pub block_of : (i : ℕ) (m : AddressSpace) (size b : ℕ) (bytes : List ℕ) → IsIn area b 16 → AreApart a (n * wide) b 16
      → IsBlock first size b bytes → Facts i m → IsBlock m size b bytes
  block_of i m size b bytes inside off was f = record {
    small = was.small;
    aligned = was.aligned;
    some = was.some;
    private = was.private;
    read = bytes_same 4 first m b 16
        (λ k l. byte_same 4 first m ((b + k) % 2 ^ 64) (same_run i m b 16 inside off f k l) (same_pages i m b 16 f k l))
        ∙ was.read;
    zeros = was.zeros;
    few = was.few;
  }
