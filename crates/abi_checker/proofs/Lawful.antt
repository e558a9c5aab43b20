-- What is compared at a return is what a lawful callee leaves.
use Rattle.std.proofs.Common.{◌⊎◌, inl, inr, ◌≡◌, ℕ, zero, suc, ◌+◌, ◌*◌, ◌/◌, ◌%◌, ◌^◌, ◌<◌, ◌≤◌, ◌==◌, Bool, true, false, cond, List}
use Rattle.std.proofs.Common.{[], ◌∷◌, ◌++◌}
use Rattle.std.proofs.Common.{length, Option, Some, None, refl, ap, sym, ◌∙◌, arith, subst}
use Rattle.std.specs.Prelude.{is_some, IsSome, slice_index_or}
use Rattle.std.specs.FinMap.{get}
use Rattle.std.proofs.lemmas.List.{length-map, length_push, same_from_push}
use Rattle.std.proofs.lemmas.Nat.{row_fits}
use Rattle.std.proofs.lemmas.Option.{same_Some}
use Rattle.plain_lemmas.proofs.Numbers.{cases_lt_suc}
use Rattle.paged_memory.specs.Memory.{AddressSpace, IsWhole, byte_with, bytes_with, and_byte, permits, permitted, first_without, run_of}
use Rattle.sve_vectors.specs.Layout.{items_of}
use Rattle.za_array.specs.Array.{IsSquare}
use Rattle.sve_access.specs.After.{read_bytes}
use Rattle.machine_step.specs.ProcessorState.{ProcessorState}
use Rattle.kernel_contexts.specs.State.{State}
use Rattle.lazy_saving.specs.Block.{buffer_of, saved_of, slices_of}
use Rattle.lazy_saving.specs.Dormant.{Places, IsDormantAt, IsLawful, IsSaved, HasSameBytes, HasSamePages, buffer_size}
use Rattle.lazy_saving.specs.Dormant as scheme
use Rattle.lazy_saving.proofs.Lawful.{byte_same, bytes_same, without_same}
use Rattle.lazy_saving.proofs.Loading.{piece_there}
use Rattle.lazy_saving.proofs.Pieces.{read_at}
use Rattle.za_routines.specs.Places.{places_of}
use Rattle.abi_checker.specs.Faults.{block_of}
use Rattle.abi_checker.specs.Keeping.{IsKept, HasKeptSlices, HasKeptZa, KeepsRules}
use Rattle.abi_checker.specs.declared.open_call.OpenCall.{OpenCall}
use Rattle.abi_checker.proofs.Same.{no_gap}

-- ---- the same bytes

not_empty : (bs : List ℕ) (b : ℕ) → ◌≡◌ {A = List ℕ} [] (bs ++ b ∷ []) → ⊥
not_empty bs b e = let long = length_push bs b in let none = ap (λ (l : List ℕ). length l) e in omega (arith, long, none)

-- the bytes before the last one, and it
record AreBoth (bs : List ℕ) (x y : Option (List ℕ)) (p q : Option ℕ) : Type 0 where
  front : List ℕ
  last : ℕ
  x_is : x ≡ Some front
  y_is : y ≡ Some front
  p_is : p ≡ Some last
  q_is : q ≡ Some last

split : (bs : List ℕ) (x y : Option (List ℕ)) (p q : Option ℕ) → and_byte x p ≡ Some bs → and_byte y q ≡ Some bs → AreBoth bs x y p q
split bs None y p q h g = cc
split bs (Some xs) y None q h g = cc
split bs (Some xs) None (Some b) q h g = cc
split bs (Some xs) (Some ys) (Some b) None h g = cc
split bs (Some xs) (Some ys) (Some b) (Some c) h g =
    let same = same_from_push ys xs c b (same_Some (ys ++ c ∷ []) (xs ++ b ∷ []) (g ∙ sym h)) in
    record { front = xs; last = b; x_is = refl; y_is = ap Some same.0; p_is = refl; q_is = ap Some same.1 }

permitted_raw : (need : ℕ) (flags o : Option ℕ) (b : ℕ) → permitted need flags o ≡ Some b → o ≡ Some b
permitted_raw need None o b h = cc
permitted_raw need (Some flags) o b h = choose (permits need flags) h
  where
    choose : (t : Bool) → cond t o None ≡ Some b → o ≡ Some b
    choose true h = h
    choose false h = cc

byte_raw : (m : AddressSpace) (q b : ℕ) → byte_with 4 m q ≡ Some b → get m.mem q ≡ Some b
unfolding byte_with
byte_raw m q b h = permitted_raw 4 (get m.perm (q / 4096)) (get m.mem q) b h

pub same_read : (m k : AddressSpace) (a n : ℕ) (bs : List ℕ) → bytes_with 4 m a n ≡ Some bs → bytes_with 4 k a n ≡ Some bs
    → HasSameBytes m k a n
unfolding bytes_with
same_read m k a zero bs h g i l = absurd (omega (arith, l))
same_read m k a (suc n) bs h g i l =
    let parts = split bs (bytes_with 4 m a n) (bytes_with 4 k a n) (byte_with 4 m ((a + n) % 2 ^ 64)) (byte_with 4 k ((a + n) % 2 ^ 64)) h g
    in
    elim (cases_lt_suc i n l) [
      | inl e ↦
          let at = ap (λ j. (a + j) % 2 ^ 64) e in
          ap (λ q. get k.mem q) at ∙ byte_raw k ((a + n) % 2 ^ 64) parts.last parts.q_is
          ∙ sym (byte_raw m ((a + n) % 2 ^ 64) parts.last parts.p_is) ∙ sym (ap (λ q. get m.mem q) at)
      | inr less ↦ same_read m k a n parts.front parts.x_is parts.y_is i less
    ]

-- what could be read and is the same is read so again
pub read_again : (m k : AddressSpace) (a n : ℕ) (bs : List ℕ) → HasSameBytes m k a n → HasSamePages m k a n
    → bytes_with 4 m a n ≡ Some bs → bytes_with 4 k a n ≡ Some bs
read_again m k a n bs bytes pages h =
    bytes_same 4 m k a n (λ i l. byte_same 4 m k ((a + i) % 2 ^ 64) (bytes i l) (pages i l)) ∙ h

-- ---- a buffer whose pages have the same permissions

some_at : (need : ℕ) (flags old new : Option ℕ) → is_some new ≡ is_some flags → IsSome (permitted need flags old)
    → IsSome (permitted need flags new)
some_at need None old new e h = cc
some_at need (Some flags) old new e h = choose (permits need flags) h
  where
    choose : (b : Bool) → IsSome (cond b old None) → IsSome (cond b new None)
    choose true h = e
    choose false h = cc

there_again : (m k : AddressSpace) (q : ℕ) → IsWhole k → get k.perm (q / 4096) ≡ get m.perm (q / 4096)
    → IsSome (byte_with 4 m q) → IsSome (byte_with 4 k q)
unfolding byte_with
there_again m k q whole pages h =
    subst (λ f. IsSome (permitted 4 f (get k.mem q))) (sym pages)
    (some_at 4 (get m.perm (q / 4096)) (get m.mem q) (get k.mem q) (whole.bytes q ∙ ap is_some pages) h)

pub readable_again : (m k : AddressSpace) (a n : ℕ) → IsWhole k → HasSamePages m k a n → first_without 4 m a n ≡ None
    → first_without 4 k a n ≡ None
readable_again m k a n whole pages h =
    without_same 4 m k a n (λ i l some. there_again m k ((a + i) % 2 ^ 64) whole (pages i l) some) h

-- ---- the slices in the buffer

-- each of the slices that are saved is in its piece of the buffer
abbrev pub AreSaved : AddressSpace → List ℕ → ℕ → List (List ℕ) → Type 0
AreSaved m bytes size rows =
    (i : ℕ) → i < saved_of bytes →
    bytes_with 4 m ((buffer_of bytes + i * size) % 2 ^ 64) (length (slice_index_or rows i []))
    ≡ Some (slice_index_or rows i [])

pub saved_few : (bytes : List ℕ) → saved_of bytes ≤ slices_of bytes
unfolding saved_of
saved_few bytes = few (buffer_of bytes == 0) (slices_of bytes)
  where
    few : (b : Bool) (n : ℕ) → cond b 0 n ≤ n
    few true n = omega arith
    few false n = omega arith

module _ (m : AddressSpace) (bytes : List ℕ) (size : ℕ) (rows : List (List ℕ)) (square : IsSquare size rows)
    (few : slices_of bytes ≤ size) (end : buffer_of bytes + buffer_size size bytes ≤ 2 ^ 64) where
  long : (i : ℕ) → i < saved_of bytes → length (slice_index_or rows i []) ≡ size
  long i l = let least = saved_few bytes in square.long i (omega (arith, l, least, few))

  within : (i : ℕ) → i < saved_of bytes → (buffer_of bytes + i * size) + size ≤ 2 ^ 64
  within i l = let room = row_fits i size (saved_of bytes) size l (omega arith) in omega (arith, room, end)

  pub pieces_saved : AreSaved m bytes size rows → (i : ℕ) → i < saved_of bytes
      → read_bytes m (run_of (buffer_of bytes + i * size) size) ≡ slice_index_or rows i []
  pieces_saved h i l =
      read_at m size (buffer_of bytes + i * size) (slice_index_or rows i []) (within i l)
      (sym (ap (λ n. bytes_with 4 m ((buffer_of bytes + i * size) % 2 ^ 64) n) (long i l)) ∙ h i l)

  read_piece : (i : ℕ) → i < saved_of bytes → (o : Option (List ℕ)) → bytes_with 4 m ((buffer_of bytes + i * size) % 2 ^ 64) size ≡ o
      → first_without 4 m ((buffer_of bytes + i * size) % 2 ^ 64) size ≡ None
      → read_bytes m (run_of (buffer_of bytes + i * size) size) ≡ slice_index_or rows i [] → o ≡ Some (slice_index_or rows i [])
  read_piece i l None is there h = absurd (no_gap 4 m ((buffer_of bytes + i * size) % 2 ^ 64) size is there)
  read_piece i l (Some bs) is there h =
      ap Some (sym (read_at m size (buffer_of bytes + i * size) bs (within i l) is) ∙ h)

  pub saved_pieces : first_without 4 m (buffer_of bytes) (buffer_size size bytes) ≡ None
      → ((i : ℕ) → i < saved_of bytes → read_bytes m (run_of (buffer_of bytes + i * size) size) ≡ slice_index_or rows i [])
      → AreSaved m bytes size rows
  saved_pieces readable h i l =
      ap (λ n. bytes_with 4 m ((buffer_of bytes + i * size) % 2 ^ 64) n) (long i l)
      ∙ read_piece i l (bytes_with 4 m ((buffer_of bytes + i * size) % 2 ^ 64) size) refl
      (piece_there m (buffer_of bytes) size (saved_of bytes) i l readable) (h i l)

-- ---- a call and its return

carried : (F : List ℕ → ℕ → List (List ℕ) → Type 0) (bytes block : List ℕ) (size wide : ℕ) (rows za : List (List ℕ))
    → bytes ≡ block → size ≡ wide → rows ≡ za → F bytes size rows → F block wide za
carried F bytes block size wide rows za e f g h =
    subst (λ x. F x wide za) e (subst (λ n. F bytes n za) f (subst (λ x. F bytes size x) g h))

module _ (call : OpenCall) (s : State) (r : ProcessorState) (kept : IsKept call s) (whole : IsWhole r.memory) where
  abbrev p : Places
  p = places_of call.places

  abbrev size : ℕ
  size = length s.core.bank.za

  wide : length call.za.items ≡ size
  wide = sym (length-map call.za.items (λ row. row.items)) ∙ ap (λ (l : List (List ℕ)). length l) kept.rows

  -- ---- with what was kept of the state after the call

  -- any block with which it was dormant is that which was kept
  one_block : (d : IsDormantAt p s.core call.block) → d.bytes ≡ call.bytes.block
  one_block d =
      same_Some d.bytes kept.kept.dormant.bytes (sym d.ready.block.read ∙ kept.kept.dormant.ready.block.read) ∙ kept.kept.bytes

  module _ (d : IsDormantAt p s.core call.block) where
    read_block : bytes_with 4 s.core.memory call.block 16 ≡ Some call.bytes.block
    read_block = d.ready.block.read ∙ ap Some (one_block d)

    kept_buffer : HasSamePages s.core.memory r.memory (buffer_of call.bytes.block) (buffer_size (length call.za.items) call.bytes.block)
        → HasSamePages s.core.memory r.memory (buffer_of d.bytes) (buffer_size size d.bytes)
    kept_buffer h =
        carried (λ bytes n za. HasSamePages s.core.memory r.memory (buffer_of bytes) (buffer_size n bytes)) call.bytes.block d.bytes
        (length call.za.items) size [] [] (sym (one_block d)) wide refl h

    buffer_kept : HasSamePages s.core.memory r.memory (buffer_of d.bytes) (buffer_size size d.bytes)
        → HasSamePages s.core.memory r.memory (buffer_of call.bytes.block) (buffer_size (length call.za.items) call.bytes.block)
    buffer_kept h =
        carried (λ bytes n za. HasSamePages s.core.memory r.memory (buffer_of bytes) (buffer_size n bytes)) d.bytes call.bytes.block
        size (length call.za.items) [] [] (one_block d) (sym wide) refl h

    to_state : HasKeptSlices call r.memory → AreSaved r.memory d.bytes size s.core.bank.za
    to_state h =
        carried (AreSaved r.memory) call.bytes.block d.bytes (length call.za.items) size (items_of call.za.items) s.core.bank.za
        (sym (one_block d)) wide kept.rows h

    to_call : AreSaved r.memory d.bytes size s.core.bank.za → HasKeptSlices call r.memory
    to_call h =
        carried (AreSaved r.memory) d.bytes call.bytes.block size (length call.za.items) s.core.bank.za (items_of call.za.items)
        (one_block d) (sym wide) (sym kept.rows) h

    half_of : HasKeptZa call r → scheme.IsKept s.core r call.block ⊎ IsSaved s.core r d.bytes
    half_of (inl h) = inl (record { za_on = h.0; pointer = h.1; za = h.2 ∙ kept.rows })
    half_of (inr h) =
        inr (record {
          za_on = h.0;
          pointer = h.1;
          pieces = pieces_saved r.memory d.bytes size s.core.bank.za kept.square d.ready.block.few d.ready.buffer.end (to_state h.2);
        })

    half_back : HasSamePages s.core.memory r.memory (buffer_of d.bytes) (buffer_size size d.bytes)
        → scheme.IsKept s.core r call.block ⊎ IsSaved s.core r d.bytes → HasKeptZa call r
    half_back pages (inl h) = inl (h.za_on, h.pointer, h.za ∙ sym kept.rows)
    half_back pages (inr h) =
        inr (
          h.za_on,
          h.pointer,
          to_call (saved_pieces r.memory d.bytes size s.core.bank.za kept.square d.ready.block.few d.ready.buffer.end
              (readable_again s.core.memory r.memory (buffer_of d.bytes) (buffer_size size d.bytes) whole pages
              d.ready.buffer.readable.there) h.pieces),
        )

  -- ---- there and back

  pub lawful_when : KeepsRules call s.core.memory r → IsLawful p s.core r (block_of s)
  lawful_when k =
      let d = kept.kept.dormant in
      let old = kept.kept in
      subst (λ b. IsLawful p s.core r b) kept.block
      (record {
        dormant = d;
        block = same_read s.core.memory r.memory call.block 16 call.bytes.block (read_block d) k.memory.bytes.block;
        disable = same_read s.core.memory r.memory p.disable 80 call.bytes.disable old.disable k.memory.bytes.disable;
        restore = same_read s.core.memory r.memory p.restore 72 call.bytes.restore old.restore k.memory.bytes.restore;
        tail = same_read s.core.memory r.memory p.tail 24 call.bytes.tail old.tail k.memory.bytes.tail;
        block_pages = k.memory.pages.block;
        buffer_pages = kept_buffer d k.memory.pages.buffer;
        disable_pages = k.memory.pages.code.disable;
        restore_pages = k.memory.pages.code.restore;
        tail_pages = k.memory.pages.code.tail;
        pointer = k.pointer;
        half = half_of d k.za;
      })

  pub rules_kept : IsLawful p s.core r (block_of s) → KeepsRules call s.core.memory r
  rules_kept lawful =
      let h : IsLawful p s.core r call.block = subst (λ b. IsLawful p s.core r b) (sym kept.block) lawful in
      let old = kept.kept in
      record {
        pointer = h.pointer;
        memory = record {
          pages = record {
            block = h.block_pages;
            buffer = buffer_kept h.dormant h.buffer_pages;
            code = record { tail = h.tail_pages; disable = h.disable_pages; restore = h.restore_pages };
          };
          bytes = record {
            block = read_again s.core.memory r.memory call.block 16 call.bytes.block h.block h.block_pages (read_block h.dormant);
            tail = read_again s.core.memory r.memory p.tail 24 call.bytes.tail h.tail h.tail_pages old.tail;
            disable = read_again s.core.memory r.memory p.disable 80 call.bytes.disable h.disable h.disable_pages old.disable;
            restore = read_again s.core.memory r.memory p.restore 72 call.bytes.restore h.restore h.restore_pages old.restore;
          };
        };
        za = half_back h.dormant h.buffer_pages h.half;
      }
