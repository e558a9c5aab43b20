-- What a lawful callee leaves is what the tail needs.
use Rattle.std.proofs.Common.{◌≡◌, ℕ, zero, suc, ◌+◌, ◌*◌, ◌/◌, ◌%◌, ◌^◌, ◌<◌, Bool, true, false, cond, List, [], length}
use Rattle.std.proofs.Common.{Option, Some, None, refl, ap, ap₂, sym, ◌∙◌, arith, subst, replicate}
use Rattle.std.specs.Prelude.{IsSome, is_some, option_map, slice_index_or, nat_le}
use Rattle.std.specs.FinMap.{get}
use Rattle.std.proofs.lemmas.Option.{slice_get_within}
use Rattle.std.proofs.lemmas.Bool.Decides.{nat_tests}
use Rattle.plain_lemmas.proofs.Options.{neither_some}
use Rattle.sm_types.specs.Bytes.{little_number}
use Rattle.paged_memory.specs.Memory.{AddressSpace, IsWhole, byte_with, bytes_with, and_byte, permits, permitted, word_at, first_without}
use Rattle.paged_memory.specs.Memory.{unless_there, run_of}
use Rattle.sve_access.specs.After.{read_bytes}
use Rattle.machine_step.specs.ProcessorState.{ProcessorState}
use Rattle.sm_types.specs.Routines.{disable_words, restore_words, tail_words}
use Rattle.lazy_saving.specs.Code.{place_of, HasWords}
use Rattle.lazy_saving.specs.Block.{IsPrivate, buffer_of, saved_of}
use Rattle.lazy_saving.specs.Dormant.{Places, IsReady, IsLawful, IsSaved, HasSameBytes, HasSamePages, buffer_size}
use Rattle.lazy_saving.specs.Outcome.{IsBack, IsRestored, slice_back}
use Rattle.lazy_saving.proofs.Memory.{round_twice}

-- ---- bytes that are the same

pub byte_same : (need : ℕ) (m n : AddressSpace) (q : ℕ) → get n.mem q ≡ get m.mem q → get n.perm (q / 4096) ≡ get m.perm (q / 4096)
    → byte_with need n q ≡ byte_with need m q
unfolding byte_with
byte_same need m n q bytes pages = ap₂ (permitted need) pages bytes

pub bytes_same : (need : ℕ) (m n : AddressSpace) (c k : ℕ)
    → ((i : ℕ) → i < k → byte_with need n ((c + i) % 2 ^ 64) ≡ byte_with need m ((c + i) % 2 ^ 64))
    → bytes_with need n c k ≡ bytes_with need m c k
unfolding bytes_with
bytes_same need m n c zero h = refl
bytes_same need m n c (suc k) h =
    ap₂ and_byte (bytes_same need m n c k (λ i l. h i (omega (arith, l)))) (h k (omega arith))

there_or : (x : ℕ) (old new : Option ℕ) → (IsSome old → IsSome new) → unless_there x old ≡ None → unless_there x new ≡ None
there_or x None new f h = cc
there_or x (Some b) None f h = let there : IsSome {T = ℕ} None = f refl in cc
there_or x (Some b) (Some c) f h = refl

pub without_same : (need : ℕ) (m n : AddressSpace) (c k : ℕ)
    → ((i : ℕ) → i < k → IsSome (byte_with need m ((c + i) % 2 ^ 64)) → IsSome (byte_with need n ((c + i) % 2 ^ 64)))
    → first_without need m c k ≡ None → first_without need n c k ≡ None
unfolding first_without
without_same need m n c zero f h = refl
without_same need m n c (suc k) f h =
    let parts = neither_some (first_without need m c k) (unless_there ((c + k) % 2 ^ 64) (byte_with need m ((c + k) % 2 ^ 64))) h in
    rw (
      without_same need m n c k (λ i l. f i (omega (arith, l))) parts.0,
      there_or ((c + k) % 2 ^ 64) (byte_with need m ((c + k) % 2 ^ 64)) (byte_with need n ((c + k) % 2 ^ 64)) (f k (omega arith)) parts.1,
    ) refl

-- ---- pages that are the same

some_of : (need : ℕ) (flags old new : Option ℕ) → is_some new ≡ is_some old → IsSome (permitted need flags old)
    → IsSome (permitted need flags new)
some_of need None old new e h = h
some_of need (Some flags) old new e h = choose (permits need flags) h
  where
    choose : (b : Bool) → IsSome (cond b old None) → IsSome (cond b new None)
    choose true h = e ∙ h
    choose false h = h

there_same : (need : ℕ) (m n : AddressSpace) (q : ℕ) → IsWhole m → IsWhole n → get n.perm (q / 4096) ≡ get m.perm (q / 4096)
    → IsSome (byte_with need m q) → IsSome (byte_with need n q)
unfolding byte_with
there_same need m n q old new pages h =
    let same : is_some (get n.mem q) ≡ is_some (get m.mem q) = new.bytes q ∙ ap is_some pages ∙ sym (old.bytes q) in
    subst (λ f. IsSome (permitted need f (get n.mem q))) (sym pages)
    (some_of need (get m.perm (q / 4096)) (get m.mem q) (get n.mem q) same h)

-- ---- words

pub words_same : (m n : AddressSpace) (a : ℕ) (words : List ℕ) (size : ℕ) → size ≡ 4 * length words → HasSameBytes m n a size
    → HasSamePages m n a size → HasWords m a words → HasWords n a words
unfolding word_at
words_same m n a words size e bytes pages h = record {
  small = h.small;
  aligned = h.aligned;
  executable = λ k w there.
      let lt = slice_get_within words k w there in
      ap (option_map little_number)
      (bytes_same 1 m n (place_of a k) 4
      (λ i l.
      let inside : 4 * k + i < size = omega (arith, lt, l, e) in
      let at = round_twice a (4 * k) i in
      ap (byte_with 1 n) at
      ∙ byte_same 1 m n ((a + (4 * k + i)) % 2 ^ 64) (bytes (4 * k + i) inside) (pages (4 * k + i) inside) ∙ ap (byte_with 1 m) (sym at)))
      ∙ h.executable k w there;
  readable = without_same 4 m n a (4 * length words)
      (λ i l some.
      let inside : i < size = omega (arith, l, e) in
      subst (λ (b : Option ℕ). IsSome b) (sym (byte_same 4 m n ((a + i) % 2 ^ 64) (bytes i inside) (pages i inside))) some)
      h.readable;
}

module _ (p : Places) (s r : ProcessorState) (b : ℕ) (h : IsLawful p s r b) (old : IsWhole s.memory) (new : IsWhole r.memory)
    (same : length r.bank.za ≡ length s.bank.za) where
  abbrev bytes : List ℕ
  bytes = h.dormant.bytes

  private : (need : ℕ) → IsPrivate need s.memory (buffer_of bytes) (buffer_size (length s.bank.za) bytes)
      → IsPrivate need r.memory (buffer_of bytes) (buffer_size (length s.bank.za) bytes)
  private need i = record {
    apart = i.apart;
    there = without_same need s.memory r.memory (buffer_of bytes) (buffer_size (length s.bank.za) bytes)
        (λ k l some.
        there_same need s.memory r.memory ((buffer_of bytes + k) % 2 ^ 64) old new (h.buffer_pages k l) some) i.there;
  }

  ready : IsReady p r.memory (length s.bank.za) b bytes
  ready =
      let was = h.dormant.ready in
      record {
        block = record {
          small = was.block.small;
          aligned = was.block.aligned;
          some = was.block.some;
          private = was.block.private;
          read = bytes_same 4 s.memory r.memory b 16
              (λ i l. byte_same 4 s.memory r.memory ((b + i) % 2 ^ 64) (h.block i l) (h.block_pages i l))
              ∙ was.block.read;
          zeros = was.block.zeros;
          few = was.block.few;
        };
        buffer = record {
          small = was.buffer.small;
          end = was.buffer.end;
          readable = private 4 was.buffer.readable;
          writable = private 2 was.buffer.writable;
        };
        disable = words_same s.memory r.memory p.disable disable_words 80 refl h.disable h.disable_pages was.disable;
        restore = words_same s.memory r.memory p.restore restore_words 72 refl h.restore h.restore_pages was.restore;
        tail = record {
          call = was.tail.call;
          there = words_same s.memory r.memory p.tail (tail_words was.tail.call) 24 refl h.tail h.tail_pages was.tail.there;
          distance = was.tail.distance;
          calls = was.tail.calls;
          target = was.tail.target;
        };
        off_block = was.off_block;
        off_disable = was.off_disable;
        off_restore = was.off_restore;
        off_tail = was.off_tail;
      }

  -- the state after a lawful callee is one from which the tail restores ZA
  pub back : r.scalars.pc ≡ p.tail → IsBack p r bytes
  back pc = record {
    ready = subst (λ x. IsReady p r.memory (length r.bank.za) x bytes) (sym h.pointer)
        (subst (λ k. IsReady p r.memory k b bytes) (sym same) ready);
    pc = pc;
  }

  test_below : (n i : ℕ) → i < n → nat_le n i ≡ false
  test_below n i lt = grind (arith, nat_tests)

  -- and where it saved ZA, the slices that are loaded are those of s
  pub slices_back : IsSaved s r bytes → (t : ProcessorState) → IsRestored r t bytes → (i : ℕ) → i < saved_of bytes
      → i < length s.bank.za → slice_index_or t.bank.za i [] ≡ slice_index_or s.bank.za i []
  unfolding slice_back
  slices_back saved t restored i few lt =
      restored.slices i (subst (λ k. i < k) (sym same) lt)
      ∙ ap (λ k. cond k (replicate (length r.bank.za) 0)
      (read_bytes r.memory (run_of (buffer_of bytes + i * length r.bank.za) (length r.bank.za)))) (test_below (saved_of bytes) i few)
      ∙ ap (λ k. read_bytes r.memory (run_of (buffer_of bytes + i * k) k)) same ∙ saved.pieces i few
