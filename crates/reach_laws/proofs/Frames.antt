-- The delivery of a signal and the return from a handler keep the ranges of a state.
use Rattle.std.proofs.Common.{◌≡◌, ℕ, zero, suc, ◌+◌, ◌-◌, ◌*◌, ◌/◌, ◌^◌, ◌<◌, ◌≤◌, Bool, true, false, List, [], ◌∷◌, ◌++◌, length, drop}
use Rattle.std.proofs.Common.{map, get_or}
use Rattle.std.proofs.Common.{refl, sym, ap, ◌∙◌, arith, subst, length-drop, length-set, Option, Some, None, slice_set, if◌then◌else◌}
use Rattle.std.specs.List.{range_with_len, flat_map}
use Rattle.std.proofs.lemmas.List.{length-take-le}
use Rattle.std.proofs.lemmas.List.FromFn.{length-map-range_with_len, get_or-map-range_with_len}
use Rattle.std.proofs.lemmas.List.Elements.{All-append, All-take, All-drop, All-set, All-replicate}
use Rattle.std.proofs.Math.Nat.{pow-suc}
use Rattle.byteorder.specs.Endian.{little_bytes, little_from}
use Rattle.sm_types.specs.declared.scalars.Scalars.{Scalars}
use Rattle.sm_types.specs.declared.version.Version.{Version}
use Rattle.sm_types.specs.declared.version.Version.TheVariants.{One, Two}
use Rattle.sve_vectors.specs.Predicates.{predicate_bytes}
use Rattle.sve_vectors.specs.Registers.{VectorRegisters}
use Rattle.sve_vectors.proofs.Writing.{length-truths}
use Rattle.za_array.specs.Array.{zero_vectors}
use Rattle.paged_memory.specs.Memory.{AddressSpace, bytes_with, first_without}
use Rattle.machine_step.specs.ProcessorState.{ProcessorState}
use Rattle.machine_step.specs.Mode.{length_at, with_sm}
use Rattle.machine_step.specs.System.{nzcv_of, svcr_of}
use Rattle.signal_frames.specs.declared.masking.Masking.{Masking}
use Rattle.signal_frames.specs.declared.head.Expected.{Expected}
use Rattle.signal_frames.specs.Layout.{head_size, body_size, frame_tag, words_bytes, doublewords_bytes, head_bytes, masking_bytes}
use Rattle.signal_frames.specs.Layout.{vectors_bytes, predicates_bytes, ffr_bytes, array_bytes, vector_state_bytes}
use Rattle.signal_frames.specs.Saved.{number_at, part_of, saved_x, saved_scalars, saved_streaming, saved_za_on, saved_length, saved_size}
use Rattle.signal_frames.specs.Saved.{saved_masking, body_of}
use Rattle.signal_frames.specs.Saved.{saved_vector, saved_predicate, saved_array_vector, saved_registers, saved_array, is_head}
use Rattle.signal_frames.specs.Frame.{frame_address, frame_bytes, size_of, handler_scalars, entered, with_frame, delivered}
use Rattle.signal_frames.specs.Return.{expected_of, return_fault, restored, returned, unmasked}
use Rattle.signal_frames.specs.Reading.{IsSaved}
use Rattle.signal_frames.proofs.Fields.{head_says}
use Rattle.signal_frames.proofs.Fetching.{row_fits}
use Rattle.signal_frames.proofs.Faults.{all_read, unreadable_head, bad_head, unreadable_rest, found, whole_body, some_body, returned_is}
use Rattle.signal_frames.proofs.Faults.{unmasked_is}
use Rattle.reach_laws.proofs.Fits.{Fits, AreBytes, Holds, IsArray, IsLength}
use Rattle.reach_laws.proofs.Typed.{IsTyped, current_length}
use Rattle.reach_laws.proofs.Bytes.{byte_read, are_flat, are_low_first, are_concat, are_predicate_bytes, all_mapped}
use Rattle.reach_laws.proofs.Memory.{bytes_set, ReadsBytes, reads_with}
use Rattle.reach_laws.proofs.Modes.{typed_sm, typed_za, zero_array, current_fits}

-- ---- the bytes of a frame

are_numbers : (n : ℕ) (xs : List ℕ) → AreBytes (flat_map (little_bytes n) xs)
are_numbers n xs = are_flat (little_bytes n) xs (λ x. are_low_first 0 n x)

both : (xs ys : List ℕ) → AreBytes xs → AreBytes ys → AreBytes (xs ++ ys)
both xs ys a b = All-append (λ b. b < 256) xs ys a b

are_head : (version : Version) (first x system lengths : List ℕ) → AreBytes (head_bytes version first x system lengths)
are_head version first x system lengths =
    both (doublewords_bytes (frame_tag version ∷ [])) _ (are_numbers 8 (frame_tag version ∷ []))
    (both (words_bytes first) _ (are_numbers 4 first)
    (both (doublewords_bytes x) _ (are_numbers 8 x)
    (both (doublewords_bytes system) _ (are_numbers 8 system) (are_numbers 4 lengths))))

are_masking : (version : Version) (masking : Masking) → AreBytes (masking_bytes version masking)
are_masking One masking = are_numbers 4 []
are_masking Two masking =
    both (doublewords_bytes (masking.mask ∷ [])) (words_bytes (masking.depth ∷ 0 ∷ [])) (are_numbers 8 (masking.mask ∷ []))
    (are_numbers 4 (masking.depth ∷ 0 ∷ []))

are_array : (on : Bool) (size : ℕ) (za : List (List ℕ)) → IsArray size za → AreBytes (array_bytes on za)
are_array true size za h = are_concat za h.bytes
are_array false size za h = are_numbers 4 []

are_vector_state : (l size : ℕ) (on : Bool) (r : VectorRegisters) (za : List (List ℕ)) (n : ℕ) → Holds n r → IsArray size za
    → AreBytes (vector_state_bytes l on r za)
are_vector_state l size on r za n h a =
    both (vectors_bytes r) _ (are_concat r.vectors h.bytes)
    (both (predicates_bytes r) _ (are_flat predicate_bytes r.predicates (λ truths. are_predicate_bytes truths))
    (both (ffr_bytes l r) _
    (both (predicate_bytes r.ffr) _ (are_predicate_bytes r.ffr) (All-replicate (λ b. b < 256) (32 - l / 8) 0 (omega arith)))
    (are_array on size za a)))

-- ---- the delivery

module _ (vl svl : ℕ) (version : Version) (masking : Masking) (signal : ℕ) (s : ProcessorState) (t : IsTyped vl svl s) where
  are_frame : AreBytes (frame_bytes version masking vl signal s)
  unfolding frame_bytes
  are_frame =
      let first : List ℕ = size_of version vl s ∷ signal ∷ [] in
      let system : List ℕ = s.scalars.sp ∷ s.scalars.pc ∷ nzcv_of s.scalars ∷ svcr_of s ∷ s.tpidr2 ∷ s.tpidr ∷ [] in
      let lengths : List ℕ = length_at vl s ∷ length s.bank.za ∷ [] in
      let state = vector_state_bytes (length_at vl s) s.za_on s.bank.registers s.bank.za in
      both (head_bytes version first s.scalars.x system lengths) (masking_bytes version masking ++ state)
      (are_head version first s.scalars.x system lengths)
      (both (masking_bytes version masking) state (are_masking version masking)
      (are_vector_state (length_at vl s) svl s.za_on s.bank.registers s.bank.za _ t.registers t.za))

  address_fits : frame_address version vl s < 2 ^ 64
  unfolding frame_address
  address_fits = omega arith

  framed : IsTyped vl svl (with_frame version masking vl signal s)
  unfolding with_frame
  framed = record {
    scalars = t.scalars;
    tpidr = t.tpidr;
    tpidr2 = t.tpidr2;
    registers = t.registers;
    za = t.za;
    off = t.off;
    memory = bytes_set s.memory.mem (frame_address version vl s) (frame_bytes version masking vl signal s) t.memory are_frame;
  }

  handler_fits : (handler address : ℕ) (x : Scalars) → signal < 2 ^ 64 → handler < 2 ^ 64 → address < 2 ^ 64 → Fits x
      → Fits (handler_scalars signal handler address x)
  handler_fits handler address x a b c h =
      let one = slice_set x.x 0 signal in
      let two = slice_set one 1 address in
      record {
        count = length-set two 30 0 ∙ length-set one 1 address ∙ length-set x.x 0 signal ∙ h.count;
        x = All-set (λ n. n < 2 ^ 64) two 30 0 (omega arith)
            (All-set (λ n. n < 2 ^ 64) one 1 address c (All-set (λ n. n < 2 ^ 64) x.x 0 signal a h.x));
        sp = c;
        pc = b;
      }

  pub delivered_typed : (handler : ℕ) → signal < 2 ^ 64 → handler < 2 ^ 64 → IsTyped vl svl (delivered version masking vl signal handler s)
  unfolding entered
  delivered_typed handler a b =
      let f = with_frame version masking vl signal s in
      let k = typed_za vl svl false (with_sm vl false f) (typed_sm vl svl false f framed) in
      record {
        scalars = handler_fits handler (frame_address version vl s) f.scalars a b address_fits framed.scalars;
        tpidr = k.tpidr;
        tpidr2 = omega arith;
        registers = k.registers;
        za = k.za;
        off = k.off;
        memory = k.memory;
      }

-- ---- the return

little_small : (n i : ℕ) (xs : List ℕ) → AreBytes xs → little_from i n xs < 256 ^ n
little_small zero i xs h = omega arith
little_small (suc n) i xs h =
    let first = byte_read xs i h in
    let rest = little_small n (suc i) xs h in
    omega (arith, pow-suc 256 n, first, rest)

number_fits : (frame : List ℕ) (offset : ℕ) → AreBytes frame → number_at frame offset 8 < 2 ^ 64
unfolding number_at
number_fits frame offset h = little_small 8 0 (drop offset frame) (All-drop (λ b. b < 256) offset frame h)

scalars_fit : (frame : List ℕ) → AreBytes frame → Fits (saved_scalars frame)
unfolding saved_scalars
scalars_fit frame h = record {
  count = length-map-range_with_len (saved_x frame) 0 31;
  x = all_mapped (λ n. n < 2 ^ 64) (saved_x frame) (range_with_len 0 31) (λ k. number_fits frame (16 + 8 * k) h);
  sp = number_fits frame 264 h;
  pc = number_fits frame 272 h;
}

mapped_at : {A : Type 0} (f : ℕ → A) (count n : ℕ) (d : A) → n < count → get_or (map f (range_with_len 0 count)) n d ≡ f n
mapped_at f count n d below = get_or-map-range_with_len f 0 count n n d below (omega arith)

part_long : (body : List ℕ) (at n : ℕ) → at + n ≤ length body → length (part_of body at n) ≡ n
part_long body at n room = length-take-le n (drop at body) (let d = length-drop at body in omega arith)

part_small : (body : List ℕ) (at n : ℕ) → AreBytes body → AreBytes (part_of body at n)
part_small body at n h = All-take (λ b. b < 256) n (drop at body) (All-drop (λ b. b < 256) at body h)

module _ (l : ℕ) (w : IsLength l) (body : List ℕ) (h : AreBytes body) where
  whole_eighths : 8 * (l / 8) ≡ l
  whole_eighths = let e = w.whole in omega arith

  pub saved_hold : 34 * l + 32 ≤ length body → Holds l (saved_registers l body)
  unfolding saved_registers
  saved_hold room = record {
    long = record {
      vector_count = length-map-range_with_len (saved_vector l body) 0 32;
      vector_length = λ n below. ap length (mapped_at (saved_vector l body) 32 n [] below)
          ∙ part_long body (n * l) l (let f = row_fits n 32 l below in omega arith);
      predicate_count = length-map-range_with_len (saved_predicate l body) 0 16;
      predicate_length = λ n below. ap length (mapped_at (saved_predicate l body) 16 n [] below)
          ∙ length-truths (part_of body (32 * l + n * (l / 8)) (l / 8))
          ∙ ap (λ k. 8 * k) (part_long body (32 * l + n * (l / 8)) (l / 8) (let f = row_fits n 16 (l / 8) below in
          let e = whole_eighths in omega arith))
          ∙ whole_eighths;
      ffr_length = length-truths (part_of body (34 * l) (l / 8))
          ∙ ap (λ k. 8 * k) (part_long body (34 * l) (l / 8) (let s = w.small in omega arith)) ∙ whole_eighths;
    };
    bytes = all_mapped AreBytes (saved_vector l body) (range_with_len 0 32) (λ n. part_small body (n * l) l h);
  }

  pub saved_array_is : (size : ℕ) (on : Bool) → body_size l size on ≤ length body → IsArray size (saved_array l size on body)
  unfolding saved_array
  saved_array_is size true room = record {
    square = record {
      count = length-map-range_with_len (saved_array_vector l size body) 0 size;
      long = λ n below. ap length (mapped_at (saved_array_vector l size body) size n [] below)
          ∙ part_long body (34 * l + 32 + n * size) size (let f = row_fits n size size below in omega arith);
    };
    bytes = all_mapped AreBytes (saved_array_vector l size body) (range_with_len 0 size)
        (λ n. part_small body (34 * l + 32 + n * size) size h);
  }
  saved_array_is size false room = zero_array size

module _ (vl svl : ℕ) (v : IsLength vl) (w : IsLength svl) (version : Version) (depth : ℕ) (s : ProcessorState) (t : IsTyped vl svl s)
    (none : return_fault version depth vl s ≡ None) where
  abbrev e : Expected
  e = expected_of version depth vl s

  abbrev m : AddressSpace
  m = s.memory

  abbrev sp : ℕ
  sp = s.scalars.sp

  record IsRead : Type 0 where
    pub head : List ℕ
    pub frame : List ℕ
    pub saved : IsSaved e m sp head frame
    pub bytes : AreBytes frame

  read_frame : (head frame : List ℕ) → IsSaved e m sp head frame → IsRead
  read_frame head frame saved = record {
    head = head;
    frame = frame;
    saved = saved;
    bytes = (subst (ReadsBytes (length frame)) saved.stands.bytes (reads_with 4 m sp (length frame) t.memory)).0;
  }

  by_rest : (head : List ℕ) → bytes_with 4 m sp (head_size version) ≡ Some head → is_head e head ≡ true
      → (o : Option ℕ) → first_without 4 m sp (saved_size head) ≡ o → IsRead
  by_rest head read good (Some x) is = (let no : ⊥ = (let f = unreadable_rest e m sp head x read good is in cc) in absurd no)
  by_rest head read good None is = let f = found e m sp head read good is in read_frame head f.0 f.1

  by_head : (head : List ℕ) → bytes_with 4 m sp (head_size version) ≡ Some head → (b : Bool) → is_head e head ≡ b → IsRead
  by_head head read true good = by_rest head read good _ refl
  by_head head read false bad = (let no : ⊥ = (let f = bad_head e m sp head read bad in cc) in absurd no)

  by_first : bytes_with 4 m sp (head_size version) ≡ None → (o : Option ℕ) → first_without 4 m sp (head_size version) ≡ o → IsRead
  by_first read (Some x) is = (let no : ⊥ = (let f = unreadable_head e m sp x read is in cc) in absurd no)
  by_first read None is = (let no : ⊥ = (let f = all_read 4 m sp (head_size version) is in let g : None ≡ Some f.0 = sym read ∙ f.1 in
      cc) in absurd no)

  by_read : (o : Option (List ℕ)) → bytes_with 4 m sp (head_size version) ≡ o → IsRead
  by_read None is = by_first is _ refl
  by_read (Some head) is = by_head head is _ refl

  is_read : IsRead
  is_read = by_read (bytes_with 4 m sp (head_size version)) refl

  off_is : (frame body : List ℕ) → saved_za_on frame ≡ false → length s.bank.za ≡ svl
      → saved_array (saved_length frame) (length s.bank.za) (saved_za_on frame) body ≡ zero_vectors svl
  unfolding saved_array
  off_is frame body off count =
      ap (λ on. saved_array (saved_length frame) (length s.bank.za) on body) off ∙ ap zero_vectors count

  restored_typed : (r : IsRead) → IsTyped vl svl (restored version r.frame s)
  unfolding restored
  restored_typed r =
      let frame = r.frame in
      let body = body_of version frame in
      let small = All-drop (λ b. b < 256) (head_size version) frame r.bytes in
      let count = t.za.square.count in
      let says = head_says e frame r.saved.fields in
      let long : saved_length frame ≡ current_length vl svl (saved_streaming frame) =
      says.length ∙ ap (λ n. if saved_streaming frame then n else vl) count in
      let k : IsLength (saved_length frame) = subst IsLength (sym long) (current_fits vl svl v w (saved_streaming frame)) in
      let size = whole_body e m sp r.head frame r.saved in
      record {
        scalars = scalars_fit frame r.bytes;
        tpidr = number_fits frame 304 r.bytes;
        tpidr2 = number_fits frame 296 r.bytes;
        registers = subst (λ n. Holds n (saved_registers (saved_length frame) body)) long
            (saved_hold (saved_length frame) k body small (some_body e m sp r.head frame r.saved));
        za = subst (λ n. IsArray n (saved_array (saved_length frame) (length s.bank.za) (saved_za_on frame) body)) count
            (saved_array_is (saved_length frame) k body small (length s.bank.za) (saved_za_on frame) size);
        off = λ off. off_is frame body off count;
        memory = t.memory;
      }

  pub returned_typed : IsTyped vl svl (returned version depth vl s)
  returned_typed = subst (IsTyped vl svl) (sym (returned_is e s is_read.frame refl is_read.saved.read)) (restored_typed is_read)

  mask_small : (version : Version) (frame : List ℕ) → AreBytes frame → (saved_masking version frame).mask < 2 ^ 64
  mask_small One frame h = omega arith
  mask_small Two frame h = number_fits frame 320 h

  pub unmasked_small : (unmasked version depth vl s).mask < 2 ^ 64
  unmasked_small =
      subst (λ (k : Masking). k.mask < 2 ^ 64) (sym (unmasked_is e s is_read.frame refl is_read.saved.read))
      (mask_small version is_read.frame is_read.bytes)

  no_mask : (version : Version) (frame : List ℕ) → version ≡ One → (saved_masking version frame).mask ≡ 0
  no_mask One frame is = refl
  no_mask Two frame is = (let no : ⊥ = cc in absurd no)

  pub unmasked_none : version ≡ One → (unmasked version depth vl s).mask ≡ 0
  unmasked_none is =
      ap (λ (k : Masking). k.mask) (unmasked_is e s is_read.frame refl is_read.saved.read) ∙ no_mask version is_read.frame is
