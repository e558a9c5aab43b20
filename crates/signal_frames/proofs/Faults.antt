-- When a return is refused.
use Rattle.std.proofs.Common.{◌≡◌, ℕ, zero, suc, ◌+◌, ◌-◌, ◌*◌, ◌%◌, ◌^◌, ◌≤◌, Bool, true, false, List, [], ◌∷◌, ◌++◌}
use Rattle.std.proofs.Common.{length, take, drop, length-drop, Option, Some, None, refl, ap, sym, ◌∙◌, arith}
use Rattle.std.specs.Prelude.{◌&&◌, nat_lt, if◌then◌else◌, unwrap_or}
use Rattle.plain_lemmas.proofs.Options.{neither_some}
use Rattle.paged_memory.specs.Memory.{AddressSpace, byte_with, bytes_with, and_byte, unless_there, first_without}
use Rattle.paged_memory.proofs.Accesses.{first_without-none}
use Rattle.machine_step.specs.ProcessorState.{ProcessorState}
use Rattle.signal_frames.specs.Layout.{head_size, body_size}
use Rattle.signal_frames.specs.Saved.{saved_length, saved_size, saved_za_on, saved_masking, body_of, is_head, is_zero_past, is_frame}
use Rattle.signal_frames.specs.Return.{count_read, read_at, stop_of, fault_at, restored, returned, unmasked}
use Rattle.signal_frames.specs.Reading.{StandsAt, IsSaved}
use Rattle.signal_frames.specs.declared.head.Expected.{Expected}
use Rattle.signal_frames.proofs.Lengths.{least_head}
use Rattle.signal_frames.proofs.Fetching.{length-bytes_with, front_read, rest_read}
use Rattle.signal_frames.proofs.Fields.{number_in_head, head_in_head, HeadSays, head_says}

-- ---- bytes that can be read, or cannot

pub none_read : (need : ℕ) (m : AddressSpace) (a n x : ℕ) → first_without need m a n ≡ Some x → bytes_with need m a n ≡ None
none_read need m a n x h = by_bytes (bytes_with need m a n) refl
  where
    by_bytes : (o : Option (List ℕ)) → bytes_with need m a n ≡ o → bytes_with need m a n ≡ None
    by_bytes None e = e
    by_bytes (Some bs) e =
        let there : first_without need m a n ≡ None = first_without-none need m a n (rw e refl) in
        let same : None ≡ Some x = sym there ∙ h in
        cc

byte_there : (x : ℕ) (o : Option ℕ) → unless_there x o ≡ None → (b : ℕ) × (o ≡ Some b)
byte_there x None h = cc
byte_there x (Some b) h = (b, refl)

pub all_read : (need : ℕ) (m : AddressSpace) (a n : ℕ) → first_without need m a n ≡ None
    → (bs : List ℕ) × (bytes_with need m a n ≡ Some bs)
unfolding first_without bytes_with
all_read need m a zero h = ([], refl)
all_read need m a (suc n) h =
    let parts : (first_without need m a n ≡ None) × (unless_there ((a + n) % 2 ^ 64) (byte_with need m ((a + n) % 2 ^ 64)) ≡ None) =
    neither_some (first_without need m a n) (unless_there ((a + n) % 2 ^ 64) (byte_with need m ((a + n) % 2 ^ 64))) h in
    let before : (bs : List ℕ) × (bytes_with need m a n ≡ Some bs) = all_read need m a n parts.0 in
    let last : (b : ℕ) × (byte_with need m ((a + n) % 2 ^ 64) ≡ Some b) =
    byte_there ((a + n) % 2 ^ 64) (byte_with need m ((a + n) % 2 ^ 64)) parts.1 in (
      before.0 ++ last.0 ∷ [],
      ap (λ o. and_byte o (byte_with need m ((a + n) % 2 ^ 64))) before.1 ∙ ap (and_byte (Some before.0)) last.1,
    )

-- ---- how many bytes are read

pub read_none : (e : Expected) (m : AddressSpace) (sp : ℕ) → bytes_with 4 m sp (head_size e.version) ≡ None
    → read_at e m sp ≡ head_size e.version
read_none e m sp h = ap (count_read e) h

pub read_head : (e : Expected) (m : AddressSpace) (sp : ℕ) (head : List ℕ) (b : Bool)
    → bytes_with 4 m sp (head_size e.version) ≡ Some head → is_head e head ≡ b
    → read_at e m sp ≡ (if b then saved_size head else head_size e.version)
read_head e m sp head b h is = ap (count_read e) h ∙ ap (λ k. if k then saved_size head else head_size e.version) is

pub fault_is : (e : Expected) (m : AddressSpace) (sp n : ℕ) (read : Option (List ℕ)) → read_at e m sp ≡ n
    → bytes_with 4 m sp n ≡ read → fault_at e m sp ≡ stop_of e sp (first_without 4 m sp n) read
unfolding fault_at
fault_is e m sp n read is h =
    ap (λ k. stop_of e sp (first_without 4 m sp k) (bytes_with 4 m sp k)) is
    ∙ ap (stop_of e sp (first_without 4 m sp n)) h

-- ---- the stops

pub unreadable_head : (e : Expected) (m : AddressSpace) (sp x : ℕ) → bytes_with 4 m sp (head_size e.version) ≡ None
    → first_without 4 m sp (head_size e.version) ≡ Some x → Some x ≡ fault_at e m sp
unreadable_head e m sp x none first =
    sym (fault_is e m sp (head_size e.version) None (read_none e m sp none) none ∙ first)

refused : (inside : Bool) (sp : ℕ) → (if inside && false then None else Some sp) ≡ Some sp
refused true sp = refl
refused false sp = refl

pub bad_head : (e : Expected) (m : AddressSpace) (sp : ℕ) (head : List ℕ) → bytes_with 4 m sp (head_size e.version) ≡ Some head
    → is_head e head ≡ false → Some sp ≡ fault_at e m sp
bad_head e m sp head read bad =
    sym (fault_is e m sp (head_size e.version) (Some head) (read_head e m sp head false read bad) read
    ∙ ap (λ k. if nat_lt 0 e.depth && (k && is_zero_past (saved_length head) (body_of e.version head)) then None else Some sp) bad
    ∙ refused (nat_lt 0 e.depth) sp)

pub unreadable_rest : (e : Expected) (m : AddressSpace) (sp : ℕ) (head : List ℕ) (x : ℕ)
    → bytes_with 4 m sp (head_size e.version) ≡ Some head → is_head e head ≡ true → first_without 4 m sp (saved_size head) ≡ Some x
    → Some x ≡ fault_at e m sp
unreadable_rest e m sp head x read good first =
    sym (fault_is e m sp (saved_size head) None (read_head e m sp head true read good)
    (none_read 4 m sp (saved_size head) x first) ∙ first)

-- ---- the frame that is found

at_least : (e : Expected) (head : List ℕ) → HeadSays e head → head_size e.version + (34 * saved_length head + 32) ≤ saved_size head
at_least e head says = omega (arith, says.size)

pub found : (e : Expected) (m : AddressSpace) (sp : ℕ) (head : List ℕ) → bytes_with 4 m sp (head_size e.version) ≡ Some head
    → is_head e head ≡ true → first_without 4 m sp (saved_size head) ≡ None → (frame : List ℕ) × IsSaved e m sp head frame
found e m sp head read good none =
    let h : ℕ = head_size e.version in
    let all : (frame : List ℕ) × (bytes_with 4 m sp (saved_size head) ≡ Some frame) = all_read 4 m sp (saved_size head) none in
    let frame : List ℕ = all.0 in
    let long : length frame ≡ saved_size head = length-bytes_with 4 m sp (saved_size head) frame all.1 in
    let least : h + (34 * saved_length head + 32) ≤ saved_size head = at_least e head (head_says e head good) in
    let some : 320 ≤ h = least_head e.version in
    let split : h + (saved_size head - h) ≡ saved_size head = omega arith in
    let front : bytes_with 4 m sp h ≡ Some (take h frame) =
    front_read m sp h (saved_size head - h) frame (ap (bytes_with 4 m sp) split ∙ all.1) in
    let first : take h frame ≡ head = let same : Some (take h frame) ≡ Some head = sym front ∙ read in cc in (
      frame,
      record {
        stands = record { bytes = ap (bytes_with 4 m sp) long ∙ all.1 };
        first = first;
        fields = sym (head_in_head e frame) ∙ ap (is_head e) first ∙ good;
        size = long ∙ ap saved_size (sym first) ∙ number_in_head h frame 8 4 (omega arith);
        read = ap (bytes_with 4 m sp) (read_head e m sp head true read good) ∙ all.1;
      },
    )

pub fault_of_saved : (inside zeros : Bool) (e : Expected) (m : AddressSpace) (sp : ℕ) (head frame : List ℕ)
    → nat_lt 0 e.depth ≡ inside → IsSaved e m sp head frame
    → is_zero_past (saved_length frame) (body_of e.version frame) ≡ zeros
    → fault_at e m sp ≡ (if inside && zeros then None else Some sp)
fault_of_saved inside zeros e m sp head frame within saved is =
    fault_is e m sp (read_at e m sp) (Some frame) refl saved.read
    ∙ ap (λ k. if k && is_frame e frame then None else Some sp) within
    ∙ ap (λ k. if inside && (k && is_zero_past (saved_length frame) (body_of e.version frame)) then None else Some sp) saved.fields
    ∙ ap (λ k. if inside && k then None else Some sp) is

pub length_of_saved : (e : Expected) (m : AddressSpace) (sp : ℕ) (head frame : List ℕ) → IsSaved e m sp head frame
    → saved_length head ≡ saved_length frame
length_of_saved e m sp head frame saved =
    let some : 320 ≤ head_size e.version = least_head e.version in
    ap saved_length (sym saved.first) ∙ number_in_head (head_size e.version) frame 312 4 (omega arith)

-- what follows the head is all that the lengths say
long_saved : (e : Expected) (m : AddressSpace) (sp : ℕ) (head frame : List ℕ) → IsSaved e m sp head frame
    → length (body_of e.version frame) ≡ body_size (saved_length frame) e.svl (saved_za_on frame)
long_saved e m sp head frame saved =
    let says : HeadSays e frame = head_says e frame saved.fields in
    omega (arith, saved.size, says.size, length-drop (head_size e.version) frame)

pub whole_body : (e : Expected) (m : AddressSpace) (sp : ℕ) (head frame : List ℕ) → IsSaved e m sp head frame
    → body_size (saved_length frame) e.svl (saved_za_on frame) ≤ length (body_of e.version frame)
whole_body e m sp head frame saved = omega (arith, long_saved e m sp head frame saved)

pub some_body : (e : Expected) (m : AddressSpace) (sp : ℕ) (head frame : List ℕ) → IsSaved e m sp head frame
    → 34 * saved_length frame + 32 ≤ length (body_of e.version frame)
some_body e m sp head frame saved = omega (arith, long_saved e m sp head frame saved)

pub body_stands : (e : Expected) (m : AddressSpace) (sp : ℕ) (head frame : List ℕ) → IsSaved e m sp head frame
    → StandsAt m ((sp + head_size e.version) % 2 ^ 64) (body_of e.version frame)
body_stands e m sp head frame saved =
    let h : ℕ = head_size e.version in
    let says : HeadSays e frame = head_says e frame saved.fields in
    let rest : ℕ = length frame - h in
    let split : h + rest ≡ length frame = omega (arith, saved.size, says.size) in
    let long : length (drop h frame) ≡ rest = length-drop h frame in
    record {
      bytes = ap (bytes_with 4 m ((sp + h) % 2 ^ 64)) long
          ∙ rest_read m sp h rest frame (ap (bytes_with 4 m sp) split ∙ saved.stands.bytes);
    }

-- ---- the state after a return

pub returned_is : (e : Expected) (s : ProcessorState) (frame : List ℕ) → length s.bank.za ≡ e.svl
    → bytes_with 4 s.memory s.scalars.sp (read_at e s.memory s.scalars.sp) ≡ Some frame
    → returned e.version e.depth e.vl s ≡ restored e.version frame s
unfolding returned
returned_is e s frame same h =
    ap (λ k. restored e.version (unwrap_or (bytes_with 4 s.memory s.scalars.sp
    (read_at (record e { svl = k }) s.memory s.scalars.sp)) []) s) same
    ∙ ap (λ o. restored e.version (unwrap_or o []) s) h

pub unmasked_is : (e : Expected) (s : ProcessorState) (frame : List ℕ) → length s.bank.za ≡ e.svl
    → bytes_with 4 s.memory s.scalars.sp (read_at e s.memory s.scalars.sp) ≡ Some frame
    → unmasked e.version e.depth e.vl s ≡ saved_masking e.version frame
unfolding unmasked
unmasked_is e s frame same h =
    ap (λ k. saved_masking e.version (unwrap_or (bytes_with 4 s.memory s.scalars.sp
    (read_at (record e { svl = k }) s.memory s.scalars.sp)) [])) same
    ∙ ap (λ o. saved_masking e.version (unwrap_or o [])) h
