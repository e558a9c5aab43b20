-- What a delivery leaves.
use Rattle.std.proofs.Common.{◌≡◌, ℕ, ◌+◌, ◌-◌, ◌*◌, ◌/◌, ◌%◌, ◌^◌, Bool, true, false, List, [], ◌∷◌, ◌++◌}
use Rattle.std.proofs.Common.{length, refl, ap, sym, ◌∙◌, subst, length-append, arith}
use Rattle.std.specs.Prelude.{if◌then◌else◌}
use Rattle.sve_vectors.specs.Lengths.{vector_bytes, current_bytes}
use Rattle.sve_vectors.specs.State.{SveState, length_of}
use Rattle.paged_memory.specs.Memory.{first_without, run_of}
use Rattle.paged_memory.specs.PageTable.{PageTable, AreOwned, OwnsAlso}
use Rattle.mem_access.specs.Runs.{with_bytes}
use Rattle.machine_step.specs.ProcessorState.{ProcessorState, VectorState}
use Rattle.machine_step.specs.Mode.{length_at}
use Rattle.machine_step.specs.System.{nzcv_of, svcr_of}
use Rattle.machine_step.specs.Machine.{core_of}
use Rattle.machine_step.specs.declared.machine.Machine.{Machine}
use Rattle.signal_frames.specs.Layout.{head_size, body_size, head_bytes, masking_bytes, vector_state_bytes}
use Rattle.signal_frames.specs.declared.masking.Masking.{Masking}
use Rattle.sm_types.specs.declared.version.Version.{Version}
use Rattle.signal_frames.specs.Frame.{size_of, frame_address, frame_addresses, frame_bytes, frame_fault, with_frame, HasFrameRoom}
use Rattle.signal_frames.specs.Writing.{IsReady, Puts, PutsPart}
use Rattle.signal_frames.proofs.Putting.{puts_both}

-- the current vector length of vectors in a mode
pub length_is : (v : SveState) (za : List (List ℕ)) (streaming : Bool) → length za ≡ vector_bytes v.svl → v.streaming ≡ streaming
    → length_of v ≡ (if streaming then length za else vector_bytes v.vl)
length_is v za true long mode = ap (current_bytes v.vl v.svl) mode ∙ sym long
length_is v za false long mode = ap (current_bytes v.vl v.svl) mode

-- the frame, by its numbers
pub frame_is : (version : Version) (masking : Masking) (vl signal size l k n nzcv svcr : ℕ) (s : ProcessorState)
    → size ≡ size_of version vl s → l ≡ length_at vl s → k ≡ length_at vl s
    → n ≡ length s.bank.za → nzcv ≡ nzcv_of s.scalars → svcr ≡ svcr_of s
    → head_bytes version (size ∷ signal ∷ []) s.scalars.x
    (s.scalars.sp ∷ s.scalars.pc ∷ nzcv ∷ svcr ∷ s.tpidr2 ∷ s.tpidr ∷ []) (l ∷ n ∷ [])
    ++ (masking_bytes version masking ++ vector_state_bytes k s.za_on s.bank.registers s.bank.za)
    ≡ frame_bytes version masking vl signal s
unfolding frame_bytes
frame_is version masking vl signal size l k n nzcv svcr s a b c d e f = rw (a, b, c, d, e, f) refl

-- where all is ready for a size, a part of that size is put
pub puts_sized : (old new : PageTable) (address end size : ℕ) (bytes frame : List ℕ) → PutsPart old new address end bytes
    → length bytes ≡ size → bytes ≡ frame → IsReady old address size → Puts old new address frame
puts_sized old new address end size bytes frame part long is ready =
    subst (Puts old new address) is (part.puts (rw long ready))

-- ---- by the size that is counted

pub fault_by : (version : Version) (vl n : ℕ) (s : ProcessorState) → n ≡ size_of version vl s
    → frame_fault version vl s ≡ first_without 2 s.memory ((s.scalars.sp + (2 ^ 64 - n)) % 2 ^ 64 / 16 * 16) n
unfolding frame_fault frame_address
fault_by version vl n s e = ap (λ k. first_without 2 s.memory ((s.scalars.sp + (2 ^ 64 - k)) % 2 ^ 64 / 16 * 16) k) (sym e)

pub address_by : (version : Version) (vl n : ℕ) (s : ProcessorState) → n ≡ size_of version vl s
    → (s.scalars.sp + (2 ^ 64 - n)) % 2 ^ 64 / 16 * 16 ≡ frame_address version vl s
unfolding frame_address
address_by version vl n s e = ap (λ k. (s.scalars.sp + (2 ^ 64 - k)) % 2 ^ 64 / 16 * 16) e

pub room_by : (version : Version) (vl n : ℕ) (s : ProcessorState) (pages : PageTable) → n ≡ size_of version vl s → HasFrameRoom version vl s pages
    → AreOwned pages ((s.scalars.sp + (2 ^ 64 - n)) % 2 ^ 64 / 16 * 16) n
unfolding frame_address HasFrameRoom
room_by version vl n s pages e h =
    subst (λ k. AreOwned pages ((s.scalars.sp + (2 ^ 64 - k)) % 2 ^ 64 / 16 * 16) k) (sym e) h

pub owned_by : (version : Version) (vl n : ℕ) (s : ProcessorState) (old new : PageTable) → n ≡ size_of version vl s
    → OwnsAlso old new (run_of ((s.scalars.sp + (2 ^ 64 - n)) % 2 ^ 64 / 16 * 16) n) → OwnsAlso old new (frame_addresses version vl s)
unfolding frame_address frame_addresses
owned_by version vl n s old new e h =
    subst (λ k. OwnsAlso old new (run_of ((s.scalars.sp + (2 ^ 64 - k)) % 2 ^ 64 / 16 * 16) k)) e h

-- a machine with the frame in its memory
pub framed : (version : Version) (masking : Masking) (m new : Machine) (bank : VectorState) (reserved : PageTable)
    (vl signal address : ℕ) → reserved.memory ≡ m.pages.memory → new ≡ record m { pages = new.pages }
    → Puts reserved new.pages address (frame_bytes version masking vl signal (core_of (record m { pages = reserved }) bank))
    → address ≡ frame_address version vl (core_of m bank)
    → core_of new bank ≡ with_frame version masking vl signal (core_of m bank)
unfolding with_frame
framed version masking m new bank reserved vl signal address same others puts at =
    let s : ProcessorState = core_of m bank in
    let old : core_of (record m { pages = reserved }) bank ≡ s = ap (λ k. record s { memory = k }) same in
    let memory : new.pages.memory ≡ with_bytes s.memory (frame_address version vl s) (frame_bytes version masking vl signal s) =
    puts.memory
    ∙ ap (λ k. with_bytes k address (frame_bytes version masking vl signal (core_of (record m { pages = reserved }) bank))) same
    ∙ ap (λ k. with_bytes s.memory address (frame_bytes version masking vl signal k)) old
    ∙ ap (λ k. with_bytes s.memory k (frame_bytes version masking vl signal s)) at in
    ap (λ k. core_of k bank) others ∙ ap (λ k. record s { memory = k }) memory

-- the head, and what follows it
pub frame_put : (version : Version) (masking : Masking) (vl signal size l k n nzcv svcr : ℕ) (s : ProcessorState)
    (p q t r : PageTable) (a b d e : ℕ)
    → PutsPart p q a b (head_bytes version (size ∷ signal ∷ []) s.scalars.x
    (s.scalars.sp ∷ s.scalars.pc ∷ nzcv ∷ svcr ∷ s.tpidr2 ∷ s.tpidr ∷ []) (l ∷ n ∷ []))
    → PutsPart q t b d (masking_bytes version masking)
    → PutsPart t r d e (vector_state_bytes k s.za_on s.bank.registers s.bank.za)
    → length (head_bytes version (size ∷ signal ∷ []) s.scalars.x
    (s.scalars.sp ∷ s.scalars.pc ∷ nzcv ∷ svcr ∷ s.tpidr2 ∷ s.tpidr ∷ []) (l ∷ n ∷ [])) ≡ 320
    → 320 + length (masking_bytes version masking) ≡ head_size version
    → length (vector_state_bytes k s.za_on s.bank.registers s.bank.za) ≡ body_size k (length s.bank.za) s.za_on
    → size ≡ size_of version vl s → l ≡ length_at vl s → k ≡ length_at vl s → n ≡ length s.bank.za → nzcv ≡ nzcv_of s.scalars
    → svcr ≡ svcr_of s → IsReady p a size → Puts p r a (frame_bytes version masking vl signal s)
frame_put version masking vl signal size l k n nzcv svcr s p q t r a b d e first mask second long more rest h1 h2 h3 h4 h5 h6 ready =
    let head : List ℕ = head_bytes version (size ∷ signal ∷ []) s.scalars.x
    (s.scalars.sp ∷ s.scalars.pc ∷ nzcv ∷ svcr ∷ s.tpidr2 ∷ s.tpidr ∷ []) (l ∷ n ∷ []) in
    let middle : List ℕ = masking_bytes version masking in
    let others : List ℕ = vector_state_bytes k s.za_on s.bank.registers s.bank.za in
    let sized : body_size k (length s.bank.za) s.za_on ≡ body_size (length_at vl s) (length s.bank.za) s.za_on =
    ap (λ x. body_size x (length s.bank.za) s.za_on) h3 in
    let whole : length (head ++ (middle ++ others)) ≡ size =
    omega (arith, length-append head (middle ++ others), length-append middle others, long, more, rest, sized, h1) in
    puts_sized p r a e size (head ++ (middle ++ others)) (frame_bytes version masking vl signal s)
    (puts_both p q r a b e head (middle ++ others) first (puts_both q t r b d e middle others mask second)) whole
    (frame_is version masking vl signal size l k n nzcv svcr s h1 h2 h3 h4 h5 h6) ready
