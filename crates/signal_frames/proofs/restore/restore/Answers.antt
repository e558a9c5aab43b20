use Rattle.std.proofs.Common.{◌≡◌, ◌+◌, ◌*◌, ◌%◌, ◌^◌, ◌≤◌, List, ℕ, length, ap, sym, subst, ◌∙◌, arith}
use Rattle.sve_vectors.specs.Lengths.{vector_bytes, current_bytes}
use Rattle.mem_access.specs.Bank.{bank_state}
use Rattle.machine_step.specs.Machine.{core_of}
use Rattle.machine_step.specs.System.{bit_at}
use Rattle.signal_frames.specs.Layout.{head_size, body_size}
use Rattle.signal_frames.specs.Saved.{saved_scalars, saved_streaming, saved_za_on, saved_length, body_of, saved_registers, saved_array}
use Rattle.signal_frames.specs.Saved.{saved_masking}
use Rattle.signal_frames.specs.Return.{returned, unmasked}
use Rattle.signal_frames.specs.Reading.{IsSaved, StandsAt}
use Rattle.signal_frames.specs.declared.masking.Masking.{Masking}
use Rattle.signal_frames.proofs.Lengths.{least_head}
use Rattle.signal_frames.proofs.Fields.{number_in_head, scalars_in_head, saved_in_head, saved_below}
use Rattle.signal_frames.proofs.Faults.{returned_is, unmasked_is, some_body, whole_body, body_stands}
use Rattle.signal_frames.proofs.Restored.{same_state, field_is, length_saved}
use Rattle.signal_frames.proofs.restore.restore.Goals as goal

pub returns-clause-core : goal.returns-clause-core
returns-clause-core c =
    let m = c.args.machine.now in
    let bank = c.args.bank.now in
    let s = core_of m (bank_state bank) in
    let head = c.args.head.now in
    let e = c.args.expected in
    let h : ℕ = head_size e.version in
    let least : 320 ≤ h = least_head e.version in
    let frame : List ℕ = c.requires.found.0 in
    let saved : IsSaved e s.memory s.scalars.sp head frame = c.requires.found.1 in
    let body : List ℕ = body_of e.version frame in
    let v = c.read_registers.new.vectors in
    let on = c.saved_streaming-machine.result in
    let count : length s.bank.za ≡ e.svl = c.size-size.ensures.square.count ∙ sym c.requires.svl in
    let streaming : on ≡ saved_streaming frame = c.saved_streaming-machine.ensures ∙ ap saved_streaming (sym saved.first)
    ∙ ap (λ k. bit_at k 0) (number_in_head h frame 288 8 (omega arith)) in
    let za_on : c.saved_za_on-machine.result ≡ saved_za_on frame = c.saved_za_on-machine.ensures ∙ ap saved_za_on (sym saved.first)
    ∙ ap (λ k. bit_at k 1) (number_in_head h frame 288 8 (omega arith)) in
    let long : current_bytes bank.vectors.vl bank.vectors.svl on ≡ saved_length frame =
    ap (λ k. current_bytes bank.vectors.vl k on) (sym bank.one_length)
    ∙ length_saved e bank.vectors.vl bank.za.svl frame on s head c.requires.vl c.requires.svl saved streaming in
    let size : c.length-vector_size.result ≡ saved_length frame = c.length-vector_size.ensures.value
    ∙ rw (c.read_registers.ensures.vl, c.read_registers.ensures.svl, c.read_registers.ensures.mode) long in
    let stands : StandsAt s.memory ((s.scalars.sp + c.head_size.result) % 2 ^ 64) body =
    rw c.head_size.ensures.value (body_stands e s.memory s.scalars.sp head frame saved) in
    let fits : 34 * current_bytes bank.vectors.vl bank.vectors.svl on + 32 ≤ length body =
    rw long (some_body e s.memory s.scalars.sp head frame saved) in
    let all : body_size (saved_length frame) (vector_bytes bank.za.svl) (saved_za_on frame) ≤ length body =
    rw (sym c.requires.svl) (whole_body e s.memory s.scalars.sp head frame saved) in
    same_state e.version frame s c.saved_scalars-machine.result on c.saved_za_on-machine.result c.u64_at-machine-2.result
    c.u64_at-machine.result v.registers c.restore_array.new.za.vectors
    (c.saved_scalars-machine.ensures ∙ ap saved_scalars (sym saved.first) ∙ scalars_in_head h frame least) streaming za_on
    (field_is e s head frame 304 8 c.u64_at-machine-2.result saved (omega arith) c.u64_at-machine-2.ensures)
    (field_is e s head frame 296 8 c.u64_at-machine.result saved (omega arith) c.u64_at-machine.ensures)
    (c.read_registers.ensures.value body stands fits ∙ ap (λ k. saved_registers k body) long)
    (c.restore_array.ensures.value body stands (rw (size, za_on) all)
    ∙ ap (λ k. saved_array k (vector_bytes bank.za.svl) c.saved_za_on-machine.result body) size
    ∙ ap (λ k. saved_array (saved_length frame) (vector_bytes bank.za.svl) k body) za_on
    ∙ ap (λ k. saved_array (saved_length frame) k (saved_za_on frame) body) (sym c.size-size.ensures.square.count))
    ∙ sym (returned_is e s frame count saved.read)
    ∙ ap (λ k. returned e.version e.depth k s) c.requires.vl

pub returns-clause-masking : goal.returns-clause-masking
returns-clause-masking c =
    let m = c.args.machine.now in
    let bank = c.args.bank.now in
    let s = core_of m (bank_state bank) in
    let e = c.args.expected in
    let frame : List ℕ = c.requires.found.0 in
    let saved : IsSaved e s.memory s.scalars.sp c.args.head.now frame = c.requires.found.1 in
    let count : length s.bank.za ≡ e.svl = c.size-size.ensures.square.count ∙ sym c.requires.svl in
    c.saved_masking.ensures ∙ ap (saved_masking e.version) (sym saved.first) ∙ saved_in_head e.version frame
    ∙ sym (unmasked_is e s frame count saved.read)
    ∙ ap (λ k. unmasked e.version e.depth k s) c.requires.vl

pub returns-clause-below : goal.returns-clause-below
returns-clause-below c =
    let m = c.args.machine.now in
    let s = core_of m (bank_state c.args.bank.now) in
    let e = c.args.expected in
    let frame : List ℕ = c.requires.found.0 in
    let saved : IsSaved e s.memory s.scalars.sp c.args.head.now frame = c.requires.found.1 in
    subst (λ (masking : Masking). masking.depth ≤ e.depth)
    (sym (c.saved_masking.ensures ∙ ap (saved_masking e.version) (sym saved.first) ∙ saved_in_head e.version frame))
    (saved_below e frame saved.fields)
