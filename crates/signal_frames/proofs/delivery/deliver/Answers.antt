use Rattle.std.proofs.Common.{◌≡◌, ◌+◌, ◌-◌, ◌*◌, ◌/◌, ◌%◌, ◌^◌, ap, sym, ◌∙◌, length}
use Rattle.mem_access.specs.Bank.{bank_state}
use Rattle.paged_memory.specs.Memory.{first_without}
use Rattle.machine_step.specs.ProcessorState.{vector_bytes}
use Rattle.machine_step.specs.Machine.{core_of}
use Rattle.machine_step.specs.Mode.{length_at}
use Rattle.sve_vectors.specs.State.{length_of}
use Rattle.signal_frames.specs.Layout.{frame_size}
use Rattle.signal_frames.specs.Frame.{size_of, entered, with_frame}
use Rattle.paged_memory.specs.Memory.{run_of}
use Rattle.paged_memory.proofs.Owned.{owns_then}
use Rattle.signal_frames.proofs.Delivered.{length_is, fault_by, address_by, room_by, owned_by, framed}
use Rattle.signal_frames.proofs.delivery.deliver.Goals as goal

pub returns-in-Err-clause-made : goal.returns-in-Err-clause-made
returns-in-Err-clause-made c =
    let version = c.args.version in
    let m = c.args.machine.now in
    let bank = c.args.bank.now in
    let vl = vector_bytes bank.vectors.vl in
    let s = core_of m (bank_state bank) in
    let long : length bank.za.vectors ≡ vector_bytes bank.vectors.svl = c.size.ensures.square.count ∙ ap vector_bytes bank.one_length in
    let current : length_of bank.vectors ≡ length_at vl s =
    length_is bank.vectors bank.za.vectors m.streaming long c.requires.streaming in
    let size : c.frame_size-size.result ≡ size_of version vl s = c.frame_size-size.ensures.value
    ∙ ap (λ k. frame_size version k c.size.result m.za_on) (c.length-vector_size.ensures.value ∙ current)
    ∙ ap (λ k. frame_size version (length_at vl s) k m.za_on) (c.size.ensures.value ∙ sym c.size.ensures.square.count) in (
      fault_by version vl c.frame_size-size.result s size ∙ c.in-Err.ensures.stops,
      ap (λ k. record s { memory = k }) c.in-Err.ensures.memory,
    )

pub returns-in-Err-clause-room : goal.returns-in-Err-clause-room
returns-in-Err-clause-room c =
    let version = c.args.version in
    let m = c.args.machine.now in
    let bank = c.args.bank.now in
    let vl = vector_bytes bank.vectors.vl in
    let s = core_of m (bank_state bank) in
    let long : length bank.za.vectors ≡ vector_bytes bank.vectors.svl = c.size.ensures.square.count ∙ ap vector_bytes bank.one_length in
    let current : length_of bank.vectors ≡ length_at vl s =
    length_is bank.vectors bank.za.vectors m.streaming long c.requires.streaming in
    let size : c.frame_size-size.result ≡ size_of version vl s = c.frame_size-size.ensures.value
    ∙ ap (λ k. frame_size version k c.size.result m.za_on) (c.length-vector_size.ensures.value ∙ current)
    ∙ ap (λ k. frame_size version (length_at vl s) k m.za_on) (c.size.ensures.value ∙ sym c.size.ensures.square.count) in
    λ room. c.in-Err.ensures.room (room_by version vl c.frame_size-size.result s m.pages size room)

pub returns-in-Ok-clause-made : goal.returns-in-Ok-clause-made
returns-in-Ok-clause-made c =
    let version = c.args.version in
    let m = c.args.machine.now in
    let bank = c.args.bank.now in
    let vl = vector_bytes bank.vectors.vl in
    let s = core_of m (bank_state bank) in
    let long : length bank.za.vectors ≡ vector_bytes bank.vectors.svl = c.size.ensures.square.count ∙ ap vector_bytes bank.one_length in
    let current : length_of bank.vectors ≡ length_at vl s =
    length_is bank.vectors bank.za.vectors m.streaming long c.requires.streaming in
    let size : c.frame_size-size.result ≡ size_of version vl s = c.frame_size-size.ensures.value
    ∙ ap (λ k. frame_size version k c.size.result m.za_on) (c.length-vector_size.ensures.value ∙ current)
    ∙ ap (λ k. frame_size version (length_at vl s) k m.za_on) (c.size.ensures.value ∙ sym c.size.ensures.square.count) in
    let n = c.frame_size-size.result in
    let address = (m.scalars.sp + (2 ^ 64 - n)) % 2 ^ 64 / 16 * 16 in
    let at = address_by version vl n s size in
    let memory = framed version c.args.masking m c.write_frame.new.machine (bank_state bank) c.reserve.new.pages vl c.args.signal address c.in-Ok.ensures.memory
    c.write_frame.ensures.others (c.write_frame.ensures.frame c.in-Ok.ensures.ready) at in (
      fault_by version vl n s size ∙ ap (λ k. first_without 2 k address n) (sym c.in-Ok.ensures.memory) ∙ c.in-Ok.ensures.ready.writable,
      c.enter.ensures.core ∙ ap (entered vl c.args.signal c.args.handler address) memory
          ∙ ap (λ k. entered vl c.args.signal c.args.handler k (with_frame version c.args.masking vl c.args.signal s)) at,
    )

pub returns-in-Ok-clause-owned : goal.returns-in-Ok-clause-owned
returns-in-Ok-clause-owned c =
    let version = c.args.version in
    let m = c.args.machine.now in
    let bank = c.args.bank.now in
    let vl = vector_bytes bank.vectors.vl in
    let s = core_of m (bank_state bank) in
    let long : length bank.za.vectors ≡ vector_bytes bank.vectors.svl = c.size.ensures.square.count ∙ ap vector_bytes bank.one_length in
    let current : length_of bank.vectors ≡ length_at vl s =
    length_is bank.vectors bank.za.vectors m.streaming long c.requires.streaming in
    let size : c.frame_size-size.result ≡ size_of version vl s = c.frame_size-size.ensures.value
    ∙ ap (λ k. frame_size version k c.size.result m.za_on) (c.length-vector_size.ensures.value ∙ current)
    ∙ ap (λ k. frame_size version (length_at vl s) k m.za_on) (c.size.ensures.value ∙ sym c.size.ensures.square.count) in
    let n = c.frame_size-size.result in
    let address = (m.scalars.sp + (2 ^ 64 - n)) % 2 ^ 64 / 16 * 16 in
    let puts = c.write_frame.ensures.frame c.in-Ok.ensures.ready in
    rw c.enter.ensures.pages (owned_by version vl n s m.pages c.write_frame.new.machine.pages size
    (owns_then m.pages c.reserve.new.pages c.write_frame.new.machine.pages (run_of address n) c.in-Ok.ensures.owned puts.owned))
