use Rattle.std.proofs.Common.{◌≡◌, ap, sym, ◌∙◌, length}
use Rattle.mem_access.specs.Bank.{bank_state}
use Rattle.machine_step.specs.ProcessorState.{vector_bytes}
use Rattle.machine_step.specs.Machine.{core_of}
use Rattle.sve_vectors.specs.State.{length_of}
use Rattle.machine_step.specs.Mode.{length_at}
use Rattle.signal_frames.proofs.Delivered.{length_is, frame_put}
use Rattle.signal_frames.proofs.delivery.write_frame.Goals as goal

pub returns-clause-frame : goal.returns-clause-frame
returns-clause-frame c =
    let m = c.args.machine.now in
    let bank = c.args.bank.now in
    let vl = vector_bytes bank.vectors.vl in
    let s = core_of m (bank_state bank) in
    let long : length bank.za.vectors ≡ vector_bytes bank.vectors.svl = c.size.ensures.square.count ∙ ap vector_bytes bank.one_length in
    let current : length_of bank.vectors ≡ length_at vl s =
    length_is bank.vectors bank.za.vectors m.streaming long c.requires.mode.streaming in
    λ ready.
    frame_put c.args.delivery.version c.args.delivery.masking vl c.args.delivery.signal c.args.size c.length.result
    (length_of bank.vectors) c.size.result c.read_nzcv.result c.read_svcr.result s
    m.pages c.put_head-masked.new.pages c.put_masking-next.new.pages c.put_vector_state.new.pages
    c.args.address c.put_head-masked.result c.put_masking-next.result c.put_vector_state.result
    c.put_head-masked.ensures.part c.put_masking-next.ensures.part c.put_vector_state.ensures.part
    c.put_head-masked.ensures.long c.put_masking-next.ensures.long c.put_vector_state.ensures.long
    c.requires.size (c.length.ensures.value ∙ current) current (c.size.ensures.value ∙ sym c.size.ensures.square.count)
    c.read_nzcv.ensures (c.read_svcr.ensures (bank_state bank)) ready
