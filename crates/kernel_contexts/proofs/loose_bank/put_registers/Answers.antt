use Rattle.std.proofs.Common.{◌*◌, ◌/◌, length, ap, sym, ◌∙◌, arith}
use Rattle.sve_vectors.specs.Lengths.{current_bytes}
use Rattle.sve_vectors.specs.State.{SveState, length_of}
use Rattle.machine_step.proofs.Modes.{mode_written, lengths_kept}
use Rattle.signal_frames.proofs.Fetching.{length_written}
use Rattle.kernel_contexts.proofs.LooseParts.{registers_put}
use Rattle.kernel_contexts.proofs.loose_bank.put_registers.Goals as goal

pub put_vectors-requires : goal.put_vectors-requires
put_vectors-requires c =
    let long =
    length_written c.args.vectors.now c.set_streaming.new.self c.bit.result c.set_streaming.ensures
    ∙ (λ i. current_bytes (c.requires.vl i) (c.requires.svl i) (c.bit.ensures i)) in
    ap length c.as_slice.ensures.value ∙ c.requires.fields.vectors ∙ ap (λ k. 32 * k) (sym long)

pub put_predicates-requires : goal.put_predicates-requires
put_predicates-requires c =
    let long =
    ap length_of c.put_vectors.ensures
    ∙ length_written c.args.vectors.now c.set_streaming.new.self c.bit.result c.set_streaming.ensures
    ∙ (λ i. current_bytes (c.requires.vl i) (c.requires.svl i) (c.bit.ensures i)) in
    ap length c.as_slice-2.ensures.value ∙ c.requires.fields.predicates ∙ ap (λ k. 16 * (k / 8)) (sym long)

pub write_ffr-requires : goal.write_ffr-requires
write_ffr-requires c =
    let long =
    ap length_of c.put_predicates.ensures.value
    ∙ ap length_of c.put_vectors.ensures
    ∙ length_written c.args.vectors.now c.set_streaming.new.self c.bit.result c.set_streaming.ensures
    ∙ (λ i. current_bytes (c.requires.vl i) (c.requires.svl i) (c.bit.ensures i)) in
    let bytes = ap length c.as_slice-ffr.ensures.value ∙ c.requires.fields.first_fault in
    omega (arith, long, bytes, c.length-length.ensures.whole)

pub returns-clause-vl : goal.returns-clause-vl
returns-clause-vl c =
    ap (λ (s : SveState). s.vl) c.write_ffr.ensures
    ∙ ap (λ (s : SveState). s.vl) c.put_predicates.ensures.value
    ∙ ap (λ (s : SveState). s.vl) c.put_vectors.ensures
    ∙ (lengths_kept c.args.vectors.now c.set_streaming.new.self c.bit.result c.set_streaming.ensures).0 ∙ c.requires.vl

pub returns-clause-svl : goal.returns-clause-svl
returns-clause-svl c =
    ap (λ (s : SveState). s.svl) c.write_ffr.ensures
    ∙ ap (λ (s : SveState). s.svl) c.put_predicates.ensures.value
    ∙ ap (λ (s : SveState). s.svl) c.put_vectors.ensures
    ∙ (lengths_kept c.args.vectors.now c.set_streaming.new.self c.bit.result c.set_streaming.ensures).1 ∙ c.requires.svl

pub returns-clause-mode : goal.returns-clause-mode
returns-clause-mode c =
    ap (λ (s : SveState). s.streaming) c.write_ffr.ensures
    ∙ ap (λ (s : SveState). s.streaming) c.put_predicates.ensures.value
    ∙ ap (λ (s : SveState). s.streaming) c.put_vectors.ensures
    ∙ mode_written c.args.vectors.now c.set_streaming.new.self c.bit.result c.set_streaming.ensures ∙ c.bit.ensures

pub returns-clause-registers : goal.returns-clause-registers
returns-clause-registers c =
    let long =
    length_written c.args.vectors.now c.set_streaming.new.self c.bit.result c.set_streaming.ensures
    ∙ (λ i. current_bytes (c.requires.vl i) (c.requires.svl i) (c.bit.ensures i)) in
    registers_put _ c.args.state.now c.set_streaming.new.self c.put_vectors.new.vectors c.put_predicates.new.vectors c.write_ffr.new.vectors
    c.as_slice.result.now c.as_slice-2.result.now c.as_slice-ffr.result.now long c.put_vectors.ensures c.put_predicates.ensures.value
    c.write_ffr.ensures c.put_predicates.ensures.told c.truths_tell_bytes.ensures c.as_slice.ensures.value c.as_slice-2.ensures.value
    c.as_slice-ffr.ensures.value
    (ap length c.as_slice.ensures.value ∙ c.requires.fields.vectors ∙ ap (λ k. 32 * k) (sym long)) c.length-registers.ensures.registers
