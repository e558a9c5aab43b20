use Rattle.std.proofs.Common.{arith}
use Rattle.signal_frames.proofs.Putting.{puts_both, puts_none}
use Rattle.signal_frames.proofs.Lengths.{length-vector_state}
use Rattle.signal_frames.proofs.delivery.put_vector_state.Goals as goal

pub returns-then-za_on : goal.returns-then-za_on
returns-then-za_on c = record {
  part = rw c.if-za_on.true
      (puts_both _ _ _ _ _ _ _ _ c.put_vectors-vectors.ensures
      (puts_both _ _ _ _ _ _ _ _ c.put_predicates-predicates.ensures
      (puts_both _ _ _ _ _ _ _ _ c.put_ffr-ffr.ensures c.put_array.ensures)));
  long = length-vector_state _ _ c.args.za_on c.args.bank.now.vectors.registers c.args.bank.now.za.vectors
      c.length-length.ensures.registers c.size-size.ensures.square c.length-length.ensures.small c.length-length.ensures.whole;
}

pub returns-else-za_on : goal.returns-else-za_on
returns-else-za_on c = record {
  part = rw c.if-za_on.false
      (puts_both _ _ _ _ _ _ _ _ c.put_vectors-vectors.ensures
      (puts_both _ _ _ _ _ _ _ _ c.put_predicates-predicates.ensures
      (puts_both _ _ _ _ _ _ _ _ c.put_ffr-ffr.ensures (puts_none c.put_ffr-ffr.new.pages c.put_ffr-ffr.result (omega arith)))));
  long = length-vector_state _ _ c.args.za_on c.args.bank.now.vectors.registers c.args.bank.now.za.vectors
      c.length-length.ensures.registers c.size-size.ensures.square c.length-length.ensures.small c.length-length.ensures.whole;
}
