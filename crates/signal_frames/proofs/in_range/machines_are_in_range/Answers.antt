use Rattle.std.proofs.Common.{◌≡◌, ◌≤◌, ◌%◌, length, sym, ap, ◌∙◌, subst, arith}
use Rattle.sve_vectors.specs.Lengths.{vector_bytes}
use Rattle.sve_vectors.specs.Registers.{AreOfLength}
use Rattle.sve_vectors.specs.State.{length_of}
use Rattle.za_array.specs.Array.{ArrayState, IsSquare, zero_vectors}
use Rattle.mem_access.specs.Bank.{bank_state}
use Rattle.machine_step.specs.Machine.{core_of}
use Rattle.machine_step.specs.Mode.{length_at}
use Rattle.signal_frames.proofs.Delivered.{length_is}
use Rattle.signal_frames.proofs.in_range.machines_are_in_range.Goals as goal

pub returns : goal.returns
returns c =
    let m = c.args.machine.now in
    let bank = c.args.bank.now in
    let s = core_of m (bank_state bank) in
    let vectors = c.length-length.ensures in
    let array = c.size-size.ensures in
    let long : length bank.za.vectors ≡ vector_bytes bank.vectors.svl = array.square.count ∙ ap vector_bytes bank.one_length in
    let current : length_of bank.vectors ≡ length_at (vector_bytes bank.vectors.vl) s =
    length_is bank.vectors bank.za.vectors m.streaming long c.requires.streaming in
    record {
      count = c.scalars_fit.ensures.count;
      x = c.scalars_fit.ensures.x;
      sp = c.scalars_fit.ensures.sp;
      pc = c.scalars_fit.ensures.pc;
      tpidr = omega arith;
      tpidr2 = omega arith;
      registers = subst (λ n. AreOfLength n bank.vectors.registers) current vectors.registers;
      small = subst (λ n. n ≤ 256) current vectors.small;
      whole = subst (λ n. n % 16 ≡ 0) current vectors.whole;
      square = subst (λ n. IsSquare n bank.za.vectors) (sym array.square.count) array.square;
      narrow = subst (λ n. n ≤ 256) (sym array.square.count) array.small;
      off = λ is. ap (λ (za : ArrayState). za.vectors) (c.requires.off is) ∙ ap zero_vectors (sym array.square.count);
    }
