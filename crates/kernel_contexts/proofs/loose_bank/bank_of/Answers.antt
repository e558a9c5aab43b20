use Rattle.std.proofs.Common.{ap, ◌∙◌, subst}
use Rattle.sm_types.specs.declared.length.VecLen.{VecLen}
use Rattle.sve_vectors.specs.Lengths.{vector_bytes}
use Rattle.sve_vectors.specs.State.{SveState}
use Rattle.za_array.specs.Array.{IsSquare, zero_vectors, ArrayState}
use Rattle.kernel_contexts.proofs.loose_bank.bank_of.Goals as goal

pub put_registers-requires-clause-vl : goal.put_registers-requires-clause-vl
put_registers-requires-clause-vl c = ap (λ (v : SveState). v.vl) c.in_ok-bank.ensures.vectors

pub put_registers-requires-clause-svl : goal.put_registers-requires-clause-svl
put_registers-requires-clause-svl c = ap (λ (v : SveState). v.svl) c.in_ok-bank.ensures.vectors

pub returns : goal.returns
returns c =
    let bank = c.in_ok-bank.bank in
    let registers = c.put_registers.ensures in
    let array = c.put_array_of.ensures in
    let svl = array.svl in
    record {
      lengths = record { vl = registers.vl; svl = registers.svl };
      mode = registers.mode;
      off = array.array.off;
      owner = c.in_ok-bank.ensures.owner;
      vectors = record {
        lengths = registers.registers.lengths;
        vectors = registers.registers.vectors;
        predicates = registers.registers.predicates;
        first_fault = registers.registers.first_fault;
        square = subst (λ (l : VecLen). IsSquare (vector_bytes l) c.put_array_of.new.za.vectors) svl c.size-size.ensures.square;
        array = array.array.array;
        off = λ off. ap (λ (a : ArrayState). a.vectors) (array.array.off off) ∙ ap (λ (l : VecLen). zero_vectors (vector_bytes l)) svl;
      };
    }
