use Rattle.std.proofs.Common.{◌≡◌, ◌*◌, true, false, length, ap, sym, ◌∙◌}
use Rattle.std.proofs.lemmas.Bool.{both_ways}
use Rattle.std.specs.List.{concat}
use Rattle.sve_vectors.specs.Lengths.{vector_bytes}
use Rattle.za_array.specs.Array.{ArrayState}
use Rattle.kernel_contexts.specs.LooseState.{is_array_on}
use Rattle.kernel_contexts.proofs.LooseParts.{pieces_whole, still_zero}
use Rattle.kernel_contexts.proofs.loose_bank.put_array_of.Goals as goal

pub put_array-requires : goal.put_array-requires
put_array-requires c =
    let size = ap (λ (a : ArrayState). vector_bytes a.svl) c.requires.zero in
    let on : is_array_on c.args.state.now ≡ true = sym c.bit.ensures ∙ c.if-bit.true in
    let long : length c.args.state.now.za.items ≡ vector_bytes c.args.config.now.svl * vector_bytes c.args.config.now.svl =
    rw on at c.requires.fields.array in
    ap length c.as_slice.ensures.value ∙ long ∙ ap (λ k. k * k) (sym size)

pub returns-then-bit-clause-svl : goal.returns-then-bit-clause-svl
returns-then-bit-clause-svl c =
    ap (λ (a : ArrayState). a.svl) c.put_array.ensures ∙ ap (λ (a : ArrayState). a.svl) c.requires.zero

pub returns-then-bit-clause-array : goal.returns-then-bit-clause-array
returns-then-bit-clause-array c =
    let size = ap (λ (a : ArrayState). vector_bytes a.svl) c.requires.zero in
    let on : is_array_on c.args.state.now ≡ true = sym c.bit.ensures ∙ c.if-bit.true in
    let long : length c.args.state.now.za.items ≡ vector_bytes c.args.config.now.svl * vector_bytes c.args.config.now.svl =
    rw on at c.requires.fields.array in
    record {
      array = λ _. ap (λ (a : ArrayState). concat a.vectors) c.put_array.ensures
          ∙ pieces_whole (vector_bytes c.args.za.now.svl) (vector_bytes c.args.za.now.svl) c.as_slice.result.now
          (ap length c.as_slice.ensures.value ∙ long ∙ ap (λ k. k * k) (sym size))
          ∙ c.as_slice.ensures.value;
      off = λ off. absurd (both_ways (is_array_on c.args.state.now) off on);
    }

pub returns-else-bit-clause-svl : goal.returns-else-bit-clause-svl
returns-else-bit-clause-svl c = ap (λ (a : ArrayState). a.svl) c.requires.zero

pub returns-else-bit-clause-array : goal.returns-else-bit-clause-array
returns-else-bit-clause-array c =
    let off : is_array_on c.args.state.now ≡ false = sym c.bit.ensures ∙ c.if-bit.false in
    record {
      array = λ on. absurd (both_ways (is_array_on c.args.state.now) off on);
      off = λ _. still_zero c.args.za.now c.args.config.now.svl c.requires.zero;
    }
