use Rattle.std.proofs.Common.{◌≡◌, ◌*◌, ◌==◌, true, false, ap, sym, ◌∙◌, arith, eq-eqb}
use Rattle.std.proofs.lemmas.Bool.{ne_eqb}
use Rattle.lazy_saving.specs.Block.{buffer_of}
use Rattle.lazy_saving.proofs.Cases.{saved_none, saved_some}
use Rattle.za_routines.proofs.block.saved_bytes.Goals as goal

pub returns-then-buffer_address-eq0 : goal.returns-then-buffer_address-eq0
returns-then-buffer_address-eq0 c =
    let block = c.args.block.now in
    let null : (buffer_of block == 0) ≡ true = eq-eqb _ _ (sym c.buffer_address.ensures ∙ c.if-buffer_address-eq0.true) in
    let zero_times : 0 * c.args.size ≡ 0 = omega arith in
    sym (ap (λ k. k * c.args.size) (saved_none block null) ∙ zero_times)

pub returns : goal.returns
returns c =
    let block = c.args.block.now in
    let some : (buffer_of block == 0) ≡ false =
    ap (λ n. (n == 0)) (sym c.buffer_address.ensures) ∙ ne_eqb c.buffer_address.result 0 c.if-buffer_address-eq0.false in
    ap (λ k. k * c.args.size) (c.from.ensures ∙ c.slices.ensures.value ∙ sym (saved_some block some))
