use Rattle.std.proofs.Common.{◌≡◌, ℕ, ◌<◌, ◌^◌, sym, ap, ◌∙◌, arith, pos, subst}
use Rattle.insn_forms.specs.Fields.{signed_value}
use Rattle.insn_forms.proofs.Bits.{a_field, field_in-lt}
use Rattle.insn_forms.proofs.field.signed_in.Goals as goal

pub signed-requires-clause-width : goal.signed-requires-clause-width
signed-requires-clause-width c = (a_field c.args.it.now c.requires).few

no_bits : (width bits : ℕ) → width ≡ 0 → bits < 2 ^ width → pos 0 ≡ signed_value width bits
unfolding signed_value
no_bits width bits e lt =
    let z : bits ≡ 0 = (let h : bits < 2 ^ 0 = subst (λ k. bits < 2 ^ k) e lt in omega arith) in
    sym (ap (λ b. signed_value width b) z ∙ ap (λ w. signed_value w 0) e)

pub returns-then-width-eq0 : goal.returns-then-width-eq0
returns-then-width-eq0 c = no_bits _ _ (omega arith) (field_in-lt c.args.it.now c.args.word)
