use Rattle.std.proofs.Common.{◌<◌, ◌/◌, ◌^◌, sym, subst}
use Rattle.std.proofs.lemmas.Nat.{mod_below, pow_pos}
use Rattle.scalar_exec.proofs.Parts.{masked}
use Rattle.scalar_exec.proofs.fields.field_at.Goals as goal

pub returns-clause-value : goal.returns-clause-value
returns-clause-value c = masked (c.args.value / 2 ^ c.args.low) c.args.count c.requires.count

pub returns-clause-small : goal.returns-clause-small
returns-clause-small c =
    subst (λ n. n < 2 ^ c.args.count) (sym (masked (c.args.value / 2 ^ c.args.low) c.args.count c.requires.count))
    (mod_below _ _ (pow_pos c.args.count))
