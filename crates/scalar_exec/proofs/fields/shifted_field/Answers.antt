use Rattle.std.proofs.Common.{◌+◌, ◌^◌, ◌≤◌, subst, sym}
use Rattle.scalar_exec.proofs.Parts.{whole, room}
use Rattle.scalar_exec.proofs.fields.shifted_field.Goals as goal

pub returns-clause-value : goal.returns-clause-value
returns-clause-value c = whole c.args.field c.args.count c.args.place c.requires.field c.requires.room

pub returns-clause-small : goal.returns-clause-small
returns-clause-small c =
    subst (λ n. n + 2 ^ c.args.place ≤ 2 ^ (c.args.place + c.args.count))
    (sym (whole c.args.field c.args.count c.args.place c.requires.field c.requires.room))
    (room c.args.field c.args.count c.args.place c.requires.field)
