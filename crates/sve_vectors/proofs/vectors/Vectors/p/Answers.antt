use Rattle.std.proofs.Common.{ap, [], get_or}
use Rattle.sve_vectors.specs.State.{SveState}
use Rattle.sve_vectors.specs.Layout.{items_of}
use Rattle.sve_vectors.proofs.Held.{predicate_at}
use Rattle.sve_vectors.proofs.vectors.Vectors.p.Goals as goal

pub returns-clause-value : goal.returns-clause-value
returns-clause-value c =
    let v = c.self.inside in
    let at = predicate_at v.current _ c.args.n (items_of v.z.items)
    (items_of v.p.items) v.ffr.items c.self.invariant.predicates c.requires in
    cc (at, ap (λ (s : SveState). get_or s.registers.predicates c.args.n []) c.self.view_is)
