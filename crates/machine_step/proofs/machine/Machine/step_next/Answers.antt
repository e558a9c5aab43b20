use Rattle.std.proofs.Common.{ap, sym, subst, ◌∙◌, Some}
use Rattle.machine_step.specs.Next.{IsNext, Follows}
use Rattle.machine_step.specs.declared.page_run.Next.{Next}
use Rattle.machine_step.specs.declared.decoder.Decoded.{Decoded}
use Rattle.machine_step.proofs.machine.Machine.step_next.Goals as goal

pub step_known-requires-clause-fetched : goal.step_known-requires-clause-fetched
step_known-requires-clause-fetched c =
    let d : Decoded = c.kept.result.now in
    let n = c.requires.next in
    let h : IsNext n.0 c.args.self.now.pages.memory c.args.decoder.now.places.items c.in-Kept.place c.args.self.now.scalars =
    subst (λ (o : Next). Follows n.0 c.args.self.now.pages.memory c.args.decoder.now.places.items c.args.self.now.scalars o)
    c.in-Kept.is n.1 in
    h.fetched d ∙ ap (λ (k : Decoded). Some k.word) (sym (c.kept.ensures d))
