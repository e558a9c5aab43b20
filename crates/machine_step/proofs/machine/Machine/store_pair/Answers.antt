use Rattle.std.proofs.Common.{◌≡◌, refl, ap, sym, subst, ◌∙◌, Some}
use Rattle.std.specs.Prelude.{Bool}
use Rattle.a64_encode.specs.Either.{instruction_of}
use Rattle.sm_types.specs.declared.insn.Insn.TheVariants as insn
use Rattle.mem_access.specs.Near.{MakesNear}
use Rattle.machine_step.proofs.Answers.{no_operation}
use Rattle.machine_step.proofs.Flats.{pair_row}
use Rattle.machine_step.proofs.Stored.{stored_at}
use Rattle.machine_step.proofs.machine.Machine.store_pair.Goals as goal

pub store_pair_near-requires-clause-fields : goal.store_pair_near-requires-clause-fields
store_pair_near-requires-clause-fields c =
    pair_row c.args.known.now.word c.in-LoadStorePair.x c.requires.word
    (c.args.known.now.known ∙ ap Some (sym c.insn.ensures ∙ c.in-LoadStorePair.is))

pub returns-then-store_pair_near : goal.returns-then-store_pair_near
returns-then-store_pair_near c =
    let old = c.args.self.now in
    let it = insn.LoadStorePair c.in-LoadStorePair.x in
    let means : instruction_of c.args.known.now.word ≡ Some it =
    c.args.known.now.known ∙ ap Some (sym c.insn.ensures ∙ c.in-LoadStorePair.is) in
    let e = subst (λ (b : Bool). MakesNear it old.scalars old.pages c.store_pair_near.new.s c.store_pair_near.new.pages b)
    c.if-store_pair_near.true c.store_pair_near.ensures.made in
    stored_at c.args.known.now.word it old c.step_past.new.self c.store_pair_near.new.s c.store_pair_near.new.pages refl means
    c.requires.aligned c.requires.fetched (no_operation it old.scalars old.pages.memory c.touched_is_shared.ensures e.0) e
    c.step_past.ensures.core c.step_past.ensures.pages c.store_pair_near.ensures.shared
    (record { streaming = c.step_past.ensures.mode.streaming; za_on = c.step_past.ensures.mode.za_on })
