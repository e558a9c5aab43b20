use Rattle.std.proofs.Common.{◌≡◌, inl, refl, ap, subst, ◌∙◌, Option, ℕ}
use Rattle.sm_types.specs.declared.scalars.Scalars.{Scalars}
use Rattle.machine_step.specs.Computed.{ComputesTo}
use Rattle.machine_step.specs.Runs.{StoresTo, machine_at}
use Rattle.machine_step.specs.declared.machine.Machine.{Machine}
use Rattle.machine_step.proofs.Stored.{moved_by, moved_beside}
use Rattle.machine_step.proofs.machine.Machine.act_or_store.Goals as goal

pub returns-in-Some-clause-made : goal.returns-in-Some-clause-made
returns-in-Some-clause-made c =
    moved_by c.args.apart c.args.base c.args.at c.in-Some.next c.args.known.now.word c.args.self.now c.args.bank.now c.compute_at.new.s
    c.args.bank.now c.requires.mode.streaming c.requires.aligned c.requires.fetched (inl (refl, inl c.in-Some.ensures))

pub returns-clause-made : goal.returns-clause-made
returns-clause-made c =
    let base = c.args.base in
    let at = c.args.at in
    let old : Machine = c.args.self.now in
    let stay : c.compute_at.new.s ≡ old.scalars =
    subst (λ (r : Option ℕ). ComputesTo c.args.known.now.word base at old.scalars r c.compute_at.new.s) c.in_default.is
    c.compute_at.ensures in
    let same : machine_at base at c.store_kept.new.self ≡ machine_at base at (record old { scalars = c.compute_at.new.s }) =
    subst (λ (r : Option ℕ). StoresTo base at (record old { scalars = c.compute_at.new.s }) r c.store_kept.new.self)
    c.in_default-store_kept.is c.store_kept.ensures in
    moved_beside c.args.apart base at c.args.known.now.word old c.store_kept.new.self c.args.bank.now c.act_beside.new.s
    c.act_beside.new.bank c.act_beside.result c.requires.mode.streaming c.requires.aligned c.requires.fetched
    (same ∙ ap (λ (s : Scalars). machine_at base at (record old { scalars = s })) stay) c.act_beside.ensures
