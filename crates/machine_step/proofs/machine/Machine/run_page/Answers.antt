use Rattle.std.proofs.Common.{◌≡◌, sym, subst, ◌∙◌}
use Rattle.za_array.specs.Array.{ArrayState, zero_array}
use Rattle.machine_step.proofs.Computing.{computed_executed, computed_stays}
use Rattle.machine_step.proofs.machine.Machine.run_page.Goals as goal

pub returns-in-Some-clause-executed : goal.returns-in-Some-clause-executed
returns-in-Some-clause-executed g c =
    let a = c.act_known in
    computed_executed (g.H.Halts.halts c.args.halts.now) c.args.apart a.result.0 c.args.self.now c.args.self.now.scalars c.args.bank.now
    a.new.s a.new.bank c.requires.streaming a.ensures.computed

pub returns-in-Some-clause-same : goal.returns-in-Some-clause-same
returns-in-Some-clause-same g c =
    let a = c.act_known in
    let k = computed_stays (g.H.Halts.halts c.args.halts.now) c.args.apart c.args.self.now.pages.memory a.result.0 c.args.self.now.scalars
    c.args.bank.now a.new.s a.new.bank a.ensures.computed in
    record { vl = k.vl; svl = k.svl; owner = k.owner }

pub returns-in-Some-clause-mode : goal.returns-in-Some-clause-mode
returns-in-Some-clause-mode g c =
    let a = c.act_known in
    let k = computed_stays (g.H.Halts.halts c.args.halts.now) c.args.apart c.args.self.now.pages.memory a.result.0 c.args.self.now.scalars
    c.args.bank.now a.new.s a.new.bank a.ensures.computed in
    record {
      streaming = k.streaming ∙ c.requires.streaming;
      off = λ e. subst (λ (z : ArrayState). z ≡ zero_array z.svl) (sym k.array) (c.requires.off e);
    }
