use Rattle.std.proofs.Common.{sym, ap, ◌∙◌, subst}
use Rattle.paged_memory.specs.PageTable.{KeepsOwned}
use Rattle.mem_access.specs.Bank.{bank_state}
use Rattle.machine_step.specs.Machine.{core_of}
use Rattle.machine_step.specs.Several.{HaltsBy}
use Rattle.machine_step.specs.declared.machine.Machine.{Machine}
use Rattle.kernel_contexts.specs.State.{State}
use Rattle.kernel_contexts.specs.GuestThread.{guest_events}
use Rattle.kernel_contexts.specs.Context.{held_state}
use Rattle.kernel_contexts.specs.Several.{GoesApart}
use Rattle.kernel_contexts.proofs.Bare.{with_vectors, back_with}
use Rattle.kernel_contexts.proofs.Several.{executed_goes, executed_as, up_to}
use Rattle.kernel_contexts.proofs.guest.GuestThread.make_several_turns.Goals as goal

pub returns-clause-turns : goal.returns-clause-turns
returns-clause-turns g c =
    let t = c.args.self.now in
    let bank = c.args.bank.now in
    let step = c.step_several-made in
    let v = bank_state step.new.bank in
    let s = held_state t bank in
    let halts = g.H.Halts.halts c.args.halts.now in
    subst (λ (u : State). GoesApart halts c.args.apart t.config t.number (guest_events t) step.result.count s u)
    (sym (ap (with_vectors v) c.count_turns.ensures.state))
    (executed_goes t.config t.number (guest_events t) t.watch s t.watched halts c.args.apart step.result.count
    (core_of step.new.self v)
    (up_to c.args.most t.watch t.count step.result.count c.min-few.result t.watched.within c.min-few.ensures step.ensures.few)
    (executed_as halts c.args.apart bank.vectors.vl t.config.vl step.result.count s.core (core_of step.new.self v) (sym c.requires.lengths.vl)
    step.ensures.executed))

pub returns-clause-back : goal.returns-clause-back
returns-clause-back g c =
    let t = c.args.self.now in
    let step = c.step_several-made in
    let new = c.count_turns.new.self in
    back_with t.config new.config step.new.self new.machine c.args.bank.now step.new.bank (record {
      same = step.ensures.same;
      fit = record {
        lengths = record {
          vl = step.ensures.same.vl ∙ c.requires.lengths.vl;
          svl = step.ensures.same.svl ∙ c.requires.lengths.svl;
        };
        mode = step.ensures.mode;
      };
    }) c.count_turns.ensures.same.config (ap (λ (m : Machine). m.streaming) c.count_turns.ensures.machine)
    (ap (λ (m : Machine). m.za_on) c.count_turns.ensures.machine)

pub returns-clause-owned : goal.returns-clause-owned
returns-clause-owned g c =
    subst (λ (m : Machine). KeepsOwned c.args.self.now.machine.pages m.pages) (sym c.count_turns.ensures.machine)
    c.step_several-made.ensures.owned

pub returns-clause-count : goal.returns-clause-count
returns-clause-count g c = ap (λ (s : State). s.count) c.count_turns.ensures.state

pub returns-clause-made : goal.returns-clause-made
returns-clause-made g c = ap (λ (s : State). s.turns) c.count_turns.ensures.state

pub returns-clause-halted : goal.returns-clause-halted
returns-clause-halted g c = c.halt_after-halt.ensures

pub halt_after-halt-requires : goal.halt_after-halt-requires
halt_after-halt-requires g c =
    let step = c.step_several-made in
    subst (λ (m : Machine). HaltsBy (g.H.Halts.halts c.args.halts.now) m.pages.memory m.scalars.pc c.min-few.result step.result)
    (sym c.count_turns.ensures.machine) step.ensures.halted
