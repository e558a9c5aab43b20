use Rattle.std.proofs.Common.{refl, arith, subst}
use Rattle.machine_step.specs.ProcessorState.{vector_bytes}
use Rattle.lazy_saving.specs.Interleaved.{IsOver}
use Rattle.lazy_saving.specs.Outcome.{disable_length, instructions_past}
use Rattle.za_routines.specs.Ways.{own_instructions}
use Rattle.za_routines.proofs.Ways.{steps_over}
use Rattle.za_routines.proofs.laws.routines_run_with_handlers.Goals as goal

pub returns-clause-disable : goal.returns-clause-disable
returns-clause-disable c = λ config thread area p steps from to b d whole pc covers steps_are plain all.
    let vl = vector_bytes config.vl in
    let law = c.disable_saves_over_changes.ensures vl area p from.state.core b d whole pc covers in
    let o = steps_over c.handlers_bring_back.ensures config thread area from.state.core (disable_length d.bytes) law.0 from to plain
    steps refl steps_are (omega (arith, all)) in
    law.1 to.state.core (subst (λ n. IsOver vl area n from.state.core to.state.core) all o)

pub returns-clause-disabling : goal.returns-clause-disabling
returns-clause-disabling c = λ config thread area p steps from to b d whole pc covers steps_are plain fewer.
    let vl = vector_bytes config.vl in
    let law = c.disable_saves_over_changes.ensures vl area p from.state.core b d whole pc covers in
    let o = steps_over c.handlers_bring_back.ensures config thread area from.state.core (disable_length d.bytes) law.0 from to plain
    steps refl steps_are (omega (arith, fewer)) in
    law.0 (own_instructions steps) to.state.core fewer o

pub returns-clause-returns : goal.returns-clause-returns
returns-clause-returns c = λ config thread area p steps s from to b h old new whole same pc covers steps_are plain all.
    let vl = vector_bytes config.vl in
    let n = instructions_past from.state.core.za_on h.dormant.bytes in
    let law = c.arrays_come_back.ensures.over vl area p s from.state.core b h old new whole same pc covers in
    let o = steps_over c.handlers_bring_back.ensures config thread area from.state.core n law.0 from to plain steps refl steps_are
    (omega (arith, all)) in
    law.1 to.state.core (subst (λ k. IsOver vl area k from.state.core to.state.core) all o)

pub returns-clause-returning : goal.returns-clause-returning
returns-clause-returning c = λ config thread area p steps s from to b h old new whole same pc covers steps_are plain fewer.
    let vl = vector_bytes config.vl in
    let n = instructions_past from.state.core.za_on h.dormant.bytes in
    let law = c.arrays_come_back.ensures.over vl area p s from.state.core b h old new whole same pc covers in
    let o = steps_over c.handlers_bring_back.ensures config thread area from.state.core n law.0 from to plain steps refl steps_are
    (omega (arith, fewer)) in
    law.0 (own_instructions steps) to.state.core fewer o
