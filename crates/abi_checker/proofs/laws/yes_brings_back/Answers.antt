use Rattle.std.proofs.Common.{◌≡◌, ◌<◌, ℕ, List, Some, length, subst, sym, ◌∙◌, ap}
use Rattle.machine_step.specs.ProcessorState.{ProcessorState, vector_bytes}
use Rattle.lazy_saving.specs.Instructions.{after_instructions}
use Rattle.lazy_saving.specs.Interleaved.{Covers}
use Rattle.lazy_saving.specs.Outcome.{IsPast, IsCallersArray, instructions_past}
use Rattle.za_routines.specs.Ways.{own_instructions}
use Rattle.abi_checker.specs.Faults.{block_of}
use Rattle.abi_checker.proofs.Brought.{known_back, known_there, plain_there}
use Rattle.abi_checker.proofs.laws.yes_brings_back.Goals as goal

pub returns-clause-alone : goal.returns-clause-alone
returns-clause-alone c = λ program config thread journal count p s r bytes h.
    let vl = vector_bytes config.vl in
    let k = known_back program config thread journal count p bytes s r h in
    subst (λ (b : List ℕ). (t : ProcessorState) × (after_instructions vl (instructions_past r.core.za_on b) r.core ≡ Some t)
    × IsPast p r.core t × IsCallersArray r.core.za_on s.core t b) k.is
    (c.arrays_come_back.ensures.back vl p s.core r.core (block_of s) k.lawful k.old k.new k.whole k.same k.pc)

pub returns-clause-over : goal.returns-clause-over
returns-clause-over c = λ program config thread journal count p s bytes area steps from to h covers are all.
    let k = known_there program config thread journal count p bytes s from h in
    let plain = plain_there program config thread journal count p bytes s from h to in
    let back =
    c.routines_run_with_handlers.ensures.returns config thread area p steps s.core from to (block_of s) k.lawful k.old k.new k.whole
    k.same k.pc (subst (λ (b : List ℕ). Covers area p (length s.core.bank.za) (block_of s) b) (sym k.is) covers) are plain
    (all ∙ ap (instructions_past from.state.core.za_on) (sym k.is)) in
    (back.0, subst (λ (b : List ℕ). IsCallersArray from.state.core.za_on s.core to.state.core b) k.is back.1)

pub returns-clause-under_way : goal.returns-clause-under_way
returns-clause-under_way c = λ program config thread journal count p s bytes area steps from to h covers are fewer.
    let k = known_there program config thread journal count p bytes s from h in
    let plain = plain_there program config thread journal count p bytes s from h to in
    c.routines_run_with_handlers.ensures.returning config thread area p steps s.core from to (block_of s) k.lawful k.old k.new k.whole
    k.same k.pc (subst (λ (b : List ℕ). Covers area p (length s.core.bank.za) (block_of s) b) (sym k.is) covers) are plain
    (subst (λ (b : List ℕ). own_instructions steps < instructions_past from.state.core.za_on b) (sym k.is) fewer)
