use Rattle.std.proofs.Common.{rules, ◌≡◌, ◌<◌, ◌∙◌, sym, ap, length, true}
use Rattle.std.specs.Prelude.{slice_index_or, slice_set, false}
use Rattle.abi_checker.specs.Slots.{slot_of}
use Rattle.std.proofs.lemmas.Bool.{and_parts}
use Rattle.abi_checker.proofs.Slots.{slot_here, slot_set}
use Rattle.abi_checker.proofs.near.Near.add.Goals as goal

pub returns-clause-here : goal.returns-clause-here
returns-clause-here c =
    let slots = c.args.self.now.slots in
    let below : c.slot_of.result < length slots = search rules in
    ap (λ i. slice_index_or (slice_set slots c.slot_of.result true) i false) (sym c.slot_of.ensures.value)
    ∙ slot_here slots c.slot_of.result below

pub returns-clause-others : goal.returns-clause-others
returns-clause-others c = λ other h.
    let near = c.args.self.now in
    let below : c.slot_of.result < length near.slots = search rules in
    slot_set near.slots c.slot_of.result (slot_of other) below
    (and_parts near.some (slice_index_or near.slots (slot_of other) false) h).1
