use Rattle.std.proofs.Common.{◌∙◌, ◌+◌, sym, arith}
use Rattle.std.proofs.lemmas.Nat.{mod_below}
use Rattle.asm_tokens.proofs.Probing.{ends-free, finds, goes-on, ends}
use Rattle.asm_tokens.proofs.names.probed.Goals as goal

pub returns-then-entry : goal.returns-then-entry
returns-then-entry c =
    sym (ends-free c.args.texts.now c.args.slots.now c.args.size c.args.text.now c.loop-step.step c.loop-step.slot c.slot_at-entry.result
    c.loop-step-test.true c.slot_at-entry.ensures c.if-entry.true)
    ∙ c.loop-step.invariant.rest

pub returns-in-Some : goal.returns-in-Some
returns-in-Some c =
    sym (finds c.args.texts.now c.args.slots.now c.args.size c.args.text.now c.loop-step.step c.loop-step.slot c.slot_at-entry.result
    c.in-Some.index c.loop-step-test.true c.slot_at-entry.ensures c.if-entry.false c.in-Some.ensures)
    ∙ c.loop-step.invariant.rest

pub loop-step-preserved : goal.loop-step-preserved
loop-step-preserved c = record {
  rest =
      sym (goes-on c.args.texts.now c.args.slots.now c.args.size c.args.text.now c.loop-step.step c.loop-step.slot c.slot_at-entry.result
      c.loop-step-test.true c.slot_at-entry.ensures c.if-entry.false c.in-None.ensures)
      ∙ c.loop-step.invariant.rest;
  below = mod_below (c.loop-step.slot + 1) c.args.size c.requires.some;
}

pub returns : goal.returns
returns c =
    sym (ends c.args.texts.now c.args.slots.now c.args.size c.args.text.now c.loop-step.step c.loop-step.slot (omega arith))
    ∙ c.loop-step.invariant.rest
