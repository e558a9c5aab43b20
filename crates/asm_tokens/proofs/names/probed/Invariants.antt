use Rattle.std.proofs.Common.{◌≡◌, ◌-◌, ◌<◌}
use Rattle.asm_tokens.specs.Slots.{probed}
use Rattle.asm_tokens.proofs.names.probed.Given as goal

abbrev pub invariant-loop-step : goal.invariant-loop-step
invariant-loop-step l = record {
  rest : probed l.texts l.slots l.size l.text (16 - l.step) l.slot ≡ probed l.texts l.slots l.size l.text 16 l.start;
  below : l.slot < l.size;
}
