use Rattle.std.proofs.Common.{◌≡◌, ◌-◌, ◌^◌, ◌<◌, drop, false}
use Rattle.std.specs.Fmt.{digits_onto}
use Rattle.insn_text.specs.Texts.{hexadecimal}
use Rattle.insn_text.proofs.print.write_hexadecimal.Given as goal

abbrev pub invariant-loop-done : goal.invariant-loop-done
invariant-loop-done l = record {
  left : l.rest < 16 ^ (16 - l.done);
  some_left : 0 < l.done → 0 < l.rest;
  digits : digits_onto (64 - l.done) 16 false l.rest (drop (16 - l.done) l.buffer) ≡ hexadecimal l.number;
}
