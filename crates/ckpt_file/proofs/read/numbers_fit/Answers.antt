use Rattle.std.proofs.Common.{arith}
use Rattle.ckpt_file.proofs.read.numbers_fit.Goals as goal

pub returns : goal.returns
returns c = record {
  thread = omega arith;
  count = omega arith;
  events = omega arith;
  depth = omega arith;
  turns = omega arith;
  nzcv = omega arith;
  svcr = omega arith;
  tpidr = c.system_fits.ensures.tpidr;
  tpidr2 = c.system_fits.ensures.tpidr2;
  held = c.system_fits.ensures.held;
  mask = c.system_fits.ensures.mask;
}
