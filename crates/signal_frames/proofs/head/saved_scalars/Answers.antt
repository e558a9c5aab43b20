use Rattle.std.proofs.Common.{refl}
use Rattle.signal_frames.specs.Saved.{saved_scalars}
use Rattle.signal_frames.proofs.Fields.{registers_read}
use Rattle.signal_frames.proofs.head.saved_scalars.Goals as goal

pub returns : goal.returns
unfolding saved_scalars
returns c =
    let regs = registers_read c.args.head.now c.read_u64_into.new.dst c.requires c.read_u64_into.auto.dst c.read_u64_into.ensures in
    rw (
      regs,
      c.bit.ensures,
      c.bit-2.ensures,
      c.bit-3.ensures,
      c.bit-4.ensures,
      c.u64_at-nzcv.ensures,
      c.u64_at.ensures,
      c.u64_at-2.ensures,
    ) refl
