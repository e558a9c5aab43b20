use Rattle.std.proofs.Common.{refl}
use Rattle.signal_frames.proofs.Putting.{put_written}
use Rattle.signal_frames.proofs.writing.put.Goals as goal

pub returns : goal.returns
returns c = record {
  puts = λ ready.
      put_written c.args.pages.now c.write.new.self c.args.address c.args.bytes.now c.write.result c.write.ensures.ok
      c.write.ensures.abort c.write.ensures.room c.write.ensures.owned ready;
  next = refl;
}
