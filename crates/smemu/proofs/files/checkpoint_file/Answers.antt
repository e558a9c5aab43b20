use Rattle.kernel_contexts.specs.Loose.{loose_events, loose_state, loose_thread}
use Rattle.report_reader.specs.Told.{report_said}
use Rattle.smemu.proofs.Checkpoints.{most_counted, used_within}
use Rattle.smemu.proofs.files.checkpoint_file.Goals as goal

pub returns-in-Ok-clause-read : goal.returns-in-Ok-clause-read
returns-in-Ok-clause-read c =
    let loose = c.in-Ok.loose in
    let said = report_said c.args.report.now in
    let reads = c.in-Ok.ensures.read in
    let stands =
    c.checkpoints_stand_in_blocks.ensures c.args.bytes.now said (loose_state loose) (loose_thread loose) (loose_events loose) reads in
    record {
      reads = reads;
      options = c.in-Ok.ensures.config;
      thread = stands.thread;
      block = λ block there. record {
        runs = c.in-Ok.ensures.stop;
        most = most_counted said (loose_state loose) (loose_thread loose) (loose_events loose) stands block there;
        used = used_within said (loose_state loose) (loose_thread loose) (loose_events loose) stands block there;
      };
    }
