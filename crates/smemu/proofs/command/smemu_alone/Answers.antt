use Rattle.std.proofs.Common.{map}
use Rattle.std.specs.String.{string_bytes}
use Rattle.cmd_words.specs.Words.{command_of}
use Rattle.edge_io.specs.Cause.{Rose}
use Rattle.smemu.specs.Ends.{call}
use Rattle.smemu.specs.Requests.{reached_asked}
use Rattle.smemu.proofs.Ends.{status_complete, status_done, status_fetched, status_refused, memory_status}
use Rattle.smemu.proofs.command.smemu_alone.Goals as goal

pub returns-clause-done : goal.returns-clause-done
returns-clause-done g c =
    status_done (call g.F.Files.view g.K.Sink.view c.args.words.now c.args.files.now c.answer_words.new.files c.args.out.now
    c.finish.new.out) c.in_ok-ended.ended c.finish.result c.in_ok-ended.ensures.ends c.finish.ensures

pub returns-clause-refused : goal.returns-clause-refused
returns-clause-refused g c =
    status_refused (call g.F.Files.view g.K.Sink.view c.args.words.now c.args.files.now c.answer_words.new.files c.args.out.now
    c.finish.new.out) c.in_ok-ended.ended c.finish.result c.in_ok-ended.ensures.ends c.finish.ensures

pub returns-clause-complete : goal.returns-clause-complete
returns-clause-complete g c =
    status_complete (call g.F.Files.view g.K.Sink.view c.args.words.now c.args.files.now c.answer_words.new.files c.args.out.now
    c.finish.new.out) c.in_ok-ended.ended c.finish.result c.in_ok-ended.ensures.ends c.finish.ensures

pub returns-clause-several : goal.returns-clause-several
returns-clause-several g c =
    λ request asks takes. memory_status (g.K.Sink.view c.args.out.now) (g.K.Sink.view c.finish.new.out) c.in_ok-ended.ended
    c.finish.result (c.in_ok-ended.ensures.several request asks takes) c.finish.ensures

pub returns-clause-fetched : goal.returns-clause-fetched
returns-clause-fetched g c =
    status_fetched g.F.Files.fetched (g.F.Files.view c.args.files.now).told
    (Rose (g.F.Files.view c.args.files.now).faults (g.F.Files.view c.answer_words.new.files).faults)
    (reached_asked (g.F.Files.view c.args.files.now).told (command_of (map string_bytes c.args.words.now)))
    c.args.files.now c.answer_words.new.files c.in_ok-ended.ended (g.K.Sink.view c.args.out.now) (g.K.Sink.view c.finish.new.out)
    c.finish.result c.finish.ensures c.in_ok-ended.ensures.fetched
