use Rattle.smemu.proofs.Debugs.{cut_answers}
use Rattle.smemu.proofs.debug.write_session.Goals as goal

pub returns-in-Err-Put : goal.returns-in-Err-Put
returns-in-Err-Put g c =
    cut_answers c.args.it (g.K.Sink.view c.args.out.now) (g.K.Sink.view c.answer_each.new.out)
    (rw (c.in-Err-Put.field-0-is, c.as_slice.ensures.value) at c.in-Err-Put.ensures)
