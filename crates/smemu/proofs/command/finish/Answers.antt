use Rattle.std.proofs.Common.{inl, inr, refl, Result, Err}
use Rattle.edge_io.specs.Sink.{SinkView}
use Rattle.edge_io.specs.declared.sink.PutFault.{PutFault}
use Rattle.edge_io.specs.declared.sink.PutFault.TheVariants.{Failed}
use Rattle.smemu.specs.Views.{WritesEnd}
use Rattle.smemu.specs.declared.answer.Answer.{Answer}
use Rattle.smemu.specs.declared.refusal.Refusal.{Refusal}
use Rattle.smemu.proofs.command.finish.Goals as goal

-- there is one fault of a sink
failed : (end : Result Answer Refusal) (before after : SinkView) (fault : PutFault) → WritesEnd end before after (Err fault)
    → WritesEnd end before after (Err Failed)
failed end before after Failed h = h

pub returns-in-Ok : goal.returns-in-Ok
returns-in-Ok g c = inl c.in-Ok.ensures

pub returns-in-Err : goal.returns-in-Err
returns-in-Err g c =
    inr (refl, failed c.args.end (g.K.Sink.view c.args.out.now) (g.K.Sink.view c.write_end.new.out) c.in-Err.field-0 c.in-Err.ensures)
