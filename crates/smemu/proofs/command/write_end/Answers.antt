use Rattle.std.proofs.Common.{rules, refl, Err}
use Rattle.command_lines.specs.declared.status.Status.TheVariants.{Done}
use Rattle.smemu.specs.Views.{answer_text, refusal_status, refusal_text, WritesEnd}
use Rattle.smemu.proofs.command.write_end.Goals as goal

pub returns-in_err-write_text-in-Ok-Text : goal.returns-in_err-write_text-in-Ok-Text
returns-in_err-write_text-in-Ok-Text g c =
    let ends : WritesEnd c.args.end (g.K.Sink.view c.args.out.now) (g.K.Sink.view c.write_text.new.out)
    (Err c.in_err-write_text-in-Ok-Text.field-0.0) =
    rw (c.in-Ok-Text.is, c.in-Ok-Text.field-0-is)
    (Done, answer_text c.in-Ok-Text.text, (refl, refl), c.in_err-write_text-in-Ok-Text.ensures) in
    search rules

pub returns-in_err-write_refusal-in-Err : goal.returns-in_err-write_refusal-in-Err
returns-in_err-write_refusal-in-Err g c =
    let ends : WritesEnd c.args.end (g.K.Sink.view c.args.out.now) (g.K.Sink.view c.write_refusal.new.out)
    (Err c.in_err-write_refusal-in-Err.field-0.0) =
    rw c.in-Err.is
    (refusal_status c.in-Err.refusal, refusal_text c.in-Err.refusal, (refl, refl), c.in_err-write_refusal-in-Err.ensures) in
    search rules
