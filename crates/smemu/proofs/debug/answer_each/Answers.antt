use Rattle.std.proofs.Common.{◌≡◌, List, subst, sym, ◌∙◌, Result, Ok, Err}
use Rattle.std.proofs.lemmas.List.{take_all}
use Rattle.std.specs.Prelude.{IsErrAnd}
use Rattle.script_reader.specs.declared.command.DebugCommand.{DebugCommand}
use Rattle.sme_debugger.specs.Session.{recording_of, place_of}
use Rattle.sme_debugger.specs.declared.fault.DebugFault.{DebugFault}
use Rattle.smemu.specs.Debug.{AnswersEach, Leads}
use Rattle.smemu.proofs.Debugs.{answered_more, answered_until}
use Rattle.smemu.proofs.debug.answer_each.Goals as goal

-- a fault that is passed on
passed_on : (r : Result Unit DebugFault) (fault : DebugFault) (P : Result Unit DebugFault → Type 0) → IsErrAnd r (λ f. f ≡ fault)
    → P (Err fault) → P r
passed_on (Ok x) fault P is h = absurd is
passed_on (Err f) fault P is h = subst (λ (g : DebugFault). P (Err g)) (sym is) h

pub returns-in_err-run_command : goal.returns-in_err-run_command
returns-in_err-run_command g c =
    let now = c.loop-command.session in
    let until : AnswersEach (recording_of c.args.session.now) (place_of c.args.session.now) c.args.commands.now
    (g.K.Sink.view c.args.out.now) (g.K.Sink.view c.run_command.new.out) (Err c.in_err-run_command.field-0.0) =
    answered_until (recording_of c.args.session.now) (recording_of now) (place_of c.args.session.now) c.args.commands.now
    c.loop-command.command-index _ (place_of now) (g.K.Sink.view c.args.out.now) (g.K.Sink.view c.loop-command.out)
    (g.K.Sink.view c.run_command.new.out) c.loop-command-test.true c.loop-command.invariant.0 c.loop-command.invariant.1
    c.in_err-run_command.field-0.0 c.in_err-run_command.ensures.put c.in_err-run_command.ensures.memory in
    passed_on c.from_residual.result c.in_err-run_command.field-0.0
    (AnswersEach (recording_of c.args.session.now) (place_of c.args.session.now) c.args.commands.now (g.K.Sink.view c.args.out.now)
    (g.K.Sink.view c.run_command.new.out)) c.from_residual.ensures.1 until

pub loop-command-preserved : goal.loop-command-preserved
loop-command-preserved g c =
    let now = c.loop-command.session in (
      answered_more (recording_of c.args.session.now) (recording_of now) (place_of c.args.session.now) c.args.commands.now
          c.loop-command.command-index _ (place_of now) (g.K.Sink.view c.args.out.now) (g.K.Sink.view c.loop-command.out)
          (g.K.Sink.view c.run_command.new.out) c.loop-command-test.true c.loop-command.invariant.0 c.loop-command.invariant.1
          (place_of c.run_command.new.self) c.in_ok-run_command.ensures.done,
      c.in_ok-run_command.ensures.same ∙ c.loop-command.invariant.1,
    )

pub returns : goal.returns
returns g c =
    let h = c.loop-command.invariant.0 in
    let all = take_all c.loop-command.command-index c.args.commands.now c.loop-command-test.false in
    let leads =
    subst (λ (cs : List DebugCommand). Leads (recording_of c.args.session.now) (place_of c.args.session.now) cs
    (place_of c.loop-command.session) h.text) all h.leads in
    (h.text, (place_of c.loop-command.session, leads), h.writes)
