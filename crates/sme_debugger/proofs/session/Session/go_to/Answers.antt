use Rattle.std.proofs.Common.{◌<◌, ◌≤◌, arith, sym, subst}
use Rattle.sme_debugger.specs.Answers.{Goes, end_text}
use Rattle.sme_debugger.proofs.Moves.{goes_there, goes_past, silent, only_failed, on_err}
use Rattle.sme_debugger.proofs.session.Session.go_to.Goals as goal

pub returns-then-aim-from-clause-done : goal.returns-then-aim-from-clause-done
returns-then-aim-from-clause-done g c =
    let last = c.args.self.now.replay.last in
    let past : last < c.args.aim = omega (arith, c.from.ensures, c.if-aim-from.true) in
    record {
      text = end_text last;
      answer = subst (λ n. Goes last c.args.aim n (end_text last)) (sym c.in_ok-end.ensures.done) (goes_past last c.args.aim past);
      written = c.in_ok-end.ensures.written;
    }

pub returns-clause-done : goal.returns-clause-done
returns-clause-done g c =
    let last = c.args.self.now.replay.last in
    let within : c.args.aim ≤ last = omega (arith, c.from.ensures, c.if-aim-from.false) in
    silent (Goes last c.args.aim) c.args.aim _ (goes_there last c.args.aim within)

pub returns-in_err-end-clause-put : goal.returns-in_err-end-clause-put
returns-in_err-end-clause-put g c =
    let last = c.args.self.now.replay.last in
    let past : last < c.args.aim = omega (arith, c.from.ensures, c.if-aim-from.true) in
    on_err c.from_residual.result (record {
      place = last;
      is = record {
        text = end_text last;
        answer = goes_past last c.args.aim past;
        written = only_failed _ _ _ _ c.in_err-end.ensures.written;
      };
    })
