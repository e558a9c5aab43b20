use Rattle.std.proofs.Common.{ℕ, List, Ok, Err, subst}
use Rattle.std.specs.Prelude.{OnOk}
use Rattle.edge_io.specs.declared.sink.PutFault.TheVariants.{Failed}
use Rattle.sme_debugger.specs.Answers.{IsWritten, IsPartWritten}
use Rattle.sme_debugger.specs.Session.{recording_of, place_of}
use Rattle.sme_debugger.proofs.Moves.{prints_what_it_shows}
use Rattle.sme_debugger.proofs.session.Session.run_command.Goals as goal

pub returns-in_default : goal.returns-in_default
returns-in_default g c =
    let d = c.in_default in
    let before = g.K.Sink.view c.args.out.now in
    let after = g.K.Sink.view c.print.new.out in
    let prints = prints_what_it_shows (recording_of c.args.self.now) (place_of c.args.self.now) c.args.command.now d.not-Step
    d.not-Back d.not-Goto d.not-Break in
    record {
      done = subst (λ (a : ℕ → List ℕ → Type 0). OnOk c.print.result (IsWritten a (place_of c.print.new.self) before after (Ok tt))) prints
          c.print.ensures.done;
      put = λ failed. subst (λ (a : ℕ → List ℕ → Type 0). IsPartWritten a before after (Err Failed)) prints (c.print.ensures.put failed);
      memory = c.print.ensures.memory;
      stays = c.print.ensures.stays;
      same = c.print.ensures.same;
    }
