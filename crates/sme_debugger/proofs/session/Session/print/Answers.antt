use Rattle.std.proofs.Common.{refl}
use Rattle.kernel_contexts.specs.Loose.{loose_state}
use Rattle.sme_debugger.specs.Answers.{shown_text}
use Rattle.sme_debugger.specs.Session.{place_of}
use Rattle.sme_debugger.proofs.Moves.{only_failed}
use Rattle.sme_debugger.proofs.session.Session.print.Goals as goal

pub returns-in_err-write_state-clause-put : goal.returns-in_err-write_state-clause-put
returns-in_err-write_state-clause-put g c = λ _.
    let state = loose_state c.show.new.self.loose in
    record {
      place = place_of c.args.self.now;
      is = record {
        text = shown_text c.args.command state;
        answer = record { stays = refl; state = state; shown = c.in_ok-show.ensures.shown; prints = refl };
        written = only_failed _ _ _ _ c.in_err-write_state.ensures;
      };
    }
