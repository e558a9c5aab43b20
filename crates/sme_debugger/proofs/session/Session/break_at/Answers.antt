use Rattle.std.proofs.Common.{◌≡◌, ℕ, inl, inr, refl, ap, ◌∙◌, subst, Option}
use Rattle.std.specs.Prelude.{MatchOption}
use Rattle.sme_debugger.specs.Recording.{Recording}
use Rattle.sme_debugger.specs.Answers.{Breaks, IsNext, HasNone, end_text}
use Rattle.sme_debugger.specs.Session.{recording_of, place_of}
use Rattle.sme_debugger.proofs.Moves.{silent, only_failed}
use Rattle.sme_debugger.proofs.session.Session.break_at.Goals as goal

pub returns-in-Some-clause-done : goal.returns-in-Some-clause-done
returns-in-Some-clause-done g c =
    let r = recording_of c.args.self.now in
    let from = place_of c.args.self.now in
    silent (Breaks r from c.args.address) c.in-Some.count _
    (inl (
      subst (λ (o : Option ℕ). MatchOption o (HasNone r from c.args.address) (IsNext r from c.args.address)) c.in-Some.is
          c.in_ok-count.ensures.next,
      refl,
    ))

pub returns-in_ok-end-in-None-clause-done : goal.returns-in_ok-end-in-None-clause-done
returns-in_ok-end-in-None-clause-done g c =
    let r = recording_of c.args.self.now in
    let from = place_of c.args.self.now in
    let none = subst (λ (o : Option ℕ). MatchOption o (HasNone r from c.args.address) (IsNext r from c.args.address)) c.in-None.is
    c.in_ok-count.ensures.next in
    let last : c.next_at.new.self.replay.last ≡ r.last = ap (λ (q : Recording). q.last) c.in_ok-count.ensures.same in
    record {
      text = end_text c.next_at.new.self.replay.last;
      answer = inr (none, c.in_ok-end-in-None.ensures.done ∙ last, ap end_text last);
      written = c.in_ok-end-in-None.ensures.written;
    }

pub returns-in_err-end-in-None-clause-put : goal.returns-in_err-end-in-None-clause-put
returns-in_err-end-in-None-clause-put g c = λ _.
    let r = recording_of c.args.self.now in
    let from = place_of c.args.self.now in
    let none = subst (λ (o : Option ℕ). MatchOption o (HasNone r from c.args.address) (IsNext r from c.args.address)) c.in-None.is
    c.in_ok-count.ensures.next in
    let last : c.next_at.new.self.replay.last ≡ r.last = ap (λ (q : Recording). q.last) c.in_ok-count.ensures.same in
    record {
      place = r.last;
      is = record {
        text = end_text c.next_at.new.self.replay.last;
        answer = inr (none, refl, ap end_text last);
        written = only_failed _ _ _ _ c.in_err-end-in-None.ensures.written;
      };
    }
