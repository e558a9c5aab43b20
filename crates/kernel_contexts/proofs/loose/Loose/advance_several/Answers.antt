use Rattle.std.proofs.Common.{◌+◌, length, ◌∙◌}
use Rattle.kernel_contexts.proofs.loose.Loose.advance_several.Goals as goal

pub returns : goal.returns
returns g c =
    let e = c.make_several_turns.ensures in
    record {
      turns = e.turns;
      few = e.few;
      halted = e.halted;
      owned = e.owned;
      count = e.count;
      made = e.made;
      stop = e.stop ∙ c.requires;
      journal = e.same.journal;
      events = λ i. e.same.earlier i + length (e.same.journal i);
      same = record { config = e.same.config; thread = e.same.number };
      home = tt;
    }

pub invariant_of-self : goal.invariant_of-self
invariant_of-self g c =
    let back = c.make_several_turns.ensures.back in
    record {
      fits = record {
        lengths = back.fit.lengths;
        mode = λ home. back.fit.mode;
        owner = back.same.owner ∙ c.args.self.now.fits.owner;
      };
    }
