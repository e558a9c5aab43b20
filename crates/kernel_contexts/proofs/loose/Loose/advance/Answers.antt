use Rattle.std.proofs.Common.{length, ap, ◌∙◌, arith, length-append}
use Rattle.kernel_contexts.specs.Context.{guest_made}
use Rattle.kernel_contexts.proofs.loose.Loose.advance.Goals as goal

pub returns : goal.returns
returns g c =
    let old = c.args.self.now.guest in
    let e = c.advance.ensures in
    record {
      turn = e.turn;
      memory = e.memory;
      goes = e.goes;
      owned = e.owned;
      grows = omega (arith, e.same.earlier, ap length e.grows, length-append old.journal.items (guest_made old c.advance.new.self));
      gives = e.gives;
      same = record { config = e.same.config; thread = e.same.number };
      home = tt;
      made = e.made;
      yielded = e.yielded;
      budget = e.budget;
      few = e.few;
    }

pub invariant_of-self : goal.invariant_of-self
invariant_of-self g c =
    let back = c.advance.ensures.home in
    record {
      fits = record {
        lengths = back.fit.lengths;
        mode = λ home. back.fit.mode;
        owner = back.same.owner ∙ c.args.self.now.fits.owner;
      };
    }
