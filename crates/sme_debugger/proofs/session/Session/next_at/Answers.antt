use Rattle.std.proofs.Common.{◌≡◌, ◌+◌, arith, refl, sym, ap, subst, ◌∙◌}
use Rattle.kernel_contexts.specs.Loose.{loose_state}
use Rattle.machine_step.specs.declared.machine.Machine.{Machine}
use Rattle.sme_debugger.specs.Recording.{Recording, Shows}
use Rattle.sme_debugger.specs.Answers.{NoneBetween}
use Rattle.sme_debugger.specs.Replayed.{NoneFrom}
use Rattle.sme_debugger.specs.Session.{recording_of, place_of}
use Rattle.sme_debugger.proofs.Ahead.{none_so_far}
use Rattle.sme_debugger.proofs.Recorded.{none_at_first, none_more}
use Rattle.sme_debugger.proofs.session.Session.next_at.Goals as goal

pub counts-init : goal.counts-init
counts-init c = record {
  above = omega arith;
  within = c.args.self.now.within;
  none = none_at_first (recording_of c.args.self.now) (place_of c.args.self.now) c.args.address;
  place = refl;
  same = refl;
}

pub show-requires : goal.show-requires
show-requires c =
    let last : c.counts.self.replay.last ≡ c.args.self.now.replay.last = ap (λ (r : Recording). r.last) c.counts.invariant.same in
    let less = c.counts-test.true in omega (arith, last, less)

pub run_towards-count-requires-clause-last : goal.run_towards-count-requires-clause-last
run_towards-count-requires-clause-last c =
    let last = ap (λ (r : Recording). r.last) (c.in_ok-show.ensures.same ∙ c.counts.invariant.same) in
    let less = c.counts-test.true in omega (arith, last, less)

pub returns-then-machine-address-clause-next : goal.returns-then-machine-address-clause-next
returns-then-machine-address-clause-next c =
    let h = c.counts.invariant in
    let e = c.run_towards-count.ensures in
    let same = c.in_ok-show.ensures.same ∙ h.same in
    let last = ap (λ (r : Recording). r.last) same in
    let above = h.above in
    let over = e.above in
    let within = e.within in
    let count = c.run_towards-count.result in
    let new = c.run_towards-count.new.self in
    record {
      above = omega (arith, above, over);
      within = omega (arith, within, last);
      state = loose_state new.loose;
      shown = subst (λ (r : Recording). Shows r count (loose_state new.loose)) same e.shown;
      there = ap (λ (m : Machine). m.scalars.pc) (sym c.machine.ensures) ∙ c.if-machine-address.true;
      first = none_so_far (recording_of c.args.self.now) (place_of c.args.self.now) (c.counts.count + 1) count c.args.address h.none
          (subst (λ (r : Recording). NoneFrom r (c.counts.count + 1) count c.args.address) same e.none);
    }

pub counts-preserved : goal.counts-preserved
counts-preserved c =
    let h = c.counts.invariant in
    let e = c.run_towards-count.ensures in
    let same = c.in_ok-show.ensures.same ∙ h.same in
    let last = ap (λ (r : Recording). r.last) same in
    let above = h.above in
    let over = e.above in
    let within = e.within in
    let count = c.run_towards-count.result in
    let new = c.run_towards-count.new.self in
    let so_far = none_so_far (recording_of c.args.self.now) (place_of c.args.self.now) (c.counts.count + 1) count c.args.address h.none
    (subst (λ (r : Recording). NoneFrom r (c.counts.count + 1) count c.args.address) same e.none) in
    record {
      above = omega (arith, above, over);
      within = omega (arith, within, last);
      none = none_more (recording_of c.args.self.now) (place_of c.args.self.now) count c.args.address (loose_state new.loose) so_far
          (subst (λ (r : Recording). Shows r count (loose_state new.loose)) same e.shown)
          (λ there. c.if-machine-address.false (ap (λ (m : Machine). m.scalars.pc) c.machine.ensures ∙ there));
      place = h.place;
      same = e.same ∙ same;
    }

pub returns-clause-next : goal.returns-clause-next
returns-clause-next c =
    let h = c.counts.invariant in
    let within = h.within in
    let past = c.counts-test.false in
    let all : c.counts.count ≡ c.args.self.now.replay.last = omega (arith, within, past) in
    subst (λ n. NoneBetween (recording_of c.args.self.now) (place_of c.args.self.now) (n + 1) c.args.address) all h.none
