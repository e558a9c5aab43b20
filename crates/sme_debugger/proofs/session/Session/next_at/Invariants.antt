use Rattle.std.proofs.Common.{◌≡◌, ◌+◌, ◌-◌, ◌≤◌}
use Rattle.sme_debugger.specs.Answers.{NoneBetween}
use Rattle.sme_debugger.specs.Session.{recording_of, place_of}
use Rattle.sme_debugger.proofs.session.Session.next_at.Given as goal

abbrev pub invariant-counts : goal.invariant-counts
invariant-counts l = record {
  above : place_of l.initial.self ≤ l.count;
  within : l.count ≤ l.initial.self.replay.last;
  none : NoneBetween (recording_of l.initial.self) (place_of l.initial.self) (l.count + 1) l.address;
  place : place_of l.self ≡ place_of l.initial.self;
  same : recording_of l.self ≡ recording_of l.initial.self;
}

abbrev pub decreases-counts : goal.decreases-counts
decreases-counts l = l.initial.self.replay.last - l.count
