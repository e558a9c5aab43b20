use Rattle.std.proofs.Common.{◌≡◌, ◌≤◌, None}
use Rattle.kernel_contexts.specs.Loose.{loose_state, loose_stop}
use Rattle.lone_runner.specs.Resumed.{HasLooseTicket}
use Rattle.sme_debugger.specs.Recording.{Recording}
use Rattle.sme_debugger.specs.Standing.{IsKeeping}
use Rattle.sme_debugger.proofs.replay.keep_on_the_way.Given as goal

abbrev pub invariant-states : goal.invariant-states
invariant-states l = record {
  keeping : (r : Recording) → IsKeeping r l.initial.later.items l.initial.loose l.initial.ticket
      → IsKeeping r l.later.items l.loose l.ticket;
  held : HasLooseTicket l.loose l.ticket;
  runs : loose_stop l.loose ≡ None;
  most : (loose_state l.loose).count ≤ l.next;
  within : l.next ≤ l.count;
}
