use Rattle.std.proofs.Common.{◌≡◌, ◌-◌, List, None}
use Rattle.sm_types.specs.declared.shared_op.Event.{Event}
use Rattle.shared_region.specs.Ports.{ReplayEvents}
use Rattle.kernel_contexts.specs.Context.{state_of, config_of, image_of, thread_of}
use Rattle.abi_checker.specs.Following.{GoesFar, IsFollowed}
use Rattle.abi_checker.proofs.check.go_at_once.Given as goal

abbrev pub invariant-rounds : goal.invariant-rounds
invariant-rounds l = record {
  far : GoesFar l.initial.context l.context;
  followed : (journal : List Event) (ticket : ReplayEvents)
      → IsFollowed (image_of l.initial.context) (config_of l.initial.context) (thread_of l.initial.context) journal l.count
      l.initial.context ticket l.initial.watch None
      → IsFollowed (image_of l.initial.context) (config_of l.initial.context) (thread_of l.initial.context) journal l.count
      l.context ticket l.watch None;
  none : l.found ≡ None;
}

abbrev pub decreases-rounds : goal.decreases-rounds
decreases-rounds l = l.count - (state_of l.context).count
