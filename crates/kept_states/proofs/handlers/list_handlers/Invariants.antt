use Rattle.std.proofs.Common.{◌≡◌, ◌<◌, ◌++◌, map, All}
use Rattle.std.specs.FinMap.{entries}
use Rattle.kernel_contexts.specs.HandlerTable.{handlers_of}
use Rattle.kernel_contexts.specs.LooseState.{AreHandlers, handler_entry}
use Rattle.kept_states.proofs.HandlerLists.{rest_from}
use Rattle.kept_states.proofs.handlers.list_handlers.Given as goal

abbrev pub invariant-loop-signal : goal.invariant-loop-signal
invariant-loop-signal l = record {
  good : AreHandlers l.list.items;
  lower : All (λ h. h.signal < l.signal) l.list.items;
  done : map handler_entry l.list.items ++ rest_from l.addresses l.signal ≡ entries (handlers_of l.addresses);
}
