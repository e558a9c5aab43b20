use Rattle.std.proofs.Common.{◌≡◌, map, take}
use Rattle.std.specs.FinMap.{entries}
use Rattle.kernel_contexts.specs.HandlerTable.{handlers_of}
use Rattle.kernel_contexts.specs.LooseState.{handler_entry}
use Rattle.kernel_contexts.proofs.guest.state.table_of.Given as goal

abbrev pub invariant-loop-handler : goal.invariant-loop-handler
invariant-loop-handler l = record {
  set : entries (handlers_of l.addresses) ≡ map handler_entry (take l.handler-index l.handlers);
}
