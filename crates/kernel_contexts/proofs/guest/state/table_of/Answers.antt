use Rattle.std.proofs.Common.{ap, ◌∙◌}
use Rattle.std.specs.FinMap.{entries}
use Rattle.kernel_contexts.proofs.HandlerTable.{none_in_order}
use Rattle.kernel_contexts.proofs.LooseParts.{no_handler, handlers_more, signal_below}
use Rattle.kernel_contexts.proofs.guest.state.table_of.Goals as goal

pub loop-handler-init : goal.loop-handler-init
loop-handler-init c = record { set = ap entries c.no_handlers-addresses.ensures ∙ none_in_order }

pub set_handler-requires : goal.set_handler-requires
set_handler-requires c = signal_below _ (c.requires.each c.loop-handler.handler-index no_handler c.loop-handler-test.true).signal

pub loop-handler-preserved : goal.loop-handler-preserved
loop-handler-preserved c = record {
  set = handlers_more _ _ c.args.handlers.now c.loop-handler.handler-index no_handler c.requires c.loop-handler-test.true
      c.set_handler.ensures c.loop-handler.invariant.set;
}
