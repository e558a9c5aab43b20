-- The state and the block that a view shows.
use Rattle.std.specs.Prelude.{ℕ, List}
use Rattle.sm_types.specs.declared.version.Version.{Version}
use Rattle.mem_access.specs.Bank.{bank_state}
use Rattle.machine_step.specs.Machine.{core_of}
use Rattle.kernel_contexts.specs.State.{State}
use Rattle.kernel_contexts.specs.HandlerTable.{handlers_of}
use Rattle.report_text.specs.Block.{block_text}
use Rattle.report_text.specs.declared.view.BlockView.{BlockView}
use Rattle.report_text.specs.declared.view.StateView.{StateView}

abbrev pub state_seen : StateView → State
state_seen view = record {
  core = core_of view.machine.now (bank_state view.bank.now);
  handlers = handlers_of view.handlers.now;
  held = view.held;
  mask = view.mask;
  depth = view.depth;
  polled = view.polled;
  output = view.output.now;
  count = view.count;
  turns = view.turns;
}

-- in a version of the report
abbrev pub block_seen : Version → BlockView → List ℕ
block_seen version view =
    block_text version view.thread (state_seen view.state) view.stop view.journal.now
