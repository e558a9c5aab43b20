-- The view of a guest thread, wherever its vectors are.
use Rattle.std.specs.Prelude.{ℕ, List, Option, length}
use Rattle.sm_types.specs.declared.config.Config.{Config}
use Rattle.sm_types.specs.declared.shared_op.Event.{Event}
use Rattle.sm_types.specs.declared.stop.Stop.{Stop}
use Rattle.mem_access.specs.declared.bank.Bank.{Bank}
use Rattle.paged_memory.specs.Image.{Program}
use Rattle.kernel_contexts.specs.State.{State}
use Rattle.kernel_contexts.specs.Call.{TurnEnd}
use Rattle.kernel_contexts.specs.Turn.{turn_of}
use Rattle.kernel_contexts.specs.Context.{image_of, config_of, thread_of, state_of, state_on, stop_of}
use Rattle.kernel_contexts.specs.Context.{journal_of}
use Rattle.kernel_contexts.specs.declared.context.Context.{Context}

-- the program, the options and the number with which it started, its plain state, why it stopped, if it has,
-- and its journal
pub record Guest : Type 0 where
  pub program : Program
  pub config : Config
  pub number : ℕ
  pub state : State
  pub stop : Option Stop
  pub journal : List Event

-- the guest thread of a context, with this as its plain state
abbrev pub guest_with : Context → State → Guest
guest_with c s = record {
  program = image_of c;
  config = config_of c;
  number = thread_of c;
  state = s;
  stop = stop_of c;
  journal = journal_of c;
}

-- the guest thread of a context that is home: its vectors are in its save area
abbrev pub guest_of : Context → Guest
guest_of c = guest_with c (state_of c)

-- the guest thread of a context whose vectors are in the bank of a core where its thread owns that bank, else
-- in its save area
abbrev pub guest_on : Bank → Context → Guest
guest_on bank c = guest_with c (state_on c bank)

-- the turn that it makes next, where it has not stopped
abbrev pub next_turn : Guest → TurnEnd
next_turn g = turn_of g.config g.number (length g.journal) g.state
