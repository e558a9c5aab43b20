-- Some turns, one after the other, each of which goes on and asks nothing.
use Rattle.std.specs.Prelude.{◌≡◌, ◌&&◌, Bool, false, ℕ, zero, suc, ◌+◌}
use Rattle.sm_types.specs.declared.config.Config.{Config}
use Rattle.machine_step.specs.ProcessorState.{ProcessorState}
use Rattle.machine_step.specs.Several.{halts_in}
use Rattle.kernel_contexts.specs.State.{State}
use Rattle.kernel_contexts.specs.Call.{Goes}
use Rattle.kernel_contexts.specs.Needs.{needs_vectors}
use Rattle.kernel_contexts.specs.Turn.{turn_of}

-- whether a run that is told to halt before these words at these addresses does before the instruction at PC
abbrev pub halts_before : (ℕ → ℕ → Bool) → State → Bool
halts_before halts s = halts_in halts s.core.memory s.core.scalars.pc

-- it is told to halt before none
abbrev pub never : ℕ → ℕ → Bool
never pc word = false

-- so many turns of the thread of that number, with so many events of its journal, take one state to the
-- other; of a thread that is kept off its vectors none reads or writes them; and it was told to halt before
-- none
abbrev pub GoesApart : (ℕ → ℕ → Bool) → Bool → Config → ℕ → ℕ → ℕ → State → State → Type 0
GoesApart halts apart config thread events zero old new = new ≡ old
GoesApart halts apart config thread events (suc n) old new =
    (before : State)
    × GoesApart halts apart config thread events n old before
    × (turn_of config thread events before ≡ Goes new)
    × ((apart && needs_vectors config before) ≡ false)
    × (halts_before halts before ≡ false)

-- the same of a thread that is not kept off them, and that nothing was told to halt
abbrev pub GoesBy : Config → ℕ → ℕ → ℕ → State → State → Type 0
GoesBy config thread events n old new = GoesApart never false config thread events n old new

-- so many instructions are counted, each with its turn, after which the core is so
abbrev pub counted_by : ℕ → State → ProcessorState → State
counted_by n s core = record s { core = core; count = s.count + n; turns = s.turns + n }
