use Rattle.std.proofs.Common.{◌≡◌, List, ℕ, Some, subst}
use Rattle.paged_memory.specs.Memory.{bytes_with}
use Rattle.machine_step.specs.declared.machine.Machine.{Machine}
use Rattle.kernel_contexts.specs.Context.{state_of, config_of}
use Rattle.lazy_saving.specs.Outcome.{disable_length}
use Rattle.za_routines.proofs.Known.{disable_known}
use Rattle.za_routines.proofs.routines.disable_turns.Goals as goal

pub returns : goal.returns
returns c =
    let context = c.args.context.now in
    disable_known (config_of context) (state_of context) c.disable_length.result c.requires.can c.is_whole.ensures
    (subst (λ (m : Machine). (bytes : List ℕ) → bytes_with 4 m.pages.memory m.tpidr2 16 ≡ Some bytes
    → c.disable_length.result ≡ disable_length bytes) c.machine.ensures c.disable_length.ensures)
