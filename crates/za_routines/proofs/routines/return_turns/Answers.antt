use Rattle.std.proofs.Common.{◌≡◌, List, ℕ, Some, subst}
use Rattle.scalar_exec.specs.Registers.{x_of}
use Rattle.paged_memory.specs.Memory.{bytes_with}
use Rattle.machine_step.specs.declared.machine.Machine.{Machine}
use Rattle.kernel_contexts.specs.Context.{state_of, config_of}
use Rattle.lazy_saving.specs.Outcome.{instructions_past}
use Rattle.za_routines.proofs.Known.{return_known}
use Rattle.za_routines.proofs.routines.return_turns.Goals as goal

pub returns : goal.returns
returns c =
    let context = c.args.context.now in
    return_known (config_of context) (state_of context) c.tail_length.result c.requires.can c.is_whole.ensures
    (subst (λ (m : Machine). (bytes : List ℕ) → bytes_with 4 m.pages.memory (x_of m.scalars 19) 16 ≡ Some bytes
    → c.tail_length.result ≡ instructions_past m.za_on bytes) c.machine.ensures c.tail_length.ensures)
