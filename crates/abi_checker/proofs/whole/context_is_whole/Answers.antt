use Rattle.std.proofs.Common.{◌≡◌, ◌≤◌, ◌∙◌, ap, length, subst}
use Rattle.paged_memory.specs.Memory.{IsWhole}
use Rattle.sve_vectors.specs.Lengths.{vector_bytes}
use Rattle.za_array.specs.Array.{IsSquare}
use Rattle.mem_access.specs.declared.bank.Bank.{Bank}
use Rattle.machine_step.specs.declared.machine.Machine.{Machine}
use Rattle.kernel_contexts.specs.Context.{state_of, config_of, save_area_of}
use Rattle.abi_checker.proofs.WholeStates.{whole_with}
use Rattle.abi_checker.proofs.whole.context_is_whole.Goals as goal

pub returns : goal.returns
returns c =
    let context = c.args.context.now in
    let area = save_area_of context in
    let lengths = context.fits.lengths in
    let size = ap vector_bytes (area.one_length ∙ lengths.svl) in
    whole_with (state_of context).core (vector_bytes (config_of context).svl)
    (subst (λ (m : Machine). IsWhole m.pages.memory) c.machine.ensures c.machine_is_whole.ensures.pages)
    (subst (λ (m : Machine). length m.scalars.x ≡ 31) c.machine.ensures c.machine_is_whole.ensures.registers)
    (subst (λ n. IsSquare n area.za.vectors) size
    (subst (λ (b : Bank). IsSquare (vector_bytes b.za.svl) b.za.vectors) c.bank-bank.ensures.value c.array_is_square.ensures.square))
    (subst (λ n. n ≤ 256) size
    (subst (λ (b : Bank). vector_bytes b.za.svl ≤ 256) c.bank-bank.ensures.value c.array_is_square.ensures.short))
