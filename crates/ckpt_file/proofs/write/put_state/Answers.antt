use Rattle.std.proofs.Common.{◌≡◌, ◌++◌, ap, sym, ◌∙◌}
use Rattle.std.specs.FinMap.{FinMap, entries}
use Rattle.std.specs.Ordering.{nat_cmp}
use Rattle.std.proofs.Common.{ℕ}
use Rattle.machine_step.specs.System.{nzcv_of, svcr_of}
use Rattle.machine_step.specs.declared.machine.Machine.{Machine}
use Rattle.mem_access.specs.declared.bank.Bank.{Bank}
use Rattle.kernel_contexts.proofs.HandlerTable.{handlers_in_order}
use Rattle.kernel_contexts.specs.HandlerTable.{set_from}
use Rattle.kernel_contexts.specs.Context.{state_of}
use Rattle.ckpt_fields.specs.Values.{system_values, handler_values, output_values, page_values}
use Rattle.ckpt_file.specs.Checkpoint.{register_values, vector_values, array_values, pages_in, state_values}
use Rattle.ckpt_file.proofs.Puts.{put_more, put_as}
use Rattle.ckpt_file.proofs.write.put_state.Goals as goal

pub returns : goal.returns
unfolding state_values
returns c =
    let s = state_of c.args.context.now in
    let m = c.machine-machine.result.now in
    let b = c.bank-bank.result.now in
    let system = system_values (nzcv_of s.core.scalars) (svcr_of s.core) s.core.tpidr s.core.tpidr2 s.held s.mask s.polled in
    let registers = register_values m.scalars in
    let vectors = vector_values b.vectors.registers in
    let array = array_values m.za_on b.za.vectors in
    let handlers = handler_values (set_from 0 c.handlers.result.now) in
    let output = output_values c.output.result.now in
    let pages = page_values (pages_in m.pages.memory) in
    let same_registers : registers ≡ register_values s.core.scalars =
    ap (λ (k : Machine). register_values k.scalars) c.machine-machine.ensures in
    let same_vectors : vectors ≡ vector_values s.core.bank.registers =
    ap (λ (k : Bank). vector_values k.vectors.registers) c.bank-bank.ensures.value in
    let same_array : array ≡ array_values s.core.za_on s.core.bank.za =
    ap (λ (k : Machine). array_values k.za_on b.za.vectors) c.machine-machine.ensures
    ∙ ap (λ (k : Bank). array_values s.core.za_on k.za.vectors) c.bank-bank.ensures.value in
    let same_handlers : handlers ≡ handler_values (entries s.handlers) =
    ap handler_values (sym (handlers_in_order c.handlers.result.now) ∙ ap (λ (f : FinMap nat_cmp ℕ). entries f) c.handlers.ensures.value) in
    let same_output : output ≡ output_values s.output = ap output_values c.output.ensures in
    let same_pages : pages ≡ page_values (pages_in s.core.memory) =
    ap (λ (k : Machine). page_values (pages_in k.pages.memory)) c.machine-machine.ensures in
    let same : registers ++ (system ++ (vectors ++ (array ++ (handlers ++ (output ++ pages))))) ≡ state_values s =
    λ i. same_registers i ++ (system ++ (same_vectors i ++ (same_array i ++ (same_handlers i ++ (same_output i ++ same_pages i))))) in
    put_as (registers ++ (system ++ (vectors ++ (array ++ (handlers ++ (output ++ pages)))))) (state_values s) _ _ same
    (put_more registers (system ++ (vectors ++ (array ++ (handlers ++ (output ++ pages))))) _ _ _ c.in_ok-put_registers.ensures
    (put_more system (vectors ++ (array ++ (handlers ++ (output ++ pages)))) _ _ _ c.in_ok-put_system.ensures
    (put_more vectors (array ++ (handlers ++ (output ++ pages))) _ _ _ c.in_ok-put_vector_registers.ensures
    (put_more array (handlers ++ (output ++ pages)) _ _ _ c.in_ok-put_array_if.ensures
    (put_more handlers (output ++ pages) _ _ _ c.in_ok-put_handlers.ensures
    (put_more output pages _ _ _ c.in_ok-put_output.ensures c.in_ok-put_pages.ensures))))))
