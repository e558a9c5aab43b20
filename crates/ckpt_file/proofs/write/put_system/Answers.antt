use Rattle.std.proofs.Common.{◌≡◌, ◌++◌, ◌∷◌, [], ap, ◌∙◌}
use Rattle.bit_ops.specs.Sums.{bool_number}
use Rattle.machine_step.specs.System.{nzcv_of, svcr_of}
use Rattle.machine_step.specs.Machine.{core_of}
use Rattle.machine_step.specs.declared.machine.Machine.{Machine}
use Rattle.kernel_contexts.specs.Context.{state_of, bank_of}
use Rattle.ckpt_fields.specs.Values.{doublewords, system_values}
use Rattle.ckpt_file.proofs.Puts.{put_more, put_as}
use Rattle.ckpt_file.proofs.write.put_system.Goals as goal

pub returns : goal.returns
unfolding system_values
returns c =
    let context = c.args.context.now in
    let s = state_of context in
    let m = c.machine-machine.result.now in
    let registers = doublewords (c.flags_of.result ∷ c.read_svcr.result ∷ m.tpidr ∷ m.tpidr2 ∷ []) in
    let signals = doublewords (c.held.result ∷ c.mask.result ∷ c.number_of.result ∷ []) in
    let flags : c.flags_of.result ≡ nzcv_of s.core.scalars =
    c.flags_of.ensures ∙ ap (λ (k : Machine). nzcv_of k.scalars) c.machine-machine.ensures in
    let modes : c.read_svcr.result ≡ svcr_of s.core =
    c.read_svcr.ensures (bank_of context) ∙ ap (λ (k : Machine). svcr_of (core_of k (bank_of context))) c.machine-machine.ensures in
    let tpidr : m.tpidr ≡ s.core.tpidr = ap (λ (k : Machine). k.tpidr) c.machine-machine.ensures in
    let tpidr2 : m.tpidr2 ≡ s.core.tpidr2 = ap (λ (k : Machine). k.tpidr2) c.machine-machine.ensures in
    let polled : c.number_of.result ≡ bool_number s.polled = c.number_of.ensures ∙ ap bool_number c.polled.ensures in
    let same : registers ++ signals ≡ system_values (nzcv_of s.core.scalars)
    (svcr_of s.core) s.core.tpidr s.core.tpidr2 s.held s.mask s.polled =
    λ i. doublewords (flags i ∷ modes i ∷ tpidr i ∷ tpidr2 i ∷ c.held.ensures i ∷ c.mask.ensures i ∷ polled i ∷ []) in
    put_as (registers ++ signals) _ _ _ same
    (put_more registers signals _ _ _ c.in_ok-put_doublewords.ensures c.in_ok-put_doublewords-2.ensures)
