use Rattle.std.proofs.Common.{◌≡◌, ap, sym, ◌∙◌}
use Rattle.sm_types.specs.declared.version.Version.TheVariants.{One, Two}
use Rattle.sm_types.specs.Options.{version_of}
use Rattle.kernel_contexts.proofs.guest.GuestThread.set_mask.Goals as goal

pub invariant_of-self-clause-unmasked_at_first : goal.invariant_of-self-clause-unmasked_at_first
invariant_of-self-clause-unmasked_at_first c = λ first.
    let same = ap version_of c.return_with-2.ensures.same.config in
    let e : One ≡ Two = sym first ∙ same ∙ c.requires.version in
    cc
