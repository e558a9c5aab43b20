use Rattle.kernel_contexts.proofs.laws.masks_go_by_the_version.Goals as goal

pub returns-clause-depth : goal.returns-clause-depth
returns-clause-depth c = λ context. context.guest.depth_within

pub returns-clause-mask : goal.returns-clause-mask
returns-clause-mask c = λ context. context.guest.unmasked_at_first
