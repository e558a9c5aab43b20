use Rattle.std.proofs.Common.{sym, subst, Option}
use Rattle.std.specs.Prelude.{IfNone}
use Rattle.sm_types.specs.declared.config.Config.{Config}
use Rattle.kernel_contexts.specs.State.{State, start_state}
use Rattle.kernel_contexts.specs.Context.{config_of, state_of}
use Rattle.kept_states.specs.Fields.{MayBeKept}
use Rattle.kept_states.specs.declared.kept.KeptState.{KeptState}
use Rattle.sme_debugger.proofs.Starting.{start_kept}
use Rattle.sme_debugger.proofs.replay.keep_start.Goals as goal

pub unreachable-requires : goal.unreachable-requires
unreachable-requires c =
    let context = c.in_ok-context.context in
    let e = c.in_ok-context.ensures in
    subst (λ (o : Option KeptState). IfNone o (MayBeKept (config_of context) (state_of context) → ⊥)) c.in-None.is
    c.in_ok-found.ensures.none
    (subst (λ (s : State). MayBeKept (config_of context) s) (sym e.state)
    (subst (λ (k : Config). MayBeKept k (start_state c.args.image.now c.args.config.now c.args.thread)) (sym e.config)
    (start_kept c.args.image.now c.args.config.now c.args.thread c.requires.private)))
