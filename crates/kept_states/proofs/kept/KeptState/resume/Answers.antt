use Rattle.std.proofs.Common.{Result, Ok, Err}
use Rattle.std.specs.Prelude.{IfOk}
use Rattle.sm_types.specs.declared.Memory.{Memory}
use Rattle.kernel_contexts.specs.Loose.{loose_state}
use Rattle.kernel_contexts.specs.LooseState.{HasFields}
use Rattle.kernel_contexts.specs.declared.loose.Loose.{Loose}
use Rattle.kept_states.specs.Kept.{Keeps, kept_config}
use Rattle.kept_states.proofs.kept.KeptState.resume.Goals as goal

if_ok : (r : Result Loose Memory) (P Q : Loose → Type 0) → ((x : Loose) → P x → Q x) → IfOk r P → IfOk r Q
if_ok (Ok x) P Q f h = f x h
if_ok (Err e) P Q f h = tt

pub returns-clause-state : goal.returns-clause-state
returns-clause-state c =
    let k = c.args.self.now in
    if_ok c.from_state.result (λ l. HasFields (kept_config k) c.in-Ok.fields (loose_state l)) (λ l. Keeps k (loose_state l))
    (λ l h. c.in-Ok.ensures.same (loose_state l) h) c.from_state.ensures.state
