use Rattle.std.proofs.Common.{◌≡◌, ◌++◌, ap, ◌∙◌, length}
use Rattle.std.specs.List.{concat}
use Rattle.sm_types.specs.Options.{numbers_of}
use Rattle.sm_types.specs.declared.config.Config.{Config}
use Rattle.kernel_contexts.specs.Context.{state_of, config_of, thread_of, journal_of}
use Rattle.ckpt_fields.specs.Values.{first_values, thread_values}
use Rattle.ckpt_file.specs.Checkpoint.{checkpoint, checkpoint_values, state_values}
use Rattle.ckpt_file.proofs.Puts.{put_more, put_as}
use Rattle.ckpt_file.proofs.write.written.Goals as goal

pub returns : goal.returns
unfolding checkpoint checkpoint_values
returns c =
    let context = c.args.context.now in
    let image = c.args.image.now in
    let s = state_of context in
    let thread = thread_values (thread_of context) s.count (length (journal_of context)) s.depth s.turns in
    let first = first_values image (numbers_of c.config.result.now) in
    let put = put_more first (thread ++ state_values s) _ _ _ c.in_ok-put_first.ensures
    (put_more thread (state_values s) _ _ _ c.in_ok-put_progress.ensures c.in_ok-put_state.ensures) in
    let same : first ++ (thread ++ state_values s) ≡ first_values image (numbers_of (config_of context)) ++ (thread ++ state_values s) =
    ap (λ (k : Config). first_values image (numbers_of k) ++ (thread ++ state_values s)) c.config.ensures in
    put_as (first ++ (thread ++ state_values s)) _ _ _ same put
    ∙ ap (λ l. l ++ concat (first_values image (numbers_of (config_of context)) ++ (thread ++ state_values s))) c.new-out.ensures.items
