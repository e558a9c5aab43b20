use Rattle.std.proofs.Common.{◌≡◌, ◌++◌, ◌∷◌, [], length}
use Rattle.kernel_contexts.specs.Context.{state_of, thread_of, journal_of}
use Rattle.ckpt_fields.specs.Values.{words, doublewords, thread_values}
use Rattle.ckpt_file.proofs.Puts.{put_more, put_as}
use Rattle.ckpt_file.proofs.write.put_progress.Goals as goal

pub returns : goal.returns
unfolding thread_values
returns c =
    let context = c.args.context.now in
    let numbers = words (c.thread.result ∷ c.count.result ∷ c.events_made.result ∷ c.depth.result ∷ []) in
    let same : numbers ++ doublewords (c.turns.result ∷ [])
    ≡ thread_values (thread_of context) (state_of context).count (length (journal_of context)) (state_of context).depth
    (state_of context).turns =
    λ i. words (c.thread.ensures i ∷ c.count.ensures i ∷ c.events_made.ensures i ∷ c.depth.ensures i ∷ []) ++ doublewords
    (c.turns.ensures i ∷ []) in
    put_as (numbers ++ doublewords (c.turns.result ∷ [])) _ _ _ same
    (put_more numbers (doublewords (c.turns.result ∷ [])) _ _ _ c.in_ok-put_words.ensures c.in_ok-put_doubleword.ensures)
