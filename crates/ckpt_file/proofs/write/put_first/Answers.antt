use Rattle.std.proofs.Common.{◌≡◌, ◌++◌, ◌∷◌, [], ap}
use Rattle.sm_types.specs.Options.{numbers_of}
use Rattle.ckpt_fields.specs.Rows.{tag}
use Rattle.ckpt_fields.specs.Values.{words, first_values, option_values}
use Rattle.ckpt_file.proofs.Puts.{put_more, put_as}
use Rattle.ckpt_file.proofs.write.put_first.Goals as goal

pub returns : goal.returns
unfolding first_values option_values
returns c =
    let config = c.args.config.now in
    let image = c.args.image.now in
    let lengths = words (c.bits.result ∷ c.bits-2.result ∷ []) in
    let others = words (config.slice ∷ config.budget ∷ config.threads ∷ config.kernel ∷ []) in
    let same : lengths ++ others ≡ option_values (numbers_of config) =
    λ i. words (c.bits.ensures i ∷ c.bits-2.ensures i ∷ config.slice ∷ config.budget ∷ config.threads ∷ config.kernel ∷ []) in
    put_as (tag ∷ image ∷ (lengths ++ others)) (first_values image (numbers_of config)) _ _ (ap (λ l. tag ∷ image ∷ l) same)
    (put_more (tag ∷ []) (image ∷ (lengths ++ others)) _ _ _ c.in_ok-put_field.ensures
    (put_more (image ∷ []) (lengths ++ others) _ _ _ c.in_ok-put_field-2.ensures
    (put_more lengths others _ _ _ c.in_ok-put_words.ensures c.in_ok-put_words-2.ensures)))
