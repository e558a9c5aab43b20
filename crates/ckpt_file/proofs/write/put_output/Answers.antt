use Rattle.std.proofs.Common.{◌∷◌, [], length}
use Rattle.ckpt_fields.specs.Values.{words, output_values}
use Rattle.ckpt_file.proofs.Puts.{put_more}
use Rattle.ckpt_file.proofs.write.put_output.Goals as goal

pub returns : goal.returns
unfolding output_values
returns c =
    put_more (words (length c.args.bytes.now ∷ [])) (c.args.bytes.now ∷ []) _ _ _ c.in_ok-put_word.ensures c.in_ok-put_field.ensures
