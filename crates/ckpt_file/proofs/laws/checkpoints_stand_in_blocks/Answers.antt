use Rattle.ckpt_file.proofs.Stands.{stands_in_block}
use Rattle.ckpt_file.proofs.laws.checkpoints_stand_in_blocks.Goals as goal

pub returns : goal.returns
returns c bytes report state thread events h = stands_in_block bytes report state thread events h
