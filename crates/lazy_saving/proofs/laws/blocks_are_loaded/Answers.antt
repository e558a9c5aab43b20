use Rattle.lazy_saving.proofs.Loaded.{block_loaded}
use Rattle.lazy_saving.proofs.laws.blocks_are_loaded.Goals as goal

pub returns : goal.returns
returns c = λ m size b bytes h. block_loaded m size b bytes h
