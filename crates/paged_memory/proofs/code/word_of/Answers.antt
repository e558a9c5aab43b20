use Rattle.paged_memory.proofs.Within.{word_within}
use Rattle.paged_memory.proofs.code.word_of.Goals as goal

pub returns : goal.returns
returns c m base there low =
    word_within m base c.args.at c.from_le_bytes.result c.args.code.now there c.requires.inside low c.from_le_bytes.ensures
