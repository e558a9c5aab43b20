use Rattle.shared_region.proofs.Chains.{plain_words, plain_history}
use Rattle.shared_region.proofs.laws.plain_history_grows.Goals as goal

pub returns-clause-words : goal.returns-clause-words
returns-clause-words c = plain_words

pub returns-clause-history : goal.returns-clause-history
returns-clause-history c = plain_history
