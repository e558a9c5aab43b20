use Rattle.abi_checker.proofs.CallWords.{calls_are}
use Rattle.abi_checker.proofs.laws.call_words_are_calls.Goals as goal

pub returns : goal.returns
returns c = λ word it small e. calls_are word small it e
