use Rattle.std.proofs.Common.{sym, ◌∙◌}
use Rattle.abi_checker.proofs.Words.{word_any}
use Rattle.abi_checker.proofs.bytes.word_in.Goals as goal

pub returns-in-Some : goal.returns-in-Some
returns-in-Some c = word_any c.args.pages.now.memory c.args.address c.in-Some.word (sym c.fetch.ensures ∙ c.in-Some.is)
