use Rattle.std.proofs.Common.{◌∙◌, sym}
use Rattle.plain_lemmas.proofs.Options.{is_some-false}
use Rattle.abi_checker.proofs.watch.Watch.look_there.Goals as goal

pub returns-clause-quiet : goal.returns-clause-quiet
returns-clause-quiet c = λ quiet. is_some-false c.in_ok-told.told (sym c.is_some.ensures ∙ quiet)
