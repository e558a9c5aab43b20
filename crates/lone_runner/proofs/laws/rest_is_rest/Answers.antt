use Rattle.lone_runner.proofs.Rests.{rest_is_rest}
use Rattle.lone_runner.proofs.laws.rest_is_rest.Goals as goal

pub returns : goal.returns
returns c program config thread journal turns from done left at = rest_is_rest program config thread journal turns from done left at
