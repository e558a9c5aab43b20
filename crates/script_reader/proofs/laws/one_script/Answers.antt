use Rattle.script_reader.proofs.Scripts.{is_script, script_is}
use Rattle.script_reader.proofs.laws.one_script.Goals as goal

pub returns : goal.returns
returns c = λ bytes commands. (is_script bytes commands, script_is bytes commands)
