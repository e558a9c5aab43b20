use Rattle.cmd_words.specs.Command.{request_of}
use Rattle.command_lines.proofs.ForeignWords.{sound_words}
use Rattle.command_lines.proofs.foreign.fault_of.Goals as goal

pub returns-in-Ok : goal.returns-in-Ok
returns-in-Ok c = sound_words c.args.words.now (request_of c.in-Ok.field-0) (rw c.in-Ok.is at c.requires.command)
