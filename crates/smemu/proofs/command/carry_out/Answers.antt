use Rattle.std.proofs.Common.{[], refl, Ok}
use Rattle.cmd_words.specs.Command.{request_of}
use Rattle.cmd_words.specs.declared.command.Command.TheVariants as command
use Rattle.smemu.specs.declared.answer.Answer.TheVariants as answer
use Rattle.smemu.specs.declared.answer.Text.TheVariants as texts
use Rattle.smemu.proofs.Opened.{all_opened, none_opened}
use Rattle.smemu.proofs.command.carry_out.Goals as goal

pub returns-in-Help : goal.returns-in-Help
returns-in-Help g c =
    rw c.in-Help.is (all_opened g.F.Files.fetched g.F.Files.view (request_of command.Help) [] c.args.files.now c.args.files.now
    (none_opened g.F.Files.fetched g.F.Files.view (request_of command.Help)
    c.args.files.now) (Ok (answer.Text texts.Help)) refl)

pub returns-in-Version : goal.returns-in-Version
returns-in-Version g c =
    rw c.in-Version.is (all_opened g.F.Files.fetched g.F.Files.view (request_of command.Version) [] c.args.files.now c.args.files.now
    (none_opened g.F.Files.fetched g.F.Files.view (request_of command.Version)
    c.args.files.now) (Ok (answer.Text texts.Version)) refl)

pub returns-in-Gen : goal.returns-in-Gen
returns-in-Gen g c =
    rw c.in-Gen.is (all_opened g.F.Files.fetched g.F.Files.view (request_of (command.Gen c.in-Gen.number)) [] c.args.files.now
    c.args.files.now (none_opened g.F.Files.fetched g.F.Files.view (request_of (command.Gen c.in-Gen.number))
    c.args.files.now) (Ok (answer.Text (texts.Source c.in-Gen.number))) refl)
