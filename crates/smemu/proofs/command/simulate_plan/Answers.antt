use Rattle.std.proofs.Common.{rules, ℕ, List, [], ◌∷◌, refl, Err, Ok}
use Rattle.std.specs.String.{string_bytes}
use Rattle.cmd_words.specs.Command.{request_of}
use Rattle.cmd_words.specs.declared.command.Command.TheVariants as command
use Rattle.smemu.specs.Rejections.{ProgramFile, PlanFile}
use Rattle.smemu.specs.Requests.{Named}
use Rattle.smemu.specs.Views.{CarriesOut}
use Rattle.smemu.specs.declared.answer.Answer.TheVariants as answer
use Rattle.smemu.specs.declared.answer.Text.TheVariants as texts
use Rattle.smemu.specs.declared.refusal.Refusal.TheVariants as refusal
use Rattle.smemu.proofs.Opened.{all_opened, and_opened, none_opened, refused_next}
use Rattle.smemu.proofs.command.simulate_plan.Goals as goal

abbrev named : List ℕ → Named
named name = record { name = name; kind = ProgramFile }

abbrev planned : List ℕ → Named
planned name = record { name = name; kind = PlanFile }

pub returns-in_err-file : goal.returns-in_err-file
returns-in_err-file g c =
    let ends : CarriesOut g.F.Files.fetched g.F.Files.view (request_of (command.Sim c.args.program c.args.plan c.args.config.now))
    c.args.files.now c.open_program.new.files (Err c.in_err-file.field-0.0) =
    refused_next _ _ _ [] (planned (string_bytes c.args.plan) ∷ []) [] (named (string_bytes c.args.program)) _ _ _ refl
    (none_opened _ _ _ _) c.open_program.ensures.fetched c.open_program.ensures.kept _ c.in_err-file.ensures.unopened in
    search rules

pub returns-in_err-read : goal.returns-in_err-read
returns-in_err-read g c =
    let program = named (string_bytes c.args.program) in
    let one = and_opened program (none_opened g.F.Files.fetched g.F.Files.view
    (request_of (command.Sim c.args.program c.args.plan c.args.config.now)) c.args.files.now) c.open_program.ensures.fetched
    c.open_program.ensures.kept c.in_ok-file.ensures.opened in
    let ends : CarriesOut g.F.Files.fetched g.F.Files.view (request_of (command.Sim c.args.program c.args.plan c.args.config.now))
    c.args.files.now c.open_plan.new.files (Err c.in_err-read.field-0.0) =
    refused_next _ _ _ (program ∷ []) [] _ (planned (string_bytes c.args.plan)) _ _ _ refl one c.open_plan.ensures.fetched
    c.open_plan.ensures.kept _ c.in_err-read.ensures.unopened in
    search rules

pub returns-in-Ok : goal.returns-in-Ok
returns-in-Ok g c =
    let one = and_opened (named (string_bytes c.args.program)) (none_opened g.F.Files.fetched g.F.Files.view
    (request_of (command.Sim c.args.program c.args.plan c.args.config.now)) c.args.files.now)
    c.open_program.ensures.fetched c.open_program.ensures.kept c.in_ok-file.ensures.opened in
    all_opened _ _ (request_of (command.Sim c.args.program c.args.plan c.args.config.now)) _ _ _
    (and_opened (planned (string_bytes c.args.plan)) one c.open_plan.ensures.fetched c.open_plan.ensures.kept
    c.in_ok-read.ensures.opened) (Ok (answer.Text (texts.Simulation c.in-Ok.simulation)))
    (record {
      config = c.args.config.now;
      given = refl;
      simulation = rw (c.as_slice.ensures.value, c.as_slice-2.ensures.value) at
          c.in-Ok.ensures;
    })

pub returns : goal.returns
returns g c =
    let one = and_opened (named (string_bytes c.args.program)) (none_opened g.F.Files.fetched g.F.Files.view
    (request_of (command.Sim c.args.program c.args.plan c.args.config.now)) c.args.files.now)
    c.open_program.ensures.fetched c.open_program.ensures.kept c.in_ok-file.ensures.opened in
    all_opened _ _ (request_of (command.Sim c.args.program c.args.plan c.args.config.now)) _ _ _
    (and_opened (planned (string_bytes c.args.plan)) one c.open_plan.ensures.fetched c.open_plan.ensures.kept
    c.in_ok-read.ensures.opened) (Err refusal.Memory) tt
