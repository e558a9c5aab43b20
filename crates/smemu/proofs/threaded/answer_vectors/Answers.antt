use Rattle.std.proofs.Common.{rules, map, refl, Err, Ok, arith}
use Rattle.std.proofs.lemmas.List.{length-map}
use Rattle.std.specs.String.{string_bytes}
use Rattle.cmd_words.specs.Command.{request_of}
use Rattle.cmd_words.specs.declared.command.Command.TheVariants as command
use Rattle.smemu.specs.Ends.{change}
use Rattle.smemu.specs.Rejections.{VectorsFile}
use Rattle.smemu.specs.Views.{CarriesOut}
use Rattle.smemu.specs.declared.answer.Answer.TheVariants as answer
use Rattle.smemu.specs.declared.answer.Text.TheVariants as texts
use Rattle.smemu.specs.declared.refusal.Refusal.TheVariants as refusal
use Rattle.smemu.proofs.Opened.{one_opened, one_refused}
use Rattle.vector_runner.specs.Told.{vector_told}
use Rattle.smemu.proofs.Vectors.{vectors_answered, vectors_opened, vectors_unopened}
use Rattle.smemu.proofs.threaded.answer_vectors.Goals as goal

pub returns-in_err-read : goal.returns-in_err-read
returns-in_err-read g c =
    let request = request_of (command.Vectors c.args.name c.args.config.now) in
    let new = c.open_vectors.new.files in
    let ends : CarriesOut g.F.Files.fetched g.F.Files.view request c.args.files.now new (Err c.in_err-read.field-0.0) =
    one_refused g.F.Files.fetched g.F.Files.view request (record { name = string_bytes c.args.name; kind = VectorsFile })
    c.args.files.now new refl c.open_vectors.ensures.fetched c.open_vectors.ensures.kept
    c.in_err-read.field-0.0 (vectors_unopened c.args.config.now (change g.F.Files.view c.args.files.now new) (string_bytes c.args.name)
    c.in_err-read.field-0.0
    c.in_err-read.ensures.unopened) in
    search rules

pub returns-in-Ok : goal.returns-in-Ok
returns-in-Ok g c =
    one_opened g.F.Files.fetched g.F.Files.view (request_of (command.Vectors c.args.name c.args.config.now))
    (record { name = string_bytes c.args.name; kind = VectorsFile }) c.args.files.now c.open_vectors.new.files refl
    c.open_vectors.ensures.fetched c.open_vectors.ensures.kept c.in_ok-read.read.bytes.items
    (vectors_opened c.args.config.now c.in_ok-read.ensures.opened) (Ok (answer.Text (texts.Lines c.in-Ok.lines)))
    (vectors_answered c.args.config.now c.in_ok-read.read.bytes.items _ _ c.in_ok-read.ensures.read
    (rw c.as_slice-vectors.ensures.value at c.in-Ok.ensures))

pub returns : goal.returns
returns g c =
    one_opened g.F.Files.fetched g.F.Files.view (request_of (command.Vectors c.args.name c.args.config.now))
    (record { name = string_bytes c.args.name; kind = VectorsFile }) c.args.files.now c.open_vectors.new.files refl
    c.open_vectors.ensures.fetched c.open_vectors.ensures.kept c.in_ok-read.read.bytes.items
    (vectors_opened c.args.config.now c.in_ok-read.ensures.opened) (Err refusal.Memory) tt

pub run_vectors-requires-clause-few : goal.run_vectors-requires-clause-few
run_vectors-requires-clause-few g c =
    let vectors = c.in_ok-read.read.content.items in
    let file = (c.one_file.ensures c.args.config.now.vl c.args.config.now.svl c.in_ok-read.read.bytes.items (map vector_told vectors)).0
    c.in_ok-read.ensures.read in
    let few = file.few in
    let same = length-map vectors vector_told in
    rw c.as_slice-vectors.ensures.value (omega (arith, few, same))

pub run_vectors-requires-clause-vectors : goal.run_vectors-requires-clause-vectors
run_vectors-requires-clause-vectors g c = rw c.as_slice-vectors.ensures.value (λ κs bounds. c.in_ok-read.ensures.fit)
