use Rattle.std.proofs.Common.{◌≡◌, map, Some, ap, refl, sym, ◌∙◌}
use Rattle.std.specs.String.{string_bytes}
use Rattle.plain_lemmas.proofs.Options.{none_not_some}
use Rattle.cmd_words.specs.Command.{request_of}
use Rattle.cmd_words.specs.Words.{usage_fault, command_of}
use Rattle.edge_io.specs.Cause.{Rose}
use Rattle.command_lines.specs.declared.status.Status.TheVariants.{Usage}
use Rattle.smemu.specs.Ends.{change, FetchesReached}
use Rattle.smemu.specs.Requests.{reached_asked}
use Rattle.smemu.specs.Threads.{IsThreaded}
use Rattle.smemu.specs.Views.{end_status, CarriesOut, EndsWords}
use Rattle.smemu.proofs.Ends.{asked_ends, fetches_asked, fetches_none, fetches_unread, if_err, if_ok, no_request, same_takes}
use Rattle.smemu.proofs.Ends.{usage_stands, none_ok, same_takes_some}
use Rattle.smemu.proofs.command.answer_words.Goals as goal

pub returns-in-Ok-clause-ends : goal.returns-in-Ok-clause-ends
returns-in-Ok-clause-ends g c =
    let words = map string_bytes c.args.words.now in
    let request = request_of c.in-Ok.asked in
    let old = c.args.files.now in
    let new = c.answer_asked.new.files in
    if_ok (CarriesOut g.F.Files.fetched g.F.Files.view request old new) (EndsWords words (change g.F.Files.view old new))
    c.answer_asked.result
    (λ end carried. asked_ends words (change g.F.Files.view old new) request end c.in-Ok.ensures.command carried.ends)
    c.answer_asked.ensures.carried

pub returns-in-Ok-clause-fetched : goal.returns-in-Ok-clause-fetched
returns-in-Ok-clause-fetched g c =
    let words = map string_bytes c.args.words.now in
    let request = request_of c.in-Ok.asked in
    let old = c.args.files.now in
    let new = c.answer_asked.new.files in
    let told = (g.F.Files.view old).told in
    let unread = Rose (g.F.Files.view old).faults (g.F.Files.view new).faults in
    if_ok (CarriesOut g.F.Files.fetched g.F.Files.view request old new)
    (λ end. FetchesReached g.F.Files.fetched told unread (reached_asked told (command_of words)) old new (end_status end))
    c.answer_asked.result
    (λ end carried. fetches_asked g.F.Files.fetched told unread old new (end_status end) (command_of words) request
    c.in-Ok.ensures.command carried.fetches)
    c.answer_asked.ensures.carried

pub returns-in-Ok-clause-threaded : goal.returns-in-Ok-clause-threaded
returns-in-Ok-clause-threaded g c =
    let words = map string_bytes c.args.words.now in
    let request = request_of c.in-Ok.asked in
    let still = c.answer_asked.new.files ≡ c.args.files.now in
    if_err (λ it. (request_of it.asked ≡ request) × IsThreaded it.asked × still)
    (λ it. (command_of words ≡ Some (request_of it.asked)) × IsThreaded it.asked × still) c.answer_asked.result
    (λ it h. (c.in-Ok.ensures.command ∙ ap Some (sym h.0), h.1, h.2)) c.answer_asked.ensures.threaded

pub returns-in-Ok-clause-alone : goal.returns-in-Ok-clause-alone
returns-in-Ok-clause-alone g c =
    λ request asks alone. c.answer_asked.ensures.alone
    (same_takes (command_of (map string_bytes c.args.words.now)) (request_of c.in-Ok.asked) request c.in-Ok.ensures.command asks alone)

pub returns-in-Ok-clause-several : goal.returns-in-Ok-clause-several
returns-in-Ok-clause-several g c =
    λ request asks takes. none_ok _ c.answer_asked.result (c.answer_asked.ensures.several
    (same_takes_some (command_of (map string_bytes c.args.words.now)) (request_of c.in-Ok.asked) request c.in-Ok.ensures.command asks
    takes))

pub returns-in-Err-Usage-clause-several : goal.returns-in-Err-Usage-clause-several
returns-in-Err-Usage-clause-several g c =
    let is_fault : usage_fault (map string_bytes c.args.words.now)
    ≡ Some (record { place = c.in-Err-Usage.place; kind = c.in-Err-Usage.kind }) =
    rw c.in-Err-Usage.field-0-is at c.in-Err-Usage.ensures.fault in
    let none = no_request (map string_bytes c.args.words.now) _ is_fault in
    λ request asks takes. absurd (none_not_some (command_of (map string_bytes c.args.words.now)) request none asks)

pub returns-in-Err-Usage-clause-ends : goal.returns-in-Err-Usage-clause-ends
returns-in-Err-Usage-clause-ends g c =
    let is_fault : usage_fault (map string_bytes c.args.words.now)
    ≡ Some (record { place = c.in-Err-Usage.place; kind = c.in-Err-Usage.kind }) =
    rw c.in-Err-Usage.field-0-is at c.in-Err-Usage.ensures.fault in
    rw c.in-Err-Usage.field-0-is (usage_stands (map string_bytes c.args.words.now) c.in-Err-Usage.place c.in-Err-Usage.kind is_fault)

pub returns-in-Err-Usage-clause-fetched : goal.returns-in-Err-Usage-clause-fetched
returns-in-Err-Usage-clause-fetched g c =
    let is_fault : usage_fault (map string_bytes c.args.words.now)
    ≡ Some (record { place = c.in-Err-Usage.place; kind = c.in-Err-Usage.kind }) =
    rw c.in-Err-Usage.field-0-is at c.in-Err-Usage.ensures.fault in
    fetches_none g.F.Files.fetched (g.F.Files.view c.args.files.now).told
    (Rose (g.F.Files.view c.args.files.now).faults (g.F.Files.view c.args.files.now).faults) c.args.files.now c.args.files.now Usage
    (reached_asked (g.F.Files.view c.args.files.now).told (command_of (map string_bytes c.args.words.now)))
    (ap (reached_asked (g.F.Files.view c.args.files.now).told) (no_request (map string_bytes c.args.words.now) _ is_fault)) refl

pub returns-in-Err-Memory-clause-fetched : goal.returns-in-Err-Memory-clause-fetched
returns-in-Err-Memory-clause-fetched g c =
    fetches_unread g.F.Files.fetched (g.F.Files.view c.args.files.now).told
    (Rose (g.F.Files.view c.args.files.now).faults (g.F.Files.view c.args.files.now).faults)
    (reached_asked (g.F.Files.view c.args.files.now).told (command_of (map string_bytes c.args.words.now))) c.args.files.now
    c.args.files.now refl
