use Rattle.std.proofs.Common.{map, subst}
use Rattle.std.specs.String.{string_bytes}
use Rattle.cmd_words.specs.Command.{request_of}
use Rattle.cmd_words.specs.Words.{command_of}
use Rattle.edge_io.specs.Cause.{Rose}
use Rattle.smemu.specs.Ends.{call, change}
use Rattle.smemu.specs.Requests.{reached_asked}
use Rattle.smemu.specs.Views.{end_status, CarriesOut, EndsWords, WritesStatus}
use Rattle.smemu.proofs.Ends.{asked_ends, fetches_asked, status_complete, status_done, status_fetched, status_refused}
use Rattle.smemu.proofs.command.smemu_main.Goals as goal

pub returns-in-Err-clause-done : goal.returns-in-Err-clause-done
returns-in-Err-clause-done g c =
    let asked = request_of c.in-Err.threaded.asked in
    let end = c.carry_out_threaded-end.result in
    let new = c.carry_out_threaded-end.new.files in
    let carried : CarriesOut g.F.Files.fetched g.F.Files.view asked c.args.files.now new end =
    subst (λ m. CarriesOut g.F.Files.fetched g.F.Files.view asked m new end) c.in-Err.ensures.untouched.0
    c.carry_out_threaded-end.ensures in
    let ends : EndsWords (map string_bytes c.args.words.now) (change g.F.Files.view c.args.files.now new) end =
    asked_ends (map string_bytes c.args.words.now) (change g.F.Files.view c.args.files.now new) asked end c.in-Err.ensures.threaded
    carried.ends in
    let wrote : WritesStatus end (g.K.Sink.view c.args.out.now) (g.K.Sink.view c.finish.new.out) c.finish.result =
    subst (λ o. WritesStatus end (g.K.Sink.view o) (g.K.Sink.view c.finish.new.out) c.finish.result) c.in-Err.ensures.untouched.1
    c.finish.ensures in
    status_done (call g.F.Files.view g.K.Sink.view c.args.words.now c.args.files.now new c.args.out.now c.finish.new.out) end
    c.finish.result ends wrote

pub returns-in-Err-clause-refused : goal.returns-in-Err-clause-refused
returns-in-Err-clause-refused g c =
    let asked = request_of c.in-Err.threaded.asked in
    let end = c.carry_out_threaded-end.result in
    let new = c.carry_out_threaded-end.new.files in
    let carried : CarriesOut g.F.Files.fetched g.F.Files.view asked c.args.files.now new end =
    subst (λ m. CarriesOut g.F.Files.fetched g.F.Files.view asked m new end) c.in-Err.ensures.untouched.0
    c.carry_out_threaded-end.ensures in
    let ends : EndsWords (map string_bytes c.args.words.now) (change g.F.Files.view c.args.files.now new) end =
    asked_ends (map string_bytes c.args.words.now) (change g.F.Files.view c.args.files.now new) asked end c.in-Err.ensures.threaded
    carried.ends in
    let wrote : WritesStatus end (g.K.Sink.view c.args.out.now) (g.K.Sink.view c.finish.new.out) c.finish.result =
    subst (λ o. WritesStatus end (g.K.Sink.view o) (g.K.Sink.view c.finish.new.out) c.finish.result) c.in-Err.ensures.untouched.1
    c.finish.ensures in
    status_refused (call g.F.Files.view g.K.Sink.view c.args.words.now c.args.files.now new c.args.out.now c.finish.new.out) end
    c.finish.result ends wrote

pub returns-in-Err-clause-complete : goal.returns-in-Err-clause-complete
returns-in-Err-clause-complete g c =
    let asked = request_of c.in-Err.threaded.asked in
    let end = c.carry_out_threaded-end.result in
    let new = c.carry_out_threaded-end.new.files in
    let carried : CarriesOut g.F.Files.fetched g.F.Files.view asked c.args.files.now new end =
    subst (λ m. CarriesOut g.F.Files.fetched g.F.Files.view asked m new end) c.in-Err.ensures.untouched.0
    c.carry_out_threaded-end.ensures in
    let ends : EndsWords (map string_bytes c.args.words.now) (change g.F.Files.view c.args.files.now new) end =
    asked_ends (map string_bytes c.args.words.now) (change g.F.Files.view c.args.files.now new) asked end c.in-Err.ensures.threaded
    carried.ends in
    let wrote : WritesStatus end (g.K.Sink.view c.args.out.now) (g.K.Sink.view c.finish.new.out) c.finish.result =
    subst (λ o. WritesStatus end (g.K.Sink.view o) (g.K.Sink.view c.finish.new.out) c.finish.result) c.in-Err.ensures.untouched.1
    c.finish.ensures in
    status_complete (call g.F.Files.view g.K.Sink.view c.args.words.now c.args.files.now new c.args.out.now c.finish.new.out) end
    c.finish.result ends wrote

pub returns-in-Err-clause-fetched : goal.returns-in-Err-clause-fetched
returns-in-Err-clause-fetched g c =
    let asked = request_of c.in-Err.threaded.asked in
    let end = c.carry_out_threaded-end.result in
    let new = c.carry_out_threaded-end.new.files in
    let carried : CarriesOut g.F.Files.fetched g.F.Files.view asked c.args.files.now new end =
    subst (λ m. CarriesOut g.F.Files.fetched g.F.Files.view asked m new end) c.in-Err.ensures.untouched.0
    c.carry_out_threaded-end.ensures in
    let wrote : WritesStatus end (g.K.Sink.view c.args.out.now) (g.K.Sink.view c.finish.new.out) c.finish.result =
    subst (λ o. WritesStatus end (g.K.Sink.view o) (g.K.Sink.view c.finish.new.out) c.finish.result) c.in-Err.ensures.untouched.1
    c.finish.ensures in
    let told = (g.F.Files.view c.args.files.now).told in
    let unread = Rose (g.F.Files.view c.args.files.now).faults (g.F.Files.view new).faults in
    status_fetched g.F.Files.fetched told unread (reached_asked told (command_of (map string_bytes c.args.words.now))) c.args.files.now
    new end (g.K.Sink.view c.args.out.now) (g.K.Sink.view c.finish.new.out) c.finish.result wrote
    (fetches_asked g.F.Files.fetched told unread c.args.files.now new (end_status end) (command_of (map string_bytes c.args.words.now))
    asked c.in-Err.ensures.threaded carried.fetches)

pub returns-in-Err-clause-kept : goal.returns-in-Err-clause-kept
returns-in-Err-clause-kept g c =
    let asked = request_of c.in-Err.threaded.asked in
    let end = c.carry_out_threaded-end.result in
    let new = c.carry_out_threaded-end.new.files in
    let carried : CarriesOut g.F.Files.fetched g.F.Files.view asked c.args.files.now new end =
    subst (λ m. CarriesOut g.F.Files.fetched g.F.Files.view asked m new end) c.in-Err.ensures.untouched.0
    c.carry_out_threaded-end.ensures in
    carried.kept
