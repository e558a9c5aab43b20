use Rattle.std.proofs.Common.{◌≡◌, ◌≢◌, ◌<◌, ◌^◌, List, Some, length, refl, ap, sym, ◌∙◌, subst, arith}
use Rattle.sm_types.specs.declared.shared_op.Event.{Event}
use Rattle.shared_region.specs.Ports.{ReplayEvents}
use Rattle.paged_memory.specs.Image.{IsImage}
use Rattle.lone_runner.specs.Parting.{EndsAt, IsParting}
use Rattle.lone_runner.specs.Ticket.{whole_journal}
use Rattle.lone_runner.specs.declared.fault.AloneFault.{AloneFault}
use Rattle.lone_runner.specs.declared.fault.AloneFault.TheVariants.{Memory}
use Rattle.lone_runner.proofs.Given.{passed_on}
use Rattle.lone_runner.proofs.Partings.{ends_whole}
use Rattle.sme_debugger.specs.Recording.{Recording, recorded}
use Rattle.sme_debugger.specs.Standing.{IsOnRun, AreOnRun}
use Rattle.sme_debugger.proofs.Standings.{none_shown}
use Rattle.sme_debugger.proofs.Starting.{none_shared}
use Rattle.sme_debugger.proofs.Keeping.{begins_keeping, start_begins, start_on_run, keeping_parts, keeping_ends}
use Rattle.sme_debugger.proofs.replay.Replay.new.Goals as goal

pub keep_start-requires-clause-private : goal.keep_start-requires-clause-private
keep_start-requires-clause-private c = none_shared c.args.image (subst IsImage c.image.view_is c.image.invariant.1)

pub keep_on_the_way-requires : goal.keep_on_the_way-requires
keep_on_the_way-requires c =
    let r : Recording = record {
      program = c.args.image;
      config = c.args.config;
      thread = c.args.thread;
      journal = c.args.journal.items;
      last = c.args.count;
    } in
    let kept = c.in_ok-start.ensures in
    let loose = c.in_ok-loose.ensures in
    let none = start_begins r c.in_ok-start.start kept in
    let count = loose.state.kernel.count in
    record {
      held = record {
        number = ap (λ (t : ReplayEvents). t.thread) c.new-ticket.ensures ∙ sym (loose.thread ∙ kept.thread_is);
        fits = subst (λ (t : ReplayEvents). length t.ahead < 2 ^ 32) (sym c.new-ticket.ensures) c.requires.few;
      };
      runs = loose.stop;
      most = omega (arith, count, none);
    }

pub returns-in_err-keep_on_the_way-clause-parts : goal.returns-in_err-keep_on_the_way-clause-parts
returns-in_err-keep_on_the_way-clause-parts c =
    let r : Recording = record {
      program = c.args.image;
      config = c.args.config;
      thread = c.args.thread;
      journal = c.args.journal.items;
      last = c.args.count;
    } in
    let kept = c.in_ok-start.ensures in
    let loose = c.in_ok-loose.ensures in
    let begun = begins_keeping r c.in_ok-start.start c.new-later.result.items c.in_ok-loose.loose c.new-ticket.result kept loose.state
    (loose.events ∙ kept.events_are) (loose.config ∙ kept.config_is) (loose.thread ∙ kept.thread_is) c.new-ticket.ensures
    c.new-later.ensures.items in
    passed_on c.from_residual-in_err-keep_on_the_way.result c.in_err-keep_on_the_way.field-0.0
    (λ (f : AloneFault). f ≢ Memory → IsParting r.program r.config r.thread r.journal c.args.count f)
    c.from_residual-in_err-keep_on_the_way.ensures.1 (c.in_err-keep_on_the_way.ensures.parts r begun)

pub returns-in_err-stop-clause-parts : goal.returns-in_err-stop-clause-parts
returns-in_err-stop-clause-parts c =
    let r : Recording = record {
      program = c.args.image;
      config = c.args.config;
      thread = c.args.thread;
      journal = c.args.journal.items;
      last = c.args.count;
    } in
    let kept = c.in_ok-start.ensures in
    let loose = c.in_ok-loose.ensures in
    let begun = begins_keeping r c.in_ok-start.start c.new-later.result.items c.in_ok-loose.loose c.new-ticket.result kept loose.state
    (loose.events ∙ kept.events_are) (loose.config ∙ kept.config_is) (loose.thread ∙ kept.thread_is) c.new-ticket.ensures
    c.new-later.ensures.items in
    passed_on c.from_residual-in_err-stop.result c.in_err-stop.field-0.0
    (λ (f : AloneFault). f ≢ Memory → IsParting r.program r.config r.thread r.journal c.args.count f)
    c.from_residual-in_err-stop.ensures.1
    (λ told. keeping_parts r c.keep_on_the_way.new.later.items c.keep_on_the_way.new.loose c.keep_on_the_way.new.ticket
    (c.in_ok-keep_on_the_way.ensures.keeps r begun) c.args.count c.in_err-stop.field-0.0 c.in_ok-keep_on_the_way.ensures.goes.most
    (c.in_err-stop.ensures.parts told))

pub returns-in_err-begin_before-clause-parts : goal.returns-in_err-begin_before-clause-parts
returns-in_err-begin_before-clause-parts c =
    passed_on c.from_residual-in_err-begin_before.result Memory
    (λ (f : AloneFault). f ≢ Memory → IsParting c.args.image c.args.config c.args.thread c.args.journal.items c.args.count f)
    c.from_residual-in_err-begin_before.ensures.1 (λ told. absurd (told refl))

pub invariant_of-replay : goal.invariant_of-replay
invariant_of-replay c =
    let r : Recording = record {
      program = c.args.image;
      config = c.args.config;
      thread = c.args.thread;
      journal = c.args.journal.items;
      last = c.args.count;
    } in
    let kept = c.in_ok-start.ensures in
    let loose = c.in_ok-loose.ensures in
    let begun = begins_keeping r c.in_ok-start.start c.new-later.result.items c.in_ok-loose.loose c.new-ticket.result kept loose.state
    (loose.events ∙ kept.events_are) (loose.config ∙ kept.config_is) (loose.thread ∙ kept.thread_is) c.new-ticket.ensures
    c.new-later.ensures.items in
    let k = c.in_ok-keep_on_the_way.ensures.keeps r begun in
    let e = c.in_ok-stop.ensures in
    let after = c.resume_to_end.new.ticket in
    let whole : whole_journal after ≡ c.args.journal.items = e.whole ∙ k.whole in
    let same : recorded c.args.image c.args.config c.args.thread after c.args.count ≡ r =
    λ i. record {
      program = c.args.image;
      config = c.args.config;
      thread = c.args.thread;
      journal = whole i;
      last = c.args.count;
    } in
    let ends : EndsAt c.args.image c.args.config c.args.thread c.args.journal.items c.args.count =
    keeping_ends r c.keep_on_the_way.new.later.items c.keep_on_the_way.new.loose c.keep_on_the_way.new.ticket k c.args.count
    c.resume_to_end.new.loose c.in_ok-stop.stop e.run in
    record {
      number = c.requires.thread;
      few = subst (λ (l : List Event). length l < 2 ^ 32) (sym whole) c.requires.few;
      ends = λ fault parts.
          ends_whole c.args.image c.args.config c.args.thread c.args.journal.items c.args.count fault ends
          (subst (λ (l : List Event). IsParting c.args.image c.args.config c.args.thread l c.args.count fault) whole parts);
      start_on_run = subst (λ (q : Recording). IsOnRun q c.in_ok-start.start) (sym same) (start_on_run r c.in_ok-start.start kept);
      begins = start_begins r c.in_ok-start.start kept;
      later_on_run = subst (λ (q : Recording). AreOnRun q c.keep_on_the_way.new.later.items) (sym same) k.later_on_run;
      of_run = record {
        config_is = e.same.config ∙ k.of_run.config_is;
        thread_is = e.same.thread ∙ k.of_run.thread_is;
        number = e.ticket.number ∙ e.same.thread ∙ k.of_run.thread_is;
      };
      shows = none_shown (recorded c.args.image c.args.config c.args.thread after c.args.count) c.resume_to_end.new.loose
          (Some c.in_ok-stop.stop) after;
    }

pub returns-clause-recording : goal.returns-clause-recording
returns-clause-recording c =
    let r : Recording = record {
      program = c.args.image;
      config = c.args.config;
      thread = c.args.thread;
      journal = c.args.journal.items;
      last = c.args.count;
    } in
    let kept = c.in_ok-start.ensures in
    let loose = c.in_ok-loose.ensures in
    let begun = begins_keeping r c.in_ok-start.start c.new-later.result.items c.in_ok-loose.loose c.new-ticket.result kept loose.state
    (loose.events ∙ kept.events_are) (loose.config ∙ kept.config_is) (loose.thread ∙ kept.thread_is) c.new-ticket.ensures
    c.new-later.ensures.items in
    let whole = c.in_ok-stop.ensures.whole ∙ (c.in_ok-keep_on_the_way.ensures.keeps r begun).whole in
    c.in_ok-begin_before.ensures.same ∙ (λ i. record {
      program = c.args.image;
      config = c.args.config;
      thread = c.args.thread;
      journal = whole i;
      last = c.args.count;
    })

pub returns-clause-ends : goal.returns-clause-ends
returns-clause-ends c =
    let r : Recording = record {
      program = c.args.image;
      config = c.args.config;
      thread = c.args.thread;
      journal = c.args.journal.items;
      last = c.args.count;
    } in
    let kept = c.in_ok-start.ensures in
    let loose = c.in_ok-loose.ensures in
    let begun = begins_keeping r c.in_ok-start.start c.new-later.result.items c.in_ok-loose.loose c.new-ticket.result kept loose.state
    (loose.events ∙ kept.events_are) (loose.config ∙ kept.config_is) (loose.thread ∙ kept.thread_is) c.new-ticket.ensures
    c.new-later.ensures.items in
    keeping_ends r c.keep_on_the_way.new.later.items c.keep_on_the_way.new.loose c.keep_on_the_way.new.ticket
    (c.in_ok-keep_on_the_way.ensures.keeps r begun) c.args.count c.resume_to_end.new.loose c.in_ok-stop.stop c.in_ok-stop.ensures.run
