use Rattle.std.proofs.Common.{◌≡◌, take}
use Rattle.sme_debugger.specs.Session.{recording_of, place_of}
use Rattle.smemu.proofs.Debugs.{HaveAnswered}
use Rattle.smemu.proofs.debug.answer_each.Given as goal

abbrev pub invariant-loop-command : goal.invariant-loop-command
invariant-loop-command g l =
    HaveAnswered (recording_of l.initial.session) (place_of l.initial.session) (take l.command-index l.commands) (place_of l.session)
    (g.K.Sink.view l.initial.out) (g.K.Sink.view l.out)
    × (recording_of l.session ≡ recording_of l.initial.session)
