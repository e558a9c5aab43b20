use Rattle.std.proofs.lemmas.Slice.Zip.{Zip-more, either_empty_from_Zip}
use Rattle.edge_io.proofs.Gathering.{sofar_more, sofar_stop, sofar_end}
use Rattle.sim_text.proofs.SkipLines.{skips_first, skips_end}
use Rattle.sim_text.proofs.skips.put_skips.Goals as goal

pub returns-in_err-put_answer : goal.returns-in_err-put_answer
returns-in_err-put_answer g c =
    let more = Zip-more c.loop-line.line-iterator c.next.new.self _ _ c.in-Some.is c.next.ensures.steps in
    sofar_stop _ (skips_first _ _ _ _ _ _ more.0 more.1) c.loop-line.invariant c.in_err-put_answer.ensures c.from_residual.ensures.0

pub loop-line-preserved : goal.loop-line-preserved
loop-line-preserved g c =
    let more = Zip-more c.loop-line.line-iterator c.next.new.self _ _ c.in-Some.is c.next.ensures.steps in
    sofar_more (skips_first _ _ _ _ _ _ more.0 more.1) c.loop-line.invariant c.in_ok-put_answer.ensures

pub returns : goal.returns
returns g c =
    sofar_end (skips_end _ _ (either_empty_from_Zip c.loop-line.line-iterator c.next.new.self _ c.in-None.is c.next.ensures.steps))
    c.loop-line.invariant
