use Rattle.std.proofs.Common.{ap, sym, ◌∙◌, arith}
use Rattle.std.specs.List.{flat_map}
use Rattle.sve_vectors.specs.Predicates.{predicate_bytes}
use Rattle.signal_frames.proofs.Putting.{puts_none, puts_predicate, puts_all}
use Rattle.signal_frames.proofs.writing.put_predicates.Goals as goal

pub loop-n-init : goal.loop-n-init
loop-n-init c = puts_none c.args.pages.now c.args.address (omega arith)

pub loop-n-preserved : goal.loop-n-preserved
loop-n-preserved c =
    puts_predicate c.args.pages.now c.loop-n.pages c.put-next.new.pages c.args.address c.loop-n.next c.put-next.result c.loop-n.n
    c.args.vectors.now.registers.predicates c.p-bytes.result.now (omega (arith, c.length-length.ensures.registers.predicate_count))
    (sym c.truths_tell_bytes.ensures ∙ ap predicate_bytes c.p-bytes.ensures.value) c.loop-n.invariant c.put-next.ensures

pub returns : goal.returns
returns c =
    puts_all c.args.pages.now c.loop-n.pages c.args.address c.loop-n.next c.loop-n.n (flat_map predicate_bytes)
    c.args.vectors.now.registers.predicates (omega (arith, c.length-length.ensures.registers.predicate_count)) c.loop-n.invariant
