use Rattle.std.proofs.Common.{◌≡◌, ◌+◌, arith}
use Rattle.edge_io.proofs.Gathering.{sofar_start, sofar_more, sofar_stop, sofar_end}
use Rattle.workload.specs.Source.{number_at}
use Rattle.workload.proofs.Rest.{rest-all, rest-start, number-next, rest-more, rest-end}
use Rattle.workload.proofs.source.put_chosen_lines.Goals as goal

pub loop-i-init : goal.loop-i-init
loop-i-init g c = record { number = rest-start c.args.number; left = rw (rest-all c.args.number) (sofar_start _ _) }

pub loop-i-preserved : goal.loop-i-preserved
loop-i-preserved g c =
    let next : c.next_number-current.result ≡ number_at c.args.number (c.loop-i._i + 1) =
    number-next c.args.number c.loop-i._i c.loop-i.current c.next_number-current.result c.loop-i.invariant.number
    c.next_number-current.ensures in
    record {
      number = next;
      left = sofar_more (rest-more c.args.number c.loop-i._i c.next_number-current.result c.loop-i-test.true next)
          c.loop-i.invariant.left c.in_ok-put_chosen_line.ensures;
    }

pub returns-in_err-put_chosen_line : goal.returns-in_err-put_chosen_line
returns-in_err-put_chosen_line g c =
    let next : c.next_number-current.result ≡ number_at c.args.number (c.loop-i._i + 1) =
    number-next c.args.number c.loop-i._i c.loop-i.current c.next_number-current.result c.loop-i.invariant.number
    c.next_number-current.ensures in
    sofar_stop _ (rest-more c.args.number c.loop-i._i c.next_number-current.result c.loop-i-test.true next)
    c.loop-i.invariant.left c.in_err-put_chosen_line.ensures c.from_residual.ensures.0

pub returns : goal.returns
returns g c = sofar_end (rest-end c.args.number c.loop-i._i (omega arith)) c.loop-i.invariant.left
