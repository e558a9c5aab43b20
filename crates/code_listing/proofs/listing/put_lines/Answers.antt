use Rattle.std.proofs.Common.{◌<◌, length, arith}
use Rattle.edge_io.proofs.Gathering.{sofar_more, sofar_stop, sofar_end}
use Rattle.code_listing.proofs.Lines.{listing_at, listing_past}
use Rattle.code_listing.proofs.listing.put_lines.Goals as goal

pub returns-in_err-put_line : goal.returns-in_err-put_line
returns-in_err-put_line g c = let inside : c.loop-k.k < length c.args.code.now = omega arith in
    sofar_stop _ (listing_at c.args.code.now c.loop-k.k _ inside) c.loop-k.invariant c.in_err-put_line.ensures c.from_residual.ensures.0

pub loop-k-preserved : goal.loop-k-preserved
loop-k-preserved g c = let inside : c.loop-k.k < length c.args.code.now = omega arith in
    sofar_more (listing_at c.args.code.now c.loop-k.k _ inside) c.loop-k.invariant c.in_ok-put_line.ensures

pub returns : goal.returns
returns g c = sofar_end (listing_past c.args.code.now c.loop-k.k (omega arith)) c.loop-k.invariant
