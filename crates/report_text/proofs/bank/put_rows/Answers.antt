use Rattle.std.proofs.Common.{◌≤◌, ◌<◌, length, arith, ap, codes, decimal, ◌∷◌, []}
use Rattle.std.specs.List.{concat}
use Rattle.edge_io.proofs.Gathering.{as_text, sofar_start, sofar_more, sofar_stop, sofar_end}
use Rattle.text_lines.specs.Rows.{rows_text, bytes_row}
use Rattle.report_text.proofs.Registers.{numbered-at, numbered-end}
use Rattle.report_text.proofs.bank.put_rows.Goals as goal

pub loop-k-init : goal.loop-k-init
loop-k-init g c = sofar_start _ _

pub put_register_line-requires : goal.put_register_line-requires
put_register_line-requires g c = let small : length c.vector.result.now ≤ 256 = omega (
  arith,
  c.vector.ensures.long,
  c.size-k-end.ensures.small,
) in small

pub loop-k-preserved : goal.loop-k-preserved
loop-k-preserved g c =
    let xs = c.args.za.now.vectors in
    let k = c.loop-k.k in
    let inside : k < length xs = omega (arith, c.size-k-end.ensures.square.count, c.size-k-end.ensures.value) in
    sofar_more (numbered-at (codes "za") xs k inside) c.loop-k.invariant
    (as_text (ap (λ bytes. rows_text (concat (codes "za " ∷ decimal k ∷ []))
    (bytes_row bytes)) c.vector.ensures.value) c.in_ok-put_register_line.ensures)

pub returns-in_err-put_register_line : goal.returns-in_err-put_register_line
returns-in_err-put_register_line g c =
    let xs = c.args.za.now.vectors in
    let k = c.loop-k.k in
    let inside : k < length xs = omega (arith, c.size-k-end.ensures.square.count, c.size-k-end.ensures.value) in
    sofar_stop _ (numbered-at (codes "za") xs k inside) c.loop-k.invariant
    (as_text (ap (λ bytes. rows_text (concat (codes "za " ∷ decimal k ∷ []))
    (bytes_row bytes)) c.vector.ensures.value) c.in_err-put_register_line.ensures)
    c.from_residual.ensures.0

pub returns : goal.returns
returns g c =
    let xs = c.args.za.now.vectors in
    let past : length xs ≤ c.loop-k.k = omega (arith, c.size-k-end.ensures.square.count, c.size-k-end.ensures.value) in
    sofar_end (numbered-end (codes "za") xs c.loop-k.k past) c.loop-k.invariant
