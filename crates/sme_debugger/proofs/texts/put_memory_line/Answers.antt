use Rattle.std.proofs.Common.{◌≡◌, Some, None, sym, subst}
use Rattle.paged_memory.specs.Memory.{first_without}
use Rattle.edge_io.proofs.Gathering.{as_text, and_then, and_stop, and_end}
use Rattle.sme_debugger.proofs.Bytes.{all_read}
use Rattle.sme_debugger.proofs.Lines.{text_of_fault, text_of_bytes}
use Rattle.sme_debugger.proofs.texts.put_memory_line.Goals as goal

pub returns-in-Err : goal.returns-in-Err
returns-in-Err g c =
    let m = c.args.pages.now.memory in
    let first = subst (λ n. first_without 4 m c.args.address n ≡ Some c.in-Err.abort.address) c.from.ensures c.in-Err.ensures.abort in
    as_text (sym (text_of_fault m c.args.address c.args.size c.in-Err.abort.address first))
    (rw c.hex64_digits.ensures at c.put_all.ensures)

pub returns-in_err-put_bytes : goal.returns-in_err-put_bytes
returns-in_err-put_bytes g c =
    let m = c.args.pages.now.memory in
    let none = subst (λ n. first_without 4 m c.args.address n ≡ None) c.from.ensures c.in_default.ensures.ok in
    as_text (sym (text_of_bytes m c.args.address c.args.size none))
    (and_stop _ (c.in_err-put_bytes.ensures _ (all_read m c.args.address c.args.size none)) c.from_residual.ensures.0)

pub returns : goal.returns
returns g c =
    let m = c.args.pages.now.memory in
    let none = subst (λ n. first_without 4 m c.args.address n ≡ None) c.from.ensures c.in_default.ensures.ok in
    as_text (sym (text_of_bytes m c.args.address c.args.size none))
    (and_then (c.in_ok-put_bytes.ensures _ (all_read m c.args.address c.args.size none)) (and_end c.put.ensures))
