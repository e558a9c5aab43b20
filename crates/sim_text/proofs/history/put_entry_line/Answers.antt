use Rattle.std.proofs.Common.{◌≡◌, ℕ, List, [], ◌∷◌, ◌++◌, codes, decimal}
use Rattle.std.specs.List.{concat}
use Rattle.edge_io.proofs.Gathering.{and_then, and_stop, and_end, as_text}
use Rattle.sm_types.specs.declared.shared_op.Event.{Event}
use Rattle.sm_types.specs.declared.shared_words.Entry.{Entry}
use Rattle.text_lines.specs.Words.{event_words}
use Rattle.sim_text.specs.History.{entry_line}
use Rattle.sim_text.proofs.Counted.{counted_then}
use Rattle.sim_text.proofs.history.put_entry_line.Goals as goal

-- the line, after its thread
after_thread : Event → List ℕ
after_thread event = concat (codes " " ∷ event_words event ∷ codes "\n" ∷ [])

as_line : (entry : Entry) (thread : ℕ) → thread ≡ entry.thread
    → concat (codes "h " ∷ decimal thread ∷ []) ++ after_thread entry.event ≡ entry_line entry
unfolding entry_line after_thread
as_line entry thread is = rw is (counted_then (codes "h ") (decimal entry.thread) (after_thread entry.event))

pub returns-in_err-put_counted : goal.returns-in_err-put_counted
returns-in_err-put_counted g c =
    as_text (as_line c.args.entry _ c.from.ensures) (and_stop _ c.in_err-put_counted.ensures c.from_residual.ensures.0)

pub returns-in_err-put : goal.returns-in_err-put
unfolding after_thread
returns-in_err-put g c =
    as_text (as_line c.args.entry _ c.from.ensures)
    (and_then c.in_ok-put_counted.ensures (and_stop _ c.in_err-put.ensures c.from_residual-in_err-put.ensures.0))

pub returns-in_err-put_event_words : goal.returns-in_err-put_event_words
unfolding after_thread
returns-in_err-put_event_words g c =
    as_text (as_line c.args.entry _ c.from.ensures)
    (and_then c.in_ok-put_counted.ensures (and_then c.in_ok-put.ensures
    (and_stop _ c.in_err-put_event_words.ensures c.from_residual-in_err-put_event_words.ensures.0)))

pub returns : goal.returns
unfolding after_thread
returns g c =
    as_text (as_line c.args.entry _ c.from.ensures)
    (and_then c.in_ok-put_counted.ensures (and_then c.in_ok-put.ensures (and_then c.in_ok-put_event_words.ensures
    (and_end c.put-2.ensures))))
