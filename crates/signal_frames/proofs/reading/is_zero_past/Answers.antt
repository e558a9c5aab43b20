use Rattle.std.proofs.Common.{◌==◌, ◌+◌, ◌-◌, ◌*◌, ◌/◌, refl, ap, ◌∙◌, arith, length-take, length-drop}
use Rattle.std.specs.List.{list_all}
use Rattle.signal_frames.specs.Saved.{is_zero_past, past_ffr}
use Rattle.signal_frames.proofs.Fetching.{part_read}
use Rattle.signal_frames.proofs.reading.is_zero_past.Goals as goal

pub returns : goal.returns
unfolding is_zero_past
returns c = λ body stands fits.
    let v = c.args.vector_size in
    c.are_zero.ensures
    ∙ ap (list_all (λ b. b == 0)) (c.fetch.ensures (past_ffr v body)
    (part_read c.args.pages.now.memory c.args.start (34 * v + v / 8) (32 - v / 8) _ _ body stands (omega arith) refl
    (simp (length-take, length-drop) (omega arith))))
