use Rattle.signal_frames.proofs.in_range.numbers_fit.Goals as goal

pub returns : goal.returns
returns c = λ k. (c.type_inv.numbers k).fits
