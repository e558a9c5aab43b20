use Rattle.std.proofs.Common.{◌<◌, ap, ◌∙◌, sym, arith, length, Vec, ℕ, Global}
use Rattle.sve_vectors.specs.Layout.{room_of}
use Rattle.sve_vectors.specs.State.{SveState}
use Rattle.sve_vectors.proofs.Lent.{vector_swapped, swapped_kept}
use Rattle.sve_vectors.proofs.vectors.Vectors.swap_row.Goals as goal

pub invariant_of-self : goal.invariant_of-self
invariant_of-self c =
    let long = ap (λ (row : Vec ℕ Global). length row.items) c.replace-old.ensures.after ∙ c.requires.long
    ∙ sym (ap (λ (s : SveState). room_of s.vl s.svl) c.self.view_is) in
    let lt : c.from.result < 32 = omega arith in
    swapped_kept c.self.inside c.self.invariant c.from.result c.replace-old.new.dest lt long

pub returns : goal.returns
returns c =
    rw (← c.self.view_is, ← c.from.ensures, ← c.replace-old.ensures.after, ← c.self.invariant.current)
    (vector_swapped c.self.inside c.self.invariant c.from.result c.replace-old.new.dest)
