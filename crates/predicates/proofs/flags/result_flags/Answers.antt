use Rattle.std.proofs.Common.{◌≡◌, ◌∙◌, ℕ, List, ap, ap₂, sym, take, length, arith}
use Rattle.std.proofs.Math.Seq.{take-length}
use Rattle.vector_elements.specs.Elements.{active_of}
use Rattle.vector_elements.specs.Numbers.{bytes_in}
use Rattle.predicates.specs.Flags.{flags_of}
use Rattle.predicates.proofs.flags.result_flags.Goals as goal

-- a list of two as its first two
both : (xs : List ℕ) → length xs ≡ 2 → take 2 xs ≡ xs
both xs two = ap (λ k. take k xs) (sym two) ∙ take-length xs

pub returns-then-mask-eq2 : goal.returns-then-mask-eq2
returns-then-mask-eq2 c =
    let width = bytes_in c.args.size in
    c.flags_by.ensures
    ∙ ap₂ (λ a b. flags_of (active_of width a) (active_of width b)) (both c.args.mask.now (omega arith))
    (both c.args.results.now (omega arith))
