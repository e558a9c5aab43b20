-- What a report tells of a thread.
use Rattle.std.proofs.Common.{◌≡◌, ℕ, ◌<◌, List, length, map, get_or, ap, sym, ◌∙◌, subst}
use Rattle.std.specs.Prelude.{slice_index}
use Rattle.std.proofs.lemmas.List.{get_or-map, length-map}
use Rattle.report_reader.specs.Block.{Block}
use Rattle.report_reader.specs.Told.{block_said}
use Rattle.report_reader.specs.declared.parts.ReportBlock.{ReportBlock}

-- a number that is told of each block, at a thread
pub told_at : (f : Block → ℕ) (blocks : List ReportBlock) (k : ℕ) (b : ReportBlock) → b ≡ get_or blocks k b → k < length blocks
    → f (block_said b) ≡ slice_index (map f (map block_said blocks)) k
told_at f blocks k b here l =
    let inside : k < length (map block_said blocks) = subst (λ n. k < n) (sym (length-map blocks block_said)) l in
    ap (λ x. f (block_said x)) here
    ∙ sym (get_or-map f (map block_said blocks) k (block_said b) 0 inside
    ∙ ap f (get_or-map block_said blocks k b (block_said b) l))
