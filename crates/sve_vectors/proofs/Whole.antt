-- For callers: a slice that was written as a whole, and the lengths that are kept.
use Rattle.std.proofs.Common.{◌≡◌, ℕ, ◌*◌, List, [], length, get_or, ap, ◌∙◌, sym}
use Rattle.sve_vectors.specs.Predicates.{truths_of}
use Rattle.sve_vectors.specs.State.{SveState, with_vector, with_predicate, with_ffr}
use Rattle.sve_vectors.specs.Lending.{with_vector_bytes, with_predicate_bytes, with_ffr_bytes}
use Rattle.sve_vectors.proofs.Writing.{overwritten_whole, length-truths}

same_truths : (old bytes : List ℕ) → length bytes ≡ length old → length (truths_of bytes) ≡ length (truths_of old)
same_truths old bytes e = length-truths bytes ∙ ap (λ n. 8 * n) e ∙ sym (length-truths old)

pub vector_whole : (s : SveState) (n : ℕ) (bytes : List ℕ) → length bytes ≡ length (get_or s.registers.vectors n [])
    → with_vector_bytes s n bytes ≡ with_vector s n bytes
vector_whole s n bytes e = ap (with_vector s n) (overwritten_whole (get_or s.registers.vectors n []) bytes e)

-- old is what stood behind the slice
pub predicate_whole : (s : SveState) (n : ℕ) (old bytes : List ℕ) → truths_of old ≡ get_or s.registers.predicates n []
    → length bytes ≡ length old → with_predicate_bytes s n bytes ≡ with_predicate s n (truths_of bytes)
predicate_whole s n old bytes is e =
    ap (with_predicate s n)
    (overwritten_whole (get_or s.registers.predicates n []) (truths_of bytes) (same_truths old bytes e ∙ ap length is))

pub ffr_whole : (s : SveState) (old bytes : List ℕ) → truths_of old ≡ s.registers.ffr
    → length bytes ≡ length old → with_ffr_bytes s bytes ≡ with_ffr s (truths_of bytes)
ffr_whole s old bytes is e =
    ap (with_ffr s) (overwritten_whole s.registers.ffr (truths_of bytes) (same_truths old bytes e ∙ ap length is))
