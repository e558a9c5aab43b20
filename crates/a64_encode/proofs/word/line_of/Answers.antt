use Rattle.std.proofs.Common.{◌≡◌, ℕ, ◌+◌, ◌<◌, ◌==◌, Bool, true, false, List, [], Some, refl, sym}
use Rattle.std.proofs.Common.{ap, ◌∙◌, arith, eqb-true}
use Rattle.std.specs.Prelude.{slice_get}
use Rattle.std.proofs.lemmas.Bool.{both_ways, eqb-false}
use Rattle.std.proofs.lemmas.Option.{slice_get_within}
use Rattle.plain_lemmas.proofs.Lists.{slice_get-found}
use Rattle.insn_forms.specs.declared.line.Line.{Line}
use Rattle.insn_forms.proofs.Deciding.{some_is}
use Rattle.a64_encode.proofs.word.line_of.Goals as goal

module _ {O : Type 0} (number_of : O → ℕ) where
  more : (lines : List (Line O)) (number k : ℕ) (d : Line O) → slice_get lines k ≡ Some d → (number_of d.operation ≡ number → ⊥)
      → ((place : ℕ) (line : Line O) → place < k → slice_get lines place ≡ Some line → number_of line.operation ≡ number → ⊥)
      → (place : ℕ) (line : Line O) → place < k + 1 → slice_get lines place ≡ Some line → number_of line.operation ≡ number → ⊥
  more lines number k d found never before place line le g e = go (place == k) refl
    where
      go : (b : Bool) → (place == k) ≡ b → ⊥
      go true h =
          never (ap (λ (r : Line O). number_of r.operation)
          (some_is (sym found ∙ sym (ap (slice_get lines) (eqb-true place k h)) ∙ g)) ∙ e)
      go false h = let n = eqb-false place k h in before place line (omega arith) g e

pub returns-then-has_number : goal.returns-then-has_number
returns-then-has_number g c =
    record {
      place = c.loop-line.line-index;
      listed = slice_get-found c.args.lines.now c.loop-line.line-index c.line-item.result c.loop-line-test.true c.line-item.is;
      same = c.has_number.ensures.0 c.if-has_number.true;
    }

pub loop-line-preserved : goal.loop-line-preserved
loop-line-preserved g c =
    more g.O.TableOperation.number c.args.lines.now c.args.number c.loop-line.line-index c.line-item.result
    (slice_get-found c.args.lines.now c.loop-line.line-index c.line-item.result c.loop-line-test.true c.line-item.is)
    (λ e. both_ways _ c.if-has_number.false (c.has_number.ensures.1 e)) c.loop-line.invariant

pub returns : goal.returns
returns g c place line h e =
    let lt = slice_get_within c.args.lines.now place line h in
    c.loop-line.invariant place line (omega arith) h e
