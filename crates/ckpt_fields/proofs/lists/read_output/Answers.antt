use Rattle.std.proofs.Common.{◌≡◌, ◌++◌, ◌∷◌, [], List, ℕ, length, refl, ap, arith}
use Rattle.std.specs.Prelude.{nat_le, ◌≤◌, true}
use Rattle.std.proofs.lemmas.Bool.Decides.{nat_tests}
use Rattle.field_table.proofs.Reading.{reads_more, fails_more, one_field}
use Rattle.ckpt_fields.specs.Rows.{output_rows}
use Rattle.ckpt_fields.specs.Values.{words, output_values}
use Rattle.ckpt_fields.proofs.Chains.{passed_on, reads_as}
use Rattle.ckpt_fields.proofs.lists.read_output.Goals as goal

pub returns-in_err-pass_word-clause-read : goal.returns-in_err-pass_word-clause-read
unfolding output_rows
returns-in_err-pass_word-clause-read c = λ next.
    passed_on _ _ _ _ _ _ _ c.from_residual.ensures.1
    (c.in_err-pass_word.ensures.read _ _ refl)

pub returns-in_err-output-clause-read : goal.returns-in_err-output-clause-read
unfolding output_rows
returns-in_err-output-clause-read c = λ next.
    passed_on _ _ _ _ _ _ _ c.from_residual-in_err-output.ensures.1
    (fails_more (c.in_ok-pass_word.ensures.read _ _ refl) (c.in_err-output.ensures.read _))

pub returns-clause-read : goal.returns-clause-read
unfolding output_rows output_values
returns-clause-read c = λ next.
    let bytes : List ℕ = c.in_ok-output.output.now in
    let size : c.word-size.result ≡ length bytes = omega (arith, c.in_ok-output.ensures.size) in
    reads_as (words (c.word-size.result ∷ []) ++ (bytes ∷ [])) (words (length bytes ∷ []) ++ (bytes ∷ []))
    (ap (λ n. words (n ∷ []) ++ (bytes ∷ [])) size)
    (reads_more (c.in_ok-pass_word.ensures.read _ _ refl)
    (reads_as _ (bytes ∷ []) (one_field c.word-size.result bytes bytes c.in_ok-output.ensures.size refl) (c.in_ok-output.ensures.read _)))

pub returns-clause-few : goal.returns-clause-few
returns-clause-few c =
    let right : nat_le c.word-size.result 1048576 ≡ true = c.in_ok-pass_word.ensures.right in
    let few : c.word-size.result ≤ 1048576 = grind (arith, nat_tests) in
    omega (arith, few, c.in_ok-output.ensures.size)
