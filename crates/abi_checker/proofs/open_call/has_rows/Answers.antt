use Rattle.std.proofs.Common.{rules, ◌≡◌, ◌≢◌, ◌∙◌, ℕ, List, [], get_or, length, sym, ap, refl, arith, below_more}
use Rattle.abi_checker.proofs.Same.{row_at, rows_same}
use Rattle.abi_checker.proofs.open_call.has_rows.Goals as goal

pub returns-then-ne : goal.returns-then-ne
returns-then-ne c =
    let row = row_at c.args.rows.now c.rows.index c.index-rows-index.result c.rows-test.true in
    let apart : c.as_slice.result.now ≢ c.vector.result.now = search rules in (
      λ h. cc,
      λ e. absurd (apart (c.as_slice.ensures.value ∙ ap (λ v. v.items) c.index-rows-index.is ∙ sym row
          ∙ sym (ap (λ (l : List (List ℕ)). get_or l c.rows.index []) e) ∙ sym c.vector.ensures.value)),
    )

pub rows-preserved : goal.rows-preserved
rows-preserved c =
    let row = row_at c.args.rows.now c.rows.index c.index-rows-index.result c.rows-test.true in
    let same : c.as_slice.result.now ≡ c.vector.result.now = search rules in
    below_more _ _ c.rows.invariant (sym c.vector.ensures.value ∙ sym same ∙ c.as_slice.ensures.value
    ∙ ap (λ v. v.items) c.index-rows-index.is ∙ sym row)

pub returns : goal.returns
returns c =
    let count = c.size.ensures.square.count in
    let value = c.size.ensures.value in
    let long : length c.args.rows.now ≡ length c.args.za.now.vectors = omega (arith, count, value) in (
      λ _. rows_same c.args.za.now.vectors c.args.rows.now long (λ k l. c.rows.invariant k (omega (arith, l))),
      λ _. refl,
    )
