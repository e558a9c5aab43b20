use Rattle.std.proofs.Common.{◌≡◌, ◌<◌, ◌≤◌, ℕ, List, [], length, sym, ap, refl, arith, false}
use Rattle.std.specs.Prelude.{slice_index_or}
use Rattle.plain_lemmas.proofs.Tests.{not_IsTrue-false}
use Rattle.sve_vectors.specs.Layout.{items_of}
use Rattle.lazy_saving.specs.Block.{buffer_of, saved_of}
use Rattle.abi_checker.proofs.Rows.{at_most, row_long, few_saved, row_is, saved_at, saved_more, is_saved_slice, no_saved_slice}
use Rattle.abi_checker.proofs.open_call.OpenCall.is_saved.Goals as goal
use Rattle.abi_checker.proofs.open_call.OpenCall.is_saved.Goals.{else-done-saved-via-then-done-saved+else-not-has_row}
use Rattle.abi_checker.proofs.open_call.OpenCall.is_saved.Goals.{else-done-saved-via-else-done-saved}

pub has_row-requires : goal.has_row-requires
has_row-requires c =
    let call = c.args.self.now in
    let i = c.slices.index in
    let below : i < length call.za.items = omega (arith, c.slices-test.true, c.len-size.ensures) in
    let row = row_is call i c.as_slice.result.now c.index.result.now below c.as_slice.ensures.value c.index.ensures in
    let long = ap (λ (l : List ℕ). length l) row in
    omega (arith, long, row_long call c.requires i below, at_most call c.requires)

pub returns-then-not-has_row : goal.returns-then-not-has_row
returns-then-not-has_row c =
    let call = c.args.self.now in
    let i = c.slices.index in
    let below : i < length call.za.items = omega (arith, c.slices-test.true, c.len-size.ensures) in
    let wide : length call.za.items ≡ c.len-size.result = omega (arith, c.len-size.ensures) in
    let row = row_is call i c.as_slice.result.now c.index.result.now below c.as_slice.ensures.value c.index.ensures in
    let few = is_saved_slice i c.len-size.result (saved_of call.bytes.block) c.saved_bytes-saved.result c.saved_bytes-saved.ensures
    c.if-done-saved.true in (
      λ e. absurd (not_IsTrue-false e),
      λ h.
          let there = saved_at c.args.pages.now.memory (buffer_of call.bytes.block) c.buffer_address-buffer.result (length call.za.items)
          c.len-size.result i (slice_index_or (items_of call.za.items) i []) c.as_slice.result.now (sym c.buffer_address-buffer.ensures)
          wide (sym row) (h i few) in
          let yes = c.has_row.ensures.1 there in
          let no = c.if-not-has_row.true in
          cc,
    )

pub slices-preserved : goal.slices-preserved
slices-preserved c =
    let call = c.args.self.now in
    let i = c.slices.index in
    let below : i < length call.za.items = omega (arith, c.slices-test.true, c.len-size.ensures) in
    let wide : length call.za.items ≡ c.len-size.result = omega (arith, c.len-size.ensures) in
    let most : saved_of call.bytes.block ≤ c.len-size.result = omega (arith, few_saved call c.requires, wide) in
    saved_more call c.args.pages.now.memory i c.slices.invariant
    (λ few. elim c.else-done-saved.branch [
      | else-done-saved-via-then-done-saved+else-not-has_row w ↦
          let row = row_is call i w.as_slice.result.now w.index.result.now below w.as_slice.ensures.value w.index.ensures in
          saved_at c.args.pages.now.memory c.buffer_address-buffer.result (buffer_of call.bytes.block) c.len-size.result
          (length call.za.items) i w.as_slice.result.now (slice_index_or (items_of call.za.items) i []) c.buffer_address-buffer.ensures
          (sym wide) row (w.has_row.ensures.0 w.if-not-has_row.false)
      | else-done-saved-via-else-done-saved w ↦
          absurd (no_saved_slice i c.len-size.result (saved_of call.bytes.block) c.saved_bytes-saved.result c.saved_bytes-saved.ensures
          w.if-done-saved.false most few)
    ])

pub returns : goal.returns
returns c =
    let call = c.args.self.now in
    let few = few_saved call c.requires in (
      λ _ i l. c.slices.invariant i (omega (arith, l, few, c.slices-test.false, c.len-size.ensures)) l,
      λ _. refl,
    )
