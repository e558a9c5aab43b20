use Rattle.std.proofs.Common.{◌≡◌, ℕ, ◌*◌, Bool, refl, ap, sym, ◌∙◌}
use Rattle.std.specs.Prelude.{nat_le}
use Rattle.field_table.proofs.Reading.{reads_more, fails_more}
use Rattle.ckpt_fields.specs.Rows.{is_count, are_events, thread_rows}
use Rattle.ckpt_fields.specs.Values.{thread_values}
use Rattle.ckpt_fields.proofs.Chains.{passed_on}
use Rattle.ckpt_fields.proofs.parts.read_progress.Goals as goal

-- what the code tells of a number is what the table says of it
count_right : {there told : ℕ} (budget count : ℕ) {is_right : Bool} → told ≡ there → is_right ≡ is_count told budget count
    → is_count there budget count ≡ is_right
count_right {there} {told} budget count e h = ap (λ k. is_count k budget count) (sym e) ∙ sym h

events_right : {there told : ℕ} (events : ℕ) {is_right : Bool} → told ≡ there → is_right ≡ are_events told events
    → are_events there events ≡ is_right
events_right {there} {told} events e h = ap (λ k. are_events k events) (sym e) ∙ sym h

pub returns-in_err-pass_word : goal.returns-in_err-pass_word
unfolding thread_rows thread_values
returns-in_err-pass_word c = λ next.
    passed_on _ _ _ _ _ _ _ c.from_residual.ensures.1
    (c.in_err-pass_word.ensures.read _ _ refl)

pub returns-in_err-pass_word-2 : goal.returns-in_err-pass_word-2
unfolding thread_rows thread_values
returns-in_err-pass_word-2 c = λ next.
    passed_on _ _ _ _ _ _ _ c.from_residual-in_err-pass_word-2.ensures.1
    (fails_more (c.in_ok-pass_word.ensures.read _ _ refl)
    (c.in_err-pass_word-2.ensures.read _ _ (count_right _ _ c.count_told.ensures c.is_count-is_right.ensures)))

pub returns-in_err-pass_word-3 : goal.returns-in_err-pass_word-3
unfolding thread_rows thread_values
returns-in_err-pass_word-3 c = λ next.
    passed_on _ _ _ _ _ _ _ c.from_residual-in_err-pass_word-3.ensures.1
    (fails_more (c.in_ok-pass_word.ensures.read _ _ refl)
    (fails_more (c.in_ok-pass_word-2.ensures.read _ _ (count_right _ _ c.count_told.ensures c.is_count-is_right.ensures))
    (c.in_err-pass_word-3.ensures.read _ _ (events_right _ c.events_told.ensures c.are_events-is_right.ensures))))

pub returns-in_err-pass_word-4 : goal.returns-in_err-pass_word-4
unfolding thread_rows thread_values
returns-in_err-pass_word-4 c = λ next.
    passed_on _ _ _ _ _ _ _ c.from_residual-in_err-pass_word-4.ensures.1
    (fails_more (c.in_ok-pass_word.ensures.read _ _ refl)
    (fails_more (c.in_ok-pass_word-2.ensures.read _ _ (count_right _ _ c.count_told.ensures c.is_count-is_right.ensures))
    (fails_more (c.in_ok-pass_word-3.ensures.read _ _ (events_right _ c.events_told.ensures c.are_events-is_right.ensures))
    (c.in_err-pass_word-4.ensures.read _ _ (ap (λ k. nat_le c.word-depth.result k) (sym c.most_depth.ensures))))))

pub returns-in_err-pass_doubleword : goal.returns-in_err-pass_doubleword
unfolding thread_rows thread_values
returns-in_err-pass_doubleword c = λ next.
    passed_on _ _ _ _ _ _ _ c.from_residual-in_err-pass_doubleword.ensures.1
    (fails_more (c.in_ok-pass_word.ensures.read _ _ refl)
    (fails_more (c.in_ok-pass_word-2.ensures.read _ _ (count_right _ _ c.count_told.ensures c.is_count-is_right.ensures))
    (fails_more (c.in_ok-pass_word-3.ensures.read _ _ (events_right _ c.events_told.ensures c.are_events-is_right.ensures))
    (fails_more (c.in_ok-pass_word-4.ensures.read _ _ (ap (λ k. nat_le c.word-depth.result k) (sym c.most_depth.ensures)))
    (c.in_err-pass_doubleword.ensures.read _ _ (ap (λ k. nat_le c.doubleword-turns.result (64 * k)) (sym c.from.ensures)))))))

pub returns : goal.returns
unfolding thread_rows thread_values
returns c = λ next.
    reads_more (c.in_ok-pass_word.ensures.read _ _ refl)
    (reads_more (c.in_ok-pass_word-2.ensures.read _ _ (count_right _ _ c.count_told.ensures c.is_count-is_right.ensures))
    (reads_more (c.in_ok-pass_word-3.ensures.read _ _ (events_right _ c.events_told.ensures c.are_events-is_right.ensures))
    (reads_more (c.in_ok-pass_word-4.ensures.read _ _ (ap (λ k. nat_le c.word-depth.result k) (sym c.most_depth.ensures)))
    (c.in_ok-pass_doubleword.ensures.read _ _ (ap (λ k. nat_le c.doubleword-turns.result (64 * k)) (sym c.from.ensures))))))
