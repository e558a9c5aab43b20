use Rattle.std.proofs.Common.{◌≡◌, ◌+◌, ◌++◌, ◌∷◌, [], All, length, map, refl, ap, sym, ◌∙◌, subst, arith}
use Rattle.std.specs.Prelude.{nat_le, ◌≤◌, true}
use Rattle.std.proofs.lemmas.Bool.Decides.{nat_tests}
use Rattle.std.specs.List.{flat_map}
use Rattle.std.proofs.lemmas.List.{length_push, length-map}
use Rattle.std.proofs.lemmas.List.Elements.{All-nil, All-append}
use Rattle.field_table.specs.Rows.{repeated}
use Rattle.field_table.proofs.Reading.{item_reads, item_fails, items_begin, items_read}
use Rattle.ckpt_fields.specs.Rows.{handlers_of, handler_row}
use Rattle.ckpt_fields.specs.Values.{words, handler_value, handler_values, handler_said, IsNarrowHandler}
use Rattle.ckpt_fields.proofs.Chains.{reads_as}
use Rattle.ckpt_fields.proofs.Faults.{told_on}
use Rattle.ckpt_fields.proofs.Listed.{all_one, values_more, values_none}
use Rattle.ckpt_fields.proofs.lists.read_handlers.Goals as goal

pub returns-in_err-pass_word-clause-read : goal.returns-in_err-pass_word-clause-read
unfolding handlers_of
returns-in_err-pass_word-clause-read c = λ next.
    told_on _ _ _ _ _ _ _ c.from_residual.ensures.1
    (c.in_err-pass_word.ensures.read (λ n. nat_le n 62) (λ n. repeated handler_row n 0 next) refl)

pub handlers-init : goal.handlers-init
unfolding handlers_of
handlers-init c =
    let none : c.new-handlers.result.items ≡ [] = c.new-handlers.ensures.items in
    record {
      count = ap length none;
      narrow = subst (All IsNarrowHandler) (sym none) (All-nil IsNarrowHandler);
      read = λ next.
          reads_as (words (c.word-count.result ∷ [])) _
          (values_none handler_value handler_said (words (c.word-count.result ∷ [])) c.new-handlers.result.items none)
          (items_begin handler_row c.word-count.result 0 next (handlers_of next) (words (c.word-count.result ∷ [])) _ _
          (c.in_ok-pass_word.ensures.read (λ n. nat_le n 62) (λ n. repeated handler_row n 0 next) refl));
    }

pub returns-in_err-handler-clause-read : goal.returns-in_err-handler-clause-read
returns-in_err-handler-clause-read c = λ next.
    told_on _ _ _ _ _ _ _ c.from_residual-in_err-handler.ensures.1
    (item_fails handler_row c.word-count.result c.handlers._k c.handlers.last next (handlers_of next) _ _ _ c.in_err-handler.field-0.0
    c.handlers-test.true (c.handlers.invariant.read next) (λ follows. c.in_err-handler.ensures.read follows))

pub handlers-preserved : goal.handlers-preserved
handlers-preserved c =
    let more : c.push.new.self.items ≡ c.handlers.handlers.items ++ c.in_ok-handler.handler ∷ [] = c.in_ok-push.ensures.items in
    record {
      count = ap length more ∙ length_push c.handlers.handlers.items c.in_ok-handler.handler ∙ ap (λ n. n + 1) c.handlers.invariant.count;
      narrow = subst (All IsNarrowHandler) (sym more)
          (All-append IsNarrowHandler c.handlers.handlers.items (c.in_ok-handler.handler ∷ []) c.handlers.invariant.narrow
          (all_one IsNarrowHandler c.in_ok-handler.handler c.in_ok-handler.ensures.narrow));
      read = λ next.
          reads_as _ _
          (values_more handler_value handler_said (words (c.word-count.result ∷ [])) c.handlers.handlers.items c.push.new.self.items
          c.in_ok-handler.handler more)
          (item_reads handler_row c.word-count.result c.handlers._k c.handlers.last next c.in_ok-handler.handler.signal (handlers_of next)
          _ (handler_value (handler_said c.in_ok-handler.handler)) _ _ _ c.handlers-test.true (c.handlers.invariant.read next)
          (λ follows. c.in_ok-handler.ensures.read follows));
    }

pub returns-clause-read : goal.returns-clause-read
unfolding handler_values
returns-clause-read c = λ next.
    let items = c.handlers.handlers.items in
    let count : c.word-count.result ≡ length (map handler_said items) =
    omega (arith, length-map items handler_said, c.handlers.invariant.count, c.handlers-test.false, c.handlers.auto._k-end) in
    reads_as _ _ (ap (λ n. words (n ∷ []) ++ flat_map handler_value (map handler_said items)) count)
    (items_read handler_row c.word-count.result c.handlers._k c.handlers.last next (handlers_of next) _ _ _ c.handlers-test.false
    (c.handlers.invariant.read next))

pub returns-clause-few : goal.returns-clause-few
returns-clause-few c =
    let right : nat_le c.word-count.result 62 ≡ true = c.in_ok-pass_word.ensures.right in
    let few : c.word-count.result ≤ 62 = grind (arith, nat_tests) in
    omega (arith, few, c.handlers.invariant.count, c.handlers.auto._k-end)
