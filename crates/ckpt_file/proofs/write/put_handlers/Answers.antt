use Rattle.std.proofs.Common.{◌≡◌, ◌≤◌, ◌++◌, ◌∷◌, [], length, take, ◌∙◌, arith}
use Rattle.std.specs.List.{flat_map}
use Rattle.std.proofs.lemmas.List.{take_all}
use Rattle.kernel_contexts.specs.HandlerTable.{set_from}
use Rattle.ckpt_fields.specs.Values.{words, handler_value, handler_values}
use Rattle.ckpt_file.proofs.Puts.{put_more, put_as, put_none, put_signal, set_nothing, set_count}
use Rattle.ckpt_file.proofs.write.put_handlers.Goals as goal

pub loop-signal-init : goal.loop-signal-init
loop-signal-init c = put_none _ (flat_map handler_value (set_from 0 [])) (set_nothing 0)

pub loop-signal-preserved : goal.loop-signal-preserved
loop-signal-preserved c =
    put_signal c.args.addresses.now c.loop-signal.signal _ _ _ c.loop-signal-test.true c.loop-signal.invariant c.in_ok-put_handler.ensures

pub returns : goal.returns
unfolding handler_values
returns c =
    let addresses = c.args.addresses.now in
    let past : length addresses ≤ c.loop-signal.signal = omega (arith, c.loop-signal-test.false) in
    let all : take c.loop-signal.signal addresses ≡ addresses = take_all c.loop-signal.signal addresses past in
    let count : c.handlers_set.result ≡ length (set_from 0 addresses) = c.handlers_set.ensures.value ∙ set_count 0 addresses in
    let before = words (c.handlers_set.result ∷ []) in
    let each = flat_map handler_value (set_from 0 (take c.loop-signal.signal addresses)) in
    let same : before ++ each ≡ handler_values (set_from 0 addresses) =
    λ i. words (count i ∷ []) ++ flat_map handler_value (set_from 0 (all i)) in
    put_as (before ++ each) (handler_values (set_from 0 addresses)) _ _ same
    (put_more before each _ _ _ c.in_ok-put_word.ensures c.loop-signal.invariant)
