use Rattle.std.proofs.Common.{◌≡◌, ◌==◌, ◌∷◌, [], true, false, arith}
use Rattle.std.specs.List.{flat_map}
use Rattle.std.proofs.lemmas.Bool.Decides.{nat_tests}
use Rattle.byteorder.specs.Endian.{little_bytes}
use Rattle.kernel_contexts.specs.HandlerTable.{set_from}
use Rattle.ckpt_fields.specs.Values.{handler_value}
use Rattle.ckpt_file.proofs.Puts.{put_more, put_as, put_none, set_one, set_none}
use Rattle.ckpt_file.proofs.write.put_handler.Goals as goal

pub returns-in_ok-put_doubleword : goal.returns-in_ok-put_doubleword
returns-in_ok-put_doubleword c =
    let signal = c.args.signal in
    let address = c.args.address in
    let some : (address == 0) ≡ false = grind (arith, nat_tests) in
    put_as (little_bytes 4 signal ∷ little_bytes 8 address ∷ []) (flat_map handler_value (set_from signal (address ∷ []))) _ _
    (set_one signal address some)
    (put_more (little_bytes 4 signal ∷ []) (little_bytes 8 address ∷ []) _ _ _ c.in_ok-put_word.ensures c.in_ok-put_doubleword.ensures)

pub returns-else-address-ne0 : goal.returns-else-address-ne0
returns-else-address-ne0 c =
    let none : (c.args.address == 0) ≡ true = grind (arith, nat_tests) in
    put_none _ (flat_map handler_value (set_from c.args.signal (c.args.address ∷ []))) (set_none c.args.signal c.args.address none)
