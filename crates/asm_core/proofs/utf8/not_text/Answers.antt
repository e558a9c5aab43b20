use Rattle.std.proofs.Common.{◌≡◌, ℕ, false, nat_lt, length, arith}
use Rattle.std.proofs.lemmas.Bool.Decides.{nat_tests}
use Rattle.std.proofs.lemmas.Str.{utf8_valid_len-IsUtf8}
use Rattle.asm_core.proofs.utf8.not_text.Goals as goal

not_below : (n : ℕ) → nat_lt n n ≡ false
not_below n = grind (arith, nat_tests)

pub returns-in-Ok : goal.returns-in-Ok
returns-in-Ok c = rw (utf8_valid_len-IsUtf8 c.args.source.now c.in-Ok.ensures.cases.1) (not_below (length c.args.source.now))
