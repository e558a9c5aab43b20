use Rattle.std.proofs.Common.{◌≡◌, ◌∙◌, ℕ, ◌<◌, ◌==◌, ◌&&◌, ◌+◌, ◌-◌, ◌%◌, not, ap, sym, refl, arith, Bool, true, false}
use Rattle.std.proofs.lemmas.Bool.Decides.{nat_tests}
use Rattle.std.proofs.lemmas.Nat.Bits.{bit_at-lt}
use Rattle.bit_ops.specs.Bits.{digit_at}
use Rattle.bit_ops.specs.Masks.{starts_at}
use Rattle.bit_ops.proofs.masks.is_start.Goals as goal

zero_test : (d : ℕ) → d < 2 → not (d == 1) ≡ (d == 0)
zero_test d lt = grind (arith, nat_tests)

both : (a b c : Bool) → a ≡ true → b ≡ c → b ≡ (a && c)
both true b c e f = f
both false b c e f = cc

neither : (a c : Bool) → a ≡ false → a ≡ (a && c)
neither false c e = refl
neither true c e = cc

pub returns-then-is_one : goal.returns-then-is_one
unfolding starts_at
returns-then-is_one c =
    let below = (c.args.place + (c.args.width - 1)) % c.args.width in
    both (digit_at 2 c.args.word c.args.place == 1) _ _ (sym c.is_one.ensures ∙ c.if-is_one.true)
    (ap not c.is_one-then-is_one.ensures ∙ zero_test (digit_at 2 c.args.word below) (bit_at-lt c.args.word below))

pub returns-else-is_one : goal.returns-else-is_one
unfolding starts_at
returns-else-is_one c =
    c.is_one.ensures ∙ neither (digit_at 2 c.args.word c.args.place == 1) _ (sym c.is_one.ensures ∙ c.if-is_one.false)
