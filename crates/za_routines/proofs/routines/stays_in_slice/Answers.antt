use Rattle.std.proofs.Common.{◌≡◌, ◌↔◌, ◌+◌, ◌<◌, ◌%◌, ◌==◌, ℕ, false, IsTrue, ap₂, sym, arith, subst}
use Rattle.std.specs.Prelude.{nat_le}
use Rattle.za_routines.proofs.Limits.{stays_where}
use Rattle.za_routines.proofs.routines.stays_in_slice.Goals as goal

pub returns : goal.returns
returns c =
    let e = c.args in
    let sum = ap₂ (λ a b. a + b) c.from.ensures c.from-2.ensures in
    subst (λ b. IsTrue b ↔ ((n : ℕ) → 0 < n → n < e.turns → ((e.count + n) % e.slice == 0) ≡ false))
    (sym (ap₂ nat_le sum c.from-3.ensures)) (stays_where e.count e.turns e.slice (omega (arith, c.requires.slice)))
