use Rattle.std.proofs.Common.{refl, arith}
use Rattle.abi_checker.proofs.permissions.have_same_pages.Goals as goal

pub returns : goal.returns
returns c = λ before after p q. (λ _ i l. c.pages.invariant before after p q i (omega (arith, l)), λ _. refl)
