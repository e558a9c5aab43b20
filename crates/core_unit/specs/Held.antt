-- A guest thread as a core has it.
use Rattle.std.specs.Prelude.{List, map}
use Rattle.mem_access.specs.declared.bank.Bank.{Bank}
use Rattle.kernel_contexts.specs.Guest.{Guest, guest_of, guest_on}
use Rattle.kernel_contexts.specs.declared.context.Context.{Context}

-- a guest thread with the ticket of its accesses
pub record Held (T : Type 0) : Type 0 where
  pub guest : Guest
  pub ticket : T

-- the guest threads of some contexts that are home, each with its ticket
abbrev pub held_of : {X T : Type 0} → (X → Context) → (X → T) → List X → List (Held T)
held_of context ticket xs = map (λ x. record { guest = guest_of (context x); ticket = ticket x }) xs

-- the guest threads of some contexts whose vectors may be in the bank of a core, each with its ticket
abbrev pub held_on : {X T : Type 0} → (X → Context) → (X → T) → Bank → List X → List (Held T)
held_on context ticket bank xs =
    map (λ x. record { guest = guest_on bank (context x); ticket = ticket x }) xs
