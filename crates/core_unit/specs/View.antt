-- What is seen of a core.
use Rattle.std.specs.Prelude.{ℕ, List, Option, map}
use Rattle.mem_access.specs.declared.bank.Bank.{Bank}
use Rattle.kernel_contexts.specs.declared.context.Context.{Context}
use Rattle.kernel_contexts.specs.declared.whole.Whole.{Whole}
use Rattle.core_unit.specs.CoreState.{CoreState}
use Rattle.kernel_contexts.specs.Guest.{guest_of}
use Rattle.core_unit.specs.Held.{Held, held_of, held_on}
use Rattle.core_unit.specs.declared.unit.Core.{Core}

-- a whole context
abbrev pub held_by : {P T : Type 0} {b : _} → Whole P T b → Held T
held_by w = record { guest = guest_of w.context; ticket = w.ticket }

-- a core
abbrev pub core_state : {P T : Type 0} {b : _} → Core P T b → CoreState T
core_state c = record {
  number = c.number;
  config = c.config;
  residents = held_on (λ r. r.context) (λ r. r.ticket) c.bank c.residents.items;
  done = held_of (λ w. w.context) (λ w. w.ticket) c.done.items;
}

-- its bank, and the thread that owns that, if one does
abbrev pub bank_in : {P T : Type 0} {b : _} → Core P T b → Bank
bank_in c = c.bank

abbrev pub owner_of : {P T : Type 0} {b : _} → Core P T b → Option ℕ
owner_of c = c.bank.owner

-- the contexts of its residents, each with its save area
abbrev pub contexts_in : {P T : Type 0} {b : _} → Core P T b → List Context
contexts_in c = map (λ r. r.context) c.residents.items
