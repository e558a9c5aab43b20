-- What a guest thread is, as the kernel keeps it.
use Rattle.paged_memory.specs.Image.{Program}
use Rattle.std.specs.Prelude.{◌≡◌, ℕ, ◌+◌, length, Bool, true, []}
use Rattle.std.specs.Coded.{→_prop}
use Rattle.mem_access.specs.Bank.{bank_state}
use Rattle.mem_access.specs.declared.bank.Bank.{Bank}
use Rattle.sve_vectors.specs.Registers.{zero_registers}
use Rattle.machine_step.specs.ProcessorState.{VectorState}
use Rattle.machine_step.specs.Machine.{core_of}
use Rattle.kernel_contexts.specs.State.{State}
use Rattle.kernel_contexts.specs.HandlerTable.{handlers_of}
use Rattle.kernel_contexts.specs.Standing.{IsRunOf, IsRunOf-prop}
use Rattle.kernel_contexts.specs.declared.guest.GuestThread.{GuestThread}

-- the plain state of a guest thread with a bank
abbrev pub guest_state : GuestThread → VectorState → State
guest_state g bank = record {
  core = core_of g.machine bank;
  handlers = handlers_of g.handlers;
  held = g.held;
  mask = g.mask;
  depth = g.depth;
  polled = g.polled;
  output = g.output.items;
  count = g.count;
  turns = g.turns;
}

-- the events so far, from the start of its journal: those before the ones that it keeps, and these
abbrev pub guest_events : GuestThread → ℕ
guest_events g = g.earlier + length g.journal.items

-- it began at its start: its journal has all its events, and its count explains its turns
pub record IsFromStart (g : GuestThread) : Type 0 where
  pub earlier : g.earlier ≡ 0
  pub begun : g.begun ≡ 0

-- with the vectors of a bank
abbrev pub held_state : GuestThread → Bank → State
held_state g bank = guest_state g (bank_state bank)

-- vectors of no length
abbrev pub no_vectors : VectorState
no_vectors = record { registers = zero_registers 0; za = [] }

-- the plain state of a guest thread but for its vectors
abbrev pub bare_state : GuestThread → State
bare_state g = guest_state g no_vectors

-- with the vectors of a bank it is a run of a program: its state and its stop are those to which its turns
-- come over its journal
abbrev pub IsGuestRun : Program → GuestThread → Bank → Type 0
IsGuestRun program g bank = IsRunOf program g.config g.number g.journal.items (held_state g bank) g.stop

pub IsGuestRun-prop : (program : Program) (g : GuestThread) (bank : Bank) → IsProp (IsGuestRun program g bank)
IsGuestRun-prop program g bank =
    IsRunOf-prop program g.config g.number g.journal.items (held_state g bank) g.stop

-- where its vectors are home, that is so with those of its save area
abbrev pub IsHomeRun : Bool → Program → GuestThread → Bank → Type 0
IsHomeRun home program g bank = home ≡ true → IsGuestRun program g bank

pub one_home_run : (home : Bool) (program : Program) (g : GuestThread) (bank : Bank)
    → IsProp (IsHomeRun home program g bank)
one_home_run home program g bank = →_prop (IsGuestRun-prop program g bank)
