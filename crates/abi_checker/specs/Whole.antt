-- The states of a run in which a marked call is made or returns, or a signal is delivered: whole and plain, as
-- those of each thread are.
use Rattle.std.specs.Prelude.{◌≡◌, ℕ, ◌<◌, ◌≤◌, true, length}
use Rattle.sm_types.specs.declared.config.Config.{Config}
use Rattle.paged_memory.specs.Memory.{IsWhole as IsWholeMemory}
use Rattle.machine_step.specs.ProcessorState.{ProcessorState}
use Rattle.kernel_contexts.specs.State.{State}
use Rattle.kernel_contexts.specs.Turn.{is_delivery_due}
use Rattle.kernel_contexts.specs.HandlerRun.{IsPlain}
use Rattle.lazy_saving.specs.Dormant.{Places}
use Rattle.lazy_saving.specs.Outcome.{IsWhole}
use Rattle.abi_checker.specs.Faults.{IsMarkedAt, IsReturn}

-- memory has its pages and permissions whole, and there are 31 registers and a square ZA of so many slices,
-- which are at most 256
pub record IsWholeWith (size : ℕ) (s : ProcessorState) : Type 0 where
  pub memory : IsWholeMemory s.memory
  pub core : IsWhole s
  pub slices : length s.bank.za ≡ size

module _ (run : ℕ → State) where
  -- state n is so, with as many slices as the first state has
  abbrev pub IsWholeAt : ℕ → Type 0
  IsWholeAt n = IsWholeWith (length (run 0).core.bank.za) (run n).core

  -- up to state n each is so that comes after a marked call, or is the return of one
  pub record AreWhole (n : ℕ) : Type 0 where
    pub calls : (m : ℕ) (p : Places) → m ≤ n → IsMarkedAt run p m → IsWholeAt m
    pub returns : (c m : ℕ) (p : Places) → m ≤ n → IsReturn run p c m → IsWholeAt m

  -- before state n a delivery is due in plain states alone
  abbrev pub ArePlainBefore : Config → ℕ → Type 0
  ArePlainBefore config n = (m : ℕ) → m < n → is_delivery_due config (run m) ≡ true → IsPlain config (run m)
