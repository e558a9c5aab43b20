-- The returns of marked calls in the states of a run, and the faults of their callees and their callers.
-- Source: AAPCS64, the ZA lazy saving scheme. How many calls may be open is this project's own.
use Rattle.std.specs.Prelude.{ℕ, zero, suc, ◌<◌, ◌≤◌}
use Rattle.scalar_exec.specs.Registers.{x_of}
use Rattle.kernel_contexts.specs.State.{State}
use Rattle.lazy_saving.specs.Dormant.{Places, IsDormantAt, IsLawful}
use Rattle.abi_checker.specs.Marks.{IsMarkedCall, IsBackFrom}
use Rattle.abi_checker.specs.Numbers.{NumberOf}
use Rattle.abi_checker.specs.declared.abi.AbiKind.{AbiKind}
use Rattle.abi_checker.specs.declared.abi.AbiKind.TheVariants.{NotDormant, NotLawful, TooDeep}

-- the address of the block of a call: X19 of the state after it
abbrev pub block_of : State → ℕ
block_of s = x_of s.core.scalars 19

-- how many calls may be open at once
abbrev pub open_limit : ℕ
open_limit = 256

-- a run is its states, after 0, 1, 2 and more turns
module _ (run : ℕ → State) where
  -- the last turn before state n is a marked call
  abbrev pub IsMarkedAt : Places → ℕ → Type 0
  IsMarkedAt p zero = ⊥
  IsMarkedAt p (suc n) = IsMarkedCall p (run n) (run (suc n))

  -- state n is the return of the call before state c: the first after it that is back from it
  pub record IsReturn (p : Places) (c n : ℕ) : Type 0 where
    pub marked : IsMarkedAt p c
    pub after : c < n
    pub back : IsBackFrom p (run c) (run n)
    pub first : (m : ℕ) → c < m → m < n → ¬ IsBackFrom p (run c) (run m)

  -- the call before state c has returned by state n
  pub record HasReturned (n c : ℕ) : Type 0 where
    pub places : Places
    pub at : ℕ
    pub by : at ≤ n
    pub return : IsReturn places c at

  -- it has not
  pub record IsOpen (n c : ℕ) : Type 0 where
    pub places : Places
    pub marked : IsMarkedAt places c
    pub never : (m : ℕ) → c < m → m ≤ n → ¬ IsBackFrom places (run c) (run m)

  -- each call that has returned by state n had a lawful callee
  abbrev pub AreLawful : ℕ → Type 0
  AreLawful n =
      (c m : ℕ) (p : Places) → m ≤ n → IsReturn p c m → IsLawful p (run c).core (run m).core (block_of (run c))

  -- ---- faults

  -- state n is the return of a call whose callee was not lawful
  pub record ReturnsUnlawfully (n : ℕ) : Type 0 where
    pub call : ℕ
    pub places : Places
    pub return : IsReturn places call n
    pub unlawful : ¬ IsLawful places (run call).core (run n).core (block_of (run call))

  -- state n is that after a marked call, and its ZA is not dormant at X19
  pub record CallsUndormant (n : ℕ) : Type 0 where
    pub places : Places
    pub marked : IsMarkedAt places n
    pub active : ¬ IsDormantAt places (run n).core (block_of (run n))

  -- state n is that after a marked call, and as many as may be open are
  pub record CallsTooDeep (n : ℕ) : Type 0 where
    pub places : Places
    pub marked : IsMarkedAt places n
    pub depth : ℕ
    pub others : NumberOf (IsOpen n) n depth
    pub many : open_limit ≤ depth

  abbrev pub HasFault : ℕ → AbiKind → Type 0
  HasFault n NotLawful = ReturnsUnlawfully n
  HasFault n NotDormant = CallsUndormant n
  HasFault n TooDeep = CallsTooDeep n

  -- in one state returns come before a new call, of which that it is not dormant comes first
  abbrev pub order_of : AbiKind → ℕ
  order_of NotLawful = 0
  order_of NotDormant = 1
  order_of TooDeep = 2

  -- the first fault of the run is of this kind, in state n
  pub record IsFirstFault (n : ℕ) (kind : AbiKind) : Type 0 where
    pub fault : HasFault n kind
    pub earlier : (m : ℕ) (other : AbiKind) → m < n → ¬ HasFault m other
    pub sooner : (other : AbiKind) → order_of other < order_of kind → ¬ HasFault n other
