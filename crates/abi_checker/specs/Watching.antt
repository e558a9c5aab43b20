-- The marked calls of a run as far as the code has come, turn by turn.
use Rattle.std.specs.Prelude.{◌≡◌, ◌⊎◌, ℕ, zero, suc, ◌+◌, ◌<◌, ◌≤◌, ◌^◌, ◌++◌, List, [], ◌∷◌, length, Bool, true, false}
use Rattle.std.specs.Prelude.{Option, Some, None, IfSome, not}
use Rattle.std.specs.List.{All, filter}
use Rattle.paged_memory.specs.Memory.{word_at}
use Rattle.kernel_contexts.specs.State.{State}
use Rattle.za_routines.specs.Places.{places_of}
use Rattle.lazy_saving.specs.Dormant.{Places, IsDormantAt}
use Rattle.abi_checker.specs.Marks.{HasMark, IsCall, IsMarkedCall, IsBackFrom, is_call_word, past_call}
use Rattle.abi_checker.specs.Faults.{IsMarkedAt, HasFault, HasReturned, IsFirstFault, AreLawful, block_of}
use Rattle.abi_checker.specs.Whole.{AreWhole}
use Rattle.abi_checker.specs.Near.{is_near}
use Rattle.abi_checker.specs.Keeping.{IsKept}
use Rattle.abi_checker.specs.Returning.{is_back, IsFine}
use Rattle.abi_checker.specs.declared.near.Near.{Near}
use Rattle.abi_checker.specs.declared.abi.AbiKind.{AbiKind}
use Rattle.abi_checker.specs.declared.abi.AbiKind.TheVariants.{NotDormant, NotLawful, TooDeep}
use Rattle.abi_checker.specs.declared.open_call.OpenCall.{OpenCall}
use Rattle.abi_checker.specs.declared.watch.Watch.{Watch}

-- this word stands at PC
abbrev pub IsNextWord : State → ℕ → Type 0
IsNextWord s word = word_at s.core.memory s.core.scalars.pc ≡ Some word

-- a call stands there, and this is the address past it
pub record IsNextCall (s : State) (past : ℕ) : Type 0 where
  pub word : ℕ
  pub there : word_at s.core.memory s.core.scalars.pc ≡ Some word
  pub calls : is_call_word word ≡ true
  pub place : past ≡ past_call s

-- no call stands there
abbrev pub IsNoCall : State → Type 0
IsNoCall s = (word : ℕ) → word_at s.core.memory s.core.scalars.pc ≡ Some word → is_call_word word ≡ false

-- the turn is a call, and this is the address past it; or it is no marked call
abbrev pub IsPast : State → State → Option ℕ → Type 0
IsPast s t (Some past) = IsCall s t × (past ≡ past_call s)
IsPast s t None = (p : Places) → ¬ IsMarkedCall p s t

-- ---- the places to which calls come back

-- each call comes back to such a one
abbrev pub AreNear : Near → List OpenCall → Type 0
AreNear near calls = All (λ call. is_near near call.places.tail ≡ true) calls

-- no call that is back in the state had a callee that was not lawful, and the calls are now the others
pub record Settles (r : State) (old new : Watch) : Type 0 where
  pub fine : All (IsFine r) old.calls.items
  pub left : new.calls.items ≡ filter (λ call. not (is_back r call)) old.calls.items
  pub all : new.returned + length new.calls.items ≡ old.returned + length old.calls.items
  pub near : AreNear new.near new.calls.items

-- ---- a call that the thread came from, and the calls after it

-- the tail stands past the call, with the routines in their places
pub record IsMarkedPast (p : Places) (s : State) (past : ℕ) : Type 0 where
  pub place : p.tail ≡ past
  pub mark : HasMark s.core.memory p

-- there was no call, or one behind which there is none
abbrev pub IsNoMarkPast : State → Option ℕ → Type 0
IsNoMarkPast s past = IfSome past (λ at. (p : Places) → ¬ IsMarkedPast p s at)

-- it was not marked, and the calls are those before
pub record IsUnmarkedPast (s : State) (past : ℕ) (old new : Watch) : Type 0 where
  pub none : (p : Places) → ¬ IsMarkedPast p s past
  pub calls : new.calls.items ≡ old.calls.items

-- it was marked, and is the last of the calls
pub record IsAdded (s : State) (past : ℕ) (old new : Watch) : Type 0 where
  pub last : OpenCall
  pub marked : IsMarkedPast (places_of last.places) s past
  pub kept : IsKept last s
  pub calls : new.calls.items ≡ old.calls.items ++ last ∷ []
  pub few : length new.calls.items ≤ 256

-- what is told of it, and the calls after it
abbrev pub AfterCall : State → ℕ → Watch → Watch → Option AbiKind → Type 0
AfterCall s past old new None =
    (new.returned ≡ old.returned) × (IsUnmarkedPast s past old new ⊎ IsAdded s past old new)
AfterCall s past old new (Some NotDormant) =
    (p : Places) × IsMarkedPast p s past × ¬ IsDormantAt p s.core (block_of s)
AfterCall s past old new (Some NotLawful) = ⊥
AfterCall s past old new (Some TooDeep) =
    (p : Places) × IsMarkedPast p s past × IsDormantAt p s.core (block_of s) × (length old.calls.items ≡ 256)

module _ (run : ℕ → State) where
  -- the call before state k has not returned by state n, and this is kept of it
  pub record IsHeld (n k : ℕ) (call : OpenCall) : Type 0 where
    pub kept : IsKept call (run k)
    pub marked : IsMarkedAt run (places_of call.places) k
    pub never : (m : ℕ) → k < m → m ≤ n → ¬ IsBackFrom (places_of call.places) (run k) (run m)

  -- of the marked calls before the first states, so many have returned by state n, and these have not
  abbrev pub IsWalked : ℕ → ℕ → List OpenCall → ℕ → Type 0
  IsWalked n zero calls returned = (calls ≡ []) × (returned ≡ 0)
  IsWalked n (suc k) calls returned =
      ((front : List OpenCall) × (call : OpenCall) × (calls ≡ front ++ call ∷ []) × IsHeld n k call
      × IsWalked n k front returned)
      ⊎ (((before : ℕ) × (returned ≡ suc before) × HasReturned run n k × IsWalked n k calls before)
      ⊎ (((p : Places) → ¬ IsMarkedAt run p k) × IsWalked n k calls returned))

  -- up to state n there is no fault, and the calls are those
  pub record IsWatched (n : ℕ) (watch : Watch) : Type 0 where
    pub none : (m : ℕ) (kind : AbiKind) → m ≤ n → ¬ HasFault run m kind
    pub lawful : AreLawful run n
    pub whole : AreWhole run n
    pub walked : IsWalked n (suc n) watch.calls.items watch.returned
    pub few : length watch.calls.items ≤ 256
    pub counted : watch.returned + length watch.calls.items ≤ (run n).count
    pub near : AreNear watch.near watch.calls.items

  -- what is told of the next state, and of the calls by it
  abbrev pub IsToldNext : ℕ → Option AbiKind → Watch → Type 0
  IsToldNext n None watch = IsWatched n watch
  IsToldNext n (Some kind) watch = IsFirstFault run n kind

-- the calls are those of some run
abbrev pub IsSomewhere : Watch → Type 0
IsSomewhere watch = (run : ℕ → State) × (n : ℕ) × IsWatched run n watch × ((run n).count < 2 ^ 32)
