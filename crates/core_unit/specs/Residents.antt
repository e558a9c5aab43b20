-- The residents of a core with its bank.
use Rattle.std.specs.Prelude.{◌≡◌, ℕ, List, [], ◌∷◌, ◌++◌, Some, slice_get}
use Rattle.std.specs.FinMap.{FinMap}
use Rattle.std.specs.FinMap as map
use Rattle.std.specs.Ordering.{nat_cmp}
use Rattle.std.specs.Coded.{Coded, coded_ℕ}
use Rattle.sm_types.specs.declared.shared_op.Event.{Event}
use Rattle.mem_access.specs.declared.bank.Bank.{Bank}
use Rattle.kernel_contexts.specs.Run.{Reached}
use Rattle.kernel_contexts.specs.Context.{IsOn}
use Rattle.kernel_contexts.specs.declared.context.Context.{Context}
use Rattle.kernel_contexts.specs.declared.whole.Whole.{Whole}
use Rattle.core_unit.specs.Held.{Held, held_on, held_of}
use Rattle.core_unit.specs.Run.{RunsHeld}
use Rattle.core_unit.specs.Owners.{owner_after_turns}
use Rattle.core_unit.specs.declared.resident.Resident.{Resident}
use Rattle.core_unit.specs.declared.run.CoreRun.{CoreRun}
use Rattle.shared_region.specs.Tickets.{Refusals}
use denote.Struct.Props.{props}

-- the residents, each with its ticket
abbrev pub held_at : {P T : Type 0} {b : _} → Bank → List (Resident P T b) → List (Held T)
held_at bank residents = held_on (λ r. r.context) (λ r. r.ticket) bank residents

-- whole contexts
abbrev pub held_home : {P T : Type 0} {b : _} → List (Whole P T b) → List (Held T)
held_home wholes = held_of (λ w. w.context) (λ w. w.ticket) wholes

-- each resident's vectors are in the bank exactly where its thread owns that
abbrev pub AreOn : {P T : Type 0} {b : _} → Bank → List (Resident P T b) → Type 0
AreOn bank residents = (i : ℕ) (r : _) → slice_get residents i ≡ Some r → IsOn r.context bank

map_code : Coded (FinMap nat_cmp ℕ)
map_code = map.code coded_ℕ coded_ℕ

Reached-set : IsSet Reached
Reached-set = Prim.hlevel (map_code, props)

IsOn-prop : (c : Context) (bank : Bank) → IsProp (IsOn c bank)
IsOn-prop c bank = Prim.hlevel (Reached-set, map_code, props)

-- there is one proof of it at most
pub AreOn-prop : {P T : Type 0} {b : _} (bank : Bank) (residents : List (Resident P T b))
    → IsProp (AreOn bank residents)
AreOn-prop bank residents = Prim.hlevel IsOn-prop

-- a bank of the same lengths
pub record HasSameLengths (old new : Bank) : Type 0 where
  pub vl : new.vectors.vl ≡ old.vectors.vl
  pub svl : new.vectors.svl ≡ old.vectors.svl

-- the first of some residents ran, and the others stay
abbrev pub RunsHere : {T : Type 0} → (T → Refusals) → (ℕ → List Event → T → T → Type 0) → ℕ
    → List (Held T) → Bank → List (Held T) → Bank → CoreRun → Type 0
RunsHere refusals gives k [] before new after run = ⊥
RunsHere refusals gives k (first ∷ others) before new after run =
    (last : Held _) × RunsHeld refusals gives k first last run × (new ≡ last ∷ others)
    × (after.owner ≡ owner_after_turns k first.guest last.guest run before.owner)

-- the first of some residents is one of those that are done with
abbrev pub HasRetired : {T : Type 0} → List (Held T) → List (Held T) → List (Held T) → List (Held T) → Type 0
HasRetired [] done others all = ⊥
HasRetired (first ∷ residents) done others all = (others ≡ residents) × (all ≡ done ++ first ∷ [])
