-- Which thread owns the bank of a core, and what calls make of that.
use Rattle.std.specs.Prelude.{◌≡◌, ◌&&◌, ◌||◌, Bool, true, false, not, cond, ℕ, List, [], ◌∷◌, map}
use Rattle.std.specs.Prelude.{Option, Some, None}
use Rattle.kernel_contexts.specs.Owner.{is_owner}
use Rattle.core_unit.specs.CoreState.{CoreState}
use Rattle.kernel_contexts.specs.Guest.{Guest}
use Rattle.core_unit.specs.Held.{Held}
use Rattle.core_unit.specs.Need.{need_in_run}
use Rattle.core_unit.specs.Run.{core_after, is_stop}
use Rattle.core_unit.specs.declared.run.CoreRun.{CoreRun}

-- the thread that owns a bank is one of these
abbrev pub owns_among : Option ℕ → List ℕ → Bool
owns_among owner [] = false
owns_among owner (n ∷ ns) = is_owner owner n || owns_among owner ns

-- no two of these are one thread
abbrev pub are_apart : List ℕ → Bool
are_apart [] = true
are_apart (n ∷ ns) = not (owns_among (Some n) ns) && are_apart ns

-- the threads of some residents
abbrev pub numbers_of : {T : Type 0} → List (Held T) → List ℕ
numbers_of held = map (λ h. h.guest.number) held

-- no thread is twice among them, and the owner of the bank, if there is one, is one of them
pub record IsTold {T : Type 0} (owner : Option ℕ) (held : List (Held T)) : Type 0 where
  pub apart : are_apart (numbers_of held) ≡ true
  pub resident : (n : ℕ) → owner ≡ Some n → owns_among (Some n) (numbers_of held) ≡ true

-- the owner of the bank once a thread has it no more
abbrev pub freed : Option ℕ → ℕ → Option ℕ
freed owner n = cond (is_owner owner n) None owner

-- and once the first of some threads has it no more
abbrev pub freed_by : {T : Type 0} → List (Held T) → Option ℕ → Option ℕ
freed_by [] owner = owner
freed_by (h ∷ hs) owner = freed owner h.guest.number

-- the owner of the bank after turns of which this is the first one that reads or writes vectors, if there is
-- one: the thread that makes it, else the owner before
abbrev pub moved : Option ℕ → ℕ → Option ℕ → Option ℕ
moved None thread owner = owner
moved (Some turn) thread owner = Some thread

-- the owner of the bank after the turns of a resident
abbrev pub owner_after_turns : ℕ → Guest → Guest → CoreRun → Option ℕ → Option ℕ
owner_after_turns k first last run owner = moved (need_in_run k first last run) first.number owner

-- the owner of the bank after a run: a resident that stops has it no more
abbrev pub owner_after : ℕ → Guest → Guest → CoreRun → Option ℕ → Option ℕ
owner_after k first last run owner =
    cond (is_stop run.why) (freed (owner_after_turns k first last run owner) first.number)
    (owner_after_turns k first last run owner)

-- the same of a core with these residents, the first of which is let make so many turns
abbrev pub OwnerWith : {T : Type 0} → ℕ → List (Held T) → CoreState T → Option ℕ → CoreState T → Option ℕ
    → CoreRun → Type 0
OwnerWith k [] old before new after run = after ≡ before
OwnerWith k (first ∷ others) old before new after run =
    (last : Held _) × (new ≡ core_after (is_stop run.why) last others old)
    × (after ≡ owner_after k first.guest last.guest run before)
