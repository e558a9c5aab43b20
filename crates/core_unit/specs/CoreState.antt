-- What a core has.
use Rattle.std.specs.Prelude.{◌≡◌, ◌≢◌, ℕ, ◌+◌, List, [], ◌∷◌, ◌++◌, All, Option, Some, None, length}
use Rattle.sm_types.specs.declared.config.Config.{Config}
use Rattle.core_unit.specs.Held.{Held}

-- its number, the options of its threads, the residents, of which the first one makes turns, and the threads
-- that have stopped
pub record CoreState (T : Type 0) : Type 0 where
  pub number : ℕ
  pub config : Config
  pub residents : List (Held T)
  pub done : List (Held T)

-- the residents and the stopped threads that a core has at most
abbrev pub places : ℕ
places = 8

-- the first one last
abbrev pub turned_over : {X : Type 0} → List X → List X
turned_over [] = []
turned_over (x ∷ xs) = xs ++ x ∷ []

module _ {T : Type 0} where
  abbrev pub empty_core : ℕ → Config → CoreState T
  empty_core number config = record { number = number; config = config; residents = []; done = [] }

  -- how many threads it has
  abbrev pub thread_count : CoreState T → ℕ
  thread_count c = length c.residents + length c.done

  -- with a resident more, the first one or the last
  abbrev pub with_first : Held T → CoreState T → CoreState T
  with_first h c = record c { residents = h ∷ c.residents }

  abbrev pub with_last : Held T → CoreState T → CoreState T
  with_last h c = record c { residents = c.residents ++ h ∷ [] }

  -- with a stopped thread more
  abbrev pub with_done : Held T → CoreState T → CoreState T
  with_done h c = record c { done = c.done ++ h ∷ [] }

  -- with the first resident last
  abbrev pub with_next : CoreState T → CoreState T
  with_next c = record c { residents = turned_over c.residents }

  -- the number of the first one of some threads
  abbrev pub first_number : List (Held T) → Option ℕ
  first_number [] = None
  first_number (h ∷ hs) = Some h.guest.number

  -- it has no thread of this number
  pub record IsAbsent (number : ℕ) (c : CoreState T) : Type 0 where
    pub resident : All (λ h. h.guest.number ≢ number) c.residents
    pub stopped : All (λ h. h.guest.number ≢ number) c.done

  -- the tickets of its threads belong to a port of this name
  pub record BelongTo (name_of : T → List ℕ) (name : List ℕ) (c : CoreState T) : Type 0 where
    pub resident : All (λ h. name_of h.ticket ≡ name) c.residents
    pub stopped : All (λ h. name_of h.ticket ≡ name) c.done
