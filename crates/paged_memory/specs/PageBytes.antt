-- The bytes of a page, and whether they are its own. Source: copy on write, as System V's fork has it.
use Rattle.std.specs.Prelude.{ℕ, Bool, true, false, List, refl}
use Rattle.std.specs.Coded.{Coded, code_by, coded×, coded_ℕ, coded_bool, coded_list}

pub record HeldBytes : Type 0 where
  pub items : List ℕ
  -- they are a copy of the page's own, which no other page has
  pub own : Bool

-- bytes that are held, seen as a pair
abbrev pub held_bytes_code : Coded HeldBytes
held_bytes_code =
    code_by (List ℕ × Bool) (coded× (coded_list coded_ℕ) coded_bool) (λ b. (b.items, b.own))
    (λ p. record { items = p.0; own = p.1 }) (λ _. refl)

-- bytes of a page's own, and bytes that pages may share
abbrev pub own_bytes : List ℕ → HeldBytes
own_bytes items = record { items = items; own = true }

abbrev pub shared_bytes : List ℕ → HeldBytes
shared_bytes items = record { items = items; own = false }
