-- A port and a ticket before and after some accesses.
use Rattle.std.specs.Prelude.{◌≡◌, List, [], ◌∷◌}
use Rattle.sm_types.specs.declared.shared_words.Entry.{Entry}

module _ {P T : Type 0} (gives : P → T → Entry → P → T → Type 0) where
  -- they are joined by one link for each entry, in order
  abbrev pub Chain : P → T → List Entry → P → T → Type 0
  Chain p t [] q u = (p ≡ q) × (t ≡ u)
  Chain p t (e ∷ es) q u = (r : P) × (s : T) × gives p t e r s × Chain r s es q u
