-- No text is no register.
use Rattle.std.proofs.Common.{◌≡◌, ℕ, List, [], ◌∷◌, None, length, refl, arith}
use Rattle.asm_tokens.specs.Tokens.{file_of, register_of, register_in, vector_file_of, sized_after, begins_za, sized_in}

pub none_empty : (cs : List ℕ) → length cs ≡ 0 → None ≡ register_in cs
unfolding file_of register_of register_in
none_empty [] e = refl
none_empty (c ∷ cs) e = absurd (omega arith)

pub none_sized : (cs : List ℕ) → length cs ≡ 0 → None ≡ sized_in cs
unfolding vector_file_of sized_after begins_za sized_in
none_sized [] e = refl
none_sized (c ∷ cs) e = absurd (omega arith)
