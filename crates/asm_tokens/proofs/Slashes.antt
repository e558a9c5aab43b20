-- A line with no `/` has no comment.
use Rattle.std.proofs.Common.{◌≡◌, ℕ, ◌==◌, ◌&&◌, false, cond, List, [], ◌∷◌, refl, sym, ap, ◌∙◌}
use Rattle.std.specs.List.{list_any}
use Rattle.plain_lemmas.proofs.Tests.{or_second, or_first}
use Rattle.asm_tokens.specs.Characters.{starts_comment, is_slash, before_comment}

starts_none : (c : ℕ) (cs : List ℕ) → (c == 47) ≡ false → starts_comment c cs ≡ false
starts_none c [] e = refl
starts_none c (d ∷ ds) e = ap (λ b. b && (d == 47)) e

whole : (cs : List ℕ) → list_any is_slash cs ≡ false → before_comment cs ≡ cs
unfolding before_comment
whole [] e = refl
whole (c ∷ cs) e =
    ap (λ b. cond b [] (c ∷ before_comment cs)) (starts_none c cs (or_first (c == 47) (list_any is_slash cs) e))
    ∙ ap (λ (rest : List ℕ). c ∷ rest) (whole cs (or_second (c == 47) (list_any is_slash cs) e))

pub no_comment : (cs : List ℕ) → list_any is_slash cs ≡ false → cs ≡ before_comment cs
no_comment cs e = sym (whole cs e)
