-- Lines that have the same fields, and lines that have the same fixed bits.
use Rattle.std.proofs.Common.{◌≡◌, ℕ, zero, suc, ◌==◌, ◌&&◌, not, Bool, true, false, cond, refl, ap, ap₂, ◌∙◌, eqb-true, eq-eqb, List, []}
use Rattle.std.proofs.Common.{◌∷◌, slice_get, Some}
use Rattle.std.specs.List.{list_all, find}
use Rattle.std.proofs.lemmas.Bool.{and_parts, not-true}
use Rattle.plain_lemmas.proofs.Lists.{list_all-get}
use Rattle.insn_forms.specs.declared.field.Field.{Field}
use Rattle.insn_forms.specs.declared.line.Line.{Line}
use Rattle.insn_forms.specs.Tables.{Table, fits_in, fits_line, fits_with, has_bits}
use Rattle.insn_forms.proofs.Laws.{pairwise}

-- ---- lists of fields that are one
unfoldable pub same_field : Field → Field → Bool
same_field f g = (f.low == g.low) && (f.width == g.width) && (f.upper_low == g.upper_low) && (f.upper_width == g.upper_width)

unfoldable pub same_fields : List Field → List Field → Bool
same_fields [] [] = true
same_fields [] (g ∷ gs) = false
same_fields (f ∷ fs) [] = false
same_fields (f ∷ fs) (g ∷ gs) = same_field f g && same_fields fs gs

one_field : (f g : Field) → same_field f g ≡ true → f ≡ g
unfolding same_field
one_field f g e =
    let p = and_parts ((f.low == g.low) && (f.width == g.width) && (f.upper_low == g.upper_low)) (f.upper_width == g.upper_width) e in
    let q = and_parts ((f.low == g.low) && (f.width == g.width)) (f.upper_low == g.upper_low) p.0 in
    let r = and_parts (f.low == g.low) (f.width == g.width) q.0 in
    λ i. record {
      low = eqb-true f.low g.low r.0 i;
      width = eqb-true f.width g.width r.1 i;
      upper_low = eqb-true f.upper_low g.upper_low q.1 i;
      upper_width = eqb-true f.upper_width g.upper_width p.1 i;
    }

pub one_list : (fs gs : List Field) → same_fields fs gs ≡ true → fs ≡ gs
unfolding same_fields
one_list [] [] e = refl
one_list [] (g ∷ gs) e = cc
one_list (f ∷ fs) [] e = cc
one_list (f ∷ fs) (g ∷ gs) e = let p = and_parts (same_field f g) (same_fields fs gs) e in λ i. one_field f g p.0 i ∷ one_list fs gs p.1 i

-- ---- the line with some fixed bits, where no two lines have the same
unfoldable pub unequal : {O : Type 0} → Line O → Line O → Bool
unequal r s = not (has_bits s.mask s.value r)

has_its_bits : {O : Type 0} (line : Line O) → has_bits line.mask line.value line ≡ true
has_its_bits line = ap₂ (λ x y. x && y) (eq-eqb line.mask line.mask refl) (eq-eqb line.value line.value refl)

line-with : {O : Type 0} (lines : List (Line O)) → pairwise unequal lines ≡ true → (i : ℕ) (line : Line O) → slice_get lines i ≡ Some line
    → find (has_bits line.mask line.value) lines ≡ Some line
unfolding pairwise unequal
line-with [] e i line g = cc
line-with {O = O} (x ∷ xs) e zero line g =
    let same : x ≡ line = cc in
    ap (λ (y : Line O). cond (has_bits line.mask line.value y) (Some y) (find (has_bits line.mask line.value) xs)) same
    ∙ ap (λ b. cond b (Some line) (find (has_bits line.mask line.value) xs)) (has_its_bits line)
line-with (x ∷ xs) e (suc i) line g =
    let p = and_parts (list_all (unequal x) xs) (pairwise unequal xs) e in
    ap (λ b. cond b (Some x) (find (has_bits line.mask line.value) xs))
    (not-true (has_bits line.mask line.value x) (list_all-get (unequal x) xs i line p.0 g))
    ∙ line-with xs p.1 i line g

-- the condition that is found by a line's fixed bits is the line's
pub fits-with : {O I : Type 0} (t : Table O I) → pairwise unequal t.lines ≡ true → (i : ℕ) (line : Line O) (word : ℕ)
    → slice_get t.lines i ≡ Some line
    → fits_with t line.mask line.value word ≡ fits_in t line.operation word
unfolding fits_with
fits-with t e i line word g = ap (fits_line t word) (line-with t.lines e i line g)
