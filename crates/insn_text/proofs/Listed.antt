-- The shapes that the table lists for a word's top byte are those that it may be printed in.
use Rattle.std.proofs.Common.{◌≡◌, ℕ, zero, suc, ◌*◌, ◌/◌, ◌^◌, ◌<◌, Bool, true, false, not, ◌&&◌, ◌==◌, cond, List, [], ◌∷◌, ◌++◌, Option}
use Rattle.std.proofs.Common.{Some, None, slice_get, bit_and, length, refl, sym, ap, ap₂, ◌∙◌, arith, lit≤, eqb-true, eq-eqb, append_assoc}
use Rattle.std.proofs.Common.{length-append, add-one, ltb-true, nat_lt, subst}
use Rattle.std.specs.List.{find}
use Rattle.std.specs.Option.{option_or}
use Rattle.std.proofs.lemmas.Nat.{and_assoc, and_comm}
use Rattle.std.proofs.lemmas.Nat.Bits.{and_high_mask}
use Rattle.std.proofs.lemmas.Bool.{and_from, and_parts, false_from_ne_true, cond_both, both_ways, ltb-false}
use Rattle.insn_text.specs.declared.item.Shape.{Shape}
use Rattle.insn_text.specs.declared.shapes.TheConstants.{SHAPES}
use Rattle.insn_text.specs.declared.printed.TheConstants.{PRINTED, ROOTS}
use Rattle.insn_text.specs.Texts.{prints, printed_shape}
use Rattle.insn_text.specs.Indices.{if_printed, first_at, part_of}

-- the bits that a word's top eight are
abbrev top_bits : ℕ
top_bits = 0xFF000000

-- a word with these top eight bits may be printed in the shape
unfoldable pub may_begin : ℕ → Shape → Bool
may_begin top s = not s.alias && (bit_and s.value top_bits == bit_and (top * 2 ^ 24) s.mask)

-- the places of those shapes, from a place on
unfoldable pub candidates : ℕ → ℕ → List Shape → List ℕ
candidates top at [] = []
candidates top at (s ∷ ss) = cond (may_begin top s) (at ∷ candidates top (suc at) ss) (candidates top (suc at) ss)

unfoldable pub same_indices : List ℕ → List ℕ → Bool
same_indices [] [] = true
same_indices [] (y ∷ ys) = false
same_indices (x ∷ xs) [] = false
same_indices (x ∷ xs) (y ∷ ys) = (x == y) && same_indices xs ys

-- the table lists them for the values of the top byte below a limit
unfoldable pub lists_all : ℕ → Bool
lists_all zero = true
lists_all (suc top) = same_indices (part_of PRINTED ROOTS top) (candidates top 0 SHAPES) && lists_all top

all_listed : lists_all 256 ≡ true
unfolding part_of may_begin candidates same_indices lists_all
all_listed = refl

indices-same : (xs ys : List ℕ) → same_indices xs ys ≡ true → xs ≡ ys
unfolding same_indices
indices-same [] [] e = refl
indices-same [] (y ∷ ys) e = cc
indices-same (x ∷ xs) [] e = cc
indices-same (x ∷ xs) (y ∷ ys) e =
    let p = and_parts (x == y) (same_indices xs ys) e in
    ap₂ (λ (a : ℕ) (rest : List ℕ). a ∷ rest) (eqb-true x y p.0) (indices-same xs ys p.1)

listed_at : (limit top : ℕ) → lists_all limit ≡ true → top < limit → part_of PRINTED ROOTS top ≡ candidates top 0 SHAPES
unfolding lists_all
listed_at zero top e lt = absurd (omega arith)
listed_at (suc limit) top e lt =
    by_test (λ below. listed_at limit top (and_parts (same_indices (part_of PRINTED ROOTS limit) (candidates limit 0 SHAPES))
    (lists_all limit) e).1 below) (nat_lt top limit) refl
  where
    by_test : (top < limit → part_of PRINTED ROOTS top ≡ candidates top 0 SHAPES) → (b : Bool) → nat_lt top limit ≡ b
        → part_of PRINTED ROOTS top ≡ candidates top 0 SHAPES
    by_test earlier true b = earlier (ltb-true top limit b)
    by_test earlier false b =
        let le = ltb-false top limit b in
        let same : limit ≡ top = omega arith in
        subst (λ (n : ℕ). part_of PRINTED ROOTS n ≡ candidates n 0 SHAPES) same
        (indices-same _ _ (and_parts (same_indices (part_of PRINTED ROOTS limit) (candidates limit 0 SHAPES)) (lists_all limit) e).0)

-- ---- a word's shapes are among them

fixed_there : (bits word : ℕ) (s : Shape) → bit_and word s.mask ≡ s.value → bit_and s.value bits ≡ bit_and (bit_and word bits) s.mask
fixed_there bits word s m =
    ap (λ n. bit_and n bits) (sym m) ∙ and_assoc bits word s.mask ∙ ap (bit_and word) (and_comm s.mask bits)
    ∙ sym (and_assoc s.mask word bits)

top_of : (word : ℕ) → word < 2 ^ 32 → bit_and word top_bits ≡ word / 2 ^ 24 * 2 ^ 24
top_of word lt = and_high_mask 32 24 (lit≤ tt) word lt

begins : (word : ℕ) (s : Shape) → word < 2 ^ 32 → prints word s ≡ true → may_begin (word / 2 ^ 24) s ≡ true
unfolding may_begin prints
begins word s lt e =
    let p = and_parts (not s.alias) (bit_and word s.mask == s.value) e in
    and_from (not s.alias) _ p.0 (eq-eqb _ _ (fixed_there top_bits word s (eqb-true _ _ p.1) ∙ ap (λ n. bit_and n s.mask) (top_of word lt)))

get_after : (before after : List Shape) (s : Shape) → slice_get (before ++ (s ∷ after)) (length before) ≡ Some s
get_after [] after s = refl
get_after (b ∷ before) after s = get_after before after s

choice : (b : Bool) (s : Shape) (r : Option Shape) → option_or (cond b (Some s) None) r ≡ cond b (Some s) r
choice true s r = refl
choice false s r = refl

at_shape : (word : ℕ) (o r : Option Shape) (s : Shape) → o ≡ Some s → option_or (if_printed word o) r ≡ cond (prints word s) (Some s) r
unfolding if_printed
at_shape word o r s e = ap (λ (x : Option Shape). option_or (if_printed word x) r) e ∙ choice (prints word s) s r

first-candidates : (word : ℕ) (before after : List Shape) → word < 2 ^ 32
    → first_at word (before ++ after) (candidates (word / 2 ^ 24) (length before) after) ≡ find (prints word) after
unfolding first_at candidates
first-candidates word before [] lt = refl
first-candidates word before (s ∷ after) lt =
    let all : before ++ (s ∷ after) ≡ (before ++ (s ∷ [])) ++ after = sym (append_assoc before (s ∷ []) after) in
    let longer : suc (length before) ≡ length (before ++ (s ∷ [])) = sym (length-append before (s ∷ []) ∙ add-one (length before)) in
    let rest : first_at word (before ++ (s ∷ after)) (candidates (word / 2 ^ 24) (suc (length before)) after) ≡ find (prints word) after =
    ap₂ (λ (x : List Shape) (n : ℕ). first_at word x (candidates (word / 2 ^ 24) n after)) all longer
    ∙ first-candidates word (before ++ (s ∷ [])) after lt in
    let more = candidates (word / 2 ^ 24) (suc (length before)) after in
    cond_both (may_begin (word / 2 ^ 24) s) (length before ∷ more) more
    (λ ps. first_at word (before ++ (s ∷ after)) ps ≡ cond (prints word s) (Some s) (find (prints word) after))
    (λ _. at_shape word _ _ s (get_after before after s) ∙ ap (cond (prints word s) (Some s)) rest)
    (λ no_. rest ∙ sym (ap (λ b. cond b (Some s) (find (prints word) after))
    (false_from_ne_true (prints word s) (λ e. both_ways _ no_ (begins word s lt e)))))

-- the first of the listed shapes in which a word is printed is the first of all
pub first_printed : (word : ℕ) → word < 2 ^ 32 → first_at word SHAPES (part_of PRINTED ROOTS (word / 2 ^ 24)) ≡ printed_shape word
unfolding printed_shape
first_printed word lt =
    let top : word / 2 ^ 24 < 256 = omega arith in
    ap (first_at word SHAPES) (listed_at 256 (word / 2 ^ 24) all_listed top) ∙ first-candidates word [] SHAPES lt
