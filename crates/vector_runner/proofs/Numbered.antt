-- The fields of numbered registers, one after another; and bytes up to the last that is not zero.
use Rattle.std.proofs.Common.{◌≡◌, ℕ, suc, ◌+◌, ◌<◌, ◌≤◌, ◌++◌, ◌∷◌, List, [], Bool, true, false, cond, length, drop, take, get_or, refl, sym, ap, ◌∙◌, arith, append_assoc, subst, Option, Some, None}
use Rattle.std.proofs.lemmas.Grind.{common_steps}
use Rattle.std.proofs.lemmas.List.{append-nil, take_more}
use Rattle.std.proofs.lemmas.List.Folds.{list_all-append}
use Rattle.std.proofs.lemmas.Bool.Decides.{nat_tests}
use Rattle.std.specs.Prelude.{◌==◌, ◌&&◌, IsSome, unwrap_or}
use Rattle.std.proofs.Math.Seq.{drop-cons}
use Rattle.plain_lemmas.proofs.Tests.{and-false}
use Rattle.text_lines.specs.Rows.{are_zero}
use Rattle.vector_runner.specs.Field.{Field}
use Rattle.paged_memory.specs.Memory.{AddressSpace, bytes_with, first_without}
use Rattle.paged_memory.proofs.Accesses.{first_without-none}
use Rattle.vector_runner.specs.Field.{M}
use Rattle.vector_runner.specs.Answer.{bytes_field, data_in, numbered_fields, up_to_last}

module _ {A : Type 0} (field : ℕ → A → List Field) where
  numbered_at : (xs : List A) (i : ℕ) (d : A) → i < length xs
      → numbered_fields field i (drop i xs) ≡ field i (get_or xs i d) ++ numbered_fields field (i + 1) (drop (i + 1) xs)
  unfolding numbered_fields
  numbered_at xs i d h = let e : i + 1 ≡ suc i = omega arith in rw (drop-cons xs i d h, e) refl

  -- one register more
  pub numbered_more : (xs : List A) (i : ℕ) (d : A) (before all : List Field) → i < length xs
      → before ++ numbered_fields field i (drop i xs) ≡ all
      → (before ++ field i (get_or xs i d)) ++ numbered_fields field (i + 1) (drop (i + 1) xs) ≡ all
  numbered_more xs i d before all h is =
      append_assoc before (field i (get_or xs i d)) (numbered_fields field (i + 1) (drop (i + 1) xs))
      ∙ ap (λ l. before ++ l) (sym (numbered_at xs i d h)) ∙ is

  -- none is left
  pub numbered_end : (xs : List A) (i : ℕ) (before all : List Field) → length xs ≤ i
      → before ++ numbered_fields field i (drop i xs) ≡ all → before ≡ all
  unfolding numbered_fields
  numbered_end xs i before all h is =
      let none : drop i xs ≡ [] = grind (arith, common_steps) in
      sym (append-nil before) ∙ ap (λ l. before ++ numbered_fields field i l) (sym none) ∙ is

-- ---- the last byte that is not zero

and_true : (t : Bool) → (t && true) ≡ t
and_true true = refl
and_true false = refl

zeros_both : (xs : List ℕ) (b : ℕ) → are_zero (xs ++ b ∷ []) ≡ (are_zero xs && (b == 0))
zeros_both xs b = list_all-append (λ c. c == 0) xs (b ∷ []) ∙ ap (λ t. are_zero xs && t) (and_true (b == 0))

last_zero : (xs : List ℕ) → up_to_last (xs ++ 0 ∷ []) ≡ up_to_last xs
unfolding up_to_last
last_zero [] = refl
last_zero (x ∷ xs) =
    let same : are_zero (x ∷ xs ++ 0 ∷ []) ≡ are_zero (x ∷ xs) = zeros_both (x ∷ xs) 0 ∙ and_true (are_zero (x ∷ xs)) in
    ap (λ t. cond t [] (x ∷ up_to_last (xs ++ 0 ∷ []))) same ∙ ap (λ l. cond (are_zero (x ∷ xs)) [] (x ∷ l)) (last_zero xs)

last_other : (xs : List ℕ) (b : ℕ) → (b == 0) ≡ false → up_to_last (xs ++ b ∷ []) ≡ xs ++ b ∷ []
unfolding up_to_last
last_other [] b e =
    let no : are_zero (b ∷ []) ≡ false = ap (λ t. t && true) e in
    ap (λ t. cond t [] (b ∷ [])) no
last_other (x ∷ xs) b e =
    let no : are_zero (x ∷ xs ++ b ∷ []) ≡ false = zeros_both (x ∷ xs) b ∙ ap (λ t. are_zero (x ∷ xs) && t) e
    ∙ and-false (are_zero (x ∷ xs)) in
    ap (λ t. cond t [] (x ∷ up_to_last (xs ++ b ∷ []))) no ∙ ap (λ l. x ∷ l) (last_other xs b e)

-- one byte more is looked at
pub end_more : (xs : List ℕ) (at end : ℕ) (next : ℕ) → at < length xs → end ≤ at → take end xs ≡ up_to_last (take at xs)
    → next ≡ cond (get_or xs at 0 == 0) end (at + 1) → (next ≤ at + 1) × (take next xs ≡ up_to_last (take (at + 1) xs))
end_more xs at end next l low so_far is =
    let byte = get_or xs at 0 in
    elim (byte == 0) as (λ t. (byte == 0) ≡ t → next ≡ cond t end (at + 1)
    → (next ≤ at + 1) × (take next xs ≡ up_to_last (take (at + 1) xs))) [
      | true ↦ λ zero n. (
          let none : byte ≡ 0 = grind (arith, nat_tests, zero) in (
            omega (arith, n),
            ap (λ k. take k xs) n ∙ so_far ∙ sym (last_zero (take at xs)) ∙ ap (λ b. up_to_last (take at xs ++ b ∷ [])) (sym none)
                ∙ ap up_to_last (sym (take_more xs at 0 l)),
          ))
      | false ↦ λ some n. (
        omega (arith, n),
        ap (λ k. take k xs) n ∙ take_more xs at 0 l ∙ sym (last_other (take at xs) byte some) ∙ ap up_to_last (sym (take_more xs at 0 l)),
      )
    ] refl is

pub end_all : (xs : List ℕ) (at : ℕ) → length xs ≤ at → up_to_last (take at xs) ≡ up_to_last xs
end_all xs at l = let all : take at xs ≡ xs = grind (arith, common_steps) in ap up_to_last all

-- ---- fields put behind others, and the data

pub behind_both : (old a x y final : List Field) → a ≡ old ++ x → final ≡ a ++ y → final ≡ old ++ (x ++ y)
behind_both old a x y final h k = k ∙ ap (λ l. l ++ y) h ∙ append_assoc old x y

pub data_there : (m : AddressSpace) (bytes : List ℕ) → bytes_with 4 m 65536 4096 ≡ Some bytes → data_in m ≡ up_to_last bytes
unfolding data_in
data_there m bytes e = ap (λ o. up_to_last (unwrap_or o [])) e

none_there : (m : AddressSpace) (o : Option (List ℕ)) → bytes_with 4 m 65536 4096 ≡ o → first_without 4 m 65536 4096 ≡ Some 65536 → o ≡ None
none_there m None e h = refl
none_there m (Some bytes) e h = (
    let there : IsSome (bytes_with 4 m 65536 4096) = subst (λ (o : Option (List ℕ)). IsSome o) (sym e) refl in
    let all = first_without-none 4 m 65536 4096 there in cc)

pub data_gone : (m : AddressSpace) → first_without 4 m 65536 4096 ≡ Some 65536 → bytes_field M (data_in m) ≡ []
unfolding data_in up_to_last
data_gone m h = ap (λ o. bytes_field M (up_to_last (unwrap_or o []))) (none_there m (bytes_with 4 m 65536 4096) refl h)
