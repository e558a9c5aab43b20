-- The meaning by the first line of a list, and by any line of it.
use Rattle.std.proofs.Common.{◌≡◌, ◌↔◌, ◌⊎◌, inl, inr, ℕ, zero, suc, ◌<◌, ◌^◌, List, [], ◌∷◌, Option, Some, None, slice_get, Bool, true}
use Rattle.std.proofs.Common.{false, cond, ◌&&◌, bit_and, refl, sym, ap, ap₂, ◌∙◌, subst, eq-eqb, eqb-true, arith, ℤ}
use Rattle.std.proofs.lemmas.Bool.{and_parts, cases_Bool, cond-true, cond-false}
use Rattle.insn_forms.specs.declared.field.Field.{Field}
use Rattle.insn_forms.specs.declared.line.Line.{Line}
use Rattle.insn_forms.specs.Tables.{Table, Means, HasAtMostOneLine, fits_in, insn_in, meaning_in, meaning_by, stands_for, numbers_in}
use Rattle.insn_forms.specs.Tables.{signed_numbers_in}
use Rattle.insn_forms.proofs.Deciding.{none_some, some_is}

chosen : {A : Type 0} (b : Bool) (x y z : A) → cond b x y ≡ z → ((b ≡ true) × (x ≡ z)) ⊎ ((b ≡ false) × (y ≡ z))
chosen true x y z e = inl (refl, e)
chosen false x y z e = inr (refl, e)

same_option : {A : Type 0} (a b : Option A) → ((x : A) → a ≡ Some x → b ≡ Some x) → ((x : A) → b ≡ Some x → a ≡ Some x) → a ≡ b
same_option (Some x) b f g = sym (f x refl)
same_option None (Some y) f g = g y refl
same_option None None f g = refl

module _ {O I : Type 0} (t : Table O I) (word : ℕ) where
  stands : (r : Line O) → stands_for t r word ≡ true → (bit_and word r.mask ≡ r.value) × (fits_in t r.operation word ≡ true)
  unfolding stands_for
  stands r e = (eqb-true _ _ (and_parts _ _ e).0, (and_parts _ _ e).1)

  does_stand : (r : Line O) → bit_and word r.mask ≡ r.value → fits_in t r.operation word ≡ true → stands_for t r word ≡ true
  unfolding stands_for
  does_stand r m f = ap₂ (λ a b. a && b) (eq-eqb _ _ m) f

  -- one of the lines stands for the word
  record Stands (lines : List (Line O)) (it : I) : Type 0 where
    place : ℕ
    line : Line O
    listed : slice_get lines place ≡ Some line
    matches : bit_and word line.mask ≡ line.value
    fits : fits_in t line.operation word ≡ true
    gives : it ≡ insn_in t line.operation word

  -- the first line that stands for the word is one
  first_stands : (lines : List (Line O)) (it : I) → meaning_in t lines word ≡ Some it → Stands lines it
  unfolding meaning_in
  first_stands [] it e = absurd (none_some e)
  first_stands (r ∷ lines) it e =
      elim (chosen (stands_for t r word) _ _ _ e) [
        | inl h ↦ record {
          place = zero;
          line = r;
          listed = refl;
          matches = (stands r h.0).0;
          fits = (stands r h.0).1;
          gives = sym (some_is h.1);
        }
        | inr h ↦ let m = first_stands lines it h.1 in
            record { place = suc m.place; line = m.line; listed = m.listed; matches = m.matches; fits = m.fits; gives = m.gives }
      ]

  AtMostOne : List (Line O) → Type 0
  AtMostOne lines =
      (i j : ℕ) (r s : Line O) → slice_get lines i ≡ Some r → slice_get lines j ≡ Some s → bit_and word r.mask ≡ r.value
      → bit_and word s.mask ≡ s.value
      → fits_in t r.operation word ≡ true → fits_in t s.operation word ≡ true → i ≡ j

  rest_one : (r : Line O) (lines : List (Line O)) → AtMostOne (r ∷ lines) → AtMostOne lines
  unfolding AtMostOne
  rest_one r lines one i j p q e f m n g h =
      let same : suc i ≡ suc j = one (suc i) (suc j) p q e f m n g h in
      omega arith

  -- where at most one line stands for the word, the first one that does is it
  line_first : (lines : List (Line O)) → AtMostOne lines → (place : ℕ) (line : Line O) → slice_get lines place ≡ Some line
      → bit_and word line.mask ≡ line.value → fits_in t line.operation word ≡ true
      → meaning_in t lines word ≡ Some (insn_in t line.operation word)
  unfolding meaning_in AtMostOne
  line_first [] one place line e m f = cc
  line_first (r ∷ lines) one zero line e m f =
      let same : line ≡ r = cc in
      cond-true (stands_for t r word) _ _ (subst (λ (y : Line O). stands_for t y word ≡ true) same (does_stand line m f))
      ∙ ap (λ (y : Line O). Some (insn_in t y.operation word)) (sym same)
  line_first (r ∷ lines) one (suc place) line e m f =
      elim (cases_Bool (stands_for t r word)) [
        | inl h ↦ let clash : zero ≡ suc place =
            one zero (suc place) r line refl e (stands r h).0 m (stands r h).1 f in absurd (omega arith)
        | inr h ↦ cond-false (stands_for t r word) _ _ h ∙ line_first lines (rest_one r lines one) place line e m f
      ]

  pub one_meaning : HasAtMostOneLine t word → word < 2 ^ 32 → (it : I) → (meaning_by t word ≡ Some it) ↔ Means t word it
  unfolding meaning_by AtMostOne
  one_meaning one lt it = (
    λ e. let m = first_stands t.lines it e in
        record { is_word = lt; place = m.place; line = m.line; listed = m.listed; matches = m.matches; fits = m.fits; gives = m.gives },
    λ m. line_first t.lines one m.place m.line m.listed m.matches m.fits ∙ ap Some (sym m.gives),
  )

  -- what gives exactly the instructions that a word means is its meaning
  pub by_meaning : HasAtMostOneLine t word → word < 2 ^ 32 → (result : Option I) → ((it : I) → (result ≡ Some it) ↔ Means t word it)
      → result ≡ meaning_by t word
  by_meaning one lt result h =
      same_option result (meaning_by t word) (λ it e. (one_meaning one lt it).1 ((h it).0 e))
      (λ it e. (h it).1 ((one_meaning one lt it).0 e))

  -- what holds of the instructions of every operation holds of what a word means
  pub meaning_holds : (P : I → Type 0) → ((o : O) (n : Field → ℕ) (s : Field → ℤ) → P (t.insn o n s)) → (it : I)
      → meaning_by t word ≡ Some it → P it
  unfolding meaning_by
  meaning_holds P holds it e =
      let m = first_stands t.lines it e in
      subst P (sym m.gives) (holds m.line.operation (numbers_in word) (signed_numbers_in word))

  pub means_holds : (P : I → Type 0) → ((o : O) (n : Field → ℕ) (s : Field → ℤ) → P (t.insn o n s)) → (it : I) → Means t word it → P it
  means_holds P holds it m = subst P (sym m.gives) (holds m.line.operation (numbers_in word) (signed_numbers_in word))
