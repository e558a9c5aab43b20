-- Fields in their order that a state has, as they are read one after another.
use Rattle.std.proofs.Common.{◌≡◌, ℕ, ◌+◌, ◌<◌, ◌≤◌, true, cond, ◌&&◌, List, [], ◌∷◌, Option, Some, None, map}
use Rattle.std.proofs.Common.{refl, sym, ap, ◌∙◌, arith}
use Rattle.std.specs.Prelude.{All, nat_le, option_map, option_and_then}
use Rattle.std.proofs.lemmas.Bool.{and_parts, and_from, le-leb}
use Rattle.std.proofs.lemmas.Bool.Decides.{nat_tests}
use Rattle.std.proofs.lemmas.List.Elements.{All-nil, All-cons, All-head, All-tail}
use Rattle.std.proofs.lemmas.Option.{same_Some}
use Rattle.plain_lemmas.proofs.Options.{cond_some_parts}
use Rattle.sm_types.specs.declared.length.VecLen.{VecLen}
use Rattle.vector_runner.specs.declared.vector.Modes.{Modes}
use Rattle.vector_runner.specs.Field.{Field, X, Sp, Nzcv, Tpidr, Tpidr2, Svcr, Z, P, Ffr, Za, M, modes_after, modes_with, rank, fits}
use Rattle.vector_runner.specs.Grammar.{IsWordOf, SayFields, AreAscending}
use Rattle.vector_runner.specs.Words.{field_in, if_here, field_here, before_others, fields_in}
use Rattle.vector_runner.proofs.Names.{made, then_made, word_read}
use Rattle.vector_runner.proofs.Written.{word_said}

-- each place is at least so much, and past the one before it
abbrev Rising : ℕ → List Field → Type 0
Rising least [] = Unit {0}
Rising least (f ∷ fields) = (least ≤ rank f) × Rising (rank f + 1) fields

-- and a state in the modes that those before a field say has it
abbrev pub Placed : VecLen → VecLen → Modes → ℕ → List Field → Type 0
Placed vl svl modes least [] = Unit {0}
Placed vl svl modes least (f ∷ fields) =
    (fits vl svl modes f ≡ true) × (least ≤ rank f) × Placed vl svl (modes_after modes f) (rank f + 1) fields

-- ---- ranks that rise

rises : (vl svl : VecLen) (modes : Modes) (least : ℕ) (fields : List Field) → Placed vl svl modes least fields → Rising least fields
rises vl svl modes least [] h = tt
rises vl svl modes least (f ∷ fields) h = (h.1, rises vl svl (modes_after modes f) (rank f + 1) fields h.2)

ascending : (least : ℕ) (fields : List Field) → Rising least fields → AreAscending (map rank fields)
ascending least [] h = tt
ascending least (f ∷ []) h = tt
ascending least (f ∷ g ∷ fields) h =
    let next : rank f + 1 ≤ rank g = h.1.0 in (omega (arith, next), ascending (rank f + 1) (g ∷ fields) h.1)

rising_from : (f : Field) (fields : List Field) → AreAscending (map rank (f ∷ fields)) → Rising (rank f + 1) fields
rising_from f [] h = tt
rising_from f (g ∷ fields) h = let less : rank f < rank g = h.0 in (omega (arith, less), rising_from g fields h.1)

rising : (fields : List Field) → AreAscending (map rank fields) → Rising 0 fields
rising [] h = tt
rising (f ∷ fields) h = (omega arith, rising_from f fields h)

-- ---- the modes are said before all that goes by them

no_mode : (modes : Modes) (f : Field) → 36 ≤ rank f → modes_after modes f ≡ modes
unfolding rank
no_mode modes (X n value) l = refl
no_mode modes (Sp value) l = refl
no_mode modes (Nzcv n z c v) l = refl
no_mode modes (Tpidr value) l = refl
no_mode modes (Tpidr2 value) l = refl
no_mode modes (Svcr streaming za_on) l = absurd (omega arith)
no_mode modes (Z n bytes) l = refl
no_mode modes (P n bytes) l = refl
no_mode modes (Ffr bytes) l = refl
no_mode modes (Za n bytes) l = refl
no_mode modes (M bytes) l = refl

modes_stay : (modes : Modes) (least : ℕ) (fields : List Field) → 36 ≤ least → Rising least fields → modes_with modes fields ≡ modes
unfolding modes_with
modes_stay modes least [] l h = refl
modes_stay modes least (f ∷ fields) l h =
    let behind : least ≤ rank f = h.0 in
    ap (λ m. modes_with m fields) (no_mode modes f (omega (arith, behind)))
    ∙ modes_stay modes (rank f + 1) fields (omega (arith, behind)) h.1

-- so a state in the modes that all of them say has a field where one in those that the first ones say has it
fits_same : (vl svl : VecLen) (modes : Modes) (f : Field) (fields : List Field) → Rising (rank f + 1) fields
    → fits vl svl modes f ≡ fits vl svl (modes_with (modes_after modes f) fields) f
unfolding fits rank
fits_same vl svl modes (X n value) fields h = refl
fits_same vl svl modes (Sp value) fields h = refl
fits_same vl svl modes (Nzcv n z c v) fields h = refl
fits_same vl svl modes (Tpidr value) fields h = refl
fits_same vl svl modes (Tpidr2 value) fields h = refl
fits_same vl svl modes (Svcr streaming za_on) fields h = refl
fits_same vl svl modes (Z n bytes) fields h =
    ap (λ m. fits vl svl m (Z n bytes)) (sym (modes_stay modes (36 + n + 1) fields (omega arith) h))
fits_same vl svl modes (P n bytes) fields h =
    ap (λ m. fits vl svl m (P n bytes)) (sym (modes_stay modes (68 + n + 1) fields (omega arith) h))
fits_same vl svl modes (Ffr bytes) fields h =
    ap (λ m. fits vl svl m (Ffr bytes)) (sym (modes_stay modes (84 + 1) fields (omega arith) h))
fits_same vl svl modes (Za n bytes) fields h =
    ap (λ m. fits vl svl m (Za n bytes)) (sym (modes_stay modes (85 + n + 1) fields (omega arith) h))
fits_same vl svl modes (M bytes) fields h = refl

-- a state in such modes has a field
abbrev Has : VecLen → VecLen → Modes → Field → Type 0
Has vl svl modes f = fits vl svl modes f ≡ true

module _ (vl svl : VecLen) where
  fit_all : (modes : Modes) (least : ℕ) (fields : List Field) → Placed vl svl modes least fields
      → All (Has vl svl (modes_with modes fields)) fields
  unfolding modes_with
  fit_all modes least [] h = All-nil (Has vl svl modes)
  fit_all modes least (f ∷ fields) h =
      let final = modes_with (modes_after modes f) fields in
      All-cons (Has vl svl final) f fields
      (sym (fits_same vl svl modes f fields (rises vl svl (modes_after modes f) (rank f + 1) fields h.2)) ∙ h.0)
      (fit_all (modes_after modes f) (rank f + 1) fields h.2)

  placed_from : (modes : Modes) (least : ℕ) (fields : List Field) → Rising least fields
      → All (Has vl svl (modes_with modes fields)) fields → Placed vl svl modes least fields
  unfolding modes_with
  placed_from modes least [] r h = tt
  placed_from modes least (f ∷ fields) r h =
      let final = modes_with (modes_after modes f) fields in (
        fits_same vl svl modes f fields r.1 ∙ All-head (Has vl svl final) f fields h,
        r.0,
        placed_from (modes_after modes f) (rank f + 1) fields r.1 (All-tail (Has vl svl final) f fields h),
      )

  pub placed_ascend : (modes : Modes) (fields : List Field) → Placed vl svl modes 0 fields → AreAscending (map rank fields)
  placed_ascend modes fields h = ascending 0 fields (rises vl svl modes 0 fields h)

  pub placed_fit : (modes : Modes) (fields : List Field) → Placed vl svl modes 0 fields → All (Has vl svl (modes_with modes fields)) fields
  placed_fit modes fields h = fit_all modes 0 fields h

  pub are_placed : (modes : Modes) (fields : List Field) → AreAscending (map rank fields)
      → All (Has vl svl (modes_with modes fields)) fields → Placed vl svl modes 0 fields
  are_placed modes fields r h = placed_from modes 0 fields (rising fields r) h

-- ---- what is read of words

-- a field that was read, where it may stand
record IsHere (vl svl : VecLen) (modes : Modes) (least : ℕ) (word : List ℕ) (f : Field) : Type 0 where
  said : IsWordOf word f
  fit : fits vl svl modes f ≡ true
  behind : least ≤ rank f

here_read : (vl svl : VecLen) (modes : Modes) (least : ℕ) (word : List ℕ) (f : Field)
    → field_here vl svl modes least word ≡ Some f → IsHere vl svl modes least word f
unfolding field_here
here_read vl svl modes least word f e =
    then_made (field_in word) (if_here vl svl modes least) f (IsHere vl svl modes least word f)
    (λ g is h.
    let stands = cond_some_parts (fits vl svl modes g && nat_le least (rank g)) (Some g) f h in
    let both = and_parts (fits vl svl modes g) (nat_le least (rank g)) stands.0 in
    let same : g ≡ f = same_Some g f stands.1 in
    let test : nat_le least (rank g) ≡ true = both.1 in
    let low : least ≤ rank g = grind (arith, nat_tests) in
    record {
      said = word_read word f (is ∙ stands.1);
      fit = ap (fits vl svl modes) (sym same) ∙ both.0;
      behind = (let at : rank g ≡ rank f = ap rank same in omega (arith, low, at));
    }) e

here_said : (vl svl : VecLen) (modes : Modes) (least : ℕ) (word : List ℕ) (f : Field) → IsWordOf word f → fits vl svl modes f ≡ true
    → least ≤ rank f → field_here vl svl modes least word ≡ Some f
unfolding field_here
here_said vl svl modes least word f said fit behind =
    ap (option_and_then (if_here vl svl modes least)) (word_said vl svl modes word f fit said)
    ∙ ap (λ b. cond b (Some f) None)
    (and_from (fits vl svl modes f) (nat_le least (rank f)) fit (le-leb least (rank f) behind))

before_read : (o : Option Field) (others : Field → Option (List Field)) (all : List Field) (Holds : List Field → Type 0)
    → ((f : Field) (fields : List Field) → o ≡ Some f → others f ≡ Some fields → Holds (f ∷ fields))
    → before_others o others ≡ Some all → Holds all
before_read None others all Holds each e = cc
before_read (Some f) others all Holds each e =
    made (λ fields. f ∷ fields) (others f) all Holds (λ fields h. each f fields refl h) e

pub fields_read : (vl svl : VecLen) (modes : Modes) (least : ℕ) (words : List (List ℕ)) (fields : List Field)
    → fields_in vl svl modes least words ≡ Some fields → SayFields words fields × Placed vl svl modes least fields
unfolding fields_in
fields_read vl svl modes least [] [] e = (tt, tt)
fields_read vl svl modes least [] (f ∷ fields) e = cc
fields_read vl svl modes least (word ∷ words) all e =
    before_read (field_here vl svl modes least word) (λ f. fields_in vl svl (modes_after modes f) (rank f + 1) words) all
    (λ them. SayFields (word ∷ words) them × Placed vl svl modes least them)
    (λ f fields here others.
    let it = here_read vl svl modes least word f here in
    let rest = fields_read vl svl (modes_after modes f) (rank f + 1) words fields others in
    ((it.said, rest.0), (it.fit, it.behind, rest.1))) e

pub fields_said : (vl svl : VecLen) (modes : Modes) (least : ℕ) (words : List (List ℕ)) (fields : List Field)
    → SayFields words fields → Placed vl svl modes least fields → fields_in vl svl modes least words ≡ Some fields
unfolding fields_in
fields_said vl svl modes least [] [] s p = refl
fields_said vl svl modes least [] (f ∷ fields) s p = absurd s
fields_said vl svl modes least (word ∷ words) [] s p = absurd s
fields_said vl svl modes least (word ∷ words) (f ∷ fields) s p =
    ap (λ o. before_others o (λ g. fields_in vl svl (modes_after modes g) (rank g + 1) words))
    (here_said vl svl modes least word f s.0 p.0 p.1)
    ∙ ap (option_map (λ them. f ∷ them)) (fields_said vl svl (modes_after modes f) (rank f + 1) words fields s.1 p.2)
