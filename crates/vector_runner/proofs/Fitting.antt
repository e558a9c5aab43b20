-- The vectors that are read are vectors of their lengths.
use Rattle.std.proofs.Common.{◌≡◌, ℕ, suc, zero, ◌+◌, ◌<◌, ◌≤◌, true, false, cond, List, [], ◌∷◌, length, get_or, map, take, drop, Vec, Global, Option, Some, None, Result, Ok, Err, refl, sym, ap, ◌∙◌, arith, subst, All}
use Rattle.std.specs.Prelude.{nat_le, nat_lt, ◌&&◌, option_and_then, option_map, IfOk}
use Rattle.std.proofs.lemmas.Bool.Decides.{nat_tests}
use Rattle.std.proofs.lemmas.Grind.{common_steps}
use Rattle.std.proofs.lemmas.List.{length-map}
use Rattle.std.proofs.Math.ListN.{get_or-map}
use Rattle.std.proofs.lemmas.Bool.{and_parts}
use Rattle.sm_types.specs.declared.length.VecLen.{VecLen}
use Rattle.line_reader.specs.Lines.{lines_of, line_text, words_in}
use Rattle.line_reader.specs.Numbers.{hex_number}
use Rattle.vector_runner.specs.declared.vector.Modes.{Modes}
use Rattle.vector_runner.specs.Field.{Field, Vector, modes_after, modes_with, modes_of, rank, fits}
use Rattle.vector_runner.specs.Field as field
use Rattle.vector_runner.specs.declared.vector.Vector as code
use Rattle.vector_runner.specs.declared.read.VectorFault.{VectorFault}
use Rattle.vector_runner.specs.Told.{vector_told, AnswersAs}
use Rattle.vector_runner.specs.Words.{field_in, if_here, field_here, fields_in, before_others, no_modes, vector_with, vector_in}
use Rattle.vector_runner.specs.Grammar.{AreAscending, IsVector, Fault, TooLong, Line, onto_others, line_said, lines_said, vectors_in}

map-take : (n : ℕ) (xs : List code.Vector) → map vector_told (take n xs) ≡ take n (map vector_told xs)
map-take zero xs = refl
map-take (suc n) [] = refl
map-take (suc n) (x ∷ xs) = ap (λ l. vector_told x ∷ l) (map-take n xs)

map-drop : (n : ℕ) (xs : List code.Vector) → map vector_told (drop n xs) ≡ drop n (map vector_told xs)
map-drop zero xs = refl
map-drop (suc n) [] = refl
map-drop (suc n) (x ∷ xs) = map-drop n xs

module _ (vl svl : VecLen) where
  -- each field fits the modes that those before it say, and stands behind them
  abbrev pub FitFrom : Modes → ℕ → List Field → Type 0
  FitFrom modes least [] = Unit {0}
  FitFrom modes least (f ∷ fields) = (fits vl svl modes f ≡ true) × (least ≤ rank f) × FitFrom (modes_after modes f) (rank f + 1) fields

  here_fits : (modes : Modes) (least : ℕ) (o : Option Field) (f : Field) → option_and_then (if_here vl svl modes least) o ≡ Some f
      → (fits vl svl modes f ≡ true) × (least ≤ rank f)
  here_fits modes least None f e = cc
  here_fits modes least (Some g) f e =
      elim (fits vl svl modes g && nat_le least (rank g)) as (λ b. (fits vl svl modes g && nat_le least (rank g)) ≡ b
      → ◌≡◌ {A = Option Field} (cond b (Some g) None) (Some f) → (fits vl svl modes f ≡ true) × (least ≤ rank f)) [
        | true ↦ λ is h. (
            let same : g ≡ f = cc in
            let both = and_parts (fits vl svl modes g) (nat_le least (rank g)) is in
            subst (λ (x : Field). (fits vl svl modes x ≡ true) × (least ≤ rank x)) same (both.0, grind (arith, nat_tests)))
        | false ↦ λ is h. cc
      ] refl e

  onto_fits : (modes : Modes) (least : ℕ) (o : Option Field) (rest : Field → Option (List Field)) (fields : List Field)
      → ((f : Field) → o ≡ Some f → (fits vl svl modes f ≡ true) × (least ≤ rank f))
      → ((f : Field) (others : List Field) → rest f ≡ Some others → FitFrom (modes_after modes f) (rank f + 1) others)
      → before_others o rest ≡ Some fields → FitFrom modes least fields
  onto_fits modes least None rest fields first later e = cc
  onto_fits modes least (Some f) rest fields first later e =
      elim (rest f) as (λ o. rest f ≡ o → option_map (λ l. f ∷ l) o ≡ Some fields → FitFrom modes least fields) [
        | None ↦ λ is h. cc
        | Some others ↦ λ is h. (
            let same : f ∷ others ≡ fields = cc in
            let one = first f refl in
            subst (FitFrom modes least) same (one.0, one.1, later f others is))
      ] refl e

  here : (modes : Modes) (least : ℕ) (word : List ℕ) (f : Field) → field_here vl svl modes least word ≡ Some f
      → (fits vl svl modes f ≡ true) × (least ≤ rank f)
  unfolding field_here
  here modes least word f is = here_fits modes least (field_in word) f is

  fields_fit : (modes : Modes) (least : ℕ) (words : List (List ℕ)) (fields : List Field) → fields_in vl svl modes least words ≡ Some fields
      → FitFrom modes least fields
  unfolding fields_in
  fields_fit modes least [] [] e = tt
  fields_fit modes least [] (f ∷ fields) e = cc
  fields_fit modes least (word ∷ words) fields e =
      onto_fits modes least (field_here vl svl modes least word) (λ f. fields_in vl svl (modes_after modes f) (rank f + 1) words) fields
      (here modes least word) (λ f others is. fields_fit (modes_after modes f) (rank f + 1) words others is) e

  -- ---- the modes of the whole line

  pub kept : (modes : Modes) (f : Field) → 36 ≤ rank f → modes_after modes f ≡ modes
  unfolding rank
  kept modes (field.X n value) l = refl
  kept modes (field.Sp value) l = refl
  kept modes (field.Nzcv n z c v) l = refl
  kept modes (field.Tpidr value) l = refl
  kept modes (field.Tpidr2 value) l = refl
  kept modes (field.Svcr streaming za_on) l = absurd (omega arith)
  kept modes (field.Z n bytes) l = refl
  kept modes (field.P n bytes) l = refl
  kept modes (field.Ffr bytes) l = refl
  kept modes (field.Za n bytes) l = refl
  kept modes (field.M bytes) l = refl

  -- behind the place of svcr no field says the modes
  late : (modes : Modes) (least : ℕ) (fields : List Field) → 36 ≤ least → FitFrom modes least fields → modes_with modes fields ≡ modes
  unfolding modes_with
  late modes least [] l h = refl
  late modes least (f ∷ fields) l h =
      let same : modes_after modes f ≡ modes = kept modes f (omega (arith, h.1)) in
      ap (λ m. modes_with m fields) same
      ∙ late modes (rank f + 1) fields (omega (arith, h.1)) (subst (λ (m : Modes). FitFrom m (rank f + 1) fields) same h.2)

  as_last : (modes : Modes) (f : Field) (fields : List Field) → fits vl svl modes f ≡ true
      → FitFrom (modes_after modes f) (rank f + 1) fields
      → fits vl svl (modes_with (modes_after modes f) fields) f ≡ true
  unfolding fits rank
  as_last modes (field.X n value) fields e h = e
  as_last modes (field.Sp value) fields e h = refl
  as_last modes (field.Nzcv n z c v) fields e h = refl
  as_last modes (field.Tpidr value) fields e h = refl
  as_last modes (field.Tpidr2 value) fields e h = refl
  as_last modes (field.Svcr streaming za_on) fields e h = refl
  as_last modes (field.Z n bytes) fields e h =
      ap (λ m. fits vl svl m (field.Z n bytes)) (late modes (36 + n + 1) fields (omega arith) h) ∙ e
  as_last modes (field.P n bytes) fields e h =
      ap (λ m. fits vl svl m (field.P n bytes)) (late modes (68 + n + 1) fields (omega arith) h) ∙ e
  as_last modes (field.Ffr bytes) fields e h =
      ap (λ m. fits vl svl m (field.Ffr bytes)) (late modes 85 fields (omega arith) h) ∙ e
  as_last modes (field.Za n bytes) fields e h =
      ap (λ m. fits vl svl m (field.Za n bytes)) (late modes (85 + n + 1) fields (omega arith) h) ∙ e
  as_last modes (field.M bytes) fields e h = e

  all_fit : (modes : Modes) (least : ℕ) (fields : List Field) → FitFrom modes least fields
      → All (λ f. fits vl svl (modes_with modes fields) f ≡ true) fields
  unfolding modes_with
  all_fit modes least [] h k d l = absurd (omega arith)
  all_fit modes least (f ∷ fields) h zero d l = as_last modes f fields h.0 h.2
  all_fit modes least (f ∷ fields) h (suc k) d l = all_fit (modes_after modes f) (rank f + 1) fields h.2 k d (omega arith)

  ascend : (modes : Modes) (least : ℕ) (fields : List Field) → FitFrom modes least fields → AreAscending (map rank fields)
  ascend modes least [] h = tt
  ascend modes least (f ∷ []) h = tt
  ascend modes least (f ∷ g ∷ fields) h = (omega (arith, h.2.1), ascend (modes_after modes f) (rank f + 1) (g ∷ fields) h.2)

  -- ---- a line, and a file

  with_fits : (word : Option ℕ) (fields : Option (List Field)) (v : Vector)
      → ((all : List Field) → fields ≡ Some all → FitFrom no_modes 0 all) → vector_with word fields ≡ Some v → IsVector vl svl v
  with_fits None fields v fit e = cc
  with_fits (Some word) None v fit e = cc
  with_fits (Some word) (Some fields) v fit e =
      let same : ◌≡◌ {A = Vector} (record { word = word; fields = fields }) v = cc in
      let from = fit fields refl in
      subst (IsVector vl svl) same (record { fit = all_fit no_modes 0 fields from; ordered = ascend no_modes 0 fields from })

  pub words_fit : (words : List (List ℕ)) (v : Vector) → vector_in vl svl words ≡ Some v → IsVector vl svl v
  unfolding vector_in
  words_fit [] v e = cc
  words_fit (word ∷ words) v e =
      with_fits (hex_number 8 word) (fields_in vl svl no_modes 0 words) v (λ all is. fields_fit no_modes 0 words all is) e

  line_fits : (line : List ℕ) (v : Vector) → line_said vl svl line ≡ Some v → IsVector vl svl v
  unfolding line_said
  line_fits line v e = words_fit (words_in (line_text line)) v e

  all_more : (v : Vector) (vectors : List Vector) → IsVector vl svl v → All (IsVector vl svl) vectors → All (IsVector vl svl) (v ∷ vectors)
  all_more v vectors here others zero d l = here
  all_more v vectors here others (suc k) d l = others k d (omega arith)

  onto_vectors : (before : ℕ) (o : Option Vector) (rest : Result (List Vector) Fault) (vectors : List Vector)
      → ((v : Vector) → o ≡ Some v → IsVector vl svl v) → ((others : List Vector) → rest ≡ Ok others → All (IsVector vl svl) others)
      → onto_others before o rest ≡ Ok vectors → All (IsVector vl svl) vectors
  onto_vectors before None rest vectors first later e = cc
  onto_vectors before (Some v) (Err fault) vectors first later e = cc
  onto_vectors before (Some v) (Ok others) vectors first later e =
      let same : v ∷ others ≡ vectors = cc in
      subst (λ (l : List Vector). All (IsVector vl svl) l) same (all_more v others (first v refl) (later others refl))

  lines_fit : (before : ℕ) (lines : List (List ℕ)) (vectors : List Vector) → lines_said vl svl before lines ≡ Ok vectors
      → All (IsVector vl svl) vectors
  unfolding lines_said
  lines_fit before [] [] e = λ k d l. absurd (omega arith)
  lines_fit before [] (v ∷ vectors) e = cc
  lines_fit before (line ∷ lines) vectors e =
      elim (nat_le 2048 before) as (λ b. ◌≡◌ {A = Result (List Vector) Fault}
      (cond b (Err (Line (before + 1))) (onto_others before (line_said vl svl line) (lines_said vl svl (before + 1) lines))) (Ok vectors)
      → All (IsVector vl svl) vectors) [
        | true ↦ λ h. cc
        | false ↦ λ h. onto_vectors before (line_said vl svl line) (lines_said vl svl (before + 1) lines) vectors
            (λ v is. line_fits line v is) (λ others is. lines_fit (before + 1) lines others is) h
      ] e

  -- the vectors of a file
  pub file_fits : (bytes : List ℕ) (vectors : List Vector) → vectors_in vl svl bytes ≡ Ok vectors → All (IsVector vl svl) vectors
  unfolding vectors_in
  file_fits bytes vectors e =
      elim (nat_lt 67108864 (length bytes)) as (λ b. ◌≡◌ {A = Result (List Vector) Fault}
      (cond b (Err TooLong) (lines_said vl svl 0 (lines_of bytes))) (Ok vectors) → All (IsVector vl svl) vectors) [
        | true ↦ λ h. cc
        | false ↦ λ h. lines_fit 0 (lines_of bytes) vectors h
      ] e

  -- what the code answers of the lines
  pub answered_fit : (lines : List (List ℕ)) (r : Result (Vec code.Vector Global) VectorFault)
      → AnswersAs (λ vectors. map vector_told vectors.items) (lines_said vl svl 0 lines) r
      → IfOk r (λ vectors. All (IsVector vl svl) (map vector_told vectors.items))
  answered_fit lines (Ok vectors) h = lines_fit 0 lines (map vector_told vectors.items) h
  answered_fit lines (Err it) h = tt

  -- each vector of the code is one
  pub each_fit : (xs : List code.Vector) (k : ℕ) (it : code.Vector) → All (IsVector vl svl) (map vector_told xs) → k < length xs
      → it ≡ get_or xs k it
      → All (λ f. fits vl svl (modes_of (vector_told it).fields) f ≡ true) (vector_told it).fields
  each_fit xs k it h l is =
      let inside : k < length (map vector_told xs) = omega (arith, length-map xs vector_told) in
      let same : get_or (map vector_told xs) k (vector_told it) ≡ vector_told it = get_or-map vector_told xs k it
      ∙ ap vector_told (sym is) in
      (subst (IsVector vl svl) same (h k (vector_told it) inside)).fit

  -- so is each of a share
  pub share_fit : (xs ys : List code.Vector) (size n : ℕ) → ys ≡ take size (drop n xs) → All (IsVector vl svl) (map vector_told xs)
      → All (IsVector vl svl) (map vector_told ys)
  share_fit xs ys size n is h =
      subst (λ (l : List code.Vector). All (IsVector vl svl) (map vector_told l)) (sym is) (λ k d l.
      let inside : k < length (take size (drop n xs)) = omega (arith, length-map (take size (drop n xs)) vector_told) in
      let long : n + k < length xs = grind (arith, common_steps) in
      let there : n + k < length (map vector_told xs) = omega (arith, length-map xs vector_told) in
      let same : get_or (map vector_told (take size (drop n xs))) k d ≡ get_or (map vector_told xs) (n + k) d =
      ap (λ ys. get_or ys k d) (map-take size (drop n xs) ∙ ap (take size) (map-drop n xs)) ∙ grind (arith, common_steps) in
      subst (IsVector vl svl) (sym same) (h (n + k) d there))
