-- What the shapes of a name want after some tokens, and which tokens they take as a whole.
use Rattle.std.proofs.Common.{◌≡◌, ℕ, zero, suc, ◌≤◌, ◌==◌, ◌||◌, Bool, true, false, cond, List, [], ◌∷◌, ◌++◌, Option}
use Rattle.std.proofs.Common.{Some, None, length, take, max, slice_get, refl, sym, ap, ◌∙◌, arith, eqb-true, eq-eqb}
use Rattle.std.specs.Prelude.{option_and_then, is_some}
use Rattle.std.specs.List.{list_any}
use Rattle.std.proofs.lemmas.Bool.{and_parts, and_from, or_right}
use Rattle.std.proofs.lemmas.List.{append-nil, length-take}
use Rattle.std.proofs.lemmas.Option.{same_Some}
use Rattle.a64_encode.specs.Either.{instruction_of}
use Rattle.insn_text.specs.declared.item.Item.{Item}
use Rattle.insn_text.specs.declared.item.RegisterFile.{RegisterFile}
use Rattle.insn_text.specs.declared.item.VectorFile.{VectorFile}
use Rattle.insn_text.specs.declared.item.Kind.{Kind}
use Rattle.insn_text.specs.declared.item.Kind.TheVariants as kind
use Rattle.insn_text.specs.declared.item.Shape.{Shape}
use Rattle.insn_text.specs.Texts.{items_of, bits_of}
use Rattle.asm_tokens.specs.Tokens.{is_number_token}
use Rattle.asm_tokens.specs.declared.token.Token.{Token}
use Rattle.asm_tokens.specs.declared.token.Token.TheVariants.{Register, Keyword, Punctuation, Sized}
use Rattle.asm_operands.specs.Fields.{on_punctuation, on_keyword, on_register, on_sized, field_said}
use Rattle.asm_operands.specs.Operands.{PartialWord, partial_with, partial_after, taken_on, taken, count_on, taken_count, fixed}
use Rattle.asm_operands.specs.Operands.{word_in, taken_count_in, shapes_of, first_of_words, first_word, furthest, is_number_kind}
use Rattle.asm_operands.specs.Operands.{is_number_item}
use Rattle.asm_operands.specs.Operands.{wants_number, is_whole, OperandsSaid, Fails, Fault, said_or, if_meant, word_said}
use Rattle.asm_operands.specs.Operands.{operand_fault, operands_said, target_of}

-- ---- places of a list

pub get_none : {A : Type 0} (xs : List A) (k : ℕ) → slice_get xs k ≡ None → length xs ≤ k
get_none [] k e = omega arith
get_none (x ∷ xs) zero e = cc
get_none (x ∷ xs) (suc k) e = let le = get_none xs k e in omega arith

-- ---- how far shapes reach

reach_on_le : (is : List Item) (ts : List Token) → ((next : PartialWord) → taken_count is next ts ≤ length ts) → (o : Option PartialWord)
    → count_on (λ next. taken_count is next ts) o ≤ suc (length ts)
reach_on_le is ts ih None = omega arith
reach_on_le is ts ih (Some next) = let le = ih next in omega arith

reach_le : (is : List Item) (partial : PartialWord) (ts : List Token) → taken_count is partial ts ≤ length ts
unfolding taken_count
reach_le [] partial ts = omega arith
reach_le (i ∷ is) partial [] = omega arith
reach_le (i ∷ is) partial (t ∷ ts) = reach_on_le is ts (λ next. reach_le is next ts) (partial_after i partial t)

pub furthest_le : (ss : List Shape) (ts : List Token) → furthest ss ts ≤ length ts
unfolding furthest taken_count_in
furthest_le [] ts = omega arith
furthest_le (s ∷ ss) ts = let a = reach_le (items_of s) (fixed s) ts in let b = furthest_le ss ts in omega arith

-- operands that take the first tokens and others reach as far
taken_reach : (is : List Item) (partial : PartialWord) (n : ℕ) (ts rest : List Token) (w : ℕ) → n ≤ length ts
    → taken is partial (take n ts ++ rest) ≡ Some w → n ≤ taken_count is partial ts
unfolding taken taken_count
taken_reach is partial zero ts rest w le e = omega arith
taken_reach is partial (suc n) [] rest w le e = absurd (omega arith)
taken_reach [] partial (suc n) (t ∷ ts) rest w le e = cc
taken_reach (i ∷ is) partial (suc n) (t ∷ ts) rest w le e =
    elim (partial_after i partial t) as (λ o. taken_on (λ next. taken is next (take n ts ++ rest)) o ≡ Some w
    → suc n ≤ count_on (λ next. taken_count is next ts) o) [
      | None ↦ λ h. cc
      | Some next ↦ λ h. let less : n ≤ length ts = omega arith in let r = taken_reach is next n ts rest w less h in omega arith
    ] e

-- operands that take all tokens are as many
taken_length : (is : List Item) (partial : PartialWord) (ts : List Token) (w : ℕ) → taken is partial ts ≡ Some w → length is ≡ length ts
unfolding taken
taken_length [] partial [] w e = refl
taken_length [] partial (t ∷ ts) w e = cc
taken_length (i ∷ is) partial [] w e = cc
taken_length (i ∷ is) partial (t ∷ ts) w e =
    elim (partial_after i partial t) as (λ o. taken_on (λ next. taken is next ts) o ≡ Some w → suc (length is) ≡ suc (length ts)) [
      | None ↦ λ h. cc
      | Some next ↦ λ h. ap suc (taken_length is next ts w h)
    ] e

-- and where they reach as far as they are many, they take these
reach_taken : (is : List Item) (partial : PartialWord) (n : ℕ) (ts : List Token) → taken_count is partial ts ≡ n → length is ≡ n → (w : ℕ)
    × (taken is partial (take n ts) ≡ Some w)
unfolding taken taken_count
reach_taken [] partial zero ts r l = (partial.value, refl)
reach_taken [] partial (suc n) ts r l = absurd (omega arith)
reach_taken (i ∷ is) partial zero ts r l = absurd (omega arith)
reach_taken (i ∷ is) partial (suc n) [] r l = absurd (omega arith)
reach_taken (i ∷ is) partial (suc n) (t ∷ ts) r l =
    elim (partial_after i partial t) as (λ o. count_on (λ next. taken_count is next ts) o ≡ suc n → (w : ℕ)
    × (taken_on (λ next. taken is next (take n ts)) o ≡ Some w)) [
      | None ↦ λ h. absurd (omega arith)
      | Some next ↦ λ h. reach_taken is next n ts (omega arith) (omega arith)
    ] r

-- ---- numbers

punctuation_number : (says : ℕ → Option ℕ) (t : Token) (f : ℕ) → is_number_token t ≡ true → on_punctuation says t ≡ Some f → ⊥
unfolding is_number_token on_punctuation
punctuation_number says (Punctuation c) f n e = cc
punctuation_number says t f n e = cc

word_number : (says : ℕ → Option ℕ) (t : Token) (f : ℕ) → is_number_token t ≡ true → on_keyword says t ≡ Some f → ⊥
unfolding is_number_token on_keyword
word_number says (Keyword index) f n e = cc
word_number says t f n e = cc

register_number : (numbered : RegisterFile → ℕ → Option ℕ) (says : ℕ → Option ℕ) (t : Token) (f : ℕ) → is_number_token t ≡ true
    → on_register numbered says t ≡ Some f → ⊥
unfolding is_number_token on_register
register_number numbered says (Register file number) f n e = cc
register_number numbered says (Keyword index) f n e = cc
register_number numbered says t f n e = cc

sized_number : (says : VectorFile → ℕ → ℕ → Option ℕ) (t : Token) (f : ℕ) → is_number_token t ≡ true → on_sized says t ≡ Some f → ⊥
unfolding is_number_token on_sized
sized_number says (Sized file number suffix) f n e = cc
sized_number says t f n e = cc

number_kind : (k : Kind) (bits : ℕ) (t : Token) (f : ℕ) → is_number_token t ≡ true → field_said k bits t ≡ Some f → is_number_kind k ≡ true
unfolding field_said is_number_kind
number_kind (kind.Punctuation c) bits t f n e = absurd (punctuation_number _ t f n e)
number_kind (kind.Keyword first count) bits t f n e = absurd (word_number _ t f n e)
number_kind (kind.Register file last) bits t f n e = absurd (register_number _ _ t f n e)
number_kind (kind.Sized file few first) bits t f n e = absurd (sized_number _ t f n e)
number_kind kind.SliceRegister bits t f n e = absurd (register_number _ _ t f n e)
number_kind (kind.Opposite first count) bits t f n e = absurd (word_number _ t f n e)
number_kind k bits t f n e = refl

known_field : (i : Item) (partial next : PartialWord) (o : Option ℕ) → partial_with i partial o ≡ Some next → (f : ℕ) × (o ≡ Some f)
unfolding partial_with
known_field i partial next None e = cc
known_field i partial next (Some f) e = (f, refl)

-- the operand of a number
taken_number : (is : List Item) (partial : PartialWord) (n : ℕ) (ts : List Token) (t : Token) (rest : List Token) (w : ℕ) → n ≤ length ts
    → is_number_token t ≡ true → taken is partial (take n ts ++ t ∷ rest) ≡ Some w
    → is_number_item (slice_get is n) ≡ true
unfolding taken partial_after
taken_number [] partial zero ts t rest w le k e = cc
taken_number (i ∷ is) partial zero ts t rest w le k e =
    elim (partial_with i partial (field_said i.kind (bits_of i) t)) as (λ o. partial_with i partial (field_said i.kind (bits_of i) t) ≡ o
    → taken_on (λ next. taken is next rest) o ≡ Some w → is_number_kind i.kind ≡ true) [
      | None ↦ λ is_none h. cc
      | Some next ↦ λ is_next h. let f =
          known_field i partial next (field_said i.kind (bits_of i) t) is_next in number_kind i.kind (bits_of i) t f.0 k f.1
    ] refl e
taken_number is partial (suc n) [] t rest w le k e = absurd (omega arith)
taken_number [] partial (suc n) (u ∷ ts) t rest w le k e = cc
taken_number (i ∷ is) partial (suc n) (u ∷ ts) t rest w le k e =
    elim (partial_with i partial (field_said i.kind (bits_of i) u))
    as (λ o. taken_on (λ next. taken is next (take n ts ++ t ∷ rest)) o ≡ Some w
    → is_number_item (slice_get is n) ≡ true) [
      | None ↦ λ h. cc
      | Some next ↦ λ h. let less : n ≤ length ts = omega arith in taken_number is next n ts t rest w less k h
    ] e

-- ---- of the shapes of a name, one

record HasShape (ss : List Shape) (P : Shape → Type 0) : Type 0 where
  shape : Shape
  among : (test : Shape → Bool) → test shape ≡ true → list_any test ss ≡ true
  reaches : (us : List Token) → taken_count_in shape us ≤ furthest ss us
  holds : P shape

first_shape : (ss : List Shape) (ts : List Token) (w : ℕ) → first_word ss ts ≡ Some w → HasShape ss (λ s. word_in s ts ≡ Some w)
unfolding first_word furthest
first_shape [] ts w e = cc
first_shape (s ∷ ss) ts w e =
    elim (word_in s ts) as (λ o. word_in s ts ≡ o → first_of_words o (first_word ss ts) ≡ Some w
    → HasShape (s ∷ ss) (λ s. word_in s ts ≡ Some w)) [
      | None ↦ λ is h. let r =
          first_shape ss ts w h in
          record {
            shape = r.shape;
            among = λ test t. or_right (test s) (list_any test ss) (r.among test t);
            reaches = (λ us. let le = r.reaches us in omega arith);
            holds = r.holds;
          }
      | Some v ↦ λ is h. record {
        shape = s;
        among = λ test t. ap (λ b. b || list_any test ss) t;
        reaches = (λ us. omega arith);
        holds = is
            ∙ h;
      }
    ] refl e

some_shape : (test : Shape → Bool) (ss : List Shape) → list_any test ss ≡ true → (s : Shape) × (test s ≡ true)
    × ((ts : List Token) (w : ℕ) → word_in s ts ≡ Some w → (v : ℕ) × (first_word ss ts ≡ Some v))
    × ((ts : List Token) → taken_count_in s ts ≤ furthest ss ts)
unfolding first_word furthest
some_shape test [] e = cc
some_shape test (s ∷ ss) e =
    elim (test s) as (λ b. test s ≡ b → (b || list_any test ss) ≡ true → (s' : Shape) × (test s' ≡ true)
    × ((ts : List Token) (w : ℕ) → word_in s' ts ≡ Some w → (v : ℕ) × (first_of_words (word_in s ts) (first_word ss ts) ≡ Some v))
    × ((ts : List Token) → taken_count_in s' ts ≤ max (taken_count_in s ts) (furthest ss ts))) [
      | true ↦ λ is h. (s, is, (λ ts w g. (w, ap (λ o. first_of_words o (first_word ss ts)) g)), (λ ts. omega arith))
      | false ↦ λ is h. let r =
          some_shape test ss h in (
            r.0,
            r.1,
            (λ ts w g. let v = r.2 ts w g in either_word (word_in s ts) (first_word ss ts) v.0 v.1),
            (λ ts. let le = r.3 ts in omega arith),
          )
    ] refl e
  where
    either_word : (a b : Option ℕ) (v : ℕ) → b ≡ Some v → (u : ℕ) × (first_of_words a b ≡ Some u)
    either_word None b v g = (v, g)
    either_word (Some u) b v g = (u, refl)

module _ (ss : List Shape) (ts : List Token) where
  abbrev k : ℕ
  k = furthest ss ts

  -- a shape that takes the tokens before the first that none takes, and others, reaches as far
  reach_here : (rest : List Token) (w : ℕ) (h : HasShape ss (λ s. word_in s (take k ts ++ rest) ≡ Some w))
      → (taken_count_in h.shape ts == k) ≡ true
  unfolding word_in taken_count_in
  reach_here rest w h =
      let low = taken_reach (items_of h.shape) (fixed h.shape) k ts rest w (furthest_le ss ts) h.holds in
      let high = h.reaches ts in
      eq-eqb _ _ (omega (arith, low, high))

  -- a number goes on: some shape wants one
  pub wants_by : (t : Token) (rest : List Token) (w : ℕ) → is_number_token t ≡ true → first_word ss (take k ts ++ t ∷ rest) ≡ Some w
      → list_any (wants_number k ts) ss ≡ true
  unfolding wants_number word_in
  wants_by t rest w n e =
      let h = first_shape ss (take k ts ++ t ∷ rest) w e in
      h.among (wants_number k ts) (and_from _ _ (reach_here (t ∷ rest) w h)
      (taken_number (items_of h.shape) (fixed h.shape) k ts t rest w (furthest_le ss ts) n h.holds))

  -- the tokens are whole: some shape is
  pub whole_by : (w : ℕ) → first_word ss (take k ts) ≡ Some w → list_any (is_whole k ts) ss ≡ true
  unfolding is_whole word_in
  whole_by w e =
      let f : first_word ss (take k ts ++ []) ≡ Some w = ap (first_word ss) (append-nil (take k ts)) ∙ e in
      let h = first_shape ss (take k ts ++ []) w f in
      let size : length (take k ts ++ []) ≡ k = ap length (append-nil (take k ts)) ∙ omega (arith, length-take k ts, furthest_le ss ts) in
      h.among (is_whole k ts) (and_from _ _ (reach_here [] w h)
      (eq-eqb _ _ (taken_length (items_of h.shape) (fixed h.shape) (take k ts ++ []) w h.holds ∙ size)))

  pub whole_from : list_any (is_whole k ts) ss ≡ true → (w : ℕ) × (first_word ss (take k ts) ≡ Some w)
  unfolding is_whole word_in taken_count_in
  whole_from e =
      let s = some_shape (is_whole k ts) ss e in
      let p = and_parts (taken_count_in s.0 ts == k) (length (items_of s.0) == k) s.1 in
      let t = reach_taken (items_of s.0) (fixed s.0) k ts (eqb-true _ _ p.0) (eqb-true _ _ p.1) in
      s.2 (take k ts) t.0 t.1

-- ---- what operands say

pub record IsRefused (name : ℕ) (ts : List Token) (f : Fault) : Type 0 where
  pub fault_is : f ≡ operand_fault (shapes_of name) ts
  pub none_meant : (w : ℕ) → first_word (shapes_of name) ts ≡ Some w → is_some (instruction_of w) ≡ true → ⊥

same_fault : (f g : Fault) → ◌≡◌ {A = OperandsSaid} (Fails f) (Fails g) → f ≡ g
same_fault f g e = cc

refused_if : (name : ℕ) (ts : List Token) (f : Fault) (v : ℕ) (b : Bool) → first_word (shapes_of name) ts ≡ Some v
    → is_some (instruction_of v) ≡ b
    → said_or (Fails (operand_fault (shapes_of name) ts)) (target_of (shapes_of name) ts) (cond b (Some v) None) ≡ Fails f
    → IsRefused name ts f
refused_if name ts f v true is m e = cc
refused_if name ts f v false is m e = record {
  fault_is = sym (same_fault _ f e);
  none_meant =
      λ w g h. let same : v ≡ w =
      same_Some v w (sym is ∙ g) in let clash : false ≡ true = sym m ∙ ap (λ x. is_some (instruction_of x)) same ∙ h in cc;
}

refused_by : (name : ℕ) (ts : List Token) (f : Fault) (o : Option ℕ) → first_word (shapes_of name) ts ≡ o
    → said_or (Fails (operand_fault (shapes_of name) ts)) (target_of (shapes_of name) ts) (option_and_then if_meant o) ≡ Fails f
    → IsRefused name ts f
unfolding if_meant
refused_by name ts f None is e =
    record { fault_is = sym (same_fault _ f e); none_meant = λ w g h. let clash : None ≡ Some w = sym is ∙ g in cc }
refused_by name ts f (Some v) is e = refused_if name ts f v (is_some (instruction_of v)) is refl e

pub refused : (name : ℕ) (ts : List Token) (f : Fault) → operands_said name ts ≡ Fails f → IsRefused name ts f
unfolding operands_said word_said
refused name ts f e = refused_by name ts f (first_word (shapes_of name) ts) refl e
