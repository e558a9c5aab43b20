-- What some tokens say, as a parser's answer, is what a grammar has: one token, one item and a list at a time.
use Rattle.std.proofs.Common.{◌≡◌, ℕ, suc, ◌+◌, ◌-◌, ◌^◌, Bool, true, false, nat_le, List, [], ◌∷◌, ◌++◌, Option, Some, None}
use Rattle.std.proofs.Common.{take, map, slice_get, cond, refl, sym, ap, ◌∙◌, subst, arith, leb-true, leb-false, eqb-true}
use Rattle.std.specs.Prelude.{option_map}
use Rattle.asm_tokens.specs.declared.token.Token.{Token}
use Rattle.asm_tokens.specs.declared.token.Token.TheVariants.{Keyword, Name, Bare, Punctuation}
use Rattle.asm_tokens.specs.declared.token.Lexeme.{Lexeme}
use Rattle.asm_operands.specs.declared.fault.FaultKind.{FaultKind}
use Rattle.asm_operands.specs.declared.fault.FaultKind.TheVariants.{UnknownName, BadNumber, Extra, BadOperand}
use Rattle.asm_tokens.specs.Tokens.{is_name, is_number_token}
use Rattle.asm_parser.specs.Statements.{QuadValue, IsNumber, IsAddressOf}
use Rattle.asm_parser.specs.Lines.{Answer, Tells, Stops, and_then, further, ends, no_number, number_up_to, number_then_end, one_number}
use Rattle.asm_parser.specs.Lines.{one_name, text_of_lexeme, cons_answer, is_comma_token, value_or_fault, values_from, number_value}
use Rattle.asm_parser.specs.Lines.{quad_value}
use Rattle.asm_parser.specs.Grammar.{Written, written, IsName, IsNumberTo, IsValue, IsComma, IsOne, AreMore, AreListed, GoesOn, IsWhole}
use Rattle.asm_parser.specs.Grammar.{WantsNumber, IsWhy, StopsAt, IsFirstFault}

abbrev pub Always : {A : Type 0} → A → Type 0
Always a = Unit {0}

-- an answer is what the grammar has: that alone, or the first fault
abbrev pub Tied : {A : Type 0} → (A → List Written → Type 0) → (A → Type 0) → Answer A → List Written → Type 0
Tied Is Allowed (Tells a) ts = Is a ts × Allowed a × ((b : _) → Is b ts → a ≡ b)
Tied Is Allowed (Stops index kind) ts = IsFirstFault Is Allowed (IsWhy Is) ts index kind

-- ---- one token, and then what an inner grammar has

pub record IsStep {A B : Type 0} (Is : A → List Written → Type 0) (P : A → Type 0) (Js : B → List Written → Type 0) (Q : B → Type 0)
    (t : Written) (f : A → B) : Type 0 where
  pub up : (xs : List Written) (a : A) → Is a xs → Js (f a) (t ∷ xs)
  pub down : (xs : List Written) (b : B) → Js b (t ∷ xs) → (a : A) × Is a xs × (f a ≡ b)
  pub allowed : (a : A) → P a → Q (f a)
  pub allowed_back : (a : A) → Q (f a) → P a

module _ {A B : Type 0} (Is : A → List Written → Type 0) (P : A → Type 0) (Js : B → List Written → Type 0) (Q : B → Type 0) (t : Written)
    (f : A → B) (s : IsStep Is P Js Q t f) where
  goes_up : (xs : List Written) → GoesOn Is xs → GoesOn Js (t ∷ xs)
  goes_up xs g = (g.0, f g.1, s.up (xs ++ g.0) g.1 g.2)

  goes_down : (xs : List Written) → GoesOn Js (t ∷ xs) → GoesOn Is xs
  goes_down xs g = let d = s.down (xs ++ g.0) g.1 g.2 in (g.0, d.0, d.1)

  whole_up : (xs : List Written) → IsWhole Is xs → IsWhole Js (t ∷ xs)
  whole_up xs w = (f w.0, s.up xs w.0 w.1)

  whole_down : (xs : List Written) → IsWhole Js (t ∷ xs) → IsWhole Is xs
  whole_down xs w = let d = s.down xs w.0 w.1 in (d.0, d.1)

  wants_up : (xs : List Written) → WantsNumber Is xs → WantsNumber Js (t ∷ xs)
  wants_up xs w = (w.0, w.1, goes_up (xs ++ w.0 ∷ []) w.2)

  wants_down : (xs : List Written) → WantsNumber Js (t ∷ xs) → WantsNumber Is xs
  wants_down xs w = (w.0, w.1, goes_down (xs ++ w.0 ∷ []) w.2)

  why_up : (xs : List Written) (o : Option Written) (kind : FaultKind) → IsWhy Is xs o kind → IsWhy Js (t ∷ xs) o kind
  why_up xs (Some u) BadNumber w = (w.0, wants_up xs w.1)
  why_up xs (Some u) Extra w = (λ n v. w.0 n (wants_down xs v), whole_up xs w.1)
  why_up xs (Some u) BadOperand w = (λ n v. w.0 n (wants_down xs v), λ v. w.1 (whole_down xs v))
  why_up xs (Some u) UnknownName w = w
  why_up xs None BadNumber w = w
  why_up xs None Extra w = w
  why_up xs None BadOperand w = w
  why_up xs None UnknownName w = w

  faults_up : (xs : List Written) (index : ℕ) (o : Option Written) → StopsAt Is P xs index o → StopsAt Js Q (t ∷ xs) (suc index) o
  faults_up xs index (Some u) h = λ g. h (goes_down (take (suc index) xs) g)
  faults_up xs index None h = (ap suc h.0, λ b j q. let d = s.down xs b j in h.1 d.0 d.1 (s.allowed_back d.0 (subst Q (sym d.2) q)))

  fault_up : (xs : List Written) (index : ℕ) (kind : FaultKind) → IsFirstFault Is P (IsWhy Is) xs index kind
      → IsFirstFault Js Q (IsWhy Js) (t ∷ xs) (suc index) kind
  fault_up xs index kind h = record {
    goes_on = goes_up (take index xs) h.goes_on;
    stops = faults_up xs index (slice_get xs index) h.stops;
    why = why_up (take index xs) (slice_get xs index) kind h.why;
  }

  pub tied_step : (answer : Answer A) (xs : List Written) → Tied Is P answer xs → Tied Js Q (further 1 (and_then f answer)) (t ∷ xs)
  tied_step (Tells a) xs h = (s.up xs a h.0, s.allowed a h.1, λ b j. let d = s.down xs b j in ap f (h.2 d.0 d.1) ∙ d.2)
  tied_step (Stops index kind) xs h =
      let e : suc index ≡ 1 + index = omega arith in
      subst (λ n. IsFirstFault Js Q (IsWhy Js) (t ∷ xs) n kind) e (fault_up xs index kind h)

and_then_same : {A : Type 0} (answer : Answer A) → and_then (λ a. a) answer ≡ answer
and_then_same (Tells a) = refl
and_then_same (Stops index kind) = refl

pub tied_same : {A : Type 0} (Is : A → List Written → Type 0) (P : A → Type 0) (Js : A → List Written → Type 0) (Q : A → Type 0)
    (t : Written) → IsStep Is P Js Q t (λ a. a)
    → (answer : Answer A) (xs : List Written) → Tied Is P answer xs → Tied Js Q (further 1 answer) (t ∷ xs)
tied_same Is P Js Q t s answer xs h =
    subst (λ x. Tied Js Q (further 1 x) (t ∷ xs)) (and_then_same answer) (tied_step Is P Js Q t (λ a. a) s answer xs h)

-- ---- faults at the first token

module _ {A : Type 0} (Is : A → List Written → Type 0) where
  number_why : (t : Written) (b : Bool) → is_number_token t.token ≡ b → WantsNumber Is [] → (IsWhole Is [] → ⊥)
      → IsWhy Is [] (Some t) (cond b BadNumber BadOperand)
  number_why t true e w n = (e, w)
  number_why t false e w n = (λ f. cc, n)

  -- a number may stand there, and not the token
  pub number_fault : (t : Written) (xs : List Written) → WantsNumber Is [] → (IsWhole Is [] → ⊥) → (GoesOn Is (t ∷ []) → ⊥)
      → IsFirstFault Is Always (IsWhy Is) (t ∷ xs) 0 (cond (is_number_token t.token) BadNumber BadOperand)
  number_fault t xs w n s = record {
    goes_on = (w.0 ∷ w.2.0, w.2.1, w.2.2);
    stops = s;
    why = number_why t (is_number_token t.token) refl w n;
  }

  -- no number may stand there
  pub operand_fault : (t : Written) (xs : List Written) → GoesOn Is [] → (WantsNumber Is [] → ⊥) → (IsWhole Is [] → ⊥)
      → (GoesOn Is (t ∷ []) → ⊥)
      → IsFirstFault Is Always (IsWhy Is) (t ∷ xs) 0 BadOperand
  operand_fault t xs g w n s = record { goes_on = g; stops = s; why = (λ e v. w v, n) }

  -- nothing may stand there
  pub extra_fault : (t : Written) (xs : List Written) → IsWhole Is [] → (WantsNumber Is [] → ⊥) → (GoesOn Is (t ∷ []) → ⊥)
      → IsFirstFault Is Always (IsWhy Is) (t ∷ xs) 0 Extra
  extra_fault t xs g w s = record { goes_on = ([], g.0, g.1); stops = s; why = (λ e v. w v, g) }

  -- something is to stand there
  pub missing_fault : GoesOn Is [] → (IsWhole Is [] → ⊥) → IsFirstFault Is Always (IsWhy Is) [] 0 BadOperand
  missing_fault g n = record { goes_on = g; stops = (refl, λ a i p. n (a, i)); why = tt }

-- ---- nothing more

abbrev pub IsThen : {A : Type 0} → A → A → List Written → Type 0
IsThen a b ts = (a ≡ b) × (ts ≡ [])

pub ends_tied : {A : Type 0} (a : A) (line : List ℕ) (ls : List Lexeme) → Tied (IsThen a) Always (ends a ls) (map (written line) ls)
unfolding ends
ends_tied a line [] = ((refl, refl), tt, λ b h. h.0)
ends_tied a line (l ∷ ls) =
    extra_fault (IsThen a) (written line l) (map (written line) ls) (a, (refl, refl)) (λ v. let e = v.2.2.1 in cc)
    (λ g. let e = g.2.1 in cc)

-- one item that was read or not, and nothing after it
abbrev one_or_fault : {A : Type 0} → Token → Option A → List Lexeme → Answer A
one_or_fault t None ls = no_number t
one_or_fault t (Some a) ls = further 1 (ends a ls)

number_or_fault : (t : Token) (o : Option ℕ) (ls : List Lexeme) → one_or_fault t o ls ≡ number_then_end t o ls
number_or_fault t None ls = refl
number_or_fault t (Some n) ls = refl

-- ---- items

abbrev pub ReadAs : {A : Type 0} → (A → Written → Type 0) → Written → Option A → Type 0
ReadAs IsItem t (Some a) = IsItem a t × ((b : _) → IsItem b t → a ≡ b)
ReadAs IsItem t None = (b : _) → IsItem b t → ⊥

-- a number that is an item
pub record HasNumber {A : Type 0} (IsItem : A → Written → Type 0) : Type 0 where
  pub token : Written
  pub number : is_number_token token.token ≡ true
  pub item : A
  pub is_item : IsItem item token

module _ {A : Type 0} (IsItem : A → Written → Type 0) where
  one_step : (t : Written) (a : A) → ReadAs IsItem t (Some a) → IsStep (IsThen a) Always (IsOne IsItem) Always t (λ b. b)
  one_step t a r = record {
    up = λ xs b h. (t, ap (λ ys. t ∷ ys) h.1, subst (λ c. IsItem c t) h.0 r.0);
    down = λ xs b h. (let same : h.0 ≡ t = cc in let rest : xs ≡ [] = cc in (b, (r.1 b (subst (λ u. IsItem b u) same h.2), rest), refl));
    allowed = λ b p. tt;
    allowed_back = λ b p. tt;
  }

  pub one_some : (line : List ℕ) (l : Lexeme) (a : A) (ls : List Lexeme) → ReadAs IsItem (written line l) (Some a)
      → Tied (IsOne IsItem) Always (further 1 (ends a ls)) (map (written line) (l ∷ ls))
  one_some line l a ls r =
      tied_same (IsThen a) Always (IsOne IsItem) Always (written line l) (one_step (written line l) a r) (ends a ls) (map (written line) ls)
      (ends_tied a line ls)

  pub one_none : IsWhole (IsOne IsItem) [] → ⊥
  one_none h = let e = h.1.1 in cc

  pub one_never : (t : Written) → ReadAs IsItem t None → GoesOn (IsOne IsItem) (t ∷ []) → ⊥
  one_never t r g = let same : g.2.0 ≡ t = (let e = g.2.1 in cc) in r g.1 (subst (λ u. IsItem g.1 u) same g.2.2)

  -- ---- lists of items

  more_none : IsWhole (AreMore IsItem) []
  more_none = ([], refl)

  listed_none : (items : List A) → AreListed IsItem items [] → ⊥
  listed_none [] h = h
  listed_none (a ∷ items) h = let e = h.2 in cc

  -- after a comma a list stands
  comma_up : (t : Written) → IsComma t → (xs : List Written) (items : List A) → AreListed IsItem items xs → AreMore IsItem items (t ∷ xs)
  comma_up t c xs [] h = absurd h
  comma_up t c xs (a ∷ items) h = (t, h.0, h.1, ap (λ ys. t ∷ ys) h.2, c, h.3, h.4)

  comma_down : (t : Written) (xs : List Written) (bs : List A) → AreMore IsItem bs (t ∷ xs) → (items : List A) × AreListed IsItem items xs
      × (items ≡ bs)
  comma_down t xs [] h = cc
  comma_down t xs (b ∷ bs) h = let rest : xs ≡ h.1 ∷ h.2 = (let e = h.3 in cc) in (b ∷ bs, (h.1, h.2, rest, h.5, h.6), refl)

  comma_first : (t : Written) (xs : List Written) (bs : List A) → AreMore IsItem bs (t ∷ xs) → IsComma t
  comma_first t xs [] h = cc
  comma_first t xs (b ∷ bs) h = let same : h.0 ≡ t = (let e = h.3 in cc) in subst IsComma same h.4

  comma_step : (t : Written) → IsComma t → IsStep (AreListed IsItem) Always (AreMore IsItem) Always t (λ items. items)
  comma_step t c = record { up = comma_up t c; down = comma_down t; allowed = λ a p. tt; allowed_back = λ a p. tt }

  -- after an item others may stand
  item_down : (t : Written) (a : A) → ReadAs IsItem t (Some a) → (xs : List Written) (bs : List A) → AreListed IsItem bs (t ∷ xs)
      → (items : List A) × AreMore IsItem items xs × (a ∷ items ≡ bs)
  item_down t a r xs [] h = absurd h
  item_down t a r xs (b ∷ bs) h =
      let same : h.0 ≡ t = (let e = h.2 in cc) in
      let rest : h.1 ≡ xs = (let e = h.2 in cc) in
      (bs, subst (AreMore IsItem bs) rest h.4, ap (λ x. x ∷ bs) (r.1 b (subst (λ u. IsItem b u) same h.3)))

  item_step : (t : Written) (a : A) → ReadAs IsItem t (Some a)
      → IsStep (AreMore IsItem) Always (AreListed IsItem) Always t (λ items. a ∷ items)
  item_step t a r =
      record { up = λ xs items h. (t, xs, refl, r.0, h); down = item_down t a r; allowed = λ items p. tt; allowed_back = λ items p. tt }

  item_first : (t : Written) (xs : List Written) (bs : List A) → AreListed IsItem bs (t ∷ xs) → (b : A) × IsItem b t
  item_first t xs [] h = absurd h
  item_first t xs (b ∷ bs) h = let same : h.0 ≡ t = (let e = h.2 in cc) in (b, subst (λ u. IsItem b u) same h.3)

  comma_no_number : (t : Written) → IsComma t → is_number_token t.token ≡ true → ⊥
  unfolding is_number_token
  comma_no_number t c n = let e = sym (ap is_number_token c) ∙ n in cc

  wants_listed : HasNumber IsItem → WantsNumber (AreListed IsItem) []
  wants_listed n = (n.token, n.number, ([], n.item ∷ [], (n.token, [], refl, n.is_item, refl)))

  cons_is : (a : A) (answer : Answer (List A)) → cons_answer a answer ≡ and_then (λ items. a ∷ items) answer
  cons_is a (Tells items) = refl
  cons_is a (Stops index kind) = refl

  goes_wanted : {B : Type 0} (Is : B → List Written → Type 0) → WantsNumber Is [] → GoesOn Is []
  goes_wanted Is w = (w.0 ∷ w.2.0, w.2.1, w.2.2)

  wants_one : HasNumber IsItem → WantsNumber (IsOne IsItem) []
  wants_one n = (n.token, n.number, ([], n.item, (n.token, refl, n.is_item)))

  comma_punctuation : (k : Token) → is_comma_token k ≡ true → k ≡ Punctuation 44
  comma_punctuation (Punctuation c) e = ap Punctuation (eqb-true c 44 e)
  comma_punctuation k e = cc

  module _ (line : List ℕ) (value : Lexeme → Option A) (reads : (l : Lexeme) → ReadAs IsItem (written line l) (value l))
      (number : HasNumber IsItem) where
    no_comma : (l : Lexeme) → is_comma_token l.token ≡ false → IsComma (written line l) → ⊥
    no_comma l e c = let f : is_comma_token l.token ≡ true = ap is_comma_token c in cc

    comma_case : (l : Lexeme) (ls : List Lexeme) (b : Bool) → is_comma_token l.token ≡ b
        → Tied (AreListed IsItem) Always (values_from value true ls) (map (written line) ls)
        → Tied (AreMore IsItem) Always (cond b (further 1 (values_from value true ls)) (Stops 0 Extra)) (map (written line) (l ∷ ls))
    comma_case l ls true e ih =
        tied_same (AreListed IsItem) Always (AreMore IsItem) Always (written line l)
        (comma_step (written line l) (comma_punctuation l.token e))
        (values_from value true ls) (map (written line) ls) ih
    comma_case l ls false e ih =
        extra_fault (AreMore IsItem) (written line l) (map (written line) ls) more_none
        (λ v. comma_no_number v.0 (comma_first v.0 v.2.0 v.2.1 v.2.2) v.1)
        (λ g. no_comma l e (comma_first (written line l) g.0 g.1 g.2))

    value_case : (l : Lexeme) (ls : List Lexeme) (o : Option A) → ReadAs IsItem (written line l) o
        → Tied (AreMore IsItem) Always (values_from value false ls) (map (written line) ls)
        → Tied (AreListed IsItem) Always (value_or_fault value l.token (λ a. further 1 (cons_answer a (values_from value false ls))) o)
        (map (written line) (l ∷ ls))
    unfolding no_number
    value_case l ls None r ih =
        number_fault (AreListed IsItem) (written line l) (map (written line) ls) (wants_listed number) (λ h. listed_none h.0 h.1)
        (λ g. let i = item_first (written line l) g.0 g.1 g.2 in r i.0 i.1)
    value_case l ls (Some a) r ih =
        subst (λ x. Tied (AreListed IsItem) Always (further 1 x) (written line l ∷ map (written line) ls))
        (sym (cons_is a (values_from value false ls)))
        (tied_step (AreMore IsItem) Always (AreListed IsItem) Always (written line l) (λ items. a ∷ items) (item_step (written line l) a r)
        (values_from value false ls) (map (written line) ls) ih)

    nil_one : (bs : List A) → AreMore IsItem bs [] → [] ≡ bs
    nil_one [] h = refl
    nil_one (b ∷ bs) h = let e = h.3 in cc

    both_tied : (ls : List Lexeme)
        → Tied (AreMore IsItem) Always (values_from value false ls) (map (written line) ls)
        × Tied (AreListed IsItem) Always (values_from value true ls) (map (written line) ls)
    unfolding values_from
    both_tied [] = (
      (refl, tt, nil_one),
      missing_fault (AreListed IsItem) (goes_wanted (AreListed IsItem) (wants_listed number))
          (λ h. listed_none h.0 h.1),
    )
    both_tied (l ∷ ls) =
        let ih = both_tied ls in (comma_case l ls (is_comma_token l.token) refl ih.1, value_case l ls (value l) (reads l) ih.0)

    -- one item, and nothing after it
    one_case : (l : Lexeme) (ls : List Lexeme) (o : Option A) → ReadAs IsItem (written line l) o
        → Tied (IsOne IsItem) Always (one_or_fault l.token o ls) (map (written line) (l ∷ ls))
    unfolding no_number
    one_case l ls None r =
        number_fault (IsOne IsItem) (written line l) (map (written line) ls) (wants_one number) one_none (one_never (written line l) r)
    one_case l ls (Some a) r = one_some line l a ls r

-- ---- numbers

first_number : Written
first_number = record { token = Bare 0; text = []; column = 0 }

number_has : (most : ℕ) → HasNumber (IsNumberTo most)
unfolding is_number_token first_number
number_has most = record { token = first_number; number = refl; item = 0; is_item = (refl, omega arith) }

bare_reads : (most n : ℕ) (t : Written) (b : Bool) → t.token ≡ Bare n → nat_le n most ≡ b
    → ReadAs (IsNumberTo most) t (cond b (Some n) None)
bare_reads most n t true is le = ((is, leb-true n most le), λ m h. let e = h.0 in cc)
bare_reads most n t false is le =
    λ m h. let same : m ≡ n = (let e = h.0 in cc) in let high = leb-false n most le in let low = h.1 in absurd (omega arith)

number_reads : (most : ℕ) (t : Written) (k : Token) → t.token ≡ k → ReadAs (IsNumberTo most) t (number_up_to most k)
unfolding number_up_to
number_reads most t (Bare n) is = bare_reads most n t (nat_le n most) is refl
number_reads most t k is = λ m h. let e = h.0 in cc

pub number_tied : (most : ℕ) (line : List ℕ) (ls : List Lexeme)
    → Tied (IsOne (IsNumberTo most)) Always (one_number most ls) (map (written line) ls)
unfolding one_number number_value
number_tied most line [] =
    missing_fault (IsOne (IsNumberTo most)) (goes_wanted (IsNumberTo most) (IsOne (IsNumberTo most))
    (wants_one (IsNumberTo most) (number_has most))) (one_none (IsNumberTo most))
number_tied most line (l ∷ ls) =
    subst (λ x. Tied (IsOne (IsNumberTo most)) Always x (map (written line) (l ∷ ls)))
    (number_or_fault l.token (number_up_to most l.token) ls)
    (one_case (IsNumberTo most) line (number_value most) (λ l. number_reads most (written line l) l.token refl) (number_has most) l ls
    (number_up_to most l.token) (number_reads most (written line l) l.token refl))

pub numbers_tied : (most : ℕ) (line : List ℕ) (ls : List Lexeme)
    → Tied (AreListed (IsNumberTo most)) Always (values_from (number_value most) true ls) (map (written line) ls)
unfolding number_value
numbers_tied most line ls =
    (both_tied (IsNumberTo most) line (number_value most) (λ l. number_reads most (written line l) l.token refl) (number_has most) ls).1

-- ---- names

pub no_number_name : (k : Token) → is_number_token k ≡ true → is_name k ≡ true → ⊥
unfolding is_number_token is_name
no_number_name (Keyword index) e f = cc
no_number_name Name e f = cc
no_number_name k e f = cc

first_name : Written
first_name = record { token = Name; text = []; column = 0 }

name_goes : GoesOn (IsOne IsName) []
unfolding is_name first_name
name_goes = (first_name ∷ [], [], (first_name, refl, (refl, refl)))

name_wants : WantsNumber (IsOne IsName) [] → ⊥
name_wants w =
    let same : w.2.2.0 ≡ w.0 = (let e = w.2.2.1 in cc) in
    no_number_name w.0.token w.1 (subst (λ (t : Written). is_name t.token ≡ true) same w.2.2.2.0)

name_case : (line : List ℕ) (l : Lexeme) (ls : List Lexeme) (b : Bool) → is_name l.token ≡ b
    → Tied (IsOne IsName) Always (cond b (further 1 (ends (text_of_lexeme line l) ls)) (Stops 0 BadOperand)) (map (written line) (l ∷ ls))
name_case line l ls true e = one_some IsName line l (text_of_lexeme line l) ls ((e, refl), λ b h. h.1)
name_case line l ls false e =
    operand_fault (IsOne IsName) (written line l) (map (written line) ls) name_goes name_wants (one_none IsName)
    (one_never IsName (written line l) (λ b h. let f = h.0 in cc))

pub name_tied : (line : List ℕ) (ls : List Lexeme) → Tied (IsOne IsName) Always (one_name line ls) (map (written line) ls)
unfolding one_name
name_tied line [] = missing_fault (IsOne IsName) name_goes (one_none IsName)
name_tied line (l ∷ ls) = name_case line l ls (is_name l.token) refl

-- ---- values

values_has : HasNumber IsValue
unfolding is_number_token first_number
values_has = record { token = first_number; number = refl; item = IsNumber 0; is_item = (refl, omega arith) }

value_number : (t : Written) (o : Option ℕ) → is_name t.token ≡ false → ReadAs (IsNumberTo (2 ^ 64 - 1)) t o
    → ReadAs IsValue t (option_map IsNumber o)
value_number t None e r = λ b h. never b h
  where
    never : (b : QuadValue) → IsValue b t → ⊥
    never (IsNumber n) h = r n h
    never (IsAddressOf name) h = let f = h.0 in cc
value_number t (Some n) e r = (r.0, only)
  where
    only : (b : QuadValue) → IsValue b t → IsNumber n ≡ b
    only (IsNumber m) h = ap IsNumber (r.1 m h)
    only (IsAddressOf name) h = let f = h.0 in cc

bare_no_name : (k : Token) (n : ℕ) → k ≡ Bare n → is_name k ≡ true → ⊥
unfolding is_name
bare_no_name k n e f = let g : false ≡ true = sym (ap is_name e) ∙ f in cc

value_reads : (line : List ℕ) (l : Lexeme) (b : Bool) → is_name l.token ≡ b
    → ReadAs IsValue (written line l) (cond b (Some (IsAddressOf (text_of_lexeme line l)))
    (option_map IsNumber (number_up_to (2 ^ 64 - 1) l.token)))
value_reads line l true e = ((e, refl), only)
  where
    only : (b : QuadValue) → IsValue b (written line l) → IsAddressOf (text_of_lexeme line l) ≡ b
    only (IsNumber n) h = absurd (bare_no_name l.token n h.0 e)
    only (IsAddressOf name) h = ap IsAddressOf h.1
value_reads line l false e =
    value_number (written line l) (number_up_to (2 ^ 64 - 1) l.token) e (number_reads (2 ^ 64 - 1) (written line l) l.token refl)

pub values_tied : (line : List ℕ) (ls : List Lexeme)
    → Tied (AreListed IsValue) Always (values_from (quad_value line) true ls) (map (written line) ls)
unfolding quad_value
values_tied line ls = (both_tied IsValue line (quad_value line) (λ l. value_reads line l (is_name l.token) refl) values_has ls).1
