-- The field that a word says is the one that its text is of.
use Rattle.std.proofs.Common.{◌≡◌, ℕ, ◌+◌, Bool, true, false, cond, ◌==◌, List, [], ◌∷◌, ◌++◌}
use Rattle.std.proofs.Common.{take, drop, get_or, Option, Some, None, refl, sym, ap, ◌∙◌, arith, subst}
use Rattle.std.specs.Prelude.{codes, decimal, option_map, option_and_then}
use Rattle.std.specs.List.{position}
use Rattle.std.specs.Option.{option_or}
use Rattle.std.specs.Str.{bytes_eq}
use Rattle.std.proofs.lemmas.Bool.Decides.{nat_tests}
use Rattle.std.proofs.lemmas.List.{take-append-drop, drop_more}
use Rattle.std.proofs.lemmas.List.Quantifiers.{position-Some}
use Rattle.std.proofs.lemmas.Slice.Eq.{bytes_eq-Decides}
use Rattle.std.proofs.lemmas.Option.{same_Some}
use Rattle.line_reader.specs.Numbers.{hex_number}
use Rattle.text_lines.specs.Numbers.{digit}
use Rattle.vector_runner.specs.declared.words.Key.{Key}
use Rattle.vector_runner.specs.declared.words.Key.TheVariants as key
use Rattle.vector_runner.specs.Field.{Field, X, Sp, Nzcv, Tpidr, Tpidr2, Svcr, Z, P, Ffr, Za, M, name_of, svcr_text}
use Rattle.vector_runner.specs.Grammar.{IsValue, IsWordOf}
use Rattle.vector_runner.specs.Words.{single_key, numbered_key, number_after, key_in, all_flags, flag_in, flags_in, svcr_in, bytes_in}
use Rattle.vector_runner.specs.Words.{field_of, field_with, field_in}
use Rattle.vector_runner.proofs.Values.{number_read, bytes_read, flag_read, flag_said}
use Rattle.vector_runner.proofs.Values.{number_named}

-- ---- what two steps gave

-- the word is this name, or it says what the others say
picked : {V : Type 0} (Holds : V → Type 0) (word name : List ℕ) (first v : V) (others : Option V) → (word ≡ name → Holds first)
    → (others ≡ Some v → Holds v) → cond (bytes_eq word name) (Some first) others ≡ Some v → Holds v
picked {V} Holds word name first v others here more e =
    elim (bytes_eq word name) as (λ b. bytes_eq word name ≡ b → ◌≡◌ {A = Option V} (cond b (Some first) others) (Some v) → Holds v) [
      | true ↦ λ same h. subst Holds (same_Some first v h) (here ((bytes_eq-Decides word name).0 same))
      | false ↦ λ other h. more h
    ] refl e

pub made : {A B : Type 0} (make : A → B) (o : Option A) (b : B) (Holds : B → Type 0) → ((a : A) → o ≡ Some a → Holds (make a))
    → option_map make o ≡ Some b → Holds b
made make None b Holds each e = cc
made make (Some a) b Holds each e = subst Holds (same_Some (make a) b e) (each a refl)

pub then_made : {A B : Type 0} (o : Option A) (next : A → Option B) (b : B) (Holds : Type 0)
    → ((a : A) → o ≡ Some a → next a ≡ Some b → Holds) → option_and_then next o ≡ Some b → Holds
then_made None next b Holds each e = cc
then_made (Some a) next b Holds each e = each a refl e

-- ---- the name

abbrev name_for : Key → List ℕ
name_for (key.X n) = codes "x" ++ decimal n
name_for key.Sp = codes "sp"
name_for key.Nzcv = codes "nzcv"
name_for key.Tpidr = codes "tpidr"
name_for key.Tpidr2 = codes "tpidr2"
name_for key.Svcr = codes "svcr"
name_for (key.Z n) = codes "z" ++ decimal n
name_for (key.P n) = codes "p" ++ decimal n
name_for key.Ffr = codes "ffr"
name_for (key.Za n) = codes "za" ++ decimal n
name_for key.M = codes "m"

single_is : (name : List ℕ) (k : Key) → single_key name ≡ Some k → name ≡ name_for k
unfolding single_key
single_is name k e =
    let Holds : Key → Type 0 = λ it. name ≡ name_for it in
    picked Holds name (codes "sp") key.Sp k _ (λ h. h)
    (picked Holds name (codes "nzcv") key.Nzcv k _ (λ h. h)
    (picked Holds name (codes "tpidr") key.Tpidr k _ (λ h. h)
    (picked Holds name (codes "tpidr2") key.Tpidr2 k _ (λ h. h)
    (picked Holds name (codes "svcr") key.Svcr k _ (λ h. h)
    (picked Holds name (codes "ffr") key.Ffr k _ (λ h. h)
    (picked Holds name (codes "m") key.M k None (λ h. h) (λ h. cc))))))) e

either_is : {A : Type 0} (o p : Option A) (a : A) (Holds : Type 0) → (o ≡ Some a → Holds) → (p ≡ Some a → Holds)
    → option_or o p ≡ Some a → Holds
either_is None p a Holds here more e = more e
either_is (Some it) p a Holds here more e = here e

numbered_is : (name : List ℕ) (k : Key) → numbered_key name ≡ Some k → name ≡ name_for k
unfolding numbered_key
numbered_is name k e =
    let Holds : Key → Type 0 = λ it. name ≡ name_for it in
    either_is _ _ k (name ≡ name_for k)
    (made (λ n. key.X n) (number_after (codes "x") name) k Holds (λ n h. number_named (codes "x") name n h))
    (either_is _ _ k (name ≡ name_for k)
    (made (λ n. key.Z n) (number_after (codes "z") name) k Holds (λ n h. number_named (codes "z") name n h))
    (either_is _ _ k (name ≡ name_for k)
    (made (λ n. key.P n) (number_after (codes "p") name) k Holds (λ n h. number_named (codes "p") name n h))
    (made (λ n. key.Za n) (number_after (codes "za") name) k Holds (λ n h. number_named (codes "za") name n h)))) e

key_is : (name : List ℕ) (k : Key) → key_in name ≡ Some k → name ≡ name_for k
unfolding key_in
key_is name k e = either_is (single_key name) (numbered_key name) k (name ≡ name_for k) (single_is name k) (numbered_is name k) e

-- ---- the value

-- it is that of a field of this name
record Named (k : Key) (digits : List ℕ) (f : Field) : Type 0 where
  name : name_for k ≡ name_of f
  value : IsValue f digits

four : (a b c d n z v w : ℕ) → a ≡ n → b ≡ z → c ≡ v → d ≡ w → ◌≡◌ {A = List ℕ} (a ∷ b ∷ c ∷ d ∷ []) (n ∷ z ∷ v ∷ w ∷ [])
four a b c d n z v w p q r s = cc

all_read : (o p q r : Option Bool) (f : Field) (Holds : Field → Type 0)
    → ((n z c v : Bool) → o ≡ Some n → p ≡ Some z → q ≡ Some c → r ≡ Some v → Holds (Nzcv n z c v)) → all_flags o p q r ≡ Some f → Holds f
all_read None p q r f Holds each e = cc
all_read (Some n) None q r f Holds each e = cc
all_read (Some n) (Some z) None r f Holds each e = cc
all_read (Some n) (Some z) (Some c) None f Holds each e = cc
all_read (Some n) (Some z) (Some c) (Some v) f Holds each e = subst Holds (same_Some (Nzcv n z c v) f e) (each n z c v refl refl refl refl)

flags_read : (digits : List ℕ) (f : Field) → flags_in digits ≡ Some f → Named key.Nzcv digits f
unfolding flags_in
flags_read [] f e = cc
flags_read (a ∷ []) f e = cc
flags_read (a ∷ b ∷ []) f e = cc
flags_read (a ∷ b ∷ c ∷ []) f e = cc
flags_read (a ∷ b ∷ c ∷ d ∷ []) f e =
    all_read (flag_in a) (flag_in b) (flag_in c) (flag_in d) f (Named key.Nzcv (a ∷ b ∷ c ∷ d ∷ []))
    (λ n z v w p q r s. record {
      name = refl;
      value = four a b c d (digit n) (digit z) (digit v) (digit w) (flag_read a n p) (flag_read b z q) (flag_read c v r) (flag_read d w s);
    }) e
flags_read (a ∷ b ∷ c ∷ d ∷ more ∷ others) f e = cc

pub flags_said : (n z c v : Bool) → flags_in (digit n ∷ digit z ∷ digit c ∷ digit v ∷ []) ≡ Some (Nzcv n z c v)
unfolding flags_in
flags_said n z c v = rw (flag_said n) (rw (flag_said z) (rw (flag_said c) (rw (flag_said v) refl)))

svcr_read : (digits : List ℕ) (f : Field) → svcr_in digits ≡ Some f → Named key.Svcr digits f
unfolding svcr_in
svcr_read digits f e =
    let Holds : Field → Type 0 = λ it. Named key.Svcr digits it in
    picked Holds digits (codes "0") (Svcr false false) f _ (λ h. record { name = refl; value = h })
    (picked Holds digits (codes "1") (Svcr true false) f _ (λ h. record { name = refl; value = h })
    (picked Holds digits (codes "2") (Svcr false true) f _ (λ h. record { name = refl; value = h })
    (picked Holds digits (codes "3") (Svcr true true) f None (λ h. record { name = refl; value = h }) (λ h. cc)))) e

pub svcr_said : (streaming za_on : Bool) → svcr_in (svcr_text streaming za_on) ≡ Some (Svcr streaming za_on)
unfolding svcr_in
svcr_said false false = refl
svcr_said true false = refl
svcr_said false true = refl
svcr_said true true = refl

value_read : (k : Key) (digits : List ℕ) (f : Field) → field_of k digits ≡ Some f → Named k digits f
unfolding field_of
value_read (key.X n) digits f e =
    made (λ it. X n it) (hex_number 16 digits) f (Named (key.X n) digits)
    (λ it h. record { name = refl; value = number_read 16 digits it h }) e
value_read key.Sp digits f e =
    made (λ it. Sp it) (hex_number 16 digits) f (Named key.Sp digits)
    (λ it h. record { name = refl; value = number_read 16 digits it h }) e
value_read key.Nzcv digits f e = flags_read digits f e
value_read key.Tpidr digits f e =
    made (λ it. Tpidr it) (hex_number 16 digits) f (Named key.Tpidr digits)
    (λ it h. record { name = refl; value = number_read 16 digits it h }) e
value_read key.Tpidr2 digits f e =
    made (λ it. Tpidr2 it) (hex_number 16 digits) f (Named key.Tpidr2 digits)
    (λ it h. record { name = refl; value = number_read 16 digits it h }) e
value_read key.Svcr digits f e = svcr_read digits f e
value_read (key.Z n) digits f e =
    made (λ it. Z n it) (bytes_in digits) f (Named (key.Z n) digits)
    (λ it h. record { name = refl; value = bytes_read digits it h }) e
value_read (key.P n) digits f e =
    made (λ it. P n it) (bytes_in digits) f (Named (key.P n) digits)
    (λ it h. record { name = refl; value = bytes_read digits it h }) e
value_read key.Ffr digits f e =
    made (λ it. Ffr it) (bytes_in digits) f (Named key.Ffr digits)
    (λ it h. record { name = refl; value = bytes_read digits it h }) e
value_read (key.Za n) digits f e =
    made (λ it. Za n it) (bytes_in digits) f (Named (key.Za n) digits)
    (λ it h. record { name = refl; value = bytes_read digits it h }) e
value_read key.M digits f e =
    made (λ it. M it) (bytes_in digits) f (Named key.M digits)
    (λ it h. record { name = refl; value = bytes_read digits it h }) e

-- ---- the name and the value of a word

abbrev pub is_equals : ℕ → Bool
is_equals b = b == 61

cut_at : (word : List ℕ) (at : ℕ) → position is_equals word ≡ Some at → word ≡ take at word ++ 61 ∷ drop (at + 1) word
cut_at word at e =
    let it = position-Some is_equals word at 0 e in
    let test : (get_or word at 0 == 61) ≡ true = it.1 in
    let there : get_or word at 0 ≡ 61 = grind (arith, nat_tests) in
    sym (take-append-drop at word)
    ∙ ap (λ (rest : List ℕ). take at word ++ rest) (drop_more word at 0 it.0)
    ∙ ap (λ (b : ℕ). take at word ++ b ∷ drop (at + 1) word) there

pub word_read : (word : List ℕ) (f : Field) → field_in word ≡ Some f → IsWordOf word f
unfolding field_in
word_read word f e =
    then_made (position is_equals word) (λ at. field_with (take at word) (drop (at + 1) word)) f (IsWordOf word f)
    (λ at is h. then_made (key_in (take at word)) (λ k. field_of k (drop (at + 1) word)) f (IsWordOf word f)
    (λ k named said.
    let it = value_read k (drop (at + 1) word) f said in
    record {
      digits = drop (at + 1) word;
      is = cut_at word at is ∙ ap (λ (name : List ℕ). name ++ 61 ∷ drop (at + 1) word) (key_is (take at word) k named ∙ it.name);
      value = it.value;
    }) h) e
