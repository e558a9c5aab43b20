-- The addresses that words write.
use Rattle.std.proofs.Common.{◌≡◌, ℕ, zero, suc, ◌+◌, ◌*◌, ◌^◌, ◌<◌, ◌≤◌, Bool, true, false, cond, List, [], ◌∷◌, ◌++◌, length, take, drop}
use Rattle.std.proofs.Common.{Option, Some, None, refl, sym, ap, ◌∙◌, arith, subst, lt-ltb}
use Rattle.std.specs.Prelude.{◌&&◌, nat_le, codes, is_some}
use Rattle.std.specs.Char.{digit_value}
use Rattle.std.specs.List.{list_all}
use Rattle.std.specs.Str.{bytes_eq}
use Rattle.std.specs.Str.Parse.{digits_value_after}
use Rattle.std.proofs.Math.Nat.{mul-le-mul_left, mul-le-mul_right, pow-suc, one-le-pow}
use Rattle.std.proofs.lemmas.Bool.{and_parts, and_from, le-leb}
use Rattle.std.proofs.lemmas.Bool.Decides.{nat_tests}
use Rattle.std.proofs.lemmas.List.{length-drop, take-append-drop}
use Rattle.std.proofs.lemmas.Slice.Eq.{bytes_eq-Decides}
use Rattle.line_reader.specs.Numbers.{is_digit_of, value_in, if_fits, digits_in}
use Rattle.line_reader.specs.declared.numbers.Base.TheVariants.{SixteenAnyCase}
use Rattle.script_reader.specs.Words.{begins_address, is_address, address_of}
use Rattle.script_reader.specs.Script.{IsAddress}

-- ---- how large a number of hexadecimal digits is

below_16 : (c : ℕ) → is_digit_of SixteenAnyCase c ≡ true → digit_value c < 16
below_16 c e = grind (arith, nat_tests)

larger : (n d p v : ℕ) → d < 16 → v < (n * 16 + d + 1) * p → v < (n + 1) * (p * 16)
larger n d p v low l =
    let more : n * 16 + d + 1 ≤ (n + 1) * 16 = omega arith in
    let scaled : (n * 16 + d + 1) * p ≤ (n + 1) * 16 * p = mul-le-mul_right p more in
    omega (arith, scaled)

-- at most so many further digits
after_small : (k n : ℕ) (ds : List ℕ) → length ds ≤ k → list_all (is_digit_of SixteenAnyCase) ds ≡ true
    → digits_value_after 16 n ds < (n + 1) * 16 ^ k
after_small k n [] most e =
    let some : 1 ≤ 16 ^ k = one-le-pow k 16 (omega arith) in
    let more : (n + 1) * 1 ≤ (n + 1) * 16 ^ k = mul-le-mul_left (n + 1) some in
    omega (arith, more)
after_small zero n (d ∷ ds) most e = absurd (omega arith)
after_small (suc k) n (d ∷ ds) most e =
    let parts = and_parts (is_digit_of SixteenAnyCase d) (list_all (is_digit_of SixteenAnyCase) ds) e in
    let more : (n + 1) * 16 ^ suc k ≡ (n + 1) * (16 ^ k * 16) = ap (λ p. (n + 1) * p) (pow-suc 16 k) in
    subst (λ m. digits_value_after 16 (n * 16 + digit_value d) ds < m) (sym more)
    (larger n (digit_value d) (16 ^ k) (digits_value_after 16 (n * 16 + digit_value d) ds) (below_16 d parts.0)
    (after_small k (n * 16 + digit_value d) ds (omega arith) parts.1))

-- sixteen digits fit 64 bits
digits_fit : (ds : List ℕ) → length ds ≤ 16 → list_all (is_digit_of SixteenAnyCase) ds ≡ true
    → if_fits (value_in SixteenAnyCase ds) ≡ Some (value_in SixteenAnyCase ds)
digits_fit ds most e =
    let small : digits_value_after 16 0 ds < (0 + 1) * 16 ^ 16 = after_small 16 0 ds most e in
    ap (λ b. cond b (Some (value_in SixteenAnyCase ds)) None) (lt-ltb (value_in SixteenAnyCase ds) (2 ^ 64) (omega (arith, small)))

-- ---- what begins an address

three : (a b c : Bool) → (a && b && c) ≡ true → (a ≡ true) × (b ≡ true) × (c ≡ true)
three true true true e = (refl, refl, refl)
three true true false e = cc
three true false c e = cc
three false b c e = cc

all_three : (a b c : Bool) → a ≡ true → b ≡ true → c ≡ true → (a && b && c) ≡ true
all_three a b c p q r = rw (p, q, r) refl

-- `0x`, and as many characters
record IsBegun (word : List ℕ) : Type 0 where
  least : 3 ≤ length word
  most : length word ≤ 18
  first : take 2 word ≡ codes "0x"

begun : (word : List ℕ) → begins_address word ≡ true → IsBegun word
unfolding begins_address
begun word e =
    let it = three (nat_le 3 (length word)) (nat_le (length word) 18) (bytes_eq (take 2 word) (codes "0x")) e in
    record {
      least = grind (arith, nat_tests, it.0);
      most = grind (arith, nat_tests, it.1);
      first = (bytes_eq-Decides (take 2 word) (codes "0x")).0 it.2;
    }

behind_most : (word : List ℕ) → length word ≤ 18 → length (drop 2 word) ≤ 16
behind_most word most = omega (arith, length-drop 2 word)

behind_some : (word : List ℕ) → 3 ≤ length word → 1 ≤ length (drop 2 word)
behind_some word least = omega (arith, length-drop 2 word)

-- ---- the address as it is read

begun_read : (word : List ℕ) → begins_address word ≡ true → digits_in SixteenAnyCase (drop 2 word) ≡ address_of word
unfolding digits_in address_of is_address
begun_read word e =
    let it = begun word e in
    elim (list_all (is_digit_of SixteenAnyCase) (drop 2 word)) as (λ b. list_all (is_digit_of SixteenAnyCase) (drop 2 word) ≡ b
    → cond b (if_fits (value_in SixteenAnyCase (drop 2 word))) None
    ≡ cond (begins_address word && b) (Some (value_in SixteenAnyCase (drop 2 word))) None) [
      | true ↦ λ is. rw e (digits_fit (drop 2 word) (behind_most word it.most) is)
      | false ↦ λ is. rw e refl
    ] refl

other : (word : List ℕ) → begins_address word ≡ false → None ≡ address_of word
unfolding address_of is_address
other word e = rw e refl

-- the digits of a word that begins so are read as its address
pub address_read : (word digits : List ℕ) → ◌≡◌ {A = Option (List ℕ)} (Some digits) (cond (begins_address word) (Some (drop 2 word)) None)
    → digits_in SixteenAnyCase digits ≡ address_of word
address_read word digits e =
    elim (begins_address word) as (λ b. begins_address word ≡ b
    → ◌≡◌ {A = Option (List ℕ)} (Some digits) (cond b (Some (drop 2 word)) None) → digits_in SixteenAnyCase digits ≡ address_of word) [
      | true ↦ λ is h. (let same : digits ≡ drop 2 word = cc in ap (digits_in SixteenAnyCase) same ∙ begun_read word is)
      | false ↦ λ is h. cc
    ] refl e

-- and another word writes none
pub no_address : (word : List ℕ) → ◌≡◌ {A = Option (List ℕ)} None (cond (begins_address word) (Some (drop 2 word)) None)
    → None ≡ address_of word
no_address word e =
    elim (begins_address word) as (λ b. begins_address word ≡ b
    → ◌≡◌ {A = Option (List ℕ)} None (cond b (Some (drop 2 word)) None) → None ≡ address_of word) [
      | true ↦ λ is h. cc
      | false ↦ λ is h. other word is
    ] refl e

pub address_fits : (word : List ℕ) → is_some (address_of word) ≡ is_address word
unfolding address_of
address_fits word =
    elim (is_address word) as (λ b. is_some (cond b (Some (value_in SixteenAnyCase (drop 2 word))) None) ≡ b) [ true ↦ refl | false ↦ refl ]

-- ---- the address as it is written

written : (word : List ℕ) (address : ℕ) → is_address word ≡ true → value_in SixteenAnyCase (drop 2 word) ≡ address
    → IsAddress word address
unfolding is_address
written word address e value =
    let parts = and_parts (begins_address word) (list_all (is_digit_of SixteenAnyCase) (drop 2 word)) e in
    let it = begun word parts.0 in
    record {
      digits = drop 2 word;
      is = sym (take-append-drop 2 word) ∙ ap (λ (cs : List ℕ). cs ++ drop 2 word) it.first;
      some = behind_some word it.least;
      most = behind_most word it.most;
      hexadecimal = parts.1;
      value = value;
    }

pub address_is : (word : List ℕ) (address : ℕ) → address_of word ≡ Some address → IsAddress word address
unfolding address_of
address_is word address e =
    elim (is_address word) as (λ b. is_address word ≡ b
    → ◌≡◌ {A = Option ℕ} (cond b (Some (value_in SixteenAnyCase (drop 2 word))) None) (Some address) → IsAddress word address) [
      | true ↦ λ is h. written word address is cc
      | false ↦ λ is h. cc
    ] refl e

begins : (ds : List ℕ) → 1 ≤ length ds → length ds ≤ 16 → begins_address (codes "0x" ++ ds) ≡ true
unfolding begins_address
begins ds some most =
    all_three (nat_le 3 (length (codes "0x" ++ ds))) (nat_le (length (codes "0x" ++ ds)) 18) true
    (le-leb 3 (length (codes "0x" ++ ds)) (omega arith)) (le-leb (length (codes "0x" ++ ds)) 18 (omega arith)) refl

are_read : (ds : List ℕ) → 1 ≤ length ds → length ds ≤ 16 → list_all (is_digit_of SixteenAnyCase) ds ≡ true
    → address_of (codes "0x" ++ ds) ≡ Some (value_in SixteenAnyCase ds)
unfolding address_of is_address
are_read ds some most all =
    ap (λ b. cond b (Some (value_in SixteenAnyCase ds)) None)
    (and_from (begins_address (codes "0x" ++ ds)) (list_all (is_digit_of SixteenAnyCase) ds) (begins ds some most) all)

pub address_said : (word : List ℕ) (address : ℕ) → IsAddress word address → address_of word ≡ Some address
address_said word address it =
    ap address_of it.is ∙ are_read it.digits it.some it.most it.hexadecimal ∙ ap (λ (n : ℕ). Some n) it.value
