-- A shape goes on after as many tokens as it takes: the operands that are left have tokens that it takes.
use Rattle.std.proofs.Common.{◌≡◌, ℕ, zero, suc, ◌+◌, ◌-◌, ◌*◌, ◌/◌, ◌%◌, ◌^◌, ◌<◌, ◌≤◌, ◌==◌, ◌&&◌, ◌||◌, not, Bool, true, false, nat_lt}
use Rattle.std.proofs.Common.{bit_and, List, [], ◌∷◌, ◌++◌, length, take, drop, Option, Some, None, cond, min, max, refl, sym, ap}
use Rattle.std.proofs.Common.{ap₂, ◌∙◌, arith, inl, inr, eqb-true, eq-eqb, ltb-true, mod-eq_of_lt, lit<}
use Rattle.std.specs.Prelude.{bit_or, slice_get, slice_index}
use Rattle.std.specs.Int.{bit_at}
use Rattle.std.specs.Int.Bits.{or_zero_r}
use Rattle.std.specs.List.{list_all, list_any}
use Rattle.std.proofs.lemmas.Bool.{and_parts, or_cases, cases_lt, cond_both, and_from}
use Rattle.std.proofs.lemmas.Nat.{and_assoc, and_comm, and_or_self, and_or_apart, or_comm, shl-shr}
use Rattle.std.proofs.lemmas.Nat.Bits.{bit_at_and, bit_at_or, same_from_bits}
use Rattle.plain_lemmas.proofs.Lists.{list_all-drop, list_all-take}
use Rattle.insn_forms.specs.Fields.{field_of}
use Rattle.insn_forms.specs.Fields as fields
use Rattle.insn_text.specs.declared.item.Kind.{Kind}
use Rattle.insn_text.specs.declared.item.Kind.TheVariants as kind
use Rattle.insn_text.specs.declared.item.Rule.{Rule}
use Rattle.insn_text.specs.declared.item.Rule.TheVariants.{Free, SecondApart, BaseApart, BasePairApart, OffsetGiven}
use Rattle.insn_text.specs.declared.item.Item.{Item}
use Rattle.insn_text.specs.declared.item.Shape.{Shape}
use Rattle.insn_text.specs.declared.keywords.TheConstants.{MNEMONICS}
use Rattle.insn_text.specs.declared.shapes.TheConstants.{SHAPES, STARTS}
use Rattle.insn_text.specs.Texts.{bits_of, field_in, items_in, items_of}
use Rattle.insn_text.specs.Rules.{meets, is_base_apart}
use Rattle.asm_tokens.specs.Tokens.{is_number_token}
use Rattle.asm_tokens.specs.declared.token.Token.{Token}
use Rattle.asm_operands.specs.Fields.{field_said}
use Rattle.asm_operands.specs.Shown.{token_said}
use Rattle.asm_operands.specs.Sound.{is_free}
use Rattle.asm_operands.specs.Operands.{PartialWord, mask_of, placed, with_field, agrees, partial_with, partial_after, taken_on, taken}
use Rattle.asm_operands.specs.Operands.{count_on}
use Rattle.asm_operands.specs.Operands.{taken_count, fixed, word_in, taken_count_in, shapes_of, first_of_words, first_word, furthest}
use Rattle.asm_operands.specs.Operands.{is_number_kind}
use Rattle.asm_operands.specs.Operands.{is_number_item, wants_number}
use Rattle.asm_operands.proofs.Bare.{free}
use Rattle.asm_operands.proofs.PrintedTokens.{said-heard}
use Rattle.asm_operands.proofs.MaskFields.{all_below, all_below-at}
use Rattle.asm_operands.proofs.SomeToken.{has_word, said, is_register, says_number, says_last, says_each}
use Rattle.asm_operands.proofs.SomeToken.{each_printed, each_within, each_number, number_said}
use Rattle.asm_operands.proofs.Failing.{failing, none-failing}
use Rattle.insn_forms.proofs.Bits.{field_masked, field_in-lt, placed-within, placed-field}
use Rattle.asm_operands.proofs.WordBits.{and_swap, upper_mask, lower_mask}

-- ---- bits
nothing_and : (v : ℕ) → bit_and v 0 ≡ 0
nothing_and v = and_comm v 0

outside : (v mask own : ℕ) → bit_and v mask ≡ v → bit_and mask own ≡ 0 → bit_and v own ≡ 0
outside v mask own within apart =
    ap (λ n. bit_and n own) (sym within) ∙ and_assoc own v mask ∙ ap (bit_and v) apart ∙ nothing_and v

min_max : (a b c d : ℕ) → min a b ≡ a → min c d ≡ c → min (max a c) (max b d) ≡ max a c
min_max a b c d p q = omega arith

within_both : (a b c d : ℕ) → bit_and a b ≡ a → bit_and c d ≡ c → bit_and (bit_or a c) (bit_or b d) ≡ bit_or a c
within_both a b c d p q = same_from_bits _ _ (λ k.
    bit_at_and (bit_or a c) (bit_or b d) k ∙ ap₂ min (bit_at_or a c k) (bit_at_or b d k)
    ∙ min_max (bit_at a k) (bit_at b k) (bit_at c k) (bit_at d k) (sym (bit_at_and a b k) ∙ ap (λ n. bit_at n k) p)
    (sym (bit_at_and c d k) ∙ ap (λ n. bit_at n k) q)
    ∙ sym (bit_at_or a c k))

placed_within : (i : Item) (f : ℕ) → bit_and (upper_mask i) (lower_mask i) ≡ 0 → bit_and (placed i f) (mask_of i) ≡ placed i f
placed_within i f apart = placed-within i.field f apart

-- ---- registers
-- a register of five bits from a place on
unfoldable pub is_register_at : ℕ → Item → Bool
is_register_at low i = is_register i.kind && (i.field.low == low) && (i.field.width == 5) && (i.field.upper_width == 0)

record IsRegisterAt (low : ℕ) (i : Item) : Type 0 where
  register : is_register i.kind ≡ true
  begins : i.field.low ≡ low
  five : i.field.width ≡ 5
  alone : i.field.upper_width ≡ 0

register_at : (low : ℕ) (i : Item) → is_register_at low i ≡ true → IsRegisterAt low i
unfolding is_register_at
register_at low i e =
    let p = and_parts (is_register i.kind && (i.field.low == low) && (i.field.width == 5)) (i.field.upper_width == 0) e in
    let q = and_parts (is_register i.kind && (i.field.low == low)) (i.field.width == 5) p.0 in
    let r = and_parts (is_register i.kind) (i.field.low == low) q.0 in
    record { register = r.0; begins = eqb-true _ _ r.1; five = eqb-true _ _ q.1; alone = eqb-true _ _ p.1 }

placed_number : (low : ℕ) (i : Item) (f : ℕ) → IsRegisterAt low i → f < 32 → placed i f ≡ f * 2 ^ low
unfolding fields.placed
placed_number low i f r lt =
    let z : f / 2 ^ 5 % 2 ^ 0 ≡ 0 = omega arith in
    ap₂ (λ w u. f / 2 ^ w % 2 ^ u * 2 ^ i.field.upper_low + f % 2 ^ w * 2 ^ i.field.low) r.five r.alone
    ∙ ap₂ (λ n l. n * 2 ^ i.field.upper_low + f % 2 ^ 5 * 2 ^ l) z r.begins
    ∙ ap (λ n. 0 * 2 ^ i.field.upper_low + n * 2 ^ low) (mod-eq_of_lt lt)
    ∙ omega arith

mask_number : (low : ℕ) (i : Item) → IsRegisterAt low i → mask_of i ≡ 31 * 2 ^ low
unfolding fields.mask_of
mask_number low i r =
    ap₂ (λ w u. (2 ^ u - 1) * 2 ^ i.field.upper_low + (2 ^ w - 1) * 2 ^ i.field.low) r.five r.alone
    ∙ ap (λ l. 0 * 2 ^ i.field.upper_low + 31 * 2 ^ l) r.begins
    ∙ omega arith

-- ---- an operand's token that agrees with what is known, and meets the rule
record IsChosen (i : Item) (rule : Rule) (value : ℕ) : Type 0 where
  token : Token
  field : ℕ
  said : field_said i.kind (bits_of i) token ≡ Some field
  meets_rule : meets rule (bit_or value (placed i field)) ≡ true

-- the number of a register of a word with some more bits
register_is : (low value bits number : ℕ) → bit_and (bit_or value bits) ((2 ^ 5 - 1) * 2 ^ low) ≡ number * 2 ^ low
    → field_of (bit_or value bits) low 5 ≡ number
unfolding field_of
register_is low value bits number e =
    sym (shl-shr (bit_or value bits / 2 ^ low % 2 ^ 5) low) ∙ ap (λ n. n / 2 ^ low) (field_masked (bit_or value bits) 5 low ∙ e)
    ∙ shl-shr number low

base_is : (value : ℕ) → field_of (bit_or value (31 * 2 ^ 5)) 5 5 ≡ 31
base_is value = register_is 5 value (31 * 2 ^ 5) 31 (and_or_self (31 * 2 ^ 5) value)

base_apart : (i : Item) (value number : ℕ) → IsRegisterAt 5 i → is_base_apart (bit_or value (placed i 31)) number ≡ true
base_apart i value number r =
    let at : field_of (bit_or value (placed i 31)) 5 5 ≡ 31 =
    ap (λ p. field_of (bit_or value p) 5 5) (placed_number 5 i 31 r (lit< tt)) ∙ base_is value in
    ap (λ n. (n == 31) || not (n == number)) at

-- another number than the first register's
other_number : ℕ → ℕ
other_number number = cond (number == 0) 1 0

other_small : (number : ℕ) → other_number number < 31
unfolding other_number
other_small number = cond_both (number == 0) 1 0 (λ n. n < 31) (λ _. lit< tt) (λ _. lit< tt)

other_is : (number : ℕ) → (number == other_number number) ≡ false
unfolding other_number
other_is number = other_by (number == 0) refl
  where
    other_by : (b : Bool) → (number == 0) ≡ b → (number == cond b 1 0) ≡ false
    other_by true e = ap (λ n. n == 1) (eqb-true number 0 e)
    other_by false e = e

other_kept : (number value : ℕ) → field_of (bit_or value (other_number number * 2 ^ 10)) 0 5 ≡ field_of value 0 5
unfolding field_of other_number
other_kept number value =
    let p = cond (number == 0) 1 0 * 2 ^ 10 in
    let none_low : bit_and p ((2 ^ 5 - 1) * 2 ^ 0) ≡ 0 =
    cond_both (number == 0) 1 0 (λ n. bit_and (n * 2 ^ 10) 31 ≡ 0) (λ _. refl) (λ _. refl) in
    let same : bit_and (bit_or value p) ((2 ^ 5 - 1) * 2 ^ 0) ≡ bit_and value ((2 ^ 5 - 1) * 2 ^ 0) =
    and_or_apart ((2 ^ 5 - 1) * 2 ^ 0) value p none_low in
    sym (shl-shr (bit_or value p / 2 ^ 0 % 2 ^ 5) 0)
    ∙ ap (λ n. n / 2 ^ 0) (field_masked (bit_or value p) 5 0 ∙ same ∙ sym (field_masked value 5 0)) ∙ shl-shr (value / 2 ^ 0 % 2 ^ 5) 0

other_there : (number value : ℕ) → bit_and value (31 * 2 ^ 10) ≡ 0
    → field_of (bit_or value (other_number number * 2 ^ 10)) 10 5 ≡ other_number number
unfolding other_number
other_there number value free =
    let p = cond (number == 0) 1 0 * 2 ^ 10 in
    let kept : bit_and p (31 * 2 ^ 10) ≡ p =
    cond_both (number == 0) 1 0 (λ n. bit_and (n * 2 ^ 10) (31 * 2 ^ 10) ≡ n * 2 ^ 10) (λ _. refl) (λ _. refl) in
    register_is 10 value p (cond (number == 0) 1 0)
    (ap (λ n. bit_and n (31 * 2 ^ 10)) (or_comm value p) ∙ and_or_apart (31 * 2 ^ 10) p value free ∙ kept)

second_apart : (i : Item) (value : ℕ) → IsRegisterAt 10 i → bit_and value (mask_of i) ≡ 0
    → meets SecondApart (bit_or value (placed i (other_number (field_of value 0 5)))) ≡ true
unfolding meets
second_apart i value r free =
    let number = field_of value 0 5 in
    let small = other_small number in
    let bits = placed_number 10 i (other_number number) r (omega arith) in
    let none_there : bit_and value (31 * 2 ^ 10) ≡ 0 = ap (bit_and value) (sym (mask_number 10 i r)) ∙ free in
    ap (λ p. not (field_of (bit_or value p) 0 5 == field_of (bit_or value p) 10 5)) bits
    ∙ ap₂ (λ a b. not (a == b)) (other_kept number value) (other_there number value none_there)
    ∙ ap not (other_is number)

offset_given : (i : Item) (value : ℕ) → IsRegisterAt 16 i → bit_and value (mask_of i) ≡ 0
    → meets OffsetGiven (bit_or value (placed i 0)) ≡ true
unfolding meets
offset_given i value r free =
    let none_there : bit_and value (31 * 2 ^ 16) ≡ 0 = ap (bit_and value) (sym (mask_number 16 i r)) ∙ free in
    ap (λ p. not (field_of (bit_or value p) 16 5 == 31)) (placed_number 16 i 0 r (lit< tt))
    ∙ ap (λ n. not (n == 31)) (register_is 16 value 0 0 (ap (λ n. bit_and n (31 * 2 ^ 16)) (or_zero_r value) ∙ none_there))

unfoldable pub has_choice : Rule → Item → Bool
has_choice Free i = has_word i.kind
has_choice SecondApart i = is_register_at 10 i
has_choice BaseApart i = is_register_at 5 i
has_choice BasePairApart i = is_register_at 5 i
has_choice OffsetGiven i = is_register_at 16 i

choose : (rule : Rule) (i : Item) (value : ℕ) → has_choice rule i ≡ true → bit_and value (mask_of i) ≡ 0 → IsChosen i rule value
unfolding has_choice meets
choose Free i value e free =
    let s = said i.kind (bits_of i) e in record { token = s.token; field = s.field; said = s.said; meets_rule = refl }
choose SecondApart i value e free =
    let r = register_at 10 i e in
    let s = says_number i.kind (bits_of i) (other_number (field_of value 0 5)) r.register (other_small (field_of value 0 5)) in
    record { token = s.token; field = other_number (field_of value 0 5); said = s.said; meets_rule = second_apart i value r free }
choose BaseApart i value e free =
    let r = register_at 5 i e in
    let s = says_last i.kind (bits_of i) r.register in
    record { token = s.token; field = 31; said = s.said; meets_rule = base_apart i value (field_of (bit_or value (placed i 31)) 0 5) r }
choose BasePairApart i value e free =
    let r = register_at 5 i e in
    let s = says_last i.kind (bits_of i) r.register in
    record {
      token = s.token;
      field = 31;
      said = s.said;
      meets_rule =
          and_from _ _ (base_apart i value (field_of (bit_or value (placed i 31)) 0 5) r)
          (base_apart i value (field_of (bit_or value (placed i 31)) 10 5) r);
    }
choose OffsetGiven i value e free =
    let r = register_at 16 i e in
    let s = says_number i.kind (bits_of i) 0 r.register (lit< tt) in
    record { token = s.token; field = 0; said = s.said; meets_rule = offset_given i value r free }

-- ---- the operands of a shape
-- the field's bits are not known yet, and there is a token
unfoldable pub is_new : Item → ℕ → Bool
is_new i mask = (bit_and mask (mask_of i) == 0) && has_choice i.rule i

-- some of the field's bits may be known, and there is a token for each number
unfoldable pub is_repeated : Item → Bool
is_repeated i = is_free i.rule && says_each i.kind (bits_of i)

-- the two parts of the field have no bit in common, and a token goes on
unfoldable pub is_next : Item → ℕ → Bool
is_next i mask = (bit_and (upper_mask i) (lower_mask i) == 0) && (is_new i mask || is_repeated i)

unfoldable pub goes_through : List Item → ℕ → Bool
goes_through [] mask = true
goes_through (i ∷ is) mask = is_next i mask && goes_through is (bit_or mask (mask_of i))

parts_apart : (i : Item) (mask : ℕ) → is_next i mask ≡ true → bit_and (upper_mask i) (lower_mask i) ≡ 0
unfolding is_next
parts_apart i mask e = eqb-true _ _ (and_parts (bit_and (upper_mask i) (lower_mask i) == 0) (is_new i mask || is_repeated i) e).0

-- the values of no bits but the known ones
IsWithin : PartialWord → Type 0
IsWithin partial = bit_and partial.value partial.mask ≡ partial.value

with_within : (i : Item) (partial : PartialWord) (field : ℕ) → is_next i partial.mask ≡ true → IsWithin partial
    → IsWithin (with_field i partial field)
unfolding IsWithin with_field
with_within i partial field n w =
    within_both partial.value partial.mask (placed i field) (mask_of i) w (placed_within i field (parts_apart i partial.mask n))

-- a token with which the operand goes on
record IsStep (i : Item) (partial : PartialWord) : Type 0 where
  token : Token
  field : ℕ
  after : partial_after i partial token ≡ Some (with_field i partial field)

agreed : (i : Item) (partial : PartialWord) (token : Token) (field : ℕ) → field_said i.kind (bits_of i) token ≡ Some field
    → bit_and partial.value (mask_of i) ≡ bit_and (placed i field) partial.mask
    → meets i.rule (bit_or partial.value (placed i field)) ≡ true
    → partial_after i partial token ≡ Some (with_field i partial field)
unfolding partial_after partial_with agrees with_field
agreed i partial token field heard same rule =
    ap (partial_with i partial) heard ∙ ap (λ b. cond b (Some (with_field i partial field)) None) (and_from _ _ (eq-eqb _ _ same) rule)

new_step : (i : Item) (partial : PartialWord) → bit_and (upper_mask i) (lower_mask i) ≡ 0 → bit_and partial.mask (mask_of i) ≡ 0
    → IsWithin partial
    → (c : IsChosen i i.rule partial.value) → partial_after i partial c.token ≡ Some (with_field i partial c.field)
unfolding IsWithin
new_step i partial apart nothing_known w c =
    let before : bit_and partial.value (mask_of i) ≡ 0 = outside partial.value partial.mask (mask_of i) w nothing_known in
    let here : bit_and (placed i c.field) partial.mask ≡ 0 =
    outside (placed i c.field) (mask_of i) partial.mask (placed_within i c.field apart) (and_comm (mask_of i) partial.mask ∙ nothing_known)
    in
    agreed i partial c.token c.field c.said (before ∙ sym here) c.meets_rule

-- the token of the field as it is known
known_token : Item → PartialWord → Token
known_token i partial = token_said i.kind (bits_of i) (field_in i partial.value)

partial_step : (i : Item) (partial : PartialWord) → bit_and (upper_mask i) (lower_mask i) ≡ 0 → is_repeated i ≡ true → IsWithin partial
    → partial_after i partial (known_token i partial) ≡ Some (with_field i partial (field_in i partial.value))
unfolding IsWithin is_repeated known_token meets
partial_step i partial apart e w =
    let p = and_parts (is_free i.rule) (says_each i.kind (bits_of i)) e in
    let field = field_in i partial.value in
    let lt : field < 2 ^ bits_of i = field_in-lt i.field partial.value in
    let there : placed i field ≡ bit_and partial.value (mask_of i) = placed-field i.field partial.value apart in
    let same : bit_and (bit_and partial.value (mask_of i)) partial.mask ≡ bit_and partial.value (mask_of i) =
    and_swap partial.value (mask_of i) partial.mask ∙ ap (λ n. bit_and n (mask_of i)) w in
    agreed i partial (known_token i partial) field
    (said-heard i.kind (bits_of i) field (each_printed i.kind (bits_of i) p.1) (each_within i.kind (bits_of i) field p.1 lt) lt)
    (sym (ap (λ n. bit_and n partial.mask) there ∙ same))
    (ap (λ r. meets r (bit_or partial.value (placed i field))) (free i.rule p.0))

step : (i : Item) (partial : PartialWord) → is_next i partial.mask ≡ true → IsWithin partial → IsStep i partial
unfolding is_next is_new IsWithin
step i partial e w =
    let p = and_parts (bit_and (upper_mask i) (lower_mask i) == 0) (is_new i partial.mask || is_repeated i) e in
    let apart = eqb-true _ _ p.0 in
    elim (or_cases (is_new i partial.mask) (is_repeated i) p.1) [
      | inl new ↦
          let q = and_parts (bit_and partial.mask (mask_of i) == 0) (has_choice i.rule i) new in
          let nothing_known = eqb-true _ _ q.0 in
          let c = choose i.rule i partial.value q.1 (outside partial.value partial.mask (mask_of i) w nothing_known) in
          record { token = c.token; field = c.field; after = new_step i partial apart nothing_known w c }
      | inr repeated ↦
          record { token = known_token i partial; field = field_in i partial.value; after = partial_step i partial apart repeated w }
    ]

record Ends (is : List Item) (partial : PartialWord) (before : List Token) : Type 0 where
  rest : List Token
  word : ℕ
  taken_so : taken is partial (before ++ rest) ≡ Some word

next_mask : (i : Item) (partial : PartialWord) (field : ℕ) (is : List Item) → goes_through is (bit_or partial.mask (mask_of i)) ≡ true
    → goes_through is (with_field i partial field).mask ≡ true
unfolding with_field
next_mask i partial field is g = g

complete : (is : List Item) (partial : PartialWord) → goes_through is partial.mask ≡ true → IsWithin partial → Ends is partial []
unfolding goes_through taken IsWithin
complete [] partial g w = record { rest = []; word = partial.value; taken_so = refl }
complete (i ∷ is) partial g w =
    let p = and_parts (is_next i partial.mask) (goes_through is (bit_or partial.mask (mask_of i))) g in
    let s = step i partial p.0 w in
    let e = complete is (with_field i partial s.field) (next_mask i partial s.field is p.1) (with_within i partial s.field p.0 w) in
    record {
      rest = s.token ∷ e.rest;
      word = e.word;
      taken_so = ap (taken_on (λ next. taken is next e.rest)) s.after
          ∙ e.taken_so;
    }

-- as many tokens as the operands take, and then others
go_if : (is : List Item) (next : PartialWord) (ts : List Token) (n : ℕ) → (n ≤ taken_count is next ts → Ends is next (take n ts))
    → (b : Bool)
    → suc n ≤ count_on (λ k. taken_count is k ts) (cond b (Some next) None)
    → (rest : List Token) × (word : ℕ) × (taken_on (λ k. taken is k (take n ts ++ rest)) (cond b (Some next) None) ≡ Some word)
go_if is next ts n ih true h = let e = ih (omega arith) in (e.rest, e.word, e.taken_so)
go_if is next ts n ih false h = absurd (omega arith)

go_field : (i : Item) (is : List Item) (partial : PartialWord) (ts : List Token) (n : ℕ)
    → ((field : ℕ) → n ≤ taken_count is (with_field i partial field) ts → Ends is (with_field i partial field) (take n ts))
    → (o : Option ℕ) → suc n ≤ count_on (λ k. taken_count is k ts) (partial_with i partial o)
    → (rest : List Token) × (word : ℕ) × (taken_on (λ k. taken is k (take n ts ++ rest)) (partial_with i partial o) ≡ Some word)
unfolding partial_with
go_field i is partial ts n ih None h = absurd (omega arith)
go_field i is partial ts n ih (Some field) h = go_if is (with_field i partial field) ts n (ih field) (agrees i partial field) h

go : (is : List Item) (partial : PartialWord) (n : ℕ) (ts : List Token) → goes_through is partial.mask ≡ true → IsWithin partial
    → n ≤ taken_count is partial ts
    → Ends is partial (take n ts)
unfolding taken_count taken partial_after goes_through
go is partial zero ts g w h = complete is partial g w
go [] partial (suc n) ts g w h = absurd (omega arith)
go (i ∷ is) partial (suc n) [] g w h = absurd (omega arith)
go (i ∷ is) partial (suc n) (t ∷ ts) g w h =
    let p = and_parts (is_next i partial.mask) (goes_through is (bit_or partial.mask (mask_of i))) g in
    let e =
    go_field i is partial ts n (λ field l. go is (with_field i partial field) n ts (next_mask i partial field is p.1)
    (with_within i partial field p.0 w) l) (field_said i.kind (bits_of i) t) h in
    record { rest = e.0; word = e.1; taken_so = e.2 }

-- ---- the shapes of a mnemonic
-- the fixed bits are those of the mask, and the operands go through
unfoldable pub is_open : Shape → Bool
is_open s = (bit_and s.value s.mask == s.value) && goes_through (items_of s) s.mask

open_failing : failing is_open 0 SHAPES ≡ []
unfolding failing items_in items_of fields.mask_of has_word is_register is_register_at has_choice says_each is_new is_repeated is_next
    goes_through is_open
open_failing = refl

all_open : list_all is_open SHAPES ≡ true
all_open = none-failing is_open 0 SHAPES open_failing

open_of_name : (mnemonic : ℕ) → list_all is_open (shapes_of mnemonic) ≡ true
unfolding shapes_of
open_of_name mnemonic =
    let first = slice_index STARTS mnemonic in
    list_all-take is_open (slice_index STARTS (mnemonic + 1) - first) (drop first SHAPES) (list_all-drop is_open first SHAPES all_open)

has_shape : ℕ → Bool
has_shape mnemonic = nat_lt 0 (length (shapes_of mnemonic))

all_have_shapes : all_below has_shape (length MNEMONICS) ≡ true
unfolding shapes_of all_below has_shape
all_have_shapes = refl

shape_goes : (s : Shape) (n : ℕ) (ts : List Token) → is_open s ≡ true → n ≤ taken_count_in s ts → (rest : List Token) × (word : ℕ)
    × (word_in s (take n ts ++ rest) ≡ Some word)
unfolding is_open taken_count_in word_in fixed IsWithin
shape_goes s n ts o h =
    let p = and_parts (bit_and s.value s.mask == s.value) (goes_through (items_of s) s.mask) o in
    let e = go (items_of s) (fixed s) n ts p.1 (eqb-true _ _ p.0) h in
    (e.rest, e.word, e.taken_so)

some_first : (a b : Option ℕ) (word : ℕ) → b ≡ Some word → (first : ℕ) × (first_of_words a b ≡ Some first)
some_first None b word e = (word, e)
some_first (Some first) b word e = (first, refl)

furthest_some : (ss : List Shape) (ts : List Token) (n : ℕ) → 0 < n → n ≤ furthest ss ts → 0 < length ss
unfolding furthest
furthest_some [] ts n h le = absurd (omega arith)
furthest_some (s ∷ ss) ts n h le = omega arith

shapes_go : (ss : List Shape) (n : ℕ) (ts : List Token) → list_all is_open ss ≡ true → 0 < length ss → n ≤ furthest ss ts
    → (rest : List Token) × (word : ℕ) × (first_word ss (take n ts ++ rest) ≡ Some word)
unfolding furthest first_word
shapes_go [] n ts o some_shape h = absurd (omega arith)
shapes_go (s ∷ ss) n ts o some_shape h =
    let p = and_parts (is_open s) (list_all is_open ss) o in
    elim (cases_lt (taken_count_in s ts) n) [
      | inr here ↦ let e = shape_goes s n ts p.0 here in (e.0, e.1, ap (λ a. first_of_words a (first_word ss (take n ts ++ e.0))) e.2)
      | inl later ↦
          let below : n ≤ furthest ss ts = omega arith in
          let more : 0 < length ss = furthest_some ss ts n (omega arith) below in
          let e = shapes_go ss n ts p.1 more below in
          let f = some_first (word_in s (take n ts ++ e.0)) (first_word ss (take n ts ++ e.0)) e.1 e.2 in
          (e.0, f.0, f.1)
    ]

pub goes-on : (mnemonic n : ℕ) (ts : List Token) → mnemonic < length MNEMONICS → n ≤ furthest (shapes_of mnemonic) ts
    → (rest : List Token) × (word : ℕ)
    × (first_word (shapes_of mnemonic) (take n ts ++ rest) ≡ Some word)
unfolding has_shape
goes-on mnemonic n ts lt h =
    shapes_go (shapes_of mnemonic) n ts (open_of_name mnemonic)
    (ltb-true 0 (length (shapes_of mnemonic)) (all_below-at has_shape (length MNEMONICS) mnemonic all_have_shapes lt)) h

-- ---- where a shape wants a number, some number goes on
no_register : (k : Kind) → is_register k ≡ true → is_number_kind k ≡ true → ⊥
unfolding is_register is_number_kind
no_register (kind.Register first last) e f = cc
no_register k e f = cc

record IsNumberChosen (i : Item) (rule : Rule) (value : ℕ) : Type 0 where
  chosen : IsChosen i rule value
  number : is_number_token chosen.token ≡ true

record IsNumberStep (i : Item) (partial : PartialWord) : Type 0 where
  taken_on_it : IsStep i partial
  number : is_number_token taken_on_it.token ≡ true

choose_number : (rule : Rule) (i : Item) (value : ℕ) → has_choice rule i ≡ true → is_number_kind i.kind ≡ true → IsNumberChosen i rule value
unfolding has_choice meets
choose_number Free i value e n =
    let s =
    number_said i.kind (bits_of i) n e in
    record { chosen = record { token = s.token; field = s.field; said = s.said; meets_rule = refl }; number = s.number }
choose_number SecondApart i value e n = absurd (no_register i.kind (register_at 10 i e).register n)
choose_number BaseApart i value e n = absurd (no_register i.kind (register_at 5 i e).register n)
choose_number BasePairApart i value e n = absurd (no_register i.kind (register_at 5 i e).register n)
choose_number OffsetGiven i value e n = absurd (no_register i.kind (register_at 16 i e).register n)

number_step : (i : Item) (partial : PartialWord) → is_next i partial.mask ≡ true → IsWithin partial → is_number_kind i.kind ≡ true
    → IsNumberStep i partial
unfolding is_next is_new is_repeated IsWithin known_token
number_step i partial e w n =
    let p = and_parts (bit_and (upper_mask i) (lower_mask i) == 0) (is_new i partial.mask || is_repeated i) e in
    let apart = eqb-true _ _ p.0 in
    elim (or_cases (is_new i partial.mask) (is_repeated i) p.1) [
      | inl new ↦
          let q = and_parts (bit_and partial.mask (mask_of i) == 0) (has_choice i.rule i) new in
          let c = choose_number i.rule i partial.value q.1 n in
          record {
            taken_on_it = record {
              token = c.chosen.token;
              field = c.chosen.field;
              after = new_step i partial apart (eqb-true _ _ q.0) w c.chosen;
            };
            number = c.number;
          }
      | inr repeated ↦
          record {
            taken_on_it = record {
              token = known_token i partial;
              field = field_in i partial.value;
              after = partial_step i partial apart repeated w;
            };
            number = each_number i.kind (bits_of i) (field_in i partial.value)
                (and_parts (is_free i.rule) (says_each i.kind (bits_of i)) repeated).1 n;
          }
    ]

record Wants (is : List Item) (partial : PartialWord) (before : List Token) : Type 0 where
  token : Token
  number : is_number_token token ≡ true
  rest : List Token
  word : ℕ
  taken_so : taken is partial (before ++ token ∷ rest) ≡ Some word

abbrev WantsOn : (List Token → Option ℕ) → List Token → Type 0
WantsOn on before = (t : Token) × (is_number_token t ≡ true) × (rest : List Token) × (word : ℕ) × (on (before ++ t ∷ rest) ≡ Some word)

want_if : (is : List Item) (next : PartialWord) (ts : List Token) (n : ℕ) → (taken_count is next ts ≡ n → Wants is next (take n ts))
    → (b : Bool)
    → count_on (λ k. taken_count is k ts) (cond b (Some next) None) ≡ suc n
    → WantsOn (λ us. taken_on (λ k. taken is k us) (cond b (Some next) None)) (take n ts)
want_if is next ts n ih true h = let e = ih (omega arith) in (e.token, e.number, e.rest, e.word, e.taken_so)
want_if is next ts n ih false h = absurd (omega arith)

want_field : (i : Item) (is : List Item) (partial : PartialWord) (ts : List Token) (n : ℕ)
    → ((field : ℕ) → taken_count is (with_field i partial field) ts ≡ n → Wants is (with_field i partial field) (take n ts))
    → (o : Option ℕ) → count_on (λ k. taken_count is k ts) (partial_with i partial o) ≡ suc n
    → WantsOn (λ us. taken_on (λ k. taken is k us) (partial_with i partial o)) (take n ts)
unfolding partial_with
want_field i is partial ts n ih None h = absurd (omega arith)
want_field i is partial ts n ih (Some field) h = want_if is (with_field i partial field) ts n (ih field) (agrees i partial field) h

want : (is : List Item) (partial : PartialWord) (n : ℕ) (ts : List Token) → goes_through is partial.mask ≡ true → IsWithin partial
    → taken_count is partial ts ≡ n → is_number_item (slice_get is n) ≡ true → Wants is partial (take n ts)
unfolding taken_count taken partial_after goes_through IsWithin
want [] partial zero ts g w h k = cc
want (i ∷ is) partial zero ts g w h k =
    let p = and_parts (is_next i partial.mask) (goes_through is (bit_or partial.mask (mask_of i))) g in
    let c = number_step i partial p.0 w k in
    let s = c.taken_on_it in
    let e = complete is (with_field i partial s.field) (next_mask i partial s.field is p.1) (with_within i partial s.field p.0 w) in
    record {
      token = s.token;
      number = c.number;
      rest = e.rest;
      word = e.word;
      taken_so = ap (taken_on (λ next. taken is next e.rest)) s.after ∙ e.taken_so;
    }
want [] partial (suc n) ts g w h k = absurd (omega arith)
want (i ∷ is) partial (suc n) [] g w h k = absurd (omega arith)
want (i ∷ is) partial (suc n) (t ∷ ts) g w h k =
    let p = and_parts (is_next i partial.mask) (goes_through is (bit_or partial.mask (mask_of i))) g in
    let e =
    want_field i is partial ts n (λ field l. want is (with_field i partial field) n ts (next_mask i partial field is p.1)
    (with_within i partial field p.0 w) l k) (field_said i.kind (bits_of i) t) h in
    record { token = e.0; number = e.1; rest = e.2; word = e.3; taken_so = e.4 }

shape_wants : (s : Shape) (n : ℕ) (ts : List Token) → is_open s ≡ true → wants_number n ts s ≡ true → WantsOn (word_in s) (take n ts)
unfolding is_open wants_number taken_count_in word_in fixed IsWithin
shape_wants s n ts o h =
    let p = and_parts (bit_and s.value s.mask == s.value) (goes_through (items_of s) s.mask) o in
    let q = and_parts (taken_count_in s ts == n) (is_number_item (slice_get (items_of s) n)) h in
    let e = want (items_of s) (fixed s) n ts p.1 (eqb-true _ _ p.0) (eqb-true _ _ q.0) q.1 in
    (e.token, e.number, e.rest, e.word, e.taken_so)

shapes_want : (ss : List Shape) (n : ℕ) (ts : List Token) → list_all is_open ss ≡ true → list_any (wants_number n ts) ss ≡ true
    → WantsOn (first_word ss) (take n ts)
unfolding first_word
shapes_want [] n ts o h = cc
shapes_want (s ∷ ss) n ts o h =
    let p = and_parts (is_open s) (list_all is_open ss) o in
    elim (wants_number n ts s) as (λ b. wants_number n ts s ≡ b → (b || list_any (wants_number n ts) ss) ≡ true
    → WantsOn (λ us. first_of_words (word_in s us) (first_word ss us)) (take n ts)) [
      | true ↦ λ is g. let e =
          shape_wants s n ts p.0 is in (e.0, e.1, e.2, e.3, ap (λ a. first_of_words a (first_word ss (take n ts ++ e.0 ∷ e.2))) e.4)
      | false ↦ λ is g.
          let e = shapes_want ss n ts p.1 g in
          let f = some_first (word_in s (take n ts ++ e.0 ∷ e.2)) (first_word ss (take n ts ++ e.0 ∷ e.2)) e.3 e.4 in
          (e.0, e.1, e.2, f.0, f.1)
    ] refl h

-- where a shape of a name that takes so many tokens wants a number, a number goes on
pub number-goes-on : (mnemonic n : ℕ) (ts : List Token) → list_any (wants_number n ts) (shapes_of mnemonic) ≡ true
    → (t : Token) × (is_number_token t ≡ true) × (rest : List Token) × (word : ℕ)
    × (first_word (shapes_of mnemonic) (take n ts ++ t ∷ rest) ≡ Some word)
number-goes-on mnemonic n ts h = shapes_want (shapes_of mnemonic) n ts (open_of_name mnemonic) h
