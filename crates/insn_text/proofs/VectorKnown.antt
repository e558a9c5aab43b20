-- What a region and a condition say of the operands of a vector instruction's shape, and which regions have no word of the operation.
use Rattle.std.proofs.Common.{◌≡◌, ◌≢◌, ℕ, ◌+◌, ◌-◌, ◌^◌, ◌<◌, ◌≤◌, Bool, true, false, not, ◌&&◌, ◌==◌, nat_lt, nat_le, cond, List, [], ◌∷◌}
use Rattle.std.proofs.Common.{bit_and, refl, sym, ap, ap₂, ◌∙◌, arith, eqb-true, eq-eqb, lt-ltb, ltb-true, le-leb, leb-true}
use Rattle.std.specs.Prelude.{bit_or}
use Rattle.std.specs.List.{list_all}
use Rattle.std.proofs.lemmas.Bool.{and_from, and_parts, both_ways}
use Rattle.std.proofs.lemmas.Nat.{and_assoc}
use Rattle.plain_lemmas.proofs.Tests.{not_both}
use Rattle.sm_types.specs.declared.vector.Elem.TheVariants.{H, S}
use Rattle.insn_forms.specs.declared.field.Field.{Field}
use Rattle.insn_forms.specs.Fields.{field_of, field_in as number_in, upper_mask, lower_mask, mask_of}
use Rattle.insn_forms.specs.Fields.{bit_of}
use Rattle.insn_forms.specs.Values.{is_one}
use Rattle.insn_forms.specs.Tables.{numbers_in}
use Rattle.insn_forms.proofs.Bits.{field_in-lt, placed-field, placed-one}
use Rattle.insn_forms.proofs.Sums.{plain}
use Rattle.sve_table.specs.declared.fields.TheConstants.{SIZE, SH, MEMORY_SIZE, ELEMENT_SIZE, RM}
use Rattle.sve_table.specs.declared.operation as operations
use operations.VectorOperation.{VectorOperation}
use operations.VectorOperation.TheVariants.{G26, G28, G30, G31, G32, G37, G38}
use operations.CopyForm.TheVariants.{Immediate, PredicatedImmediate, AddImmediate}
use operations.PermuteForm.TheVariants.{Unpack}
use operations.ReductionForm.TheVariants.{Reduce}
use operations.AccessForm.TheVariants.{LoadRegister, StoreVectors, StoreBytes, StoreHalfwords, StoreWords, StoreDoublewords}
use operations.Sve2Form.TheVariants.{Widening}
use Rattle.sve_table.specs.Sizes.{least_binary, least_unary, least_shifted, widest_reduced}
use Rattle.sve_table.specs.Conditions.{is_from, is_up_to, is_offset, fits_of}
use Rattle.insn_text.specs.declared.item.Kind.{Kind}
use Rattle.insn_text.specs.declared.item.Kind.TheVariants as kind
use Rattle.insn_text.specs.declared.item.Rule.{Rule}
use Rattle.insn_text.specs.declared.item.Rule.TheVariants.{Free, SecondApart, BaseApart, BasePairApart, OffsetGiven}
use Rattle.insn_text.specs.declared.item.Item.{Item}
use Rattle.insn_text.specs.declared.item.Shape.{Shape}
use Rattle.insn_text.specs.Texts.{bits_of, field_in, items_of}
use Rattle.insn_text.specs.Rules.{is_within, meets, is_sayable}
use Rattle.insn_text.proofs.Regions.{IsBit, clear, is_set, one_bit, half_clear, half_set}

-- ---- sizes

-- the elements are of a size that the operation has, by the numbers of the fields that tell it
unfoldable pub has_size : VectorOperation → ℕ → ℕ → ℕ → ℕ → Bool
has_size (G26 op) size sh memory element = is_from (least_binary op) size
has_size (G28 op) size sh memory element = is_from (least_unary op) size
has_size (G30 Immediate) size sh memory element = is_from (least_shifted (is_one sh)) size
has_size (G30 PredicatedImmediate) size sh memory element = is_from (least_shifted (is_one sh)) size
has_size (G30 (AddImmediate op)) size sh memory element = is_from (least_shifted (is_one sh)) size
has_size (G31 (Unpack signed high)) size sh memory element = is_from H size
has_size (G32 (Reduce op)) size sh memory element = is_up_to (widest_reduced op) size
has_size (G37 StoreVectors) size sh memory element = nat_le memory element
has_size (G37 StoreHalfwords) size sh memory element = is_from H element
has_size (G37 StoreWords) size sh memory element = is_from S element
has_size (G38 (Widening op top)) size sh memory element = is_from H size
has_size operation size sh memory element = true

unfoldable pub size_of_word : VectorOperation → ℕ → Bool
size_of_word o word =
    has_size o (number_in SIZE word) (number_in SH word) (number_in MEMORY_SIZE word) (number_in ELEMENT_SIZE word)

has-size : (o : VectorOperation) (word : ℕ) → fits_of o (numbers_in word) ≡ true → size_of_word o word ≡ true
unfolding fits_of has_size size_of_word
has-size (G26 op) word e = e
has-size (G28 op) word e = e
has-size (G30 Immediate) word e = e
has-size (G30 PredicatedImmediate) word e = e
has-size (G30 (AddImmediate op)) word e = e
has-size (G31 (Unpack signed high)) word e = e
has-size (G32 (Reduce op)) word e = e
has-size (G37 StoreVectors) word e = e
has-size (G37 StoreHalfwords) word e = (and_parts _ _ e).0
has-size (G37 StoreWords) word e = (and_parts _ _ e).0
has-size (G38 (Widening op top)) word e = e
has-size operation word e = refl

-- ---- regions without words

-- the region fixes each bit of the field, which has no bit twice
unfoldable pub is_known : ℕ → Field → Bool
is_known mask f = (bit_and mask (mask_of f) == mask_of f) && (bit_and (upper_mask f) (lower_mask f) == 0)

known-same : (word mask value : ℕ) (f : Field) → bit_and word mask ≡ value → is_known mask f ≡ true
    → number_in f value ≡ number_in f word
unfolding is_known
known-same word mask value f matches e =
    let parts = and_parts (bit_and mask (mask_of f) == mask_of f) (bit_and (upper_mask f) (lower_mask f) == 0) e in
    let all : bit_and mask (mask_of f) ≡ mask_of f = eqb-true _ _ parts.0 in
    let apart : bit_and (upper_mask f) (lower_mask f) ≡ 0 = eqb-true _ _ parts.1 in
    let same : bit_and value (mask_of f) ≡ bit_and word (mask_of f) =
    ap (λ v. bit_and v (mask_of f)) (sym matches) ∙ and_assoc (mask_of f) word mask ∙ ap (bit_and word) all in
    placed-one f (number_in f value) (number_in f word) apart (field_in-lt f value) (field_in-lt f word)
    (placed-field f value apart ∙ same ∙ sym (placed-field f word apart))

-- the sizes are known, and the operation has none of them
unfoldable pub has_none : VectorOperation → ℕ → ℕ → Bool
has_none o mask value =
    (is_known mask SIZE && is_known mask SH) && (is_known mask MEMORY_SIZE && is_known mask ELEMENT_SIZE)
    && not (size_of_word o value)

-- so for each number of the bits at the places that the region does not fix
unfoldable pub ends_by : VectorOperation → List ℕ → ℕ → ℕ → Bool
ends_by o [] mask value = has_none o mask value
ends_by o (bit ∷ bits) mask value =
    cond (bit_of mask bit) (ends_by o bits mask value)
    (ends_by o bits (bit_or mask (2 ^ bit)) value
    && ends_by o bits (bit_or mask (2 ^ bit)) (bit_or value (2 ^ bit)))

-- the places of the bits that tell sizes
abbrev size_bits : List ℕ
size_bits = 13 ∷ 21 ∷ 22 ∷ 23 ∷ 24 ∷ []

unfoldable pub vector_ends : VectorOperation → ℕ → ℕ → Bool
vector_ends o mask value = ends_by o size_bits mask value

never_here : (o : VectorOperation) (word mask value : ℕ) → bit_and word mask ≡ value → has_none o mask value ≡ true
    → fits_of o (numbers_in word) ≡ true → ⊥
unfolding has_none size_of_word
never_here o word mask value m e f =
    let p = and_parts ((is_known mask SIZE && is_known mask SH) && (is_known mask MEMORY_SIZE && is_known mask ELEMENT_SIZE))
    (not (size_of_word o value)) e in
    let q = and_parts (is_known mask SIZE && is_known mask SH) (is_known mask MEMORY_SIZE && is_known mask ELEMENT_SIZE) p.0 in
    let a = and_parts (is_known mask SIZE) (is_known mask SH) q.0 in
    let b = and_parts (is_known mask MEMORY_SIZE) (is_known mask ELEMENT_SIZE) q.1 in
    let same : size_of_word o value ≡ size_of_word o word =
    ap₂ (λ x y. has_size o x y (number_in MEMORY_SIZE value) (number_in ELEMENT_SIZE value)) (known-same word mask value SIZE m a.0)
    (known-same word mask value SH m a.1)
    ∙ ap₂ (λ x y. has_size o (number_in SIZE word) (number_in SH word) x y) (known-same word mask value MEMORY_SIZE m b.0)
    (known-same word mask value ELEMENT_SIZE m b.1) in
    not_both (size_of_word o value) p.1 (same ∙ has-size o word f)

-- from the halves of a region, where the bit at a place is not fixed, or from the region
by_halves : (o : VectorOperation) (word bit : ℕ) (bits : List ℕ) (mask value : ℕ) → bit_and word mask ≡ value
    → ((m v : ℕ) → bit_and word m ≡ v → ends_by o bits m v ≡ true → ⊥) → (b : Bool)
    → cond b (ends_by o bits mask value)
    (ends_by o bits (bit_or mask (2 ^ bit)) value
    && ends_by o bits (bit_or mask (2 ^ bit)) (bit_or value (2 ^ bit))) ≡ true → ⊥
by_halves o word bit bits mask value m go true h = go mask value m h
by_halves o word bit bits mask value m go false h =
    let p = and_parts (ends_by o bits (bit_or mask (2 ^ bit)) value)
    (ends_by o bits (bit_or mask (2 ^ bit)) (bit_or value (2 ^ bit))) h in
    elim (one_bit word bit) [
      | clear z ↦ go (bit_or mask (2 ^ bit)) value (half_clear word mask value (2 ^ bit) m z) p.0
      | is_set z ↦
          go (bit_or mask (2 ^ bit)) (bit_or value (2 ^ bit)) (half_set word mask value (2 ^ bit) m z) p.1
    ]

never_by : (o : VectorOperation) (word : ℕ) → fits_of o (numbers_in word) ≡ true → (bits : List ℕ) (mask value : ℕ)
    → bit_and word mask ≡ value → ends_by o bits mask value ≡ true → ⊥
unfolding ends_by
never_by o word f [] mask value m e = never_here o word mask value m e f
never_by o word f (bit ∷ bits) mask value m e =
    by_halves o word bit bits mask value m (λ n v r h. never_by o word f bits n v r h) (bit_of mask bit) e

pub vector_never : (o : VectorOperation) (word m v : ℕ) → bit_and word m ≡ v → vector_ends o m v ≡ true
    → fits_of o (numbers_in word) ≡ true → ⊥
unfolding vector_ends
vector_never o word m v r e f = never_by o word f size_bits m v r e

-- ---- operands

-- the kind has a text for each number of the operand's field
unfoldable pub says_each : Item → Kind → Bool
says_each i (kind.Keyword first count) = nat_le (2 ^ bits_of i) count
says_each i (kind.Unsigned base scale most) = nat_le (2 ^ bits_of i) (most + 1)
says_each i (kind.Pattern first) = nat_le (2 ^ bits_of i) 32
says_each i (kind.Descending from) = nat_le (2 ^ bits_of i) from
says_each i (kind.Mask wide) = false
says_each i other = true

-- Rm is not 31 in a word that meets the condition
unfoldable pub gives_offset : VectorOperation → Bool
gives_offset (G37 LoadRegister) = true
gives_offset (G37 StoreBytes) = true
gives_offset (G37 StoreHalfwords) = true
gives_offset (G37 StoreWords) = true
gives_offset (G37 StoreDoublewords) = true
gives_offset operation = false

unfoldable pub vector_rule : VectorOperation → Rule → Bool
vector_rule o Free = true
vector_rule o OffsetGiven = gives_offset o
vector_rule o other = false

unfoldable pub says_vector_item : VectorOperation → Item → Bool
says_vector_item o i = says_each i i.kind && vector_rule o i.rule

unfoldable pub vector_says : VectorOperation → ℕ → ℕ → Shape → Bool
vector_says o m v s = list_all (says_vector_item o) (items_of s)

field_bound : (i : Item) (word : ℕ) → field_in i word < 2 ^ bits_of i
field_bound i word = field_in-lt i.field word

each_within : (i : Item) (k : Kind) (word : ℕ) → says_each i k ≡ true → is_within k (field_in i word) ≡ true
unfolding says_each is_within
each_within i (kind.Keyword first count) word e =
    let le = leb-true (2 ^ bits_of i) count e in let lt = field_bound i word in lt-ltb (field_in i word) count (omega arith)
each_within i (kind.Unsigned base scale most) word e =
    let le = leb-true (2 ^ bits_of i) (most + 1) e in let lt = field_bound i word in le-leb (field_in i word) most (omega arith)
each_within i (kind.Pattern first) word e =
    let le = leb-true (2 ^ bits_of i) 32 e in let lt = field_bound i word in lt-ltb (field_in i word) 32 (omega arith)
each_within i (kind.Descending from) word e =
    let le = leb-true (2 ^ bits_of i) from e in let lt = field_bound i word in lt-ltb (field_in i word) from (omega arith)
each_within i (kind.Mask wide) word e = cc
each_within i other word e = refl

not_last : (word : ℕ) → is_offset (number_in RM word) ≡ true → not (field_of word 16 5 == 31) ≡ true
unfolding is_offset
not_last word e =
    let lt = ltb-true (number_in RM word) 31 e in
    let ne : field_of word 16 5 ≢ 31 = λ h. omega (arith, plain 16 5 word, h, lt) in
    by_test (field_of word 16 5 == 31) ne refl
  where
    by_test : (b : Bool) → field_of word 16 5 ≢ 31 → (field_of word 16 5 == 31) ≡ b → not b ≡ true
    by_test true ne h = absurd (ne (eqb-true _ _ h))
    by_test false ne h = refl

offset_given : (o : VectorOperation) (word : ℕ) → gives_offset o ≡ true → fits_of o (numbers_in word) ≡ true
    → is_offset (number_in RM word) ≡ true
unfolding gives_offset fits_of
offset_given (G37 LoadRegister) word e f = f
offset_given (G37 StoreBytes) word e f = f
offset_given (G37 StoreHalfwords) word e f = (and_parts _ _ f).1
offset_given (G37 StoreWords) word e f = (and_parts _ _ f).1
offset_given (G37 StoreDoublewords) word e f = f
offset_given operation word e f = cc

vector_rule_met : (o : VectorOperation) (rule : Rule) (word : ℕ) → fits_of o (numbers_in word) ≡ true → vector_rule o rule ≡ true
    → meets rule word ≡ true
unfolding vector_rule meets
vector_rule_met o Free word f e = refl
vector_rule_met o SecondApart word f e = cc
vector_rule_met o BaseApart word f e = cc
vector_rule_met o BasePairApart word f e = cc
vector_rule_met o OffsetGiven word f e = not_last word (offset_given o word e f)

all_said : (o : VectorOperation) (word : ℕ) (is : List Item) → fits_of o (numbers_in word) ≡ true
    → list_all (says_vector_item o) is ≡ true → list_all (is_sayable word) is ≡ true
unfolding says_vector_item is_sayable
all_said o word [] f e = refl
all_said o word (i ∷ is) f e =
    let p = and_parts (says_vector_item o i) (list_all (says_vector_item o) is) e in
    let q = and_parts (says_each i i.kind) (vector_rule o i.rule) p.0 in
    and_from _ _ (and_from _ _ (each_within i i.kind word q.0) (vector_rule_met o i.rule word f q.1)) (all_said o word is f p.1)

pub vector_said : (o : VectorOperation) (word m v : ℕ) (s : Shape) → bit_and word m ≡ v → fits_of o (numbers_in word) ≡ true
    → vector_says o m v s ≡ true → list_all (is_sayable word) (items_of s) ≡ true
unfolding vector_says
vector_said o word m v s r f e = all_said o word (items_of s) f e
