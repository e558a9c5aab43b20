-- A word whose target is named means an instruction with each distance that its operand can hold.
use Rattle.std.proofs.Common.{◌≡◌, ℕ, ◌+◌, ◌-◌, ◌*◌, ◌/◌, ◌%◌, ◌^◌, ◌<◌, ◌==◌, ◌&&◌, ◌||◌, not, Bool, true, false, cond, bit_and}
use Rattle.std.proofs.Common.{min, max, List, [], ◌∷◌, length, take, drop, slice_get, Option, Some, None, refl, sym, ap, ap₂, ◌∙◌, subst}
use Rattle.std.proofs.Common.{arith, eqb-true, eq-eqb, inl, inr}
use Rattle.std.specs.Prelude.{bit_or, is_some, option_map, option_and_then, slice_index}
use Rattle.std.specs.Option.{option_or}
use Rattle.std.specs.Int.{bit_at}
use Rattle.std.specs.List.{list_all}
use Rattle.std.proofs.lemmas.Bool.{and_parts, cases_Bool, and_from}
use Rattle.std.proofs.lemmas.Nat.{or_disjoint, shl-shr}
use Rattle.std.proofs.lemmas.Nat.Bits.{bit_at_and, bit_at_or, bit_at-lt, bit_at-zero, same_from_bits}
use Rattle.std.proofs.lemmas.Option.{same_Some}
use Rattle.plain_lemmas.proofs.Tests.{implied, not_both}
use Rattle.plain_lemmas.proofs.Lists.{list_all-get, list_all-drop, list_all-take}
use Rattle.insn_forms.specs.declared.field.Field.{Field}
use Rattle.insn_forms.specs.declared.line.Line.{Line}
use Rattle.insn_forms.specs.Tables.{Means, meaning_in, meaning_by, stands_for}
use Rattle.a64_table.specs.declared.operation.Operation.{Operation}
use Rattle.a64_table.specs.declared.operation.Operation.TheVariants.{G9, G10, G19}
use Rattle.a64_table.specs.declared.rows.TheConstants.{SCALAR_LINES}
use Rattle.a64_table.specs.Conditions.{fits_of}
use Rattle.a64_table.specs.Table.{scalar, meaning_of}
use Rattle.sm_types.specs.declared.insn.Insn.{Insn}
use Rattle.a64_encode.specs.Either.{instruction_of}
use Rattle.sve_table.specs.declared.operation.VectorOperation.{VectorOperation}
use Rattle.sve_table.specs.declared.rows.TheConstants.{VECTOR_LINES}
use Rattle.sve_table.specs.Table.{vector, vector_meaning_of}
use Rattle.insn_forms.specs.Fields as fields
use Rattle.insn_text.specs.declared.item.Item.{Item}
use Rattle.insn_text.specs.declared.item.Shape.{Shape}
use Rattle.insn_text.specs.declared.shapes.TheConstants.{SHAPES, STARTS}
use Rattle.insn_text.specs.Texts.{items_in, items_of, bits_of}
use Rattle.asm_tokens.specs.declared.token.Token.{Token}
use Rattle.asm_tokens.specs.declared.token.Token.TheVariants.{Distance}
use Rattle.asm_operands.specs.Fields.{field_said}
use Rattle.asm_operands.specs.declared.operands.Target.{Target}
use Rattle.asm_operands.specs.Operands.{PartialWord, mask_of, placed, with_field, agrees, partial_with, partial_after, taken_on, taken}
use Rattle.asm_operands.specs.Operands.{fixed}
use Rattle.asm_operands.specs.Operands.{word_in, shapes_of, first_of_words, first_word, is_distance, names, is_name_token, target_in}
use Rattle.asm_operands.specs.Operands.{target_of, if_meant, word_said, operand_fault, OperandsSaid, Says, Fails, said_or, operands_said}
use Rattle.asm_operands.specs.Distances.{with_distance}
use Rattle.asm_operands.specs.Sound.{is_sound}
use Rattle.asm_operands.proofs.Tables.{items_of-sound}
use Rattle.insn_forms.proofs.Bits.{field_masked}
use Rattle.asm_operands.proofs.WordBits.{and_swap, upper_mask, lower_mask}

-- ---- the word of a shape has the bits that the shape fixes

kept_bit : (w a k p o : ℕ) → w < 2 → a < 2 → k < 2 → p < 2 → o < 2 → min a o ≡ min p k → min w (max k o) ≡ min (max a p) (max k o)
    → min w k ≡ min a k
kept_bit w a k p o wl al kl pl ol e f = omega arith

bits_kept : (w a k p o : ℕ) → bit_and a o ≡ bit_and p k → bit_and w (bit_or k o) ≡ bit_and (bit_or a p) (bit_or k o)
    → bit_and w k ≡ bit_and a k
bits_kept w a k p o e f = same_from_bits _ _ (λ i.
    let agreed : min (bit_at a i) (bit_at o i) ≡ min (bit_at p i) (bit_at k i) =
    sym (bit_at_and a o i) ∙ ap (λ n. bit_at n i) e ∙ bit_at_and p k i in
    let after : min (bit_at w i) (max (bit_at k i) (bit_at o i)) ≡ min (max (bit_at a i) (bit_at p i)) (max (bit_at k i) (bit_at o i)) =
    sym (bit_at_and w (bit_or k o) i ∙ ap (min (bit_at w i)) (bit_at_or k o i)) ∙ ap (λ n. bit_at n i) f
    ∙ bit_at_and (bit_or a p) (bit_or k o) i ∙ ap₂ min (bit_at_or a p i) (bit_at_or k o i) in
    bit_at_and w k i
    ∙ kept_bit (bit_at w i) (bit_at a i) (bit_at k i) (bit_at p i) (bit_at o i) (bit_at-lt w i) (bit_at-lt a i) (bit_at-lt k i)
    (bit_at-lt p i) (bit_at-lt o i) agreed after
    ∙ sym (bit_at_and a k i))

-- the word has the bits that are known
abbrev Keeps : ℕ → PartialWord → Type 0
Keeps w partial = bit_and w partial.mask ≡ bit_and partial.value partial.mask

kept_by : (i : Item) (partial next : PartialWord) (field w : ℕ) (b : Bool) → agrees i partial field ≡ b
    → ◌≡◌ {A = Option PartialWord} (cond b (Some (with_field i partial field)) None) (Some next) → Keeps w next → Keeps w partial
unfolding agrees with_field
kept_by i partial next field w true a e h =
    let same = same_Some (with_field i partial field) next e in
    let parts = and_parts (bit_and partial.value (mask_of i) == bit_and (placed i field) partial.mask) _ a in
    bits_kept w partial.value partial.mask (placed i field) (mask_of i) (eqb-true _ _ parts.0)
    (subst (λ (k : PartialWord). Keeps w k) (sym same) h)
kept_by i partial next field w false a e h = cc

kept_with : (i : Item) (partial next : PartialWord) (o : Option ℕ) (w : ℕ) → partial_with i partial o ≡ Some next → Keeps w next
    → Keeps w partial
unfolding partial_with
kept_with i partial next None w e h = cc
kept_with i partial next (Some field) w e h = kept_by i partial next field w (agrees i partial field) refl e h

kept_after : (i : Item) (partial next : PartialWord) (t : Token) (w : ℕ) → partial_after i partial t ≡ Some next → Keeps w next
    → Keeps w partial
unfolding partial_after
kept_after i partial next t w e h = kept_with i partial next (field_said i.kind (bits_of i) t) w e h

taken_kept : (is : List Item) (partial : PartialWord) (ts : List Token) (w : ℕ) → taken is partial ts ≡ Some w → Keeps w partial
unfolding taken
taken_kept [] partial [] w e = ap (λ v. bit_and v partial.mask) (sym (same_Some partial.value w e))
taken_kept [] partial (t ∷ ts) w e = cc
taken_kept (i ∷ is) partial [] w e = cc
taken_kept (i ∷ is) partial (t ∷ ts) w e =
    elim (partial_after i partial t) as (λ o. partial_after i partial t ≡ o → taken_on (λ next. taken is next ts) o ≡ Some w
    → Keeps w partial) [
      | None ↦ λ is_none h. cc
      | Some next ↦ λ is_next h. kept_after i partial next t w is_next (taken_kept is next ts w h)
    ] refl e

pub word_kept : (s : Shape) (ts : List Token) (w : ℕ) → word_in s ts ≡ Some w → bit_and w s.mask ≡ bit_and s.value s.mask
unfolding word_in fixed
word_kept s ts w e = taken_kept (items_of s) (fixed s) ts w e

-- ---- a field lies in its mask

no_bit : (a u b l : ℕ) → a < 2 → u < 2 → b < 2 → l < 2 → min u l ≡ 0 → min (min a u) (min b l) ≡ 0
no_bit a u b l al ul bl ll e = omega arith

and_none : (a u b l : ℕ) → bit_and u l ≡ 0 → bit_and (bit_and a u) (bit_and b l) ≡ 0
and_none a u b l e = same_from_bits _ _ (λ i.
    let none : min (bit_at u i) (bit_at l i) ≡ 0 = sym (bit_at_and u l i) ∙ ap (λ n. bit_at n i) e ∙ bit_at-zero i in
    bit_at_and (bit_and a u) (bit_and b l) i ∙ ap₂ min (bit_at_and a u i) (bit_at_and b l i)
    ∙ no_bit (bit_at a i) (bit_at u i) (bit_at b i) (bit_at l i) (bit_at-lt a i) (bit_at-lt u i) (bit_at-lt b i) (bit_at-lt l i) none
    ∙ sym (bit_at-zero i))

clear_bit : (a u b l m : ℕ) → a < 2 → u < 2 → b < 2 → l < 2 → m < 2 → min m (max u l) ≡ 0 → min (max (min a u) (min b l)) m ≡ 0
clear_bit a u b l m al ul bl ll ml e = omega arith

and_clear : (a u b l m : ℕ) → bit_and m (bit_or u l) ≡ 0 → bit_and (bit_or (bit_and a u) (bit_and b l)) m ≡ 0
and_clear a u b l m e = same_from_bits _ _ (λ i.
    let none : min (bit_at m i) (max (bit_at u i) (bit_at l i)) ≡ 0 =
    sym (bit_at_and m (bit_or u l) i ∙ ap (min (bit_at m i)) (bit_at_or u l i)) ∙ ap (λ n. bit_at n i) e ∙ bit_at-zero i in
    bit_at_and (bit_or (bit_and a u) (bit_and b l)) m i
    ∙ ap (λ n. min n (bit_at m i)) (bit_at_or (bit_and a u) (bit_and b l) i ∙ ap₂ max (bit_at_and a u i) (bit_at_and b l i))
    ∙ clear_bit (bit_at a i) (bit_at u i) (bit_at b i) (bit_at l i) (bit_at m i) (bit_at-lt a i) (bit_at-lt u i) (bit_at-lt b i)
    (bit_at-lt l i) (bit_at-lt m i) none
    ∙ sym (bit_at-zero i))

part_masked : (x n k : ℕ) → x % 2 ^ n * 2 ^ k ≡ bit_and (x * 2 ^ k) ((2 ^ n - 1) * 2 ^ k)
part_masked x n k = ap (λ y. y % 2 ^ n * 2 ^ k) (sym (shl-shr x k)) ∙ field_masked (x * 2 ^ k) n k

placed_clear : (i : Item) (field mask : ℕ) → bit_and (upper_mask i) (lower_mask i) ≡ 0 → bit_and mask (mask_of i) ≡ 0
    → bit_and (placed i field) mask ≡ 0
unfolding fields.placed fields.mask_of
placed_clear i field mask apart clear =
    let a = field / 2 ^ i.field.width * 2 ^ i.field.upper_low in
    let b = field * 2 ^ i.field.low in
    let joined : bit_and mask (bit_or (upper_mask i) (lower_mask i)) ≡ 0 =
    ap (bit_and mask) (or_disjoint (upper_mask i) (lower_mask i) apart) ∙ clear in
    ap (λ n. bit_and n mask)
    (ap₂ (λ x y. x + y) (part_masked (field / 2 ^ i.field.width) i.field.upper_width i.field.upper_low)
    (part_masked field i.field.width i.field.low)
    ∙ sym (or_disjoint (bit_and a (upper_mask i)) (bit_and b (lower_mask i)) (and_none a (upper_mask i) b (lower_mask i) apart)))
    ∙ and_clear a (upper_mask i) b (lower_mask i) mask joined

same_bit : (w p m : ℕ) → w < 2 → p < 2 → m < 2 → min p m ≡ 0 → min (max w p) m ≡ min w m
same_bit w p m wl pl ml e = omega arith

pub or_clear : (w p m : ℕ) → bit_and p m ≡ 0 → bit_and (bit_or w p) m ≡ bit_and w m
or_clear w p m e = same_from_bits _ _ (λ i.
    let none : min (bit_at p i) (bit_at m i) ≡ 0 = sym (bit_at_and p m i) ∙ ap (λ n. bit_at n i) e ∙ bit_at-zero i in
    bit_at_and (bit_or w p) m i ∙ ap (λ n. min n (bit_at m i)) (bit_at_or w p i)
    ∙ same_bit (bit_at w i) (bit_at p i) (bit_at m i) (bit_at-lt w i) (bit_at-lt p i) (bit_at-lt m i) none ∙ sym (bit_at_and w m i))

-- ---- the rows of the words of a shape leave room for its distance, and have no condition

unfoldable pub is_free : Operation → Bool
is_free (G9 op) = true
is_free (G10 op) = true
is_free (G19 op) = true
is_free operation = false

free_fits : (operation : Operation) → is_free operation ≡ true → (n : Field → ℕ) → fits_of operation n ≡ true
unfolding is_free fits_of
free_fits (G9 op) e n = refl
free_fits (G10 op) e n = refl
free_fits (G19 op) e n = refl
free_fits operation e n = cc

-- no word of the row is one of the shape, or the row has no bit of the field, and no condition
unfoldable pub leaves_room : Item → Shape → Line Operation → Bool
leaves_room i s row =
    not (bit_and row.value s.mask == bit_and (bit_and s.value s.mask) row.mask)
    || ((bit_and row.mask (mask_of i) == 0) && is_free row.operation)

-- no word of the vector row is one of the shape
unfoldable pub is_no_vector : Shape → Line VectorOperation → Bool
is_no_vector s row = not (bit_and row.value s.mask == bit_and (bit_and s.value s.mask) row.mask)

-- the rows of the words of a shape with a distance leave room for it, and none is of a vector instruction
unfoldable pub rows_leave_room : Shape → Item → Bool
rows_leave_room s i = list_all (leaves_room i s) SCALAR_LINES && list_all (is_no_vector s) VECTOR_LINES

unfoldable pub has_room : Shape → Item → Bool
has_room s i = not (is_distance i.kind) || ((bit_and (upper_mask i) (lower_mask i) == 0) && rows_leave_room s i)

unfoldable pub all_room : Shape → Bool
all_room s = list_all (has_room s) (items_of s)

shapes_room : list_all all_room SHAPES ≡ true
unfolding items_in items_of fields.mask_of is_distance is_free leaves_room is_no_vector rows_leave_room has_room all_room
shapes_room = refl

-- such a row does not match a word of the shape
never_matches : (s : Shape) (ts : List Token) (w : ℕ) (row : Line VectorOperation) → word_in s ts ≡ Some w → is_no_vector s row ≡ true
    → bit_and w row.mask ≡ row.value → ⊥
unfolding is_no_vector
never_matches s ts w row said room matches =
    let common : bit_and row.value s.mask ≡ bit_and (bit_and s.value s.mask) row.mask =
    ap (λ v. bit_and v s.mask) (sym matches) ∙ and_swap w row.mask s.mask ∙ ap (λ v. bit_and v row.mask) (word_kept s ts w said) in
    not_both (bit_and row.value s.mask == bit_and (bit_and s.value s.mask) row.mask) room (eq-eqb _ _ common)

module _ (i : Item) (s : Shape) (ts : List Token) (w field : ℕ) (said : word_in s ts ≡ Some w)
    (apart : bit_and (upper_mask i) (lower_mask i) ≡ 0) where
  abbrev resolved : ℕ
  resolved = bit_or w (placed i field)

  row_stands : (row : Line Operation) → leaves_room i s row ≡ true → stands_for scalar row w ≡ true → stands_for scalar row resolved ≡ true
  unfolding leaves_room stands_for scalar
  row_stands row room stands =
      let matches = eqb-true (bit_and w row.mask) row.value (and_parts (bit_and w row.mask == row.value) _ stands).0 in
      let common : bit_and row.value s.mask ≡ bit_and (bit_and s.value s.mask) row.mask =
      ap (λ v. bit_and v s.mask) (sym matches) ∙ and_swap w row.mask s.mask ∙ ap (λ v. bit_and v row.mask) (word_kept s ts w said) in
      let parts = and_parts (bit_and row.mask (mask_of i) == 0) (is_free row.operation) (implied _ _ room (eq-eqb _ _ common)) in
      let clear = placed_clear i field row.mask apart (eqb-true _ 0 parts.0) in
      and_from _ _ (eq-eqb _ _ (or_clear w (placed i field) row.mask clear ∙ matches)) (free_fits row.operation parts.1 _)

  some_of : (b : Bool) (it : Insn) (rest : Option Insn) → is_some rest ≡ true → is_some (cond b (Some it) rest) ≡ true
  some_of true it rest e = refl
  some_of false it rest e = e

  some_here : (b : Bool) (it : Insn) (rest : Option Insn) → b ≡ true → is_some (cond b (Some it) rest) ≡ true
  some_here true it rest e = refl
  some_here false it rest e = cc

  some_other : (b : Bool) (it : Insn) (rest : Option Insn) → b ≡ false → is_some (cond b (Some it) rest) ≡ true → is_some rest ≡ true
  some_other true it rest e h = cc
  some_other false it rest e h = h

  still_meant : (rows : List (Line Operation)) → list_all (leaves_room i s) rows ≡ true → is_some (meaning_in scalar rows w) ≡ true
      → is_some (meaning_in scalar rows resolved) ≡ true
  unfolding meaning_in
  still_meant [] room e = cc
  still_meant (row ∷ rows) room e =
      let parts = and_parts (leaves_room i s row) (list_all (leaves_room i s) rows) room in
      elim (cases_Bool (stands_for scalar row w)) [
        | inl h ↦ some_here (stands_for scalar row resolved) _ _ (row_stands row parts.0 h)
        | inr h ↦ some_of (stands_for scalar row resolved) _ _ (still_meant rows parts.1 (some_other (stands_for scalar row w) _ _ h e))
      ]

  some_either : (a b c d : Option Insn) → (is_some a ≡ true → is_some c ≡ true) → (is_some b ≡ true → is_some d ≡ true)
      → is_some (option_or a b) ≡ true → is_some (option_or c d) ≡ true
  some_either (Some x) b (Some y) d f g e = refl
  some_either (Some x) b None d f g e = let clash : false ≡ true = f refl in cc
  some_either None b (Some y) d f g e = refl
  some_either None b None d f g e = g e

  never_stands : (row : Line VectorOperation) → is_no_vector s row ≡ true → stands_for vector row w ≡ true → ⊥
  unfolding stands_for vector
  never_stands row room stands =
      never_matches s ts w row said room (eqb-true (bit_and w row.mask) row.value (and_parts (bit_and w row.mask == row.value) _ stands).0)

  never_meant : (rows : List (Line VectorOperation)) → list_all (is_no_vector s) rows ≡ true → is_some (meaning_in vector rows w) ≡ true → ⊥
  unfolding meaning_in
  never_meant [] room e = cc
  never_meant (row ∷ rows) room e =
      let parts = and_parts (is_no_vector s row) (list_all (is_no_vector s) rows) room in
      elim (cases_Bool (stands_for vector row w)) [
        | inl h ↦ never_stands row parts.0 h
        | inr h ↦ never_meant rows parts.1 (some_other (stands_for vector row w) _ _ h e)
      ]

  no_vector : list_all (is_no_vector s) VECTOR_LINES ≡ true → (v : ℕ) → is_some (vector_meaning_of w) ≡ true
      → is_some (vector_meaning_of v) ≡ true
  unfolding vector_meaning_of meaning_by vector
  no_vector room v e = absurd (never_meant VECTOR_LINES room e)

  scalar_meant : list_all (leaves_room i s) SCALAR_LINES ≡ true → is_some (meaning_of w) ≡ true → is_some (meaning_of resolved) ≡ true
  unfolding meaning_of meaning_by scalar
  scalar_meant room e = still_meant SCALAR_LINES room e

  either_meant : rows_leave_room s i ≡ true → is_some (instruction_of w) ≡ true → is_some (instruction_of resolved) ≡ true
  unfolding instruction_of rows_leave_room
  either_meant room e =
      let parts = and_parts (list_all (leaves_room i s) SCALAR_LINES) (list_all (is_no_vector s) VECTOR_LINES) room in
      some_either (meaning_of w) (vector_meaning_of w) (meaning_of resolved) (vector_meaning_of resolved) (scalar_meant parts.0)
      (no_vector parts.1 resolved) e

-- ---- the shape of a word whose target is named

record IsNamedIn (ts : List Token) (w : ℕ) (i : Item) : Type 0 where
  shape : Shape
  said : word_in shape ts ≡ Some w
  room : has_room shape i ≡ true
  sound : is_sound i ≡ true
  distance : is_distance i.kind ≡ true

record IsNamed (is : List Item) (i : Item) : Type 0 where
  index : ℕ
  listed : slice_get is index ≡ Some i
  distance : is_distance i.kind ≡ true

named_if : (b : Bool) (t : Bool) (j : Item) (index : ℕ) (target : Target) → is_distance j.kind ≡ b
    → option_map (λ (i : Item). record { index = index; operand = i }) (cond (b && t) (Some j) None) ≡ Some target → (j ≡ target.operand)
    × (is_distance j.kind ≡ true)
named_if true true j index target d e =
    let same : record { index = index; operand = j } ≡ target = same_Some _ target e in (ap (λ (x : Target). x.operand) same, d)
named_if true false j index target d e = cc
named_if false t j index target d e = cc

named_by : (is : List Item) (t : Option Token) (index : ℕ) (o : Option Item) (target : Target) → slice_get is index ≡ o
    → option_map (λ (i : Item). record { index = index; operand = i }) (option_and_then (names t) o) ≡ Some target
    → IsNamed is target.operand
named_by is t index None target g e = cc
named_by is t index (Some j) target g e =
    let n = named_if (is_distance j.kind) (is_name_token t) j index target refl e in
    record { index = index; listed = g ∙ ap Some n.0; distance = subst (λ (x : Item). is_distance x.kind ≡ true) n.0 n.1 }

named_in : (is : List Item) (ts : List Token) (target : Target) → target_in is ts ≡ Some target → IsNamed is target.operand
unfolding target_in
named_in is ts target e = named_by is (slice_get ts (length is - 1)) (length is - 1) (slice_get is (length is - 1)) target refl e

of_shape : (s : Shape) (ts : List Token) (w : ℕ) (target : Target) → all_room s ≡ true → word_in s ts ≡ Some w
    → target_in (items_of s) ts ≡ Some target → IsNamedIn ts w target.operand
unfolding all_room
of_shape s ts w target room said e =
    let n = named_in (items_of s) ts target e in
    record {
      shape = s;
      said = said;
      room = list_all-get (has_room s) (items_of s) n.index target.operand room n.listed;
      sound = list_all-get is_sound (items_of s) n.index target.operand (items_of-sound s) n.listed;
      distance = n.distance;
    }

of_shapes : (ss : List Shape) (ts : List Token) (w : ℕ) (target : Target) → list_all all_room ss ≡ true → first_word ss ts ≡ Some w
    → target_of ss ts ≡ Some target → IsNamedIn ts w target.operand
unfolding first_word target_of
of_shapes [] ts w target room e f = cc
of_shapes (s ∷ ss) ts w target room e f =
    let parts = and_parts (all_room s) (list_all all_room ss) room in
    elim (word_in s ts) as (λ o. word_in s ts ≡ o → first_of_words o (first_word ss ts) ≡ Some w
    → cond (is_some o) (target_in (items_of s) ts) (target_of ss ts) ≡ Some target → IsNamedIn ts w target.operand) [
      | None ↦ λ is g h. of_shapes ss ts w target parts.1 g h
      | Some v ↦ λ is g h. of_shape s ts w target parts.0 (is ∙ g) h
    ] refl e f

of_name : (mnemonic : ℕ) (ts : List Token) (w : ℕ) (target : Target) → first_word (shapes_of mnemonic) ts ≡ Some w
    → target_of (shapes_of mnemonic) ts ≡ Some target → IsNamedIn ts w target.operand
unfolding shapes_of
of_name mnemonic ts w target e f =
    let first = slice_index STARTS mnemonic in
    let count = slice_index STARTS (mnemonic + 1) - first in
    of_shapes (take count (drop first SHAPES)) ts w target
    (list_all-take all_room count (drop first SHAPES) (list_all-drop all_room first SHAPES shapes_room)) e f

-- a word of a shape that shares none with a vector row means no vector instruction
pub never_vector : (s : Shape) (ts : List Token) (w : ℕ) (it : Insn) → word_in s ts ≡ Some w → list_all (is_no_vector s) VECTOR_LINES ≡ true
    → Means vector w it → ⊥
unfolding vector
never_vector s ts w it said room m =
    never_matches s ts w m.line said (list_all-get (is_no_vector s) VECTOR_LINES m.place m.line room m.listed) m.matches

-- ---- what operands say

-- the word is that of a shape and means an instruction
pub record IsSaid (mnemonic : ℕ) (ts : List Token) (w : ℕ) (target : Option Target) : Type 0 where
  pub word : first_word (shapes_of mnemonic) ts ≡ Some w
  pub named : target_of (shapes_of mnemonic) ts ≡ target
  pub means : is_some (instruction_of w) ≡ true

same_said : (v w : ℕ) (s t : Option Target) → ◌≡◌ {A = OperandsSaid} (Says v s) (Says w t) → (v ≡ w) × (s ≡ t)
same_said v w s t e = (cc, cc)

said_if : (mnemonic : ℕ) (ts : List Token) (v w : ℕ) (target : Option Target) (b : Bool) → first_word (shapes_of mnemonic) ts ≡ Some v
    → is_some (instruction_of v) ≡ b
    → said_or (Fails (operand_fault (shapes_of mnemonic) ts)) (target_of (shapes_of mnemonic) ts) (cond b (Some v) None) ≡ Says w target
    → IsSaid mnemonic ts w target
said_if mnemonic ts v w target true f m e = let same = same_said v w (target_of (shapes_of mnemonic) ts) target e in
    record { word = f ∙ ap Some same.0; named = same.1; means = subst (λ n. is_some (instruction_of n) ≡ true) same.0 m }
said_if mnemonic ts v w target false f m e = cc

said_by : (mnemonic : ℕ) (ts : List Token) (w : ℕ) (target : Option Target) (o : Option ℕ) → first_word (shapes_of mnemonic) ts ≡ o
    → said_or (Fails (operand_fault (shapes_of mnemonic) ts)) (target_of (shapes_of mnemonic) ts) (option_and_then if_meant o)
    ≡ Says w target
    → IsSaid mnemonic ts w target
unfolding if_meant
said_by mnemonic ts w target None f e = cc
said_by mnemonic ts w target (Some v) f e = said_if mnemonic ts v w target (is_some (instruction_of v)) f refl e

pub is_said : (mnemonic : ℕ) (ts : List Token) (w : ℕ) (target : Option Target) → operands_said mnemonic ts ≡ Says w target
    → IsSaid mnemonic ts w target
unfolding operands_said word_said
is_said mnemonic ts w target e = said_by mnemonic ts w target (first_word (shapes_of mnemonic) ts) refl e

-- what operands say means an instruction
pub said-means : (mnemonic : ℕ) (ts : List Token) (w : ℕ) (target : Option Target) → operands_said mnemonic ts ≡ Says w target
    → is_some (instruction_of w) ≡ true
said-means mnemonic ts w target e = (is_said mnemonic ts w target e).means

named_said : (mnemonic : ℕ) (ts : List Token) (w : ℕ) (target : Target) → operands_said mnemonic ts ≡ Says w (Some target)
    → IsNamedIn ts w target.operand
named_said mnemonic ts w target e = let s = is_said mnemonic ts w (Some target) e in of_name mnemonic ts w target s.word s.named

-- the operand of a target can be said
pub target-sound : (mnemonic : ℕ) (ts : List Token) (w : ℕ) (target : Target) → operands_said mnemonic ts ≡ Says w (Some target)
    → is_sound target.operand ≡ true
target-sound mnemonic ts w target e = (named_said mnemonic ts w target e).sound

resolved_by : (i : Item) (ts : List Token) (w resolved : ℕ) (o : Option ℕ) → IsNamedIn ts w i → is_some (instruction_of w) ≡ true
    → option_map (λ field. bit_or w (placed i field)) o ≡ Some resolved → is_some (instruction_of resolved) ≡ true
unfolding has_room
resolved_by i ts w resolved None n m e = cc
resolved_by i ts w resolved (Some field) n m e =
    let parts = and_parts (bit_and (upper_mask i) (lower_mask i) == 0) _ (implied (is_distance i.kind) _ n.room n.distance) in
    subst (λ v. is_some (instruction_of v) ≡ true) (same_Some _ resolved e)
    (either_meant i n.shape ts w field n.said (eqb-true _ 0 parts.0) parts.1 m)

-- with each distance it means one too
pub resolved-means : (mnemonic : ℕ) (ts : List Token) (w : ℕ) (target : Target) (back : Bool) (size resolved : ℕ)
    → operands_said mnemonic ts ≡ Says w (Some target)
    → with_distance target.operand w back size ≡ Some resolved → is_some (instruction_of resolved) ≡ true
unfolding with_distance
resolved-means mnemonic ts w target back size resolved e f =
    let i = target.operand in
    resolved_by i ts w resolved (field_said i.kind (bits_of i) (Distance back size)) (named_said mnemonic ts w target e)
    (said-means mnemonic ts w (Some target) e) f
