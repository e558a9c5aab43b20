-- The word of an instruction with the distance to a target means that instruction with the distance as its immediate.
use Rattle.std.proofs.Common.{◌≡◌, ℕ, zero, suc, ◌+◌, ◌-◌, ◌*◌, ◌/◌, ◌%◌, ◌^◌, ◌<◌, ◌≤◌, ◌==◌, ◌&&◌, ◌||◌, not, Bool, true, false, cond}
use Rattle.std.proofs.Common.{bit_and, nat_lt, nat_le, List, [], ◌∷◌, length, take, drop, slice_get, Option, Some, None, refl, sym, ap, ap₂}
use Rattle.std.proofs.Common.{◌∙◌, subst, arith, eqb-true, eq-eqb, ltb-true, leb-true, leb-false, ℤ, pos, ◌-ℤ◌, ◌*ℤ◌, lit<, mod-eq_of_lt}
use Rattle.std.proofs.Common.{inl, inr, lt-ltb, le-ltb}
use Rattle.std.specs.Prelude.{bit_or, is_some, option_map, option_and_then, slice_index}
use Rattle.std.specs.List.{list_all}
use Rattle.std.proofs.lemmas.Bool.{and_parts, cond-true, cond-false}
use Rattle.std.proofs.lemmas.Int.{ints}
use Rattle.std.proofs.lemmas.Nat.{and_assoc, and_comm, or_comm, or_lt, pow_pos, mod_below}
use Rattle.std.proofs.Math.Nat.{zero-mod, zero-div, mod_self, mod-add-div}
use Rattle.std.proofs.lemmas.Option.{same_Some}
use Rattle.plain_lemmas.proofs.Tests.{implied}
use Rattle.plain_lemmas.proofs.Lists.{list_all-get, list_all-drop, list_all-take}
use Rattle.plain_lemmas.proofs.Numbers.{two_pow-halves}
use Rattle.insn_forms.specs.declared.field.Field.{Field}
use Rattle.insn_forms.specs.declared.line.Line.{Line}
use Rattle.insn_forms.specs.Fields.{bits_of, field_in, is_field, signed_value, placed, mask_of, upper_mask, lower_mask}
use Rattle.insn_forms.specs.Tables.{Means, numbers_in, signed_numbers_in}
use Rattle.insn_forms.proofs.Bits.{field_in-lt, placed-field, placed-within, placed-one, placed-lt, placed-le, a_field}
use Rattle.a64_table.specs.declared.operation.Operation.{Operation}
use Rattle.a64_table.specs.declared.operation.Operation.TheVariants.{G9, G10, G19}
use Rattle.a64_table.specs.declared.operation.BranchOp.TheVariants.{B, Bl, BCond, Cbz, Cbnz, Tbz, Tbnz}
use Rattle.a64_table.specs.declared.fields.TheConstants.{BIT, BRANCH_COND, IMM14, IMM19, IMM21, IMM26, RD, RT, SF, NONE}
use Rattle.a64_table.specs.declared.rows.TheConstants.{SCALAR_LINES}
use Rattle.a64_table.specs.Conditions.{fits_of}
use Rattle.a64_table.specs.Named.{named, named_branch}
use Rattle.a64_table.specs.Table.{scalar}
use Rattle.a64_table.specs.Values.{condition_of}
use Rattle.insn_forms.specs.Values.{byte, is_one}
use Rattle.sm_types.specs.declared.insn.Insn.{Insn}
use Rattle.sm_types.specs.declared.insn.Insn.TheVariants as insn
use Rattle.sm_types.specs.declared.insn.PcRelativeOp.TheVariants.{Adr, Adrp}
use Rattle.sm_types.specs.declared.insn.Branch.TheVariants as branch
use Rattle.a64_encode.specs.Either.{instruction_of, MeansEither}
use Rattle.a64_encode.proofs.Either.{either}
use Rattle.sve_table.specs.declared.rows.TheConstants.{VECTOR_LINES}
use Rattle.sve_table.specs.Table.{vector}
use Rattle.insn_text.specs.declared.item.Item.{Item}
use Rattle.insn_text.specs.declared.item.Kind.{Kind}
use Rattle.insn_text.specs.declared.item.Kind.TheVariants as kind
use Rattle.insn_text.specs.declared.item.Shape.{Shape}
use Rattle.insn_text.specs.declared.shapes.TheConstants.{SHAPES, STARTS}
use Rattle.insn_text.specs.Texts.{items_in, items_of}
use Rattle.insn_text.specs.Texts as texts
use Rattle.asm_tokens.specs.Tokens.{is_name}
use Rattle.asm_tokens.specs.declared.token.Token.{Token}
use Rattle.asm_tokens.specs.declared.token.Token.TheVariants.{Keyword, Distance}
use Rattle.asm_operands.specs.declared.operands.Target.{Target}
use Rattle.asm_operands.specs.Fields.{on_target, signed_field, field_said}
use Rattle.asm_operands.specs.Operands.{PartialWord, with_field, agrees, partial_with, partial_after, taken_on, taken, fixed, word_in}
use Rattle.asm_operands.specs.Operands.{shapes_of}
use Rattle.asm_operands.specs.Operands.{first_of_words, first_word, is_distance, is_name_token, names, target_in, target_of, operands_said}
use Rattle.asm_operands.specs.Operands.{Says}
use Rattle.asm_operands.specs.Operands as operands
use Rattle.asm_operands.specs.Distances.{unit_of, with_distance}
use Rattle.asm_operands.specs.Sound.{has_factor, is_sound}
use Rattle.asm_operands.proofs.Tables.{items_of-sound}
use Rattle.asm_operands.proofs.AnyDistance.{is_said, word_kept, or_clear, is_no_vector, never_vector}
use Rattle.asm_operands.proofs.WordBits.{and_swap}
use Rattle.asm_core.specs.Resolved.{with_immediate, unit_in, base_in, IsResolved, MeansResolved}
use Rattle.asm_core.specs.Targets.{counted_from, word_to}
use Rattle.asm_core.proofs.ImmediateRanges.{Holds, branch_range, in_range, ranges, word_range}

-- ---- the immediate of each operation that has a distance

-- its field
unfoldable immediate_of : Operation → Field
immediate_of (G9 op) = IMM21
immediate_of (G10 B) = IMM26
immediate_of (G10 Bl) = IMM26
immediate_of (G10 Tbz) = IMM14
immediate_of (G10 Tbnz) = IMM14
immediate_of (G10 op) = IMM19
immediate_of (G19 op) = IMM19
immediate_of operation = NONE

-- how many bytes it counts
unfoldable unit_by : Operation → ℕ
unit_by (G9 Adr) = 1
unit_by (G9 Adrp) = 4096
unit_by operation = 4

unfoldable has_distance : Operation → Bool
has_distance (G9 op) = true
has_distance (G10 op) = true
has_distance (G19 op) = true
has_distance operation = false

-- the operand's field stands where the field does
unfoldable stands_at : Item → Field → Bool
stands_at i f =
    (i.field.low == f.low)
    && ((i.field.width == f.width) && ((i.field.upper_low == f.upper_low) && (i.field.upper_width == f.upper_width)))

unfoldable is_immediate : Item → Operation → Bool
is_immediate i operation = has_distance operation && (stands_at i (immediate_of operation) && (unit_of i.kind == unit_by operation))

-- no word of the row is one of the shape, or the operand is the row's immediate, of which it fixes no bit
unfoldable fits_row : Item → Shape → Line Operation → Bool
fits_row i s row =
    not (bit_and row.value s.mask == bit_and (bit_and s.value s.mask) row.mask)
    || (is_immediate i row.operation && (bit_and row.mask (mask_of (immediate_of row.operation)) == 0))

unfoldable fits_rows : Shape → Item → Bool
fits_rows s i =
    not (is_distance i.kind) || (list_all (fits_row i s) SCALAR_LINES && list_all (is_no_vector s) VECTOR_LINES)

unfoldable fit_rows : Shape → Bool
fit_rows s = nat_lt s.value (2 ^ 32) && list_all (fits_rows s) (items_of s)

shapes_fit : list_all fit_rows SHAPES ≡ true
unfolding items_in items_of is_distance mask_of unit_of immediate_of unit_by has_distance stands_at is_immediate fits_row is_no_vector
    fits_rows fit_rows
shapes_fit = refl

-- ---- the shape of a word whose target is named

record IsFound (ts : List Token) (w : ℕ) (target : Target) : Type 0 where
  shape : Shape
  said : word_in shape ts ≡ Some w
  named : target_in (items_of shape) ts ≡ Some target
  fit : fit_rows shape ≡ true

found_in : (ss : List Shape) (ts : List Token) (w : ℕ) (target : Target) → list_all fit_rows ss ≡ true → first_word ss ts ≡ Some w
    → target_of ss ts ≡ Some target → IsFound ts w target
unfolding first_word target_of
found_in [] ts w target fit e f = cc
found_in (s ∷ ss) ts w target fit e f =
    let parts = and_parts (fit_rows s) (list_all fit_rows ss) fit in
    elim (word_in s ts) as (λ o. word_in s ts ≡ o → first_of_words o (first_word ss ts) ≡ Some w
    → cond (is_some o) (target_in (items_of s) ts) (target_of ss ts) ≡ Some target → IsFound ts w target) [
      | None ↦ λ is g h. found_in ss ts w target parts.1 g h
      | Some v ↦ λ is g h. record { shape = s; said = is ∙ g; named = h; fit = parts.0 }
    ] refl e f

found : (name : ℕ) (ts : List Token) (w : ℕ) (target : Target) → operands_said name ts ≡ Says w (Some target) → IsFound ts w target
unfolding shapes_of
found name ts w target e =
    let s = is_said name ts w (Some target) e in
    let first = slice_index STARTS name in
    let count = slice_index STARTS (name + 1) - first in
    found_in (take count (drop first SHAPES)) ts w target
    (list_all-take fit_rows count (drop first SHAPES) (list_all-drop fit_rows first SHAPES shapes_fit)) s.word s.named

-- ---- the target is the last operand, and its token a name

record IsLast (is : List Item) (ts : List Token) (i : Item) : Type 0 where
  index : ℕ
  listed : slice_get is index ≡ Some i
  token : Token
  read : slice_get ts index ≡ Some token
  name : is_name token ≡ true
  distance : is_distance i.kind ≡ true
  last : length is ≤ index + 1

last_if : (d n : Bool) (j : Item) (index : ℕ) (target : Target)
    → option_map (λ (i : Item). record { index = index; operand = i }) (cond (d && n) (Some j) None) ≡ Some target → (j ≡ target.operand)
    × (d ≡ true) × (n ≡ true)
last_if true true j index target e =
    let same : record { index = index; operand = j } ≡ target = same_Some _ target e in (ap (λ (x : Target). x.operand) same, refl, refl)
last_if true false j index target e = cc
last_if false n j index target e = cc

last_by : (is : List Item) (ts : List Token) (index : ℕ) (o : Option Item) (t : Option Token) (target : Target) → length is ≤ index + 1
    → slice_get is index ≡ o → slice_get ts index ≡ t
    → option_map (λ (i : Item). record { index = index; operand = i }) (option_and_then (names t) o) ≡ Some target
    → IsLast is ts target.operand
last_by is ts index None t target le g h e = cc
last_by is ts index (Some j) None target le g h e = let n = last_if (is_distance j.kind) false j index target e in let f = n.2 in cc
last_by is ts index (Some j) (Some k) target le g h e =
    let n = last_if (is_distance j.kind) (is_name k) j index target e in
    record {
      index = index;
      listed = g ∙ ap Some n.0;
      token = k;
      read = h;
      name = n.2;
      distance = subst (λ (x : Item). is_distance x.kind ≡ true) n.0 n.1;
      last = le;
    }

last_in : (is : List Item) (ts : List Token) (target : Target) → target_in is ts ≡ Some target → IsLast is ts target.operand
unfolding target_in
last_in is ts target e =
    last_by is ts (length is - 1) (slice_get is (length is - 1)) (slice_get ts (length is - 1)) target (omega arith) refl refl e

-- ---- a name leaves the field zero

name_zero : (says : Bool → ℕ → Option ℕ) (t : Token) → is_name t ≡ true → on_target says t ≡ Some 0
unfolding on_target is_name
name_zero says (Keyword index) e = refl
name_zero says t e = cc

kind_zero : (k : Kind) (bits : ℕ) (t : Token) → is_distance k ≡ true → is_name t ≡ true → field_said k bits t ≡ Some 0
unfolding is_distance field_said
kind_zero (kind.Distance scale) bits t d n = name_zero (signed_field bits scale) t n
kind_zero k bits t d n = cc

placed_zero : (i : Item) → operands.placed i 0 ≡ 0
unfolding placed
placed_zero i =
    ap₂ (λ a b. a % 2 ^ i.field.upper_width * 2 ^ i.field.upper_low + b * 2 ^ i.field.low) (zero-div (2 ^ i.field.width))
    (zero-mod (2 ^ i.field.width))
    ∙ ap (λ a. a * 2 ^ i.field.upper_low + 0 * 2 ^ i.field.low) (zero-mod (2 ^ i.field.upper_width)) ∙ omega arith

none_and : (v : ℕ) → bit_and 0 v ≡ 0
none_and v = refl

or_none : (v : ℕ) → bit_or v 0 ≡ v
or_none v = or_comm v 0

zero_by : (i : Item) (partial next : PartialWord) (b : Bool) (w : ℕ) → agrees i partial 0 ≡ b
    → ◌≡◌ {A = Option PartialWord} (cond b (Some (with_field i partial 0)) None) (Some next) → Some next.value ≡ Some w
    → bit_and w (operands.mask_of i) ≡ 0
unfolding agrees with_field
zero_by i partial next false w a e h = cc
zero_by i partial next true w a e h =
    let same = same_Some (with_field i partial 0) next e in
    let parts = and_parts (bit_and partial.value (operands.mask_of i) == bit_and (operands.placed i 0) partial.mask) _ a in
    let value : partial.value ≡ w =
    sym (or_none partial.value) ∙ ap (bit_or partial.value) (sym (placed_zero i)) ∙ ap (λ (k : PartialWord). k.value) same
    ∙ same_Some next.value w h in
    ap (λ v. bit_and v (operands.mask_of i)) (sym value) ∙ eqb-true _ _ parts.0 ∙ ap (λ p. bit_and p partial.mask) (placed_zero i)
    ∙ none_and partial.mask

zero_end : (i : Item) (is : List Item) (partial next : PartialWord) (t : Token) (ts : List Token) (w : ℕ) → length is ≡ 0
    → partial_after i partial t ≡ Some next → taken is next ts ≡ Some w → is_distance i.kind ≡ true → is_name t ≡ true
    → bit_and w (operands.mask_of i) ≡ 0
unfolding partial_after partial_with taken
zero_end i [] partial next t [] w z k e d n =
    let f = kind_zero i.kind (texts.bits_of i) t d n in
    zero_by i partial next (agrees i partial 0) w refl (sym (ap (partial_with i partial) f) ∙ k) e
zero_end i [] partial next t (u ∷ ts) w z k e d n = cc
zero_end i (j ∷ is) partial next t ts w z k e d n = absurd (omega arith)

zero_last : (is : List Item) (partial : PartialWord) (ts : List Token) (w index : ℕ) (i : Item) (t : Token) → taken is partial ts ≡ Some w
    → slice_get is index ≡ Some i → slice_get ts index ≡ Some t → length is ≤ index + 1 → is_distance i.kind ≡ true → is_name t ≡ true
    → bit_and w (operands.mask_of i) ≡ 0
unfolding taken
zero_last [] partial ts w index i t e g h le d n = cc
zero_last (j ∷ is) partial [] w index i t e g h le d n = cc
zero_last (j ∷ is) partial (u ∷ ts) w zero i t e g h le d n =
    let item : j ≡ i = same_Some j i g in
    let token : u ≡ t = same_Some u t h in
    elim (partial_after j partial u) as (λ o. partial_after j partial u ≡ o → taken_on (λ next. taken is next ts) o ≡ Some w
    → bit_and w (operands.mask_of i) ≡ 0) [
      | None ↦ λ is_none f. cc
      | Some next ↦ λ is_next f. zero_end i is partial next t ts w (omega arith)
          (sym (ap₂ (λ x y. partial_after x partial y) item token) ∙ is_next) f d n
    ] refl e
zero_last (j ∷ is) partial (u ∷ ts) w (suc index) i t e g h le d n =
    elim (partial_after j partial u) as (λ o. partial_after j partial u ≡ o → taken_on (λ next. taken is next ts) o ≡ Some w
    → bit_and w (operands.mask_of i) ≡ 0) [
      | None ↦ λ is_none f. cc
      | Some next ↦ λ is_next f. zero_last is next ts w index i t f g h (omega arith) d n
    ] refl e

zero_said : (s : Shape) (ts : List Token) (w : ℕ) (i : Item) → word_in s ts ≡ Some w → IsLast (items_of s) ts i
    → bit_and w (operands.mask_of i) ≡ 0
unfolding word_in
zero_said s ts w i e l = zero_last (items_of s) (fixed s) ts w l.index i l.token e l.listed l.read l.last l.distance l.name

-- ---- the row of the word

record IsRowOf (i : Item) (w : ℕ) (it : Insn) : Type 0 where
  index : ℕ
  row : Line Operation
  listed : slice_get SCALAR_LINES index ≡ Some row
  matches : bit_and w row.mask ≡ row.value
  gives : it ≡ named row.operation (numbers_in w) (signed_numbers_in w)
  immediate : is_immediate i row.operation ≡ true
  clear : bit_and row.mask (mask_of (immediate_of row.operation)) ≡ 0
  is_word : w < 2 ^ 32

row_of : (s : Shape) (i : Item) (ts : List Token) (w : ℕ) (it : Insn) → word_in s ts ≡ Some w → list_all (fits_row i s) SCALAR_LINES ≡ true
    → Means scalar w it → IsRowOf i w it
unfolding fits_row scalar
row_of s i ts w it said all m =
    let fit = list_all-get (fits_row i s) SCALAR_LINES m.place m.line all m.listed in
    let common : bit_and m.line.value s.mask ≡ bit_and (bit_and s.value s.mask) m.line.mask =
    ap (λ v. bit_and v s.mask) (sym m.matches) ∙ and_swap w m.line.mask s.mask ∙ ap (λ v. bit_and v m.line.mask) (word_kept s ts w said) in
    let parts =
    and_parts (is_immediate i m.line.operation) (bit_and m.line.mask (mask_of (immediate_of m.line.operation)) == 0)
    (implied _ _ fit (eq-eqb _ _ common)) in
    record {
      index = m.place;
      row = m.line;
      listed = m.listed;
      matches = m.matches;
      gives = m.gives;
      immediate = parts.0;
      clear = eqb-true _ 0 parts.1;
      is_word = m.is_word;
    }

-- ---- the fields of a word whose immediate was zero, with another number there

module _ (f : Field) (w number : ℕ) (sound : is_field f ≡ true) (zero_there : bit_and w (mask_of f) ≡ 0) where
  apart : bit_and (upper_mask f) (lower_mask f) ≡ 0
  apart = (a_field f sound).apart

  abbrev resolved : ℕ
  resolved = bit_or w (placed f number)

  -- another field is as it was
  kept : (g : Field) → bit_and (upper_mask g) (lower_mask g) ≡ 0 → bit_and (mask_of f) (mask_of g) ≡ 0 → field_in g resolved ≡ field_in g w
  kept g own other =
      let clear : bit_and (placed f number) (mask_of g) ≡ 0 =
      ap (λ p. bit_and p (mask_of g)) (sym (placed-within f number apart)) ∙ and_assoc (mask_of g) (placed f number) (mask_of f)
      ∙ ap (bit_and (placed f number)) other ∙ and_comm (placed f number) 0 in
      placed-one g (field_in g resolved) (field_in g w) own (field_in-lt g resolved) (field_in-lt g w)
      (placed-field g resolved own ∙ or_clear w (placed f number) (mask_of g) clear ∙ sym (placed-field g w own))

  -- the field is the number
  there : number < 2 ^ bits_of f → field_in f resolved ≡ number
  there lt =
      placed-one f (field_in f resolved) number apart (field_in-lt f resolved) lt
      (placed-field f resolved apart ∙ ap (λ n. bit_and n (mask_of f)) (or_comm w (placed f number))
      ∙ or_clear (placed f number) w (mask_of f) zero_there ∙ placed-within f number apart)

  -- the fixed bits are as they were
  fixed_kept : (mask : ℕ) → bit_and mask (mask_of f) ≡ 0 → bit_and resolved mask ≡ bit_and w mask
  fixed_kept mask other =
      or_clear w (placed f number) mask
      (ap (λ p. bit_and p mask) (sym (placed-within f number apart)) ∙ and_assoc mask (placed f number) (mask_of f)
      ∙ ap (bit_and (placed f number)) (and_comm (mask_of f) mask ∙ other) ∙ and_comm (placed f number) 0)

  small : w < 2 ^ 32 → resolved < 2 ^ 32
  small lt = or_lt 32 w (placed f number) lt (placed-lt f number sound)

-- ---- the number of a distance

record IsHeld (bits scale size number : ℕ) (back : Bool) : Type 0 where
  lt : number < 2 ^ bits
  count : ℕ
  size_is : size ≡ count * scale
  value : signed_value bits number ≡ cond back (pos 0 -ℤ pos count) (pos count)

held_ahead : (bits count : ℕ) → nat_lt count (2 ^ (bits - 1)) ≡ true → signed_value bits count ≡ pos count
unfolding signed_value
held_ahead bits count e = cond-true _ _ _ e

held_back : (bits count : ℕ) → 0 < bits → count ≤ 2 ^ (bits - 1) → signed_value bits ((2 ^ bits - count) % 2 ^ bits) ≡ pos 0 -ℤ pos count
unfolding signed_value
held_back bits zero some le =
    let p = pow_pos (bits - 1) in
    let all : 2 ^ bits - 0 ≡ 2 ^ bits = omega arith in
    let z : (2 ^ bits - 0) % 2 ^ bits ≡ 0 = ap (λ n. n % 2 ^ bits) all ∙ mod_self (2 ^ bits) in
    ap (λ n. cond (nat_lt n (2 ^ (bits - 1))) (pos n) (pos n -ℤ pos (2 ^ bits))) z ∙ cond-true _ _ _ (lt-ltb 0 (2 ^ (bits - 1)) p)
held_back bits (suc count) some le =
    let d = two_pow-halves bits some in
    let same : (2 ^ bits - suc count) % 2 ^ bits ≡ 2 ^ bits - suc count =
    mod-eq_of_lt (let l : 2 ^ bits - suc count < 2 ^ bits = omega (arith, pow_pos (bits - 1)) in l) in
    let high : 2 ^ (bits - 1) ≤ 2 ^ bits - suc count = omega arith in
    ap (λ n. cond (nat_lt n (2 ^ (bits - 1))) (pos n) (pos n -ℤ pos (2 ^ bits))) same ∙ cond-false _ _ _ (le-ltb _ _ high)
    ∙ omega (arith, ints)

counted : (size scale : ℕ) → (size % scale == 0) ≡ true → size ≡ size / scale * scale
counted size scale e =
    let d = mod-add-div size scale in
    let z : size % scale ≡ 0 = eqb-true _ 0 e in
    let turn : scale * (size / scale) ≡ size / scale * scale = omega arith in
    omega (arith, d, z, turn)

held_if : (bits scale size number : ℕ) (exact low_back low_ahead back : Bool) → 0 < bits → (size % scale == 0) ≡ exact
    → nat_le (size / scale) (2 ^ (bits - 1)) ≡ low_back → nat_lt (size / scale) (2 ^ (bits - 1)) ≡ low_ahead
    → cond (not exact) None (cond back (cond low_back (Some ((2 ^ bits - size / scale) % 2 ^ bits)) None)
    (cond low_ahead (Some (size / scale)) None)) ≡ Some number → IsHeld bits scale size number back
held_if bits scale size number false low_back low_ahead back some e f g h = cc
held_if bits scale size number true true low_ahead true some e f g h =
    let same = same_Some ((2 ^ bits - size / scale) % 2 ^ bits) number h in
    record {
      lt = subst (λ n. n < 2 ^ bits) same (mod_below (2 ^ bits - size / scale) (2 ^ bits) (pow_pos bits));
      count = size / scale;
      size_is = counted size scale e;
      value = ap (signed_value bits) (sym same) ∙ held_back bits (size / scale) some (leb-true _ _ f);
    }
held_if bits scale size number true false low_ahead true some e f g h = cc
held_if bits scale size number true low_back true false some e f g h =
    let same = same_Some (size / scale) number h in
    let small = ltb-true _ _ g in
    record {
      lt = subst (λ n. n < 2 ^ bits) same (omega (arith, small, two_pow-halves bits some));
      count = size / scale;
      size_is = counted size scale e;
      value = ap (signed_value bits) (sym same) ∙ held_ahead bits (size / scale) g;
    }
held_if bits scale size number true low_back false false some e f g h = cc

held : (bits scale size number : ℕ) (back : Bool) → 0 < bits → signed_field bits scale back size ≡ Some number
    → IsHeld bits scale size number back
unfolding signed_field
held bits scale size number back some e =
    held_if bits scale size number (size % scale == 0) (nat_le (size / scale) (2 ^ (bits - 1))) (nat_lt (size / scale) (2 ^ (bits - 1)))
    back some refl refl refl e

-- ---- the instructions

-- a field's own bits are apart
abbrev IsOwn : Field → Type 0
IsOwn g = bit_and (upper_mask g) (lower_mask g) ≡ 0

moves : (op : Operation) → has_distance op ≡ true → (n m : Field → ℕ) (s r : Field → ℤ)
    → ((g : Field) → IsOwn g → bit_and (mask_of (immediate_of op)) (mask_of g) ≡ 0 → m g ≡ n g)
    → named op m r ≡ with_immediate (named op n s) (r (immediate_of op))
unfolding has_distance immediate_of mask_of named named_branch
moves (G9 op) e n m s r k = ap (λ x. insn.PcRelative (record { op = op; imm = r IMM21; rd = byte x })) (k RD refl refl)
moves (G10 B) e n m s r k = refl
moves (G10 Bl) e n m s r k = refl
moves (G10 BCond) e n m s r k = ap (λ x. insn.Branch (branch.Conditional (condition_of x) (r IMM19))) (k BRANCH_COND refl refl)
moves (G10 Cbz) e n m s r k =
    ap₂ (λ x y. insn.Branch (branch.Compare false (is_one x) (r IMM19) (byte y))) (k SF refl refl) (k RT refl refl)
moves (G10 Cbnz) e n m s r k =
    ap₂ (λ x y. insn.Branch (branch.Compare true (is_one x) (r IMM19) (byte y))) (k SF refl refl) (k RT refl refl)
moves (G10 Tbz) e n m s r k = ap₂ (λ x y. insn.Branch (branch.TestBit false (byte x) (r IMM14) (byte y))) (k BIT refl refl) (k RT refl refl)
moves (G10 Tbnz) e n m s r k = ap₂ (λ x y. insn.Branch (branch.TestBit true (byte x) (r IMM14) (byte y))) (k BIT refl refl) (k RT refl refl)
moves (G19 op) e n m s r k = ap (λ x. insn.LoadLiteral (record { op = op; words = r IMM19; rt = byte x })) (k RT refl refl)
moves op e n m s r k = cc

units : (op : Operation) → has_distance op ≡ true → (n : Field → ℕ) (s : Field → ℤ) → unit_in (named op n s) ≡ unit_by op
unfolding has_distance unit_by named
units (G9 Adr) e n s = refl
units (G9 Adrp) e n s = refl
units (G10 op) e n s = refl
units (G19 op) e n s = refl
units op e n s = cc

bases : (op : Operation) (u : ℕ) → has_distance op ≡ true → u ≡ unit_by op → (n : Field → ℕ) (s : Field → ℤ) (a : ℕ)
    → cond (u == 4096) (a / 4096 * 4096) a ≡ base_in (named op n s) a
unfolding has_distance unit_by named
bases (G9 Adr) u e h n s a = ap (λ v. cond (v == 4096) (a / 4096 * 4096) a) h
bases (G9 Adrp) u e h n s a = ap (λ v. cond (v == 4096) (a / 4096 * 4096) a) h
bases (G10 op) u e h n s a = ap (λ v. cond (v == 4096) (a / 4096 * 4096) a) h
bases (G19 op) u e h n s a = ap (λ v. cond (v == 4096) (a / 4096 * 4096) a) h
bases op u e h n s a = cc

back_by : (op : Operation) (count : ℕ) → (pos 0 -ℤ pos count) *ℤ pos (unit_by op) ≡ pos 0 -ℤ pos (count * unit_by op)
unfolding unit_by
back_by (G9 Adr) count = omega (arith, ints)
back_by (G9 Adrp) count = omega (arith, ints)
back_by op count = omega (arith, ints)

ahead_by : (op : Operation) (count : ℕ) → pos count *ℤ pos (unit_by op) ≡ pos (count * unit_by op)
unfolding unit_by
ahead_by (G9 Adr) count = omega (arith, ints)
ahead_by (G9 Adrp) count = omega (arith, ints)
ahead_by op count = omega (arith, ints)

no_condition : (op : Operation) → has_distance op ≡ true → (n : Field → ℕ) → fits_of op n ≡ true
unfolding has_distance fits_of
no_condition (G9 op) e n = refl
no_condition (G10 op) e n = refl
no_condition (G19 op) e n = refl
no_condition op e n = cc

sound_field : (op : Operation) → has_distance op ≡ true → (is_field (immediate_of op) ≡ true) × (0 < bits_of (immediate_of op))
unfolding has_distance immediate_of is_field mask_of
sound_field (G9 op) e = (refl, lit< tt)
sound_field (G10 B) e = (refl, lit< tt)
sound_field (G10 Bl) e = (refl, lit< tt)
sound_field (G10 BCond) e = (refl, lit< tt)
sound_field (G10 Cbz) e = (refl, lit< tt)
sound_field (G10 Cbnz) e = (refl, lit< tt)
sound_field (G10 Tbz) e = (refl, lit< tt)
sound_field (G10 Tbnz) e = (refl, lit< tt)
sound_field (G19 op) e = (refl, lit< tt)
sound_field op e = cc

-- an instruction with that immediate is one that a word means, so the immediate is one of its field
holds_by : (op : Operation) → has_distance op ≡ true → (n : Field → ℕ) (s : Field → ℤ) (z : ℤ)
    → in_range (with_immediate (named op n s) z) → Holds (bits_of (immediate_of op)) z
unfolding has_distance immediate_of named named_branch in_range branch_range
holds_by (G9 op) e n s z h = h
holds_by (G10 B) e n s z h = h
holds_by (G10 Bl) e n s z h = h
holds_by (G10 BCond) e n s z h = h
holds_by (G10 Cbz) e n s z h = h
holds_by (G10 Cbnz) e n s z h = h
holds_by (G10 Tbz) e n s z h = h
holds_by (G10 Tbnz) e n s z h = h
holds_by (G19 op) e n s z h = h
holds_by op e n s z h = cc

some_unit : (op : Operation) → 0 < unit_by op
unfolding unit_by
some_unit (G9 Adr) = lit< tt
some_unit (G9 Adrp) = lit< tt
some_unit op = lit< tt

-- ---- the operand's field is the row's

record IsAt (i : Item) (f : Field) : Type 0 where
  low : i.field.low ≡ f.low
  width : i.field.width ≡ f.width
  upper_low : i.field.upper_low ≡ f.upper_low
  upper_width : i.field.upper_width ≡ f.upper_width

stand : (i : Item) (f : Field) → stands_at i f ≡ true → IsAt i f
unfolding stands_at
stand i f e =
    let p = and_parts (i.field.low == f.low) _ e in
    let q = and_parts (i.field.width == f.width) _ p.1 in
    let r = and_parts (i.field.upper_low == f.upper_low) (i.field.upper_width == f.upper_width) q.1 in
    record { low = eqb-true _ _ p.0; width = eqb-true _ _ q.0; upper_low = eqb-true _ _ r.0; upper_width = eqb-true _ _ r.1 }

same_placed : (i : Item) (f : Field) (n : ℕ) → IsAt i f → operands.placed i n ≡ placed f n
unfolding placed
same_placed i f n a = λ k. n / 2 ^ a.width k % 2 ^ a.upper_width k * 2 ^ a.upper_low k + n % 2 ^ a.width k * 2 ^ a.low k

same_mask : (i : Item) (f : Field) → IsAt i f → operands.mask_of i ≡ mask_of f
unfolding mask_of
same_mask i f a = λ k. (2 ^ a.upper_width k - 1) * 2 ^ a.upper_low k + (2 ^ a.width k - 1) * 2 ^ a.low k

same_bits : (i : Item) (f : Field) → IsAt i f → texts.bits_of i ≡ bits_of f
same_bits i f a = λ k. a.width k + a.upper_width k

distance_said : (k : Kind) (bits size : ℕ) (back : Bool) → is_distance k ≡ true
    → field_said k bits (Distance back size) ≡ signed_field bits (unit_of k) back size
unfolding is_distance field_said on_target unit_of
distance_said (kind.Distance scale) bits size back e = refl
distance_said k bits size back e = cc

-- ---- the word is one of 32 bits

placed_small : (i : Item) (n : ℕ) → is_sound i ≡ true → operands.placed i n < 2 ^ 32
unfolding is_sound is_field
placed_small i n e =
    let p = and_parts (has_factor i.kind (texts.bits_of i)) (is_field i.field) e in
    let q = and_parts _ (bit_and (upper_mask i.field) (lower_mask i.field) == 0) p.1 in
    let r = and_parts _ (nat_lt (mask_of i.field) (2 ^ 32)) q.0 in
    let lt : mask_of i.field < 2 ^ 32 = ltb-true _ _ r.1 in
    let le : placed i.field n ≤ mask_of i.field = placed-le i.field n in
    omega (arith, lt, le)

small_by : (i : Item) (partial next : PartialWord) (field : ℕ) (b : Bool) → is_sound i ≡ true → partial.value < 2 ^ 32
    → ◌≡◌ {A = Option PartialWord} (cond b (Some (with_field i partial field)) None) (Some next) → next.value < 2 ^ 32
unfolding with_field
small_by i partial next field true s lt e =
    subst (λ (k : PartialWord). k.value < 2 ^ 32) (same_Some (with_field i partial field) next e)
    (or_lt 32 partial.value (operands.placed i field) lt (placed_small i field s))
small_by i partial next field false s lt e = cc

small_with : (i : Item) (partial next : PartialWord) (o : Option ℕ) → is_sound i ≡ true → partial.value < 2 ^ 32
    → partial_with i partial o ≡ Some next
    → next.value < 2 ^ 32
unfolding partial_with
small_with i partial next None s lt e = cc
small_with i partial next (Some field) s lt e = small_by i partial next field (agrees i partial field) s lt e

taken_small : (is : List Item) (partial : PartialWord) (ts : List Token) (w : ℕ) → list_all is_sound is ≡ true → partial.value < 2 ^ 32
    → taken is partial ts ≡ Some w → w < 2 ^ 32
unfolding taken partial_after
taken_small [] partial [] w s lt e = subst (λ v. v < 2 ^ 32) (same_Some partial.value w e) lt
taken_small [] partial (t ∷ ts) w s lt e = cc
taken_small (i ∷ is) partial [] w s lt e = cc
taken_small (i ∷ is) partial (t ∷ ts) w s lt e =
    let p = and_parts (is_sound i) (list_all is_sound is) s in
    elim (partial_after i partial t) as (λ o. partial_after i partial t ≡ o → taken_on (λ next. taken is next ts) o ≡ Some w → w < 2 ^ 32) [
      | None ↦ λ is_none h. cc
      | Some next ↦ λ is_next h. taken_small is next ts w p.1
          (small_with i partial next (field_said i.kind (texts.bits_of i) t) p.0 lt is_next) h
    ] refl e

-- ---- the word with a distance

record IsMoved (it : Insn) (size : ℕ) (back : Bool) (w : ℕ) : Type 0 where
  immediate : ℤ
  counts : immediate *ℤ pos (unit_in it) ≡ cond back (pos 0 -ℤ pos size) (pos size)
  means : instruction_of w ≡ Some (with_immediate it immediate)

counts_by : (op : Operation) (bits number size : ℕ) (back : Bool) → IsHeld bits (unit_by op) size number back
    → signed_value bits number *ℤ pos (unit_by op) ≡ cond back (pos 0 -ℤ pos size) (pos size)
counts_by op bits number size true h =
    ap (λ z. z *ℤ pos (unit_by op)) h.value ∙ back_by op h.count ∙ ap (λ n. pos 0 -ℤ pos n) (sym h.size_is)
counts_by op bits number size false h = ap (λ z. z *ℤ pos (unit_by op)) h.value ∙ ahead_by op h.count ∙ ap pos (sym h.size_is)

module _ (i : Item) (w : ℕ) (it : Insn) (r : IsRowOf i w it) (zero_there : bit_and w (operands.mask_of i) ≡ 0)
    (is_far : is_distance i.kind ≡ true) where
  abbrev op : Operation
  op = r.row.operation

  abbrev f : Field
  f = immediate_of op

  has : has_distance op ≡ true
  unfolding is_immediate
  has = (and_parts (has_distance op) _ r.immediate).0

  at : IsAt i f
  unfolding is_immediate
  at = stand i f (and_parts (stands_at i f) (unit_of i.kind == unit_by op) (and_parts (has_distance op) _ r.immediate).1).0

  unit : unit_of i.kind ≡ unit_by op
  unfolding is_immediate
  unit = eqb-true _ _ (and_parts (stands_at i f) (unit_of i.kind == unit_by op) (and_parts (has_distance op) _ r.immediate).1).1

  sound : is_field f ≡ true
  sound = (sound_field op has).0

  none : bit_and w (mask_of f) ≡ 0
  none = ap (bit_and w) (sym (same_mask i f at)) ∙ zero_there

  unit_here : unit_in it ≡ unit_by op
  unit_here = ap unit_in r.gives ∙ units op has (numbers_in w) (signed_numbers_in w)

  base_here : (a : ℕ) → counted_from i a ≡ base_in it a
  unfolding counted_from
  base_here a = bases op (unit_of i.kind) has unit (numbers_in w) (signed_numbers_in w) a ∙ ap (λ x. base_in x a) (sym r.gives)

  moved_word : (number size : ℕ) (back : Bool) → IsHeld (bits_of f) (unit_by op) size number back
      → IsMoved it size back (bit_or w (placed f number))
  unfolding scalar
  moved_word number size back h =
      let v = bit_or w (placed f number) in
      let n = numbers_in v in
      let s = signed_numbers_in v in
      let same : named op n s ≡ with_immediate it (s f) =
      moves op has (numbers_in w) n (signed_numbers_in w) s (λ g own other. kept f w number sound none g own other)
      ∙ ap (λ x. with_immediate x (s f)) (sym r.gives) in
      let value : s f ≡ signed_value (bits_of f) number = ap (signed_value (bits_of f)) (there f w number sound none h.lt) in
      let means : Means scalar v (named op n s) = record {
        is_word = small f w number sound none r.is_word;
        place = r.index;
        line = r.row;
        listed = r.listed;
        matches = fixed_kept f w number sound none r.row.mask r.clear ∙ r.matches;
        fits = no_condition op has n;
        gives = refl;
      } in
      record {
        immediate = s f;
        counts = ap₂ (λ z u. z *ℤ pos u) value unit_here ∙ counts_by op (bits_of f) number size back h;
        means = (either v (named op n s) means.is_word).1 (inl means) ∙ ap Some same;
      }

  moved_by : (size : ℕ) (back : Bool) (v : ℕ) (o : Option ℕ) → signed_field (bits_of f) (unit_by op) back size ≡ o
      → option_map (λ field. bit_or w (operands.placed i field)) o ≡ Some v → IsMoved it size back v
  moved_by size back v None e g = cc
  moved_by size back v (Some number) e g =
      let h = held (bits_of f) (unit_by op) size number back (sound_field op has).1 e in
      subst (IsMoved it size back) (ap (bit_or w) (sym (same_placed i f number at)) ∙ same_Some (bit_or w (operands.placed i number)) v g)
      (moved_word number size back h)

  moved : (size : ℕ) (back : Bool) (v : ℕ) → with_distance i w back size ≡ Some v → IsMoved it size back v
  unfolding with_distance
  moved size back v e =
      let said : field_said i.kind (texts.bits_of i) (Distance back size) ≡ signed_field (bits_of f) (unit_by op) back size =
      distance_said i.kind (texts.bits_of i) size back is_far ∙ ap₂ (λ b u. signed_field b u back size) (same_bits i f at) unit in
      moved_by size back v (field_said i.kind (texts.bits_of i) (Distance back size)) (sym said) e

  none_by : (size : ℕ) (back : Bool) (o : Option ℕ) → signed_field (bits_of f) (unit_by op) back size ≡ o
      → option_map (λ field. bit_or w (operands.placed i field)) o ≡ None → signed_field (bits_of f) (unit_by op) back size ≡ None
  none_by size back None e g = e
  none_by size back (Some number) e g = cc

  unmoved : (size : ℕ) (back : Bool) → with_distance i w back size ≡ None → signed_field (bits_of f) (unit_by op) back size ≡ None
  unfolding with_distance
  unmoved size back e =
      let said : field_said i.kind (texts.bits_of i) (Distance back size) ≡ signed_field (bits_of f) (unit_by op) back size =
      distance_said i.kind (texts.bits_of i) size back is_far ∙ ap₂ (λ b u. signed_field b u back size) (same_bits i f at) unit in
      none_by size back (field_said i.kind (texts.bits_of i) (Distance back size)) (sym said) e

  -- where no word has the distance to a target, no immediate of the field is that distance
  beyond : (from target : ℕ) (b : Bool) → nat_le (counted_from i from) (counted_from i target) ≡ b
      → cond b (with_distance i w false (counted_from i target - counted_from i from))
      (with_distance i w true (counted_from i from - counted_from i target)) ≡ None
      → (z : ℤ) → z *ℤ pos (unit_in it) ≡ pos (base_in it target) -ℤ pos (base_in it from) → Holds (bits_of f) z → ⊥
  beyond from target true le e z is h =
      let l = leb-true (counted_from i from) (counted_from i target) le in
      let far : pos (counted_from i target) -ℤ pos (counted_from i from) ≡ pos (counted_from i target - counted_from i from) =
      omega (arith, ints, l) in
      ranges (unit_by op) (some_unit op) (ahead_by op) (back_by op) (bits_of f) (counted_from i target - counted_from i from) z false
      (sound_field op has).1 h
      (ap (λ u. z *ℤ pos u) (sym unit_here) ∙ is ∙ ap₂ (λ a b. pos a -ℤ pos b) (sym (base_here target)) (sym (base_here from)) ∙ far)
      (unmoved (counted_from i target - counted_from i from) false e)
  beyond from target false le e z is h =
      let l = leb-false (counted_from i from) (counted_from i target) le in
      let far : pos (counted_from i target) -ℤ pos (counted_from i from) ≡ pos 0 -ℤ pos (counted_from i from - counted_from i target) =
      omega (arith, ints, l) in
      ranges (unit_by op) (some_unit op) (ahead_by op) (back_by op) (bits_of f) (counted_from i from - counted_from i target) z true
      (sound_field op has).1 h
      (ap (λ u. z *ℤ pos u) (sym unit_here) ∙ is ∙ ap₂ (λ a b. pos a -ℤ pos b) (sym (base_here target)) (sym (base_here from)) ∙ far)
      (unmoved (counted_from i from - counted_from i target) true e)

  far_by : (from target v : ℕ) (other : Insn) → word_to i w from target ≡ None → instruction_of v ≡ Some other
      → IsResolved it from target other → ⊥
  unfolding word_to
  far_by from target v other none means resolves =
      let same : other ≡ with_immediate (named op (numbers_in w) (signed_numbers_in w)) resolves.immediate =
      resolves.only ∙ ap (λ x. with_immediate x resolves.immediate) r.gives in
      beyond from target (nat_le (counted_from i from) (counted_from i target)) refl none resolves.immediate resolves.is_distance
      (holds_by op has (numbers_in w) (signed_numbers_in w) resolves.immediate (subst in_range same (word_range v other means)))

  resolves_by : (from target v : ℕ) (b : Bool) → nat_le (counted_from i from) (counted_from i target) ≡ b
      → cond b (with_distance i w false (counted_from i target - counted_from i from))
      (with_distance i w true (counted_from i from - counted_from i target)) ≡ Some v
      → (m : instruction_of w ≡ Some it) → MeansResolved w from target v
  resolves_by from target v true le e m =
      let h = moved (counted_from i target - counted_from i from) false v e in
      let l = leb-true (counted_from i from) (counted_from i target) le in
      let far : pos (counted_from i target - counted_from i from) ≡ pos (counted_from i target) -ℤ pos (counted_from i from) =
      omega (arith, ints, l) in
      record {
        it = it;
        other = with_immediate it h.immediate;
        means = m;
        resolved_means = h.means;
        resolves =
            record {
              immediate = h.immediate;
              is_distance = h.counts ∙ far
                  ∙ ap₂ (λ a b. pos a -ℤ pos b) (base_here target) (base_here from);
              only = refl;
            };
      }
  resolves_by from target v false le e m =
      let h = moved (counted_from i from - counted_from i target) true v e in
      let l = leb-false (counted_from i from) (counted_from i target) le in
      let far : pos 0 -ℤ pos (counted_from i from - counted_from i target) ≡ pos (counted_from i target) -ℤ pos (counted_from i from) =
      omega (arith, ints, l) in
      record {
        it = it;
        other = with_immediate it h.immediate;
        means = m;
        resolved_means = h.means;
        resolves =
            record {
              immediate = h.immediate;
              is_distance = h.counts ∙ far
                  ∙ ap₂ (λ a b. pos a -ℤ pos b) (base_here target) (base_here from);
              only = refl;
            };
      }

-- ---- what operands say

some_insn : (o : Option Insn) → is_some o ≡ true → (it : Insn) × (o ≡ Some it)
some_insn None e = cc
some_insn (Some it) e = (it, refl)

by_scalar : (w : ℕ) (it : Insn) → (Means vector w it → ⊥) → MeansEither w it → Means scalar w it
by_scalar w it never m = elim m [ inl n ↦ n | inr n ↦ absurd (never n) ]

resolves_found : (ts : List Token) (w : ℕ) (target : Target) → IsFound ts w target → is_some (instruction_of w) ≡ true → (from to v : ℕ)
    → word_to target.operand w from to ≡ Some v → MeansResolved w from to v
unfolding word_to fit_rows fits_rows word_in fixed
resolves_found ts w target h meant from to v e =
    let i = target.operand in
    let m = some_insn (instruction_of w) meant in
    let fit = and_parts (nat_lt h.shape.value (2 ^ 32)) (list_all (fits_rows h.shape) (items_of h.shape)) h.fit in
    let l = last_in (items_of h.shape) ts target h.named in
    let lt = taken_small (items_of h.shape) (fixed h.shape) ts w (items_of-sound h.shape) (ltb-true _ _ fit.0) h.said in
    let rows =
    and_parts (list_all (fits_row i h.shape) SCALAR_LINES) (list_all (is_no_vector h.shape) VECTOR_LINES)
    (implied (is_distance i.kind) _ (list_all-get (fits_rows h.shape) (items_of h.shape) l.index i fit.1 l.listed) l.distance) in
    let never : Means vector w m.0 → ⊥ = never_vector h.shape ts w m.0 h.said rows.1 in
    let r = row_of h.shape i ts w m.0 h.said rows.0 (by_scalar w m.0 never ((either w m.0 lt).0 m.1)) in
    resolves_by i w m.0 r (zero_said h.shape ts w i h.said l) l.distance from to v (nat_le (counted_from i from) (counted_from i to)) refl e
    m.1

far_found : (ts : List Token) (w : ℕ) (target : Target) → IsFound ts w target → (from to : ℕ) → word_to target.operand w from to ≡ None
    → (v : ℕ) → MeansResolved w from to v → ⊥
unfolding fit_rows fits_rows word_in fixed
far_found ts w target h from to none v m =
    let i = target.operand in
    let fit = and_parts (nat_lt h.shape.value (2 ^ 32)) (list_all (fits_rows h.shape) (items_of h.shape)) h.fit in
    let l = last_in (items_of h.shape) ts target h.named in
    let lt = taken_small (items_of h.shape) (fixed h.shape) ts w (items_of-sound h.shape) (ltb-true _ _ fit.0) h.said in
    let rows =
    and_parts (list_all (fits_row i h.shape) SCALAR_LINES) (list_all (is_no_vector h.shape) VECTOR_LINES)
    (implied (is_distance i.kind) _ (list_all-get (fits_rows h.shape) (items_of h.shape) l.index i fit.1 l.listed) l.distance) in
    let never : Means vector w m.it → ⊥ = never_vector h.shape ts w m.it h.said rows.1 in
    let r = row_of h.shape i ts w m.it h.said rows.0 (by_scalar w m.it never ((either w m.it lt).0 m.means)) in
    far_by i w m.it r (zero_said h.shape ts w i h.said l) l.distance from to v m.other none m.resolved_means m.resolves

pub named-far : (name : ℕ) (ts : List Token) (w : ℕ) (target : Target) → operands_said name ts ≡ Says w (Some target) → (from to : ℕ)
    → word_to target.operand w from to ≡ None → (v : ℕ) → MeansResolved w from to v → ⊥
named-far name ts w target e = far_found ts w target (found name ts w target e)

pub named-resolves : (name : ℕ) (ts : List Token) (w : ℕ) (target : Target) → operands_said name ts ≡ Says w (Some target) → (from to v : ℕ)
    → word_to target.operand w from to ≡ Some v → MeansResolved w from to v
named-resolves name ts w target e = resolves_found ts w target (found name ts w target e) (is_said name ts w (Some target) e).means
