-- The mnemonic in which a word is printed is that of its operation.
use Rattle.std.proofs.Common.{◌≡◌, ℕ, ◌==◌, ◌&&◌, ◌||◌, not, Bool, true, false, cond, bit_and, List, [], ◌∷◌, slice_get}
use Rattle.std.proofs.Common.{Some, refl, sym, ap, ◌∙◌, eqb-true, eq-eqb}
use Rattle.std.specs.List.{list_all, find}
use Rattle.std.specs.Str.{bytes_eq}
use Rattle.std.proofs.lemmas.Bool.{and_parts}
use Rattle.std.proofs.lemmas.Slice.Eq.{bytes_eq-Decides}
use Rattle.std.proofs.lemmas.Nat.{and_assoc, and_comm}
use Rattle.std.proofs.lemmas.Option.{same_Some}
use Rattle.plain_lemmas.proofs.Lists.{list_all-get}
use Rattle.plain_lemmas.proofs.Tests.{implied}
use Rattle.insn_forms.specs.declared.field.Field.{Field}
use Rattle.insn_forms.specs.declared.line.Line.{Line}
use Rattle.insn_forms.specs.Fields.{field_of, field_in, upper_mask, lower_mask, mask_of}
use Rattle.insn_forms.specs.Tables.{numbers_in}
use Rattle.insn_forms.proofs.Bits.{field_in-lt, placed-field, placed-one}
use Rattle.a64_table.specs.declared.fields.TheConstants.{ACQUIRE, BRANCH_COND, CAS_ACQUIRE, CAS_RELEASE, OPC, RELEASE, SF, SIZE}
use Rattle.a64_table.specs.declared.operation.Operation.{Operation}
use Rattle.a64_table.specs.declared.operation.Operation.TheVariants.{G1, G2, G3, G4, G5, G6, G7, G8, G9, G10, G11, G12, G13, G14, G15, G16}
use Rattle.a64_table.specs.declared.operation.Operation.TheVariants.{G17, G18, G19, G20, G21, G22, G23}
use Rattle.a64_table.specs.declared.operation.BranchOp.TheVariants as branch
use Rattle.a64_table.specs.declared.operation.AtomicForm.{AtomicForm}
use Rattle.a64_table.specs.declared.operation.AtomicForm.TheVariants as form
use Rattle.a64_table.specs.declared.rows.TheConstants.{SCALAR_LINES}
use Rattle.insn_text.specs.declared.item.Shape.{Shape}
use Rattle.insn_text.specs.declared.shapes.TheConstants.{SHAPES}
use Rattle.insn_text.specs.declared.keywords.TheConstants.{MNEMONICS}
use Rattle.insn_text.specs.Texts.{text_in, text_at, prints, printed_shape}
use Rattle.insn_text.specs.Mnemonics.{text_or_none, nth, condition_name, add_sub_name, carry_name, logical_name, move_name, bitfield_name}
use Rattle.insn_text.specs.Mnemonics.{relative_name, branch_name, jump_name, select_name, compare_name, one_source_name, two_source_name}
use Rattle.insn_text.specs.Mnemonics.{multiply_name, size_letter, unscaled_letter, access_name, literal_name, pair_name, order_letters}
use Rattle.insn_text.specs.Mnemonics.{atomic_name, form_name, call_name, system_name, mnemonic_of}
use Rattle.insn_text.specs.Cited.{is_set}

-- ---- the fields that a name looks at

unfoldable pub atomic_fields : AtomicForm → List Field
atomic_fields form.Cas = SIZE ∷ CAS_ACQUIRE ∷ CAS_RELEASE ∷ []
atomic_fields form.Ldar = SIZE ∷ []
atomic_fields form.Stlr = SIZE ∷ []
atomic_fields form.Swap = SIZE ∷ ACQUIRE ∷ RELEASE ∷ []
atomic_fields (form.Update op) = SIZE ∷ ACQUIRE ∷ RELEASE ∷ []

unfoldable pub naming_fields : Operation → List Field
naming_fields (G10 branch.BCond) = BRANCH_COND ∷ []
naming_fields (G10 op) = []
naming_fields (G15 op) = SF ∷ []
naming_fields (G18 form) = SIZE ∷ OPC ∷ []
naming_fields (G21 form) = atomic_fields form
naming_fields operation = []

-- the numbers are the same in all of some fields
abbrev pub Same : (Field → ℕ) → (Field → ℕ) → List Field → Type 0
Same n m [] = Unit {0}
Same n m (f ∷ fs) = (n f ≡ m f) × Same n m fs

form_name-same : (form : AtomicForm) (n m : Field → ℕ) → Same n m (atomic_fields form) → form_name form n ≡ form_name form m
unfolding form_name atomic_fields
form_name-same form.Ldar n m e = rw e.0 refl
form_name-same form.Stlr n m e = rw e.0 refl
form_name-same form.Cas n m e = rw (e.0, e.1.0, e.1.1.0) refl
form_name-same form.Swap n m e = rw (e.0, e.1.0, e.1.1.0) refl
form_name-same (form.Update op) n m e = rw (e.0, e.1.0, e.1.1.0) refl

name-same : (o : Operation) (n m : Field → ℕ) → Same n m (naming_fields o) → mnemonic_of o n ≡ mnemonic_of o m
unfolding mnemonic_of naming_fields branch_name
name-same (G10 branch.BCond) n m e = rw e.0 refl
name-same (G10 branch.B) n m e = refl
name-same (G10 branch.Bl) n m e = refl
name-same (G10 branch.Cbz) n m e = refl
name-same (G10 branch.Cbnz) n m e = refl
name-same (G10 branch.Tbz) n m e = refl
name-same (G10 branch.Tbnz) n m e = refl
name-same (G15 op) n m e = rw e.0 refl
name-same (G18 form) n m e = rw (e.0, e.1.0) refl
name-same (G21 form) n m e = form_name-same form n m e
name-same (G1 op) n m e = refl
name-same (G2 op) n m e = refl
name-same (G3 op inverted) n m e = refl
name-same (G4 op) n m e = refl
name-same (G5 op) n m e = refl
name-same (G6 op) n m e = refl
name-same (G7 op wide) n m e = refl
name-same (G8 wide) n m e = refl
name-same (G9 op) n m e = refl
name-same (G11 op) n m e = refl
name-same (G12 op) n m e = refl
name-same (G13 op) n m e = refl
name-same (G14 op immediate) n m e = refl
name-same (G16 op) n m e = refl
name-same (G17 op) n m e = refl
name-same (G19 op) n m e = refl
name-same (G20 op wide index) n m e = refl
name-same (G22 op) n m e = refl
name-same (G23 op register) n m e = refl

-- ---- the numbers of fields that a shape sets

unfoldable pub is_set_whole : ℕ → Field → Bool
is_set_whole mask f = is_set mask f && (bit_and (upper_mask f) (lower_mask f) == 0)

number-same : (s : Shape) (w : ℕ) (f : Field) → bit_and w s.mask ≡ s.value → is_set_whole s.mask f ≡ true
    → field_in f s.value ≡ field_in f w
unfolding is_set_whole is_set
number-same s w f matches e =
    let parts = and_parts (bit_and s.mask (mask_of f) == mask_of f) (bit_and (upper_mask f) (lower_mask f) == 0) e in
    let all : bit_and s.mask (mask_of f) ≡ mask_of f = eqb-true _ _ parts.0 in
    let apart : bit_and (upper_mask f) (lower_mask f) ≡ 0 = eqb-true _ _ parts.1 in
    let same : bit_and s.value (mask_of f) ≡ bit_and w (mask_of f) =
    ap (λ v. bit_and v (mask_of f)) (sym matches) ∙ and_assoc (mask_of f) w s.mask ∙ ap (bit_and w) all in
    placed-one f (field_in f s.value) (field_in f w) apart (field_in-lt f s.value) (field_in-lt f w)
    (placed-field f s.value apart ∙ same ∙ sym (placed-field f w apart))

pub numbers-same : (s : Shape) (w : ℕ) (fs : List Field) → bit_and w s.mask ≡ s.value → list_all (is_set_whole s.mask) fs ≡ true
    → Same (numbers_in s.value) (numbers_in w) fs
numbers-same s w [] matches e = tt
numbers-same s w (f ∷ fs) matches e =
    let parts = and_parts (is_set_whole s.mask f) (list_all (is_set_whole s.mask) fs) e in
    (number-same s w f matches parts.0, numbers-same s w fs matches parts.1)

-- ---- each shape and each line that have a word in common

unfoldable pub is_named_by : Shape → Line Operation → Bool
is_named_by s line =
    not (bit_and line.value s.mask == bit_and s.value line.mask)
    || (bytes_eq (text_at MNEMONICS s.mnemonic) (mnemonic_of line.operation (numbers_in s.value))
    && list_all (is_set_whole s.mask) (naming_fields line.operation))

unfoldable pub is_named : Shape → Bool
is_named s = s.alias || list_all (is_named_by s) SCALAR_LINES

all_named : list_all is_named SHAPES ≡ true
unfolding text_in field_of field_in mask_of is_set is_set_whole text_or_none nth condition_name add_sub_name carry_name logical_name
    move_name bitfield_name relative_name branch_name jump_name select_name compare_name one_source_name two_source_name multiply_name
    size_letter unscaled_letter access_name literal_name pair_name order_letters atomic_name form_name call_name system_name mnemonic_of
    atomic_fields naming_fields is_named_by is_named
all_named = refl

pub found : (p q : Shape → Bool) (ss : List Shape) (s : Shape) → list_all q ss ≡ true → find p ss ≡ Some s → (p s ≡ true) × (q s ≡ true)
found p q [] s a e = cc
found p q (r ∷ ss) s a e =
    let b = and_parts (q r) (list_all q ss) a in
    elim (p r) as (λ t. p r ≡ t → cond t (Some r) (find p ss) ≡ Some s → (p s ≡ true) × (q s ≡ true)) [
      | true ↦ λ is h. let same = same_Some r s h in (ap p (sym same) ∙ is, ap q (sym same) ∙ b.0)
      | false ↦ λ is h. found p q ss s b.1 h
    ] refl e

pub unless : (a b : Bool) → not a ≡ true → (a || b) ≡ true → b ≡ true
unless true b e h = cc
unless false b e h = h

pub swap : (w m n : ℕ) → bit_and (bit_and w m) n ≡ bit_and (bit_and w n) m
swap w m n = and_assoc n w m ∙ ap (bit_and w) (and_comm m n) ∙ sym (and_assoc m w n)

named_by : (s : Shape) (w : ℕ) (line : Line Operation) → bit_and w s.mask ≡ s.value → bit_and w line.mask ≡ line.value
    → is_named_by s line ≡ true → text_at MNEMONICS s.mnemonic ≡ mnemonic_of line.operation (numbers_in w)
unfolding is_named_by
named_by s w line ms ml e =
    let common : bit_and line.value s.mask ≡ bit_and s.value line.mask =
    ap (λ v. bit_and v s.mask) (sym ml) ∙ swap w line.mask s.mask ∙ ap (λ v. bit_and v line.mask) ms in
    let parts =
    and_parts (bytes_eq (text_at MNEMONICS s.mnemonic) (mnemonic_of line.operation (numbers_in s.value)))
    (list_all (is_set_whole s.mask) (naming_fields line.operation)) (implied _ _ e (eq-eqb _ _ common)) in
    (bytes_eq-Decides (text_at MNEMONICS s.mnemonic) (mnemonic_of line.operation (numbers_in s.value))).0 parts.0
    ∙ name-same line.operation (numbers_in s.value) (numbers_in w) (numbers-same s w (naming_fields line.operation) ms parts.1)

-- the name of the shape in which a word is printed is that of the operation of each line that the word matches
pub named : (w index : ℕ) (line : Line Operation) (s : Shape) → slice_get SCALAR_LINES index ≡ Some line → bit_and w line.mask ≡ line.value
    → printed_shape w ≡ Some s → text_at MNEMONICS s.mnemonic ≡ mnemonic_of line.operation (numbers_in w)
unfolding printed_shape prints is_named
named w index line s listed matches e =
    let f = found (λ x. not x.alias && (bit_and w x.mask == x.value)) is_named SHAPES s all_named e in
    let p = and_parts (not s.alias) (bit_and w s.mask == s.value) f.0 in
    named_by s w line (eqb-true _ _ p.1) matches (list_all-get (is_named_by s) SCALAR_LINES index line (unless s.alias _ p.0 f.1) listed)
