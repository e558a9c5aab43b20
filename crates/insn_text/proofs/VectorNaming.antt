-- The mnemonic in which a word of a vector instruction is printed is that of its operation.
use Rattle.std.proofs.Common.{◌≡◌, ℕ, ◌==◌, ◌&&◌, ◌||◌, not, Bool, true, bit_and, List, [], ◌∷◌, slice_get, Some, refl, sym, ap, ◌∙◌}
use Rattle.std.proofs.Common.{eqb-true, eq-eqb}
use Rattle.std.specs.List.{list_all}
use Rattle.std.specs.Str.{bytes_eq}
use Rattle.std.proofs.lemmas.Bool.{and_parts}
use Rattle.std.proofs.lemmas.Slice.Eq.{bytes_eq-Decides}
use Rattle.plain_lemmas.proofs.Lists.{list_all-get}
use Rattle.plain_lemmas.proofs.Tests.{implied}
use Rattle.insn_forms.specs.declared.field.Field.{Field}
use Rattle.insn_forms.specs.declared.line.Line.{Line}
use Rattle.insn_forms.specs.Fields.{field_of, field_in, mask_of}
use Rattle.insn_forms.specs.Tables.{numbers_in}
use Rattle.sve_table.specs.declared.fields.TheConstants.{SIZE, FLAGS, DTYPE, MEMORY_SIZE, SUBTRACT}
use Rattle.sve_table.specs.declared.operation as operations
use operations.VectorOperation.{VectorOperation}
use operations.VectorOperation.TheVariants.{G24, G25, G26, G27, G28, G29, G30, G31, G32, G33, G34, G35, G36}
use operations.VectorOperation.TheVariants.{G37, G38, G39, G40, G41, G42, G43, G44, G45}
use operations.PredicateForm.TheVariants as predicate
use operations.ElementForm.TheVariants as element
use operations.AccessForm.TheVariants as access
use Rattle.sm_types.specs.declared.vector.PredicateLogicalOp.TheVariants.{And, Bic, Eor, Sel, Orr, Orn, Nor, Nand}
use Rattle.sve_table.specs.declared.rows.TheConstants.{VECTOR_LINES}
use Rattle.insn_text.specs.declared.item.Shape.{Shape}
use Rattle.insn_text.specs.declared.shapes.TheConstants.{SHAPES}
use Rattle.insn_text.specs.declared.keywords.TheConstants.{MNEMONICS}
use Rattle.insn_text.specs.Texts.{text_in, text_at, prints, printed_shape}
use Rattle.insn_text.specs.Mnemonics.{text_or_none, nth}
use Rattle.insn_text.specs.VectorMnemonics.{arithmetic_name, vector_logical_name, binary_name, multiply_add_name, unary_name}
use Rattle.insn_text.specs.VectorMnemonics.{vector_shift_name, immediate_name, interleave_name, reduction_name, compare_vectors_name}
use Rattle.insn_text.specs.VectorMnemonics.{compare_immediate_name, predicate_name, vector_multiply_name, ternary_name, widening_name}
use Rattle.insn_text.specs.VectorMnemonics.{element_letter, elem_letter, copy_name, permute_name, reduced_name, comparison_name}
use Rattle.insn_text.specs.VectorMnemonics.{predicate_form_name, count_name, element_name, memory_letters, transfer_name}
use Rattle.insn_text.specs.VectorMnemonics.{vector_access_name, sve2_name, array_name, signs_name, streaming_name, vector_mnemonic_of}
use Rattle.insn_text.specs.Cited.{is_set}
use Rattle.insn_text.proofs.Naming.{Same, is_set_whole, numbers-same, found, unless, swap}

-- the fields that a name looks at
unfoldable pub vector_naming_fields : VectorOperation → List Field
vector_naming_fields (G34 (predicate.Logical op)) = FLAGS ∷ []
vector_naming_fields (G36 element.Count) = SIZE ∷ []
vector_naming_fields (G36 (element.Change down)) = SIZE ∷ []
vector_naming_fields (G37 access.LoadVectors) = DTYPE ∷ []
vector_naming_fields (G37 access.LoadRegister) = DTYPE ∷ []
vector_naming_fields (G37 access.StoreVectors) = MEMORY_SIZE ∷ []
vector_naming_fields (G44 op wide) = SUBTRACT ∷ []
vector_naming_fields operation = []

vector_name-same : (o : VectorOperation) (n m : Field → ℕ) → Same n m (vector_naming_fields o)
    → vector_mnemonic_of o n ≡ vector_mnemonic_of o m
unfolding vector_mnemonic_of vector_naming_fields predicate_form_name element_name vector_access_name
vector_name-same (G24 op) n m e = refl
vector_name-same (G25 op) n m e = refl
vector_name-same (G26 op) n m e = refl
vector_name-same (G27 op) n m e = refl
vector_name-same (G28 op) n m e = refl
vector_name-same (G29 op size) n m e = refl
vector_name-same (G30 form) n m e = refl
vector_name-same (G31 form) n m e = refl
vector_name-same (G32 form) n m e = refl
vector_name-same (G33 form) n m e = refl
vector_name-same (G34 predicate.True) n m e = refl
vector_name-same (G34 predicate.False) n m e = refl
vector_name-same (G34 predicate.Test) n m e = refl
vector_name-same (G34 (predicate.Logical op)) n m e = ap (predicate_form_name (predicate.Logical op)) e.0
vector_name-same (G35 form) n m e = refl
vector_name-same (G36 element.Count) n m e = ap (element_name element.Count) e.0
vector_name-same (G36 (element.Change down)) n m e = ap (element_name (element.Change down)) e.0
vector_name-same (G36 element.Length) n m e = refl
vector_name-same (G36 (element.AddLength of_predicate)) n m e = refl
vector_name-same (G37 access.LoadVectors) n m e = ap (λ d. vector_access_name access.LoadVectors d (n MEMORY_SIZE)) e.0
vector_name-same (G37 access.LoadRegister) n m e = ap (λ d. vector_access_name access.LoadRegister d (n MEMORY_SIZE)) e.0
vector_name-same (G37 access.StoreVectors) n m e = ap (vector_access_name access.StoreVectors (n DTYPE)) e.0
vector_name-same (G37 access.StoreBytes) n m e = refl
vector_name-same (G37 access.StoreHalfwords) n m e = refl
vector_name-same (G37 access.StoreWords) n m e = refl
vector_name-same (G37 access.StoreDoublewords) n m e = refl
vector_name-same (G37 (access.Vector store)) n m e = refl
vector_name-same (G37 (access.Predicate store)) n m e = refl
vector_name-same (G38 form) n m e = refl
vector_name-same (G39 start part) n m e = refl
vector_name-same (G40 form) n m e = refl
vector_name-same (G41 store size) n m e = refl
vector_name-same (G42 to_tile size) n m e = refl
vector_name-same (G43 by_row wide) n m e = refl
vector_name-same (G44 op wide) n m e = rw e.0 refl
vector_name-same (G45 form) n m e = refl

-- a shape and a line that have a word in common
unfoldable pub is_vector_named_by : Shape → Line VectorOperation → Bool
is_vector_named_by s line =
    not (bit_and line.value s.mask == bit_and s.value line.mask)
    || (bytes_eq (text_at MNEMONICS s.mnemonic) (vector_mnemonic_of line.operation (numbers_in s.value))
    && list_all (is_set_whole s.mask) (vector_naming_fields line.operation))

unfoldable pub is_vector_named : Shape → Bool
is_vector_named s = s.alias || list_all (is_vector_named_by s) VECTOR_LINES

all_vectors_named : list_all is_vector_named SHAPES ≡ true
unfolding text_in field_of field_in mask_of is_set is_set_whole text_or_none nth arithmetic_name vector_logical_name binary_name
    multiply_add_name unary_name vector_shift_name immediate_name interleave_name reduction_name compare_vectors_name compare_immediate_name
    predicate_name vector_multiply_name ternary_name widening_name element_letter elem_letter copy_name permute_name reduced_name
    comparison_name predicate_form_name count_name element_name memory_letters transfer_name vector_access_name sve2_name array_name
    signs_name streaming_name vector_mnemonic_of vector_naming_fields is_vector_named_by is_vector_named
all_vectors_named = refl

vector_named_by : (s : Shape) (w : ℕ) (line : Line VectorOperation) → bit_and w s.mask ≡ s.value → bit_and w line.mask ≡ line.value
    → is_vector_named_by s line ≡ true → text_at MNEMONICS s.mnemonic ≡ vector_mnemonic_of line.operation (numbers_in w)
unfolding is_vector_named_by
vector_named_by s w line ms ml e =
    let common : bit_and line.value s.mask ≡ bit_and s.value line.mask =
    ap (λ v. bit_and v s.mask) (sym ml) ∙ swap w line.mask s.mask ∙ ap (λ v. bit_and v line.mask) ms in
    let parts =
    and_parts (bytes_eq (text_at MNEMONICS s.mnemonic) (vector_mnemonic_of line.operation (numbers_in s.value)))
    (list_all (is_set_whole s.mask) (vector_naming_fields line.operation)) (implied _ _ e (eq-eqb _ _ common)) in
    (bytes_eq-Decides (text_at MNEMONICS s.mnemonic) (vector_mnemonic_of line.operation (numbers_in s.value))).0 parts.0
    ∙ vector_name-same line.operation (numbers_in s.value) (numbers_in w)
    (numbers-same s w (vector_naming_fields line.operation) ms parts.1)

-- the name of the shape in which a word is printed is that of the operation of each vector line that the word matches
pub vector_named : (w index : ℕ) (line : Line VectorOperation) (s : Shape) → slice_get VECTOR_LINES index ≡ Some line
    → bit_and w line.mask ≡ line.value
    → printed_shape w ≡ Some s → text_at MNEMONICS s.mnemonic ≡ vector_mnemonic_of line.operation (numbers_in w)
unfolding printed_shape prints is_vector_named
vector_named w index line s listed matches e =
    let f = found (λ x. not x.alias && (bit_and w x.mask == x.value)) is_vector_named SHAPES s all_vectors_named e in
    let p = and_parts (not s.alias) (bit_and w s.mask == s.value) f.0 in
    vector_named_by s w line (eqb-true _ _ p.1) matches
    (list_all-get (is_vector_named_by s) VECTOR_LINES index line (unless s.alias _ p.0 f.1) listed)
