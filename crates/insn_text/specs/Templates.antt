-- The texts of the vector rows as templates: what stands for each operand, with the lowest bit of its field
-- in place of its number. So `z5.t` is a vector whose number is in bits 9:5 and whose elements have the size
-- that the instruction tells, `z5.u` one with elements of half that size, `p10/m` a merging predicate at bit
-- 10, `x5|sp` a general register at bit 5 of which 31 is SP, `#-16` a signed number at bit 16, `#8-16` the
-- number that is 8 less the field at bit 16, and `#1+16` one that is 1 more than it.
-- Source: DDI 0487, C8.2, and C9.2 for SME: the assembler syntax and the encoding diagram of each page.
use Rattle.std.specs.Prelude.{ℕ, ◌+◌, ◌-◌, ◌^◌, ◌==◌, ◌&&◌, ◌||◌, Bool, true, false, not, List, [], ◌∷◌, ◌++◌}
use Rattle.std.specs.Prelude.{◌/◌, codes, decimal, filter, bit_and, map, if◌then◌else◌, nat_lt}
use Rattle.std.specs.List.{list_all, list_any, range_with_len}
use Rattle.std.specs.Str.{bytes_eq}
use Rattle.sm_types.specs.declared.vector as types
use types.Elem.{Elem}
use types.Elem.TheVariants as elem
use types.VectorShiftOp.TheVariants.{Lsl}
use types.ReductionOp.{ReductionOp}
use types.ReductionOp.TheVariants.{Saddv, Uaddv}
use types.PredicateLogicalOp.TheVariants.{Sel}
use Rattle.sm_types.specs.declared.matrix.ModePart.{ModePart}
use Rattle.sm_types.specs.declared.matrix.ModePart.TheVariants.{Sm, Za, Both}
use Rattle.insn_forms.specs.declared.field.Field.{Field}
use Rattle.insn_forms.specs.declared.line.Line.{Line}
use Rattle.insn_forms.specs.Fields.{bits_of, field_in, list_of, mask_of, placed, upper_mask}
use Rattle.insn_forms.specs.Tables.{numbers_in}
use Rattle.sve_table.specs.declared.fields.TheConstants.{ARRAY_OFFSET, DTYPE, ELEMENT_SIZE, FLAGS, IMM4, IMM9}
use Rattle.sve_table.specs.declared.fields.TheConstants.{MEMORY_SIZE, MERGING, MULTIPLIER, SF, SH, SIZE}
use Rattle.sve_table.specs.declared.fields.TheConstants.{SUBTRACT, VERTICAL}
use Rattle.sve_table.specs.declared.operation as operations
use operations.VectorOperation.{VectorOperation}
use operations.VectorOperation.TheVariants.{G24, G25, G26, G27, G28, G29, G30, G31, G32, G33, G34, G35, G36}
use operations.VectorOperation.TheVariants.{G37, G38, G39, G40, G41, G42, G43, G44, G45}
use operations.ShiftSize.{ShiftSize}
use operations.ShiftSize.TheVariants as shift
use operations.CopyForm.{CopyForm}
use operations.CopyForm.TheVariants as copy
use operations.PermuteForm.{PermuteForm}
use operations.PermuteForm.TheVariants as permute
use operations.ReductionForm.{ReductionForm}
use operations.ReductionForm.TheVariants as reduced
use operations.CompareForm.{CompareForm}
use operations.CompareForm.TheVariants as compare
use operations.PredicateForm.{PredicateForm}
use operations.PredicateForm.TheVariants as predicate
use operations.CountForm.{CountForm}
use operations.CountForm.TheVariants as count
use operations.ElementForm.{ElementForm}
use operations.ElementForm.TheVariants as element
use operations.AccessForm.{AccessForm}
use operations.AccessForm.TheVariants as access
use operations.Sve2Form.{Sve2Form}
use operations.Sve2Form.TheVariants as sve2
use operations.ArrayForm.{ArrayForm}
use operations.ArrayForm.TheVariants as array
use operations.StreamingForm.{StreamingForm}
use operations.StreamingForm.TheVariants as streaming
use Rattle.sve_table.specs.declared.rows.TheConstants.{VECTOR_LINES}
use Rattle.sve_table.specs.Conditions.{fits_of}
use Rattle.insn_text.specs.declared.item.Kind.{Kind}
use Rattle.insn_text.specs.declared.item.Kind.TheVariants as kind
use Rattle.insn_text.specs.declared.item.RegisterFile.{RegisterFile}
use Rattle.insn_text.specs.declared.item.RegisterFile.TheVariants.{X, W}
use Rattle.insn_text.specs.declared.item.Rule.{Rule}
use Rattle.insn_text.specs.declared.item.Rule.TheVariants.{Free, OffsetGiven}
use Rattle.insn_text.specs.declared.item.Item.{Item}
use Rattle.insn_text.specs.declared.item.Shape.{Shape}
use Rattle.insn_text.specs.declared.keywords.TheConstants.{KEYWORDS, MNEMONICS, SUFFIXES}
use Rattle.insn_text.specs.declared.shapes.TheConstants.{SHAPES}
use Rattle.insn_text.specs.Texts.{file_text, vector_file_text, text_at, gap, items_of}
use Rattle.insn_text.specs.Mnemonics.{nth}
use Rattle.insn_text.specs.VectorMnemonics.{vector_mnemonic_of}
use Rattle.insn_text.specs.Operands.{is, names_from, same_texts, number_text}

-- ---- the fields of a row

-- the row has the field
unfoldable pub has : Line VectorOperation → Field → Bool
has line f = list_any (is f) (list_of line.fields)

-- the fields that choose between the forms of a text, and those that a text leaves out where they are 0
abbrev vector_choices : List Field
vector_choices =
    SIZE ∷ SF ∷ SH ∷ DTYPE ∷ MEMORY_SIZE ∷ ELEMENT_SIZE ∷ MERGING ∷ FLAGS ∷ SUBTRACT ∷ VERTICAL ∷ []

abbrev vector_defaults : List Field
vector_defaults = MULTIPLIER ∷ IMM4 ∷ IMM9 ∷ ARRAY_OFFSET ∷ []

-- those of the row that choose, and their bits
unfoldable pub choices_in : Line VectorOperation → List Field
choices_in line = filter (has line) vector_choices

unfoldable pub all_bits : List Field → ℕ
all_bits [] = 0
all_bits (f ∷ fs) = mask_of f + all_bits fs

-- the bits that are the number of a register, without those above it
abbrev number_bits : Field → Field
number_bits f = record { low = f.low; width = f.width; upper_low = 0; upper_width = 0 }

-- the operand's field is one of the row, or none; of a register with a suffix its number is one of the row or
-- none, and all the bits above it are those of fields that choose
unfoldable pub is_of_row : Line VectorOperation → Field → Kind → Bool
is_of_row line f (kind.Sized file bits suffix) =
    (f.width == bits) && ((bits == 0) || has line (number_bits f))
    && (bit_and (upper_mask f) (all_bits (choices_in line)) == upper_mask f)
is_of_row line f other = (bits_of f == 0) || has line f

-- ---- the template of a shape

-- the lowest bit of a field
abbrev low_bit : Field → List ℕ
low_bit f = decimal f.low

-- the suffix of a register whose elements have this size, where the instruction tells one: a vector of
-- elements of that size, or of half of it
unfoldable pub suffix_symbol : Bool → ℕ → ℕ → List ℕ
suffix_symbol true size suffix =
    if suffix == size + 1 then codes ".t" else if suffix == size then codes ".u" else codes "?"
suffix_symbol false size suffix = text_at SUFFIXES suffix

-- what number 31 is, by its word: SP or the zero register, of the width of the file
unfoldable pub last_symbol : RegisterFile → List ℕ → List ℕ
last_symbol X last =
    if bytes_eq last (codes "sp") then codes "|sp" else if bytes_eq last (codes "xzr") then [] else codes "?"
last_symbol W last =
    if bytes_eq last (codes "wsp") then codes "|sp" else if bytes_eq last (codes "wzr") then [] else codes "?"

unfoldable pub rule_symbol : Rule → List ℕ
rule_symbol Free = []
rule_symbol OffsetGiven = codes "|not31"
rule_symbol other = codes "?"

-- the 17 patterns that have words
unfoldable pub pattern_words : List (List ℕ)
pattern_words =
    codes "pow2" ∷ codes "vl1" ∷ codes "vl2" ∷ codes "vl3" ∷ codes "vl4" ∷ codes "vl5" ∷ codes "vl6"
    ∷ codes "vl7" ∷ codes "vl8" ∷ codes "vl16" ∷ codes "vl32" ∷ codes "vl64" ∷ codes "vl128" ∷ codes "vl256"
    ∷ codes "mul4" ∷ codes "mul3" ∷ codes "all" ∷ []

-- a number without a sign: alone, or of a field, which may have 1 added to it, and of which each has a text
unfoldable pub number_symbol : ℕ → ℕ → ℕ → ℕ → Field → List ℕ
number_symbol base scale most bits f =
    if bits == 0 then number_text base
    else if not (scale == 1) || not (most + 1 == 2 ^ bits) then codes "?"
    else if base == 0 then codes "#" ++ low_bit f
    else codes "#" ++ (decimal base ++ (codes "+" ++ low_bit f))

module _ (line : Line VectorOperation) (value : ℕ) (sized : Bool) (size : ℕ) where
  -- what stands for an operand at a value of the fields that choose, in an instruction that tells a size of
  -- elements or does not
  unfoldable pub symbol : Item → Kind → List ℕ
  symbol i (kind.Punctuation c) = c ∷ []
  symbol i (kind.Keyword first count) = if bits_of i.field == 0 then text_at KEYWORDS first else codes "?"
  symbol i (kind.Register file last) =
      file_text file ++ (low_bit i.field ++ (last_symbol file (text_at KEYWORDS last) ++ rule_symbol i.rule))
  symbol i (kind.Sized file bits suffix) =
      vector_file_text file ++ (low_bit i.field
      ++ suffix_symbol (sized && nat_lt 0 suffix) size (suffix + field_in i.field value / 2 ^ bits))
  symbol i kind.SliceRegister = codes "w" ++ low_bit i.field
  symbol i kind.Index = if bits_of i.field == 0 then codes "0" else codes "i" ++ low_bit i.field
  symbol i (kind.Pattern first) =
      if same_texts (names_from (text_at KEYWORDS) first 17) pattern_words then codes "pattern"
      ++ low_bit i.field
      else codes "?"
  symbol i (kind.Descending from) =
      if from == 2 ^ bits_of i.field then codes "#" ++ (decimal from ++ (codes "-" ++ low_bit i.field))
      else codes "?"
  symbol i (kind.Unsigned base scale most) = number_symbol base scale most (bits_of i.field) i.field
  symbol i (kind.Signed scale) = if scale == 1 then codes "#-" ++ low_bit i.field else codes "?"
  symbol i other = codes "?"

  -- those of operands, with the spaces between them
  unfoldable pub template : Kind → List Item → List ℕ
  template before [] = []
  template before (i ∷ is) =
      gap before i.kind
      ++ ((if is_of_row line i.field i.kind then symbol i i.kind else codes "?") ++ template i.kind is)

-- by the field that tells the size of elements, where the row has one: of a store it is its own
unfoldable pub template_by : Line VectorOperation → ℕ → Shape → List ℕ
template_by line value s =
    if has line SIZE then template line value true (field_in SIZE value) (kind.Punctuation 32) (items_of s)
    else if has line ELEMENT_SIZE
    then template line value true (field_in ELEMENT_SIZE value) (kind.Punctuation 32) (items_of s)
    else template line value false 0 (kind.Punctuation 32) (items_of s)

-- ---- the templates of a row

-- the elements of a load by its sort, and the shift of a register by the size of memory
unfoldable pub loaded : ℕ → List ℕ
loaded dtype =
    nth (codes "b" ∷ codes "h" ∷ codes "s" ∷ codes "d" ∷ codes "d" ∷ codes "h" ∷ codes "s" ∷ codes "d"
    ∷ codes "d" ∷ codes "s" ∷ codes "s" ∷ codes "d" ∷ codes "d" ∷ codes "s" ∷ codes "h" ∷ codes "d" ∷ [])
    dtype

unfoldable pub load_shift : ℕ → List ℕ
load_shift dtype =
    nth ([] ∷ [] ∷ [] ∷ [] ∷ codes ", lsl #2" ∷ codes ", lsl #1" ∷ codes ", lsl #1" ∷ codes ", lsl #1"
    ∷ codes ", lsl #1" ∷ codes ", lsl #1" ∷ codes ", lsl #2" ∷ codes ", lsl #2" ∷ [] ∷ [] ∷ []
    ∷ codes ", lsl #3" ∷ []) dtype

-- a general register of 64 bits for doublewords, and of 32 bits for the others
unfoldable pub width_letter : ℕ → List ℕ
width_letter size = if size == 3 then codes "x" else codes "w"

abbrev one : List ℕ → List (List ℕ)
one text = text ∷ []

-- the operands, and with a shift of 8 where the bit is set
unfoldable pub shifted : ℕ → List ℕ → List (List ℕ)
shifted sh text = one (if sh == 1 then text ++ codes ", lsl #8" else text)

unfoldable pub shift_letter : ShiftSize → List ℕ
shift_letter shift.B = codes "b"
shift_letter shift.H = codes "h"
shift_letter shift.S = codes "s"
shift_letter shift.D = codes "d"

unfoldable pub shift_width : ShiftSize → ℕ
shift_width shift.B = 8
shift_width shift.H = 16
shift_width shift.S = 32
shift_width shift.D = 64

unfoldable pub shifted_vectors : ShiftSize → List ℕ
shifted_vectors size = codes "z0." ++ (shift_letter size ++ (codes ", z5." ++ shift_letter size))

unfoldable pub copy_templates : CopyForm → (Field → ℕ) → List (List ℕ)
copy_templates copy.Register n = one (codes "z0.t, " ++ (width_letter (n SIZE) ++ codes "5|sp"))
copy_templates copy.PredicatedRegister n =
    one (codes "z0.t, p10/m, " ++ (width_letter (n SIZE) ++ codes "5|sp"))
copy_templates copy.Immediate n = shifted (n SH) (codes "z0.t, #-5")
copy_templates copy.PredicatedImmediate n =
    shifted (n SH) (if n MERGING == 1 then codes "z0.t, p16/m, #-5" else codes "z0.t, p16/z, #-5")
copy_templates (copy.Index false false) n = one (codes "z0.t, #-5, #-16")
copy_templates (copy.Index true false) n =
    one (codes "z0.t, " ++ (width_letter (n SIZE) ++ codes "5, #-16"))
copy_templates (copy.Index false true) n =
    one (codes "z0.t, #-5, " ++ (width_letter (n SIZE) ++ codes "16"))
copy_templates (copy.Index true true) n =
    one (codes "z0.t, " ++ (width_letter (n SIZE)
    ++ (codes "5, " ++ (width_letter (n SIZE) ++ codes "16"))))
copy_templates (copy.AddImmediate op) n = shifted (n SH) (codes "z0.t, z0.t, #5")
copy_templates copy.MultiplyImmediate n = one (codes "z0.t, z0.t, #-5")
copy_templates copy.Select n = one (codes "z0.t, p10, z5.t, z16.t")
copy_templates copy.Prefix n = one (codes "z0, z5")

unfoldable pub permute_templates : PermuteForm → List (List ℕ)
permute_templates permute.Reverse = one (codes "z0.t, z5.t")
permute_templates permute.Extract = one (codes "z0.b, z0.b, z5.b, #10")
permute_templates (permute.Unpack signed high) = one (codes "z0.t, z5.u")
permute_templates form = one (codes "z0.t, z5.t, z16.t")

-- the low part of a vector that a reduction gives: a sum has 64 bits
unfoldable pub reduced_letter : ReductionOp → ℕ → List ℕ
reduced_letter Saddv size = codes "d"
reduced_letter Uaddv size = codes "d"
reduced_letter op size = nth (codes "b" ∷ codes "h" ∷ codes "s" ∷ codes "d" ∷ []) size

unfoldable pub reduction_templates : ReductionForm → (Field → ℕ) → List (List ℕ)
reduction_templates (reduced.Last active) n = one (width_letter (n SIZE) ++ codes "0, p10, z5.t")
reduction_templates (reduced.Reduce op) n = one (reduced_letter op (n SIZE) ++ codes "0, p10, z5.t")

unfoldable pub compare_templates : CompareForm → List (List ℕ)
compare_templates (compare.Vectors op) = one (codes "p0.t, p10/z, z5.t, z16.t")
compare_templates (compare.Immediate op) = one (codes "p0.t, p10/z, z5.t, #-16")

unfoldable pub predicate_templates : PredicateForm → List (List ℕ)
predicate_templates predicate.True = one (codes "p0.t, pattern5")
predicate_templates predicate.False = one (codes "p0.b")
predicate_templates predicate.Test = one (codes "p10, p5.b")
predicate_templates (predicate.Logical Sel) = one (codes "p0.b, p10, p5.b, p16.b")
predicate_templates (predicate.Logical op) = one (codes "p0.b, p10/z, p5.b, p16.b")

unfoldable pub count_templates : CountForm → (Field → ℕ) → List (List ℕ)
count_templates (count.While signed) n =
    one (if n SF == 1 then codes "p0.t, x5, x16" else codes "p0.t, w5, w16")
count_templates count.Active n = one (codes "x0, p10, p5.t")
count_templates count.SetFfr n = one []
count_templates count.ReadFfr n = one (codes "p0.b")
count_templates count.WriteFfr n = one (codes "p5.b")

unfoldable pub element_templates : ElementForm → List (List ℕ)
element_templates element.Length = one (codes "x0, #-5")
element_templates (element.AddLength of_predicate) = one (codes "x0|sp, x16|sp, #-5")
element_templates form = codes "x0, pattern5" ∷ codes "x0, pattern5, mul #1+16" ∷ []

-- an address with an offset in lengths of vectors, or none
unfoldable pub with_lengths : List ℕ → List ℕ → List (List ℕ)
with_lengths text offset =
    (text ++ codes "[x5|sp]") ∷ (text ++ (codes "[x5|sp, " ++ (offset ++ codes ", mul vl]"))) ∷ []

-- an address with a register
unfoldable pub with_register : List ℕ → List ℕ → List (List ℕ)
with_register text extension = one (text ++ (codes "[x5|sp, x16|not31" ++ (extension ++ codes "]")))

unfoldable pub access_templates : AccessForm → (Field → ℕ) → List (List ℕ)
access_templates access.LoadVectors n =
    with_lengths (codes "{z0." ++ (loaded (n DTYPE) ++ codes "}, p10/z, ")) (codes "#-16")
access_templates access.LoadRegister n =
    with_register (codes "{z0." ++ (loaded (n DTYPE) ++ codes "}, p10/z, ")) (load_shift (n DTYPE))
access_templates access.StoreVectors n = with_lengths (codes "{z0.t}, p10, ") (codes "#-16")
access_templates access.StoreBytes n = with_register (codes "{z0.t}, p10, ") []
access_templates access.StoreHalfwords n = with_register (codes "{z0.t}, p10, ") (codes ", lsl #1")
access_templates access.StoreWords n = with_register (codes "{z0.t}, p10, ") (codes ", lsl #2")
access_templates access.StoreDoublewords n = with_register (codes "{z0.d}, p10, ") (codes ", lsl #3")
access_templates (access.Vector store) n = with_lengths (codes "z0, ") (codes "#-10")
access_templates (access.Predicate store) n = with_lengths (codes "p0, ") (codes "#-10")

unfoldable pub sve2_templates : Sve2Form → List (List ℕ)
sve2_templates (sve2.Multiply op) = one (codes "z0.t, z5.t, z16.t")
sve2_templates (sve2.Ternary op) = one (codes "z0.d, z0.d, z16.d, z5.d")
sve2_templates (sve2.Widening op top) = one (codes "z0.t, z5.u, z16.u")

unfoldable pub mode_templates : ModePart → List (List ℕ)
mode_templates Sm = one (codes "sm")
mode_templates Za = one (codes "za")
mode_templates Both = one []

unfoldable pub array_templates : ArrayForm → List (List ℕ)
array_templates array.Zero = one (codes "#0")
array_templates (array.Transfer store) =
    codes "za[w13, 0], [x5|sp]" ∷ codes "za[w13, i0], [x5|sp, #0, mul vl]" ∷ []

-- a slice of a tile, horizontal or vertical; there is one tile of bytes, and one slice of Q for each tile
unfoldable pub slice : Elem → ℕ → List ℕ
slice elem.B vertical = if vertical == 1 then codes "za0v.b[w13, i0]" else codes "za0h.b[w13, i0]"
slice elem.H vertical = if vertical == 1 then codes "za3v.h[w13, i0]" else codes "za3h.h[w13, i0]"
slice elem.S vertical = if vertical == 1 then codes "za2v.s[w13, i0]" else codes "za2h.s[w13, i0]"
slice elem.D vertical = if vertical == 1 then codes "za1v.d[w13, i0]" else codes "za1h.d[w13, i0]"
slice elem.Q vertical = if vertical == 1 then codes "za0v.q[w13, 0]" else codes "za0h.q[w13, 0]"

-- the same where it is moved to a vector
unfoldable pub moved_slice : Elem → ℕ → List ℕ
moved_slice elem.B vertical = if vertical == 1 then codes "za0v.b[w13, i5]" else codes "za0h.b[w13, i5]"
moved_slice elem.H vertical = if vertical == 1 then codes "za8v.h[w13, i5]" else codes "za8h.h[w13, i5]"
moved_slice elem.S vertical = if vertical == 1 then codes "za7v.s[w13, i5]" else codes "za7h.s[w13, i5]"
moved_slice elem.D vertical = if vertical == 1 then codes "za6v.d[w13, i5]" else codes "za6h.d[w13, i5]"
moved_slice elem.Q vertical = if vertical == 1 then codes "za5v.q[w13, 0]" else codes "za5h.q[w13, 0]"

unfoldable pub elem_suffix : Elem → List ℕ
elem_suffix elem.B = codes "b"
elem_suffix elem.H = codes "h"
elem_suffix elem.S = codes "s"
elem_suffix elem.D = codes "d"
elem_suffix elem.Q = codes "q"

unfoldable pub slice_shift : Elem → List ℕ
slice_shift elem.B = []
slice_shift elem.H = codes ", lsl #1"
slice_shift elem.S = codes ", lsl #2"
slice_shift elem.D = codes ", lsl #3"
slice_shift elem.Q = codes ", lsl #4"

unfoldable pub slice_template : Bool → Elem → ℕ → List ℕ
slice_template store size vertical =
    codes "{" ++ (slice size vertical ++ ((if store then codes "}, p10, " else codes "}, p10/z, ")
    ++ (codes "[x5|sp, x16" ++ (slice_shift size ++ codes "]"))))

unfoldable pub move_template : Bool → Elem → ℕ → List ℕ
move_template true size vertical = slice size vertical ++ (codes ", p10/m, z5." ++ elem_suffix size)
move_template false size vertical =
    codes "z0." ++ (elem_suffix size ++ (codes ", p10/m, " ++ moved_slice size vertical))

unfoldable pub streaming_templates : StreamingForm → List (List ℕ)
streaming_templates streaming.Length = one (codes "x0, #-5")
streaming_templates (streaming.AddLength of_predicate) = one (codes "x0|sp, x16|sp, #-5")

-- the texts of an operation, by the numbers of the fields that choose between its forms: each that may leave
-- something out is there without it and with it
unfoldable pub templates_of : VectorOperation → (Field → ℕ) → List (List ℕ)
templates_of (G24 op) n = one (codes "z0.t, z5.t, z16.t")
templates_of (G25 op) n = one (codes "z0.d, z5.d, z16.d")
templates_of (G26 op) n = one (codes "z0.t, p10/m, z0.t, z5.t")
templates_of (G27 op) n = one (codes "z0.t, p10/m, z5.t, z16.t")
templates_of (G28 op) n = one (codes "z0.t, p10/m, z5.t")
templates_of (G29 Lsl size) n = one (shifted_vectors size ++ codes ", #16")
templates_of (G29 op size) n =
    one (shifted_vectors size ++ (codes ", #" ++ (decimal (shift_width size) ++ codes "-16")))
templates_of (G30 form) n = copy_templates form n
templates_of (G31 form) n = permute_templates form
templates_of (G32 form) n = reduction_templates form n
templates_of (G33 form) n = compare_templates form
templates_of (G34 form) n = predicate_templates form
templates_of (G35 form) n = count_templates form n
templates_of (G36 form) n = element_templates form
templates_of (G37 form) n = access_templates form n
templates_of (G38 form) n = sve2_templates form
templates_of (G39 start part) n = mode_templates part
templates_of (G40 form) n = array_templates form
templates_of (G41 store size) n = one (slice_template store size (n VERTICAL))
templates_of (G42 to_tile size) n = one (move_template to_tile size (n VERTICAL))
templates_of (G43 by_row wide) n =
    one (if wide then codes "za0.d, p10/m, p13/m, z5.d" else codes "za0.s, p10/m, p13/m, z5.s")
templates_of (G44 op wide) n =
    one (if wide then codes "za0.d, p10/m, p13/m, z5.h, z16.h" else codes "za0.s, p10/m, p13/m, z5.b, z16.b")
templates_of (G45 form) n = streaming_templates form

-- ---- a shape and a row

-- the field at each of its numbers, beside each of some values
unfoldable pub with_each : Field → List ℕ → List ℕ
with_each f [] = []
with_each f (value ∷ values) =
    map (λ n. placed f n + value) (range_with_len 0 (2 ^ bits_of f)) ++ with_each f values

-- the fields at all their numbers
unfoldable pub all_values : List Field → List ℕ
all_values [] = 0 ∷ []
all_values (f ∷ fs) = with_each f (all_values fs)

-- the shape has the value in those of these bits that it fixes
unfoldable pub agrees : ℕ → Shape → ℕ → Bool
agrees bits s value = bit_and value s.mask == bit_and s.value bits

-- the values of the fields that choose of which the shape is a text
unfoldable pub values_in : Line VectorOperation → Shape → List ℕ
values_in line s = filter (agrees (all_bits (choices_in line)) s) (all_values (choices_in line))

-- the shape fixes no bit of the field, or it is one that chooses, or is left out where it is 0
unfoldable pub is_set_well : Shape → Field → Bool
is_set_well s f =
    (bit_and s.mask (mask_of f) == 0) || list_any (is f) vector_choices
    || (list_any (is f) vector_defaults && (field_in f s.value == 0))

-- the shape fixes what the line does
unfoldable pub fixes_row : Line VectorOperation → Shape → Bool
fixes_row line s = (bit_and s.mask line.mask == line.mask) && (bit_and s.value line.mask == line.value)

-- the shape has the line's mnemonic at a value of the fields that choose, and sets no other field
unfoldable pub has_name : Line VectorOperation → Shape → ℕ → Bool
has_name line s value =
    not s.alias && bytes_eq (text_at MNEMONICS s.mnemonic)
    (vector_mnemonic_of line.operation (numbers_in value))
    && list_all (is_set_well s) (list_of line.fields)

-- the shape is a text of the line at the value
unfoldable pub is_vector_text : Line VectorOperation → Shape → ℕ → Bool
is_vector_text line s value =
    has_name line s value
    && list_any (bytes_eq (template_by line value s)) (templates_of line.operation (numbers_in value))

-- and so it is at each value at which it may be written
unfoldable pub is_vector_cited_by : Shape → Line VectorOperation → Bool
is_vector_cited_by s line = fixes_row line s && list_all (is_vector_text line s) (values_in line s)

-- the shape is a text of a vector row
unfoldable pub is_vector_cited : Shape → Bool
is_vector_cited s = list_any (is_vector_cited_by s) VECTOR_LINES

-- ---- each text of a row has a shape

-- the shape agrees with a value of the bits that choose, and has the template
unfoldable pub is_template_of : Line VectorOperation → ℕ → ℕ → List ℕ → Shape → Bool
is_template_of line bits value text s =
    agrees bits s value && bytes_eq (template_by line value s) text && has_name line s value

unfoldable pub has_template : Line VectorOperation → List Shape → ℕ → ℕ → List ℕ → Bool
has_template line shapes bits value text = list_any (is_template_of line bits value text) shapes

-- so has each template at that value, where the row's condition holds
unfoldable pub has_templates_at : Line VectorOperation → List Shape → ℕ → ℕ → Bool
has_templates_at line shapes bits value =
    not (fits_of line.operation (numbers_in value))
    || list_all (has_template line shapes bits value) (templates_of line.operation (numbers_in value))

unfoldable pub has_templates_in : Line VectorOperation → List Field → List Shape → Bool
has_templates_in line fs shapes = list_all (has_templates_at line shapes (all_bits fs)) (all_values fs)

-- each text of the row has a shape, at all numbers of the fields that choose
unfoldable pub has_templates : Line VectorOperation → Bool
has_templates line = has_templates_in line (choices_in line) (filter (fixes_row line) SHAPES)
