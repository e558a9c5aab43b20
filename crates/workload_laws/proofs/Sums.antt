-- The lines that add a number below 4,096 to X12: each is the text of its word. What holds of each is computed
-- for all of them.
use Rattle.std.proofs.Common.{◌≡◌, ℕ, ◌<◌, Bool, true, false, cond, ◌==◌, ◌&&◌, bit_and, [], ◌∷◌, Option, Some, None, slice_get}
use Rattle.std.proofs.Common.{refl, sym, ap, ◌∙◌, arith, eqb-true, inl}
use Rattle.std.specs.Fmt.{digits}
use Rattle.std.specs.List.{find}
use Rattle.std.specs.Str.{bytes_eq}
use Rattle.std.proofs.lemmas.Bool.{and_parts}
use Rattle.std.proofs.lemmas.Slice.Eq.{bytes_eq-Decides}
use Rattle.sm_types.specs.declared.insn.Insn.{Insn}
use Rattle.insn_forms.specs.declared.line.Line.{Line}
use Rattle.insn_forms.specs.Fields.{field_of, field_in}
use Rattle.insn_forms.specs.Tables.{Means, fits_in, insn_in}
use Rattle.a64_table.specs.declared.operation.Operation.{Operation}
use Rattle.a64_table.specs.Conditions.{fits_of}
use Rattle.a64_table.specs.Table.{scalar}
use Rattle.insn_text.specs.declared.item.ItemList.TheVariants.{Scalar}
use Rattle.insn_text.specs.declared.item.Shape.{Shape}
use Rattle.insn_text.specs.declared.shapes.TheConstants.{SHAPES}
use Rattle.insn_text.specs.Texts.{text_of, text_of_shape, shape_text, printed_shape, prints, text_in, items_in, items_of, items_text, gap}
use Rattle.insn_text.specs.Texts.{is_comma, is_punctuation, item_text, kind_text, register_text, file_text}
use Rattle.insn_text.proofs.Regions.{kept, keep_unless, is_apart, find-kept}
use Rattle.asm_operands.proofs.MaskFields.{all_below, all_below-at}
use Rattle.workload.specs.Source.{sum_line}
use Rattle.workload_laws.specs.Words.{sum_word}
use Rattle.workload_laws.proofs.ShortLines.{is_line_byte, is_short_line}
use Rattle.workload_laws.proofs.Texts.{IsText}

-- the bits that all these words have alike: all but those of the immediate
abbrev alike : ℕ
alike = 0xFFC003FF

abbrev alike_value : ℕ
alike_value = 0x9100018C

-- the shape in which they are printed
abbrev add_shape : Shape
add_shape = record { mask = 0xFFC00000; value = 0x91000000; mnemonic = 3; list = Scalar; first = 10; count = 5; alias = false }

unfoldable has_bits : ℕ → ℕ → ℕ → Bool
has_bits mask value word = bit_and word mask == value

-- a line has these bits, those of its shape and those of the row of ADD (immediate), is the shape's text, and
-- is short
unfoldable is_sum : ℕ → Bool
is_sum addend =
    has_bits alike alike_value (sum_word addend) && (has_bits 0xFFC00000 0x91000000 (sum_word addend)
    && (has_bits 0x7F800000 0x11000000 (sum_word addend) && (bytes_eq (shape_text add_shape (sum_word addend)) (sum_line addend)
    && is_short_line (sum_line addend))))

all_sums : all_below is_sum 4096 ≡ true
unfolding all_below is_sum has_bits is_line_byte is_short_line shape_text text_in items_in items_of items_text gap is_comma is_punctuation
    item_text kind_text register_text file_text digits field_of field_in
all_sums = refl

-- no other shape has such a word
one_shape : kept alike alike_value SHAPES ≡ add_shape ∷ []
unfolding kept keep_unless is_apart
one_shape = refl

module _ (addend : ℕ) (lt : addend < 4096) where
  abbrev word : ℕ
  word = sum_word addend

  all_parts : (has_bits alike alike_value word ≡ true) × (has_bits 0xFFC00000 0x91000000 word ≡ true)
      × (has_bits 0x7F800000 0x11000000 word ≡ true) × (bytes_eq (shape_text add_shape word) (sum_line addend) ≡ true)
      × (is_short_line (sum_line addend) ≡ true)
  unfolding is_sum
  all_parts =
      let p = and_parts _ _ (all_below-at is_sum 4096 addend all_sums lt) in
      let q = and_parts _ _ p.1 in
      let r = and_parts _ _ q.1 in
      let s = and_parts _ _ r.1 in
      (p.0, q.0, r.0, s.0, s.1)

  bits : (mask value : ℕ) → has_bits mask value word ≡ true → bit_and word mask ≡ value
  unfolding has_bits
  bits mask value e = eqb-true _ _ e

  shape : printed_shape word ≡ Some add_shape
  unfolding printed_shape prints has_bits
  shape =
      sym (find-kept word alike alike_value SHAPES (bits alike alike_value all_parts.0)) ∙ ap (find (prints word)) one_shape
      ∙ ap (λ b. cond b (Some add_shape) None) all_parts.1

  text : text_of word ≡ sum_line addend
  unfolding text_of text_of_shape
  text = ap (text_of_shape word) shape ∙ (bytes_eq-Decides (shape_text add_shape word) (sum_line addend)).0 all_parts.3

  abbrev Fits : Option (Line Operation) → Type 0
  Fits None = ⊥
  Fits (Some line) = (bit_and word line.mask ≡ line.value) × (fits_in scalar line.operation word ≡ true)

  means_by : (o : Option (Line Operation)) → slice_get scalar.lines 0 ≡ o → Fits o → (it : Insn) × Means scalar word it
  means_by None e f = absurd f
  means_by (Some line) e f = (
    insn_in scalar line.operation word,
    record {
      is_word = omega arith;
      place = 0;
      line = line;
      listed = e;
      matches = f.0;
      fits = f.1;
      gives = refl;
    },
  )

  -- the first row is that of ADD (immediate)
  means : (it : Insn) × Means scalar word it
  unfolding scalar fits_of
  means = means_by (slice_get scalar.lines 0) refl (bits 0x7F800000 0x11000000 all_parts.2, refl)

  -- such a line is the text of its word, and short
  pub sum_text : IsText word (sum_line addend)
  sum_text = record { insn = means.0; means = inl means.1; is = text }

  pub sum_short : is_short_line (sum_line addend) ≡ true
  sum_short = all_parts.4
