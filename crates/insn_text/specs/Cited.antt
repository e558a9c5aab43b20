-- A shape is a text of a row of the table.
use Rattle.std.specs.Prelude.{ℕ, ◌-◌, ◌==◌, ◌&&◌, ◌||◌, Bool, true, false, not, nat_lt, List, [], ◌∷◌, length}
use Rattle.std.specs.Prelude.{filter, bit_and, Option, Some, None, if◌then◌else◌}
use Rattle.std.specs.List.{list_all, list_any, filter_map}
use Rattle.std.specs.Str.{bytes_eq}
use Rattle.insn_forms.specs.declared.field.Field.{Field}
use Rattle.insn_forms.specs.declared.line.Line.{Line}
use Rattle.insn_forms.specs.Fields.{field_in, list_of}
use Rattle.insn_forms.specs.Fields as fields
use Rattle.insn_forms.specs.Tables.{numbers_in}
use Rattle.a64_table.specs.declared.fields.TheConstants.{ACQUIRE, BRANCH_COND, CAS_ACQUIRE, CAS_RELEASE, HW}
use Rattle.a64_table.specs.declared.fields.TheConstants.{IMM12, IMM3, IMM6, IMM7, IMM9, N, OPC, OPTION}
use Rattle.a64_table.specs.declared.fields.TheConstants.{RELEASE, SCALED, SF, SH, SHIFT, SIZE}
use Rattle.a64_table.specs.declared.operation.Operation.{Operation}
use Rattle.a64_table.specs.declared.operation.Operation.TheVariants.{G1, G2, G3, G4, G5, G6, G10, G18, G20}
use Rattle.a64_table.specs.declared.operation.Operation.TheVariants.{G21}
use Rattle.a64_table.specs.declared.rows.TheConstants.{SCALAR_LINES}
use Rattle.insn_text.specs.declared.item.Kind.{Kind}
use Rattle.insn_text.specs.declared.item.Kind.TheVariants as kind
use Rattle.insn_text.specs.declared.item.Item.{Item}
use Rattle.insn_text.specs.declared.item.Shape.{Shape}
use Rattle.insn_text.specs.declared.keywords.TheConstants.{KEYWORDS, MNEMONICS}
use Rattle.insn_text.specs.Texts.{text_at, items_of}
use Rattle.insn_text.specs.Operands.{is, is_operand, number_text, same_texts, says_field, frame, Way}
use Rattle.insn_text.specs.Aliases.{Fixed, Naming, printed_naming, aliases_of}
use Rattle.insn_text.specs.Templates.{is_vector_cited}

-- the bits of an operand's field in a word
abbrev pub mask_of : Item → ℕ
mask_of i = fields.mask_of i.field

-- the bits of a field that a shape leaves to its operands
unfoldable pub free : ℕ → Field → ℕ
free mask f = fields.mask_of f - bit_and mask (fields.mask_of f)

-- the shape fixes each bit of the field
unfoldable pub is_set : ℕ → Field → Bool
is_set mask f = bit_and mask (fields.mask_of f) == fields.mask_of f

-- ---- the operands that say fields

unfoldable pub is_left : ℕ → Field → Bool
is_left mask f = nat_lt 0 (free mask f)

module _ (way : Way) (o : Operation) (n : Field → ℕ) (mask : ℕ) where
  -- the field's bits are among these
  abbrev within : Field → ℕ → Bool
  within f all = bit_and (free mask f) all == free mask f

  -- an operand begins with the field, and goes on with what it has besides
  abbrev begins : (ℕ → List Item → Bool) → Field → List Item → Bool
  begins on f [] = false
  begins on f (i ∷ is) = is_operand way o n f i && within f (mask_of i) && on (mask_of i - free mask f) is

  -- the operands say the fields, in their order and each once; `left` are the bits of the last operand that
  -- no field has had yet
  unfoldable pub said : ℕ → List Field → List Item → Bool
  said left [] is = (left == 0) && (length is == 0)
  said left (f ∷ fs) is =
      if left == 0 then begins (λ next rest. said next fs rest) f is
      else (within f left && said (left - free mask f) fs is)

-- ---- the words that stand beside them

unfoldable pub constant : Kind → Option (List ℕ)
constant (kind.Keyword first count) = Some (text_at KEYWORDS first)
constant (kind.Unsigned base scale most) = Some (number_text base)
constant other = None

unfoldable pub constant_in : Item → Option (List ℕ)
constant_in i = if says_field i then None else constant i.kind

-- ---- the fields that a shape sets

-- those that choose between the forms of an operation's text: its width, size, order, condition, shift and
-- extension
unfoldable pub choices : Operation → List Field
choices (G1 op) = SF ∷ SH ∷ []
choices (G4 op) = SF ∷ OPTION ∷ []
choices (G5 op) = SF ∷ N ∷ []
choices (G10 op) = SF ∷ BRANCH_COND ∷ []
choices (G18 form) = SIZE ∷ OPC ∷ OPTION ∷ SCALED ∷ []
choices (G21 form) = SIZE ∷ ACQUIRE ∷ RELEASE ∷ CAS_ACQUIRE ∷ CAS_RELEASE ∷ []
choices operation = SF ∷ []

-- those that a text leaves out where they are 0
unfoldable pub defaults : Operation → List Field
defaults (G2 op) = SHIFT ∷ IMM6 ∷ []
defaults (G3 op inverted) = SHIFT ∷ IMM6 ∷ []
defaults (G4 op) = IMM3 ∷ []
defaults (G6 op) = HW ∷ []
defaults (G18 form) = IMM12 ∷ IMM9 ∷ []
defaults (G20 op wide index) = IMM7 ∷ []
defaults operation = []

unfoldable pub fixes : List Fixed → Field → ℕ → Bool
fixes fixed f number = list_any (λ x. is x.field f && (x.number == number)) fixed

unfoldable pub may_set : Operation → List Fixed → Field → ℕ → Bool
may_set o fixed f number =
    list_any (is f) (choices o) || (list_any (is f) (defaults o) && (number == 0)) || fixes fixed f number

-- a field that is set may be, at its number
unfoldable pub set_well : Shape → Operation → List Fixed → Field → Bool
set_well s o fixed f =
    (fields.mask_of f == 0) || not (is_set s.mask f) || may_set o fixed f (field_in f s.value)

unfoldable pub is_fixed_in : Shape → Fixed → Bool
is_fixed_in s x = is_set s.mask x.field && (field_in x.field s.value == x.number)

-- ---- a shape and a row

-- the shape is this text of the line
unfoldable pub is_text : Shape → Line Operation → Naming → Bool
is_text s line t =
    bytes_eq (text_at MNEMONICS s.mnemonic) t.mnemonic
    && list_all (set_well s line.operation t.fixed) (list_of line.fields)
    && list_all (is_fixed_in s) t.fixed
    && said t.way line.operation (numbers_in s.value) s.mask 0
    (filter (is_left s.mask) (list_of line.fields)) (filter says_field (items_of s))
    && same_texts (filter_map constant_in (items_of s)) t.words
    && list_any (bytes_eq (frame (items_of s))) t.frames

-- the shape fixes what the line does
unfoldable pub has_bits : Shape → Line Operation → Bool
has_bits s line = (bit_and s.mask line.mask == line.mask) && (bit_and s.value line.mask == line.value)

unfoldable pub is_cited_by : Shape → Line Operation → Bool
is_cited_by s line =
    has_bits s line
    && (if s.alias
    then list_any (is_text s line) (aliases_of line.operation (numbers_in s.value) (is_set s.mask))
    else is_text s line (printed_naming line.operation (numbers_in s.value) (is_set s.mask)))

-- the shape is a text of a row of either table
unfoldable pub is_cited : Shape → Bool
is_cited s = list_any (is_cited_by s) SCALAR_LINES || is_vector_cited s

-- ---- the order of the shapes

-- no word is printed in the second of two shapes of a mnemonic, since all its words are printed in the first
unfoldable pub hides : Shape → Shape → Bool
hides s t =
    (s.mnemonic == t.mnemonic) && not s.alias && not t.alias
    && (bit_and t.mask s.mask == s.mask) && (bit_and t.value s.mask == s.value)

-- none is hidden by one before it: so of two texts of a word that is printed which leaves out what is 0
unfoldable pub none_is_hidden : List Shape → Bool
none_is_hidden [] = true
none_is_hidden (s ∷ ss) = not (list_any (hides s) ss) && none_is_hidden ss
