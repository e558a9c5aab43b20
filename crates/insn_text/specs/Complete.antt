-- Each text of each row has its shapes, and so has each alias.
-- Source: DDI 0487, C6.2: the forms of each page; an alias has the widths of its instruction, and where an
-- operand may be left out the text is there with it and without.
use Rattle.std.specs.Prelude.{ℕ, ◌+◌, ◌^◌, ◌==◌, ◌&&◌, Bool, true, false, List, [], ◌∷◌, ◌++◌, length, map}
use Rattle.std.specs.Prelude.{filter, bit_and, bit_or, if◌then◌else◌}
use Rattle.std.specs.List.{list_all, list_any, range_with_len}
use Rattle.std.specs.Str.{bytes_eq}
use Rattle.insn_forms.specs.declared.field.Field.{Field}
use Rattle.insn_forms.specs.declared.line.Line.{Line}
use Rattle.insn_forms.specs.Fields.{bits_of, list_of, mask_of, placed}
use Rattle.insn_forms.specs.Tables.{numbers_in}
use Rattle.a64_table.specs.declared.fields.TheConstants.{ACQUIRE, BRANCH_COND, CAS_ACQUIRE, CAS_RELEASE, HW}
use Rattle.a64_table.specs.declared.fields.TheConstants.{N, OPC, OPTION, RELEASE, SCALED, SF, SH, SIZE}
use Rattle.a64_table.specs.declared.operation.Operation.{Operation}
use Rattle.a64_table.specs.declared.operation.Operation.TheVariants.{G1, G4, G5, G6, G10, G18, G21}
use Rattle.a64_table.specs.declared.operation.BranchOp.TheVariants as branch
use Rattle.a64_table.specs.declared.operation.AddressForm.TheVariants as address
use Rattle.a64_table.specs.declared.operation.AtomicForm.TheVariants as atomic
use Rattle.insn_text.specs.declared.item.Shape.{Shape}
use Rattle.insn_text.specs.declared.shapes.TheConstants.{SHAPES}
use Rattle.insn_text.specs.Texts.{items_of}
use Rattle.insn_text.specs.Operands.{is, frame, same}
use Rattle.insn_text.specs.Aliases.{Fixed, at, Naming, printed_naming, aliases_of}
use Rattle.insn_text.specs.Cited.{choices, has_bits, is_set, is_text}

-- ---- the forms in which a row is written

-- the bits that are set of the fields that choose between forms, and their values
pub record Form : Type 0 where
  pub mask : ℕ
  pub value : ℕ

unfoldable pub masks : List Field → ℕ
masks [] = 0
masks (f ∷ fs) = bit_or (mask_of f) (masks fs)

unfoldable pub fixed_mask : List Fixed → ℕ
fixed_mask [] = 0
fixed_mask (x ∷ xs) = bit_or (mask_of x.field) (fixed_mask xs)

unfoldable pub fixed_value : List Fixed → ℕ
fixed_value [] = 0
fixed_value (x ∷ xs) = bit_or (placed x.field x.number) (fixed_value xs)

-- these fields are set
abbrev form : List Fixed → Form
form fixed = record { mask = fixed_mask fixed; value = fixed_value fixed }

-- the highest bit of the option, which tells an extension with a sign
abbrev SIGNED : Field
SIGNED = record { low = OPTION.low + 2; width = 1; upper_low = 0; upper_width = 0 }

unfoldable pub has_field : Line Operation → Field → Bool
has_field line f = list_any (is f) (list_of line.fields)

-- by the width, where the row has both
unfoldable pub widths_of : Line Operation → List Form
widths_of line = if has_field line SF then form (at SF 0 ∷ []) ∷ form (at SF 1 ∷ []) ∷ [] else form [] ∷ []

-- each number of the field is set besides
unfoldable pub set_each : List ℕ → Field → List Form → List Form
set_each ns f [] = []
set_each ns f (x ∷ xs) =
    map (λ n. record { mask = bit_or x.mask (mask_of f); value = bit_or x.value (placed f n) }) ns
    ++ set_each ns f xs

-- at each number of the fields
unfoldable pub all_of : List Field → List Form
all_of [] = form [] ∷ []
all_of (f ∷ fs) = set_each (range_with_len 0 (2 ^ bits_of f)) f (all_of fs)

-- the loads and stores of each size: a word is extended with its sign to 64 bits alone, a doubleword is not
unfoldable pub accesses : List Form
accesses =
    set_each (0 ∷ 1 ∷ 2 ∷ 3 ∷ []) OPC (form (at SIZE 0 ∷ []) ∷ form (at SIZE 1 ∷ []) ∷ [])
    ++ (set_each (0 ∷ 1 ∷ 2 ∷ []) OPC (form (at SIZE 2 ∷ []) ∷ [])
    ++ set_each (0 ∷ 1 ∷ []) OPC (form (at SIZE 3 ∷ []) ∷ []))

-- the forms of a row. A number with a shift of 12 bits or none. Of a register that is extended to 64 bits
-- those by UXTX and SXTX, which extend an X register, stand apart from those without a sign and with one
-- that extend a W register; to 32 bits all extend a W register. A mask of 32 bits has no N. An address with
-- a register extends it by one of four options, and scales it or not.
unfoldable pub forms_by : Operation → Line Operation → List Form
forms_by (G1 op) line =
    form (at SF 0 ∷ at SH 0 ∷ []) ∷ form (at SF 0 ∷ at SH 1 ∷ [])
    ∷ form (at SF 1 ∷ at SH 0 ∷ []) ∷ form (at SF 1 ∷ at SH 1 ∷ []) ∷ []
forms_by (G4 op) line =
    form (at SF 0 ∷ [])
    ∷ form (at SF 1 ∷ at OPTION 3 ∷ []) ∷ form (at SF 1 ∷ at OPTION 7 ∷ [])
    ∷ form (at SF 1 ∷ at SIGNED 0 ∷ []) ∷ form (at SF 1 ∷ at SIGNED 1 ∷ []) ∷ []
forms_by (G5 op) line = form (at SF 0 ∷ at N 0 ∷ []) ∷ form (at SF 1 ∷ []) ∷ []
forms_by (G10 branch.BCond) line = all_of (BRANCH_COND ∷ [])
forms_by (G18 address.Register) line =
    set_each (0 ∷ 1 ∷ []) SCALED (set_each (2 ∷ 3 ∷ 6 ∷ 7 ∷ []) OPTION accesses)
forms_by (G18 form) line = accesses
forms_by (G21 atomic.Ldar) line = all_of (SIZE ∷ [])
forms_by (G21 atomic.Stlr) line = all_of (SIZE ∷ [])
forms_by (G21 atomic.Cas) line = all_of (SIZE ∷ CAS_ACQUIRE ∷ CAS_RELEASE ∷ [])
forms_by (G21 form) line = all_of (SIZE ∷ ACQUIRE ∷ RELEASE ∷ [])
forms_by operation line = widths_of line

abbrev forms_of : Line Operation → List Form
forms_of line = forms_by line.operation line

-- the upper bit of hw, which a register of 32 bits has not
abbrev UPPER_HW : Field
UPPER_HW = record { low = HW.low + 1; width = 1; upper_low = 0; upper_width = 0 }

-- the forms of a row's own text: hw is left out where it is 0
unfoldable pub own_forms : Operation → Line Operation → List Form
own_forms (G6 op) line =
    form (at SF 0 ∷ at HW 0 ∷ []) ∷ form (at SF 1 ∷ at HW 0 ∷ [])
    ∷ form (at SF 0 ∷ at UPPER_HW 0 ∷ []) ∷ form (at SF 1 ∷ []) ∷ []
own_forms operation line = forms_by operation line

unfoldable pub own_choices : Operation → List Field
own_choices (G6 op) = SF ∷ HW ∷ []
own_choices operation = choices operation

-- the bits of the fields that choose between the row's forms
unfoldable pub choosing : Line Operation → List Field → ℕ
choosing line fs = masks (filter (has_field line) fs)

-- ---- a form's texts

-- the shape sets what the form sets, and no more, of the bits that choose
unfoldable pub is_of_form : ℕ → Form → Shape → Bool
is_of_form bits x s = (bit_and s.mask bits == x.mask) && (bit_and s.value bits == x.value)

-- the number at which an alias fixes a field is that of the form, in the bits that the form sets
unfoldable pub agrees : Form → Fixed → Bool
agrees x fixed = bit_and (placed fixed.field fixed.number) x.mask == bit_and x.value (mask_of fixed.field)

-- the alias is written in the form
unfoldable pub is_in_form : Form → Naming → Bool
is_in_form x t = list_all (agrees x) t.fixed

-- the aliases of the row that are written in the form
unfoldable pub aliases_in : Line Operation → Form → List Naming
aliases_in line x =
    filter (is_in_form x) (aliases_of line.operation (numbers_in x.value) (is_set x.mask))

-- the frame has a place for each word that stands beside the operands, and no more
unfoldable pub has_slots : Naming → List ℕ → Bool
has_slots t f = length (filter (λ c. c == 119) f) == length t.words

-- the shape is that text of the row, an alias or not, in the form and the frame
unfoldable pub is_text_in : Bool → Line Operation → ℕ → Form → Naming → List ℕ → Shape → Bool
is_text_in alias line bits x t f s =
    same s.alias alias && has_bits s line && is_of_form bits x s && bytes_eq (frame (items_of s)) f
    && is_text s line t

unfoldable pub has_shape : Bool → Line Operation → ℕ → Form → Naming → List ℕ → Bool
has_shape alias line bits x t f = list_any (is_text_in alias line bits x t f) SHAPES

-- the text has a frame for its words, and in each such a shape
unfoldable pub has_shapes : Bool → Line Operation → ℕ → Form → Naming → Bool
has_shapes alias line bits x t =
    list_any (has_slots t) t.frames
    && list_all (has_shape alias line bits x t) (filter (has_slots t) t.frames)

unfoldable pub has_aliases_in : Line Operation → ℕ → Form → Bool
has_aliases_in line bits x = list_all (has_shapes true line bits x) (aliases_in line x)

-- each alias of the row has a shape in each of its forms and frames
unfoldable pub has_aliases : Line Operation → Bool
has_aliases line = list_all (has_aliases_in line (choosing line (choices line.operation))) (forms_of line)

unfoldable pub has_own_in : Line Operation → ℕ → Form → Bool
has_own_in line bits x =
    has_shapes false line bits x (printed_naming line.operation (numbers_in x.value) (is_set x.mask))

-- and so has the text in which its words are printed
unfoldable pub has_own : Line Operation → Bool
has_own line =
    list_all (has_own_in line (choosing line (own_choices line.operation))) (own_forms line.operation line)
