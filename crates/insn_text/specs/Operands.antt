-- The operands of a row's text: for each field its sort, the registers and words that it numbers, and its
-- unit.
-- Source: DDI 0487, C6.2, the assembler symbols of each page; C1.2.5 for the names of registers.
use Rattle.std.specs.Prelude.{ℕ, ◌-◌, ◌%◌, ◌^◌, ◌==◌, ◌&&◌, ◌||◌, Bool, true, false, not, List, [], ◌∷◌, ◌++◌}
use Rattle.std.specs.Prelude.{length, map}
use Rattle.std.specs.Prelude.{codes, decimal, if◌then◌else◌}
use Rattle.std.specs.List.{range_with_len}
use Rattle.std.specs.Str.{bytes_eq}
use Rattle.sm_types.specs.declared.insn.AddSub.{AddSub}
use Rattle.sm_types.specs.declared.insn.AddSub.TheVariants as sum
use Rattle.sm_types.specs.declared.insn.Logical.{Logical}
use Rattle.sm_types.specs.declared.insn.Logical.TheVariants as logical
use Rattle.sm_types.specs.declared.insn.MoveOp.TheVariants as move
use Rattle.sm_types.specs.declared.insn.BitfieldOp.TheVariants as bits
use Rattle.sm_types.specs.declared.insn.PcRelativeOp.TheVariants as relative
use Rattle.sm_types.specs.declared.insn.OneSourceOp.TheVariants as one
use Rattle.sm_types.specs.declared.insn.LoadLiteralOp.TheVariants as literal
use Rattle.sm_types.specs.declared.insn.SystemRegister.{SystemRegister}
use Rattle.sm_types.specs.declared.insn.SystemRegister.TheVariants as system
use Rattle.insn_forms.specs.declared.field.Field.{Field}
use Rattle.a64_table.specs.declared.fields.TheConstants.{COND, HW, IMM14, IMM16, IMM19, IMM21, IMM26, IMM3}
use Rattle.a64_table.specs.declared.fields.TheConstants.{IMM7, IMM9, IMMR, N, OPC, OPTION, RA, RD, RM, RN}
use Rattle.a64_table.specs.declared.fields.TheConstants.{RT2, SCALED, SF, SH, SHIFT, SIZE}
use Rattle.a64_table.specs.declared.operation.Operation.{Operation}
use Rattle.a64_table.specs.declared.operation.Operation.TheVariants.{G1, G2, G3, G4, G5, G6, G7, G8, G9, G10}
use Rattle.a64_table.specs.declared.operation.Operation.TheVariants.{G11, G12, G13, G14, G15, G16, G17, G18}
use Rattle.a64_table.specs.declared.operation.Operation.TheVariants.{G19, G20, G21, G22, G23}
use Rattle.a64_table.specs.declared.operation.BranchOp.TheVariants as branch
use Rattle.a64_table.specs.declared.operation.MultiplyOp.TheVariants as multiply
use Rattle.a64_table.specs.declared.operation.AddressForm.TheVariants as address
use Rattle.sm_types.specs.declared.insn.PairIndex.TheVariants as index
use Rattle.sm_types.specs.declared.insn.PairOp.TheVariants as pair
use Rattle.insn_forms.specs.Fields.{bits_of}
use Rattle.a64_table.specs.declared.operation.AtomicForm.TheVariants as atomic
use Rattle.sm_types.specs.declared.insn.SystemMoveOp.TheVariants as move_system
use Rattle.insn_text.specs.declared.item.Item.{Item}
use Rattle.insn_text.specs.declared.item.Rule.{Rule}
use Rattle.insn_text.specs.declared.item.Rule.TheVariants.{Free, SecondApart, BaseApart, BasePairApart}
use Rattle.insn_text.specs.declared.item.Rule.TheVariants.{OffsetGiven}
use Rattle.insn_text.specs.declared.item.Kind.{Kind}
use Rattle.insn_text.specs.declared.item.Kind.TheVariants as kind
use Rattle.insn_text.specs.declared.item.RegisterFile.{RegisterFile}
use Rattle.insn_text.specs.declared.item.RegisterFile.TheVariants as file
use Rattle.insn_text.specs.declared.keywords.TheConstants.{KEYWORDS}
use Rattle.insn_text.specs.Texts.{text_at}
use Rattle.insn_text.specs.Mnemonics.{nth, condition_name}

-- the two are one field
unfoldable pub is : Field → Field → Bool
is f g =
    (f.low == g.low) && (f.width == g.width) && (f.upper_low == g.upper_low)
    && (f.upper_width == g.upper_width)

unfoldable pub shift_name : ℕ → List ℕ
shift_name n = nth (codes "lsl" ∷ codes "lsr" ∷ codes "asr" ∷ codes "ror" ∷ []) n

unfoldable pub extend_name : ℕ → List ℕ
extend_name n =
    nth (codes "uxtb" ∷ codes "uxth" ∷ codes "uxtw" ∷ codes "uxtx"
    ∷ codes "sxtb" ∷ codes "sxth" ∷ codes "sxtw" ∷ codes "sxtx" ∷ []) n

unfoldable pub system_register_name : SystemRegister → List ℕ
system_register_name system.Nzcv = codes "nzcv"
system_register_name system.TpidrEl0 = codes "tpidr_el0"
system_register_name system.Tpidr2El0 = codes "tpidr2_el0"
system_register_name system.Svcr = codes "svcr"

-- ---- registers

unfoldable pub long_wide : Field → Bool
long_wide f = not (is f RN || is f RM)

-- the register that the field numbers has 64 bits
unfoldable pub is_wide : Operation → (Field → ℕ) → Field → Bool
is_wide (G4 op) n f = (n SF == 1) && (not (is f RM) || n OPTION % 4 == 3)
is_wide (G7 op wide) n f = wide
is_wide (G8 wide) n f = wide
is_wide (G9 op) n f = true
is_wide (G10 branch.Tbz) n f = true
is_wide (G10 branch.Tbnz) n f = true
is_wide (G11 op) n f = true
is_wide (G15 one.Rev64) n f = true
is_wide (G17 multiply.Smaddl) n f = long_wide f
is_wide (G17 multiply.Smsubl) n f = long_wide f
is_wide (G17 multiply.Umaddl) n f = long_wide f
is_wide (G17 multiply.Umsubl) n f = long_wide f
is_wide (G17 multiply.Smulh) n f = true
is_wide (G17 multiply.Umulh) n f = true
is_wide (G18 form) n f =
    if is f RN then true else if is f RM then n OPTION % 2 == 1
    else if n OPC == 2 then true else if n OPC == 3 then false else n SIZE == 3
is_wide (G19 literal.Word) n f = false
is_wide (G19 op) n f = true
is_wide (G20 op wide index) n f = is f RN || wide
is_wide (G21 form) n f = is f RN || n SIZE == 3
is_wide (G23 op register) n f = true
is_wide operation n f = n SF == 1

unfoldable pub sets_no_flags : AddSub → Bool
sets_no_flags sum.Add = true
sets_no_flags sum.Sub = true
sets_no_flags op = false

unfoldable pub writes_no_flags : Logical → Bool
writes_no_flags logical.Ands = false
writes_no_flags op = true

-- number 31 is SP, not the zero register
unfoldable pub has_sp : Operation → Field → Bool
has_sp (G1 op) f = is f RN || (is f RD && sets_no_flags op)
has_sp (G4 op) f = is f RN || (is f RD && sets_no_flags op)
has_sp (G5 op) f = is f RD && writes_no_flags op
has_sp (G18 form) f = is f RN
has_sp (G20 op wide index) f = is f RN
has_sp (G21 form) f = is f RN
has_sp operation f = false

-- the registers of the file have 64 bits
unfoldable pub is_long : RegisterFile → Bool
is_long file.X = true
is_long file.W = false

unfoldable pub last_register : Bool → Bool → List ℕ
last_register true true = codes "sp"
last_register true false = codes "xzr"
last_register false true = codes "wsp"
last_register false false = codes "wzr"

-- ---- numbers

unfoldable pub is_distance_field : Field → Bool
is_distance_field f = is f IMM14 || is f IMM19 || is f IMM21 || is f IMM26

unfoldable pub is_offset_field : Field → Bool
is_offset_field f = is f IMM7 || is f IMM9

-- the unit in which the field counts
unfoldable pub unit_of : Operation → (Field → ℕ) → Field → ℕ
unit_of (G6 op) n f = if is f HW then 16 else 1
unit_of (G9 relative.Adr) n f = 1
unit_of (G9 relative.Adrp) n f = 4096
unit_of (G10 op) n f = if is_distance_field f then 4 else 1
unit_of (G18 address.Offset) n f = 2 ^ n SIZE
unit_of (G19 op) n f = 4
unit_of (G20 op wide index) n f = if wide then 8 else 4
unit_of operation n f = 1

-- ---- an operand is written as its field is

-- the field numbers a register; the same bits hold the number that a conditional compare has
unfoldable pub is_register : Operation → Field → Bool
is_register (G14 op true) f = is f RN
is_register operation f = is f RD || is f RN || is f RM || is f RA

-- so many names from a number on
unfoldable pub names_from : (ℕ → List ℕ) → ℕ → ℕ → List (List ℕ)
names_from name first count = map name (range_with_len first count)

-- the words of the field's numbers in turn, where it is written as one: a sum has no rotation, and a sum of X
-- registers extends a W register by one of three forms
unfoldable pub words_in : Operation → (Field → ℕ) → Field → List (List ℕ)
words_in (G2 op) n f = if is f SHIFT then names_from shift_name 0 3 else []
words_in (G3 op inverted) n f = if is f SHIFT then names_from shift_name 0 4 else []
words_in (G4 op) n f =
    if is f OPTION then (if n SF == 1 then names_from extend_name (n OPTION) 3 else names_from extend_name 0
    8) else []
words_in (G13 op) n f = if is f COND then names_from condition_name 0 16 else []
words_in (G14 op immediate) n f = if is f COND then names_from condition_name 0 16 else []
words_in operation n f = []

unfoldable pub same_texts : List (List ℕ) → List (List ℕ) → Bool
same_texts [] [] = true
same_texts (s ∷ ss) (t ∷ ts) = bytes_eq s t && same_texts ss ts
same_texts ss ts = false

-- the keywords from an index of the table on are these, and there is one
unfoldable pub are_words : ℕ → ℕ → List (List ℕ) → Bool
are_words first count [] = false
are_words first count (t ∷ ts) = same_texts (names_from (text_at KEYWORDS) first count) (t ∷ ts)

-- the greatest number of a field of so many bits: a shift of an extended register is by at most 4
unfoldable pub greatest : Operation → Field → ℕ → ℕ
greatest (G4 op) f bits = if is f IMM3 then 4 else 2 ^ bits - 1
greatest operation f bits = 2 ^ bits - 1

-- what the registers meet once the field's operand is read: of a load of a pair they differ, and a base
-- that is written is none of those that are loaded or stored, or SP
unfoldable pub written_base : Field → Rule → Rule
written_base f rule = if is f RN then rule else Free

unfoldable pub second_of : Field → Rule
second_of f = if is f RT2 then SecondApart else Free

unfoldable pub rule_of : Operation → Field → Rule
rule_of (G18 address.PostIndex) f = written_base f BaseApart
rule_of (G18 address.PreIndex) f = written_base f BaseApart
rule_of (G20 pair.Ldp wide index.Offset) f = second_of f
rule_of (G20 pair.Ldp wide it) f = if is f RN then BasePairApart else second_of f
rule_of (G20 pair.Stp wide index.Offset) f = Free
rule_of (G20 pair.Stp wide it) f = written_base f BasePairApart
rule_of operation f = Free

unfoldable pub rule_number : Rule → ℕ
rule_number Free = 0
rule_number SecondApart = 1
rule_number BaseApart = 2
rule_number BasePairApart = 3
rule_number OffsetGiven = 4

-- how a text writes its numbers: as the fields have them; or, of an alias, as the opposite condition, as the
-- amount of a shift to the left, or as the number that is moved
pub data Way : Type 0 where
  Own Opposed ShiftedLeft Moved : Way

unfoldable pub is_own : Way → Bool
is_own Own = true
is_own way = false

unfoldable pub is_opposed : Way → Bool
is_opposed Opposed = true
is_opposed way = false

unfoldable pub is_shifted : Way → Bool
is_shifted ShiftedLeft = true
is_shifted way = false

unfoldable pub is_moved : Way → Bool
is_moved Moved = true
is_moved way = false

unfoldable pub is_logical_mask : Operation → Field → Bool
is_logical_mask (G5 op) f = is f N || is f IMMR
is_logical_mask operation f = false

unfoldable pub is_shift_left : Operation → Field → Bool
is_shift_left (G7 bits.Ubfm wide) f = is f IMMR
is_shift_left operation f = false

unfoldable pub is_halfword : Operation → Bool → Field → Bool
is_halfword (G6 move.Movz) inverted f = not inverted && is f IMM16
is_halfword (G6 move.Movn) inverted f = inverted && is f IMM16
is_halfword operation inverted f = false

unfoldable pub same : Bool → Bool → Bool
same a b = if a then b else not b

-- the field is a number that is written as it is
unfoldable pub is_plain : Operation → (Field → ℕ) → Field → Bool
is_plain o n f =
    not (is_register o f) && (length (words_in o n f) == 0)
    && not (is_distance_field f) && not (is_offset_field f) && not (is_logical_mask o f)

-- the field, of which the operand holds so many bits, is written so
unfoldable pub is_written : Way → Operation → (Field → ℕ) → Field → ℕ → Kind → Bool
is_written way o n f bits (kind.Punctuation c) = false
is_written way o n f bits (kind.Keyword first count) = is_own way && are_words first count (words_in o n f)
is_written way o n f bits (kind.Register file last) =
    is_register o f && same (is_long file) (is_wide o n f)
    && bytes_eq (text_at KEYWORDS last) (last_register (is_wide o n f) (has_sp o f))
is_written way o n f bits (kind.Unsigned base scale most) =
    is_own way && is_plain o n f && (base == 0) && (scale == unit_of o n f) && (most == greatest o f bits)
is_written way o n f bits (kind.Signed scale) = is_own way && (scale == unit_of o n f) && is_offset_field f
is_written way o n f bits (kind.Distance scale) =
    is_own way && (scale == unit_of o n f) && is_distance_field f
is_written way o n f bits (kind.Mask wide) = is_own way && is_logical_mask o f && same wide (n SF == 1)
is_written way o n f bits (kind.SignedMask wide) =
    is_moved way && is_logical_mask o f && same wide (n SF == 1)
is_written way o n f bits (kind.ShiftLeft wide) =
    is_shifted way && is_shift_left o f && same wide (is_wide o n f)
is_written way o n f bits (kind.Opposite first count) =
    is_opposed way && is f COND && are_words first count (names_from condition_name 0 14)
is_written way o n f bits (kind.Halfword wide inverted) =
    is_moved way && is_halfword o inverted f && same wide (n SF == 1)
is_written way o n f bits other = false

unfoldable pub is_operand : Way → Operation → (Field → ℕ) → Field → Item → Bool
is_operand way o n f i =
    is_written way o n f (bits_of i.field) i.kind && (rule_number i.rule == rule_number (rule_of o f))

-- ---- what stands in a text beside its fields: the words and numbers that a set field gives

unfoldable pub number_text : ℕ → List ℕ
number_text n = codes "#" ++ decimal n

-- the extension of an address: a shift to the left where a doubleword is taken as it is, and is written
-- where it is by more than nothing
unfoldable pub address_words : ℕ → ℕ → ℕ → List (List ℕ)
address_words option scaled size =
    (if option == 3 then (if scaled == 1 then codes "lsl" ∷ [] else []) else extend_name option ∷ [])
    ++ (if scaled == 1 then number_text size ∷ [] else [])

-- the words, by the numbers of the fields that are set; `set` tells which are
unfoldable pub words_of : Operation → (Field → ℕ) → (Field → Bool) → List (List ℕ)
words_of (G1 op) n set = if n SH == 1 then codes "lsl" ∷ number_text 12 ∷ [] else []
words_of (G4 op) n set = if set OPTION then extend_name (n OPTION) ∷ [] else []
words_of (G6 op) n set = if set HW then [] else codes "lsl" ∷ []
words_of (G18 address.Register) n set = address_words (n OPTION) (n SCALED) (n SIZE)
words_of (G23 op register) n set = system_register_name register ∷ []
words_of operation n set = []

-- ---- where the operands, the words beside them and the punctuation stand: o is an operand with a field, w
-- one without

unfoldable pub says_field : Item → Bool
says_field i = not (bits_of i.field == 0)

unfoldable pub letter : Kind → Bool → ℕ
letter (kind.Punctuation c) says = c
letter other says = if says then 111 else 119

unfoldable pub frame : List Item → List ℕ
frame is = map (λ i. letter i.kind (says_field i)) is

unfoldable pub frames_of : Operation → List (List ℕ)
frames_of (G1 op) = codes "o,o,o" ∷ codes "o,o,o,ww" ∷ []
frames_of (G2 op) = codes "o,o,o" ∷ codes "o,o,o,oo" ∷ []
frames_of (G3 op inverted) = codes "o,o,o" ∷ codes "o,o,o,oo" ∷ []
frames_of (G4 op) = codes "o,o,o,o" ∷ codes "o,o,o,oo" ∷ codes "o,o,o,w" ∷ codes "o,o,o,wo" ∷ []
frames_of (G5 op) = codes "o,o,o" ∷ []
frames_of (G6 op) = codes "o,o" ∷ codes "o,o,wo" ∷ []
frames_of (G7 op wide) = codes "o,o,o,o" ∷ []
frames_of (G8 wide) = codes "o,o,o,o" ∷ []
frames_of (G9 op) = codes "o,o" ∷ []
frames_of (G10 branch.B) = codes "o" ∷ []
frames_of (G10 branch.Bl) = codes "o" ∷ []
frames_of (G10 branch.BCond) = codes "o" ∷ []
frames_of (G10 branch.Cbz) = codes "o,o" ∷ []
frames_of (G10 branch.Cbnz) = codes "o,o" ∷ []
frames_of (G10 branch.Tbz) = codes "o,o,o" ∷ []
frames_of (G10 branch.Tbnz) = codes "o,o,o" ∷ []
frames_of (G11 op) = codes "o" ∷ []
frames_of (G12 op) = codes "o,o,o" ∷ []
frames_of (G13 op) = codes "o,o,o,o" ∷ []
frames_of (G14 op immediate) = codes "o,o,o,o" ∷ []
frames_of (G15 op) = codes "o,o" ∷ []
frames_of (G16 op) = codes "o,o,o" ∷ []
frames_of (G17 multiply.Smulh) = codes "o,o,o" ∷ []
frames_of (G17 multiply.Umulh) = codes "o,o,o" ∷ []
frames_of (G17 op) = codes "o,o,o,o" ∷ []
frames_of (G18 address.Offset) = codes "o,[o]" ∷ codes "o,[o,o]" ∷ []
frames_of (G18 address.Unscaled) = codes "o,[o]" ∷ codes "o,[o,o]" ∷ []
frames_of (G18 address.PostIndex) = codes "o,[o],o" ∷ []
frames_of (G18 address.PreIndex) = codes "o,[o,o]!" ∷ []
frames_of (G18 address.Register) = codes "o,[o,o]" ∷ codes "o,[o,o,w]" ∷ codes "o,[o,o,ww]" ∷ []
frames_of (G19 op) = codes "o,o" ∷ []
frames_of (G20 op wide index.Offset) = codes "o,o,[o]" ∷ codes "o,o,[o,o]" ∷ []
frames_of (G20 op wide index.PostIndex) = codes "o,o,[o],o" ∷ []
frames_of (G20 op wide index.PreIndex) = codes "o,o,[o,o]!" ∷ []
frames_of (G21 atomic.Ldar) = codes "o,[o]" ∷ []
frames_of (G21 atomic.Stlr) = codes "o,[o]" ∷ []
frames_of (G21 form) = codes "o,o,[o]" ∷ []
frames_of (G22 op) = codes "o" ∷ []
frames_of (G23 move_system.Mrs register) = codes "o,w" ∷ []
frames_of (G23 move_system.Msr register) = codes "w,o" ∷ []
