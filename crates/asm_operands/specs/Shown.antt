-- The tokens in which the operands of a word are printed.
-- Source: DDI 0487, C1.2, C6.2 and C8.2.
use Rattle.std.specs.Prelude.{ℕ, ◌+◌, ◌-◌, ◌*◌, ◌/◌, ◌%◌, ◌^◌, ◌==◌, if◌then◌else◌, false, not, List, map}
use Rattle.std.specs.Prelude.{Option, Some, None}
use Rattle.insn_text.specs.declared.item.Kind.{Kind}
use Rattle.insn_text.specs.declared.item.Kind.TheVariants as kind
use Rattle.insn_text.specs.declared.item.Item.{Item}
use Rattle.insn_text.specs.declared.item.Shape.{Shape}
use Rattle.insn_text.specs.Texts.{bits_of, field_in, items_of, is_positive, size_of, mask_in}
use Rattle.insn_text.specs.Texts.{is_named_pattern, pattern_index}
use Rattle.insn_text.specs.declared.item.RegisterFile.TheVariants.{W}
use Rattle.asm_tokens.specs.declared.token.Token.{Token}
use Rattle.asm_tokens.specs.declared.token.Token.TheVariants.{Register, Keyword, Number, Distance}
use Rattle.asm_tokens.specs.declared.token.Token.TheVariants.{Punctuation, Other}
use Rattle.asm_tokens.specs.declared.token.Token.TheVariants.{Sized, Bare}

-- the token of a mask, if the fields have one
abbrev pub mask_token : Option ℕ → Token
mask_token None = Other
mask_token (Some mask) = Number false mask

-- the token that a field of so many bits is printed as; the kinds of aliases are never printed
unfoldable pub token_said : Kind → ℕ → ℕ → Token
token_said (kind.Punctuation c) bits field = Punctuation c
token_said (kind.Keyword first count) bits field = Keyword (first + field)
token_said (kind.Register file last) bits field = if field == 31 then Keyword last else Register file field
token_said (kind.Sized file few first) bits field =
    Sized file (field % 2 ^ few) (first + field / 2 ^ few)
token_said kind.SliceRegister bits field = Register W (12 + field)
token_said kind.Index bits field = Bare field
token_said (kind.Pattern first) bits field =
    if is_named_pattern field then Keyword (first + pattern_index field) else Number false field
token_said (kind.Descending from) bits field = Number false (from - field)
token_said (kind.Unsigned base scale most) bits field = Number false (field * scale + base)
token_said (kind.Signed scale) bits field = Number (not (is_positive bits field)) (size_of bits field * scale)
token_said (kind.Distance scale) bits field =
    Distance (not (is_positive bits field)) (size_of bits field * scale)
token_said (kind.Mask wide) bits field = mask_token (mask_in wide field)
token_said (kind.SignedMask wide) bits field = Other
token_said (kind.ShiftLeft wide) bits field = Other
token_said (kind.Opposite first count) bits field = Other
token_said (kind.Halfword wide inverted) bits field = Other

-- the token of an operand of a word
unfoldable pub item_token : ℕ → Item → Token
item_token word i = token_said i.kind (bits_of i) (field_in i word)

-- the tokens of the operands of a word of the shape
unfoldable pub tokens_shown : Shape → ℕ → List Token
tokens_shown s word = map (item_token word) (items_of s)
