-- The word of an instruction with a distance in the field of its last operand.
-- Source: DDI 0487, C6.2: ADR, ADRP, B, BL, B.cond, CBZ, CBNZ, TBZ, TBNZ, LDR (literal), LDRSW (literal).
use Rattle.std.specs.Prelude.{ℕ, Bool, Option, option_map, bit_or}
use Rattle.insn_text.specs.declared.item.Kind.{Kind}
use Rattle.insn_text.specs.declared.item.Kind.TheVariants as kind
use Rattle.insn_text.specs.declared.item.Item.{Item}
use Rattle.insn_text.specs.Texts.{bits_of}
use Rattle.asm_tokens.specs.declared.token.Token.TheVariants.{Distance}
use Rattle.asm_operands.specs.Fields.{field_said}
use Rattle.asm_operands.specs.Operands.{placed}

-- in units of how many bytes the distance is counted
unfoldable pub unit_of : Kind → ℕ
unit_of (kind.Distance scale) = scale
unit_of other = 1

-- a word whose operand has the distance 0, with the field there that `.+n` or `.-n` says, if the operand
-- holds it
unfoldable pub with_distance : Item → ℕ → Bool → ℕ → Option ℕ
with_distance i word back size =
    option_map (λ field. bit_or word (placed i field)) (field_said i.kind (bits_of i) (Distance back size))
