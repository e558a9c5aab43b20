-- The distance from an instruction to its target, and the word that has it.
-- Source: DDI 0487, C6.2: ADR, ADRP, B, BL, B.cond, CBZ, CBNZ, TBZ, TBNZ, LDR (literal), LDRSW (literal).
use Rattle.std.specs.Prelude.{ℕ, ◌-◌, ◌*◌, ◌/◌, ◌==◌, true, false, nat_le, Option, ℤ, pos, ◌-ℤ◌}
use Rattle.std.specs.Prelude.{if◌then◌else◌}
use Rattle.insn_text.specs.declared.item.Item.{Item}
use Rattle.asm_operands.specs.Distances.{unit_of, with_distance}

-- the start of the page of 4096 bytes that has the address, where the operand counts pages; else the address
unfoldable pub counted_from : Item → ℕ → ℕ
counted_from i address = if unit_of i.kind == 4096 then address / 4096 * 4096 else address

-- the distance in bytes from an instruction to its target
unfoldable pub distance : Item → ℕ → ℕ → ℤ
distance i from target = pos (counted_from i target) -ℤ pos (counted_from i from)

-- the word of an instruction at an address with the distance to a target in the operand, where it holds that
unfoldable pub word_to : Item → ℕ → ℕ → ℕ → Option ℕ
word_to i word from target =
    if nat_le (counted_from i from) (counted_from i target)
    then with_distance i word false (counted_from i target - counted_from i from)
    else with_distance i word true (counted_from i from - counted_from i target)
