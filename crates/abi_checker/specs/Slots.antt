-- The slots to which addresses fall, and the first test of the words of instructions.
use Rattle.std.specs.Prelude.{◌≡◌, ℕ, ◌/◌, ◌%◌, Bool, if◌then◌else◌}

-- the slot to which an address falls
abbrev pub slot_of : ℕ → ℕ
slot_of pc = pc / 4 % 64

-- these bits of a mask are tested in words: none where there is an address, else those that BL and BLR share, 31
-- and 29 to 26, for what they are in both
abbrev pub IsTest : ℕ → ℕ → Bool → Type 0
IsTest mask bits some = (mask ≡ (if some then 0 else 0xBC000000)) × (bits ≡ (if some then 0 else 0x94000000))
