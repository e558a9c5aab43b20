-- The words of the support routines of the lazy saving scheme of ZA, and of the tail of a call.
-- Source: AAPCS64, the ZA lazy saving scheme (__arm_tpidr2_save, __arm_za_disable, __arm_tpidr2_restore); the
-- words are this project's own.
use Rattle.std.specs.Prelude.{ℕ, ◌+◌, ◌^◌, ℤ, pos, ◌-ℤ◌, ◌≤ℤ◌, ◌<ℤ◌, List, [], ◌∷◌}

-- __arm_tpidr2_save:
--    0 MRS X14, TPIDR2_EL0           9 CBZ W14, 16
--    1 CBZ X14, 16                  10 MOVZ W15, #0
--    2 LDRH W15, [X14, #10]         11 STR ZA[W15, 0], [X16]
--    3 LDR W16, [X14, #12]          12 ADDSVL X16, X16, #1
--    4 ORR W15, W15, W16            13 ADD W15, W15, #1
--    5 CBNZ W15, 17                 14 SUB W17, W15, W14
--    6 LDR X16, [X14]               15 CBNZ W17, 11
--    7 CBZ X16, 16                  16 RET
--    8 LDRH W14, [X14, #8]          17 BRK #1
abbrev pub save_words : List ℕ
save_words =
    0xD53BD0AE ∷ 0xB40001EE ∷ 0x794015CF ∷ 0xB9400DD0 ∷ 0x2A1001EF ∷ 0x3500018F ∷ 0xF94001D0 ∷ 0xB4000130
    ∷ 0x794011CE ∷ 0x340000EE ∷ 0x5280000F ∷ 0xE1206200 ∷ 0x04305830 ∷ 0x110005EF ∷ 0x4B0E01F1 ∷ 0x35FFFF91
    ∷ 0xD65F03C0 ∷ 0xD4200020 ∷ []

-- __arm_za_disable: the same up to word 15, but that CBNZ W15 goes to 19; then
--   16 MSR TPIDR2_EL0, XZR          18 RET
--   17 SMSTOP ZA                    19 BRK #1
abbrev pub disable_words : List ℕ
disable_words =
    0xD53BD0AE ∷ 0xB40001EE ∷ 0x794015CF ∷ 0xB9400DD0 ∷ 0x2A1001EF ∷ 0x350001CF ∷ 0xF94001D0 ∷ 0xB4000130
    ∷ 0x794011CE ∷ 0x340000EE ∷ 0x5280000F ∷ 0xE1206200 ∷ 0x04305830 ∷ 0x110005EF ∷ 0x4B0E01F1 ∷ 0x35FFFF91
    ∷ 0xD51BD0BF ∷ 0xD503447F ∷ 0xD65F03C0 ∷ 0xD4200020 ∷ []

-- __arm_tpidr2_restore, whose block is in X0: as __arm_tpidr2_save, but for
--    1 CBNZ X14, 17                  6 LDR X16, [X0]
--    2 LDRH W15, [X0, #10]           8 LDRH W14, [X0, #8]
--    3 LDR W16, [X0, #12]           11 LDR ZA[W15, 0], [X16]
abbrev pub restore_words : List ℕ
restore_words =
    0xD53BD0AE ∷ 0xB500020E ∷ 0x7940140F ∷ 0xB9400C10 ∷ 0x2A1001EF ∷ 0x3500018F ∷ 0xF9400010 ∷ 0xB4000130
    ∷ 0x7940100E ∷ 0x340000EE ∷ 0x5280000F ∷ 0xE1006200 ∷ 0x04305830 ∷ 0x110005EF ∷ 0x4B0E01F1 ∷ 0x35FFFF91
    ∷ 0xD65F03C0 ∷ 0xD4200020 ∷ []

-- the tail of a call, whose block is in X19, with the word of its BL:
--    0 SMSTART ZA                    3 MOV X0, X19 (ORR X0, XZR, X19)
--    1 MRS X14, TPIDR2_EL0           4 BL __arm_tpidr2_restore
--    2 CBNZ X14, 5                   5 MSR TPIDR2_EL0, XZR
abbrev pub tail_words : ℕ → List ℕ
tail_words call = 0xD503457F ∷ 0xD53BD0AE ∷ 0xB500006E ∷ 0xAA1303E0 ∷ call ∷ 0xD51BD0BF ∷ []

-- a distance in bytes that a BL reaches, of 26 bits in words (DDI 0487, BL)
pub record IsReached (distance : ℤ) : Type 0 where
  pub low : (pos 0 -ℤ pos (2 ^ 27)) ≤ℤ distance
  pub high : distance <ℤ pos (2 ^ 27)

-- BL to the instruction so many words away, in two's complement of 26 bits (DDI 0487, BL)
abbrev pub call_word : ℕ → ℕ
call_word offset = 0x94000000 + offset
