-- A row of the table, and the words that meet its condition.
-- Source: DDI 0487, C4, the encoding diagrams, whose bits that are no fields are fixed.
use Rattle.std.specs.Prelude.{ℕ, Bool}
use Rattle.sm_types.specs.declared.row.Row.{Row}
use Rattle.sm_types.specs.declared.row.Group.{Group}
use Rattle.sm_types.specs.declared.row.Group.TheVariants as group
use Rattle.insn_forms.specs.declared.line.Line.{Line}
use Rattle.insn_forms.specs.Tables.{fits_with}
use Rattle.a64_table.specs.declared.operation as operations
use operations.Operation.TheVariants.{G1, G2, G3, G4, G5, G6, G7, G8, G9, G10, G11, G12, G13, G14, G15, G16}
use operations.Operation.TheVariants.{G17, G18, G19, G20, G21, G22, G23}
use operations.{Operation.Operation}
use Rattle.a64_table.specs.Table.{scalar}

-- the group of an operation
unfoldable pub group_of : Operation → Group
group_of (G1 op) = group.G1
group_of (G2 op) = group.G2
group_of (G3 op inverted) = group.G3
group_of (G4 op) = group.G4
group_of (G5 op) = group.G5
group_of (G6 op) = group.G6
group_of (G7 op wide) = group.G7
group_of (G8 wide) = group.G8
group_of (G9 op) = group.G9
group_of (G10 op) = group.G10
group_of (G11 op) = group.G11
group_of (G12 op) = group.G12
group_of (G13 op) = group.G13
group_of (G14 op immediate) = group.G14
group_of (G15 op) = group.G15
group_of (G16 op) = group.G16
group_of (G17 op) = group.G17
group_of (G18 form) = group.G18
group_of (G19 op) = group.G19
group_of (G20 op wide index) = group.G20
group_of (G21 form) = group.G21
group_of (G22 op) = group.G22
group_of (G23 op register) = group.G23

-- the row of a line
unfoldable pub row_of : Line Operation → Row
row_of line = record { mask = line.mask; value = line.value; group = group_of line.operation }

-- the word meets the condition of the line with the row's fixed bits; none does where no line has them
abbrev pub row_fits : Row → ℕ → Bool
row_fits row word = fits_with scalar row.mask row.value word
