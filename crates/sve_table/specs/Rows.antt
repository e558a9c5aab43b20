-- A row of the table, and the words that meet its condition.
-- Source: DDI 0487, C4, the encoding diagrams, whose bits that are no fields are fixed.
use Rattle.std.specs.Prelude.{ℕ, Bool}
use Rattle.sm_types.specs.declared.row.Row.{Row}
use Rattle.sm_types.specs.declared.row.Group.{Group}
use Rattle.sm_types.specs.declared.row.Group.TheVariants as group
use Rattle.insn_forms.specs.declared.line.Line.{Line}
use Rattle.insn_forms.specs.Tables.{fits_with}
use Rattle.sve_table.specs.declared.operation as operations
use operations.VectorOperation.{VectorOperation}
use operations.VectorOperation.TheVariants.{G24, G25, G26, G27, G28, G29, G30, G31, G32, G33, G34, G35, G36}
use operations.VectorOperation.TheVariants.{G37, G38, G39, G40, G41, G42, G43, G44, G45}
use Rattle.sve_table.specs.Table.{vector}

-- the group of an operation
unfoldable pub vector_group_of : VectorOperation → Group
vector_group_of (G24 op) = group.G24
vector_group_of (G25 op) = group.G25
vector_group_of (G26 op) = group.G26
vector_group_of (G27 op) = group.G27
vector_group_of (G28 op) = group.G28
vector_group_of (G29 op size) = group.G29
vector_group_of (G30 form) = group.G30
vector_group_of (G31 form) = group.G31
vector_group_of (G32 form) = group.G32
vector_group_of (G33 form) = group.G33
vector_group_of (G34 form) = group.G34
vector_group_of (G35 form) = group.G35
vector_group_of (G36 form) = group.G36
vector_group_of (G37 form) = group.G37
vector_group_of (G38 form) = group.G38
vector_group_of (G39 start part) = group.G39
vector_group_of (G40 form) = group.G40
vector_group_of (G41 store size) = group.G41
vector_group_of (G42 to_tile size) = group.G42
vector_group_of (G43 vertical wide) = group.G43
vector_group_of (G44 op wide) = group.G44
vector_group_of (G45 form) = group.G45

-- the row of a line
unfoldable pub vector_row_of : Line VectorOperation → Row
vector_row_of line = record { mask = line.mask; value = line.value; group = vector_group_of line.operation }

-- the word meets the condition of the line with the row's fixed bits; none does where no line has them
abbrev pub vector_row_fits : Row → ℕ → Bool
vector_row_fits row word = fits_with vector row.mask row.value word
