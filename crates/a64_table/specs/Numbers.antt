-- The numbers of the operations: the code's own, by which an encoder finds an operation's row.
use Rattle.std.specs.Prelude.{ℕ, ◌+◌, ◌*◌}
use denote.Enum.Declared.{tag_of}
use Rattle.bit_ops.specs.Sums.{bool_number}
use Rattle.sm_types.specs.contracts.insn as enums
use Rattle.a64_table.specs.contracts.operation as operations
use Rattle.a64_table.specs.declared.operation.Operation.{Operation}
use Rattle.a64_table.specs.declared.operation as variants
use variants.Operation.TheVariants.{G1, G2, G3, G4, G5, G6, G7, G8, G9, G10, G11, G12, G13, G14, G15, G16}
use variants.Operation.TheVariants.{G17, G18, G19, G20, G21, G22, G23}
use Rattle.a64_table.specs.declared.operation.AtomicForm.{AtomicForm}
use Rattle.a64_table.specs.declared.operation.AtomicForm.TheVariants.{Ldar, Stlr, Cas, Swap, Update}

-- the number of an ordered or atomic access within its group
unfoldable pub form_number : AtomicForm → ℕ
form_number Ldar = 0
form_number Stlr = 1
form_number Cas = 2
form_number Swap = 3
form_number (Update op) = 10 + tag_of enums.AtomicOp.the_type op

-- the number of an operation: no two operations have one number
unfoldable pub number_of : Operation → ℕ
number_of (G1 op) = 100 + tag_of enums.AddSub.the_type op
number_of (G2 op) = 200 + tag_of enums.AddSub.the_type op
number_of (G3 op inverted) = 300 + 50 * bool_number inverted + tag_of enums.Logical.the_type op
number_of (G4 op) = 400 + tag_of enums.AddSub.the_type op
number_of (G5 op) = 500 + tag_of enums.Logical.the_type op
number_of (G6 op) = 600 + tag_of enums.MoveOp.the_type op
number_of (G7 op wide) = 700 + 50 * bool_number wide + tag_of enums.BitfieldOp.the_type op
number_of (G8 wide) = 800 + 50 * bool_number wide
number_of (G9 op) = 900 + tag_of enums.PcRelativeOp.the_type op
number_of (G10 op) = 1000 + tag_of operations.BranchOp.the_type op
number_of (G11 op) = 1100 + tag_of enums.BranchRegisterOp.the_type op
number_of (G12 op) = 1200 + tag_of enums.AddSub.the_type op
number_of (G13 op) = 1300 + tag_of enums.SelectOp.the_type op
number_of (G14 op immediate) = 1400 + 50 * bool_number immediate + tag_of enums.CompareOp.the_type op
number_of (G15 op) = 1500 + tag_of enums.OneSourceOp.the_type op
number_of (G16 op) = 1600 + tag_of enums.TwoSourceOp.the_type op
number_of (G17 op) = 1700 + tag_of operations.MultiplyOp.the_type op
number_of (G18 op) = 1800 + tag_of operations.AddressForm.the_type op
number_of (G19 op) = 1900 + tag_of enums.LoadLiteralOp.the_type op
number_of (G20 op wide index) =
    2000 + 50 * bool_number wide + 10 * tag_of enums.PairOp.the_type op
    + tag_of enums.PairIndex.the_type index
number_of (G21 op) = 2100 + form_number op
number_of (G22 op) = 2200 + tag_of operations.SystemOp.the_type op
number_of (G23 op register) =
    2300 + 10 * tag_of enums.SystemMoveOp.the_type op + tag_of enums.SystemRegister.the_type register
