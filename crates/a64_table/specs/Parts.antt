-- The operation of an instruction and the numbers of its row's fields, in the order of the row: the code's
-- own, by which an encoder finds the word.
use Rattle.std.specs.Prelude.{ℕ, Bool, true, false, List, [], ◌∷◌, Option, Some, None}
use Rattle.insn_forms.specs.declared.number.Number.{Number}
use Rattle.insn_forms.specs.declared.number.Number.TheVariants.{Unsigned, Signed}
use Rattle.insn_forms.specs.declared.number.Parts.{Parts}
use Rattle.insn_forms.specs.Forms.{flag_number, padded, unsigned}
use Rattle.sm_types.specs.declared.insn as types
use types.{Insn.Insn, AccessSize.AccessSize, ShiftedRegister.ShiftedRegister}
use types.{ExtendedRegister.ExtendedRegister, Branch.Branch, CompareOperand.CompareOperand}
use types.{ConditionalCompare.ConditionalCompare, OneSource.OneSource, OneSourceOp.OneSourceOp}
use types.{OneSourceOp.TheVariants.Rev64, Multiply.Multiply, Address.Address, LoadStore.LoadStore}
use types.{Atomic.Atomic, System.System}
use types.Insn.TheVariants as insn
use types.Branch.TheVariants as branch
use types.CompareOperand.TheVariants as operand
use types.Multiply.TheVariants as multiply
use types.Address.TheVariants as address
use types.Atomic.TheVariants as atomic
use types.System.TheVariants as system
use Rattle.a64_table.specs.declared.operation as operations
use operations.Operation.TheVariants.{G1, G2, G3, G4, G5, G6, G7, G8, G9, G10, G11, G12, G13, G14, G15, G16}
use operations.Operation.TheVariants.{G17, G18, G19, G20, G21, G22, G23}
use operations.BranchOp.TheVariants.{B, Bl, BCond, Cbz, Cbnz, Tbz, Tbnz}
use operations.MultiplyOp.TheVariants.{Madd, Msub, Smaddl, Smsubl, Umaddl, Umsubl, Smulh, Umulh}
use operations.AtomicForm.TheVariants.{Ldar, Stlr, Cas, Swap, Update}
use operations.SystemOp.TheVariants.{Svc, Brk, Udf, Hint, Dmb, Dsb, Isb}
use operations.{Operation.Operation, AddressForm.AddressForm, AtomicForm.AtomicForm}
use operations.AddressForm.TheVariants as form
use Rattle.a64_table.specs.Values.{condition_number, shift_number, extend_number, access_size_number}
use Rattle.a64_table.specs.Values.{load_store_op_number}

abbrev pub says : Operation → List Number → Option (Parts Operation)
says op ns = Some (record { operation = op; numbers = padded 8 ns })

unfoldable pub branch_parts : Branch → Option (Parts Operation)
branch_parts (branch.Unconditional false words) = says (G10 B) (Signed words ∷ [])
branch_parts (branch.Unconditional true words) = says (G10 Bl) (Signed words ∷ [])
branch_parts (branch.Conditional c words) =
    says (G10 BCond) (Unsigned (condition_number c) ∷ Signed words ∷ [])
branch_parts (branch.Compare false wide words rt) =
    says (G10 Cbz) (flag_number wide ∷ Unsigned rt ∷ Signed words ∷ [])
branch_parts (branch.Compare true wide words rt) =
    says (G10 Cbnz) (flag_number wide ∷ Unsigned rt ∷ Signed words ∷ [])
branch_parts (branch.TestBit false bit words rt) =
    says (G10 Tbz) (Unsigned rt ∷ Unsigned bit ∷ Signed words ∷ [])
branch_parts (branch.TestBit true bit words rt) =
    says (G10 Tbnz) (Unsigned rt ∷ Unsigned bit ∷ Signed words ∷ [])

unfoldable pub compare_says : ConditionalCompare → Operation → ℕ → Option (Parts Operation)
compare_says x op second =
    says op (flag_number x.wide ∷ unsigned (x.rn ∷ second ∷ x.nzcv ∷ condition_number x.condition ∷ []))

unfoldable pub compare_parts : ConditionalCompare → CompareOperand → Option (Parts Operation)
compare_parts x (operand.Register rm) = compare_says x (G14 x.op false) rm
compare_parts x (operand.Immediate imm) = compare_says x (G14 x.op true) imm

-- a doubleword is reversed at 64 bits alone
unfoldable pub doubleword_parts : OneSource → Bool → Option (Parts Operation)
doubleword_parts x true = says (G15 Rev64) (unsigned (x.rd ∷ x.rn ∷ []))
doubleword_parts x false = None

unfoldable pub one_source_parts : OneSource → OneSourceOp → Option (Parts Operation)
one_source_parts x Rev64 = doubleword_parts x x.wide
one_source_parts x op = says (G15 op) (flag_number x.wide ∷ unsigned (x.rd ∷ x.rn ∷ []))

unfoldable pub multiply_parts : Multiply → Option (Parts Operation)
multiply_parts (multiply.Same false wide rm ra rn rd) =
    says (G17 Madd) (flag_number wide ∷ unsigned (rd ∷ rn ∷ rm ∷ ra ∷ []))
multiply_parts (multiply.Same true wide rm ra rn rd) =
    says (G17 Msub) (flag_number wide ∷ unsigned (rd ∷ rn ∷ rm ∷ ra ∷ []))
multiply_parts (multiply.Long false true rm ra rn rd) = says (G17 Smaddl) (unsigned (rd ∷ rn ∷ rm ∷ ra ∷ []))
multiply_parts (multiply.Long true true rm ra rn rd) = says (G17 Smsubl) (unsigned (rd ∷ rn ∷ rm ∷ ra ∷ []))
multiply_parts (multiply.Long false false rm ra rn rd) = says (G17 Umaddl) (unsigned (rd ∷ rn ∷ rm ∷ ra ∷ []))
multiply_parts (multiply.Long true false rm ra rn rd) = says (G17 Umsubl) (unsigned (rd ∷ rn ∷ rm ∷ ra ∷ []))
multiply_parts (multiply.High true rm rn rd) = says (G17 Smulh) (unsigned (rd ∷ rn ∷ rm ∷ []))
multiply_parts (multiply.High false rm rn rd) = says (G17 Umulh) (unsigned (rd ∷ rn ∷ rm ∷ []))

-- the numbers of a load or store, before those of its address
unfoldable pub load_store_says : LoadStore → AddressForm → List Number → Option (Parts Operation)
load_store_says x a ns =
    says (G18 a) (
    Unsigned (access_size_number x.size) ∷ Unsigned (load_store_op_number x.op)
    ∷ Unsigned x.rt ∷ Unsigned x.rn ∷ ns
    )

unfoldable pub load_store_parts : LoadStore → Address → Option (Parts Operation)
load_store_parts x (address.Offset imm) = load_store_says x form.Offset (Unsigned imm ∷ [])
load_store_parts x (address.Unscaled offset) = load_store_says x form.Unscaled (Signed offset ∷ [])
load_store_parts x (address.PostIndex offset) = load_store_says x form.PostIndex (Signed offset ∷ [])
load_store_parts x (address.PreIndex offset) = load_store_says x form.PreIndex (Signed offset ∷ [])
load_store_parts x (address.Register rm extend scaled) =
    load_store_says x form.Register (Unsigned rm ∷ Unsigned (extend_number extend) ∷ flag_number scaled ∷ [])

-- the numbers of an access that reads and writes
abbrev pub update_says : AtomicForm → AccessSize → Bool → Bool → List ℕ → Option (Parts Operation)
update_says form size acquire release registers =
    says (G21 form)
    (Unsigned (access_size_number size) ∷ flag_number acquire ∷ flag_number release ∷ unsigned registers)

unfoldable pub atomic_parts : Atomic → Option (Parts Operation)
atomic_parts (atomic.Ldar size rn rt) = says (G21 Ldar) (unsigned (access_size_number size ∷ rt ∷ rn ∷ []))
atomic_parts (atomic.Stlr size rn rt) = says (G21 Stlr) (unsigned (access_size_number size ∷ rt ∷ rn ∷ []))
atomic_parts (atomic.Cas size acquire release rs rn rt) =
    update_says Cas size acquire release (rs ∷ rt ∷ rn ∷ [])
atomic_parts (atomic.Swap size acquire release rs rn rt) =
    update_says Swap size acquire release (rs ∷ rt ∷ rn ∷ [])
atomic_parts (atomic.Update op size acquire release rs rn rt) =
    update_says (Update op) size acquire release (rs ∷ rt ∷ rn ∷ [])

unfoldable pub system_parts : System → Option (Parts Operation)
system_parts (system.Svc imm) = says (G22 Svc) (Unsigned imm ∷ [])
system_parts (system.Brk imm) = says (G22 Brk) (Unsigned imm ∷ [])
system_parts (system.Udf imm) = says (G22 Udf) (Unsigned imm ∷ [])
system_parts (system.Hint number) = says (G22 Hint) (Unsigned number ∷ [])
system_parts (system.Dmb option) = says (G22 Dmb) (Unsigned option ∷ [])
system_parts (system.Dsb option) = says (G22 Dsb) (Unsigned option ∷ [])
system_parts (system.Isb option) = says (G22 Isb) (Unsigned option ∷ [])

-- the numbers of a second operand
abbrev pub shifted_numbers : ShiftedRegister → List ℕ
shifted_numbers x = x.rm ∷ shift_number x.shift ∷ x.amount ∷ []

abbrev pub extended_numbers : ExtendedRegister → List ℕ
extended_numbers x = x.rm ∷ extend_number x.extend ∷ x.amount ∷ []

-- none of a vector instruction
unfoldable pub parts_of : Insn → Option (Parts Operation)
parts_of (insn.AddSubImmediate x) =
    says (G1 x.op)
    (flag_number x.wide ∷ Unsigned x.rd ∷ Unsigned x.rn ∷ Unsigned x.imm ∷ flag_number x.shifted ∷ [])
parts_of (insn.AddSubRegister x) =
    says (G2 x.op) (flag_number x.wide ∷ unsigned (x.rd ∷ x.rn ∷ shifted_numbers x.operand))
parts_of (insn.LogicalRegister x) =
    says (G3 x.op x.inverted) (flag_number x.wide ∷ unsigned (x.rd ∷ x.rn ∷ shifted_numbers x.operand))
parts_of (insn.AddSubExtended x) =
    says (G4 x.op) (flag_number x.wide ∷ unsigned (x.rd ∷ x.rn ∷ extended_numbers x.operand))
parts_of (insn.LogicalImmediate x) =
    says (G5 x.op)
    (flag_number x.wide ∷ Unsigned x.rd ∷ Unsigned x.rn ∷ flag_number x.n ∷ unsigned (x.immr ∷ x.imms ∷ []))
parts_of (insn.MoveWide x) = says (G6 x.op) (flag_number x.wide ∷ unsigned (x.rd ∷ x.imm ∷ x.hw ∷ []))
parts_of (insn.BitfieldMove x) = says (G7 x.op x.wide) (unsigned (x.rd ∷ x.rn ∷ x.immr ∷ x.imms ∷ []))
parts_of (insn.Extract x) = says (G8 x.wide) (unsigned (x.rd ∷ x.rn ∷ x.rm ∷ x.lsb ∷ []))
parts_of (insn.PcRelative x) = says (G9 x.op) (Unsigned x.rd ∷ Signed x.imm ∷ [])
parts_of (insn.Branch x) = branch_parts x
parts_of (insn.BranchRegister x) = says (G11 x.op) (Unsigned x.rn ∷ [])
parts_of (insn.AddSubCarry x) = says (G12 x.op) (flag_number x.wide ∷ unsigned (x.rd ∷ x.rn ∷ x.rm ∷ []))
parts_of (insn.ConditionalSelect x) =
    says (G13 x.op) (flag_number x.wide ∷ unsigned (x.rd ∷ x.rn ∷ x.rm ∷ condition_number x.condition ∷ []))
parts_of (insn.ConditionalCompare x) = compare_parts x x.operand
parts_of (insn.OneSource x) = one_source_parts x x.op
parts_of (insn.TwoSource x) = says (G16 x.op) (flag_number x.wide ∷ unsigned (x.rd ∷ x.rn ∷ x.rm ∷ []))
parts_of (insn.Multiply x) = multiply_parts x
parts_of (insn.LoadStore x) = load_store_parts x x.address
parts_of (insn.LoadLiteral x) = says (G19 x.op) (Unsigned x.rt ∷ Signed x.words ∷ [])
parts_of (insn.LoadStorePair x) =
    says (G20 x.op x.wide x.index) (Unsigned x.rt ∷ Unsigned x.rt2 ∷ Unsigned x.rn ∷ Signed x.offset ∷ [])
parts_of (insn.Atomic x) = atomic_parts x
parts_of (insn.System x) = system_parts x
parts_of (insn.SystemMove x) = says (G23 x.op x.register) (Unsigned x.rt ∷ [])
parts_of other = None
