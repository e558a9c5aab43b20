-- The mnemonics of the operations of the rows.
-- Source: DDI 0487, C6.2, the name of each page; a load, a store and an atomic instruction have letters for
-- the unscaled form, the sign, the order and the size behind theirs, and a conditional branch its
-- condition.
use Rattle.std.specs.Prelude.{ℕ, ◌==◌, nat_le, Bool, true, false, List, [], ◌∷◌, ◌++◌, Option, Some, None}
use Rattle.std.specs.Prelude.{slice_get, codes, if◌then◌else◌}
use Rattle.sm_types.specs.declared.insn.AddSub.{AddSub}
use Rattle.sm_types.specs.declared.insn.AddSub.TheVariants as sum
use Rattle.sm_types.specs.declared.insn.Logical.{Logical}
use Rattle.sm_types.specs.declared.insn.Logical.TheVariants as logical
use Rattle.sm_types.specs.declared.insn.MoveOp.{MoveOp}
use Rattle.sm_types.specs.declared.insn.MoveOp.TheVariants as move
use Rattle.sm_types.specs.declared.insn.BitfieldOp.{BitfieldOp}
use Rattle.sm_types.specs.declared.insn.BitfieldOp.TheVariants as bits
use Rattle.sm_types.specs.declared.insn.PcRelativeOp.{PcRelativeOp}
use Rattle.sm_types.specs.declared.insn.PcRelativeOp.TheVariants as relative
use Rattle.sm_types.specs.declared.insn.BranchRegisterOp.{BranchRegisterOp}
use Rattle.sm_types.specs.declared.insn.BranchRegisterOp.TheVariants as jump
use Rattle.sm_types.specs.declared.insn.SelectOp.{SelectOp}
use Rattle.sm_types.specs.declared.insn.SelectOp.TheVariants as select
use Rattle.sm_types.specs.declared.insn.CompareOp.{CompareOp}
use Rattle.sm_types.specs.declared.insn.CompareOp.TheVariants as compare
use Rattle.sm_types.specs.declared.insn.OneSourceOp.{OneSourceOp}
use Rattle.sm_types.specs.declared.insn.OneSourceOp.TheVariants as one
use Rattle.sm_types.specs.declared.insn.TwoSourceOp.{TwoSourceOp}
use Rattle.sm_types.specs.declared.insn.TwoSourceOp.TheVariants as two
use Rattle.sm_types.specs.declared.insn.LoadLiteralOp.{LoadLiteralOp}
use Rattle.sm_types.specs.declared.insn.LoadLiteralOp.TheVariants as literal
use Rattle.sm_types.specs.declared.insn.PairOp.{PairOp}
use Rattle.sm_types.specs.declared.insn.PairOp.TheVariants as pair
use Rattle.sm_types.specs.declared.insn.AtomicOp.{AtomicOp}
use Rattle.sm_types.specs.declared.insn.AtomicOp.TheVariants as atomic
use Rattle.sm_types.specs.declared.insn.SystemMoveOp.{SystemMoveOp}
use Rattle.sm_types.specs.declared.insn.SystemMoveOp.TheVariants as system
use Rattle.insn_forms.specs.declared.field.Field.{Field}
use Rattle.a64_table.specs.declared.fields.TheConstants.{ACQUIRE, BRANCH_COND, CAS_ACQUIRE, CAS_RELEASE, OPC}
use Rattle.a64_table.specs.declared.fields.TheConstants.{RELEASE, SF, SIZE}
use Rattle.a64_table.specs.declared.operation.Operation.{Operation}
use Rattle.a64_table.specs.declared.operation.Operation.TheVariants.{G1, G2, G3, G4, G5, G6, G7, G8, G9, G10}
use Rattle.a64_table.specs.declared.operation.Operation.TheVariants.{G11, G12, G13, G14, G15, G16, G17, G18}
use Rattle.a64_table.specs.declared.operation.Operation.TheVariants.{G19, G20, G21, G22, G23}
use Rattle.a64_table.specs.declared.operation.BranchOp.{BranchOp}
use Rattle.a64_table.specs.declared.operation.BranchOp.TheVariants as branch
use Rattle.a64_table.specs.declared.operation.MultiplyOp.{MultiplyOp}
use Rattle.a64_table.specs.declared.operation.MultiplyOp.TheVariants as multiply
use Rattle.a64_table.specs.declared.operation.AddressForm.{AddressForm}
use Rattle.a64_table.specs.declared.operation.AddressForm.TheVariants as address
use Rattle.a64_table.specs.declared.operation.AtomicForm.{AtomicForm}
use Rattle.a64_table.specs.declared.operation.AtomicForm.TheVariants as form
use Rattle.a64_table.specs.declared.operation.SystemOp.{SystemOp}
use Rattle.a64_table.specs.declared.operation.SystemOp.TheVariants as call

unfoldable pub text_or_none : Option (List ℕ) → List ℕ
text_or_none None = []
text_or_none (Some text) = text

-- the text of a number in a list of texts
unfoldable pub nth : List (List ℕ) → ℕ → List ℕ
nth texts n = text_or_none (slice_get texts n)

unfoldable pub condition_name : ℕ → List ℕ
condition_name n =
    nth (codes "eq" ∷ codes "ne" ∷ codes "cs" ∷ codes "cc" ∷ codes "mi" ∷ codes "pl" ∷ codes "vs" ∷ codes "vc"
    ∷ codes "hi" ∷ codes "ls" ∷ codes "ge" ∷ codes "lt" ∷ codes "gt" ∷ codes "le" ∷ codes "al" ∷ codes "nv"
    ∷ []) n

unfoldable pub add_sub_name : AddSub → List ℕ
add_sub_name sum.Add = codes "add"
add_sub_name sum.Adds = codes "adds"
add_sub_name sum.Sub = codes "sub"
add_sub_name sum.Subs = codes "subs"

unfoldable pub carry_name : AddSub → List ℕ
carry_name sum.Add = codes "adc"
carry_name sum.Adds = codes "adcs"
carry_name sum.Sub = codes "sbc"
carry_name sum.Subs = codes "sbcs"

unfoldable pub logical_name : Logical → Bool → List ℕ
logical_name logical.And false = codes "and"
logical_name logical.And true = codes "bic"
logical_name logical.Orr false = codes "orr"
logical_name logical.Orr true = codes "orn"
logical_name logical.Eor false = codes "eor"
logical_name logical.Eor true = codes "eon"
logical_name logical.Ands false = codes "ands"
logical_name logical.Ands true = codes "bics"

unfoldable pub move_name : MoveOp → List ℕ
move_name move.Movn = codes "movn"
move_name move.Movz = codes "movz"
move_name move.Movk = codes "movk"

unfoldable pub bitfield_name : BitfieldOp → List ℕ
bitfield_name bits.Sbfm = codes "sbfm"
bitfield_name bits.Bfm = codes "bfm"
bitfield_name bits.Ubfm = codes "ubfm"

unfoldable pub relative_name : PcRelativeOp → List ℕ
relative_name relative.Adr = codes "adr"
relative_name relative.Adrp = codes "adrp"

unfoldable pub branch_name : BranchOp → ℕ → List ℕ
branch_name branch.B c = codes "b"
branch_name branch.Bl c = codes "bl"
branch_name branch.BCond c = codes "b." ++ condition_name c
branch_name branch.Cbz c = codes "cbz"
branch_name branch.Cbnz c = codes "cbnz"
branch_name branch.Tbz c = codes "tbz"
branch_name branch.Tbnz c = codes "tbnz"

unfoldable pub jump_name : BranchRegisterOp → List ℕ
jump_name jump.Br = codes "br"
jump_name jump.Blr = codes "blr"
jump_name jump.Ret = codes "ret"

unfoldable pub select_name : SelectOp → List ℕ
select_name select.Csel = codes "csel"
select_name select.Csinc = codes "csinc"
select_name select.Csinv = codes "csinv"
select_name select.Csneg = codes "csneg"

unfoldable pub compare_name : CompareOp → List ℕ
compare_name compare.Ccmn = codes "ccmn"
compare_name compare.Ccmp = codes "ccmp"

-- the bytes of each word are reversed: all of a W register, both words of an X register
unfoldable pub one_source_name : OneSourceOp → ℕ → List ℕ
one_source_name one.Rbit sf = codes "rbit"
one_source_name one.Rev16 sf = codes "rev16"
one_source_name one.Rev32 sf = if sf == 1 then codes "rev32" else codes "rev"
one_source_name one.Rev64 sf = codes "rev"
one_source_name one.Clz sf = codes "clz"
one_source_name one.Cls sf = codes "cls"

unfoldable pub two_source_name : TwoSourceOp → List ℕ
two_source_name two.Udiv = codes "udiv"
two_source_name two.Sdiv = codes "sdiv"
two_source_name two.Lslv = codes "lslv"
two_source_name two.Lsrv = codes "lsrv"
two_source_name two.Asrv = codes "asrv"
two_source_name two.Rorv = codes "rorv"

unfoldable pub multiply_name : MultiplyOp → List ℕ
multiply_name multiply.Madd = codes "madd"
multiply_name multiply.Msub = codes "msub"
multiply_name multiply.Smaddl = codes "smaddl"
multiply_name multiply.Smsubl = codes "smsubl"
multiply_name multiply.Umaddl = codes "umaddl"
multiply_name multiply.Umsubl = codes "umsubl"
multiply_name multiply.Smulh = codes "smulh"
multiply_name multiply.Umulh = codes "umulh"

-- the letter of a byte and of a halfword
unfoldable pub size_letter : ℕ → List ℕ
size_letter size = nth (codes "b" ∷ codes "h" ∷ [] ∷ [] ∷ []) size

unfoldable pub unscaled_letter : AddressForm → List ℕ
unscaled_letter address.Unscaled = codes "u"
unscaled_letter form = []

-- a store, or a load without or with the sign, of a size
unfoldable pub access_name : AddressForm → ℕ → ℕ → List ℕ
access_name form size opc =
    (if opc == 0 then codes "st" else codes "ld") ++ unscaled_letter form ++ codes "r"
    ++ (if nat_le 2 opc then codes "s" ++ nth (codes "b" ∷ codes "h" ∷ codes "w" ∷ []) size
    else size_letter size)

unfoldable pub literal_name : LoadLiteralOp → List ℕ
literal_name literal.Word = codes "ldr"
literal_name literal.Doubleword = codes "ldr"
literal_name literal.SignedWord = codes "ldrsw"

unfoldable pub pair_name : PairOp → List ℕ
pair_name pair.Stp = codes "stp"
pair_name pair.Ldp = codes "ldp"

-- the letters of an order, by acquire and release
unfoldable pub order_letters : ℕ → ℕ → List ℕ
order_letters acquire release =
    (if acquire == 1 then codes "a" else []) ++ (if release == 1 then codes "l" else [])

unfoldable pub atomic_name : AtomicOp → List ℕ
atomic_name atomic.Add = codes "ldadd"
atomic_name atomic.Clear = codes "ldclr"
atomic_name atomic.Eor = codes "ldeor"
atomic_name atomic.Set = codes "ldset"
atomic_name atomic.Smax = codes "ldsmax"
atomic_name atomic.Smin = codes "ldsmin"
atomic_name atomic.Umax = codes "ldumax"
atomic_name atomic.Umin = codes "ldumin"

unfoldable pub form_name : AtomicForm → (Field → ℕ) → List ℕ
form_name form.Ldar n = codes "ldar" ++ size_letter (n SIZE)
form_name form.Stlr n = codes "stlr" ++ size_letter (n SIZE)
form_name form.Cas n = codes "cas" ++ order_letters (n CAS_ACQUIRE) (n CAS_RELEASE) ++ size_letter (n SIZE)
form_name form.Swap n = codes "swp" ++ order_letters (n ACQUIRE) (n RELEASE) ++ size_letter (n SIZE)
form_name (form.Update op) n = atomic_name op ++ order_letters (n ACQUIRE) (n RELEASE) ++ size_letter (n SIZE)

unfoldable pub call_name : SystemOp → List ℕ
call_name call.Svc = codes "svc"
call_name call.Brk = codes "brk"
call_name call.Udf = codes "udf"
call_name call.Hint = codes "hint"
call_name call.Dmb = codes "dmb"
call_name call.Dsb = codes "dsb"
call_name call.Isb = codes "isb"

unfoldable pub system_name : SystemMoveOp → List ℕ
system_name system.Mrs = codes "mrs"
system_name system.Msr = codes "msr"

-- the mnemonic of an operation, by the numbers of the fields that tell its width, size, order and condition
unfoldable pub mnemonic_of : Operation → (Field → ℕ) → List ℕ
mnemonic_of (G1 op) n = add_sub_name op
mnemonic_of (G2 op) n = add_sub_name op
mnemonic_of (G3 op inverted) n = logical_name op inverted
mnemonic_of (G4 op) n = add_sub_name op
mnemonic_of (G5 op) n = logical_name op false
mnemonic_of (G6 op) n = move_name op
mnemonic_of (G7 op wide) n = bitfield_name op
mnemonic_of (G8 wide) n = codes "extr"
mnemonic_of (G9 op) n = relative_name op
mnemonic_of (G10 op) n = branch_name op (n BRANCH_COND)
mnemonic_of (G11 op) n = jump_name op
mnemonic_of (G12 op) n = carry_name op
mnemonic_of (G13 op) n = select_name op
mnemonic_of (G14 op immediate) n = compare_name op
mnemonic_of (G15 op) n = one_source_name op (n SF)
mnemonic_of (G16 op) n = two_source_name op
mnemonic_of (G17 op) n = multiply_name op
mnemonic_of (G18 form) n = access_name form (n SIZE) (n OPC)
mnemonic_of (G19 op) n = literal_name op
mnemonic_of (G20 op wide index) n = pair_name op
mnemonic_of (G21 form) n = form_name form n
mnemonic_of (G22 op) n = call_name op
mnemonic_of (G23 op register) n = system_name op
