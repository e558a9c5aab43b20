-- Group by group: an instruction tells what it was made of, and is made of what it tells.
use Rattle.std.proofs.Common.{◌≡◌, ℕ, Bool, true, false, refl, sym, ap, ◌∙◌, List, [], ◌∷◌, Option, Some, None, ℤ}
use Rattle.insn_forms.specs.declared.field.Field.{Field}
use Rattle.insn_forms.specs.declared.number.Parts.{Parts}
use Rattle.insn_forms.specs.Forms.{padded}
use Rattle.insn_forms.proofs.Laws.{Take, taken, are_small, agrees}
use Rattle.insn_forms.proofs.Ways.{Slot, flag, cut, code, signed, take_of, field_of_slot, takes_of, fields_of, pass, eight, passed, one}
use Rattle.insn_forms.proofs.Ways.{cuts}
use Rattle.sm_types.specs.declared.insn as types
use types.{Insn.Insn, CompareOperand.CompareOperand, ConditionalCompare.ConditionalCompare, OneSource.OneSource, OneSourceOp.OneSourceOp}
use types.{OneSourceOp.TheVariants.Rbit, OneSourceOp.TheVariants.Rev64, Address.Address, LoadStore.LoadStore}
use types.Insn.TheVariants as insn
use types.Branch.TheVariants as branch
use types.CompareOperand.TheVariants as operand
use types.Multiply.TheVariants as multiply
use types.Address.TheVariants as address
use types.Atomic.TheVariants as atomic
use types.System.TheVariants as system
use Rattle.a64_table.specs.declared.fields.TheConstants.{ACQUIRE, BIT, BRANCH_COND, CAS_ACQUIRE, CAS_RELEASE, COND, CRM, HINT, HW, IMM12}
use Rattle.a64_table.specs.declared.fields.TheConstants.{IMM14, IMM16, IMM19, IMM21, IMM26, IMM3, IMM5, IMM6, IMM7, IMM9, IMMR, IMMS, N}
use Rattle.a64_table.specs.declared.fields.TheConstants.{NZCV, OPC, OPTION, RA, RD, RELEASE, RM, RN, RS, RT, RT2, SCALED, SF, SH, SHIFT}
use Rattle.a64_table.specs.declared.fields.TheConstants.{SIZE, UDF_IMM16}
use Rattle.a64_table.specs.declared.operation as operations
use operations.Operation.TheVariants.{G1, G2, G3, G4, G5, G6, G7, G8, G9, G10, G11, G12, G13, G14, G15, G16, G17, G18, G19, G20, G21, G22}
use operations.Operation.TheVariants.{G23}
use operations.BranchOp.TheVariants.{B, Bl, BCond, Cbz, Cbnz, Tbz, Tbnz}
use operations.MultiplyOp.TheVariants.{Madd, Msub, Smulh, Umulh}
use operations.AtomicForm.TheVariants.{Ldar, Stlr, Cas}
use operations.SystemOp.TheVariants.{Svc, Brk, Udf, Hint}
use operations.{Operation.Operation}
use operations.AddressForm.TheVariants as form
use Rattle.a64_table.specs.Values.{condition_of, condition_number, shift_of, shift_number, extend_of, extend_number, access_size_of}
use Rattle.a64_table.specs.Values.{access_size_number, load_store_op_of, load_store_op_number}
use Rattle.a64_table.specs.Named.{shifted_register, extended_register, named_branch, compare_operand, is_wide_source, named_multiply}
use Rattle.a64_table.specs.Named.{named_address, named_atomic, named_system, named}
use Rattle.a64_table.specs.Parts.{branch_parts, compare_says, compare_parts, doubleword_parts, one_source_parts, multiply_parts}
use Rattle.a64_table.specs.Parts.{load_store_says, load_store_parts, atomic_parts, system_parts, parts_of}
use Rattle.a64_table.proofs.Numbers.{condition_back, shift_back, extend_back, access_size_back, load_store_op_back, condition_is, shift_is}
use Rattle.a64_table.proofs.Numbers.{extend_is, access_size_is, load_store_op_is}

-- how an instruction keeps the numbers of its operation's fields
abbrev r : Field → Slot
r = cut 8

abbrev conditions : Field → Slot
conditions = code 4 (λ k. condition_number (condition_of k)) condition_back

abbrev shifts : Field → Slot
shifts = code 2 (λ k. shift_number (shift_of k)) shift_back

abbrev extends : Field → Slot
extends = code 3 (λ k. extend_number (extend_of k)) extend_back

abbrev sizes : Field → Slot
sizes = code 2 (λ k. access_size_number (access_size_of k)) access_size_back

abbrev opcs : Field → Slot
opcs = code 2 (λ k. load_store_op_number (load_store_op_of k)) load_store_op_back

-- the fields of an operation's row in its order
unfoldable pub kept : Operation → List Slot
kept (G1 op) = flag SF ∷ r RD ∷ r RN ∷ cut 16 IMM12 ∷ flag SH ∷ []
kept (G2 op) = flag SF ∷ r RD ∷ r RN ∷ r RM ∷ shifts SHIFT ∷ r IMM6 ∷ []
kept (G3 op inverted) = flag SF ∷ r RD ∷ r RN ∷ r RM ∷ shifts SHIFT ∷ r IMM6 ∷ []
kept (G4 op) = flag SF ∷ r RD ∷ r RN ∷ r RM ∷ extends OPTION ∷ r IMM3 ∷ []
kept (G5 op) = flag SF ∷ r RD ∷ r RN ∷ flag N ∷ r IMMR ∷ r IMMS ∷ []
kept (G6 op) = flag SF ∷ r RD ∷ cut 16 IMM16 ∷ r HW ∷ []
kept (G7 op wide) = r RD ∷ r RN ∷ r IMMR ∷ r IMMS ∷ []
kept (G8 wide) = r RD ∷ r RN ∷ r RM ∷ r IMMS ∷ []
kept (G9 op) = r RD ∷ signed IMM21 ∷ []
kept (G10 B) = signed IMM26 ∷ []
kept (G10 Bl) = signed IMM26 ∷ []
kept (G10 BCond) = conditions BRANCH_COND ∷ signed IMM19 ∷ []
kept (G10 Cbz) = flag SF ∷ r RT ∷ signed IMM19 ∷ []
kept (G10 Cbnz) = flag SF ∷ r RT ∷ signed IMM19 ∷ []
kept (G10 Tbz) = r RT ∷ r BIT ∷ signed IMM14 ∷ []
kept (G10 Tbnz) = r RT ∷ r BIT ∷ signed IMM14 ∷ []
kept (G11 op) = r RN ∷ []
kept (G12 op) = flag SF ∷ r RD ∷ r RN ∷ r RM ∷ []
kept (G13 op) = flag SF ∷ r RD ∷ r RN ∷ r RM ∷ conditions COND ∷ []
kept (G14 op false) = flag SF ∷ r RN ∷ r RM ∷ r NZCV ∷ conditions COND ∷ []
kept (G14 op true) = flag SF ∷ r RN ∷ r IMM5 ∷ r NZCV ∷ conditions COND ∷ []
kept (G15 Rev64) = r RD ∷ r RN ∷ []
kept (G15 op) = flag SF ∷ r RD ∷ r RN ∷ []
kept (G16 op) = flag SF ∷ r RD ∷ r RN ∷ r RM ∷ []
kept (G17 Madd) = flag SF ∷ r RD ∷ r RN ∷ r RM ∷ r RA ∷ []
kept (G17 Msub) = flag SF ∷ r RD ∷ r RN ∷ r RM ∷ r RA ∷ []
kept (G17 Smulh) = r RD ∷ r RN ∷ r RM ∷ []
kept (G17 Umulh) = r RD ∷ r RN ∷ r RM ∷ []
kept (G17 op) = r RD ∷ r RN ∷ r RM ∷ r RA ∷ []
kept (G18 form.Offset) = sizes SIZE ∷ opcs OPC ∷ r RT ∷ r RN ∷ cut 16 IMM12 ∷ []
kept (G18 form.Register) = sizes SIZE ∷ opcs OPC ∷ r RT ∷ r RN ∷ r RM ∷ extends OPTION ∷ flag SCALED ∷ []
kept (G18 f) = sizes SIZE ∷ opcs OPC ∷ r RT ∷ r RN ∷ signed IMM9 ∷ []
kept (G19 op) = r RT ∷ signed IMM19 ∷ []
kept (G20 op wide index) = r RT ∷ r RT2 ∷ r RN ∷ signed IMM7 ∷ []
kept (G21 Ldar) = sizes SIZE ∷ r RT ∷ r RN ∷ []
kept (G21 Stlr) = sizes SIZE ∷ r RT ∷ r RN ∷ []
kept (G21 Cas) = sizes SIZE ∷ flag CAS_ACQUIRE ∷ flag CAS_RELEASE ∷ r RS ∷ r RT ∷ r RN ∷ []
kept (G21 f) = sizes SIZE ∷ flag ACQUIRE ∷ flag RELEASE ∷ r RS ∷ r RT ∷ r RN ∷ []
kept (G22 Svc) = cut 16 IMM16 ∷ []
kept (G22 Brk) = cut 16 IMM16 ∷ []
kept (G22 Udf) = cut 16 UDF_IMM16 ∷ []
kept (G22 Hint) = r HINT ∷ []
kept (G22 op) = r CRM ∷ []
kept (G23 op register) = r RT ∷ []

unfoldable pub slots : Operation → List Slot
slots op = eight 8 (kept op)

unfoldable pub takes : Operation → List Take
takes op = takes_of (slots op)

unfoldable pub format : Operation → List Field
format op = fields_of (slots op)

-- an instruction tells what it was made of
computes : (op : Operation) (u : Field → ℕ) (s : Field → ℤ) → parts_of (named op u s) ≡ Some (record {
  operation = op;
  numbers = pass (slots op) u s;
})
unfolding eight slots kept pass named shifted_register extended_register named_branch compare_operand is_wide_source named_multiply
    named_address named_atomic named_system parts_of branch_parts compare_says compare_parts doubleword_parts one_source_parts
    multiply_parts load_store_says load_store_parts atomic_parts system_parts padded
computes (G10 B) u s = refl
computes (G14 op false) u s = refl
computes (G15 Rbit) u s = refl
computes (G17 Madd) u s = refl
computes (G18 form.Offset) u s = refl
computes (G21 Ldar) u s = refl
computes (G22 Svc) u s = refl
computes _ u s = refl

pub back : (op : Operation) (u : Field → ℕ) (s : Field → ℤ) → are_small (takes op) (format op) u → parts_of (named op u s)
    ≡ Some (record { operation = op; numbers = taken (takes op) (format op) u s })
unfolding takes format
back op u s h = computes op u s ∙ ap (λ ns. Some (record { operation = op; numbers = ns })) (passed (slots op) u s h)

-- and is made of what it tells
abbrev pub IsRemade : Insn → Option (Parts Operation) → Type 0
IsRemade it None = Unit {0}
IsRemade it (Some p) = (u : Field → ℕ) (s : Field → ℤ) → agrees (format p.operation) p.numbers u s
    → are_small (takes p.operation) (format p.operation) u → named p.operation u s ≡ it

-- a conditional compare, by its second operand
remade_compare : (x : ConditionalCompare) (second : CompareOperand) → x.operand ≡ second
    → IsRemade (insn.ConditionalCompare x) (compare_parts x second)
unfolding compare_says compare_parts padded agrees are_small takes format slots eight kept take_of field_of_slot named compare_operand
remade_compare x (operand.Register rm) e = λ u s a h. (λ i. insn.ConditionalCompare (record {
  op = x.op;
  wide = one (u SF) x.wide a.0 i;
  operand = operand.Register (cuts 8 (u RM) rm a.1.1.0 h.1.1.0 i);
  condition = condition_is (u COND) x.condition a.1.1.1.1.0 i;
  nzcv = cuts 8 (u NZCV) x.nzcv a.1.1.1.0 h.1.1.1.0 i;
  rn = cuts 8 (u RN) x.rn a.1.0 h.1.0 i;
}))
    ∙ ap (λ y. insn.ConditionalCompare (record x { operand = y })) (sym e)
remade_compare x (operand.Immediate imm) e = λ u s a h. (λ i. insn.ConditionalCompare (record {
  op = x.op;
  wide = one (u SF) x.wide a.0 i;
  operand = operand.Immediate (cuts 8 (u IMM5) imm a.1.1.0 h.1.1.0 i);
  condition = condition_is (u COND) x.condition a.1.1.1.1.0 i;
  nzcv = cuts 8 (u NZCV) x.nzcv a.1.1.1.0 h.1.1.1.0 i;
  rn = cuts 8 (u RN) x.rn a.1.0 h.1.0 i;
}))
    ∙ ap (λ y. insn.ConditionalCompare (record x { operand = y })) (sym e)

-- an operation on one register
remade_doubleword : (x : OneSource) (wide : Bool) → x.op ≡ Rev64 → x.wide ≡ wide → IsRemade (insn.OneSource x) (doubleword_parts x wide)
unfolding doubleword_parts padded agrees are_small takes format slots eight kept take_of field_of_slot named is_wide_source
remade_doubleword x true e w = λ u s a h. (λ i. insn.OneSource (record {
  op = Rev64;
  wide = true;
  rn = cuts 8 (u RN) x.rn a.1.0 h.1.0 i;
  rd = cuts 8 (u RD) x.rd a.0 h.0 i;
})) ∙ (λ i. insn.OneSource (record x { op = sym e i; wide = sym w i }))
remade_doubleword x false e w = tt

remade_one_source : (x : OneSource) (op : OneSourceOp) → x.op ≡ op → IsRemade (insn.OneSource x) (one_source_parts x op)
unfolding one_source_parts padded agrees are_small takes format slots eight kept take_of field_of_slot named is_wide_source
remade_one_source x Rev64 e = remade_doubleword x x.wide e refl
remade_one_source x op e = λ u s a h. (λ i. insn.OneSource (record {
  op = op;
  wide = one (u SF) x.wide a.0 i;
  rn = cuts 8 (u RN) x.rn a.1.1.0 h.1.1.0 i;
  rd = cuts 8 (u RD) x.rd a.1.0 h.1.0 i;
})) ∙ (λ i. insn.OneSource (record x { op = sym e i }))

-- a load or store, by its address
remade_load_store : (x : LoadStore) (a : Address) → x.address ≡ a → IsRemade (insn.LoadStore x) (load_store_parts x a)
unfolding load_store_parts load_store_says padded agrees are_small takes format slots eight kept take_of field_of_slot named named_address
remade_load_store x (address.Offset imm) e = λ u s a h. (λ i. insn.LoadStore (record {
  op = load_store_op_is (u OPC) x.op a.1.0 i;
  size = access_size_is (u SIZE) x.size a.0 i;
  address = address.Offset (cuts 16 (u IMM12) imm a.1.1.1.1.0 h.1.1.1.1.0 i);
  rn = cuts 8 (u RN) x.rn a.1.1.1.0 h.1.1.1.0 i;
  rt = cuts 8 (u RT) x.rt a.1.1.0 h.1.1.0 i;
}))
    ∙ ap (λ y. insn.LoadStore (record x { address = y })) (sym e)
remade_load_store x (address.Unscaled offset) e = λ u s a h. (λ i. insn.LoadStore (record {
  op = load_store_op_is (u OPC) x.op a.1.0 i;
  size = access_size_is (u SIZE) x.size a.0 i;
  address = address.Unscaled (a.1.1.1.1.0 i);
  rn = cuts 8 (u RN) x.rn a.1.1.1.0 h.1.1.1.0 i;
  rt = cuts 8 (u RT) x.rt a.1.1.0 h.1.1.0 i;
})) ∙ ap (λ y. insn.LoadStore (record x { address = y })) (sym e)
remade_load_store x (address.PostIndex offset) e = λ u s a h. (λ i. insn.LoadStore (record {
  op = load_store_op_is (u OPC) x.op a.1.0 i;
  size = access_size_is (u SIZE) x.size a.0 i;
  address = address.PostIndex (a.1.1.1.1.0 i);
  rn = cuts 8 (u RN) x.rn a.1.1.1.0 h.1.1.1.0 i;
  rt = cuts 8 (u RT) x.rt a.1.1.0 h.1.1.0 i;
})) ∙ ap (λ y. insn.LoadStore (record x { address = y })) (sym e)
remade_load_store x (address.PreIndex offset) e = λ u s a h. (λ i. insn.LoadStore (record {
  op = load_store_op_is (u OPC) x.op a.1.0 i;
  size = access_size_is (u SIZE) x.size a.0 i;
  address = address.PreIndex (a.1.1.1.1.0 i);
  rn = cuts 8 (u RN) x.rn a.1.1.1.0 h.1.1.1.0 i;
  rt = cuts 8 (u RT) x.rt a.1.1.0 h.1.1.0 i;
})) ∙ ap (λ y. insn.LoadStore (record x { address = y })) (sym e)
remade_load_store x (address.Register rm extend scaled) e = λ u s a h.
    (λ i. insn.LoadStore (record {
      op = load_store_op_is (u OPC) x.op a.1.0 i;
      size = access_size_is (u SIZE) x.size a.0 i;
      address = address.Register (cuts 8 (u RM) rm a.1.1.1.1.0 h.1.1.1.1.0 i) (extend_is (u OPTION) extend a.1.1.1.1.1.0 i)
          (one (u SCALED) scaled a.1.1.1.1.1.1.0 i);
      rn = cuts 8 (u RN) x.rn a.1.1.1.0 h.1.1.1.0 i;
      rt = cuts 8 (u RT) x.rt a.1.1.0 h.1.1.0 i;
    }))
    ∙ ap (λ y. insn.LoadStore (record x { address = y })) (sym e)

pub forth : (it : Insn) → IsRemade it (parts_of it)
unfolding parts_of branch_parts multiply_parts atomic_parts system_parts padded agrees are_small takes format slots eight kept take_of
    field_of_slot named shifted_register extended_register named_branch named_multiply named_atomic named_system
forth (insn.AddSubImmediate x) = λ u s a h i. insn.AddSubImmediate (record {
  op = x.op;
  wide = one (u SF) x.wide a.0 i;
  shifted = one (u SH) x.shifted a.1.1.1.1.0 i;
  imm = cuts 16 (u IMM12) x.imm a.1.1.1.0 h.1.1.1.0 i;
  rn = cuts 8 (u RN) x.rn a.1.1.0 h.1.1.0 i;
  rd = cuts 8 (u RD) x.rd a.1.0 h.1.0 i;
})
forth (insn.AddSubRegister x) = λ u s a h i. insn.AddSubRegister (record {
  op = x.op;
  wide = one (u SF) x.wide a.0 i;
  operand = record {
    rm = cuts 8 (u RM) x.operand.rm a.1.1.1.0 h.1.1.1.0 i;
    shift = shift_is (u SHIFT) x.operand.shift a.1.1.1.1.0 i;
    amount = cuts 8 (u IMM6) x.operand.amount a.1.1.1.1.1.0 h.1.1.1.1.1.0 i;
  };
  rn = cuts 8 (u RN) x.rn a.1.1.0 h.1.1.0 i;
  rd = cuts 8 (u RD) x.rd a.1.0 h.1.0 i;
})
forth (insn.LogicalRegister x) = λ u s a h i. insn.LogicalRegister (record {
  op = x.op;
  wide = one (u SF) x.wide a.0 i;
  inverted = x.inverted;
  operand = record {
    rm = cuts 8 (u RM) x.operand.rm a.1.1.1.0 h.1.1.1.0 i;
    shift = shift_is (u SHIFT) x.operand.shift a.1.1.1.1.0 i;
    amount = cuts 8 (u IMM6) x.operand.amount a.1.1.1.1.1.0 h.1.1.1.1.1.0 i;
  };
  rn = cuts 8 (u RN) x.rn a.1.1.0 h.1.1.0 i;
  rd = cuts 8 (u RD) x.rd a.1.0 h.1.0 i;
})
forth (insn.AddSubExtended x) = λ u s a h i. insn.AddSubExtended (record {
  op = x.op;
  wide = one (u SF) x.wide a.0 i;
  operand = record {
    rm = cuts 8 (u RM) x.operand.rm a.1.1.1.0 h.1.1.1.0 i;
    extend = extend_is (u OPTION) x.operand.extend a.1.1.1.1.0 i;
    amount = cuts 8 (u IMM3) x.operand.amount a.1.1.1.1.1.0 h.1.1.1.1.1.0 i;
  };
  rn = cuts 8 (u RN) x.rn a.1.1.0 h.1.1.0 i;
  rd = cuts 8 (u RD) x.rd a.1.0 h.1.0 i;
})
forth (insn.LogicalImmediate x) = λ u s a h i. insn.LogicalImmediate (record {
  op = x.op;
  wide = one (u SF) x.wide a.0 i;
  n = one (u N) x.n a.1.1.1.0 i;
  immr = cuts 8 (u IMMR) x.immr a.1.1.1.1.0 h.1.1.1.1.0 i;
  imms = cuts 8 (u IMMS) x.imms a.1.1.1.1.1.0 h.1.1.1.1.1.0 i;
  rn = cuts 8 (u RN) x.rn a.1.1.0 h.1.1.0 i;
  rd = cuts 8 (u RD) x.rd a.1.0 h.1.0 i;
})
forth (insn.MoveWide x) = λ u s a h i. insn.MoveWide (record {
  op = x.op;
  wide = one (u SF) x.wide a.0 i;
  hw = cuts 8 (u HW) x.hw a.1.1.1.0 h.1.1.1.0 i;
  imm = cuts 16 (u IMM16) x.imm a.1.1.0 h.1.1.0 i;
  rd = cuts 8 (u RD) x.rd a.1.0 h.1.0 i;
})
forth (insn.BitfieldMove x) = λ u s a h i. insn.BitfieldMove (record {
  op = x.op;
  wide = x.wide;
  immr = cuts 8 (u IMMR) x.immr a.1.1.0 h.1.1.0 i;
  imms = cuts 8 (u IMMS) x.imms a.1.1.1.0 h.1.1.1.0 i;
  rn = cuts 8 (u RN) x.rn a.1.0 h.1.0 i;
  rd = cuts 8 (u RD) x.rd a.0 h.0 i;
})
forth (insn.Extract x) = λ u s a h i. insn.Extract (record {
  wide = x.wide;
  rm = cuts 8 (u RM) x.rm a.1.1.0 h.1.1.0 i;
  lsb = cuts 8 (u IMMS) x.lsb a.1.1.1.0 h.1.1.1.0 i;
  rn = cuts 8 (u RN) x.rn a.1.0 h.1.0 i;
  rd = cuts 8 (u RD) x.rd a.0 h.0 i;
})
forth (insn.PcRelative x) = λ u s a h i. insn.PcRelative (record { op = x.op; imm = a.1.0 i; rd = cuts 8 (u RD) x.rd a.0 h.0 i })
forth (insn.Branch (branch.Unconditional false words)) = λ u s a h i. insn.Branch (branch.Unconditional false (a.0 i))
forth (insn.Branch (branch.Unconditional true words)) = λ u s a h i. insn.Branch (branch.Unconditional true (a.0 i))
forth (insn.Branch (branch.Conditional condition words)) = λ u s a h i. insn.Branch
    (branch.Conditional (condition_is (u BRANCH_COND) condition a.0 i) (a.1.0 i))
forth (insn.Branch (branch.Compare false wide words rt)) = λ u s a h i. insn.Branch (branch.Compare false (one (u SF) wide a.0 i)
    (a.1.1.0 i) (cuts 8 (u RT) rt a.1.0 h.1.0 i))
forth (insn.Branch (branch.Compare true wide words rt)) = λ u s a h i. insn.Branch (branch.Compare true (one (u SF) wide a.0 i) (a.1.1.0 i)
    (cuts 8 (u RT) rt a.1.0 h.1.0 i))
forth (insn.Branch (branch.TestBit false bit words rt)) = λ u s a h i. insn.Branch (branch.TestBit false (cuts 8 (u BIT) bit a.1.0 h.1.0 i)
    (a.1.1.0 i) (cuts 8 (u RT) rt a.0 h.0 i))
forth (insn.Branch (branch.TestBit true bit words rt)) = λ u s a h i. insn.Branch (branch.TestBit true (cuts 8 (u BIT) bit a.1.0 h.1.0 i)
    (a.1.1.0 i) (cuts 8 (u RT) rt a.0 h.0 i))
forth (insn.BranchRegister x) = λ u s a h i. insn.BranchRegister (record { op = x.op; rn = cuts 8 (u RN) x.rn a.0 h.0 i })
forth (insn.AddSubCarry x) = λ u s a h i. insn.AddSubCarry (record {
  op = x.op;
  wide = one (u SF) x.wide a.0 i;
  rm = cuts 8 (u RM) x.rm a.1.1.1.0 h.1.1.1.0 i;
  rn = cuts 8 (u RN) x.rn a.1.1.0 h.1.1.0 i;
  rd = cuts 8 (u RD) x.rd a.1.0 h.1.0 i;
})
forth (insn.ConditionalSelect x) = λ u s a h i. insn.ConditionalSelect (record {
  op = x.op;
  wide = one (u SF) x.wide a.0 i;
  condition = condition_is (u COND) x.condition a.1.1.1.1.0 i;
  rm = cuts 8 (u RM) x.rm a.1.1.1.0 h.1.1.1.0 i;
  rn = cuts 8 (u RN) x.rn a.1.1.0 h.1.1.0 i;
  rd = cuts 8 (u RD) x.rd a.1.0 h.1.0 i;
})
forth (insn.ConditionalCompare x) = remade_compare x x.operand refl
forth (insn.OneSource x) = remade_one_source x x.op refl
forth (insn.TwoSource x) = λ u s a h i. insn.TwoSource (record {
  op = x.op;
  wide = one (u SF) x.wide a.0 i;
  rm = cuts 8 (u RM) x.rm a.1.1.1.0 h.1.1.1.0 i;
  rn = cuts 8 (u RN) x.rn a.1.1.0 h.1.1.0 i;
  rd = cuts 8 (u RD) x.rd a.1.0 h.1.0 i;
})
forth (insn.Multiply (multiply.Same false wide rm ra rn rd)) = λ u s a h i. insn.Multiply (multiply.Same false (one (u SF) wide a.0 i)
    (cuts 8 (u RM) rm a.1.1.1.0 h.1.1.1.0 i) (cuts 8 (u RA) ra a.1.1.1.1.0 h.1.1.1.1.0 i) (cuts 8 (u RN) rn a.1.1.0 h.1.1.0 i)
    (cuts 8 (u RD) rd a.1.0 h.1.0 i))
forth (insn.Multiply (multiply.Same true wide rm ra rn rd)) = λ u s a h i. insn.Multiply (multiply.Same true (one (u SF) wide a.0 i)
    (cuts 8 (u RM) rm a.1.1.1.0 h.1.1.1.0 i) (cuts 8 (u RA) ra a.1.1.1.1.0 h.1.1.1.1.0 i) (cuts 8 (u RN) rn a.1.1.0 h.1.1.0 i)
    (cuts 8 (u RD) rd a.1.0 h.1.0 i))
forth (insn.Multiply (multiply.Long false true rm ra rn rd)) = λ u s a h i. insn.Multiply
    (multiply.Long false true (cuts 8 (u RM) rm a.1.1.0 h.1.1.0 i) (cuts 8 (u RA) ra a.1.1.1.0 h.1.1.1.0 i) (cuts 8 (u RN) rn a.1.0 h.1.0 i)
    (cuts 8 (u RD) rd a.0 h.0 i))
forth (insn.Multiply (multiply.Long true true rm ra rn rd)) = λ u s a h i. insn.Multiply
    (multiply.Long true true (cuts 8 (u RM) rm a.1.1.0 h.1.1.0 i) (cuts 8 (u RA) ra a.1.1.1.0 h.1.1.1.0 i) (cuts 8 (u RN) rn a.1.0 h.1.0 i)
    (cuts 8 (u RD) rd a.0 h.0 i))
forth (insn.Multiply (multiply.Long false false rm ra rn rd)) = λ u s a h i. insn.Multiply
    (multiply.Long false false (cuts 8 (u RM) rm a.1.1.0 h.1.1.0 i) (cuts 8 (u RA) ra a.1.1.1.0 h.1.1.1.0 i)
    (cuts 8 (u RN) rn a.1.0 h.1.0 i) (cuts 8 (u RD) rd a.0 h.0 i))
forth (insn.Multiply (multiply.Long true false rm ra rn rd)) = λ u s a h i. insn.Multiply
    (multiply.Long true false (cuts 8 (u RM) rm a.1.1.0 h.1.1.0 i) (cuts 8 (u RA) ra a.1.1.1.0 h.1.1.1.0 i) (cuts 8 (u RN) rn a.1.0 h.1.0 i)
    (cuts 8 (u RD) rd a.0 h.0 i))
forth (insn.Multiply (multiply.High true rm rn rd)) = λ u s a h i. insn.Multiply (multiply.High true (cuts 8 (u RM) rm a.1.1.0 h.1.1.0 i)
    (cuts 8 (u RN) rn a.1.0 h.1.0 i) (cuts 8 (u RD) rd a.0 h.0 i))
forth (insn.Multiply (multiply.High false rm rn rd)) = λ u s a h i. insn.Multiply (multiply.High false (cuts 8 (u RM) rm a.1.1.0 h.1.1.0 i)
    (cuts 8 (u RN) rn a.1.0 h.1.0 i) (cuts 8 (u RD) rd a.0 h.0 i))
forth (insn.LoadStore x) = remade_load_store x x.address refl
forth (insn.LoadLiteral x) = λ u s a h i. insn.LoadLiteral (record { op = x.op; words = a.1.0 i; rt = cuts 8 (u RT) x.rt a.0 h.0 i })
forth (insn.LoadStorePair x) = λ u s a h i. insn.LoadStorePair (record {
  op = x.op;
  wide = x.wide;
  index = x.index;
  offset = a.1.1.1.0 i;
  rn = cuts 8 (u RN) x.rn a.1.1.0 h.1.1.0 i;
  rt = cuts 8 (u RT) x.rt a.0 h.0 i;
  rt2 = cuts 8 (u RT2) x.rt2 a.1.0 h.1.0 i;
})
forth (insn.Atomic (atomic.Ldar size rn rt)) = λ u s a h i. insn.Atomic (atomic.Ldar (access_size_is (u SIZE) size a.0 i)
    (cuts 8 (u RN) rn a.1.1.0 h.1.1.0 i) (cuts 8 (u RT) rt a.1.0 h.1.0 i))
forth (insn.Atomic (atomic.Stlr size rn rt)) = λ u s a h i. insn.Atomic (atomic.Stlr (access_size_is (u SIZE) size a.0 i)
    (cuts 8 (u RN) rn a.1.1.0 h.1.1.0 i) (cuts 8 (u RT) rt a.1.0 h.1.0 i))
forth (insn.Atomic (atomic.Cas size acquire release rs rn rt)) = λ u s a h i. insn.Atomic (atomic.Cas (access_size_is (u SIZE) size a.0 i)
    (one (u CAS_ACQUIRE) acquire a.1.0 i) (one (u CAS_RELEASE) release a.1.1.0 i) (cuts 8 (u RS) rs a.1.1.1.0 h.1.1.1.0 i)
    (cuts 8 (u RN) rn a.1.1.1.1.1.0 h.1.1.1.1.1.0 i) (cuts 8 (u RT) rt a.1.1.1.1.0 h.1.1.1.1.0 i))
forth (insn.Atomic (atomic.Swap size acquire release rs rn rt)) = λ u s a h i. insn.Atomic (atomic.Swap (access_size_is (u SIZE) size a.0 i)
    (one (u ACQUIRE) acquire a.1.0 i) (one (u RELEASE) release a.1.1.0 i) (cuts 8 (u RS) rs a.1.1.1.0 h.1.1.1.0 i)
    (cuts 8 (u RN) rn a.1.1.1.1.1.0 h.1.1.1.1.1.0 i) (cuts 8 (u RT) rt a.1.1.1.1.0 h.1.1.1.1.0 i))
forth (insn.Atomic (atomic.Update op size acquire release rs rn rt)) = λ u s a h i. insn.Atomic
    (atomic.Update op (access_size_is (u SIZE) size a.0 i) (one (u ACQUIRE) acquire a.1.0 i) (one (u RELEASE) release a.1.1.0 i)
    (cuts 8 (u RS) rs a.1.1.1.0 h.1.1.1.0 i) (cuts 8 (u RN) rn a.1.1.1.1.1.0 h.1.1.1.1.1.0 i) (cuts 8 (u RT) rt a.1.1.1.1.0 h.1.1.1.1.0 i))
forth (insn.System (system.Svc imm)) = λ u s a h i. insn.System (system.Svc (cuts 16 (u IMM16) imm a.0 h.0 i))
forth (insn.System (system.Brk imm)) = λ u s a h i. insn.System (system.Brk (cuts 16 (u IMM16) imm a.0 h.0 i))
forth (insn.System (system.Udf imm)) = λ u s a h i. insn.System (system.Udf (cuts 16 (u UDF_IMM16) imm a.0 h.0 i))
forth (insn.System (system.Hint number)) = λ u s a h i. insn.System (system.Hint (cuts 8 (u HINT) number a.0 h.0 i))
forth (insn.System (system.Dmb option)) = λ u s a h i. insn.System (system.Dmb (cuts 8 (u CRM) option a.0 h.0 i))
forth (insn.System (system.Dsb option)) = λ u s a h i. insn.System (system.Dsb (cuts 8 (u CRM) option a.0 h.0 i))
forth (insn.System (system.Isb option)) = λ u s a h i. insn.System (system.Isb (cuts 8 (u CRM) option a.0 h.0 i))
forth (insn.SystemMove x) = λ u s a h i. insn.SystemMove (record { op = x.op; register = x.register; rt = cuts 8 (u RT) x.rt a.0 h.0 i })
forth other = tt
