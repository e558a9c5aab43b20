-- The fields of an instruction that a row gives are in their ranges.
use Rattle.std.proofs.Common.{◌≡◌, ◌≢◌, ℕ, ◌%◌, ◌<◌, ◌^◌, ◌==◌, Bool, true, false, not, ◌&&◌, ◌||◌, nat_lt, refl, sym, ap, ap₂, ◌∙◌, subst}
use Rattle.std.proofs.Common.{arith, eqb-true, eq-eqb}
use Rattle.std.proofs.lemmas.Bool.{ltb-true, and_parts}
use Rattle.plain_lemmas.proofs.Tests.{implied, ne_from_not_eqb}
use Rattle.bit_ops.specs.Masks.{are_mask_fields}
use Rattle.insn_forms.specs.declared.field.Field.{Field}
use Rattle.insn_forms.specs.Fields.{field_in}
use Rattle.insn_forms.specs.Tables.{Means, numbers_in, signed_numbers_in}
use Rattle.insn_forms.proofs.Bits.{field_in-lt}
use Rattle.insn_forms.proofs.Numbers.{all_below, below, small, half_small, cut_below, uncut, signed_ranged as signed_small}
use Rattle.sm_types.specs.declared.insn as types
use types.PairIndex.TheVariants.{Offset, PostIndex, PreIndex}
use types.{Insn.Insn, ShiftKind.TheVariants.Ror, OneSourceOp.OneSourceOp, OneSourceOp.TheVariants.Rev64, PairOp.PairOp}
use types.{PairOp.TheVariants.Stp, PairOp.TheVariants.Ldp, PairIndex.PairIndex}
use Rattle.a64_table.specs.declared.fields.TheConstants.{BIT, CRM, HINT, HW, IMM12, IMM14, IMM16, IMM19, IMM21, IMM26, IMM5, IMM7, IMM9}
use Rattle.a64_table.specs.declared.fields.TheConstants.{IMMR, IMMS, N, NZCV, OPC, OPTION, RA, RD, RM, RN, RS, RT, RT2, SF, SHIFT, SIZE}
use Rattle.a64_table.specs.declared.fields.TheConstants.{UDF_IMM16}
use Rattle.a64_table.specs.declared.operation as operations
use operations.Operation.TheVariants.{G1, G2, G3, G4, G5, G6, G7, G8, G9, G10, G11, G12, G13, G14, G15, G16, G17, G18, G19, G20, G21, G22}
use operations.Operation.TheVariants.{G23}
use operations.BranchOp.TheVariants.{B, Bl, BCond, Cbz, Cbnz, Tbz, Tbnz}
use operations.SystemOp.TheVariants.{Svc, Brk, Udf, Hint}
use operations.{Operation.Operation, BranchOp.BranchOp, MultiplyOp.MultiplyOp, MultiplyOp.TheVariants.Smulh, MultiplyOp.TheVariants.Umulh}
use operations.{AddressForm.AddressForm, AtomicForm.AtomicForm, AtomicForm.TheVariants.Ldar, AtomicForm.TheVariants.Stlr, SystemOp.SystemOp}
use operations.AddressForm.TheVariants as form
use Rattle.a64_table.specs.Values.{shift_of, shift_number, extend_of, access_size_of, load_store_op_of}
use Rattle.a64_table.specs.Conditions.{fits_of, is_below_width, has_load, is_address_option, is_apart, are_two, is_pair_apart}
use Rattle.a64_table.specs.Named.{shifted_register, extended_register, named_branch, compare_operand, is_wide_source, named_multiply}
use Rattle.a64_table.specs.Named.{named_address, named_atomic, named_system, named}
use Rattle.bit_ops.specs.Bits.{width_of}
use Rattle.a64_table.specs.Ranges.{IsInRow, is_address_extend, has_size, IsAddress, writes_base, IsBranch, IsMultiply, IsAtomic, IsSystem}
use Rattle.a64_table.specs.Ranges.{IsCompareOperand}
use Rattle.a64_table.specs.Table.{scalar}
use Rattle.a64_table.proofs.Numbers.{shift_back}

-- ---- conditions
below_two : (b : Bool) (n : ℕ) → (b || nat_lt n 2) ≡ true → b ≡ false → n < 2
below_two true n f e = cc
below_two false n f e = ltb-true _ _ f

below_width : (b : Bool) (n : ℕ) → is_below_width b n ≡ true → n % 2 ^ 8 < width_of b
unfolding is_below_width
below_width true n f = cut_below n 64 (ltb-true _ _ f)
below_width false n f = cut_below n 32 (ltb-true _ _ f)

-- a number of two bits that is not 3 is no rotation
no_rotation : (n : ℕ) → n < 4 → not (n == 3) ≡ true → shift_of n ≢ Ror
no_rotation n small f e = ne_from_not_eqb n 3 f (sym (shift_back n small) ∙ ap shift_number e)

-- an extension of an address is from a word or a doubleword
address_extend : (n : ℕ) → n < 8 → is_address_option n ≡ true → is_address_extend (extend_of n) ≡ true
unfolding is_address_option extend_of all_below
address_extend n small f =
    implied (is_address_option n) _ (below (λ k. not (is_address_option k) || is_address_extend (extend_of k)) 8 n refl small) f

-- a signed load is of less bits than it gives
load_sized : (size opc : ℕ) → size < 4 → opc < 4 → has_load size opc ≡ true → has_size (load_store_op_of opc) (access_size_of size) ≡ true
unfolding has_load load_store_op_of access_size_of all_below
load_sized size opc s o f =
    let all = below (λ m. all_below (λ k. not (has_load m k) || has_size (load_store_op_of k) (access_size_of m)) 4) 4 size refl s in
    implied (has_load size opc) _ (below (λ k. not (has_load size k) || has_size (load_store_op_of k) (access_size_of size)) 4 opc all o) f

or_else : (p q : Bool) → (p || q) ≡ true → (p ≡ true → ⊥) → q ≡ true
or_else true q f h = absurd (h refl)
or_else false q f h = f

-- the registers of fields of 5 bits, as they are kept
module _ (w : ℕ) where
  abbrev register : Field → ℕ
  register f = field_in f w % 2 ^ 8

  apart : is_apart (field_in RN w) (field_in RT w) ≡ true → register RN ≡ register RT → register RN ≡ 31
  unfolding is_apart
  apart f e =
      let rn = uncut RN w (omega arith) in
      let rt = uncut RT w (omega arith) in
      rn ∙ eqb-true _ _ (implied (field_in RN w == field_in RT w) _ f (eq-eqb _ _ (sym rn ∙ e ∙ rt)))

  two : (op : PairOp) → are_two op (field_in RT w) (field_in RT2 w) ≡ true → op ≡ Ldp → register RT ≢ register RT2
  unfolding are_two
  two Ldp f e g = ne_from_not_eqb _ _ f (sym (uncut RT w (omega arith)) ∙ g ∙ uncut RT2 w (omega arith))
  two Stp f e g = cc

  written_apart : (field_in RN w == 31 || (not (field_in RN w == field_in RT w) && not (field_in RN w == field_in RT2 w))) ≡ true
      → register RN ≢ 31 → (register RN ≢ register RT) × (register RN ≢ register RT2)
  written_apart f n =
      let rn = uncut RN w (omega arith) in
      let both = and_parts _ _ (or_else _ _ f (λ e. n (rn ∙ eqb-true _ _ e))) in (
        λ e. ne_from_not_eqb _ _ both.0 (sym rn ∙ e ∙ uncut RT w (omega arith)),
        λ e. ne_from_not_eqb _ _ both.1 (sym rn ∙ e ∙ uncut RT2 w (omega arith)),
      )

  pair_apart : (index : PairIndex) → is_pair_apart index (field_in RN w) (field_in RT w) (field_in RT2 w) ≡ true → index ≢ Offset
      → register RN ≢ 31 → (register RN ≢ register RT) × (register RN ≢ register RT2)
  unfolding is_pair_apart
  pair_apart Offset f o n = absurd (o refl)
  pair_apart PostIndex f o n = written_apart f n
  pair_apart PreIndex f o n = written_apart f n

  -- ---- by operation
  branch_ranged : (op : BranchOp) → IsBranch (named_branch op (numbers_in w) (signed_numbers_in w))
  unfolding named_branch
  branch_ranged B = signed_small IMM26 w (omega arith)
  branch_ranged Bl = signed_small IMM26 w (omega arith)
  branch_ranged BCond = signed_small IMM19 w (omega arith)
  branch_ranged Cbz = (signed_small IMM19 w (omega arith), small RT w)
  branch_ranged Cbnz = (signed_small IMM19 w (omega arith), small RT w)
  branch_ranged Tbz = (small BIT w, signed_small IMM14 w (omega arith), small RT w)
  branch_ranged Tbnz = (small BIT w, signed_small IMM14 w (omega arith), small RT w)

  compare_ranged : (immediate : Bool) → IsCompareOperand (compare_operand immediate (numbers_in w))
  unfolding compare_operand
  compare_ranged true = small IMM5 w
  compare_ranged false = small RM w

  doubleword_wide : (op : OneSourceOp) → op ≡ Rev64 → is_wide_source op (numbers_in w) ≡ true
  unfolding is_wide_source
  doubleword_wide Rev64 e = refl
  doubleword_wide _ e = cc

  multiply_ranged : (op : MultiplyOp) → IsMultiply (named_multiply op (numbers_in w))
  unfolding named_multiply
  multiply_ranged Smulh = (small RM w, small RN w, small RD w)
  multiply_ranged Umulh = (small RM w, small RN w, small RD w)
  multiply_ranged _ = (small RM w, small RA w, small RN w, small RD w)

  -- a load or store by its size, its address and its registers
  is_ranged : (f : AddressForm) → has_load (field_in SIZE w) (field_in OPC w) ≡ true
      → IsAddress (named_address f (numbers_in w) (signed_numbers_in w))
      → (writes_base (named_address f (numbers_in w) (signed_numbers_in w)) ≡ true → is_apart (field_in RN w) (field_in RT w) ≡ true)
      → IsInRow (named (G18 f) (numbers_in w) (signed_numbers_in w))
  unfolding named
  is_ranged f l a e = record {
    size = load_sized _ _ (field_in-lt SIZE w) (field_in-lt OPC w) l;
    address = a;
    apart = λ b. apart (e b);
    rn = small RN w;
    rt = small RT w;
  }

  load_store_ranged : (f : AddressForm) → fits_of (G18 f) (numbers_in w) ≡ true
      → IsInRow (named (G18 f) (numbers_in w) (signed_numbers_in w))
  unfolding fits_of named_address
  load_store_ranged form.Offset f = is_ranged form.Offset f (half_small IMM12 w) (λ e. cc)
  load_store_ranged form.Unscaled f = is_ranged form.Unscaled f (signed_small IMM9 w (omega arith)) (λ e. cc)
  load_store_ranged form.PostIndex f = let p = and_parts _ _ f in is_ranged form.PostIndex p.0
      (signed_small IMM9 w (omega arith)) (λ e. p.1)
  load_store_ranged form.PreIndex f = let p = and_parts _ _ f in is_ranged form.PreIndex p.0 (signed_small IMM9 w (omega arith)) (λ e. p.1)
  load_store_ranged form.Register f =
      let p = and_parts _ _ f in
      is_ranged form.Register p.0 (small RM w, address_extend _ (field_in-lt OPTION w) p.1) (λ e. cc)

  atomic_ranged : (f : AtomicForm) → IsAtomic (named_atomic f (numbers_in w))
  unfolding named_atomic
  atomic_ranged Ldar = (small RN w, small RT w)
  atomic_ranged Stlr = (small RN w, small RT w)
  atomic_ranged _ = (small RS w, small RN w, small RT w)

  system_ranged : (op : SystemOp) → IsSystem (named_system op (numbers_in w))
  unfolding named_system
  system_ranged Svc = half_small IMM16 w
  system_ranged Brk = half_small IMM16 w
  system_ranged Udf = half_small UDF_IMM16 w
  system_ranged Hint = small HINT w
  system_ranged _ = small CRM w

  operation_ranged : (op : Operation) → fits_of op (numbers_in w) ≡ true → IsInRow (named op (numbers_in w) (signed_numbers_in w))
  unfolding fits_of named shifted_register extended_register
  operation_ranged (G1 op) f = record { imm = half_small IMM12 w; rn = small RN w; rd = small RD w }
  operation_ranged (G2 op) f =
      let p = and_parts _ _ f in
      record {
        operand = record { rm = small RM w; amount = below_width _ _ p.1 };
        shift = no_rotation _ (field_in-lt SHIFT w) p.0;
        rn = small RN w;
        rd = small RD w;
      }
  operation_ranged (G3 op inverted) f = record {
    operand = record { rm = small RM w; amount = below_width _ _ f };
    rn = small RN w;
    rd = small RD w;
  }
  operation_ranged (G4 op) f = record {
    operand = record { rm = small RM w; amount = cut_below _ 5 (ltb-true _ _ f) };
    rn = small RN w;
    rd = small RD w;
  }
  operation_ranged (G5 op) f = record {
    mask = ap₂ (λ a b. are_mask_fields (field_in N w == 1) a b (field_in SF w == 1)) (uncut IMMS w (omega arith))
        (uncut IMMR w (omega arith)) ∙ f;
    immr = small IMMR w;
    imms = small IMMS w;
    rn = small RN w;
    rd = small RD w;
  }
  operation_ranged (G6 op) f = record {
    imm = half_small IMM16 w;
    hw = small HW w;
    narrow = λ e. cut_below _ 2 (below_two _ _ f e);
    rd = small RD w;
  }
  operation_ranged (G7 op wide) f = let p = and_parts _ _ f in record {
    immr = below_width _ _ p.0;
    imms = below_width _ _ p.1;
    rn = small RN w;
    rd = small RD w;
  }
  operation_ranged (G8 wide) f = record { rm = small RM w; lsb = below_width _ _ f; rn = small RN w; rd = small RD w }
  operation_ranged (G9 op) f = record { imm = signed_small IMM21 w (omega arith); rd = small RD w }
  operation_ranged (G10 op) f = branch_ranged op
  operation_ranged (G11 op) f = small RN w
  operation_ranged (G12 op) f = record { rm = small RM w; rn = small RN w; rd = small RD w }
  operation_ranged (G13 op) f = record { rm = small RM w; rn = small RN w; rd = small RD w }
  operation_ranged (G14 op immediate) f = record { operand = compare_ranged immediate; nzcv = small NZCV w; rn = small RN w }
  operation_ranged (G15 op) f = record { doubleword = doubleword_wide op; rn = small RN w; rd = small RD w }
  operation_ranged (G16 op) f = record { rm = small RM w; rn = small RN w; rd = small RD w }
  operation_ranged (G17 op) f = multiply_ranged op
  operation_ranged (G18 form) f = load_store_ranged form f
  operation_ranged (G19 op) f = record { words = signed_small IMM19 w (omega arith); rt = small RT w }
  operation_ranged (G20 op wide index) f =
      let p = and_parts _ _ f in
      record {
        offset = signed_small IMM7 w (omega arith);
        two = two op p.0;
        apart = pair_apart index p.1;
        rn = small RN w;
        rt = small RT w;
        rt2 = small RT2 w;
      }
  operation_ranged (G21 form) f = atomic_ranged form
  operation_ranged (G22 op) f = system_ranged op
  operation_ranged (G23 op register) f = small RT w

pub ranged : (w : ℕ) (it : Insn) → Means scalar w it → IsInRow it
unfolding scalar
ranged w it m = subst IsInRow (sym m.gives) (operation_ranged w m.line.operation m.fits)
