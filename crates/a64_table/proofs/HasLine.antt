-- An instruction whose fields are in their ranges is in its row: its numbers are in the row's fields, and meet its condition.
use Rattle.std.proofs.Common.{◌≡◌, ◌≢◌, ℕ, ◌<◌, ◌==◌, Bool, true, false, not, ◌||◌, nat_lt, refl, sym, ap, ap₂, ◌∙◌, subst, arith, eqb-true}
use Rattle.std.proofs.Common.{List, Some, ℤ}
use Rattle.std.proofs.lemmas.Bool.{lt-ltb}
use Rattle.bit_ops.specs.Masks.{are_mask_fields}
use Rattle.insn_forms.specs.declared.field.Field.{Field}
use Rattle.insn_forms.specs.declared.number.Parts.{Parts}
use Rattle.insn_forms.specs.Forms.{flag_bit, are_in, is_in, padded}
use Rattle.insn_forms.proofs.Laws.{agrees}
use Rattle.insn_forms.proofs.Tables.{IsInLine}
use Rattle.insn_forms.proofs.Numbers.{◌&◌, low, flag, tag, twos_complement as signed}
use Rattle.insn_forms.proofs.Ways.{eight, field_of_slot}
use Rattle.sm_types.specs.declared.insn as types
use types.Extend.TheVariants.{Uxtw, Uxtx, Sxtw, Sxtx}
use types.AccessSize.TheVariants.{Byte, Word, Doubleword}
use types.LoadStoreOp.TheVariants.{Store, Load, LoadSignedTo64, LoadSignedTo32}
use types.PairIndex.TheVariants.{Offset, PostIndex, PreIndex}
use types.{Insn.Insn, ShiftKind.ShiftKind, ShiftKind.TheVariants.Ror, Extend.Extend, AccessSize.AccessSize, LoadStoreOp.LoadStoreOp}
use types.{CompareOperand.CompareOperand, ConditionalCompare.ConditionalCompare, OneSource.OneSource, OneSourceOp.OneSourceOp}
use types.{OneSourceOp.TheVariants.Rev64, Address.Address, LoadStore.LoadStore, PairOp.PairOp, PairOp.TheVariants.Stp}
use types.{PairOp.TheVariants.Ldp, PairIndex.PairIndex}
use types.Insn.TheVariants as insn
use types.Branch.TheVariants as branch
use types.CompareOperand.TheVariants as operand
use types.Multiply.TheVariants as multiply
use types.Address.TheVariants as address
use types.Atomic.TheVariants as atomic
use types.System.TheVariants as system
use Rattle.sm_types.specs.contracts.insn as enums
use Rattle.a64_table.specs.declared.operation.Operation.{Operation}
use Rattle.a64_table.specs.Values.{shift_number, extend_number, access_size_number, load_store_op_number}
use Rattle.a64_table.specs.Conditions.{fits_of, is_below_width, has_load, is_address_option, is_apart, are_two, is_pair_apart}
use Rattle.a64_table.specs.Parts.{branch_parts, compare_says, compare_parts, doubleword_parts, one_source_parts, multiply_parts}
use Rattle.a64_table.specs.Parts.{load_store_says, load_store_parts, atomic_parts, system_parts, parts_of}
use Rattle.bit_ops.specs.Bits.{width_of}
use Rattle.a64_table.specs.Ranges.{IsInRow, is_address_extend, has_size, IsAddress, writes_base, IsCompareOperand, IsConditionalCompare}
use Rattle.a64_table.specs.Ranges.{IsOneSource, IsLoadStore}
use Rattle.a64_table.specs.Table.{scalar}
use Rattle.a64_table.proofs.Checks.{has_row, row-format}
use Rattle.a64_table.proofs.Groups.{format, slots, kept}

width_small : (b : Bool) (n : ℕ) → n < width_of b → n < 64
width_small true n lt = lt
width_small false n lt = omega arith

-- ---- conditions
is_flag : (b : Bool) → (flag_bit b == 1) ≡ b
is_flag true = refl
is_flag false = refl

within_width : (b : Bool) (n : ℕ) → n < width_of b → is_below_width b n ≡ true
unfolding is_below_width
within_width true n lt = lt-ltb n 64 lt
within_width false n lt = lt-ltb n 32 lt

not_ror : (it : ShiftKind) → it ≢ Ror → not (shift_number it == 3) ≡ true
not_ror Ror h = absurd (h refl)
not_ror _ h = refl

low_halfword : (b : Bool) (n : ℕ) → (b ≡ false → n < 2) → (b || nat_lt n 2) ≡ true
low_halfword true n h = refl
low_halfword false n h = lt-ltb n 2 (h refl)

sized : (op : LoadStoreOp) (size : AccessSize) → has_size op size ≡ true
    → has_load (access_size_number size) (load_store_op_number op) ≡ true
unfolding has_load
sized Store Byte e = refl
sized Load Byte e = refl
sized LoadSignedTo64 Doubleword e = cc
sized LoadSignedTo32 Word e = cc
sized LoadSignedTo32 Doubleword e = cc
sized _ _ e = refl

address_option : (it : Extend) → is_address_extend it ≡ true → is_address_option (extend_number it) ≡ true
unfolding is_address_option
address_option Uxtw e = refl
address_option Uxtx e = refl
address_option Sxtw e = refl
address_option Sxtx e = refl
address_option _ e = cc

test : (m n : ℕ) → ((m == n) ≡ true → ⊥) → not (m == n) ≡ true
test m n h = go (m == n) h
  where
    go : (b : Bool) → (b ≡ true → ⊥) → not b ≡ true
    go true h = absurd (h refl)
    go false h = refl

unequal : (m n : ℕ) → m ≢ n → not (m == n) ≡ true
unequal m n h = test m n (λ e. h (eqb-true m n e))

or_31 : (rn : ℕ) (b : Bool) → (rn ≢ 31 → b ≡ true) → (rn == 31 || b) ≡ true
or_31 rn b h = go (rn == 31) refl
  where
    go : (t : Bool) → (rn == 31) ≡ t → (t || b) ≡ true
    go true e = refl
    go false e = h (λ x. cc (sym e ∙ ap (λ k. k == 31) x))

base_apart : (rn rt : ℕ) → (rn ≡ rt → rn ≡ 31) → is_apart rn rt ≡ true
unfolding is_apart
base_apart rn rt h = go (rn == rt) refl
  where
    go : (t : Bool) → (rn == rt) ≡ t → (not t || rn == 31) ≡ true
    go true e = ap (λ k. k == 31) (h (eqb-true rn rt e))
    go false e = refl

two_apart : (op : PairOp) (rt rt2 : ℕ) → (op ≡ Ldp → rt ≢ rt2) → are_two op rt rt2 ≡ true
unfolding are_two
two_apart Ldp rt rt2 h = unequal rt rt2 (h refl)
two_apart Stp rt rt2 h = refl

pair_apart : (index : PairIndex) (rn rt rt2 : ℕ) → (index ≢ Offset → rn ≢ 31 → (rn ≢ rt) × (rn ≢ rt2))
    → is_pair_apart index rn rt rt2 ≡ true
unfolding is_pair_apart
pair_apart Offset rn rt rt2 h = refl
pair_apart PostIndex rn rt rt2 h = or_31 rn _ (λ n. let p = h (λ e. cc) n in unequal rn rt p.0 & unequal rn rt2 p.1)
pair_apart PreIndex rn rt rt2 h = or_31 rn _ (λ n. let p = h (λ e. cc) n in unequal rn rt p.0 & unequal rn rt2 p.1)

-- ---- an instruction in its row
made : (it : Insn) (p : Parts Operation) → parts_of it ≡ Some p → are_in (format p.operation) p.numbers ≡ true
    → ((u : Field → ℕ) (s : Field → ℤ) → agrees (format p.operation) p.numbers u s → fits_of p.operation u ≡ true)
    → IsInLine scalar parts_of it
unfolding scalar
made it p e w f =
    let r = has_row p.operation in
    let same = row-format r.place r.row r.listed ∙ ap format r.same in
    record {
      told = p;
      has = e;
      place = r.place;
      line = r.row;
      listed = r.listed;
      same = r.same;
      within = ap (λ fs. are_in fs p.numbers) same ∙ w;
      fits = λ u s a. ap (λ o. fits_of o u) r.same ∙ f u s (subst (λ (fs : List Field). agrees fs p.numbers u s) same a);
    }

-- a conditional compare, by its second operand
compare_line : (x : ConditionalCompare) (second : CompareOperand) → x.operand ≡ second → IsConditionalCompare x
    → IsInLine scalar parts_of (insn.ConditionalCompare x)
unfolding are_in is_in format slots eight kept field_of_slot padded agrees fits_of parts_of compare_parts compare_says
compare_line x (operand.Register rm) e h =
    made _ _ (ap (compare_parts x) e)
    (flag x.wide & low h.rn & low (subst IsCompareOperand e h.operand) & low h.nzcv & tag enums.Condition.the_type x.condition & refl)
    (λ u s a. refl)
compare_line x (operand.Immediate imm) e h =
    made _ _ (ap (compare_parts x) e)
    (flag x.wide & low h.rn & low (subst IsCompareOperand e h.operand) & low h.nzcv & tag enums.Condition.the_type x.condition & refl)
    (λ u s a. refl)

-- an operation on one register
one_source_line : (x : OneSource) (op : OneSourceOp) → x.op ≡ op → IsOneSource x → IsInLine scalar parts_of (insn.OneSource x)
unfolding are_in is_in format slots eight kept field_of_slot padded agrees fits_of parts_of one_source_parts doubleword_parts
one_source_line x Rev64 e h =
    made _ _ (ap (one_source_parts x) e ∙ ap (doubleword_parts x) (h.doubleword e)) (low h.rd & low h.rn & refl) (λ u s a. refl)
one_source_line x op e h = made _ _ (ap (one_source_parts x) e) (flag x.wide & low h.rd & low h.rn & refl) (λ u s a. refl)

-- a load or store, by its address
load_store_line : (x : LoadStore) (a : Address) → x.address ≡ a → IsLoadStore x → IsInLine scalar parts_of (insn.LoadStore x)
unfolding are_in is_in format slots eight kept field_of_slot padded agrees fits_of parts_of load_store_parts load_store_says
load_store_line x (address.Offset imm) e h =
    made _ _ (ap (load_store_parts x) e)
    (tag enums.AccessSize.the_type x.size & tag enums.LoadStoreOp.the_type x.op & low h.rt & low h.rn & low
    (subst IsAddress e h.address) & refl)
    (λ u s a. ap₂ has_load a.0 a.1.0 ∙ sized x.op x.size h.size)
load_store_line x (address.Unscaled offset) e h =
    made _ _ (ap (load_store_parts x) e)
    (tag enums.AccessSize.the_type x.size & tag enums.LoadStoreOp.the_type x.op & low h.rt & low h.rn & signed 9 offset (omega arith)
    (subst IsAddress e h.address) & refl)
    (λ u s a. ap₂ has_load a.0 a.1.0 ∙ sized x.op x.size h.size)
load_store_line x (address.PostIndex offset) e h =
    made _ _ (ap (load_store_parts x) e)
    (tag enums.AccessSize.the_type x.size & tag enums.LoadStoreOp.the_type x.op & low h.rt & low h.rn & signed 9 offset (omega arith)
    (subst IsAddress e h.address) & refl)
    (λ u s a. (ap₂ has_load a.0 a.1.0 ∙ sized x.op x.size h.size) & (ap₂ is_apart a.1.1.1.0 a.1.1.0
    ∙ base_apart _ _ (h.apart (ap writes_base e))))
load_store_line x (address.PreIndex offset) e h =
    made _ _ (ap (load_store_parts x) e)
    (tag enums.AccessSize.the_type x.size & tag enums.LoadStoreOp.the_type x.op & low h.rt & low h.rn & signed 9 offset (omega arith)
    (subst IsAddress e h.address) & refl)
    (λ u s a. (ap₂ has_load a.0 a.1.0 ∙ sized x.op x.size h.size) & (ap₂ is_apart a.1.1.1.0 a.1.1.0
    ∙ base_apart _ _ (h.apart (ap writes_base e))))
load_store_line x (address.Register rm extend scaled) e h =
    made _ _ (ap (load_store_parts x) e)
    (tag enums.AccessSize.the_type x.size & tag enums.LoadStoreOp.the_type x.op & low h.rt & low h.rn & low (subst IsAddress e h.address).0
    & tag enums.Extend.the_type extend & flag scaled & refl)
    (λ u s a. (ap₂ has_load a.0 a.1.0 ∙ sized x.op x.size h.size) & (ap is_address_option a.1.1.1.1.1.0 ∙ address_option extend
    (subst IsAddress e h.address).1))

pub in_line : (it : Insn) → IsInRow it → IsInLine scalar parts_of it
unfolding are_in is_in format slots eight kept field_of_slot padded agrees fits_of parts_of branch_parts multiply_parts atomic_parts
    system_parts
in_line (insn.AddSubImmediate x) h = made _ _ refl (flag x.wide & low h.rd & low h.rn & low h.imm & flag x.shifted & refl) (λ u s a. refl)
in_line (insn.AddSubRegister x) h =
    made _ _ refl
    (flag x.wide & low h.rd & low h.rn & low h.operand.rm & tag enums.ShiftKind.the_type x.operand.shift & low
    (width_small x.wide _ h.operand.amount) & refl)
    (λ u s a. (ap (λ k. not (k == 3)) a.1.1.1.1.0 ∙ not_ror x.operand.shift h.shift) & (ap₂ is_below_width (ap (λ k. k == 1) a.0
    ∙ is_flag x.wide) a.1.1.1.1.1.0 ∙ within_width x.wide _ h.operand.amount))
in_line (insn.LogicalRegister x) h =
    made _ _ refl
    (flag x.wide & low h.rd & low h.rn & low h.operand.rm & tag enums.ShiftKind.the_type x.operand.shift & low
    (width_small x.wide _ h.operand.amount) & refl)
    (λ u s a. ap₂ is_below_width (ap (λ k. k == 1) a.0 ∙ is_flag x.wide) a.1.1.1.1.1.0 ∙ within_width x.wide _ h.operand.amount)
in_line (insn.AddSubExtended x) h =
    made _ _ refl
    (flag x.wide & low h.rd & low h.rn & low h.operand.rm & tag enums.Extend.the_type x.operand.extend & lt-ltb _ 8
    (let lt = h.operand.amount in omega arith) & refl)
    (λ u s a. ap (λ k. nat_lt k 5) a.1.1.1.1.1.0 ∙ low h.operand.amount)
in_line (insn.LogicalImmediate x) h =
    made _ _ refl (flag x.wide & low h.rd & low h.rn & flag x.n & low h.immr & low h.imms & refl)
    (λ u s a. (λ i. are_mask_fields (a.1.1.1.0 i == 1) (a.1.1.1.1.1.0 i) (a.1.1.1.1.0 i) (a.0 i == 1))
    ∙ ap₂ (λ b c. are_mask_fields b x.imms x.immr c) (is_flag x.n) (is_flag x.wide) ∙ h.mask)
in_line (insn.MoveWide x) h =
    made _ _ refl (flag x.wide & low h.rd & low h.imm & low h.hw & refl)
    (λ u s a. (λ i. (a.0 i == 1) || nat_lt (a.1.1.1.0 i) 2) ∙ ap (λ b. b || nat_lt x.hw 2) (is_flag x.wide) ∙ low_halfword x.wide
    x.hw h.narrow)
in_line (insn.BitfieldMove x) h =
    made _ _ refl (low h.rd & low h.rn & low (width_small x.wide _ h.immr) & low (width_small x.wide _ h.imms) & refl)
    (λ u s a. (ap (is_below_width x.wide) a.1.1.0 ∙ within_width x.wide _ h.immr) & (ap (is_below_width x.wide) a.1.1.1.0
    ∙ within_width x.wide _ h.imms))
in_line (insn.Extract x) h =
    made _ _ refl (low h.rd & low h.rn & low h.rm & low (width_small x.wide _ h.lsb) & refl)
    (λ u s a. ap (is_below_width x.wide) a.1.1.1.0 ∙ within_width x.wide _ h.lsb)
in_line (insn.PcRelative x) h = made _ _ refl (low h.rd & signed 21 x.imm (omega arith) h.imm & refl) (λ u s a. refl)
in_line (insn.Branch (branch.Unconditional false words)) h = made _ _ refl (signed 26 words (omega arith) h & refl) (λ u s a. refl)
in_line (insn.Branch (branch.Unconditional true words)) h = made _ _ refl (signed 26 words (omega arith) h & refl) (λ u s a. refl)
in_line (insn.Branch (branch.Conditional c words)) h = made _ _ refl (tag enums.Condition.the_type c & signed 19 words (omega arith) h &
    refl) (λ u s a. refl)
in_line (insn.Branch (branch.Compare false wide words rt)) h = made _ _ refl (flag wide & low h.1 & signed 19 words (omega arith) h.0 &
    refl) (λ u s a. refl)
in_line (insn.Branch (branch.Compare true wide words rt)) h = made _ _ refl (flag wide & low h.1 & signed 19 words (omega arith) h.0 & refl)
    (λ u s a. refl)
in_line (insn.Branch (branch.TestBit false bit words rt)) h = made _ _ refl (low h.2 & low h.0 & signed 14 words (omega arith) h.1 & refl)
    (λ u s a. refl)
in_line (insn.Branch (branch.TestBit true bit words rt)) h = made _ _ refl (low h.2 & low h.0 & signed 14 words (omega arith) h.1 & refl)
    (λ u s a. refl)
in_line (insn.BranchRegister x) h = made _ _ refl (low h & refl) (λ u s a. refl)
in_line (insn.AddSubCarry x) h = made _ _ refl (flag x.wide & low h.rd & low h.rn & low h.rm & refl) (λ u s a. refl)
in_line (insn.ConditionalSelect x) h =
    made _ _ refl (flag x.wide & low h.rd & low h.rn & low h.rm & tag enums.Condition.the_type x.condition & refl) (λ u s a. refl)
in_line (insn.ConditionalCompare x) h = compare_line x x.operand refl h
in_line (insn.OneSource x) h = one_source_line x x.op refl h
in_line (insn.TwoSource x) h = made _ _ refl (flag x.wide & low h.rd & low h.rn & low h.rm & refl) (λ u s a. refl)
in_line (insn.Multiply (multiply.Same false wide rm ra rn rd)) h = made _ _ refl (flag wide & low h.3 & low h.2 & low h.0 & low h.1 & refl)
    (λ u s a. refl)
in_line (insn.Multiply (multiply.Same true wide rm ra rn rd)) h = made _ _ refl (flag wide & low h.3 & low h.2 & low h.0 & low h.1 & refl)
    (λ u s a. refl)
in_line (insn.Multiply (multiply.Long false true rm ra rn rd)) h = made _ _ refl (low h.3 & low h.2 & low h.0 & low h.1 & refl)
    (λ u s a. refl)
in_line (insn.Multiply (multiply.Long true true rm ra rn rd)) h = made _ _ refl (low h.3 & low h.2 & low h.0 & low h.1 & refl)
    (λ u s a. refl)
in_line (insn.Multiply (multiply.Long _ _ rm ra rn rd)) h = made _ _ refl (low h.3 & low h.2 & low h.0 & low h.1 & refl) (λ u s a. refl)
in_line (insn.Multiply (multiply.High true rm rn rd)) h = made _ _ refl (low h.2 & low h.1 & low h.0 & refl) (λ u s a. refl)
in_line (insn.Multiply (multiply.High false rm rn rd)) h = made _ _ refl (low h.2 & low h.1 & low h.0 & refl) (λ u s a. refl)
in_line (insn.LoadStore x) h = load_store_line x x.address refl h
in_line (insn.LoadLiteral x) h = made _ _ refl (low h.rt & signed 19 x.words (omega arith) h.words & refl) (λ u s a. refl)
in_line (insn.LoadStorePair x) h =
    made _ _ refl (low h.rt & low h.rt2 & low h.rn & signed 7 x.offset (omega arith) h.offset & refl)
    (λ u s a. (ap₂ (are_two x.op) a.0 a.1.0 ∙ two_apart x.op _ _ h.two) & ((λ i. is_pair_apart x.index (a.1.1.0 i) (a.0 i) (a.1.0 i))
    ∙ pair_apart x.index _ _ _ h.apart))
in_line (insn.Atomic (atomic.Ldar size rn rt)) h = made _ _ refl (tag enums.AccessSize.the_type size & low h.1 & low h.0 & refl)
    (λ u s a. refl)
in_line (insn.Atomic (atomic.Stlr size rn rt)) h = made _ _ refl (tag enums.AccessSize.the_type size & low h.1 & low h.0 & refl)
    (λ u s a. refl)
in_line (insn.Atomic (atomic.Cas size acquire release rs rn rt)) h =
    made _ _ refl (tag enums.AccessSize.the_type size & flag acquire & flag release & low h.0 & low h.2 & low h.1 & refl) (λ u s a. refl)
in_line (insn.Atomic (atomic.Swap size acquire release rs rn rt)) h =
    made _ _ refl (tag enums.AccessSize.the_type size & flag acquire & flag release & low h.0 & low h.2 & low h.1 & refl) (λ u s a. refl)
in_line (insn.Atomic (atomic.Update op size acquire release rs rn rt)) h =
    made _ _ refl (tag enums.AccessSize.the_type size & flag acquire & flag release & low h.0 & low h.2 & low h.1 & refl) (λ u s a. refl)
in_line (insn.System (system.Svc imm)) h = made _ _ refl (low h & refl) (λ u s a. refl)
in_line (insn.System _) h = made _ _ refl (low h & refl) (λ u s a. refl)
in_line (insn.SystemMove x) h = made _ _ refl (low h & refl) (λ u s a. refl)
in_line other h = absurd h
