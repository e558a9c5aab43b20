-- Instructions that neither read PC nor branch do the same whatever PC is, and move it on by 4.
use Rattle.std.proofs.Common.{◌≡◌, ℕ, ◌+◌, ◌-◌, ◌%◌, ◌^◌, ◌==◌, ◌<◌, Bool, true, false, cond, refl, sym, ap, ◌∙◌, IsTrue}
use Rattle.std.proofs.Common.{slice_set, arith, ℤ, pos, ◌*ℤ◌, add_assoc, mod-eq_of_lt}
use Rattle.std.specs.Int.{w64, cast_unsigned}
use Rattle.std.proofs.Math.Nat.{add-mod-mod, mod-add-mod, add-mod_right}
use Rattle.sm_types.specs.declared.scalars.Scalars.{Scalars}
use Rattle.sm_types.specs.declared.insn.Insn.{Insn}
use Rattle.sm_types.specs.declared.insn.Insn.TheVariants as insn
use Rattle.sm_types.specs.declared.insn.AddSub.{AddSub}
use Rattle.sm_types.specs.declared.insn.AddSub.TheVariants.{Add, Adds, Sub, Subs}
use Rattle.sm_types.specs.declared.insn.Logical.{Logical}
use Rattle.sm_types.specs.declared.insn.Logical.TheVariants.{And, Orr, Eor, Ands}
use Rattle.sm_types.specs.declared.insn.MoveWide.{MoveWide}
use Rattle.sm_types.specs.declared.insn.MoveOp.{MoveOp}
use Rattle.sm_types.specs.declared.insn.MoveOp.TheVariants.{Movn, Movz, Movk}
use Rattle.sm_types.specs.declared.insn.Condition.{Condition}
use Rattle.sm_types.specs.declared.insn.Condition.TheVariants as condition
use Rattle.sm_types.specs.declared.insn.CompareOperand.{CompareOperand}
use Rattle.sm_types.specs.declared.insn.CompareOperand.TheVariants as operand
use Rattle.sm_types.specs.declared.insn.Branch.TheVariants.{Unconditional}
use Rattle.sm_types.specs.declared.insn.BranchRegisterOp.{BranchRegisterOp}
use Rattle.sm_types.specs.declared.insn.BranchRegisterOp.TheVariants.{Br, Blr, Ret}
use Rattle.sm_types.specs.declared.insn.PcRelative.{PcRelative}
use Rattle.sm_types.specs.declared.insn.Multiply.{Multiply}
use Rattle.sm_types.specs.declared.insn.Multiply.TheVariants.{Same, Long, High}
use Rattle.bit_ops.specs.Sums.{sum_flags}
use Rattle.scalar_exec.specs.Registers.{register_of, x_of, x_or_sp, with_x, with_x_or_sp, with_flags, past, next_address}
use Rattle.scalar_exec.specs.Sums.{sum_to_x, sum_to_sp, add_sub_immediate, add_sub_register, add_sub_extended, add_sub_carry}
use Rattle.scalar_exec.specs.Operands.{inverted, extend_reg}
use Rattle.scalar_exec.specs.Logic.{logical_flags, logical_to_x, logical_to_sp, logical_register, logical_immediate}
use Rattle.scalar_exec.specs.Moves.{moved, move_wide, bitfield_move, extract}
use Rattle.scalar_exec.specs.Conditional.{condition_holds, otherwise, conditional_select, conditional_compare, compared}
use Rattle.scalar_exec.specs.Conditional.{compare_flags, flags_of}
use Rattle.scalar_exec.specs.Branches.{branch_target, at_address, branch_if, branch, branch_to, relative_address, pc_relative}
use Rattle.scalar_exec.specs.Sources.{one_source, two_source, multiply}
use Rattle.scalar_exec.specs.Step.{scalar_step}
use Rattle.scalar_exec.specs.Apart.{at_distance, Steps, linked_by}

abbrev at_pc : ℕ → Scalars → Scalars
at_pc p s = record s { pc = p }

with_x-pc : (p d v : ℕ) (s : Scalars) → with_x (at_pc p s) d v ≡ at_pc p (with_x s d v)
unfolding with_x
with_x-pc p d v s =
    elim (d == 31) as (λ b. cond b (at_pc p s) (record (at_pc p s) { x = slice_set s.x d v })
    ≡ at_pc p (cond b s (record s { x = slice_set s.x d v }))) [ true ↦ refl | false ↦ refl ]

with_x_or_sp-pc : (p d v : ℕ) (s : Scalars) → with_x_or_sp (at_pc p s) d v ≡ at_pc p (with_x_or_sp s d v)
unfolding with_x_or_sp
with_x_or_sp-pc p d v s =
    elim (d == 31) as (λ b. cond b (record (at_pc p s) { sp = v }) (record (at_pc p s) { x = slice_set s.x d v })
    ≡ at_pc p (cond b (record s { sp = v }) (record s { x = slice_set s.x d v }))) [ true ↦ refl | false ↦ refl ]

sum_to_x-pc : (op : AddSub) (wide : Bool) (d a b carry p : ℕ) (s : Scalars)
    → sum_to_x op wide d a b carry (at_pc p s) ≡ at_pc p (sum_to_x op wide d a b carry s)
unfolding sum_to_x with_flags
sum_to_x-pc Add wide d a b carry p s = with_x-pc p d _ s
sum_to_x-pc Adds wide d a b carry p s = ap (λ (t : Scalars). with_flags t (sum_flags wide a b carry)) (with_x-pc p d _ s)
sum_to_x-pc Sub wide d a b carry p s = with_x-pc p d _ s
sum_to_x-pc Subs wide d a b carry p s = ap (λ (t : Scalars). with_flags t (sum_flags wide a (inverted wide b) carry)) (with_x-pc p d _ s)

sum_to_sp-pc : (op : AddSub) (wide : Bool) (d a b p : ℕ) (s : Scalars)
    → sum_to_sp op wide d a b (at_pc p s) ≡ at_pc p (sum_to_sp op wide d a b s)
unfolding sum_to_sp
sum_to_sp-pc Add wide d a b p s = with_x_or_sp-pc p d _ s
sum_to_sp-pc Adds wide d a b p s = sum_to_x-pc Adds wide d a b 0 p s
sum_to_sp-pc Sub wide d a b p s = with_x_or_sp-pc p d _ s
sum_to_sp-pc Subs wide d a b p s = sum_to_x-pc Subs wide d a b 1 p s

logical_to_x-pc : (op : Logical) (wide : Bool) (d v p : ℕ) (s : Scalars)
    → logical_to_x op wide d v (at_pc p s) ≡ at_pc p (logical_to_x op wide d v s)
unfolding logical_to_x with_flags
logical_to_x-pc And wide d v p s = with_x-pc p d _ s
logical_to_x-pc Orr wide d v p s = with_x-pc p d _ s
logical_to_x-pc Eor wide d v p s = with_x-pc p d _ s
logical_to_x-pc Ands wide d v p s = ap (λ (t : Scalars). with_flags t (logical_flags wide v)) (with_x-pc p d _ s)

logical_to_sp-pc : (op : Logical) (wide : Bool) (d v p : ℕ) (s : Scalars)
    → logical_to_sp op wide d v (at_pc p s) ≡ at_pc p (logical_to_sp op wide d v s)
unfolding logical_to_sp
logical_to_sp-pc And wide d v p s = with_x_or_sp-pc p d _ s
logical_to_sp-pc Orr wide d v p s = with_x_or_sp-pc p d _ s
logical_to_sp-pc Eor wide d v p s = with_x_or_sp-pc p d _ s
logical_to_sp-pc Ands wide d v p s = logical_to_x-pc Ands wide d v p s

moved-pc : (op : MoveOp) (x : MoveWide) (p : ℕ) (s : Scalars) → moved op x (at_pc p s) ≡ moved op x s
unfolding moved x_of
moved-pc Movn x p s = refl
moved-pc Movz x p s = refl
moved-pc Movk x p s = refl

pub holds_any : (condition : Condition) (p : ℕ) (s : Scalars)
    → condition_holds condition (record s { pc = p }) ≡ condition_holds condition s
unfolding condition_holds
holds_any condition.Eq p s = refl
holds_any condition.Ne p s = refl
holds_any condition.Cs p s = refl
holds_any condition.Cc p s = refl
holds_any condition.Mi p s = refl
holds_any condition.Pl p s = refl
holds_any condition.Vs p s = refl
holds_any condition.Vc p s = refl
holds_any condition.Hi p s = refl
holds_any condition.Ls p s = refl
holds_any condition.Ge p s = refl
holds_any condition.Lt p s = refl
holds_any condition.Gt p s = refl
holds_any condition.Le p s = refl
holds_any condition.Al p s = refl
holds_any condition.Nv p s = refl

compared-pc : (x : CompareOperand) (wide : Bool) (p : ℕ) (s : Scalars) → compared x wide (at_pc p s) ≡ compared x wide s
unfolding x_of
compared-pc (operand.Register rm) wide p s = refl
compared-pc (operand.Immediate imm) wide p s = refl

multiply-pc : (x : Multiply) (p : ℕ) (s : Scalars) → multiply x (at_pc p s) ≡ at_pc p (multiply x s)
unfolding multiply x_of
multiply-pc (Same subtract wide rm ra rn rd) p s = with_x-pc p rd _ s
multiply-pc (Long subtract signed rm ra rn rd) p s = with_x-pc p rd _ s
multiply-pc (High signed rm rn rd) p s = with_x-pc p rd _ s

-- it neither reads PC nor branches
abbrev pub is_apart : Insn → Bool
is_apart (insn.AddSubImmediate x) = true
is_apart (insn.AddSubRegister x) = true
is_apart (insn.LogicalRegister x) = true
is_apart (insn.AddSubExtended x) = true
is_apart (insn.LogicalImmediate x) = true
is_apart (insn.MoveWide x) = true
is_apart (insn.BitfieldMove x) = true
is_apart (insn.Extract x) = true
is_apart (insn.AddSubCarry x) = true
is_apart (insn.ConditionalSelect x) = true
is_apart (insn.ConditionalCompare x) = true
is_apart (insn.OneSource x) = true
is_apart (insn.TwoSource x) = true
is_apart (insn.Multiply x) = true
is_apart other = false

-- PC after it
on : (p : ℕ) (old new : Scalars) → new ≡ at_pc p old → past new ≡ at_pc (next_address p) (past old)
unfolding past
on p old new e = ap past e

step_apart : (it : Insn) (p : ℕ) (s : Scalars) → IsTrue (is_apart it)
    → scalar_step it (at_pc p s) ≡ at_pc (next_address p) (scalar_step it s)
unfolding scalar_step x_of x_or_sp add_sub_immediate add_sub_register add_sub_extended add_sub_carry extend_reg
    logical_register logical_immediate move_wide bitfield_move extract conditional_select conditional_compare
    one_source two_source with_flags
step_apart (insn.AddSubImmediate x) p s h = on p _ _ (sum_to_sp-pc x.op x.wide x.rd _ _ p s)
step_apart (insn.AddSubRegister x) p s h = on p _ _ (sum_to_x-pc x.op x.wide x.rd _ _ _ p s)
step_apart (insn.LogicalRegister x) p s h = on p _ _ (logical_to_x-pc x.op x.wide x.rd _ p s)
step_apart (insn.AddSubExtended x) p s h = on p _ _ (sum_to_sp-pc x.op x.wide x.rd _ _ p s)
step_apart (insn.LogicalImmediate x) p s h = on p _ _ (logical_to_sp-pc x.op x.wide x.rd _ p s)
step_apart (insn.MoveWide x) p s h = on p _ _ (ap (with_x (at_pc p s) x.rd) (moved-pc x.op x p s) ∙ with_x-pc p x.rd _ s)
step_apart (insn.BitfieldMove x) p s h = on p _ _ (with_x-pc p x.rd _ s)
step_apart (insn.Extract x) p s h = on p _ _ (with_x-pc p x.rd _ s)
step_apart (insn.AddSubCarry x) p s h = on p _ _ (sum_to_x-pc x.op x.wide x.rd _ _ _ p s)
step_apart (insn.ConditionalSelect x) p s h =
    on p _ _ (ap (λ (b : Bool). with_x (at_pc p s) x.rd (cond b (register_of x.wide s x.rn)
    (otherwise x.op x.wide (register_of x.wide s x.rm)))) (holds_any x.condition p s) ∙ with_x-pc p x.rd _ s)
step_apart (insn.ConditionalCompare x) p s h =
    on p _ _ (ap (λ (b : Bool). with_flags (at_pc p s) (cond b (compare_flags x.op x.wide (register_of x.wide s x.rn)
    (compared x.operand x.wide (at_pc p s))) (flags_of x.nzcv))) (holds_any x.condition p s)
    ∙ ap (λ (n : ℕ). with_flags (at_pc p s) (cond (condition_holds x.condition s) (compare_flags x.op x.wide
    (register_of x.wide s x.rn) n) (flags_of x.nzcv))) (compared-pc x.operand x.wide p s))
step_apart (insn.OneSource x) p s h = on p _ _ (with_x-pc p x.rd _ s)
step_apart (insn.TwoSource x) p s h = on p _ _ (with_x-pc p x.rd _ s)
step_apart (insn.Multiply x) p s h = on p _ _ (multiply-pc x p s)
step_apart other p s h = cc

-- a distance on
pub farther : (base at n : ℕ) → (base + (at + n) % 2 ^ 64) % 2 ^ 64 ≡ ((base + at) % 2 ^ 64 + n) % 2 ^ 64
farther base at n =
    add-mod-mod base (at + n) (2 ^ 64) ∙ ap (λ k. k % 2 ^ 64) (sym (add_assoc base at n)) ∙ sym (mod-add-mod (base + at) (2 ^ 64) n)

-- what it does with PC at any distance
pub steps_apart : (it : Insn) (base at next : ℕ) (old new : Scalars) → IsTrue (is_apart it) → next ≡ next_address at
    → past new ≡ scalar_step it old → Steps it base at next old new
unfolding past
steps_apart it base at next old new h e is =
    ap (λ k. record new { pc = (base + k) % 2 ^ 64 }) e
    ∙ ap (λ k. record new { pc = k }) (farther base at 4)
    ∙ ap (λ (t : Scalars). record t { pc = next_address ((base + at) % 2 ^ 64) }) is
    ∙ sym (step_apart it ((base + at) % 2 ^ 64) old h)

-- PC at a distance so many words on
pub steps_jump : (base at next : ℕ) (words : ℤ) (old : Scalars) → next ≡ branch_target at words
    → at_distance base next old ≡ at_address old (branch_target ((base + at) % 2 ^ 64) words)
steps_jump base at next words old e =
    ap (λ k. record old { pc = (base + k) % 2 ^ 64 }) e
    ∙ ap (λ k. record old { pc = k }) (farther base at (cast_unsigned w64 (words *ℤ pos 4)))

pub steps_if : (base at next : ℕ) (taken : Bool) (words : ℤ) (old : Scalars)
    → next ≡ cond taken (branch_target at words) (next_address at)
    → at_distance base next old ≡ branch_if taken words (at_distance base at old)
unfolding branch_if past
steps_if base at next true words old e = steps_jump base at next words old e
steps_if base at next false words old e =
    ap (λ k. record old { pc = (base + k) % 2 ^ 64 }) e ∙ ap (λ k. record old { pc = k }) (farther base at 4)

pub steps_call : (base at next : ℕ) (words : ℤ) (old new : Scalars) → next ≡ branch_target at words
    → new ≡ with_x old 30 (next_address ((base + at) % 2 ^ 64))
    → Steps (insn.Branch (Unconditional true words)) base at next old new
unfolding scalar_step branch with_x
steps_call base at next words old new e is =
    steps_jump base at next words new e
    ∙ ap (λ (t : Scalars). at_address t (branch_target ((base + at) % 2 ^ 64) words)) is

-- a distance back
pub back : (base target next : ℕ) → base < 2 ^ 64 → target < 2 ^ 64 → next ≡ (target + (2 ^ 64 - base)) % 2 ^ 64
    → (base + next) % 2 ^ 64 ≡ target
back base target next b t e =
    let same : base + (target + (2 ^ 64 - base)) ≡ target + 2 ^ 64 = omega arith in
    ap (λ k. (base + k) % 2 ^ 64) e ∙ add-mod-mod base (target + (2 ^ 64 - base)) (2 ^ 64) ∙ ap (λ k. k % 2 ^ 64) same
    ∙ add-mod_right target (2 ^ 64) ∙ mod-eq_of_lt t

pub steps_to : (base at next : ℕ) (op : BranchRegisterOp) (rn : ℕ) (old new : Scalars) → (base + next) % 2 ^ 64 ≡ x_of old rn
    → new ≡ linked_by op ((base + at) % 2 ^ 64) old
    → Steps (insn.BranchRegister (record { op = op; rn = rn })) base at next old new
unfolding scalar_step branch_to with_x x_of
steps_to base at next Br rn old new e is = ap (λ k. record new { pc = k }) e ∙ ap (λ (t : Scalars). record t { pc = x_of old rn }) is
steps_to base at next Blr rn old new e is = ap (λ k. record new { pc = k }) e ∙ ap (λ (t : Scalars). record t { pc = x_of old rn }) is
steps_to base at next Ret rn old new e is = ap (λ k. record new { pc = k }) e ∙ ap (λ (t : Scalars). record t { pc = x_of old rn }) is

pub steps_relative : (base at next : ℕ) (x : PcRelative) (old new : Scalars) → next ≡ next_address at
    → new ≡ with_x old x.rd (relative_address x.op ((base + at) % 2 ^ 64) x.imm)
    → Steps (insn.PcRelative x) base at next old new
unfolding scalar_step past pc_relative
steps_relative base at next x old new e is =
    let p : ℕ = (base + at) % 2 ^ 64 in
    ap (λ k. record new { pc = (base + k) % 2 ^ 64 }) e
    ∙ ap (λ k. record new { pc = k }) (farther base at 4)
    ∙ ap (λ (t : Scalars). record t { pc = next_address p }) is
    ∙ sym (ap past (with_x-pc p x.rd (relative_address x.op p x.imm) old))
