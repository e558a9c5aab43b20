-- What makes the answer of an instruction.
use mathlib.Core.HLevel.{Σ_prop_path}
use Rattle.std.proofs.Props.{props}
use Rattle.std.proofs.Common.{List, ◌≡◌, ◌%◌, Bool, true, false, cond, IsTrue, Option, Some, None, ℕ, length, refl, ap, sym, ◌∙◌}
use Rattle.sm_types.specs.declared.scalars.Scalars.{Scalars}
use Rattle.sm_types.specs.declared.length.VecLen.{VecLen}
use Rattle.sm_types.specs.declared.insn.Insn.{Insn}
use Rattle.sm_types.specs.declared.insn.Insn.TheVariants as insn
use Rattle.sm_types.specs.declared.insn.SystemMove.{SystemMove}
use Rattle.std.specs.Prelude.{option_and_then}
use Rattle.sm_types.specs.declared.vector.VectorAccess.{VectorAccess}
use Rattle.sve_access.specs.After.{AfterVectorAccess, vector_fault, after_access, contents_of}
use Rattle.a64_table.specs.Ranges.{IsInRow}
use Rattle.paged_memory.specs.PageTable.{PageTable}
use Rattle.mem_access.specs.Transfer.{HasRoomFor}
use Rattle.mem_access.specs.declared.bank.Bank.{Bank}
use Rattle.sm_types.specs.declared.stop.Exception.{Exception}
use Rattle.sm_types.specs.declared.stop.Exception.TheVariants.{Undefined}
use Rattle.sm_types.specs.declared.stop.Exception.TheVariants.{Shared}
use Rattle.sm_types.specs.declared.shared_op.SharedOp.{SharedOp}
use Rattle.paged_memory.specs.Memory.{AddressSpace}
use Rattle.mem_access.specs.DataAccess.{DataAccess}
use Rattle.mem_access.specs.Checks.{access_fault, sp_fault, align_fault, shared_fault}
use Rattle.mem_access.specs.SharedAccess.{touched, checked_fault, address_of_word}
use Rattle.mem_access.specs.Transfer.{is_access, access_of, transfer_fault}
use Rattle.a64_encode.specs.Either.{instruction_of}
use Rattle.std.specs.Option.{option_or}
use Rattle.scalar_exec.specs.Step.{is_scalar}
use Rattle.std.specs.Prelude.{if◌then◌else◌}
use Rattle.plain_lemmas.proofs.Tests.{and-false}
use Rattle.sve_vectors.specs.Lengths.{current_bytes}
use Rattle.sve_vectors.specs.State.{SveState, length_of, with_registers}
use Rattle.vector_step.specs.Core.{VectorCore}
use Rattle.vector_step.specs.Core.{core_of as vector_registers}
use Rattle.vector_step.specs.Step.{vector_step}
use Rattle.mem_access.specs.VectorState.{VectorState}
use Rattle.machine_step.specs.ProcessorState.{ProcessorState, vector_bytes}
use Rattle.machine_step.specs.System.{system_move, core_past, moved}
use Rattle.machine_step.specs.Effect.{Effect, Raises, Calls, Becomes, Asks, word_of, insn_at, is_executed, next_of, unless_fault}
use Rattle.machine_step.specs.Effect.{fault_of, effect_of, perform, row_fault, data_fault, memory_fault, accessed, accesses, with_access}
use Rattle.machine_step.specs.Effect.{computed, vector_computed, with_core}
use Rattle.machine_step.specs.Effect.{mode_fault, illegal_fault, early_fault}
use Rattle.machine_step.specs.Needs.{is_call, uses_bank, uses_bank_where, needs_unless, needs_bank}
use Rattle.machine_step.specs.Needs.{is_call_insn, is_call_where, calls_unless, is_call_at}
use Rattle.machine_step.specs.Execution.{calls_by_meaning}
use Rattle.machine_step.specs.Execution.{effect_of_insn, effect_of_meaning, unless_raised, unless_refused, needs_of_insn, needs_of_meaning}
use Rattle.machine_step.specs.Machine.{Steps, core_of, HasRoomOn, IsBecomes}
use Rattle.machine_step.specs.declared.machine.Machine.{Machine}
use Rattle.machine_step.specs.declared.executed.Executed.{Executed}
use Rattle.machine_step.specs.declared.executed.Executed.TheVariants.{Next, Call, Raise, Ask, NeedsBank, Memory}

-- the state after an instruction that is executed
pub steps_on : (effect : Effect) (old new made : ProcessorState) (end : Executed) → effect ≡ Becomes made → new ≡ made → end ≡ Next
    → Steps effect old new end
steps_on effect old new made Next is same e = is ∙ ap Becomes (sym same)
steps_on effect old new made (Call number) is same e = cc
steps_on effect old new made (Raise exception) is same e = cc
steps_on effect old new made (Ask it op) is same e = cc
steps_on effect old new made NeedsBank is same e = cc
steps_on effect old new made Memory is same e = cc

-- an instruction of the scalar registers alone
pub scalar_effect : (word vl : ℕ) (it : Insn) (s : ProcessorState) → IsTrue (is_scalar it)
    → effect_of_insn word it vl s ≡ Becomes (computed it s)
scalar_effect word vl (insn.AddSubImmediate x) s h = refl
scalar_effect word vl (insn.AddSubRegister x) s h = refl
scalar_effect word vl (insn.LogicalRegister x) s h = refl
scalar_effect word vl (insn.AddSubExtended x) s h = refl
scalar_effect word vl (insn.LogicalImmediate x) s h = refl
scalar_effect word vl (insn.MoveWide x) s h = refl
scalar_effect word vl (insn.BitfieldMove x) s h = refl
scalar_effect word vl (insn.Extract x) s h = refl
scalar_effect word vl (insn.PcRelative x) s h = refl
scalar_effect word vl (insn.Branch x) s h = refl
scalar_effect word vl (insn.BranchRegister x) s h = refl
scalar_effect word vl (insn.AddSubCarry x) s h = refl
scalar_effect word vl (insn.ConditionalSelect x) s h = refl
scalar_effect word vl (insn.ConditionalCompare x) s h = refl
scalar_effect word vl (insn.OneSource x) s h = refl
scalar_effect word vl (insn.TwoSource x) s h = refl
scalar_effect word vl (insn.Multiply x) s h = refl
scalar_effect word vl other s h = cc

-- a move of a system register
pub move_effect : (word vl : ℕ) (x : SystemMove) (s : ProcessorState)
    → effect_of_insn word (insn.SystemMove x) vl s ≡ Becomes (core_past (moved vl x.op x s))
unfolding system_move
move_effect word vl x s = refl

unless_row : (executed : Bool) (mode fault : Option Exception) (word vl : ℕ) (it : Insn) (s : ProcessorState) → insn_at s ≡ Some it
    → unless_fault vl (option_or (option_or (cond executed None (Some (Undefined word))) (option_or mode None)) (option_or fault None)) s
    ≡ cond executed (unless_raised mode (unless_raised fault (next_of vl it s))) (Raises (Undefined word))
unless_row true None None word vl it s h = ap (λ k. perform vl k s) h
unless_row true None (Some exception) word vl it s h = refl
unless_row true (Some exception) fault word vl it s h = refl
unless_row false mode fault word vl it s h = refl

needs_row : (executed : Bool) (mode : Option Exception) (word : ℕ) (it : Insn) (s : ProcessorState) → insn_at s ≡ Some it
    → needs_unless (option_or (cond executed None (Some (Undefined word))) (option_or mode None)) s
    ≡ cond executed (unless_refused mode (uses_bank it s.streaming)) false
needs_row true None word it s h = ap (λ k. uses_bank_where k s.streaming) h
needs_row true (Some exception) word it s h = refl
needs_row false mode word it s h = refl

-- the checks of the instruction itself, where its word was fetched
early_of : (s : ProcessorState) (word : ℕ) → s.scalars.pc % 4 ≡ 0 → word_of s ≡ Some word
    → early_fault s ≡ option_or (row_fault word (instruction_of word)) (option_or (illegal_fault s) None)
early_of s word aligned fetched = rw (aligned, fetched) refl

early_at : (s : ProcessorState) (word : ℕ) (it : Insn) → s.scalars.pc % 4 ≡ 0 → word_of s ≡ Some word → instruction_of word ≡ Some it
    → insn_at s ≡ Some it → early_fault s ≡ option_or (row_fault word (Some it)) (option_or (mode_fault it s.streaming s.za_on) None)
early_at s word it aligned fetched is here =
    early_of s word aligned fetched ∙ ap (λ k. option_or (row_fault word k) (option_or (illegal_fault s) None)) is
    ∙ ap (λ k. option_or (row_fault word (Some it)) (option_or (option_and_then (λ i. mode_fault i s.streaming s.za_on) k) None)) here

insn_here : (s : ProcessorState) (word : ℕ) (it : Insn) → word_of s ≡ Some word → instruction_of word ≡ Some it → insn_at s ≡ Some it
insn_here s word it fetched is = rw fetched is

-- the effect at PC is that of the instruction there
pub effect_at : (vl : ℕ) (s : ProcessorState) (word : ℕ) (it : Insn) → s.scalars.pc % 4 ≡ 0 → word_of s ≡ Some word
    → instruction_of word ≡ Some it → effect_of vl s ≡ effect_of_insn word it vl s
unfolding effect_of fault_of
effect_at vl s word it aligned fetched is =
    let here : insn_at s ≡ Some it = insn_here s word it fetched is in
    ap (λ k. unless_fault vl (option_or k (option_or (data_fault vl s) None)) s) (early_at s word it aligned fetched is here)
    ∙ ap (λ k. unless_fault vl (option_or (option_or (row_fault word (Some it)) (option_or (mode_fault it s.streaming s.za_on) None))
    (option_or (option_and_then (λ i. memory_fault vl i s) k) None)) s) here
    ∙ unless_row (is_executed it) (mode_fault it s.streaming s.za_on) (memory_fault vl it s) word vl it s here

-- the effect at PC is that of the word there
pub effect_of_word : (vl : ℕ) (s : ProcessorState) (word : ℕ) (meaning : Option Insn) → s.scalars.pc % 4 ≡ 0 → word_of s ≡ Some word
    → instruction_of word ≡ meaning → effect_of vl s ≡ effect_of_meaning word meaning vl s
unfolding effect_of fault_of
effect_of_word vl s word None aligned fetched is =
    ap (λ k. unless_fault vl (option_or k (option_or (data_fault vl s) None)) s) (early_of s word aligned fetched
    ∙ ap (λ k. option_or (row_fault word k) (option_or (illegal_fault s) None)) is)
effect_of_word vl s word (Some it) aligned fetched is = effect_at vl s word it aligned fetched is

-- and it needs a bank where that does
pub needs_of_word : (s : ProcessorState) (word : ℕ) (meaning : Option Insn) → s.scalars.pc % 4 ≡ 0 → word_of s ≡ Some word
    → instruction_of word ≡ meaning → needs_bank s ≡ needs_of_meaning meaning s
unfolding needs_bank
needs_of_word s word None aligned fetched is =
    ap (λ k. needs_unless k s) (early_of s word aligned fetched
    ∙ ap (λ k. option_or (row_fault word k) (option_or (illegal_fault s) None)) is)
needs_of_word s word (Some it) aligned fetched is =
    let here : insn_at s ≡ Some it = insn_here s word it fetched is in
    ap (λ k. needs_unless k s) (early_at s word it aligned fetched is here)
    ∙ needs_row (is_executed it) (mode_fault it s.streaming s.za_on) word it s here

calls_row : (executed : Bool) (mode : Option Exception) (word : ℕ) (it : Insn) (s : ProcessorState) → insn_at s ≡ Some it
    → calls_unless (option_or (cond executed None (Some (Undefined word))) (option_or mode None)) s
    ≡ cond executed (unless_refused mode (is_call_insn it)) false
calls_row true None word it s h = ap is_call_where h
calls_row true (Some exception) word it s h = refl
calls_row false mode word it s h = refl

-- and it calls the kernel where that does
pub calls_of_word : (s : ProcessorState) (word : ℕ) (meaning : Option Insn) → s.scalars.pc % 4 ≡ 0 → word_of s ≡ Some word
    → instruction_of word ≡ meaning → is_call_at s ≡ calls_by_meaning meaning s
unfolding is_call_at
calls_of_word s word None aligned fetched is =
    ap (λ k. calls_unless k s) (early_of s word aligned fetched
    ∙ ap (λ k. option_or (row_fault word k) (option_or (illegal_fault s) None)) is)
calls_of_word s word (Some it) aligned fetched is =
    let here : insn_at s ≡ Some it = insn_here s word it fetched is in
    ap (λ k. calls_unless k s) (early_at s word it aligned fetched is here)
    ∙ calls_row (is_executed it) (mode_fault it s.streaming s.za_on) word it s here

pub calls_refused : (s : ProcessorState) (exception : Exception) → early_fault s ≡ Some exception → is_call_at s ≡ false
unfolding is_call_at
calls_refused s exception h = ap (λ k. calls_unless k s) h

-- a check of the instruction itself that fails
pub effect_refused : (vl : ℕ) (s : ProcessorState) (exception : Exception) → early_fault s ≡ Some exception
    → effect_of vl s ≡ Raises exception
unfolding effect_of fault_of
effect_refused vl s exception h = ap (λ k. unless_fault vl (option_or k (option_or (data_fault vl s) None)) s) h

pub needs_refused : (s : ProcessorState) (exception : Exception) → early_fault s ≡ Some exception → needs_bank s ≡ false
unfolding needs_bank
needs_refused s exception h = ap (λ k. needs_unless k s) h

-- what a load, a store or an atomic instruction does
pub access_effect : (word vl : ℕ) (it : Insn) (s : ProcessorState) → IsTrue (is_access it)
    → effect_of_insn word it vl s
    ≡ unless_raised (checked_fault it s.scalars s.memory) (accesses (touched it s.scalars) it s)
access_effect word vl (insn.LoadStore x) s h = refl
access_effect word vl (insn.LoadLiteral x) s h = refl
access_effect word vl (insn.LoadStorePair x) s h = refl
access_effect word vl (insn.Atomic x) s h = refl
access_effect word vl other s h = cc

-- one that makes no operation on a shared word has the checks of private memory
pub private_effect : (word vl : ℕ) (it : Insn) (s : ProcessorState) → IsTrue (is_access it) → touched it s.scalars ≡ None
    → effect_of_insn word it vl s ≡ unless_raised (transfer_fault it s.scalars s.memory) (Becomes (accessed it s))
private_effect word vl it s h none =
    access_effect word vl it s h
    ∙ ap (λ o. unless_raised (option_and_then (λ access. access_fault o access s.scalars s.memory) (access_of it s.scalars))
    (accesses o it s)) none

third_none : (a b c d : Option Exception) → option_or a (option_or b (option_or c d)) ≡ None → c ≡ None
third_none None None None d e = refl
third_none None None (Some x) d e = cc
third_none None (Some x) c d e = cc
third_none (Some x) b c d e = cc

some_or_none : {A : Type 0} (o : Option A) (x : A) → o ≡ Some x → o ≡ None → ⊥
some_or_none o x e n = cc

none_made : (op : Option SharedOp) (access : Option DataAccess) (s : Scalars) (m : AddressSpace)
    → ((it : SharedOp) → op ≡ Some it → option_and_then shared_fault access ≡ Some (Shared (address_of_word it.place)))
    → option_and_then (λ a. access_fault None a s m) access ≡ None → op ≡ None
unfolding access_fault
none_made None access s m law none = refl
none_made (Some op) None s m law none = absurd (some_or_none None (Shared (address_of_word op.place)) (law op refl) refl)
none_made (Some op) (Some a) s m law none =
    absurd (some_or_none (shared_fault a) (Shared (address_of_word op.place)) (law op refl)
    (third_none (sp_fault a s) (align_fault a) (shared_fault a) _ none))

-- an access that no check of private memory refuses makes no operation on a shared word
pub no_operation : (it : Insn) (s : Scalars) (m : AddressSpace)
    → ((i : Insn) (r : Scalars) (op : SharedOp) → touched i r ≡ Some op
    → option_and_then shared_fault (access_of i r) ≡ Some (Shared (address_of_word op.place)))
    → transfer_fault it s m ≡ None → touched it s ≡ None
no_operation it s m law none = none_made (touched it s) (access_of it s) s m (law it s) none

-- a machine with other registers and pages
abbrev pub after_transfer : Machine → Scalars → PageTable → Machine
after_transfer m scalars pages = record m { scalars = scalars; pages = pages }

-- which is as it was where these are
pub stays : (m : Machine) (scalars : Scalars) (pages : PageTable) → scalars ≡ m.scalars → pages ≡ m.pages
    → after_transfer m scalars pages ≡ m
stays m scalars pages registers table =
    ap (λ k. after_transfer m k pages) registers ∙ ap (after_transfer m m.scalars) table

VecLen-set : (a b : VecLen) → IsProp (a ≡ b)
VecLen-set a b = Prim.hlevel props

-- a bank whose vectors are as they were
pub same_bank : (b : Bank) (v : SveState) (one : b.za.svl ≡ v.svl) → v ≡ b.vectors
    → record b { vectors = v; one_length = one } ≡ b
same_bank b v one same =
    let pairs : ◌≡◌ {A = (w : SveState) × (b.za.svl ≡ w.svl)} (v, one) (b.vectors, b.one_length) =
    Σ_prop_path (λ w. VecLen-set b.za.svl w.svl) same in
    λ i. record b { vectors = (pairs i).0; one_length = (pairs i).1 }

cond_neither : (executed : Bool) (mode : Option Exception) → cond executed (unless_refused mode false) false ≡ false
cond_neither true None = refl
cond_neither true (Some exception) = refl
cond_neither false mode = refl

-- an instruction that does not use the bank does not need it
pub unneeded : (it : Insn) (s : ProcessorState) → uses_bank it s.streaming ≡ false → needs_of_insn it s ≡ false
unneeded it s h =
    ap (λ k. cond (is_executed it) (unless_refused (mode_fault it s.streaming s.za_on) k) false) h
    ∙ cond_neither (is_executed it) (mode_fault it s.streaming s.za_on)

-- vectors with an array
abbrev pub held_with : SveState → List (List ℕ) → VectorState
held_with v za = record { registers = v.registers; za = za }

-- a scalar instruction that needs no bank in a mode needs none outside Streaming SVE mode
pub unneeded_outside : (it : Insn) (streaming : Bool) → IsInRow it → uses_bank it streaming ≡ false → uses_bank it false ≡ false
unneeded_outside (insn.System x) streaming row h = and-false (is_call x)
unneeded_outside other streaming row h = h

-- the current vector length of a machine with vectors in its mode
pub length_is : (v : SveState) (za : List (List ℕ)) (streaming : Bool) → length za ≡ vector_bytes v.svl → v.streaming ≡ streaming
    → (if streaming then length za else vector_bytes v.vl) ≡ length_of v
length_is v za true long mode = long ∙ ap (current_bytes v.vl v.svl) (sym mode)
length_is v za false long mode = ap (current_bytes v.vl v.svl) (sym mode)

-- the machine and its vectors after a vector instruction that sees registers alone
pub vector_core : (m : Machine) (v w : SveState) (za : List (List ℕ)) (scalars : Scalars) (it : Insn)
    → length za ≡ vector_bytes v.svl → v.streaming ≡ m.streaming
    → scalars ≡ (vector_step (length_of v) it (vector_registers m.scalars v)).scalars
    → w ≡ with_registers v (vector_step (length_of v) it (vector_registers m.scalars v)).registers
    → core_past (core_of (record m { scalars = scalars }) (held_with w za))
    ≡ vector_computed (vector_bytes v.vl) it (core_of m (held_with v za))
vector_core m v w za scalars it long mode is left =
    let made : ℕ → VectorCore = λ l. vector_step l it (vector_registers m.scalars v) in
    ap (λ k. core_past (core_of (record m { scalars = k }) (held_with w za))) is
    ∙ ap (λ k. core_past (core_of (record m { scalars = (made (length_of v)).scalars }) (held_with k za))) left
    ∙ ap (λ l. core_past (with_core (core_of m (held_with v za)) (made l))) (sym (length_is v za m.streaming long mode))

-- what a load or a store of vectors does, on vectors in the mode of the machine
pub vector_access_effect : (word : ℕ) (x : VectorAccess) (m : Machine) (v : SveState) (za : List (List ℕ))
    → length za ≡ vector_bytes v.svl → v.streaming ≡ m.streaming
    → effect_of_insn word (insn.VectorAccess x) (vector_bytes v.vl) (core_of m (held_with v za))
    ≡ unless_raised (vector_fault x m.scalars (length_of v) v.registers m.pages.memory)
    (Becomes (core_past (with_access (core_of m (held_with v za))
    (after_access x m.scalars (length_of v) v.registers m.pages.memory))))
vector_access_effect word x m v za long mode =
    ap (λ l. unless_raised (vector_fault x m.scalars l v.registers m.pages.memory)
    (Becomes (core_past (with_access (core_of m (held_with v za)) (after_access x m.scalars l v.registers m.pages.memory)))))
    (length_is v za m.streaming long mode)

-- the state of a machine with other vectors and other pages
pub with_contents : (m : Machine) (v w : SveState) (za : List (List ℕ)) (pages : PageTable) (after : AfterVectorAccess)
    → contents_of w.registers pages ≡ after
    → core_of (record m { pages = pages }) (held_with w za) ≡ with_access (core_of m (held_with v za)) after
with_contents m v w za pages after is = ap (with_access (core_of m (held_with v za))) is

-- an instruction that is executed
pub becomes : (effect : Effect) (made : ProcessorState) → effect ≡ Becomes made → IsBecomes effect
becomes (Raises exception) made is = cc
becomes (Calls number) made is = cc
becomes (Becomes s) made is = cc
becomes (Asks op next) made is = cc

-- what an instruction of the general registers writes is the same with a bank
pub scalar_room : (m : Machine) (bank : Bank) (it : Insn) → IsInRow it → HasRoomOn m bank it → HasRoomFor it m.scalars m.pages
scalar_room m bank (insn.VectorAccess x) h room = cc
scalar_room m bank (insn.ArrayAccess x) h room = cc
scalar_room m bank (insn.TileAccess x) h room = cc
scalar_room m bank other h room = room

-- an instruction that is executed and allowed, and one that is not
pub allowed : (executed : Bool) (mode : Option Exception) (b : Bool) → cond executed (unless_refused mode true) false ≡ true
    → cond executed (unless_refused mode b) false ≡ b
allowed true None b h = refl
allowed true (Some exception) b h = cc
allowed false mode b h = cc

pub not_allowed : (executed : Bool) (mode : Option Exception) (b : Bool) → cond executed (unless_refused mode true) false ≡ false
    → cond executed (unless_refused mode b) false ≡ false
not_allowed true None b h = cc
not_allowed true (Some exception) b h = refl
not_allowed false mode b h = refl
