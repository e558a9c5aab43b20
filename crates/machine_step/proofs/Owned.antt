-- Which pages are owned after an instruction, and after a step.
use Rattle.std.proofs.Common.{◌≡◌, ℕ, List, [], Option, Some, refl, ap, sym, ◌∙◌, subst, IsTrue}
use Rattle.std.specs.Prelude.{option_and_then}
use Rattle.sm_types.specs.declared.scalars.Scalars.{Scalars}
use Rattle.sm_types.specs.declared.insn.Insn.{Insn}
use Rattle.sm_types.specs.declared.insn.Insn.TheVariants as insn
use Rattle.sm_types.specs.declared.matrix.ArrayAccess.TheVariants as array
use Rattle.sm_types.specs.declared.shared_op.SharedOp.{SharedOp}
use Rattle.sm_types.specs.declared.stop.Exception.{Exception}
use Rattle.a64_encode.specs.Either.{instruction_of}
use Rattle.a64_table.specs.Ranges.{IsInRow}
use Rattle.sve_table.specs.Groups.{is_vector_group}
use Rattle.sve_table.specs.Ranges.{IsInVectorRow}
use Rattle.scalar_exec.specs.Step.{is_scalar}
use Rattle.vector_step.specs.Step.{is_vector_computed}
use Rattle.matrix_step.specs.Step.{is_matrix_computed}
use Rattle.paged_memory.specs.Memory.{AddressSpace, word_at}
use Rattle.paged_memory.proofs.Owned.{owns_same, owns_keeps}
use Rattle.paged_memory.specs.PageTable.{PageTable, OwnsAlso, KeepsOwned, IsRefused}
use Rattle.mem_access.specs.Transfer.{writes_of, raised_by}
use Rattle.mem_access.specs.declared.bank.Bank.{Bank}
use Rattle.mem_access.specs.declared.stop.AccessStop.{AccessStop}
use Rattle.mem_access.specs.declared.stop.AccessStop.TheVariants.{Raise as RaiseStop}
use Rattle.machine_step.specs.Owned.{ExecutionOwns, AttemptOwns, StepOwns, writes_on, writes_in, step_writes}
use Rattle.machine_step.specs.declared.at_once.Attempt.{Attempt}
use Rattle.machine_step.specs.declared.at_once.Attempt.TheVariants.{Done, Waits}
use Rattle.machine_step.specs.declared.at_once.Attempt.TheVariants as attempt
use Rattle.machine_step.specs.declared.machine.Machine.{Machine}
use Rattle.machine_step.specs.declared.executed.Executed.{Executed}
use Rattle.machine_step.specs.declared.executed.Executed.TheVariants.{Next, Call, Raise, Ask, NeedsBank, Memory}
use Rattle.machine_step.specs.declared.step.StepEnd.{StepEnd}

-- what writes no byte
pub also_same : (written : List ℕ) (old new : PageTable) → new ≡ old → written ≡ [] → OwnsAlso old new written
also_same written old new same none =
    subst (λ (bytes : List ℕ). OwnsAlso old new bytes) (sym none) (owns_same old new same)

pub same_owns : (written : List ℕ) (old new : PageTable) (end : Executed) → new ≡ old → written ≡ []
    → ExecutionOwns written old new end
same_owns written old new Next same none = also_same written old new same none
same_owns written old new Memory same none = λ n owned. rw same owned
same_owns written old new (Call number) same none = same
same_owns written old new (Raise exception) same none = same
same_owns written old new (Ask it op) same none = same
same_owns written old new NeedsBank same none = same

-- the same bytes, said otherwise
pub also_as : (xs ys : List ℕ) (old new : PageTable) → xs ≡ ys → OwnsAlso old new ys → OwnsAlso old new xs
also_as xs ys old new same owns = subst (λ (bytes : List ℕ). OwnsAlso old new bytes) (sym same) owns

pub execution_as : (xs ys : List ℕ) (old new : PageTable) (end : Executed) → xs ≡ ys → ExecutionOwns ys old new end
    → ExecutionOwns xs old new end
execution_as xs ys old new end same owns = subst (λ (bytes : List ℕ). ExecutionOwns bytes old new end) (sym same) owns

pub step_as : (xs ys : List ℕ) (old new : PageTable) (end : StepEnd) → xs ≡ ys → StepOwns ys old new end → StepOwns xs old new end
step_as xs ys old new end same owns = subst (λ (bytes : List ℕ). StepOwns bytes old new end) (sym same) owns

pub attempt_as : (xs ys : List ℕ) (old new : PageTable) (end : Attempt) → xs ≡ ys → AttemptOwns ys old new end → AttemptOwns xs old new end
attempt_as xs ys old new end same owns = subst (λ (bytes : List ℕ). AttemptOwns bytes old new end) (sym same) owns

pub attempt_keeps : (written : List ℕ) (old new : PageTable) (end : Attempt) → AttemptOwns written old new end → KeepsOwned old new
attempt_keeps written old new Done owns = owns_keeps old new written owns
attempt_keeps written old new Waits same = λ n owned. rw same owned
attempt_keeps written old new attempt.Memory kept = kept

-- an access that is made
pub owns_next : (written : List ℕ) (old mid new : PageTable) (end : Executed) → OwnsAlso old mid written → new ≡ mid → end ≡ Next
    → ExecutionOwns written old new end
owns_next written old mid new end owns same is =
    subst (λ (e : Executed). ExecutionOwns written old new e) (sym is) (subst (λ (p : PageTable). OwnsAlso old p written) (sym same) owns)

-- one that raises, and what it comes to then
pub raise_stays : (old new : PageTable) (stop : AccessStop) (exception : Exception) → stop ≡ RaiseStop exception
    → IsRefused old new (raised_by stop) → new ≡ old
raise_stays old new stop exception is refused = subst (λ (s : AccessStop). IsRefused old new (raised_by s)) is refused

pub owns_after : (written : List ℕ) (old new : PageTable) (end : Executed) → new ≡ old → ExecutionOwns written new new end
    → ExecutionOwns written old new end
owns_after written old new end same owns = subst (λ (p : PageTable). ExecutionOwns written p new end) same owns

-- an instruction of the scalar registers alone
pub scalar_none : (it : Insn) (s : Scalars) (m : AddressSpace) → IsTrue (is_scalar it) → writes_of it s m ≡ []
scalar_none (insn.LoadStore x) s m h = cc
scalar_none (insn.LoadLiteral x) s m h = cc
scalar_none (insn.LoadStorePair x) s m h = cc
scalar_none (insn.Atomic x) s m h = cc
scalar_none other s m h = refl

-- of the vectors, the predicates and the scalar registers alone
pub vector_none : (m : Machine) (bank : Bank) (it : Insn) → IsTrue (is_vector_computed it) → writes_on m bank it ≡ []
unfolding is_vector_group
vector_none m bank (insn.LoadStore x) h = cc
vector_none m bank (insn.LoadLiteral x) h = cc
vector_none m bank (insn.LoadStorePair x) h = cc
vector_none m bank (insn.Atomic x) h = cc
vector_none m bank (insn.VectorAccess x) h = cc
vector_none m bank (insn.ArrayAccess x) h = cc
vector_none m bank (insn.TileAccess x) h = cc
vector_none m bank other h = refl

-- of ZA or of the streaming vector length, with no access
pub matrix_none : (m : Machine) (bank : Bank) (it : Insn) → IsTrue (is_matrix_computed it) → writes_on m bank it ≡ []
matrix_none m bank (insn.ArrayAccess (array.Zero mask)) h = refl
matrix_none m bank (insn.ArrayAccess (array.Transfer store rv offset rn)) h = cc
matrix_none m bank (insn.TileMove x) h = refl
matrix_none m bank (insn.TileAdd x) h = refl
matrix_none m bank (insn.OuterProduct x) h = refl
matrix_none m bank (insn.StreamingLength x) h = refl
matrix_none m bank other h = cc

-- what an instruction of the general registers writes is the same with a bank
pub scalar_writes : (m : Machine) (bank : Bank) (it : Insn) → IsInRow it → writes_on m bank it ≡ writes_of it m.scalars m.pages.memory
scalar_writes m bank (insn.VectorAccess x) h = absurd h
scalar_writes m bank (insn.ArrayAccess x) h = absurd h
scalar_writes m bank (insn.TileAccess x) h = absurd h
scalar_writes m bank other h = refl

-- and one of the vectors writes nothing without one
pub alone_none : (it : Insn) (s : Scalars) (m : AddressSpace) → IsInVectorRow it → writes_of it s m ≡ []
alone_none (insn.LoadStore x) s m h = absurd h
alone_none (insn.LoadLiteral x) s m h = absurd h
alone_none (insn.LoadStorePair x) s m h = absurd h
alone_none (insn.Atomic x) s m h = absurd h
alone_none other s m h = refl

-- what the instruction at PC writes
pub fetched_writes : (m : Machine) (lent : Option Bank) (word : ℕ) (it : Insn) → word_at m.pages.memory m.scalars.pc ≡ Some word
    → instruction_of word ≡ Some it → step_writes m lent ≡ writes_in m lent (Some it)
fetched_writes m lent word it fetched is =
    ap (λ w. writes_in m lent (option_and_then instruction_of w)) fetched ∙ ap (writes_in m lent) is

-- an instruction of a machine and a bank that are as they were
pub waited_owns : (m n : Machine) (b c : Bank) (it : Insn) (after : PageTable) (end : StepEnd) → n ≡ m → c ≡ b
    → StepOwns (writes_on n c it) n.pages after end → StepOwns (writes_on m b it) m.pages after end
waited_owns m n b c it after end machine bank owns =
    subst (λ (k : Bank). StepOwns (writes_on m k it) m.pages after end) bank
    (subst (λ (k : Machine). StepOwns (writes_on k c it) k.pages after end) machine owns)

-- an operation on a shared word
pub asked_owns : (written : List ℕ) (before mid new : PageTable) (it : Insn) (op : SharedOp) (executed : Executed) (end : StepEnd)
    → executed ≡ Ask it op → ExecutionOwns written before mid executed → StepOwns written mid new end → StepOwns written before new end
asked_owns written before mid new it op executed end is owns asked =
    let same : mid ≡ before = subst (λ (e : Executed). ExecutionOwns written before mid e) is owns in
    subst (λ (p : PageTable). StepOwns written p new end) same asked
