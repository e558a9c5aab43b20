-- Instructions of a page of code that read and write registers alone, or load some, one after the other.
use Rattle.std.specs.Prelude.{◌≡◌, ℕ, zero, suc, ◌%◌, ◌⊎◌, ◌&&◌, Bool, true, false}
use Rattle.std.specs.Prelude.{not, Option, Some, None, IsTrue, length}
use Rattle.sm_types.specs.declared.insn.Insn.{Insn}
use Rattle.sm_types.specs.declared.insn.Insn.TheVariants as insn
use Rattle.sm_types.specs.declared.scalars.Scalars.{Scalars}
use Rattle.scalar_exec.specs.Step.{is_scalar, scalar_step}
use Rattle.paged_memory.specs.Memory.{AddressSpace, word_at}
use Rattle.a64_encode.specs.Either.{instruction_of}
use Rattle.scalar_exec.specs.Registers.{past}
use Rattle.scalar_exec.specs.Apart.{at_distance}
use Rattle.mem_access.specs.Access.{is_load, is_ldp}
use Rattle.mem_access.specs.SharedAccess.{touched}
use Rattle.mem_access.specs.Transfer.{transfer_fault, after_access}
use Rattle.mem_access.specs.declared.bank.Bank.{Bank}
use Rattle.sve_vectors.specs.State.{length_of, with_registers}
use Rattle.vector_step.specs.Core.{core_of as vector_registers}
use Rattle.vector_step.specs.Step.{is_vector_computed, vector_step}
use Rattle.machine_step.specs.ProcessorState.{vector_bytes}
use Rattle.machine_step.specs.Effect.{is_first_fault}

-- the word means an instruction that reads and writes scalar registers alone, and takes these from the one
-- to the other
pub record IsComputed (word : ℕ) (old new : Scalars) : Type 0 where
  pub it : Insn
  pub means : instruction_of word ≡ Some it
  pub scalar : IsTrue (is_scalar it)
  pub is : new ≡ scalar_step it old

-- an answer, with PC at a distance from an address: it is executed, and so far is the next one; or nothing
-- has changed
abbrev pub ComputesTo : ℕ → ℕ → ℕ → Scalars → Option ℕ → Scalars → Type 0
ComputesTo word base at old (Some next) new =
    IsComputed word (at_distance base at old) (at_distance base next new)
ComputesTo word base at old None new = new ≡ old

-- a load of one register or two
abbrev pub is_plain_load : Insn → Bool
is_plain_load (insn.LoadStore x) = is_load x.op
is_plain_load (insn.LoadLiteral x) = true
is_plain_load (insn.LoadStorePair x) = is_ldp x.op
is_plain_load other = false

-- a load, of which no check fails and which makes no operation on a shared word, takes the registers from
-- the one to the other and leaves memory
pub record IsLoad (it : Insn) (m : AddressSpace) (old new : Scalars) : Type 0 where
  pub private : touched it old ≡ None
  pub allowed : transfer_fault it old m ≡ None
  pub memory : (after_access it old m).memory ≡ m
  pub is : new ≡ past (after_access it old m).scalars

-- an answer: it is made, or nothing has changed
abbrev pub Loads : Insn → AddressSpace → Scalars → Scalars → Bool → Type 0
Loads it m old new true = IsLoad it m old new
Loads it m old new false = new ≡ old

-- the word means one
pub record IsLoaded (m : AddressSpace) (word : ℕ) (old new : Scalars) : Type 0 where
  pub it : Insn
  pub means : instruction_of word ≡ Some it
  pub load : IsTrue (is_plain_load it)
  pub made : IsLoad it m old new

abbrev pub LoadsAt : AddressSpace → ℕ → Scalars → Scalars → Bool → Type 0
LoadsAt m word old new true = IsLoaded m word old new
LoadsAt m word old new false = new ≡ old

-- an instruction that reads and writes scalar and vector registers alone, and that PSTATE.SM and PSTATE.ZA
-- allow whatever they are: none of the first-fault register
abbrev pub is_computed_anywhere : Insn → Bool
is_computed_anywhere it = is_vector_computed it && not (is_first_fault it)

-- it takes the registers from the one to the other, as the vectors are long, and leaves all else of the bank
pub record ComputesOn (it : Insn) (old : Scalars) (before : Bank) (new : Scalars) (after : Bank)
    : Type 0 where
  pub scalars : new ≡ past
      (vector_step (length_of before.vectors) it (vector_registers old before.vectors)).scalars
  pub vectors : after.vectors ≡ with_registers before.vectors
      (vector_step (length_of before.vectors) it (vector_registers old before.vectors)).registers
  pub array : after.za ≡ before.za
  pub owner : after.owner ≡ before.owner
  pub long : length before.za.vectors ≡ vector_bytes before.vectors.svl

-- the word means one
pub record IsVectored (word : ℕ) (old : Scalars) (before : Bank) (new : Scalars) (after : Bank) : Type 0 where
  pub it : Insn
  pub means : instruction_of word ≡ Some it
  pub anywhere : IsTrue (is_computed_anywhere it)
  pub made : ComputesOn it old before new after

-- an answer: it is executed, or nothing has changed
abbrev pub VectorsAt : ℕ → Scalars → Bank → Scalars → Bank → Bool → Type 0
VectorsAt word old before new after true = IsVectored word old before new after
VectorsAt word old before new after false = (new ≡ old) × (after ≡ before)

-- the word means one of these; of a machine that is kept off the bank, none of the last
abbrev pub IsActed : Bool → AddressSpace → ℕ → Scalars → Bank → Scalars → Bank → Type 0
IsActed apart m word old before new after =
    ((after ≡ before) × (IsComputed word old new ⊎ IsLoaded m word old new))
    ⊎ ((apart ≡ false) × IsVectored word old before new after)

abbrev pub ActsOn : Bool → AddressSpace → ℕ → Scalars → Bank → Scalars → Bank → Bool → Type 0
ActsOn apart m word old before new after true = IsActed apart m word old before new after
ActsOn apart m word old before new after false = (new ≡ old) × (after ≡ before)

-- an answer, with PC at a distance from an address: it is executed, and so far is the next one; or nothing
-- has changed, and PC is there
abbrev pub ActsTo : Bool → AddressSpace → ℕ → ℕ → ℕ → Scalars → Bank → Option ℕ → Scalars → Bank → Type 0
ActsTo apart m word base at old before (Some next) new after =
    IsActed apart m word (at_distance base at old) before (at_distance base next new) after
ActsTo apart m word base at old before None new after = (new ≡ at_distance base at old) × (after ≡ before)

-- an answer, with PC at a distance from an address: so far it is where an instruction was executed
abbrev pub GoesTo : Bool → ℕ → Scalars → Option ℕ → Type 0
GoesTo executed base s None = executed ≡ false
GoesTo executed base s (Some next) = (executed ≡ true) × (s ≡ at_distance base next s)

-- the instruction at PC does, and it is none to halt before
pub record IsComputedIn (halts : ℕ → ℕ → Bool) (apart : Bool) (m : AddressSpace) (old : Scalars)
    (before : Bank) (new : Scalars) (after : Bank) : Type 0 where
  pub word : ℕ
  pub aligned : old.pc % 4 ≡ 0
  pub fetched : word_at m old.pc ≡ Some word
  pub unhalted : halts old.pc word ≡ false
  pub made : IsActed apart m word old before new after

-- so many of them
abbrev pub AreComputed : (ℕ → ℕ → Bool) → Bool → AddressSpace → ℕ → Scalars → Bank → Scalars → Bank → Type 0
AreComputed halts apart m zero old before new after = (new ≡ old) × (after ≡ before)
AreComputed halts apart m (suc n) old before new after =
    (s : Scalars) × (bank : Bank) × AreComputed halts apart m n old before s bank
    × IsComputedIn halts apart m s bank new after
