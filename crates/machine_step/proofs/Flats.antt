-- The rows of instructions that are flat, and of those of the scalar registers alone.
use Rattle.std.proofs.Common.{◌≡◌, ℕ, ◌<◌, ◌^◌, Some, None, true, false, refl, sym, ◌∙◌, ap}
use Rattle.std.specs.Prelude.{MatchOption, IsTrue, Bool, cond}
use Rattle.sm_types.specs.declared.insn.Insn.{Insn}
use Rattle.sm_types.specs.declared.insn.Insn.TheVariants as insn
use Rattle.sm_types.specs.declared.insn.LoadStore.{LoadStore}
use Rattle.sm_types.specs.declared.insn.LoadStorePair.{LoadStorePair}
use Rattle.sm_types.specs.declared.insn.LoadLiteral.{LoadLiteral}
use Rattle.a64_table.specs.Ranges.{IsInRow, IsLoadStore, IsLoadStorePair, IsLoadLiteral}
use Rattle.sve_table.specs.Groups.{is_vector_group}
use Rattle.a64_encode.specs.Either.{instruction_of}
use Rattle.scalar_exec.specs.Step.{is_scalar}
use Rattle.scalar_exec.specs.Flat.{flat_insn, flat_rest, flat_value, first_of, IsFlatInRow, StepsTo, StepsFlat}
use Rattle.scalar_exec.specs.Apart.{at_distance}
use Rattle.sm_types.specs.declared.scalars.Scalars.{Scalars}
use Rattle.machine_step.specs.Computed.{IsComputed}
use Rattle.std.proofs.Common.{Option}
use Rattle.scalar_exec.specs.declared.flat.Flat.{Flat}
use Rattle.scalar_exec.specs.declared.flat.Flat.TheVariants as flat
use Rattle.mem_access.specs.Transfer.{is_access}
use Rattle.machine_step.specs.Needs.{uses_bank}
use Rattle.machine_step.proofs.Known.{scalar_row}

pub scalar_group : (it : Insn) → IsTrue (is_scalar it) → is_vector_group it ≡ false
unfolding is_vector_group
scalar_group (insn.AddSubImmediate x) h = refl
scalar_group (insn.AddSubRegister x) h = refl
scalar_group (insn.LogicalRegister x) h = refl
scalar_group (insn.AddSubExtended x) h = refl
scalar_group (insn.LogicalImmediate x) h = refl
scalar_group (insn.MoveWide x) h = refl
scalar_group (insn.BitfieldMove x) h = refl
scalar_group (insn.Extract x) h = refl
scalar_group (insn.PcRelative x) h = refl
scalar_group (insn.Branch x) h = refl
scalar_group (insn.BranchRegister x) h = refl
scalar_group (insn.AddSubCarry x) h = refl
scalar_group (insn.ConditionalSelect x) h = refl
scalar_group (insn.ConditionalCompare x) h = refl
scalar_group (insn.OneSource x) h = refl
scalar_group (insn.TwoSource x) h = refl
scalar_group (insn.Multiply x) h = refl
scalar_group other h = cc

row_by : (o rest : Option Insn) (word : ℕ) (it : Insn) → word < 2 ^ 32 → instruction_of word ≡ Some it → first_of o rest ≡ Some it
    → MatchOption o Unit (λ i. IsTrue (is_scalar i) → IsInRow i)
row_by None rest word it lt is same = tt
row_by (Some x) rest word it lt is same = λ scalar. scalar_row word x lt (is ∙ sym same) (scalar_group x scalar)

-- a flat instruction that says all of one of the scalar registers alone is in its row
pub flat_row : (f : Flat) (word : ℕ) (it : Insn) → word < 2 ^ 32 → instruction_of word ≡ Some it → flat_value f it ≡ Some it
    → IsFlatInRow f
flat_row f word it lt is same = row_by (flat_insn f) (flat_rest f it) word it lt is same

steps_by : (o rest : Option Insn) (word : ℕ) (it : Insn) (base at next : ℕ) (old new : Scalars) → instruction_of word ≡ Some it
    → first_of o rest ≡ Some it
    → MatchOption o ((Some next ≡ None) × (new ≡ old)) (λ i. StepsTo i base at (Some next) old new)
    → IsComputed word (at_distance base at old) (at_distance base next new)
steps_by None rest word it base at next old new is same h = cc
steps_by (Some x) rest word it base at next old new is same h =
    record { it = x; means = is ∙ sym same; scalar = h.0; is = h.1 }

-- one that is executed
pub flat_computed : (f : Flat) (word : ℕ) (it : Insn) (base at next : ℕ) (old new : Scalars) → instruction_of word ≡ Some it
    → flat_value f it ≡ Some it → StepsFlat f base at (Some next) old new
    → IsComputed word (at_distance base at old) (at_distance base next new)
flat_computed f word it base at next old new is same h =
    steps_by (flat_insn f) (flat_rest f it) word it base at next old new is same h

stays_by : (o : Option Insn) (base at : ℕ) (old new : Scalars)
    → MatchOption o ((◌≡◌ {A = Option ℕ} None None) × (new ≡ old)) (λ i. StepsTo i base at None old new) → new ≡ old
stays_by None base at old new h = h.1
stays_by (Some x) base at old new h = absurd h.1

-- one that is not
pub flat_stays : (f : Flat) (base at : ℕ) (old new : Scalars) → StepsFlat f base at None old new → new ≡ old
flat_stays f base at old new h = stays_by (flat_insn f) base at old new h

is_scalar_by : (b : Bool) (it : Insn) → cond b (Some it) None ≡ Some it → IsTrue b
is_scalar_by true it h = refl
is_scalar_by false it h = cc

-- one that is flat only as one of the scalar registers alone
pub scalar_by_flat : (f : Flat) (it : Insn) → f ≡ flat.Scalar → flat_value f it ≡ Some it → IsTrue (is_scalar it)
scalar_by_flat f it is h = is_scalar_by (is_scalar it) it (ap (λ (g : Flat). flat_value g it) (sym is) ∙ h)

-- loads
pub load_row : (word : ℕ) (x : LoadStore) → word < 2 ^ 32 → instruction_of word ≡ Some (insn.LoadStore x) → IsLoadStore x
unfolding is_vector_group
load_row word x lt is = scalar_row word (insn.LoadStore x) lt is refl

pub pair_row : (word : ℕ) (x : LoadStorePair) → word < 2 ^ 32 → instruction_of word ≡ Some (insn.LoadStorePair x) → IsLoadStorePair x
unfolding is_vector_group
pair_row word x lt is = scalar_row word (insn.LoadStorePair x) lt is refl

pub literal_row : (word : ℕ) (x : LoadLiteral) → word < 2 ^ 32 → instruction_of word ≡ Some (insn.LoadLiteral x) → IsLoadLiteral x
unfolding is_vector_group
literal_row word x lt is = scalar_row word (insn.LoadLiteral x) lt is refl

-- accesses
pub access_group : (it : Insn) → IsTrue (is_access it) → is_vector_group it ≡ false
unfolding is_vector_group
access_group (insn.LoadStore x) h = refl
access_group (insn.LoadLiteral x) h = refl
access_group (insn.LoadStorePair x) h = refl
access_group (insn.Atomic x) h = refl
access_group other h = cc

pub access_apart : (it : Insn) (streaming : Bool) → IsTrue (is_access it) → uses_bank it streaming ≡ false
access_apart (insn.LoadStore x) streaming h = refl
access_apart (insn.LoadLiteral x) streaming h = refl
access_apart (insn.LoadStorePair x) streaming h = refl
access_apart (insn.Atomic x) streaming h = refl
access_apart other streaming h = cc

-- the meaning of a word by its flat instruction
pub flat_means : (f g : Flat) (word : ℕ) (it x : Insn) → instruction_of word ≡ Some it → flat_value f it ≡ Some it → f ≡ g
    → flat_value g it ≡ Some x → instruction_of word ≡ Some x
flat_means f g word it x known h is same = known ∙ sym h ∙ ap (λ (k : Flat). flat_value k it) is ∙ same
