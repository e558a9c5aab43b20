-- From instructions of a page of code that read and write scalar registers alone to instructions that are executed.
use Rattle.std.proofs.Common.{◌≡◌, ℕ, zero, suc, ◌+◌, Bool, true, false, Option, Some, inl, inr, refl, ap, sym, subst, ◌∙◌, arith}
use Rattle.std.specs.Prelude.{◌&&◌, ◌%◌, ◌⊎◌, not, List, IsTrue}
use Rattle.plain_lemmas.proofs.Tests.{and-false}
use Rattle.sm_types.specs.declared.insn.Insn.{Insn}
use Rattle.sm_types.specs.declared.insn.Insn.TheVariants as insn
use Rattle.sm_types.specs.declared.scalars.Scalars.{Scalars}
use Rattle.scalar_exec.specs.Step.{is_scalar}
use Rattle.machine_step.specs.ProcessorState.{ProcessorState, vector_bytes}
use Rattle.machine_step.specs.Effect.{Becomes, effect_of, accessed, vector_computed, is_first_fault}
use Rattle.machine_step.specs.Needs.{uses_bank, needs_bank}
use Rattle.machine_step.specs.Computed.{AreComputed, IsComputed, IsLoaded, IsComputedIn, IsVectored, is_computed_anywhere, is_plain_load}
use Rattle.sm_types.specs.declared.length.VecLen.{VecLen}
use Rattle.sm_types.specs.declared.vector.PredicateCount.TheVariants.{While, Active}
use Rattle.sve_table.specs.Groups.{is_vector_group}
use Rattle.sve_vectors.specs.State.{SveState, length_of}
use Rattle.vector_step.specs.Core.{core_of as vector_registers}
use Rattle.vector_step.specs.Step.{is_vector_computed, vector_step}
use Rattle.mem_access.specs.Bank.{bank_state}
use Rattle.za_array.specs.Array.{ArrayState}
use Rattle.mem_access.specs.declared.bank.Bank.{Bank}
use Rattle.machine_step.specs.Machine.{core_of, IsInMode, IsSameBank, KeepsMode}
use Rattle.machine_step.specs.declared.machine.Machine.{Machine}
use Rattle.machine_step.specs.Several.{AreExecuted, halts_at, halts_in}
use Rattle.machine_step.proofs.Answers.{effect_of_word, needs_of_word, scalar_effect, unneeded, private_effect, held_with, vector_core}
use Rattle.scalar_exec.specs.Registers.{past}
use Rattle.mem_access.specs.Transfer.{is_access, after_access}
use Rattle.machine_step.specs.Execution.{unless_raised, effect_of_insn}
use Rattle.sm_types.specs.declared.stop.Exception.{Exception}
use Rattle.paged_memory.specs.Memory.{AddressSpace, word_at}
use Rattle.paged_memory.specs.PageTable.{PageTable, KeepsOwned, IsOwned}

-- an instruction of the scalar registers alone needs no bank
scalar_apart : (it : Insn) (streaming : Bool) → IsTrue (is_scalar it) → uses_bank it streaming ≡ false
scalar_apart (insn.AddSubImmediate x) streaming h = refl
scalar_apart (insn.AddSubRegister x) streaming h = refl
scalar_apart (insn.LogicalRegister x) streaming h = refl
scalar_apart (insn.AddSubExtended x) streaming h = refl
scalar_apart (insn.LogicalImmediate x) streaming h = refl
scalar_apart (insn.MoveWide x) streaming h = refl
scalar_apart (insn.BitfieldMove x) streaming h = refl
scalar_apart (insn.Extract x) streaming h = refl
scalar_apart (insn.PcRelative x) streaming h = refl
scalar_apart (insn.Branch x) streaming h = refl
scalar_apart (insn.BranchRegister x) streaming h = refl
scalar_apart (insn.AddSubCarry x) streaming h = refl
scalar_apart (insn.ConditionalSelect x) streaming h = refl
scalar_apart (insn.ConditionalCompare x) streaming h = refl
scalar_apart (insn.OneSource x) streaming h = refl
scalar_apart (insn.TwoSource x) streaming h = refl
scalar_apart (insn.Multiply x) streaming h = refl
scalar_apart other streaming h = cc

load_apart : (it : Insn) (streaming : Bool) → IsTrue (is_plain_load it) → uses_bank it streaming ≡ false
load_apart (insn.LoadStore x) streaming h = refl
load_apart (insn.LoadLiteral x) streaming h = refl
load_apart (insn.LoadStorePair x) streaming h = refl
load_apart other streaming h = cc

load_access : (it : Insn) → IsTrue (is_plain_load it) → IsTrue (is_access it)
load_access (insn.LoadStore x) h = refl
load_access (insn.LoadLiteral x) h = refl
load_access (insn.LoadStorePair x) h = refl
load_access other h = cc

-- what the instruction at PC becomes, and that it needs no bank
scalars_acted : (apart : Bool) (vl word : ℕ) (s : ProcessorState) (old new : Scalars) → old.pc % 4 ≡ 0
    → word_at s.memory old.pc ≡ Some word → IsComputed word old new ⊎ IsLoaded s.memory word old new
    → (effect_of vl (record s { scalars = old }) ≡ Becomes (record s { scalars = new }))
    × ((apart && needs_bank (record s { scalars = old })) ≡ false)
scalars_acted apart vl word s old new aligned fetched made =
    let before : ProcessorState = record s { scalars = old } in
    elim made [
      | inl scalar ↦ (
        effect_of_word vl before word (Some scalar.it) aligned fetched scalar.means
            ∙ scalar_effect word vl scalar.it before scalar.scalar
            ∙ ap (λ (k : Scalars). Becomes (record s { scalars = k })) (sym scalar.is),
        ap (λ (k : Bool). apart && k) (needs_of_word before word (Some scalar.it) aligned fetched scalar.means
            ∙ unneeded scalar.it before (scalar_apart scalar.it before.streaming scalar.scalar)) ∙ and-false apart,
      )
      | inr load ↦ (
        effect_of_word vl before word (Some load.it) aligned fetched load.means
            ∙ private_effect word vl load.it before (load_access load.it load.load) load.made.private
            ∙ ap (λ (f : Option Exception). unless_raised f (Becomes (accessed load.it before))) load.made.allowed
            ∙ ap (λ (k : AddressSpace). Becomes (record s { scalars = past (after_access load.it old s.memory).scalars; memory = k }))
            load.made.memory
            ∙ ap (λ (k : Scalars). Becomes (record s { scalars = k })) (sym load.made.is),
        ap (λ (k : Bool). apart && k) (needs_of_word before word (Some load.it) aligned fetched load.means
            ∙ unneeded load.it before (load_apart load.it before.streaming load.load)) ∙ and-false apart,
      )
    ]

-- an instruction of the registers alone that each mode allows
anywhere_computed : (a b : Bool) → IsTrue (a && not b) → IsTrue a
anywhere_computed true b h = refl
anywhere_computed false b h = cc

pub vector_computes : (it : Insn) → IsTrue (is_computed_anywhere it) → IsTrue (is_vector_computed it)
vector_computes it h = anywhere_computed (is_vector_computed it) (is_first_fault it) h

pub vector_grouped : (it : Insn) → IsTrue (is_vector_computed it) → is_vector_group it ≡ true
vector_grouped (insn.VectorAccess x) h = cc
vector_grouped (insn.Mode x) h = cc
vector_grouped (insn.ArrayAccess x) h = cc
vector_grouped (insn.TileAccess x) h = cc
vector_grouped (insn.TileMove x) h = cc
vector_grouped (insn.TileAdd x) h = cc
vector_grouped (insn.OuterProduct x) h = cc
vector_grouped (insn.StreamingLength x) h = cc
vector_grouped other h = h

vector_effect : (word vl : ℕ) (it : Insn) (s : ProcessorState) → IsTrue (is_computed_anywhere it)
    → effect_of_insn word it vl s ≡ Becomes (vector_computed vl it s)
unfolding is_vector_group
vector_effect word vl (insn.VectorArithmetic x) s h = refl
vector_effect word vl (insn.VectorLogical x) s h = refl
vector_effect word vl (insn.PredicatedBinary x) s h = refl
vector_effect word vl (insn.MultiplyAdd x) s h = refl
vector_effect word vl (insn.PredicatedUnary x) s h = refl
vector_effect word vl (insn.VectorShift x) s h = refl
vector_effect word vl (insn.VectorCopy x) s h = refl
vector_effect word vl (insn.VectorPermute x) s h = refl
vector_effect word vl (insn.VectorReduction x) s h = refl
vector_effect word vl (insn.VectorCompare x) s h = refl
vector_effect word vl (insn.Predicate x) s h = refl
vector_effect word vl (insn.PredicateCount (While signed wide size rm rn pd)) s h = refl
vector_effect word vl (insn.PredicateCount (Active size pg pn rd)) s h = refl
vector_effect word vl (insn.ElementCount x) s h = refl
vector_effect word vl (insn.Sve2 x) s h = refl
vector_effect word vl other s h = cc

-- the bank but for its registers
pub record StaysBank (old new : Bank) : Type 0 where
  pub vl : new.vectors.vl ≡ old.vectors.vl
  pub svl : new.vectors.svl ≡ old.vectors.svl
  pub streaming : new.vectors.streaming ≡ old.vectors.streaming
  pub array : new.za ≡ old.za
  pub owner : new.owner ≡ old.owner

bank_stays : (old new : Bank) → new ≡ old → StaysBank old new
bank_stays old new h = record {
  vl = ap (λ (b : Bank). b.vectors.vl) h;
  svl = ap (λ (b : Bank). b.vectors.svl) h;
  streaming = ap (λ (b : Bank). b.vectors.streaming) h;
  array = ap (λ (b : Bank). b.za) h;
  owner = ap (λ (b : Bank). b.owner) h;
}

pub acted_stays : (halts : ℕ → ℕ → Bool) (apart : Bool) (m : AddressSpace) (old : Scalars) (v : Bank) (new : Scalars) (w : Bank)
    → IsComputedIn halts apart m old v new w → StaysBank v w
acted_stays halts apart m old v new w h =
    elim h.made [
      | inl made ↦ bank_stays v w made.0
      | inr made ↦ record {
        vl = ap (λ (x : SveState). x.vl) made.1.made.vectors;
        svl = ap (λ (x : SveState). x.svl) made.1.made.vectors;
        streaming = ap (λ (x : SveState). x.streaming) made.1.made.vectors;
        array = made.1.made.array;
        owner = made.1.made.owner;
      }
    ]

pub computed_stays : (halts : ℕ → ℕ → Bool) (apart : Bool) (m : AddressSpace) (n : ℕ) (old : Scalars) (v : Bank) (new : Scalars) (w : Bank)
    → AreComputed halts apart m n old v new w → StaysBank v w
computed_stays halts apart m zero old v new w h = bank_stays v w h.1
computed_stays halts apart m (suc n) old v new w h =
    let a = computed_stays halts apart m n old v h.0 h.1 h.2 in
    let b = acted_stays halts apart m h.0 h.1 new w h.3 in
    record {
      vl = b.vl ∙ a.vl;
      svl = b.svl ∙ a.svl;
      streaming = b.streaming ∙ a.streaming;
      array = b.array ∙ a.array;
      owner = b.owner ∙ a.owner;
    }

-- what the instruction at PC becomes, with its bank
vectored : (word : ℕ) (m : Machine) (old : Scalars) (v : Bank) (new : Scalars) (w : Bank) → v.vectors.streaming ≡ m.streaming
    → old.pc % 4 ≡ 0 → word_at m.pages.memory old.pc ≡ Some word → IsVectored word old v new w
    → effect_of (vector_bytes v.vectors.vl) (core_of (record m { scalars = old }) (bank_state v))
    ≡ Becomes (core_of (record m { scalars = new }) (bank_state w))
vectored word m old v new w mode aligned fetched h =
    let k : Machine = record m { scalars = old } in
    let s : ProcessorState = core_of k (bank_state v) in
    let vl = vector_bytes v.vectors.vl in
    let made = vector_step (length_of v.vectors) h.it (vector_registers old v.vectors) in
    let za : w.za.vectors ≡ v.za.vectors = ap (λ (z : ArrayState). z.vectors) h.made.array in
    effect_of_word vl s word (Some h.it) aligned fetched h.means
    ∙ vector_effect word vl h.it s h.anywhere
    ∙ ap Becomes (sym (vector_core k v.vectors w.vectors v.za.vectors made.scalars h.it h.made.long mode refl h.made.vectors))
    ∙ ap (λ (r : Scalars). Becomes (core_of (record m { scalars = r }) (held_with w.vectors v.za.vectors))) (sym h.made.scalars)
    ∙ ap (λ (z : List (List ℕ)). Becomes (core_of (record m { scalars = new }) (held_with w.vectors z))) (sym za)

pub acted : (halts : ℕ → ℕ → Bool) (apart : Bool) (m : Machine) (old : Scalars) (v : Bank) (new : Scalars) (w : Bank)
    → v.vectors.streaming ≡ m.streaming → IsComputedIn halts apart m.pages.memory old v new w
    → (effect_of (vector_bytes v.vectors.vl) (core_of (record m { scalars = old }) (bank_state v))
    ≡ Becomes (core_of (record m { scalars = new }) (bank_state w)))
    × ((apart && needs_bank (core_of (record m { scalars = old }) (bank_state v))) ≡ false)
acted halts apart m old v new w mode h =
    elim h.made [
      | inl made ↦
          let a = scalars_acted apart (vector_bytes v.vectors.vl) h.word (core_of m (bank_state v)) old new h.aligned h.fetched made.1 in (
            a.0 ∙ ap (λ (b : Bank). Becomes (core_of (record m { scalars = new }) (bank_state b))) (sym made.0),
            a.1,
          )
      | inr made ↦ (
        vectored h.word m old v new w mode h.aligned h.fetched made.1,
        ap (λ (b : Bool). b && needs_bank (core_of (record m { scalars = old }) (bank_state v))) made.0,
      )
    ]

-- whether it halts before a word that is fetched
pub halts_fetched : (halts : ℕ → ℕ → Bool) (m : AddressSpace) (pc word : ℕ) (b : Bool) → word_at m pc ≡ Some word
    → halts pc word ≡ b → halts_in halts m pc ≡ b
halts_fetched halts m pc word b is h = ap (λ (o : Option ℕ). halts_at halts pc o) is ∙ h

pub computed_executed : (halts : ℕ → ℕ → Bool) (apart : Bool) (n : ℕ) (m : Machine) (old : Scalars) (v : Bank) (new : Scalars) (w : Bank)
    → v.vectors.streaming ≡ m.streaming → AreComputed halts apart m.pages.memory n old v new w
    → AreExecuted halts apart (vector_bytes v.vectors.vl) n (core_of (record m { scalars = old }) (bank_state v))
    (core_of (record m { scalars = new }) (bank_state w))
computed_executed halts apart zero m old v new w mode h =
    ap (λ (s : Scalars). core_of (record m { scalars = s }) (bank_state w)) h.0
    ∙ ap (λ (b : Bank). core_of (record m { scalars = old }) (bank_state b)) h.1
computed_executed halts apart (suc n) m old v new w mode h =
    let kept = computed_stays halts apart m.pages.memory n old v h.0 h.1 h.2 in
    let a = acted halts apart m h.0 h.1 new w (kept.streaming ∙ mode) h.3 in (
      core_of (record m { scalars = h.0 }) (bank_state h.1),
      computed_executed halts apart n m old v h.0 h.1 mode h.2,
      ap (λ (l : VecLen). effect_of (vector_bytes l) (core_of (record m { scalars = h.0 }) (bank_state h.1))) (sym kept.vl) ∙ a.0,
      a.1,
      halts_fetched halts m.pages.memory h.0.pc h.3.word false h.3.fetched h.3.unhalted,
    )

-- instructions that are executed, and then more of them
pub executed_join : (halts : ℕ → ℕ → Bool) (apart : Bool) (vl n k : ℕ) (a b c : ProcessorState) → AreExecuted halts apart vl n a b
    → AreExecuted halts apart vl k b c → AreExecuted halts apart vl (n + k) a c
executed_join halts apart vl n zero a b c h e = let z : n + 0 ≡ n = omega arith in rw (z, e) h
executed_join halts apart vl n (suc k) a b c h e =
    let z : n + suc k ≡ suc (n + k) = omega arith in rw z (e.0, executed_join halts apart vl n k a b e.0 h e.1, e.2, e.3, e.4)

-- the same of a machine and its bank
pub executed_after : (halts : ℕ → ℕ → Bool) (apart : Bool) (vl : VecLen) (n k : ℕ) (from : ProcessorState) (m : Machine) (b : Bank)
    (to : ProcessorState) → b.vectors.vl ≡ vl → AreExecuted halts apart (vector_bytes vl) n from (core_of m (bank_state b))
    → AreExecuted halts apart (vector_bytes b.vectors.vl) k (core_of m (bank_state b)) to
    → AreExecuted halts apart (vector_bytes vl) (n + k) from to
executed_after halts apart vl n k from m b to same h e =
    executed_join halts apart (vector_bytes vl) n k from (core_of m (bank_state b)) to h
    (subst (λ (l : VecLen). AreExecuted halts apart (vector_bytes l) k (core_of m (bank_state b)) to) same e)

pub same_trans : (a b c : Bank) → IsSameBank a b → IsSameBank b c → IsSameBank a c
same_trans a b c h e = record { vl = e.vl ∙ h.vl; svl = e.svl ∙ h.svl; owner = e.owner ∙ h.owner }

-- pages that stay
pub kept_same : (old new : PageTable) → new ≡ old → KeepsOwned old new
kept_same old new same n owned = subst (λ (p : PageTable). IsOwned p n) (sym same) owned

-- a machine whose modes stay
pub mode_stays : (b : Bank) (m n : Machine) → IsInMode b m → KeepsMode m n → IsInMode b n
mode_stays b m n h e = record { streaming = h.streaming ∙ sym e.streaming; off = λ off. h.off (sym e.za_on ∙ off) }
