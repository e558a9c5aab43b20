-- From a store whose bytes lie near to an instruction that is executed.
use Rattle.std.proofs.Common.{◌≡◌, ℕ, ◌+◌, ◌-◌, ◌%◌, ◌^◌, ◌<◌, Bool, true, false, Option, Some, None, refl, ap, sym, subst, ◌∙◌, arith}
use Rattle.std.specs.Prelude.{◌&&◌, IsTrue}
use Rattle.plain_lemmas.proofs.Tests.{and-false}
use Rattle.a64_encode.specs.Either.{instruction_of}
use Rattle.sm_types.specs.declared.insn.Insn.{Insn}
use Rattle.sm_types.specs.declared.scalars.Scalars.{Scalars}
use Rattle.sm_types.specs.declared.stop.Exception.{Exception}
use Rattle.paged_memory.specs.Memory.{word_at}
use Rattle.paged_memory.specs.PageTable.{PageTable, KeepsShared}
use Rattle.scalar_exec.specs.Apart.{at_distance}
use Rattle.mem_access.specs.Bank.{bank_state}
use Rattle.mem_access.specs.Near.{MakesNear}
use Rattle.mem_access.specs.SharedAccess.{touched}
use Rattle.mem_access.specs.Transfer.{AfterAccess, is_access, transfer_fault}
use Rattle.mem_access.specs.declared.bank.Bank.{Bank}
use Rattle.machine_step.specs.ProcessorState.{ProcessorState, VectorState, vector_bytes}
use Rattle.machine_step.specs.Effect.{Becomes, accessed, effect_of}
use Rattle.machine_step.specs.Execution.{unless_raised}
use Rattle.machine_step.specs.Machine.{core_of, KeepsMode}
use Rattle.machine_step.specs.Needs.{needs_bank}
use Rattle.machine_step.specs.Runs.{IsStored, IsMoved, MovesTo, Stores, StoresTo, machine_at}
use Rattle.machine_step.specs.Computed.{ActsTo, GoesTo, IsActed}
use Rattle.machine_step.specs.System.{core_past}
use Rattle.machine_step.specs.declared.machine.Machine.{Machine}
use Rattle.machine_step.proofs.Answers.{effect_of_word, needs_of_word, unneeded, private_effect}
use Rattle.machine_step.proofs.Computing.{acted}
use Rattle.machine_step.proofs.Flats.{access_apart}

-- a store and the distance of what follows it
pub stored_to : (base at : ℕ) (old new : Machine) (r : Bool) (o : Option ℕ) → Stores (machine_at base at old) new r
    → GoesTo r base new.scalars o → StoresTo base at old o new
stored_to base at old new r None h goes =
    ap (machine_at base at) (subst (λ (b : Bool). Stores (machine_at base at old) new b) goes h)
stored_to base at old new r (Some next) h goes =
    subst (λ (s : Scalars). IsStored (machine_at base at old) (record new { scalars = s })) goes.1
    (subst (λ (b : Bool). Stores (machine_at base at old) new b) goes.0 h)

-- the access is made, PC is moved past it, and nothing else
pub stored_at : (word : ℕ) (it : Insn) (old new : Machine) (s : Scalars) (pages : PageTable) → IsTrue (is_access it)
    → instruction_of word ≡ Some it → old.scalars.pc % 4 ≡ 0 → word_at old.pages.memory old.scalars.pc ≡ Some word
    → touched it old.scalars ≡ None → MakesNear it old.scalars old.pages s pages true
    → ((bank : VectorState) → core_of new bank ≡ core_past (core_of (record old { scalars = s; pages = pages }) bank))
    → new.pages ≡ pages → KeepsShared old.pages pages → KeepsMode old new → IsStored old new
stored_at word it old new s pages access means aligned fetched none h core same shared mode = record {
  effect = λ bank.
      let vl = vector_bytes bank.vectors.vl in
      let c : ProcessorState = core_of old (bank_state bank) in
      effect_of_word vl c word (Some it) aligned fetched means ∙ private_effect word vl it c access none
      ∙ ap (λ (f : Option Exception). unless_raised f (Becomes (accessed it c))) h.0
      ∙ ap Becomes (sym (core (bank_state bank)
      ∙ ap (λ (a : AfterAccess). core_past (record c { scalars = a.scalars; memory = a.memory })) h.1));
  kept = λ apart bank.
      let c : ProcessorState = core_of old bank in
      ap (λ (b : Bool). apart && b) (needs_of_word c word (Some it) aligned fetched means
      ∙ unneeded it c (access_apart it c.streaming access)) ∙ and-false apart;
  shared = subst (λ (t : PageTable). KeepsShared old.pages t) (sym same) shared;
  mode = mode;
}

-- an instruction of the registers alone, or a load, as one of a machine whose pages stay
pub moved_by : (apart : Bool) (base at next word : ℕ) (old : Machine) (v : Bank) (s : Scalars) (w : Bank)
    → v.vectors.streaming ≡ old.streaming → (base + at) % 2 ^ 64 % 4 ≡ 0 → word_at old.pages.memory ((base + at) % 2 ^ 64) ≡ Some word
    → IsActed apart old.pages.memory word (at_distance base at old.scalars) v (at_distance base next s) w
    → IsMoved apart (machine_at base at old) v (machine_at base next (record old { scalars = s })) w
moved_by apart base at next word old v s w mode aligned fetched made =
    let a = acted (λ pc k. false) apart old (at_distance base at old.scalars) v (at_distance base next s) w mode
    (record { word = word; aligned = aligned; fetched = fetched; unhalted = refl; made = made }) in
    record { effect = a.0; kept = a.1 }

-- the same after a store that is not made, and moved PC alone
pub moved_beside : (apart : Bool) (base at word : ℕ) (old mid : Machine) (v : Bank) (s : Scalars) (w : Bank) (o : Option ℕ)
    → v.vectors.streaming ≡ old.streaming → (base + at) % 2 ^ 64 % 4 ≡ 0 → word_at old.pages.memory ((base + at) % 2 ^ 64) ≡ Some word
    → machine_at base at mid ≡ machine_at base at old → ActsTo apart mid.pages.memory word base at mid.scalars v o s w
    → MovesTo apart base at old v o (record mid { scalars = s }) w
moved_beside apart base at word old mid v s w None mode aligned fetched same h =
    (ap (λ (r : Scalars). record mid { scalars = r }) h.0 ∙ same, h.1)
moved_beside apart base at word old mid v s w (Some next) mode aligned fetched same h =
    subst (λ (m : Machine). IsMoved apart m v (machine_at base next (record mid { scalars = s })) w) same
    (moved_by apart base at next word mid v s w (mode ∙ ap (λ (m : Machine). m.streaming) (sym same)) aligned
    (ap (λ (m : Machine). word_at m.pages.memory ((base + at) % 2 ^ 64)) same ∙ fetched) h)
