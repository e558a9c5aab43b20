-- From an answer to the distance of the next instruction.
use Rattle.std.proofs.Common.{inl, inr, ◌≡◌, ℕ, Bool, true, false, Option, Some, None, refl, subst}
use Rattle.sm_types.specs.declared.scalars.Scalars.{Scalars}
use Rattle.paged_memory.specs.Memory.{AddressSpace}
use Rattle.scalar_exec.specs.Apart.{at_distance}
use Rattle.mem_access.specs.declared.bank.Bank.{Bank}
use Rattle.machine_step.specs.Computed.{ActsOn, ActsTo, GoesTo, IsActed, LoadsAt, VectorsAt}

pub acted_to : (apart : Bool) (m : AddressSpace) (word base at : ℕ) (old new : Scalars) (v w : Bank) (r : Bool) (o : Option ℕ)
    → ActsOn apart m word (at_distance base at old) v new w r → GoesTo r base new o → ActsTo apart m word base at old v o new w
acted_to apart m word base at old new v w r None h goes =
    subst (λ (b : Bool). ActsOn apart m word (at_distance base at old) v new w b) goes h
acted_to apart m word base at old new v w r (Some next) h goes =
    subst (λ (s : Scalars). IsActed apart m word (at_distance base at old) v s w) goes.1
    (subst (λ (b : Bool). ActsOn apart m word (at_distance base at old) v new w b) goes.0 h)

pub loads_on : (apart : Bool) (m : AddressSpace) (word : ℕ) (old new : Scalars) (v : Bank) (r : Bool) → LoadsAt m word old new r
    → ActsOn apart m word old v new v r
loads_on apart m word old new v true h = inl (refl, inr h)
loads_on apart m word old new v false h = (h, refl)

pub vectors_on : (apart : Bool) (m : AddressSpace) (word : ℕ) (old new : Scalars) (v w : Bank) (r : Bool) → apart ≡ false
    → VectorsAt word old v new w r → ActsOn apart m word old v new w r
vectors_on apart m word old new v w true off h = inr (off, h)
vectors_on apart m word old new v w false off h = h
