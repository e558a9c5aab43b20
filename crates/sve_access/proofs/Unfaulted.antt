-- Loads of which no check fails, as their bytes are there.
use Rattle.std.proofs.Common.{◌≡◌, ℕ, ◌*◌, ◌/◌, true, false, List, Option, Some, None, Ok, refl, ap, ap₂, sym, ◌∙◌}
use Rattle.std.specs.Prelude.{IfSome, length, option_map}
use Rattle.std.specs.List.{find}
use Rattle.std.specs.Option.{option_or}
use Rattle.plain_lemmas.proofs.Options.{neither_some}
use Rattle.sm_types.specs.declared.scalars.Scalars.{Scalars}
use Rattle.sm_types.specs.declared.stop.Exception.{Exception}
use Rattle.sm_types.specs.declared.stop.Exception.TheVariants.{Shared, Data}
use Rattle.sm_types.specs.declared.stop.Access.TheVariants.{Read, Write}
use Rattle.sm_types.specs.declared.vector as types
use types.{LoadType.LoadType, VectorOffset.VectorOffset}
use types.VectorAccess.TheVariants.{Load}
use Rattle.paged_memory.specs.Memory.{AddressSpace, bytes_with, first_without, run_of}
use Rattle.paged_memory.specs.PageTable.{PageTable}
use Rattle.paged_memory.proofs.Accesses.{first_without-none}
use Rattle.vector_elements.specs.declared.size.Size.{Size}
use Rattle.vector_elements.specs.Active.{AreActive}
use Rattle.vector_elements.specs.Elements.{element_of, each_element, each_or_zero}
use Rattle.vector_elements.specs.Numbers.{bytes_in}
use Rattle.vector_elements.proofs.Full.{all_active_or_zero}
use Rattle.sve_vectors.specs.Registers.{vector_at, predicate_at}
use Rattle.sve_vectors.specs.State.{SveState, length_of, with_vector}
use Rattle.mem_access.specs.Checks.{lacks, is_shared, access_fault, sp_fault, shared_fault, write_fault}
use Rattle.mem_access.specs.Runs.{denied_write}
use Rattle.mem_access.specs.Values.{number_at}
use Rattle.mem_access.proofs.Lists.{denied_run}
use Rattle.sve_access.specs.After.{at_base, access_of, registers_after, stored, start_of, contents_of, IsMade}
use Rattle.sve_access.specs.Contiguous.{memory_size, element_size, loaded}
use Rattle.sve_access.specs.Elements.{element_run, element_addresses}
use Rattle.sve_access.proofs.Faults.{load_is, store_is}
use Rattle.sve_access.proofs.Spans.{loads_same, none_of_span}

-- what is so of any value, and what follows from two facts of it
pub of_any : {A : Type 0} (o : Option A) (P : Type 0) → P → IfSome o (λ x. P)
of_any None P p = tt
of_any (Some x) P p = p

pub of_both : {A : Type 0} (o : Option A) (P Q R : A → Type 0) → ((x : A) → P x → Q x → R x) → IfSome o P → IfSome o Q → IfSome o R
of_both None P Q R then p q = tt
of_both (Some x) P Q R then p q = then x p q

-- bytes that are there can be read
there_lacks : (m : AddressSpace) (a n : ℕ) (bs : List ℕ) → bytes_with 4 m a n ≡ Some bs → find (lacks 4 m) (run_of a n) ≡ None
there_lacks m a n bs there = denied_run 4 m a n ∙ first_without-none 4 m a n (rw there refl)

-- no check of a load fails
pub none_of_load : (rn : ℕ) (bytes : List ℕ) (s : Scalars) (m : AddressSpace) → sp_fault (at_base rn false bytes) s ≡ None
    → find is_shared bytes ≡ None → find (lacks 4 m) bytes ≡ None → access_fault None (at_base rn false bytes) s m ≡ None
none_of_load rn bytes s m sp unshared readable =
    sym (load_is rn bytes s m)
    ∙ ap₂ (λ a b. option_or a b) sp
    (ap₂ (λ a b. option_or (option_map Shared a) (option_map (λ x. Data x Read) b)) unshared readable)

pub none_of_run : (rn a n : ℕ) (s : Scalars) (m : AddressSpace) (bs : List ℕ) → sp_fault (at_base rn false (run_of a n)) s ≡ None
    → find is_shared (run_of a n) ≡ None → bytes_with 4 m a n ≡ Some bs
    → access_fault None (at_base rn false (run_of a n)) s m ≡ None
none_of_run rn a n s m bs sp unshared there = none_of_load rn (run_of a n) s m sp unshared (there_lacks m a n bs there)

pub none_of_elements : (rn start : ℕ) (memory element : Size) (pg : List ℕ) (size : ℕ) (s : Scalars) (m : AddressSpace) (bs : List ℕ)
    → sp_fault (at_base rn false (element_addresses start memory element pg)) s ≡ None
    → size ≡ 8 * length pg / bytes_in element * bytes_in memory → find is_shared (run_of start size) ≡ None
    → bytes_with 4 m start size ≡ Some bs
    → access_fault None (at_base rn false (element_addresses start memory element pg)) s m ≡ None
none_of_elements rn start memory element pg size s m bs sp is unshared there =
    none_of_load rn (element_addresses start memory element pg) s m sp
    (none_of_span is_shared start memory element pg size is unshared)
    (none_of_span (lacks 4 m) start memory element pg size is (there_lacks m start size bs there))

-- what a load of all elements has made
pub whole_made : (kind : LoadType) (offset : VectorOffset) (pg rn zt : ℕ) (s : Scalars) (v new : SveState) (pages : PageTable)
    (start : ℕ) (bytes : List ℕ)
    → start ≡ start_of offset (memory_size kind) (element_size kind) rn s (length_of v)
    → AreActive (element_size kind) (predicate_at v.registers pg)
    → length (vector_at v.registers zt) ≡ 8 * length (predicate_at v.registers pg)
    → bytes_with 4 pages.memory start (length bytes) ≡ Some bytes
    → length bytes ≡ 8 * length (predicate_at v.registers pg) / bytes_in (element_size kind) * bytes_in (memory_size kind)
    → access_fault None
    (at_base rn false (element_addresses start (memory_size kind) (element_size kind) (predicate_at v.registers pg))) s pages.memory ≡ None
    → new ≡ with_vector v zt (each_element (bytes_in (element_size kind)) (vector_at v.registers zt)
    (λ i old. loaded kind (element_of (bytes_in (memory_size kind)) bytes i)))
    → IsMade (Load kind offset pg rn zt) s v new pages pages (Ok tt)
unfolding access_of registers_after stored
whole_made kind offset pg rn zt s v new pages start bytes from active bits there long allowed is =
    let e = bytes_in (element_size kind) in
    let p = predicate_at v.registers pg in
    let z = vector_at v.registers zt in
    let m = pages.memory in
    let size : length bytes ≡ length z / e * bytes_in (memory_size kind) =
    long ∙ ap (λ n. n / e * bytes_in (memory_size kind)) (sym bits) in
    let same = all_active_or_zero (element_size kind) p z (λ i old. loaded kind (element_of (bytes_in (memory_size kind)) bytes i))
    active bits
    ∙ loads_same kind m start (length bytes) (element_size kind) p z bytes there size
    ∙ ap (λ a. each_or_zero e p z (λ i old. loaded kind (number_at m (element_run a (memory_size kind) i)))) from in (
      ap (λ a. access_fault None (at_base rn false (element_addresses a (memory_size kind) (element_size kind) p)) s m) (sym from)
          ∙ allowed,
      ap (λ (x : SveState). contents_of x.registers pages) (is ∙ ap (with_vector v zt) same),
    )

pub placed_some : (a b c : Option Exception) (x : Exception) → option_or a b ≡ Some x → option_or a (option_or b c) ≡ Some x
placed_some None None c x e = cc
placed_some None (Some y) c x e = e
placed_some (Some y) b c x e = e

pub store_denied : (rn a n : ℕ) (s : Scalars) (m : AddressSpace)
    → option_or (sp_fault (at_base rn true (run_of a n)) s) (shared_fault (at_base rn true (run_of a n))) ≡ None
    → access_fault None (at_base rn true (run_of a n)) s m ≡ denied_write m a n
store_denied rn a n s m none =
    let both = neither_some (sp_fault (at_base rn true (run_of a n)) s) (shared_fault (at_base rn true (run_of a n))) none in
    sym (store_is rn (run_of a n) s m)
    ∙ ap₂ (λ p q. option_or p (option_or q (write_fault (at_base rn true (run_of a n)) m))) both.0 both.1
    ∙ ap (option_map (λ x. Data x Write)) (denied_run 2 m a n)

pub store_placed : (rn : ℕ) (bytes : List ℕ) (s : Scalars) (m : AddressSpace) (x : Exception)
    → option_or (sp_fault (at_base rn true bytes) s) (shared_fault (at_base rn true bytes)) ≡ Some x
    → access_fault None (at_base rn true bytes) s m ≡ Some x
store_placed rn bytes s m x placed =
    sym (store_is rn bytes s m)
    ∙ placed_some (sp_fault (at_base rn true bytes) s) (shared_fault (at_base rn true bytes))
    (write_fault (at_base rn true bytes) m) x placed
