-- Loads and stores of vectors, predicates and ZA, where no check fails, keep lengths and bytes.
use Rattle.std.proofs.Common.{◌≡◌, ℕ, suc, ◌+◌, ◌*◌, ◌/◌, ◌%◌, ◌^◌, ◌<◌, Bool, true, false, not, cond, List, [], ◌∷◌, length}
use Rattle.std.proofs.Common.{refl, ap, ◌∙◌, arith, Option, Some, None, replicate, if◌then◌else◌}
use Rattle.std.specs.Prelude.{unwrap_or, is_some, slice_index_or}
use Rattle.std.specs.List.{find}
use Rattle.std.proofs.lemmas.List.{length-replicate}
use Rattle.std.proofs.lemmas.List.Elements.{All-replicate}
use Rattle.sm_types.specs.declared.scalars.Scalars.{Scalars}
use Rattle.sm_types.specs.declared.vector.VectorAccess.{VectorAccess}
use Rattle.sm_types.specs.declared.vector.VectorAccess.TheVariants.{Load, Store, Vector, Predicate}
use Rattle.sm_types.specs.declared.matrix.TileAccess.{TileAccess}
use Rattle.sve_table.specs.Ranges.{IsVectorAccess, IsTileAccess}
use Rattle.vector_elements.specs.Elements.{is_active}
use Rattle.vector_elements.specs.Numbers.{bytes_in}
use Rattle.sve_vectors.specs.Registers.{VectorRegisters, vector_at, truths_at, predicate_at}
use Rattle.paged_memory.specs.Memory.{AddressSpace, byte_with}
use Rattle.mem_access.specs.Checks.{lacks, access_fault}
use Rattle.mem_access.specs.Values.{bytes_at}
use Rattle.mem_access.proofs.Lists.{length-run, denied_run}
use Rattle.sve_access.specs.Elements.{element_bytes, places_of}
use Rattle.sve_access.specs.After.{at_base, access_of, vector_fault, read_bytes, registers_after, stored, after_access, AfterVectorAccess}
use Rattle.sve_access.specs.Contiguous.{element_size, size_of}
use Rattle.sve_access.proofs.Faults.{can_read}
use Rattle.tile_ops.specs.declared.slices.SliceAt.{SliceAt}
use Rattle.tile_ops.specs.Slices.{slice_bytes}
use Rattle.tile_ops.specs.Named.{slice_of}
use Rattle.tile_ops.proofs.Joined.{length-joined}
use Rattle.za_access.specs.Contents.{Contents}
use Rattle.za_access.specs.Vectors.{vector_access, array_after, after_vector, vector_number}
use Rattle.za_access.specs.Vectors as za
use Rattle.za_access.specs.Slices.{slice_access, slice_fault, slice_array_after, slice_stored, after_slice, loaded_slice, loaded_element}
use Rattle.za_access.specs.Slices.{active_bytes, active_places, active_addresses, element_run, first_address}
use Rattle.za_access.proofs.Loaded.{each_readable}
use Rattle.reach_laws.specs.Run.{HasBytes}
use Rattle.reach_laws.proofs.Fits.{AreBytes, Holds, IsLength, IsArray}
use Rattle.reach_laws.proofs.Bytes.{are_parts, are_concat, all_listed, are_predicate_bytes}
use Rattle.reach_laws.proofs.Memory.{AreSomeBytes, bytes_written, are_read}
use Rattle.reach_laws.proofs.Registers.{holds_each, holds_vector, holds_truths, vector_bytes_at}
use Rattle.reach_laws.proofs.Arrays.{row_bytes, array_set, slice_written, slice_small, is_slice, IsSlice}

-- ---- what can be read has a byte at each address

record IsThere (m : AddressSpace) (addresses : List ℕ) : Type 0 where
  pub bytes : List ℕ
  pub read : bytes_at m addresses ≡ Some bytes
  pub long : length bytes ≡ length addresses

are_there : (m : AddressSpace) (addresses : List ℕ) → find (lacks 4 m) addresses ≡ None → IsThere m addresses
unfolding bytes_at
are_there m [] e = record { bytes = []; read = refl; long = refl }
are_there m (a ∷ addresses) e = first (byte_with 4 m a) refl (λ f. are_there m addresses f)
  where
    rest : (b : ℕ) → byte_with 4 m a ≡ Some b → IsThere m addresses → IsThere m (a ∷ addresses)
    rest b is r = record { bytes = b ∷ r.bytes; read = rw (is, r.read) refl; long = ap suc r.long }

    first : (o : Option ℕ) → byte_with 4 m a ≡ o → (find (lacks 4 m) addresses ≡ None → IsThere m addresses) → IsThere m (a ∷ addresses)
    first None is later = (let none : ⊥ = (let f : cond (not (is_some (byte_with 4 m a))) (Some a) (find (lacks 4 m) addresses)
        ≡ None = e in
        let g : Some a ≡ None = rw is at f in cc) in absurd none)
    first (Some b) is later =
        rest b is (later
        (let f : cond (not (is_some (byte_with 4 m a))) (Some a) (find (lacks 4 m) addresses) ≡ None = e in rw is at f))

read_long : (m : AddressSpace) (addresses : List ℕ) → find (lacks 4 m) addresses ≡ None → length (read_bytes m addresses) ≡ length addresses
read_long m addresses e = let r = are_there m addresses e in ap (λ o. length (unwrap_or o [])) r.read ∙ r.long

-- ---- vectors and predicates

pub record VectorAccessHolds (l : ℕ) (after : AfterVectorAccess) : Type 0 where
  pub registers : Holds l after.registers
  pub memory : HasBytes after.memory

module _ (l : ℕ) (w : IsLength l) (s : Scalars) (r : VectorRegisters) (h : Holds l r) (m : AddressSpace) (holds : HasBytes m) where
  loaded_registers : (x : VectorAccess) → IsVectorAccess x → vector_fault x s l r m ≡ None → Holds l (registers_after x s l r m)
  unfolding access_of registers_after
  loaded_registers (Load kind offset pg rn zt) i none = holds_each l r zt zt (element_size kind) _ h w.whole i.3
  loaded_registers (Store memory element offset pg rn zt) i none = h
  loaded_registers (Vector true vectors rn zt) i none = h
  loaded_registers (Vector false vectors rn zt) i none =
      holds_vector l r zt _ h (read_long m _ (can_read rn _ s m none) ∙ length-run _ l) (are_read m _ holds)
  loaded_registers (Predicate true vectors rn pt) i none = h
  loaded_registers (Predicate false vectors rn pt) i none =
      holds_truths l r pt _ h w.whole (read_long m _ (can_read rn _ s m none) ∙ length-run _ (l / 8))

  some_stored : (x : VectorAccess) → AreSomeBytes (stored x r)
  unfolding stored element_bytes
  some_stored (Load kind offset pg rn zt) = tt
  some_stored (Store memory element offset pg rn zt) =
      are_parts (bytes_in (size_of memory)) (λ k. bytes_in (size_of element) * k) (vector_at r zt)
      (places_of (size_of element) (predicate_at r pg))
      (vector_bytes_at l r h zt)
  some_stored (Vector true vectors rn zt) = vector_bytes_at l r h zt
  some_stored (Vector false vectors rn zt) = tt
  some_stored (Predicate true vectors rn pt) = are_predicate_bytes (truths_at r pt)
  some_stored (Predicate false vectors rn pt) = tt

  pub vector_access_holds : (x : VectorAccess) → IsVectorAccess x → vector_fault x s l r m ≡ None
      → VectorAccessHolds l (after_access x s l r m)
  vector_access_holds x i none = record {
    registers = loaded_registers x i none;
    memory = bytes_written m (access_of x s l r).bytes (stored x r) holds (some_stored x);
  }

-- ---- ZA

pub record ContentsHold (size : ℕ) (after : Contents) : Type 0 where
  pub za : IsArray size after.za
  pub memory : HasBytes after.memory

module _ (size : ℕ) (w : IsLength size) (s : Scalars) (array : List (List ℕ)) (h : IsArray size array) (m : AddressSpace)
    (holds : HasBytes m) where
  pub array_access_holds : (store : Bool) (rv offset rn : ℕ) → za.vector_fault store offset rn s size m ≡ None
      → ContentsHold size (after_vector store rv offset rn s size array m)
  unfolding vector_access array_after za.stored
  array_access_holds true rv offset rn none =
      let row = slice_index_or array (vector_number rv offset s size) [] in
      record {
        za = h;
        memory = bytes_written m (vector_access true offset rn s size).bytes (Some row) holds
            (row_bytes size array h (vector_number rv offset s size));
      }
  array_access_holds false rv offset rn none = record {
    za = array_set size array h _ _ (read_long m _ (can_read rn _ s m none) ∙ length-run _ size) (are_read m _ holds);
    memory = holds;
  }

  module _ (slice : SliceAt) (k : IsSlice size slice) (pg : List ℕ) (bits : 8 * length pg ≡ size) where
    loaded_long : (start rn : ℕ) → access_fault None (at_base rn false (active_addresses start slice.bytes pg)) s m ≡ None
        → length (loaded_slice start slice.bytes pg m) ≡ size
    unfolding loaded_slice
    loaded_long start rn none =
        let e = slice.bytes in
        let readable = can_read rn (active_addresses start e pg) s m none in
        let count : 8 * length pg / e * e ≡ size = rw bits (let z = k.of.whole in omega arith) in
        let active : (i : ℕ) → i < 8 * length pg / e → is_active e pg i ≡ true → length (read_bytes m (element_run start e i)) ≡ e =
        λ i lt on. read_long m (element_run start e i)
        (denied_run 4 m ((start + i * e) % 2 ^ 64) e ∙ each_readable start e pg m i readable lt on) ∙ length-run _ e in
        let each : (i : ℕ) → i < 8 * length pg / e → length (loaded_element start e pg m i) ≡ e =
        λ i lt. elim (is_active e pg i) as (λ t. is_active e pg i ≡ t
        → length (if t then read_bytes m (element_run start e i) else replicate e 0) ≡ e) [
          | true ↦ active i lt
          | false ↦ λ off. length-replicate {A = ℕ} e 0
        ] refl in
        length-joined e (loaded_element start e pg m) (8 * length pg / e) each ∙ count

    loaded_small : (start : ℕ) → AreBytes (loaded_slice start slice.bytes pg m)
    unfolding loaded_slice
    loaded_small start =
        let e = slice.bytes in
        are_concat _ (all_listed AreBytes (loaded_element start e pg m) (8 * length pg / e) (λ i.
        elim (is_active e pg i) as (λ t. AreBytes (if t then read_bytes m (element_run start e i) else replicate e 0)) [
          | true ↦ are_read m _ holds
          | false ↦ All-replicate (λ b. b < 256) e 0 (omega arith)
        ]))

    array_of_slice : (store : Bool) (start rn : ℕ) → access_fault None (at_base rn store (active_addresses start slice.bytes pg)) s m ≡ None
        → IsArray size (slice_array_after store slice start pg array m)
    unfolding slice_array_after
    array_of_slice true start rn none = h
    array_of_slice false start rn none = slice_written size array h slice k _ (loaded_long start rn none) (loaded_small start)

    some_of_slice : (store : Bool) → AreSomeBytes (slice_stored store slice pg array)
    unfolding slice_stored active_bytes
    some_of_slice true =
        are_parts slice.bytes (λ i. i * slice.bytes) (slice_bytes slice array) (active_places slice.bytes pg)
        (slice_small size array h slice k)
    some_of_slice false = tt

  pub slice_access_holds : (x : TileAccess) (pg : List ℕ) → IsTileAccess x → 8 * length pg ≡ size → slice_fault x s pg m ≡ None
      → ContentsHold size (after_slice x s pg size array m)
  unfolding slice_access
  slice_access_holds x pg i bits none =
      let slice = slice_of x.slice s size in
      let k : IsSlice size slice = is_slice x.slice s size i.slice w in
      record {
        za = array_of_slice slice k pg bits x.store (first_address x s) x.rn none;
        memory = bytes_written m (slice_access x s pg).bytes (slice_stored x.store slice pg array) holds
            (some_of_slice slice k pg bits x.store);
      }
