-- Accesses that are made or not, where nothing is told of why.
use Rattle.std.proofs.Common.{◌≡◌, ℕ, ◌*◌, List, Bool, true, false, Option, None, length, take, refl, ap, sym, ◌∙◌}
use Rattle.std.specs.Prelude.{option_map, is_some, IsTrue, Some}
use Rattle.std.specs.Int.{w64, to_le_bytes}
use Rattle.sm_types.specs.declared.insn.AccessSize.{AccessSize}
use Rattle.sm_types.specs.declared.insn.Insn.{Insn}
use Rattle.sm_types.specs.declared.insn.Insn.TheVariants as insn
use Rattle.sm_types.specs.declared.insn.LoadStore.{LoadStore}
use Rattle.sm_types.specs.declared.insn.LoadStorePair.{LoadStorePair}
use Rattle.sm_types.specs.declared.insn.PairOp.{PairOp}
use Rattle.sm_types.specs.declared.insn.PairOp.TheVariants.{Ldp, Stp}
use Rattle.sm_types.specs.declared.scalars.Scalars.{Scalars}
use Rattle.sm_types.specs.declared.stop.Exception.{Exception}
use Rattle.sm_types.specs.declared.stop.Access.TheVariants.{Write}
use Rattle.sm_types.specs.declared.stop.Exception.TheVariants.{Data}
use Rattle.plain_lemmas.proofs.Options.{is_some-false}
use Rattle.paged_memory.specs.PageTable.{PageTable}
use Rattle.paged_memory.specs.Writes.{WritesNear}
use Rattle.sm_types.specs.declared.insn.LoadStoreOp.{LoadStoreOp}
use Rattle.sm_types.specs.declared.insn.LoadStoreOp.TheVariants.{Store}
use Rattle.mem_access.specs.Access.{bytes_in, is_ldp, is_load, is_store, is_stp, load_store_access, pair_access, register_size}
use Rattle.mem_access.specs.declared.access.MemoryAccess.{MemoryAccess}
use Rattle.mem_access.specs.Near.{Makes, MakesNear, WritesNumber, WritesPair}
use Rattle.mem_access.specs.Runs.{after_load_store, after_pair, denied_read, denied_write, place_fault, with_bytes}
use Rattle.mem_access.specs.Transfer.{AfterAccess, after_access, contents_of, pair_bytes, transfer_fault}
use Rattle.mem_access.proofs.Faults.{fault_of_read, fault_of_write}
use Rattle.mem_access.proofs.InMemory.{number_written}
use Rattle.mem_access.proofs.Lists.{transfer_fault-is, after_access-is}
use Rattle.mem_access.proofs.OneRegister.{loads_only, stores_only}

pair_length : (wide : Bool) (first second : ℕ) → length (pair_bytes wide first second) ≡ 2 * register_size wide
pair_length true first second = refl
pair_length false first second = refl

-- bytes that were written, or not, as many as were wanted
pub number_stored : (a k v : ℕ) (size : AccessSize) (bs : List ℕ) (old new : PageTable) (b : Bool) → WritesNear a bs old new b
    → bs ≡ take k (to_le_bytes w64 v) → k ≡ bytes_in size → length bs ≡ bytes_in size → WritesNumber a (bytes_in size) v old new b
number_stored a k v size bs old new true h low count long = (
  ap (λ n. denied_write old.memory a n) (sym long) ∙ ap (option_map (λ x. Data x Write)) h.1,
  number_written old.memory new.memory a k v size bs h.0 low count,
)
number_stored a k v size bs old new false h low count long = h

-- two registers
pub pair_stored : (a : ℕ) (wide : Bool) (first second : ℕ) (bs : List ℕ) (old new : PageTable) (b : Bool) → WritesNear a bs old new b
    → bs ≡ pair_bytes wide first second → WritesPair a wide first second old new b
pair_stored a wide first second bs old new true h is = (
  ap (λ n. denied_write old.memory a n) (sym (ap length is ∙ pair_length wide first second)) ∙ ap (option_map (λ x. Data x Write)) h.1,
  h.0 ∙ ap (with_bytes old.memory a) is,
)
pair_stored a wide first second bs old new false h is = h

-- the access of an instruction
pub made_near : (it : Insn) (s : Scalars) (pages : PageTable) (fault : Option Exception) (made : AfterAccess) (s' : Scalars)
    (pages' : PageTable) (b : Bool) → transfer_fault it s pages.memory ≡ fault → after_access it s pages.memory ≡ made
    → Makes fault made (contents_of s pages) (contents_of s' pages') b → (b ≡ false → pages' ≡ pages) → MakesNear it s pages s' pages' b
made_near it s pages fault made s' pages' true f a h stays = (f ∙ h.0, h.1 ∙ sym a)
made_near it s pages fault made s' pages' false f a h stays = (ap (λ (x : AfterAccess). x.scalars) h, stays refl)

no_place : (of access : MemoryAccess) (s : Scalars) → access ≡ of → is_some (place_fault access s) ≡ false → place_fault of s ≡ None
no_place of access s is none = is_some-false (place_fault of s) (ap (λ (a : MemoryAccess). is_some (place_fault a s)) (sym is) ∙ none)

-- that of a load, and of a store, of one register
module _ (x : LoadStore) (access : MemoryAccess) (s s' : Scalars) (pages : PageTable) where
  pub loaded_near : (b : Bool) → access ≡ load_store_access x s → is_some (place_fault access s) ≡ false → IsTrue (is_load x.op)
      → Makes (denied_read pages.memory access.address (bytes_in x.size))
      (after_load_store x.op x access.address s pages.memory) (contents_of s pages) (contents_of s' pages) b
      → MakesNear (insn.LoadStore x) s pages s' pages b
  unfolding load_store_access
  loaded_near b is none load h =
      let it = insn.LoadStore x in
      let of : MemoryAccess = load_store_access x s in
      made_near it s pages _ _ s' pages b
      (transfer_fault-is it s pages.memory
      ∙ fault_of_read of s pages.memory (no_place of access s is none) load (loads_only x.op load)
      ∙ ap (λ (a : MemoryAccess). denied_read pages.memory a.address (bytes_in x.size)) (sym is))
      (after_access-is it s pages.memory ∙ ap (λ (a : MemoryAccess). after_load_store x.op x a.address s pages.memory) (sym is)) h (λ e. refl)

  pub stored_near : (pages' : PageTable) (b : Bool) → access ≡ load_store_access x s → is_some (place_fault access s) ≡ false
      → IsTrue (is_store x.op)
      → Makes (denied_write pages.memory access.address (bytes_in x.size))
      (after_load_store Store x access.address s pages.memory) (contents_of s pages) (contents_of s' pages') b
      → (b ≡ false → pages' ≡ pages) → MakesNear (insn.LoadStore x) s pages s' pages' b
  unfolding load_store_access
  stored_near pages' b is none store h stays =
      let it = insn.LoadStore x in
      let of : MemoryAccess = load_store_access x s in
      let op : x.op ≡ Store = stores_only x.op store in
      made_near it s pages _ _ s' pages' b
      (transfer_fault-is it s pages.memory
      ∙ fault_of_write of s pages.memory (no_place of access s is none) (ap is_load op) store
      ∙ ap (λ (a : MemoryAccess). denied_write pages.memory a.address (bytes_in x.size)) (sym is))
      (after_access-is it s pages.memory
      ∙ ap (λ (o : LoadStoreOp). after_load_store o x of.address s pages.memory) op
      ∙ ap (λ (a : MemoryAccess). after_load_store Store x a.address s pages.memory) (sym is)) h stays

-- that of a load, and of a store, of two registers
module _ (x : LoadStorePair) (access : MemoryAccess) (s s' : Scalars) (pages : PageTable) where
  pub pair_loaded_near : (b : Bool) → access ≡ pair_access x s → is_some (place_fault access s) ≡ false → x.op ≡ Ldp
      → Makes (denied_read pages.memory access.address (2 * register_size x.wide))
      (after_pair Ldp x access.address s pages.memory) (contents_of s pages) (contents_of s' pages) b
      → MakesNear (insn.LoadStorePair x) s pages s' pages b
  unfolding pair_access
  pair_loaded_near b is none op h =
      let it = insn.LoadStorePair x in
      let of : MemoryAccess = pair_access x s in
      made_near it s pages _ _ s' pages b
      (transfer_fault-is it s pages.memory
      ∙ fault_of_read of s pages.memory (no_place of access s is none) (ap is_ldp op) (ap is_stp op)
      ∙ ap (λ (a : MemoryAccess). denied_read pages.memory a.address (2 * register_size x.wide)) (sym is))
      (after_access-is it s pages.memory ∙ ap (λ (o : PairOp). after_pair o x of.address s pages.memory) op
      ∙ ap (λ (a : MemoryAccess). after_pair Ldp x a.address s pages.memory) (sym is)) h (λ e. refl)

  pub pair_stored_near : (pages' : PageTable) (b : Bool) → access ≡ pair_access x s → is_some (place_fault access s) ≡ false
      → x.op ≡ Stp
      → Makes (denied_write pages.memory access.address (2 * register_size x.wide))
      (after_pair Stp x access.address s pages.memory) (contents_of s pages) (contents_of s' pages') b
      → (b ≡ false → pages' ≡ pages) → MakesNear (insn.LoadStorePair x) s pages s' pages' b
  unfolding pair_access
  pair_stored_near pages' b is none op h stays =
      let it = insn.LoadStorePair x in
      let of : MemoryAccess = pair_access x s in
      made_near it s pages _ _ s' pages' b
      (transfer_fault-is it s pages.memory
      ∙ fault_of_write of s pages.memory (no_place of access s is none) (ap is_ldp op) (ap is_stp op)
      ∙ ap (λ (a : MemoryAccess). denied_write pages.memory a.address (2 * register_size x.wide)) (sym is))
      (after_access-is it s pages.memory ∙ ap (λ (o : PairOp). after_pair o x of.address s pages.memory) op
      ∙ ap (λ (a : MemoryAccess). after_pair Stp x a.address s pages.memory) (sym is)) h stays
