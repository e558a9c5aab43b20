-- Accesses to consecutive bytes as lists of bytes.
use Rattle.std.proofs.Common.{◌≡◌, ℕ, zero, suc, ◌+◌, ◌*◌, ◌/◌, ◌%◌, ◌^◌, ◌==◌, ◌<◌, Bool, true, false, not, cond, List, [], ◌∷◌, ◌++◌}
use Rattle.std.proofs.Common.{length, refl, ap, sym, ◌∙◌, arith, Option, Some, None, All, length-append}
use Rattle.std.specs.Prelude.{is_some, IsSome}
use Rattle.std.specs.List.{find}
use Rattle.std.proofs.lemmas.List.Elements.{All-head, All-tail}
use Rattle.std.specs.FinMap.{FinMap, insert, get}
use Rattle.std.specs.Ordering.{nat_cmp}
use Rattle.std.specs.Int.{bytes_low_first}
use Rattle.sm_types.specs.declared.scalars.Scalars.{Scalars}
use Rattle.sm_types.specs.declared.insn.Insn.{Insn}
use Rattle.sm_types.specs.declared.insn.Insn.TheVariants as insn
use Rattle.sm_types.specs.declared.insn.LoadStoreOp.{LoadStoreOp}
use Rattle.sm_types.specs.declared.insn.LoadStoreOp.TheVariants.{Store, Load, LoadSignedTo64, LoadSignedTo32}
use Rattle.sm_types.specs.declared.insn.LoadStore.{LoadStore}
use Rattle.sm_types.specs.declared.insn.LoadLiteral.{LoadLiteral}
use Rattle.sm_types.specs.declared.insn.PairOp.{PairOp}
use Rattle.sm_types.specs.declared.insn.PairOp.TheVariants.{Stp, Ldp}
use Rattle.sm_types.specs.declared.insn.LoadStorePair.{LoadStorePair}
use Rattle.sm_types.specs.declared.insn.Atomic.{Atomic}
use Rattle.sm_types.specs.declared.insn.Atomic.TheVariants as atomic
use Rattle.scalar_exec.specs.Registers.{x_of, with_x}
use Rattle.std.specs.Option.{option_or}
use Rattle.paged_memory.specs.Memory.{AddressSpace, byte_with, bytes_with, and_byte, first_without, unless_there, set_bytes, run_of}
use Rattle.paged_memory.specs.PageTable.{PageTable, IsOwned}
use Rattle.mem_access.specs.declared.access.MemoryAccess.{MemoryAccess}
use Rattle.mem_access.specs.Access.{bytes_in, with_base, with_pair_base, register_size, literal_size, load_store_access}
use Rattle.mem_access.specs.Access.{load_literal_access, pair_access, atomic_access}
use Rattle.mem_access.specs.DataAccess.{of_run}
use Rattle.mem_access.specs.Checks.{is_shared, lacks, access_fault}
use Rattle.mem_access.specs.Values.{byte_and, bytes_at, number_or_zero, number_at, set_each, loaded, literal_loaded, low_bytes, updated}
use Rattle.mem_access.specs.Transfer.{AfterAccess, load_store_after, load_store_stored, pair_after, pair_bytes, pair_stored, atomic_after}
use Rattle.mem_access.specs.Transfer.{atomic_stored, written, after_access, transfer_fault, HasRoom, HasRoomFor}
use Rattle.mem_access.specs.Runs.{shared_at, first_shared, run_fault, number_in, with_bytes, with_number, after_load_store}
use Rattle.mem_access.specs.Runs.{after_load_literal, after_pair, after_atomic, run_transfer_fault, after_run, RunHasRoom, RunHasRoomFor}

-- one address more, at the end
run_more : (a n : ℕ) → run_of a (suc n) ≡ run_of a n ++ (a + n) % 2 ^ 64 ∷ []
unfolding run_of
run_more a zero = let z : a + 0 ≡ a = omega arith in rw z refl
run_more a (suc n) =
    let e : a + 1 + n ≡ a + suc n = omega arith in
    ap (λ xs. a % 2 ^ 64 ∷ xs) (run_more (a + 1) n) ∙ ap (λ k. a % 2 ^ 64 ∷ (run_of (a + 1) n ++ k % 2 ^ 64 ∷ [])) e

pub length-run : (a n : ℕ) → length (run_of a n) ≡ n
unfolding run_of
length-run a zero = refl
length-run a (suc n) = ap suc (length-run (a + 1) n)

-- ---- checks

find_last : (test : ℕ → Bool) (xs : List ℕ) (y : ℕ) → find test (xs ++ y ∷ []) ≡ option_or (find test xs) (cond (test y) (Some y) None)
find_last test [] y = refl
find_last test (x ∷ xs) y =
    elim (test x) as (λ t. cond t (Some x) (find test (xs ++ y ∷ []))
    ≡ option_or (cond t (Some x) (find test xs)) (cond (test y) (Some y) None)) [
      | true ↦ refl
      | false ↦ find_last test xs y
    ]

pub shared_run : (a n : ℕ) → find is_shared (run_of a n) ≡ first_shared a n
unfolding run_of first_shared
shared_run a zero = refl
shared_run a (suc n) =
    ap (find is_shared) (run_more a n) ∙ find_last is_shared (run_of a n) ((a + n) % 2 ^ 64)
    ∙ ap (λ o. option_or o (shared_at ((a + n) % 2 ^ 64))) (shared_run a n)

lacks_is : (y : ℕ) (o : Option ℕ) → cond (not (is_some o)) (Some y) None ≡ unless_there y o
lacks_is y None = refl
lacks_is y (Some b) = refl

pub denied_run : (need : ℕ) (m : AddressSpace) (a n : ℕ) → find (lacks need m) (run_of a n) ≡ first_without need m a n
unfolding run_of first_without
denied_run need m a zero = refl
denied_run need m a (suc n) =
    let last : ℕ = (a + n) % 2 ^ 64 in
    ap (find (lacks need m)) (run_more a n) ∙ find_last (lacks need m) (run_of a n) last
    ∙ ap (option_or (find (lacks need m) (run_of a n))) (lacks_is last (byte_with need m last))
    ∙ ap (λ o. option_or o (unless_there last (byte_with need m last))) (denied_run need m a n)

fault_run : (run : MemoryAccess) (s : Scalars) (m : AddressSpace) → access_fault None (of_run run) s m ≡ run_fault run s m
unfolding access_fault run_fault
fault_run run s m = rw (shared_run run.address run.size, denied_run 4 m run.address run.size, denied_run 2 m run.address run.size) refl

pub transfer_fault-is : (it : Insn) (s : Scalars) (m : AddressSpace) → transfer_fault it s m ≡ run_transfer_fault it s m
transfer_fault-is (insn.LoadStore x) s m = fault_run (load_store_access x s) s m
transfer_fault-is (insn.LoadLiteral x) s m = fault_run (load_literal_access x s) s m
transfer_fault-is (insn.LoadStorePair x) s m = fault_run (pair_access x s) s m
transfer_fault-is (insn.Atomic x) s m = fault_run (atomic_access x s) s m
transfer_fault-is it s m = refl

-- ---- what is read

byte_between : (a : Option ℕ) (o : Option (List ℕ)) (b : Option ℕ) → byte_and a (and_byte o b) ≡ and_byte (byte_and a o) b
byte_between None None b = refl
byte_between None (Some bs) None = refl
byte_between None (Some bs) (Some b) = refl
byte_between (Some a) None b = refl
byte_between (Some a) (Some bs) None = refl
byte_between (Some a) (Some bs) (Some b) = refl

byte_alone : (b : Option ℕ) → byte_and b (Some []) ≡ and_byte (Some []) b
byte_alone None = refl
byte_alone (Some b) = refl

bytes_last : (m : AddressSpace) (xs : List ℕ) (y : ℕ) → bytes_at m (xs ++ y ∷ []) ≡ and_byte (bytes_at m xs) (byte_with 4 m y)
unfolding bytes_at
bytes_last m [] y = byte_alone (byte_with 4 m y)
bytes_last m (x ∷ xs) y =
    ap (byte_and (byte_with 4 m x)) (bytes_last m xs y) ∙ byte_between (byte_with 4 m x) (bytes_at m xs) (byte_with 4 m y)

pub bytes_run : (m : AddressSpace) (a n : ℕ) → bytes_at m (run_of a n) ≡ bytes_with 4 m a n
unfolding bytes_at run_of bytes_with
bytes_run m a zero = refl
bytes_run m a (suc n) =
    ap (bytes_at m) (run_more a n) ∙ bytes_last m (run_of a n) ((a + n) % 2 ^ 64)
    ∙ ap (λ o. and_byte o (byte_with 4 m ((a + n) % 2 ^ 64))) (bytes_run m a n)

pub number_run : (m : AddressSpace) (a k n : ℕ) → k ≡ n → number_at m (run_of a k) ≡ number_in m a n
unfolding number_at number_in
number_run m a k n e = ap number_or_zero (bytes_run m a k) ∙ ap (λ k. number_or_zero (bytes_with 4 m a k)) e

-- ---- what is written

pub set_run : (mem : FinMap nat_cmp ℕ) (a n : ℕ) (bs : List ℕ) → length bs ≡ n → set_each mem (run_of a n) bs ≡ set_bytes mem a bs
unfolding set_each run_of set_bytes
set_run mem a zero [] e = refl
set_run mem a zero (b ∷ bs) e = absurd (omega arith)
set_run mem a (suc n) [] e = absurd (omega arith)
set_run mem a (suc n) (b ∷ bs) e = set_run (insert mem (a % 2 ^ 64) b) (a + 1) n bs (omega arith)

pub written_run : (m : AddressSpace) (a n : ℕ) (bs : List ℕ) → length bs ≡ n → written m (run_of a n) (Some bs) ≡ with_bytes m a bs
written_run m a n bs e = ap (λ x. record m { mem = x }) (set_run m.mem a n bs e)

length-low : (i n v : ℕ) → length (bytes_low_first i n v) ≡ n
length-low i zero v = refl
length-low i (suc n) v = ap suc (length-low (suc i) n v)

-- ---- what is left

abbrev left : Scalars → AddressSpace → AfterAccess
left s m = record { scalars = s; memory = m }

-- a number of so many bytes that is stored
number_left : (s : Scalars) (m : AddressSpace) (a k n v : ℕ) → k ≡ n
    → left s (written m (run_of a k) (Some (bytes_low_first 0 n v))) ≡ left s (with_number m a n v)
unfolding with_number
number_left s m a k n v e = ap (left s) (written_run m a k (bytes_low_first 0 n v) (length-low 0 n v ∙ sym e))

load_store_left : (op : LoadStoreOp) (x : LoadStore) (a k : ℕ) (s : Scalars) (m : AddressSpace) → k ≡ bytes_in x.size
    → left (load_store_after op x (number_at m (run_of a k)) s) (written m (run_of a k) (load_store_stored op x s))
    ≡ after_load_store op x a s m
unfolding load_store_after load_store_stored after_load_store
load_store_left Store x a k s m e = number_left (with_base x.address x.rn s) m a k (bytes_in x.size) (x_of s x.rt) e
load_store_left Load x a k s m e =
    ap (λ v. left (with_x (with_base x.address x.rn s) x.rt (loaded Load (bytes_in x.size) v)) m) (number_run m a k (bytes_in x.size) e)
load_store_left LoadSignedTo64 x a k s m e =
    ap (λ v. left (with_x (with_base x.address x.rn s) x.rt (loaded LoadSignedTo64 (bytes_in x.size) v)) m)
    (number_run m a k (bytes_in x.size) e)
load_store_left LoadSignedTo32 x a k s m e =
    ap (λ v. left (with_x (with_base x.address x.rn s) x.rt (loaded LoadSignedTo32 (bytes_in x.size) v)) m)
    (number_run m a k (bytes_in x.size) e)

load_literal_left : (x : LoadLiteral) (a k : ℕ) (s : Scalars) (m : AddressSpace) → k ≡ literal_size x.op
    → left (with_x s x.rt (literal_loaded x.op (number_at m (run_of a k)))) m ≡ after_load_literal x a s m
unfolding after_load_literal
load_literal_left x a k s m e = ap (λ v. left (with_x s x.rt (literal_loaded x.op v)) m) (number_run m a k (literal_size x.op) e)

pair_left : (op : PairOp) (x : LoadStorePair) (a k : ℕ) (s : Scalars) (m : AddressSpace) → k ≡ 2 * register_size x.wide
    → left (pair_after op x (number_at m (run_of a k)) s) (written m (run_of a k) (pair_stored op x s)) ≡ after_pair op x a s m
unfolding pair_after pair_stored after_pair
pair_left Stp x a k s m e =
    let first = length-low 0 (register_size x.wide) (x_of s x.rt) in
    let second = length-low 0 (register_size x.wide) (x_of s x.rt2) in
    let long : length (pair_bytes x.wide (x_of s x.rt) (x_of s x.rt2)) ≡ k =
    length-append (bytes_low_first 0 (register_size x.wide) (x_of s x.rt)) (bytes_low_first 0 (register_size x.wide) (x_of s x.rt2))
    ∙ omega arith in
    ap (left (with_pair_base x.index x s)) (written_run m a k (pair_bytes x.wide (x_of s x.rt) (x_of s x.rt2)) long)
pair_left Ldp x a k s m e = ap (λ v. left (pair_after Ldp x v s) m) (number_run m a k (2 * register_size x.wide) e)

where_equal : (b : Bool) (m : AddressSpace) (a k n v : ℕ) → k ≡ n
    → written m (run_of a k) (cond b (Some (bytes_low_first 0 n v)) None) ≡ cond b (with_number m a n v) m
unfolding with_number
where_equal true m a k n v e = written_run m a k (bytes_low_first 0 n v) (length-low 0 n v ∙ sym e)
where_equal false m a k n v e = refl

atomic_left : (x : Atomic) (a : ℕ) (s : Scalars) (m : AddressSpace)
    → left (atomic_after x (number_at m (run_of a (atomic_access x s).size)) s)
    (written m (run_of a (atomic_access x s).size) (atomic_stored x (number_at m (run_of a (atomic_access x s).size)) s))
    ≡ after_atomic x a s m
unfolding atomic_access atomic_after atomic_stored after_atomic
atomic_left (atomic.Ldar n rn rt) a s m = ap (λ v. left (with_x s rt v) m) (number_run m a (bytes_in n) (bytes_in n) refl)
atomic_left (atomic.Stlr n rn rt) a s m = number_left s m a (bytes_in n) (bytes_in n) (x_of s rt) refl
atomic_left (atomic.Cas n acquire release rs rn rt) a s m =
    let same = number_run m a (bytes_in n) (bytes_in n) refl in
    let number : ℕ = number_in m a (bytes_in n) in
    ap (λ v. left (with_x s rs v) (written m (run_of a (bytes_in n))
    (cond (v == low_bytes (bytes_in n) (x_of s rs)) (Some (bytes_low_first 0 (bytes_in n) (x_of s rt))) None))) same
    ∙ ap (left (with_x s rs number)) (where_equal (number == low_bytes (bytes_in n) (x_of s rs)) m a (bytes_in n) (bytes_in n) (x_of s rt)
    refl)
atomic_left (atomic.Swap n acquire release rs rn rt) a s m =
    ap (λ v. left (with_x s rt v) (written m (run_of a (bytes_in n)) (Some (bytes_low_first 0 (bytes_in n) (x_of s rs)))))
    (number_run m a (bytes_in n) (bytes_in n) refl)
    ∙ number_left (with_x s rt (number_in m a (bytes_in n))) m a (bytes_in n) (bytes_in n) (x_of s rs) refl
atomic_left (atomic.Update op n acquire release rs rn rt) a s m =
    let number : ℕ = number_in m a (bytes_in n) in
    ap (λ v. left (with_x s rt v) (written m (run_of a (bytes_in n))
    (Some (bytes_low_first 0 (bytes_in n) (updated op (bytes_in n) v (low_bytes (bytes_in n) (x_of s rs)))))))
    (number_run m a (bytes_in n) (bytes_in n) refl)
    ∙ number_left (with_x s rt number) m a (bytes_in n) (bytes_in n) (updated op (bytes_in n) number (low_bytes (bytes_in n) (x_of s rs)))
    refl

load_store_size : (x : LoadStore) (s : Scalars) → (load_store_access x s).size ≡ bytes_in x.size
unfolding load_store_access
load_store_size x s = refl

load_literal_size : (x : LoadLiteral) (s : Scalars) → (load_literal_access x s).size ≡ literal_size x.op
unfolding load_literal_access
load_literal_size x s = refl

pair_size : (x : LoadStorePair) (s : Scalars) → (pair_access x s).size ≡ 2 * register_size x.wide
unfolding pair_access
pair_size x s = refl

pub after_access-is : (it : Insn) (s : Scalars) (m : AddressSpace) → after_access it s m ≡ after_run it s m
after_access-is (insn.LoadStore x) s m =
    load_store_left x.op x (load_store_access x s).address (load_store_access x s).size s m (load_store_size x s)
after_access-is (insn.LoadLiteral x) s m =
    load_literal_left x (load_literal_access x s).address (load_literal_access x s).size s m (load_literal_size x s)
after_access-is (insn.LoadStorePair x) s m = pair_left x.op x (pair_access x s).address (pair_access x s).size s m (pair_size x s)
after_access-is (insn.Atomic x) s m = atomic_left x (atomic_access x s).address s m
after_access-is it s m = refl

-- ---- room

pub all_run : (P : ℕ → Type 0) (a n : ℕ) → All P (run_of a n) → (k : ℕ) → k < n → P ((a + k) % 2 ^ 64)
unfolding run_of
all_run P a zero all k l = absurd (omega arith)
all_run P a (suc n) all zero l = let z : a + 0 ≡ a = omega arith in rw z (All-head P (a % 2 ^ 64) (run_of (a + 1) n) all)
all_run P a (suc n) all (suc k) l =
    let e : a + suc k ≡ a + 1 + k =
    omega arith in rw e (all_run P (a + 1) n (All-tail P (a % 2 ^ 64) (run_of (a + 1) n) all) k (omega arith))

run_room : (run : MemoryAccess) (pages : PageTable) → HasRoom (of_run run) pages → RunHasRoom run pages
run_room run pages room writes =
    λ k l. all_run (λ a. IsSome (get pages.memory.perm (a / 4096)) → IsOwned pages (a / 4096)) run.address run.size (room writes) k l

pub room-is : (it : Insn) (s : Scalars) (pages : PageTable) → HasRoomFor it s pages → RunHasRoomFor it s pages
room-is (insn.LoadStore x) s pages room = run_room (load_store_access x s) pages room
room-is (insn.LoadLiteral x) s pages room = run_room (load_literal_access x s) pages room
room-is (insn.LoadStorePair x) s pages room = run_room (pair_access x s) pages room
room-is (insn.Atomic x) s pages room = run_room (atomic_access x s) pages room
room-is it s pages room = tt
