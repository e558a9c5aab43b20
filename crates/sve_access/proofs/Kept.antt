-- What the writes of other bytes keep, and which pages are owned.
use Rattle.std.proofs.Common.{◌≡◌, ℕ, ◌+◌, ◌*◌, ◌/◌, ◌%◌, ◌^◌, ◌<◌, ◌≤◌, ◌==◌, Bool, true, false, not, cond, List, [], ◌∷◌}
use Rattle.std.proofs.Common.{length, drop, refl, ap, sym, ◌∙◌, arith, subst, All, Option, Some, None, length-drop}
use Rattle.std.specs.Prelude.{is_some, IsSome, flat_map}
use Rattle.std.specs.List.{find}
use Rattle.std.specs.FinMap.{FinMap, get, insert, get-insert}
use Rattle.std.specs.Cmp.{nat_cmp_total}
use Rattle.std.specs.Ordering.{nat_cmp}
use Rattle.std.proofs.lemmas.List.{length-take-le}
use Rattle.plain_lemmas.proofs.Options.{cond_none}
use Rattle.paged_memory.specs.Memory.{AddressSpace, byte_with, permitted, permits, first_without, run_of}
use Rattle.paged_memory.specs.PageTable.{PageTable, AreOwned, OwnsAlso, KeepsOwned, IsOwned}
use Rattle.plain_lemmas.proofs.Tests.{eq_by_cmp-nat}
use Rattle.paged_memory.proofs.Owned.{owns_both}
use Rattle.vector_elements.specs.declared.size.Size.{Size}
use Rattle.vector_elements.specs.declared.size.Size.TheVariants.{B, H, S, D}
use Rattle.vector_elements.specs.Elements.{is_active}
use Rattle.vector_elements.specs.Numbers.{bytes_in}
use Rattle.mem_access.specs.Checks.{lacks}
use Rattle.mem_access.specs.Values.{set_each}
use Rattle.mem_access.specs.Transfer.{written}
use Rattle.mem_access.proofs.Lists.{denied_run, length-run, all_run}
use Rattle.sve_access.specs.Elements.{element_run, low_bytes, element_addresses}
use Rattle.sve_perm.proofs.Sums.{place_where}
use Rattle.sve_access.specs.Owned.{OwnsElements}
use Rattle.sve_access.proofs.Lists.{of_first, of_more, none_first, each_active, none_fails, all_parts}

-- a byte that is there stays there
still_there : (b : Bool) (x : ℕ) (o : Option ℕ) → is_some o ≡ true → is_some (cond b (Some x) o) ≡ true
still_there true x o there = refl
still_there false x o there = there

set_keeps : (mem : FinMap nat_cmp ℕ) (xs bs : List ℕ) (a : ℕ) → is_some (get mem a) ≡ true → is_some (get (set_each mem xs bs) a) ≡ true
unfolding set_each
set_keeps mem [] bs a there = there
set_keeps mem (x ∷ xs) [] a there = there
set_keeps mem (x ∷ xs) (b ∷ bs) a there =
    set_keeps (insert mem x b) xs bs a (rw (get-insert nat_cmp_total, eq_by_cmp-nat) (still_there (x == a) b (get mem a) there))

not_lost : (o p : Option ℕ) → (is_some o ≡ true → is_some p ≡ true) → not (is_some o) ≡ false → not (is_some p) ≡ false
not_lost None p keeps there = cc
not_lost (Some x) p keeps there = ap not (keeps refl)

permitted_keeps : (may : Bool) (o p : Option ℕ) → (is_some o ≡ true → is_some p ≡ true)
    → not (is_some (cond may o None)) ≡ false → not (is_some (cond may p None)) ≡ false
permitted_keeps true o p keeps there = not_lost o p keeps there
permitted_keeps false o p keeps there = there

in_page_keeps : (need : ℕ) (flags o p : Option ℕ) → (is_some o ≡ true → is_some p ≡ true)
    → not (is_some (permitted need flags o)) ≡ false → not (is_some (permitted need flags p)) ≡ false
in_page_keeps need None o p keeps there = there
in_page_keeps need (Some flags) o p keeps there = permitted_keeps (permits need flags) o p keeps there

lacks_keeps : (need : ℕ) (m : AddressSpace) (xs bs : List ℕ) (a : ℕ) → lacks need m a ≡ false
    → lacks need (written m xs (Some bs)) a ≡ false
unfolding byte_with
lacks_keeps need m xs bs a there = in_page_keeps need (get m.perm (a / 4096)) (get m.mem a) (get (set_each m.mem xs bs) a)
    (set_keeps m.mem xs bs a) there

goes_on : (fails : Bool) (a : ℕ) (rest : Option ℕ) → cond fails (Some a) rest ≡ None → rest ≡ None
goes_on true a rest none = cc
goes_on false a rest none = none

-- bytes that have a permission have it after a write
pub find_keeps : (need : ℕ) (m : AddressSpace) (xs bs ys : List ℕ) → find (lacks need m) ys ≡ None
    → find (lacks need (written m xs (Some bs))) ys ≡ None
find_keeps need m xs bs [] none = refl
find_keeps need m xs bs (y ∷ ys) none =
    let rest : Option ℕ = find (lacks need m) ys in
    ap (λ b. cond b (Some y) (find (lacks need (written m xs (Some bs))) ys))
    (lacks_keeps need m xs bs y (cond_none (lacks need m y) y rest none))
    ∙ find_keeps need m xs bs ys (goes_on (lacks need m y) y rest none)

pub still_permitted : (need : ℕ) (m : AddressSpace) (xs bs : List ℕ) (a n : ℕ) → first_without need m a n ≡ None
    → first_without need (written m xs (Some bs)) a n ≡ None
still_permitted need m xs bs a n none =
    sym (denied_run need (written m xs (Some bs)) a n) ∙ find_keeps need m xs bs (run_of a n) (denied_run need m a n ∙ none)

-- owned pages stay owned
pub owned_kept : (old new : PageTable) (a n : ℕ) → KeepsOwned old new → new.memory.perm ≡ old.memory.perm
    → AreOwned old a n → AreOwned new a n
owned_kept old new a n kept same owned k l there = kept ((a + k) % 2 ^ 64 / 4096) (owned k l (rw (sym same) there))

-- the pages of the first elements are owned besides, and those of one more
pub owns_first : (f : ℕ → List ℕ) (element : Size) (pg : List ℕ) (t : PageTable) → OwnsAlso t t (of_first f element pg 0)
owns_first f element pg t = subst (OwnsAlso t t) (sym (none_first f element pg)) (λ number. refl)

pub owns_more : (f : ℕ → List ℕ) (element : Size) (pg : List ℕ) (i : ℕ) (a b c : PageTable) → b.memory ≡ a.memory
    → OwnsAlso a b (of_first f element pg i) → OwnsAlso b c (flat_map f (place_where (is_active (bytes_in element) pg i) i))
    → OwnsAlso a c (of_first f element pg (i + 1))
owns_more f element pg i a b c same first here =
    subst (OwnsAlso a c) (sym (of_more f element pg i))
    (owns_both a b c (of_first f element pg i) (flat_map f (place_where (is_active (bytes_in element) pg i) i))
    (ap (λ (m : AddressSpace). m.perm) same) first here)

-- each active element can be accessed where all can
pub each_permitted : (need start : ℕ) (memory element : Size) (pg : List ℕ) (m : AddressSpace)
    → find (lacks need m) (element_addresses start memory element pg) ≡ None
    → (k : ℕ) → k < 8 * length pg / bytes_in element → is_active (bytes_in element) pg k ≡ true
    → first_without need m ((start + k * bytes_in memory) % 2 ^ 64) (bytes_in memory) ≡ None
unfolding element_addresses
each_permitted need start memory element pg m none k lt on =
    sym (denied_run need m ((start + k * bytes_in memory) % 2 ^ 64) (bytes_in memory))
    ∙ each_active (λ xs. find (lacks need m) xs ≡ None) (none_fails (lacks need m)) (element_run start memory) element pg
    (8 * length pg / bytes_in element) none k lt on

-- where all bytes of an access are in owned pages, those of each active element are
pub each_owned : (start : ℕ) (memory element : Size) (pg : List ℕ) (pages : PageTable)
    → All (λ a. IsSome (get pages.memory.perm (a / 4096)) → IsOwned pages (a / 4096)) (element_addresses start memory element pg)
    → OwnsElements start memory element pg pages
unfolding element_addresses
each_owned start memory element pg pages all i lt on =
    let P : ℕ → Type 0 = λ a. IsSome (get pages.memory.perm (a / 4096)) → IsOwned pages (a / 4096) in
    λ k l. all_run P ((start + i * bytes_in memory) % 2 ^ 64) (bytes_in memory)
    (each_active (All P) (all_parts P) (element_run start memory) element pg (8 * length pg / bytes_in element) all i lt on) k l

within_bytes : (size : Size) (i n : ℕ) → i < n / bytes_in size → bytes_in size * i + bytes_in size ≤ n
within_bytes B i n lt = omega (arith, lt)
within_bytes H i n lt = omega (arith, lt)
within_bytes S i n lt = omega (arith, lt)
within_bytes D i n lt = omega (arith, lt)

-- an element stores as many bytes as it has addresses
pub same_length : (start : ℕ) (z : List ℕ) (memory element : Size) (k : ℕ) → bytes_in memory ≤ bytes_in element
    → k < length z / bytes_in element → length (element_run start memory k) ≡ length (low_bytes z memory element k)
same_length start z memory element k narrow lt =
    let room = within_bytes element k (length z) lt in
    let rest = length-drop (bytes_in element * k) z in
    length-run ((start + k * bytes_in memory) % 2 ^ 64) (bytes_in memory)
    ∙ sym (length-take-le (bytes_in memory) (drop (bytes_in element * k) z) (omega (arith, narrow, room, rest)))

-- an element that is within the bytes of a vector
pub below_count : (size : Size) (i n : ℕ) → bytes_in size * i + bytes_in size ≤ n → i < n / bytes_in size
below_count B i n room = omega (arith, room)
below_count H i n room = omega (arith, room)
below_count S i n room = omega (arith, room)
below_count D i n room = omega (arith, room)

pub before_end : (size : Size) (i n : ℕ) → bytes_in size * i + bytes_in size ≤ n → bytes_in size * i < n
before_end B i n room = omega (arith, room)
before_end H i n room = omega (arith, room)
before_end S i n room = omega (arith, room)
before_end D i n room = omega (arith, room)

pub few_elements : (size : Size) (i n : ℕ) → bytes_in size * i + bytes_in size ≤ n → n ≤ 256 → i ≤ 256
few_elements B i n room few = omega (arith, room, few)
few_elements H i n room few = omega (arith, room, few)
few_elements S i n room few = omega (arith, room, few)
few_elements D i n room few = omega (arith, room, few)

-- the pages of consecutive bytes
pub run_owned : (pages : PageTable) (a n b k : ℕ) → a ≡ b → n ≡ k
    → All (λ a. IsSome (get pages.memory.perm (a / 4096)) → IsOwned pages (a / 4096)) (run_of b k) → AreOwned pages a n
run_owned pages a n b k start long all =
    subst (λ x. AreOwned pages x n) (sym start) (subst (AreOwned pages b) (sym long)
    (λ j l. all_run (λ a. IsSome (get pages.memory.perm (a / 4096)) → IsOwned pages (a / 4096)) b k all j l))
