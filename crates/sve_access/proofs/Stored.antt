-- The bytes of the first elements that are stored.
use Rattle.std.proofs.Common.{◌≡◌, ℕ, zero, suc, ◌+◌, ◌*◌, ◌/◌, ◌%◌, ◌^◌, ◌<◌, ◌≤◌, Bool, true, false, List, []}
use Rattle.std.proofs.Common.{length, refl, ap, ap₂, sym, ◌∙◌, arith, Some, length-append, append-nil}
use Rattle.std.specs.Prelude.{flat_map}
use Rattle.paged_memory.specs.Memory.{AddressSpace}
use Rattle.vector_elements.specs.declared.size.Size.{Size}
use Rattle.vector_elements.specs.Elements.{is_active}
use Rattle.vector_elements.specs.Numbers.{bytes_in}
use Rattle.mem_access.specs.Values.{set_each}
use Rattle.mem_access.specs.Transfer.{written}
use Rattle.sve_perm.proofs.Sums.{place_where}
use Rattle.sve_access.specs.Elements.{element_run, low_bytes}
use Rattle.sve_access.proofs.Lists.{of_first, of_more, none_first, set_append}
use Rattle.sve_access.proofs.Kept.{same_length}
use Rattle.mem_access.specs.Runs.{with_bytes}
use Rattle.mem_access.proofs.Lists.{written_run}

-- what the first k elements store is as long as their addresses
length_where : (f g : ℕ → List ℕ) (on : Bool) (k : ℕ) → length (f k) ≡ length (g k)
    → length (flat_map f (place_where on k)) ≡ length (flat_map g (place_where on k))
length_where f g true k e = length-append (f k) [] ∙ ap (λ n. n + 0) e ∙ sym (length-append (g k) [])
length_where f g false k e = refl

length_first : (f g : ℕ → List ℕ) (element : Size) (pg : List ℕ) (n : ℕ) → ((k : ℕ) → k < n → length (f k) ≡ length (g k))
    → length (of_first f element pg n) ≡ length (of_first g element pg n)
length_first f g element pg zero same = ap length (none_first f element pg) ∙ sym (ap length (none_first g element pg))
length_first f g element pg (suc n) same =
    let next : suc n ≡ n + 1 = omega arith in
    let on = is_active (bytes_in element) pg n in
    let before = length_first f g element pg n (λ k lt. same k (omega (arith, lt))) in
    let here = length_where f g on n (same n (omega arith)) in
    ap (λ k. length (of_first f element pg k)) next ∙ ap length (of_more f element pg n)
    ∙ length-append (of_first f element pg n) (flat_map f (place_where on n))
    ∙ ap₂ (λ a b. a + b) before here
    ∙ sym (length-append (of_first g element pg n) (flat_map g (place_where on n)))
    ∙ sym (ap length (of_more g element pg n)) ∙ sym (ap (λ k. length (of_first g element pg k)) next)

-- memory after the first k elements, and after one more
pub stored_more : (m : AddressSpace) (start : ℕ) (z : List ℕ) (memory element : Size) (pg : List ℕ) (k : ℕ)
    → bytes_in memory ≤ bytes_in element → k ≤ length z / bytes_in element
    → written
    (written m (of_first (element_run start memory) element pg k) (Some (of_first (low_bytes z memory element) element pg k)))
    (flat_map (element_run start memory) (place_where (is_active (bytes_in element) pg k) k))
    (Some (flat_map (low_bytes z memory element) (place_where (is_active (bytes_in element) pg k) k)))
    ≡ written m (of_first (element_run start memory) element pg (k + 1)) (Some (of_first (low_bytes z memory element) element pg (k + 1)))
stored_more m start z memory element pg k narrow within =
    let f = element_run start memory in
    let g = low_bytes z memory element in
    let on = is_active (bytes_in element) pg k in
    let long = length_first f g element pg k (λ j lt. same_length start z memory element j narrow (omega (arith, lt, within))) in
    ap (λ mem. record m { mem = mem })
    (set_append m.mem (of_first f element pg k) (flat_map f (place_where on k)) (of_first g element pg k)
    (flat_map g (place_where on k)) long
    ∙ sym (ap₂ (λ xs bs. set_each m.mem xs bs) (of_more f element pg k) (of_more g element pg k)))

pub stored_none : (m : AddressSpace) (start : ℕ) (z : List ℕ) (memory element : Size) (pg : List ℕ)
    → m ≡ written m (of_first (element_run start memory) element pg 0) (Some (of_first (low_bytes z memory element) element pg 0))
unfolding set_each
stored_none m start z memory element pg =
    sym (ap₂ (λ xs bs. record m { mem = set_each m.mem xs bs })
    (none_first (element_run start memory) element pg) (none_first (low_bytes z memory element) element pg))

-- one element that is stored
pub stored_one : (m : AddressSpace) (start : ℕ) (z : List ℕ) (memory element : Size) (i : ℕ) (on : Bool) (bytes : List ℕ)
    → on ≡ true → bytes ≡ low_bytes z memory element i → length bytes ≡ bytes_in memory
    → with_bytes m ((start + i * bytes_in memory) % 2 ^ 64) bytes
    ≡ written m (flat_map (element_run start memory) (place_where on i)) (Some (flat_map (low_bytes z memory element) (place_where on i)))
stored_one m start z memory element i on bytes active is long =
    sym (ap (λ b. written m (flat_map (element_run start memory) (place_where b i))
    (Some (flat_map (low_bytes z memory element) (place_where b i)))) active
    ∙ ap₂ (λ xs bs. written m xs (Some bs)) (append-nil (element_run start memory i)) (append-nil (low_bytes z memory element i) ∙ sym is)
    ∙ written_run m ((start + i * bytes_in memory) % 2 ^ 64) (bytes_in memory) bytes long)

-- or is not
pub stored_not : (m : AddressSpace) (start : ℕ) (z : List ℕ) (memory element : Size) (i : ℕ) (on : Bool) → on ≡ false
    → m ≡ written m (flat_map (element_run start memory) (place_where on i))
    (Some (flat_map (low_bytes z memory element) (place_where on i)))
unfolding set_each
stored_not m start z memory element i on inactive =
    sym (ap (λ b. written m (flat_map (element_run start memory) (place_where b i))
    (Some (flat_map (low_bytes z memory element) (place_where b i)))) inactive)
