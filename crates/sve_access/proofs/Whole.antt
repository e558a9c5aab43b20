-- Elements that are all active, and as long in memory as in the register, are one run of bytes.
use Rattle.std.proofs.Common.{◌≡◌, ℕ, zero, suc, ◌+◌, ◌*◌, ◌/◌, ◌%◌, ◌^◌, ◌<◌, true, List, ◌∷◌, ◌++◌}
use Rattle.std.proofs.Common.{length, take, drop, refl, ap, ap₂, sym, ◌∙◌, arith}
use Rattle.std.proofs.Math.Seq.{take-add, take-length}
use Rattle.vector_elements.specs.declared.size.Size.{Size}
use Rattle.vector_elements.specs.declared.size.Size.TheVariants.{B, H, S, D}
use Rattle.vector_elements.specs.Elements.{is_active}
use Rattle.vector_elements.specs.Numbers.{bytes_in}
use Rattle.paged_memory.specs.Memory.{run_of}
use Rattle.sve_access.specs.Elements.{element_run, low_bytes, element_addresses, element_bytes}
use Rattle.vector_elements.specs.Active.{AreActive}
use Rattle.sve_access.proofs.Lists.{of_first, of_active, none_first}

run_same : (a b n : ℕ) → a % 2 ^ 64 ≡ b % 2 ^ 64 → run_of a n ≡ run_of b n
unfolding run_of
run_same a b zero same = refl
run_same a b (suc n) same = ap₂ (λ x xs. x ∷ xs) same (run_same (a + 1) (b + 1) n (omega (arith, same)))

run_append : (a n k : ℕ) → run_of a (n + k) ≡ run_of a n ++ run_of ((a + n) % 2 ^ 64) k
unfolding run_of
run_append a zero k =
    let none : 0 + k ≡ k = omega arith in
    ap (run_of a) none ∙ run_same a ((a + 0) % 2 ^ 64) k (omega arith)
run_append a (suc n) k =
    let more : suc n + k ≡ suc (n + k) = omega arith in
    let next : a + 1 + n ≡ a + suc n = omega arith in
    ap (run_of a) more
    ∙ ap (λ xs. a % 2 ^ 64 ∷ xs) (run_append (a + 1) n k ∙ ap (λ p. run_of (a + 1) n ++ run_of (p % 2 ^ 64) k) next)

one_more : (size : Size) (n : ℕ) → suc n * bytes_in size ≡ n * bytes_in size + bytes_in size
one_more B n = omega arith
one_more H n = omega arith
one_more S n = omega arith
one_more D n = omega arith

none_of : (size : Size) → 0 * bytes_in size ≡ 0
none_of B = refl
none_of H = refl
none_of S = refl
none_of D = refl

turned : (size : Size) (n : ℕ) → bytes_in size * n ≡ n * bytes_in size
turned B n = omega arith
turned H n = omega arith
turned S n = omega arith
turned D n = omega arith

all_addresses : (start : ℕ) (memory element : Size) (pg : List ℕ) (n : ℕ)
    → ((i : ℕ) → i < n → is_active (bytes_in element) pg i ≡ true)
    → of_first (element_run start memory) element pg n ≡ run_of start (n * bytes_in memory)
unfolding run_of
all_addresses start memory element pg zero on =
    none_first (element_run start memory) element pg ∙ sym (ap (run_of start) (none_of memory))
all_addresses start memory element pg (suc n) on =
    let next : suc n ≡ n + 1 = omega arith in
    ap (of_first (element_run start memory) element pg) next
    ∙ of_active (element_run start memory) element pg n (on n (omega arith))
    ∙ ap (λ xs. xs ++ element_run start memory n) (all_addresses start memory element pg n (λ i lt. on i (omega (arith, lt))))
    ∙ sym (run_append start (n * bytes_in memory) (bytes_in memory))
    ∙ ap (run_of start) (sym (one_more memory n))

all_bytes : (z : List ℕ) (memory element : Size) (pg : List ℕ) (n : ℕ) → bytes_in memory ≡ bytes_in element
    → ((i : ℕ) → i < n → is_active (bytes_in element) pg i ≡ true)
    → of_first (low_bytes z memory element) element pg n ≡ take (n * bytes_in element) z
all_bytes z memory element pg zero same on =
    none_first (low_bytes z memory element) element pg ∙ sym (ap (λ k. take k z) (none_of element))
all_bytes z memory element pg (suc n) same on =
    let next : suc n ≡ n + 1 = omega arith in
    ap (of_first (low_bytes z memory element) element pg) next
    ∙ of_active (low_bytes z memory element) element pg n (on n (omega arith))
    ∙ ap₂ (λ xs ys. xs ++ ys) (all_bytes z memory element pg n same (λ i lt. on i (omega (arith, lt))))
    (ap₂ (λ k a. take k (drop a z)) same (turned element n))
    ∙ sym (take-add (n * bytes_in element) (bytes_in element) z)
    ∙ ap (λ k. take k z) (sym (one_more element n))

whole_elements : (size : Size) (n : ℕ) → 8 * n / bytes_in size * bytes_in size ≡ 8 * n
whole_elements B n = omega arith
whole_elements H n = omega arith
whole_elements S n = omega arith
whole_elements D n = omega arith

-- the addresses of all elements, and their bytes
pub run_addresses : (start : ℕ) (memory element : Size) (pg z : List ℕ) → bytes_in memory ≡ bytes_in element
    → AreActive element pg → length z ≡ 8 * length pg → element_addresses start memory element pg ≡ run_of start (length z)
unfolding element_addresses
run_addresses start memory element pg z same on bits =
    all_addresses start memory element pg (8 * length pg / bytes_in element) on
    ∙ ap (run_of start) (ap (λ k. 8 * length pg / bytes_in element * k) same ∙ whole_elements element (length pg) ∙ sym bits)

pub run_bytes : (memory element : Size) (pg z : List ℕ) → bytes_in memory ≡ bytes_in element
    → AreActive element pg → length z ≡ 8 * length pg → element_bytes z memory element pg ≡ z
unfolding element_bytes
run_bytes memory element pg z same on bits =
    all_bytes z memory element pg (8 * length pg / bytes_in element) same on
    ∙ ap (λ k. take k z) (whole_elements element (length pg) ∙ sym bits) ∙ take-length z
