-- All elements of an access as consecutive bytes.
use Rattle.std.proofs.Common.{◌≡◌, ℕ, zero, suc, ◌+◌, ◌-◌, ◌*◌, ◌/◌, ◌%◌, ◌^◌, ◌<◌, ◌≤◌, Bool, true, false, cond, if◌then◌else◌, List, []}
use Rattle.std.proofs.Common.{◌∷◌, ◌++◌}
use Rattle.std.proofs.Common.{length, take, drop, refl, ap, sym, subst, ◌∙◌, arith, All, Option, Some, None, length-append}
use Rattle.std.specs.Prelude.{flat_map, unwrap_or}
use Rattle.std.specs.List.{find}
use Rattle.std.specs.Simd.Lanes.{number_l}
use Rattle.std.proofs.lemmas.List.Elements.{All-head, All-tail, All-cons, All-append}
use Rattle.plain_lemmas.proofs.Options.{cond_none}
use Rattle.sm_types.specs.Bytes.{little_number}
use Rattle.sm_types.specs.declared.vector.LoadType.{LoadType}
use Rattle.paged_memory.specs.Memory.{AddressSpace, bytes_with, and_byte, byte_with, run_of}
use Rattle.paged_memory.proofs.Accesses.{joined, bytes_with-join}
use Rattle.vector_elements.specs.declared.size.Size.{Size}
use Rattle.vector_elements.specs.declared.size.Size.TheVariants.{B, H, S, D}
use Rattle.vector_elements.specs.Elements.{element_of, is_active, each_or_zero}
use Rattle.vector_elements.specs.Numbers.{bytes_in}
use Rattle.vector_elements.proofs.Lists.{take_front, drop_front}
use Rattle.vector_elements.proofs.Masks.{each_same}
use Rattle.mem_access.specs.Values.{number_or_zero, number_at}
use Rattle.mem_access.proofs.Lists.{bytes_run, all_run}
use Rattle.sve_perm.proofs.Sums.{place_where}
use Rattle.sve_access.specs.Contiguous.{loaded, memory_size}
use Rattle.sve_access.specs.Elements.{element_run, element_addresses}
use Rattle.sve_access.proofs.Lists.{of_first, of_more, none_first}

-- ---- checks

passing : (ℕ → Bool) → ℕ → Type 0
passing test a = test a ≡ false

goes_on : (fails : Bool) (a : ℕ) (rest : Option ℕ) → cond fails (Some a) rest ≡ None → rest ≡ None
goes_on true a rest none = cc
goes_on false a rest none = none

all_pass : (test : ℕ → Bool) (xs : List ℕ) → find test xs ≡ None → All (passing test) xs
unfolding passing
all_pass test [] none = λ k d lt. absurd (omega (arith, lt))
all_pass test (x ∷ xs) none =
    All-cons (passing test) x xs (cond_none (test x) x (find test xs) none) (all_pass test xs (goes_on (test x) x (find test xs) none))

none_found : (test : ℕ → Bool) (xs : List ℕ) → All (passing test) xs → find test xs ≡ None
unfolding passing
none_found test [] all = refl
none_found test (x ∷ xs) all =
    ap (λ b. cond b (Some x) (find test xs)) (All-head (passing test) x xs all) ∙ none_found test xs (All-tail (passing test) x xs all)

run_all : (P : ℕ → Type 0) (a n : ℕ) → ((k : ℕ) → k < n → P ((a + k) % 2 ^ 64)) → All P (run_of a n)
unfolding run_of
run_all P a zero each = λ k d lt. absurd (omega (arith, lt))
run_all P a (suc n) each =
    let first : a + 0 ≡ a = omega arith in
    All-cons P (a % 2 ^ 64) (run_of (a + 1) n) (subst (λ x. P (x % 2 ^ 64)) first (each 0 (omega arith)))
    (run_all P (a + 1) n (λ k lt.
    let e : a + suc k ≡ a + 1 + k = omega arith in subst (λ x. P (x % 2 ^ 64)) e (each (suc k) (omega (arith, lt)))))

-- byte k of element i is one of the bytes of all elements
within_span : (memory : Size) (i k count : ℕ) → i < count → k < bytes_in memory → i * bytes_in memory + k < count * bytes_in memory
within_span B i k count lt less = omega (arith, lt, less)
within_span H i k count lt less = omega (arith, lt, less)
within_span S i k count lt less = omega (arith, lt, less)
within_span D i k count lt less = omega (arith, lt, less)

element_all : (P : ℕ → Type 0) (start : ℕ) (memory : Size) (count i : ℕ) → All P (run_of start (count * bytes_in memory)) → i < count
    → All P (element_run start memory i)
element_all P start memory count i all lt =
    run_all P ((start + i * bytes_in memory) % 2 ^ 64) (bytes_in memory) (λ k less.
    let e : (start + (i * bytes_in memory + k)) % 2 ^ 64 ≡ ((start + i * bytes_in memory) % 2 ^ 64 + k) % 2 ^ 64 = omega arith in
    subst P e (all_run P start (count * bytes_in memory) all (i * bytes_in memory + k) (within_span memory i k count lt less)))

where_all : (P : ℕ → Type 0) (f : ℕ → List ℕ) (on : Bool) (i : ℕ) → All P (f i) → All P (flat_map f (place_where on i))
where_all P f true i all = All-append P (f i) [] all (λ k d lt. absurd (omega (arith, lt)))
where_all P f false i all = λ k d lt. absurd (omega (arith, lt))

first_all : (P : ℕ → Type 0) (f : ℕ → List ℕ) (element : Size) (pg : List ℕ) (n : ℕ) → ((i : ℕ) → i < n → All P (f i))
    → All P (of_first f element pg n)
first_all P f element pg zero each = subst (All P) (sym (none_first f element pg)) (λ k d lt. absurd (omega (arith, lt)))
first_all P f element pg (suc n) each =
    let next : suc n ≡ n + 1 = omega arith in
    let on = is_active (bytes_in element) pg n in
    let both = All-append P (of_first f element pg n) (flat_map f (place_where on n))
    (first_all P f element pg n (λ i lt. each i (omega (arith, lt)))) (where_all P f on n (each n (omega arith))) in
    subst (λ k. All P (of_first f element pg k)) (sym next) (subst (All P) (sym (of_more f element pg n)) both)

-- where no byte of all elements fails, none of the active ones does
pub none_of_span : (test : ℕ → Bool) (start : ℕ) (memory element : Size) (pg : List ℕ) (size : ℕ)
    → size ≡ 8 * length pg / bytes_in element * bytes_in memory → find test (run_of start size) ≡ None
    → find test (element_addresses start memory element pg) ≡ None
unfolding element_addresses
none_of_span test start memory element pg size is none =
    let count = 8 * length pg / bytes_in element in
    let all = all_pass test (run_of start (count * bytes_in memory)) (subst (λ n. find test (run_of start n) ≡ None) is none) in
    none_found test (of_first (element_run start memory) element pg count)
    (first_all (passing test) (element_run start memory) element pg count (λ i lt. element_all (passing test) start memory count i all lt))

-- ---- what is read

length_and : (o : Option (List ℕ)) (b : Option ℕ) (bs : List ℕ) (n : ℕ) → ((xs : List ℕ) → o ≡ Some xs → length xs ≡ n)
    → and_byte o b ≡ Some bs → length bs ≡ suc n
length_and None b bs n long e = cc
length_and (Some xs) None bs n long e = cc
length_and (Some xs) (Some b) bs n long e =
    let is : bs ≡ xs ++ b ∷ [] = ap (λ o. unwrap_or o []) (sym e) in
    let front = long xs refl in
    ap length is ∙ length-append xs (b ∷ []) ∙ omega (arith, front)

length_with : (need : ℕ) (m : AddressSpace) (a n : ℕ) (bs : List ℕ) → bytes_with need m a n ≡ Some bs → length bs ≡ n
unfolding bytes_with
length_with need m a zero bs e = ap (λ o. length (unwrap_or o [])) (sym e)
length_with need m a (suc n) bs e =
    length_and (bytes_with need m a n) (byte_with need m ((a + n) % 2 ^ 64)) bs n (λ xs is. length_with need m a n xs is) e

joined_parts : (o p : Option (List ℕ)) (d : ℕ) (bs : List ℕ) → ((xs : List ℕ) → o ≡ Some xs → length xs ≡ d) → joined o p ≡ Some bs
    → (o ≡ Some (take d bs)) × (p ≡ Some (drop d bs))
joined_parts None p d bs long e = (cc, cc)
joined_parts (Some xs) None d bs long e = (cc, cc)
joined_parts (Some xs) (Some ys) d bs long e =
    let is : bs ≡ xs ++ ys = ap (λ o. unwrap_or o []) (sym e) in
    let front = long xs refl in (
      ap Some (sym (ap (take d) is ∙ take_front xs ys d (sym front))),
      ap Some (sym (ap (drop d) is ∙ drop_front xs ys d 0 (omega (arith, front)))),
    )

pub parts_read : (need : ℕ) (m : AddressSpace) (a d n : ℕ) (bs : List ℕ) → bytes_with need m a (d + n) ≡ Some bs
    → (bytes_with need m a d ≡ Some (take d bs)) × (bytes_with need m ((a + d) % 2 ^ 64) n ≡ Some (drop d bs))
parts_read need m a d n bs e =
    joined_parts (bytes_with need m a d) (bytes_with need m ((a + d) % 2 ^ 64) n) d bs (λ xs is. length_with need m a d xs is)
    (sym (bytes_with-join need m a d n) ∙ e)

same_number : (bs : List ℕ) → little_number bs ≡ number_l 256 bs
same_number [] = refl
same_number (b ∷ bs) = ap (λ n. b + 256 * n) (same_number bs)

rest_of : (memory : Size) (i size : ℕ) → bytes_in memory * i + bytes_in memory ≤ size
    → size ≡ i * bytes_in memory + (bytes_in memory + (size - (bytes_in memory * i + bytes_in memory)))
rest_of B i size room = omega (arith, room)
rest_of H i size room = omega (arith, room)
rest_of S i size room = omega (arith, room)
rest_of D i size room = omega (arith, room)

turned : (memory : Size) (i : ℕ) → i * bytes_in memory ≡ bytes_in memory * i
turned B i = omega arith
turned H i = omega arith
turned S i = omega arith
turned D i = omega arith

-- an element of the bytes that were read
element_read : (m : AddressSpace) (start size : ℕ) (memory : Size) (bytes : List ℕ) (i : ℕ) → bytes_with 4 m start size ≡ Some bytes
    → bytes_in memory * i + bytes_in memory ≤ size → element_of (bytes_in memory) bytes i ≡ number_at m (element_run start memory i)
unfolding element_of number_at
element_read m start size memory bytes i read room =
    let n = bytes_in memory in
    let at = i * n in
    let rest = size - (n * i + n) in
    let whole : bytes_with 4 m start (at + (n + rest)) ≡ Some bytes = ap (bytes_with 4 m start) (sym (rest_of memory i size room)) ∙ read in
    let later = (parts_read 4 m start at (n + rest) bytes whole).1 in
    let here = (parts_read 4 m ((start + at) % 2 ^ 64) n rest (drop at bytes) later).0 in
    ap (λ k. number_l 256 (take n (drop k bytes))) (sym (turned memory i))
    ∙ sym (ap number_or_zero (bytes_run m ((start + at) % 2 ^ 64) n ∙ here) ∙ same_number (take n (drop at bytes)))

pub in_memory : (element memory : Size) (i n : ℕ) → i < n / bytes_in element
    → bytes_in memory * i + bytes_in memory ≤ n / bytes_in element * bytes_in memory
in_memory element B i n lt = omega (arith, lt)
in_memory element H i n lt = omega (arith, lt)
in_memory element S i n lt = omega (arith, lt)
in_memory element D i n lt = omega (arith, lt)

-- a load of bytes that were read
pub loads_same : (kind : LoadType) (m : AddressSpace) (start size : ℕ) (element : Size) (pg z bytes : List ℕ)
    → bytes_with 4 m start size ≡ Some bytes → size ≡ length z / bytes_in element * bytes_in (memory_size kind)
    → each_or_zero (bytes_in element) pg z (λ i old. loaded kind (element_of (bytes_in (memory_size kind)) bytes i))
    ≡ each_or_zero (bytes_in element) pg z (λ i old. loaded kind (number_at m (element_run start (memory_size kind) i)))
loads_same kind m start size element pg z bytes read is =
    each_same (bytes_in element) z
    (λ i old. if is_active (bytes_in element) pg i then loaded kind (element_of (bytes_in (memory_size kind)) bytes i) else 0)
    (λ i old. if is_active (bytes_in element) pg i then loaded kind (number_at m (element_run start (memory_size kind) i)) else 0)
    (λ i lt old.
    let room = in_memory element (memory_size kind) i (length z) lt in
    ap (λ v. if is_active (bytes_in element) pg i then loaded kind v else 0)
    (element_read m start size (memory_size kind) bytes i read (omega (arith, room, is))))
