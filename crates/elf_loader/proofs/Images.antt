-- A file without a fault is loaded as one program: some memory has the pages and bytes of any parts, and no other does.
use Rattle.std.proofs.Common.{◌≡◌, ℕ, zero, suc, ◌+◌, ◌-◌, ◌*◌, ◌/◌, ◌<◌, ◌≤◌, ◌⊎◌, inl, inr, false, cond, List, [], ◌∷◌}
use Rattle.std.proofs.Common.{Option, Some, None, refl, sym, ◌∙◌, ap, arith}
use Rattle.std.specs.Prelude.{◌&&◌, nat_lt, nat_le}
use Rattle.std.specs.FinMap.{FinMap, get, insert, empty, get-insert, get-empty, same_map, nat_cmp-IsAntisymmetric}
use Rattle.std.specs.Cmp.{nat_cmp_total}
use Rattle.std.specs.Ordering.{nat_cmp}
use Rattle.std.proofs.lemmas.Bool.Decides.{nat_tests}
use Rattle.std.proofs.lemmas.Bool.{cases_lt, ne_eqb}
use Rattle.plain_lemmas.proofs.Tests.{and-false, eqb-self, eq_by_cmp-nat}
use Rattle.paged_memory.specs.Memory.{AddressSpace}
use Rattle.paged_memory.specs.Image.{Extent, Program, part_flags, image_flags, part_byte, parts_byte, image_byte, IsMemoryOf}
use Rattle.elf_headers.specs.Header.{header_entry}
use Rattle.elf_headers.specs.Loads.{extents_of}
use Rattle.elf_sections.specs.Code.{code_words}
use Rattle.elf_loader.specs.Loading.{load_fault, Loads}

-- ---- the map of a function below a bound

with_value : FinMap nat_cmp ℕ → ℕ → Option ℕ → FinMap nat_cmp ℕ
with_value m n None = m
with_value m n (Some v) = insert m n v

get-with_value : (m : FinMap nat_cmp ℕ) (n : ℕ) (o : Option ℕ) → get m n ≡ None → get (with_value m n o) n ≡ o
unfolding with_value
get-with_value m n None e = e
get-with_value m n (Some v) e = get-insert nat_cmp_total m n v n ∙ ap (λ b. cond b (Some v) (get m n)) (eq_by_cmp-nat n n ∙ eqb-self n)

get-with_other : (m : FinMap nat_cmp ℕ) (n q : ℕ) (o : Option ℕ) → (n ≡ q → ⊥) → get (with_value m n o) q ≡ get m q
unfolding with_value
get-with_other m n q None e = refl
get-with_other m n q (Some v) e =
    get-insert nat_cmp_total m n v q ∙ ap (λ b. cond b (Some v) (get m q)) (eq_by_cmp-nat q n ∙ ne_eqb n q e)

map_below : (ℕ → Option ℕ) → ℕ → FinMap nat_cmp ℕ
map_below f zero = empty
map_below f (suc n) = with_value (map_below f n) n (f n)

get-above : (f : ℕ → Option ℕ) (n q : ℕ) → n ≤ q → get (map_below f n) q ≡ None
unfolding map_below
get-above f zero q l = get-empty nat_cmp q
get-above f (suc n) q l = get-with_other (map_below f n) n q (f n) (λ e. omega arith) ∙ get-above f n q (omega arith)

last_or_before : (q n : ℕ) → q < suc n → (n ≡ q) ⊎ (q < n)
last_or_before q n l = grind arith

get-below : (f : ℕ → Option ℕ) (n q : ℕ) → q < n → get (map_below f n) q ≡ f q
unfolding map_below
get-below f zero q l = absurd (omega arith)
get-below f (suc n) q l =
    elim (last_or_before q n l) [
      | inl e ↦ ap (get (with_value (map_below f n) n (f n))) (sym e)
          ∙ get-with_value (map_below f n) n (f n) (get-above f n n (omega arith)) ∙ ap f e
      | inr before ↦ get-with_other (map_below f n) n q (f n) (λ e. omega arith) ∙ get-below f n q before
    ]

-- of a function that has no values from a bound on
get-map : (f : ℕ → Option ℕ) (n : ℕ) → ((q : ℕ) → n ≤ q → f q ≡ None) → (q : ℕ) → get (map_below f n) q ≡ f q
get-map f n none q =
    elim (cases_lt q n) [
      | inl low ↦ get-below f n q low
      | inr high ↦ get-above f n q high ∙ sym (none q high)
    ]

-- ---- parts have no pages and no bytes from a bound on

bound_of : List Extent → ℕ
bound_of [] = 0
bound_of (part ∷ parts) = part.address + part.size + 1 + bound_of parts

bound-cons : (part : Extent) (parts : List Extent) → bound_of (part ∷ parts) ≡ part.address + part.size + 1 + bound_of parts
unfolding bound_of
bound-cons part parts = refl

past_pages : (a s n : ℕ) → a + s + 1 ≤ n → nat_le n ((a + s - 1) / 4096) ≡ false
past_pages a s n l = grind (arith, nat_tests)

past_bytes : (a s n : ℕ) → a + s + 1 ≤ n → nat_lt n (a + s) ≡ false
past_bytes a s n l = grind (arith, nat_tests)

no_flags : (part : Extent) (n : ℕ) → part.address + part.size + 1 ≤ n → part_flags part n ≡ None
no_flags part n l = rw (past_pages part.address part.size n l, and-false (nat_lt 0 part.size && nat_le (part.address / 4096) n)) refl

no_byte : (part : Extent) (a : ℕ) → part.address + part.size + 1 ≤ a → part_byte part a ≡ None
no_byte part a l = rw (past_bytes part.address part.size a l, and-false (nat_le part.address a)) refl

flags-above : (parts : List Extent) (n : ℕ) → bound_of parts ≤ n → image_flags parts n ≡ None
unfolding image_flags
flags-above [] n l = refl
flags-above (part ∷ parts) n l =
    let b = bound-cons part parts in
    rw (no_flags part n (omega arith), flags-above parts n (omega arith)) refl

parts-above : (parts : List Extent) (a : ℕ) → bound_of parts ≤ a → parts_byte parts a ≡ None
unfolding parts_byte
parts-above [] a l = refl
parts-above (part ∷ parts) a l =
    let b = bound-cons part parts in
    rw (no_byte part a (omega arith), parts-above parts a (omega arith)) refl

page_above : (b a : ℕ) → 4096 * b ≤ a → b ≤ a / 4096
page_above b a l = omega arith

bytes-above : (parts : List Extent) (a : ℕ) → 4096 * bound_of parts ≤ a → image_byte parts a ≡ None
unfolding image_byte
bytes-above parts a l = rw (parts-above parts a (omega arith), flags-above parts (a / 4096) (page_above (bound_of parts) a l)) refl

-- ---- the memory of parts

memory_of : List Extent → AddressSpace
memory_of parts =
    record { mem = map_below (image_byte parts) (4096 * bound_of parts); perm = map_below (image_flags parts) (bound_of parts) }

is_memory : (parts : List Extent) → IsMemoryOf parts (memory_of parts)
unfolding memory_of
is_memory parts = record {
  flags = get-map (image_flags parts) (bound_of parts) (flags-above parts);
  bytes = get-map (image_byte parts) (4096 * bound_of parts) (bytes-above parts);
}

pub one_memory : (parts : List Extent) (m n : AddressSpace) → IsMemoryOf parts m → IsMemoryOf parts n → m ≡ n
one_memory parts m n h k =
    let mem : m.mem ≡ n.mem = same_map nat_cmp_total nat_cmp-IsAntisymmetric _ _ (λ a. h.bytes a ∙ sym (k.bytes a)) in
    let perm : m.perm ≡ n.perm = same_map nat_cmp_total nat_cmp-IsAntisymmetric _ _ (λ a. h.flags a ∙ sym (k.flags a)) in
    λ i. record { mem = mem i; perm = perm i }

-- ---- the program of a file

program_of : List ℕ → Program
program_of file = record { memory = memory_of (extents_of file); entry = header_entry file; code = code_words file }

pub some_program : (file : List ℕ) → load_fault file ≡ None → (program : Program) × Loads file program
unfolding program_of
some_program file e = (program_of file, record { accepted = e; memory = is_memory (extents_of file); entry_is = refl; code_is = refl })

pub one_program : (file : List ℕ) (p q : Program) → Loads file p → Loads file q → p ≡ q
one_program file p q h k =
    let memory = one_memory (extents_of file) p.memory q.memory h.memory k.memory in
    let entry = h.entry_is ∙ sym k.entry_is in
    let code = h.code_is ∙ sym k.code_is in
    λ i. record { memory = memory i; entry = entry i; code = code i }
