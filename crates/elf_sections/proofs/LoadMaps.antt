-- Which addresses loads in order have.
use Rattle.std.proofs.Common.{inl, inr, ◌≡◌, ◌≢◌, ℕ, zero, suc, ◌+◌, ◌-◌, ◌^◌, ◌<◌, ◌≤◌, true, false, List, [], ◌∷◌, length, get_or, set}
use Rattle.std.proofs.Common.{leb, refl, sym, ◌∙◌, subst, arith}
use Rattle.std.specs.Prelude.{Contains}
use Rattle.std.specs.List.Sorted.{IsPermutation, IsPartitionPoint}
use Rattle.std.proofs.lemmas.Bool.{cases_lt, or_left, or_right, or_cases, false_from_ne_true, false≢true, leb-true, leb-false, le-leb}
use Rattle.std.proofs.lemmas.Bool.{lt-leb}
use Rattle.std.proofs.lemmas.Bool.Decides.{nat_tests}
use Rattle.std.proofs.lemmas.List.{get_or_default, get_or-set_same, get_or-set_other}
use Rattle.std.proofs.lemmas.List.Elements.{Contains-get_or}
use Rattle.std.proofs.lemmas.List.Sorted.{All-permutation, Contains-permutation, IsPermutation-sym}
use Rattle.elf_headers.specs.declared.program_header.ProgramHeader.{ProgramHeader}
use Rattle.elf_headers.specs.Loads.{has_address}
use Rattle.elf_headers.specs.Below.{all_below}
use Rattle.elf_sections.specs.LoadMap.{has_load, AreLoads, AreInOrder, IsEnd}
use Rattle.elf_headers.proofs.Below.{all_below-all, all_below-found}

-- the test of an address, in numbers
pub has_address-from : (s : ProgramHeader) (a : ℕ) → s.address ≤ a → a < s.address + s.memory_size → has_address s a ≡ true
has_address-from s a l h = grind (arith, nat_tests)

pub has_address-low : (s : ProgramHeader) (a : ℕ) → has_address s a ≡ true → s.address ≤ a
has_address-low s a h = grind (arith, nat_tests)

pub has_address-high : (s : ProgramHeader) (a : ℕ) → has_address s a ≡ true → a < s.address + s.memory_size
has_address-high s a h = grind (arith, nat_tests)

pub has_load-contains : (loads : List ProgramHeader) (s : ProgramHeader) (a k : ℕ) → k < length loads → get_or loads k s ≡ s
    → has_address s a ≡ true → has_load loads a ≡ true
unfolding has_load
has_load-contains [] s a k l e h = absurd (omega arith)
has_load-contains (t ∷ loads) s a zero l e h = or_left (has_address t a) _ (rw e h)
has_load-contains (t ∷ loads) s a (suc k) l e h = or_right (has_address t a) _ (has_load-contains loads s a k (omega arith) e h)

pub has_load-at : (loads : List ProgramHeader) (k : ℕ) (d : ProgramHeader) (a : ℕ) → k < length loads
    → has_address (get_or loads k d) a ≡ true → has_load loads a ≡ true
has_load-at loads k d a l h = has_load-contains loads (get_or loads k d) a k l (get_or_default loads k (get_or loads k d) d l) h

abbrev pub HasOne : List ProgramHeader → ℕ → Type 0
HasOne loads a = (s : ProgramHeader) × Contains loads s × (has_address s a ≡ true)

pub has_load-some : (loads : List ProgramHeader) (a : ℕ) → has_load loads a ≡ true → HasOne loads a
unfolding has_load
has_load-some [] a h = cc
has_load-some (t ∷ loads) a h =
    elim (or_cases (has_address t a) _ h) [
      | inl here ↦ (t, (0, omega arith, refl), here)
      | inr later ↦
          let w : HasOne loads a = has_load-some loads a later in
          (w.0, (suc w.1.0, omega (arith, w.1.1), w.1.2), w.2)
    ]

-- where a load has the address and the one after it lies above, no other load has it
pub has_load-here : (loads : List ProgramHeader) (i a : ℕ) (d : ProgramHeader) → AreInOrder loads → i < length loads
    → (get_or loads i d).address ≤ a → (i + 1 < length loads → a < (get_or loads (i + 1) d).address)
    → has_load loads a ≡ true → has_address (get_or loads i d) a ≡ true
has_load-here loads i a d order inside low next h =
    let w : HasOne loads a = has_load-some loads a h in
    let s : ProgramHeader = w.0 in
    let t : ProgramHeader = get_or loads i d in
    let j : ℕ = w.1.0 in
    let within : j < length loads = w.1.1 in
    let same : get_or loads j d ≡ s = get_or_default loads j d s within ∙ w.1.2 in
    let from : s.address ≤ a = has_address-low s a w.2 in
    let to : a < s.address + s.memory_size = has_address-high s a w.2 in
    let before : j ≤ i = elim (cases_lt i j) [
      | inr b ↦ b
      | inl c ↦
          let up : (get_or loads (i + 1) d).address ≤ (get_or loads j d).address = order.order (i + 1) j d (omega arith) within in
          let up2 : (get_or loads (i + 1) d).address ≤ s.address = rw same at up in
          let above : a < (get_or loads (i + 1) d).address = next (omega arith) in
          absurd (omega arith)
    ] in
    let up : (get_or loads j d).address ≤ t.address = order.order j i d before inside in
    let up2 : s.address ≤ t.address = rw same at up in
    let size : 0 < t.memory_size = order.are.some i d inside in
    let both : s ≡ t =
    order.are.apart s t t.address w.1 (Contains-get_or loads i d inside) (has_address-from s t.address up2 (omega arith))
    (has_address-from t t.address (omega arith) (omega arith)) in
    subst (λ (p : ProgramHeader). has_address p a ≡ true) both w.2

pub has_load-below : (loads : List ProgramHeader) (a : ℕ)
    → ((k : ℕ) (d : ProgramHeader) → k < length loads → a < (get_or loads k d).address) → has_load loads a ≡ false
has_load-below loads a h = false_from_ne_true (has_load loads a) (λ t.
    let w : HasOne loads a = has_load-some loads a t in
    let low : w.0.address ≤ a = has_address-low w.0 a w.2 in
    let high : a < (get_or loads w.1.0 w.0).address = h w.1.0 w.0 w.1.1 in
    let high2 : a < w.0.address = rw w.1.2 at high in
    absurd (omega arith))

-- ---- ends

-- where the load after this one begins above its end, no load has that end
pub end_own : (loads : List ProgramHeader) (i : ℕ) (d : ProgramHeader) → AreInOrder loads → i < length loads
    → (i + 1 < length loads → (get_or loads i d).address + (get_or loads i d).memory_size < (get_or loads (i + 1) d).address)
    → IsEnd loads (get_or loads i d) ((get_or loads i d).address + (get_or loads i d).memory_size)
end_own loads i d order inside next = record {
  past = omega arith;
  all = λ a from to. has_load-at loads i d a inside (has_address-from (get_or loads i d) a from to);
  none = false_from_ne_true _ (λ t.
      let here : has_address (get_or loads i d) ((get_or loads i d).address + (get_or loads i d).memory_size) ≡ true =
      has_load-here loads i ((get_or loads i d).address + (get_or loads i d).memory_size) d order inside (omega arith) next t in
      let high : (get_or loads i d).address + (get_or loads i d).memory_size < (get_or loads i d).address + (get_or loads i d).memory_size =
      has_address-high (get_or loads i d) _ here in
      absurd (omega arith));
}

-- else they go on as those of the next
pub end_next : (loads : List ProgramHeader) (i end : ℕ) (d : ProgramHeader) → AreInOrder loads → i + 1 < length loads
    → (get_or loads (i + 1) d).address ≤ (get_or loads i d).address + (get_or loads i d).memory_size
    → IsEnd loads (get_or loads (i + 1) d) end → IsEnd loads (get_or loads i d) end
end_next loads i end d order inside near is =
    let up : (get_or loads i d).address ≤ (get_or loads (i + 1) d).address = order.order i (i + 1) d (omega arith) inside in
    let beyond : (get_or loads (i + 1) d).address ≤ end = omega (arith, is.past) in
    record {
      past = elim (cases_lt end ((get_or loads i d).address + (get_or loads i d).memory_size)) [
        | inr g ↦ g
        | inl l ↦ absurd (false≢true (sym is.none
            ∙ has_load-at loads i d end (omega arith) (has_address-from (get_or loads i d) end (omega arith) l)))
      ];
      all = λ a from to. elim (cases_lt a ((get_or loads i d).address + (get_or loads i d).memory_size)) [
        | inl l ↦ has_load-at loads i d a (omega arith) (has_address-from (get_or loads i d) a from l)
        | inr g ↦ is.all a (omega arith) to
      ];
      none = is.none;
    }

-- ---- all of some addresses

pub all_had-none : (loads : List ProgramHeader) (a : ℕ) → all_below (λ k. has_load loads (a + k)) 0 ≡ true
unfolding all_below
all_had-none loads a = refl

pub all_had-fails : (loads : List ProgramHeader) (a size : ℕ) → 0 < size → has_load loads a ≡ false
    → all_below (λ k. has_load loads (a + k)) size ≡ false
all_had-fails loads a size l h = let e : a + 0 ≡ a = omega arith in all_below-found (λ k. has_load loads (a + k)) 0 size (rw e h) l

-- an address of a load lies below the end of that load
pub below_end : (loads : List ProgramHeader) (s : ProgramHeader) (end a : ℕ) → IsEnd loads s end → has_address s a ≡ true → a ≤ end
below_end loads s end a is h = let high : a < s.address + s.memory_size = has_address-high s a h in omega (arith, is.past)

-- from an address of a load on, the loads have those below its end and no more in a row
pub all_had-from : (loads : List ProgramHeader) (s : ProgramHeader) (end a size : ℕ) → IsEnd loads s end → has_address s a ≡ true
    → leb size (end - a) ≡ all_below (λ k. has_load loads (a + k)) size
all_had-from loads s end a size is h =
    let low : s.address ≤ a = has_address-low s a h in
    let high : a ≤ end = below_end loads s end a is h in
    elim (cases_lt (end - a) size) [
      | inr g ↦ le-leb size (end - a) g ∙ sym (all_below-all (λ k. has_load loads (a + k)) size
          (λ k l. is.all (a + k) (omega arith) (omega arith)))
      | inl l ↦
          let e : a + (end - a) ≡ end = omega arith in
          lt-leb size (end - a) l ∙ sym (all_below-found (λ k. has_load loads (a + k)) (end - a) size (rw e is.none) l)
    ]

-- the ends with one more in front
pub ends_more : (loads : List ProgramHeader) (ends : List ℕ) (i end : ℕ) → i < length loads → length ends ≡ length loads
    → ((k : ℕ) (d : ProgramHeader) → i + 1 ≤ k → k < length loads → IsEnd loads (get_or loads k d) (get_or ends k 0))
    → ((d : ProgramHeader) → IsEnd loads (get_or loads i d) end)
    → (k : ℕ) (d : ProgramHeader) → i ≤ k → k < length loads → IsEnd loads (get_or loads k d) (get_or (set ends i end) k 0)
ends_more loads ends i end inside count later here k d from to =
    let within : i < length ends = omega arith in
    elim (cases_lt i k) [
      | inl l ↦ let ne : k ≢ i = omega arith in rw get_or-set_other (later k d (omega arith) to)
      | inr g ↦ let e : k ≡ i = omega arith in rw e (rw get_or-set_same (here d))
    ]

-- ---- another order

pub loads-permutation : (xs ys : List ProgramHeader) → IsPermutation xs ys → AreLoads xs → AreLoads ys
loads-permutation xs ys p h = record {
  some = All-permutation (λ s. 0 < s.memory_size) xs ys p h.some;
  low = All-permutation (λ s. s.address + s.memory_size ≤ 2 ^ 47) xs ys p h.low;
  apart =
      λ s t a c d. h.apart s t a (Contains-permutation ys xs s (IsPermutation-sym xs ys p) c)
      (Contains-permutation ys xs t (IsPermutation-sym xs ys p) d);
}

-- ---- what a read of a load gives

-- the default that a read has
abbrev pub no_load : ProgramHeader
no_load = record { kind = 0; flags = 0; offset = 0; address = 0; file_size = 0; memory_size = 0 }

-- what holds of a load that was read
pub at_read : (P : ProgramHeader → Type 0) (loads : List ProgramHeader) (i : ℕ) (d e : ProgramHeader) → i < length loads
    → P (get_or loads i d) → P (get_or loads i e)
at_read P loads i d e l h = subst P (get_or_default loads i d e l) h

-- the load before a place up to which all begin at an address or below it, and from which on none does
pub found_before : (loads : List ProgramHeader) (past a : ℕ)
    → IsPartitionPoint (λ s. leb s.address a ≡ true) (λ s. leb s.address a ≡ false) loads past → 0 < past → past ≤ length loads
    → a < (get_or loads (past - 1) no_load).address + (get_or loads (past - 1) no_load).memory_size
    → (d : ProgramHeader) → has_address (get_or loads (past - 1) d) a ≡ true
found_before loads past a point some within high d =
    let low : leb (get_or loads (past - 1) no_load).address a ≡ true = point.0 (past - 1) no_load (omega arith) (omega arith) in
    at_read (λ s. has_address s a ≡ true) loads (past - 1) no_load d (omega arith)
    (has_address-from (get_or loads (past - 1) no_load) a (leb-true _ _ low) high)

pub not_before : (loads : List ProgramHeader) (past a : ℕ) → AreInOrder loads
    → IsPartitionPoint (λ s. leb s.address a ≡ true) (λ s. leb s.address a ≡ false) loads past → 0 < past → past ≤ length loads
    → (get_or loads (past - 1) no_load).address + (get_or loads (past - 1) no_load).memory_size ≤ a
    → has_load loads a ≡ false
not_before loads past a order point some within high = false_from_ne_true (has_load loads a) (λ t.
    let e : past - 1 + 1 ≡ past = omega arith in
    let low : leb (get_or loads (past - 1) no_load).address a ≡ true = point.0 (past - 1) no_load (omega arith) (omega arith) in
    let here : has_address (get_or loads (past - 1) no_load) a ≡ true =
    has_load-here loads (past - 1) a no_load order (omega arith) (leb-true _ _ low)
    (rw e (λ l. leb-false _ _ (point.1 past no_load (omega arith) l))) t in
    let above : a < (get_or loads (past - 1) no_load).address + (get_or loads (past - 1) no_load).memory_size =
    has_address-high (get_or loads (past - 1) no_load) a here in
    absurd (omega arith))

pub none_before : (loads : List ProgramHeader) (past a : ℕ)
    → IsPartitionPoint (λ s. leb s.address a ≡ true) (λ s. leb s.address a ≡ false) loads past → past ≤ 0 → has_load loads a ≡ false
none_before loads past a point none = has_load-below loads a (λ k d l. leb-false _ _ (point.1 k d (omega arith) l))
