-- What the table of a checkpoint asks of the handlers and the pages of a thread.
use Rattle.std.proofs.Common.{◌≡◌, ◌≢◌, ℕ, zero, suc, ◌+◌, ◌*◌, ◌%◌, ◌<◌, ◌≤◌, ◌^◌, ◌==◌, ◌&&◌, ◌++◌, Bool, true, false, not, cond, T}
use Rattle.std.proofs.Common.{inl, inr, List, [], ◌∷◌, length, map, Some, None, refl, ap, ◌∙◌, arith}
use Rattle.std.specs.Prelude.{slice_index, nat_lt, nat_le}
use Rattle.std.specs.FinMap.{FinMap, entries, entries_sorted, find, get, get-entries}
use Rattle.std.specs.FinMap.Entries.{below_all, is_sorted}
use Rattle.std.specs.Ordering.{nat_cmp, eq_by_cmp}
use Rattle.std.proofs.lemmas.Bool.{cases_Bool, cond_both, and_from}
use Rattle.std.proofs.lemmas.Bool.Decides.{nat_tests}
use Rattle.plain_lemmas.proofs.Tests.{eq_by_cmp-self, and_second, and_first, is_lt-true}
use Rattle.plain_lemmas.proofs.Options.{none_not_some}
use Rattle.paged_memory.specs.Memory.{AddressSpace, IsWhole, bytes_from}
use Rattle.kernel_contexts.specs.HandlerTable.{set_from}
use Rattle.ckpt_fields.specs.Rows.{is_signal_past, is_page_address}
use Rattle.ckpt_file.specs.Checkpoint.{pages_in}
use Rattle.ckpt_file.proofs.Filling.{Each}
use Rattle.ckpt_file.proofs.Parts.{IsNarrowEntry, AreHandlersPast, IsNarrowPage, ArePagesPast}

-- ---- lists

pub each_more : {X : Type 0} {P Q R : X → Type 0} → ((x : X) → P x → Q x → R x) → (xs : List X) → Each P xs → Each Q xs → Each R xs
each_more f [] h k = tt
each_more f (x ∷ xs) h k = (f x h.0 k.0, each_more f xs h.1 k.1)

pub each_end : {X : Type 0} (P : X → Type 0) (xs : List X) (y : X) → Each P xs → P y → Each P (xs ++ y ∷ [])
each_end P [] y h k = (k, tt)
each_end P (x ∷ xs) y h k = (h.0, each_end P xs y h.1 k)

-- ---- handlers

signal_test : (last n : ℕ) → last < n → n ≤ 62 → is_signal_past last n ≡ true
signal_test last n l m =
    let first : nat_lt last n ≡ true = grind (arith, nat_tests) in
    let second : nat_le n 62 ≡ true = grind (arith, nat_tests) in and_from (nat_lt last n) (nat_le n 62) first second

some_address : (a : ℕ) → (a == 0) ≡ false → nat_lt 0 a ≡ true
some_address a e = grind (arith, nat_tests)

-- those that are set rise, and are of signals
past_from : (last k : ℕ) (xs : List ℕ) → last < k → k + length xs ≤ 63 → AreHandlersPast last (set_from k xs)
unfolding set_from
past_from last k [] l m = tt
past_from last k (x ∷ xs) l m =
    cond_both (x == 0) _ _ (AreHandlersPast last) (λ _. past_from last (k + 1) xs (omega (arith, l)) (omega (arith, m)))
    (λ some. ((signal_test last k l (omega (arith, m)), some_address x some), past_from k (k + 1) xs (omega arith) (omega (arith, m))))

-- they are no more than there are addresses
pub few_set : (k : ℕ) (xs : List ℕ) → length (set_from k xs) ≤ length xs
unfolding set_from
few_set k [] = omega arith
few_set k (x ∷ xs) =
    let more = few_set (k + 1) xs in
    cond_both (x == 0) _ _ (λ (es : List (ℕ × ℕ)). length es ≤ suc (length xs)) (λ _. omega (arith, more)) (λ _. omega (arith, more))

pub narrow_set : (k : ℕ) (xs : List ℕ) → k + length xs ≤ 63 → ((i : ℕ) → slice_index xs i < 2 ^ 64) → Each IsNarrowEntry (set_from k xs)
unfolding set_from
narrow_set k [] m h = tt
narrow_set k (x ∷ xs) m h =
    let more = narrow_set (k + 1) xs (omega (arith, m)) (λ i. h (suc i)) in
    cond_both (x == 0) _ _ (Each IsNarrowEntry) (λ _. more) (λ _. ((omega (arith, m), h 0), more))

-- those of a table with none at signal 0
pub table_past : (addresses : List ℕ) → length addresses ≡ 63 → (slice_index addresses 0 == 0) ≡ true
    → AreHandlersPast 0 (set_from 0 addresses)
unfolding set_from
table_past [] l e = absurd (omega (arith, l))
table_past (x ∷ xs) l e = rw e (past_from 0 1 xs (omega arith) (omega (arith, l)))

pub table_few : (addresses : List ℕ) → length addresses ≡ 63 → (slice_index addresses 0 == 0) ≡ true → length (set_from 0 addresses) ≤ 62
unfolding set_from
table_few [] l e = absurd (omega (arith, l))
table_few (x ∷ xs) l e = let few = few_set 1 xs in rw e (omega (arith, few, l))

-- ---- pages

each_past : (k : ℕ) (es : List (ℕ × ℕ)) → below_all nat_cmp k es ≡ true → Each (λ (e : ℕ × ℕ). k < e.0) es
each_past k [] h = tt
each_past k (e ∷ es) h = (is_lt-true k e.0 (and_first _ _ h), each_past k es (and_second _ _ h))

not_here : (n k : ℕ) → k < n → eq_by_cmp nat_cmp n k ≡ false
not_here n k l = grind (arith, nat_tests)

-- each is found by its key
each_found : (es : List (ℕ × ℕ)) → is_sorted nat_cmp es ≡ true → Each (λ (e : ℕ × ℕ). find nat_cmp e.0 es ≡ Some e.1) es
each_found [] h = tt
each_found (g ∷ es) h = (
  ap (λ b. cond b (Some g.1) (find nat_cmp g.0 es)) (eq_by_cmp-self g.0),
  each_more {P = λ (e : ℕ × ℕ). g.0 < e.0} {Q = λ (e : ℕ × ℕ). find nat_cmp e.0 es ≡ Some e.1}
      {R = λ (e : ℕ × ℕ). find nat_cmp e.0 (g ∷ es) ≡ Some e.1}
      (λ e l f. ap (λ b. cond b (Some g.1) (find nat_cmp e.0 es)) (not_here e.0 g.0 l) ∙ f) es
      (each_past g.0 es (and_first _ _ h)) (each_found es (and_second _ _ h)),
)

-- the number and the permission of a page of a thread
pub record IsPageEntry (e : ℕ × ℕ) : Type 0 where
  pub low : e.0 < 2 ^ 52
  pub private : e.0 ≢ 0x7F0000000
  pub flags : e.1 < 8

-- where a memory has its pages
pub record HasPlaces (m : AddressSpace) : Type 0 where
  pub whole : IsWhole m
  pub low : (n : ℕ) → 2 ^ 52 ≤ n → get m.perm n ≡ None
  pub private : get m.perm 0x7F0000000 ≡ None

true_of : (b : Bool) → T b → b ≡ true
true_of true h = refl
true_of false h = absurd h

pub each_entry : (m : AddressSpace) → HasPlaces m → Each IsPageEntry (entries m.perm)
each_entry m h =
    let found = each_found (entries m.perm) (true_of (is_sorted nat_cmp (entries m.perm)) (entries_sorted m.perm)) in
    each_more {P = λ (e : ℕ × ℕ). find nat_cmp e.0 (entries m.perm) ≡ Some e.1}
    {Q = λ (e : ℕ × ℕ). find nat_cmp e.0 (entries m.perm) ≡ Some e.1}
    {R = IsPageEntry}
    (λ e f g.
    let there : get m.perm e.0 ≡ Some e.1 = get-entries m.perm e.0 ∙ f in
    record {
      low = elim (cases_Bool (nat_le (2 ^ 52) e.0)) [
        | inl high ↦ absurd (none_not_some (get m.perm e.0) e.1 (h.low e.0 (at_most (2 ^ 52) e.0 high)) there)
        | inr low ↦ less_of (2 ^ 52) e.0 low
      ];
      private = λ same. none_not_some (get m.perm e.0) e.1 (ap (get m.perm) same ∙ h.private) there;
      flags = h.whole.flags e.0 e.1 there;
    }) (entries m.perm) found found
  where
    at_most : (a b : ℕ) → nat_le a b ≡ true → a ≤ b
    at_most a b e = grind (arith, nat_tests)

    less_of : (a b : ℕ) → nat_le a b ≡ false → b < a
    less_of a b e = grind (arith, nat_tests)

-- the page of an entry
abbrev shown : FinMap nat_cmp ℕ → ℕ × ℕ → ℕ × ℕ × List ℕ
shown mem e = (4096 * e.0, e.1, bytes_from mem (4096 * e.0) 4096)

length-bytes_from : (mem : FinMap nat_cmp ℕ) (a n : ℕ) → length (bytes_from mem a n) ≡ n
unfolding bytes_from
length-bytes_from mem a zero = refl
length-bytes_from mem a (suc n) = ap suc (length-bytes_from mem (a + 1) n)

address_test : (least n : ℕ) → least ≤ 4096 * n → n ≢ 0x7F0000000 → is_page_address least (4096 * n) ≡ true
address_test least n l p =
    let first : nat_le least (4096 * n) ≡ true = grind (arith, nat_tests) in
    let whole : 4096 * n % 4096 ≡ 0 = omega arith in
    let second : (4096 * n % 4096 == 0) ≡ true = ap (λ r. r == 0) whole in
    let apart : 4096 * n ≢ 0x7F0000000000 = λ e. p (omega (arith, e)) in
    let third : not (4096 * n == 0x7F0000000000) ≡ true = apart_test (4096 * n) 0x7F0000000000 apart in
    and_from (nat_le least (4096 * n) && (4096 * n % 4096 == 0)) (not (4096 * n == 0x7F0000000000))
    (and_from (nat_le least (4096 * n)) (4096 * n % 4096 == 0) first second) third
  where
    apart_test : (a b : ℕ) → a ≢ b → not (a == b) ≡ true
    apart_test a b e = grind (arith, nat_tests)

flags_test : (n : ℕ) → n < 8 → nat_lt n 8 ≡ true
flags_test n l = grind (arith, nat_tests)

pages_past : (mem : FinMap nat_cmp ℕ) (least : ℕ) (es : List (ℕ × ℕ)) → Each (λ (e : ℕ × ℕ). least ≤ 4096 * e.0) es
    → is_sorted nat_cmp es ≡ true → Each IsPageEntry es → ArePagesPast least (map (shown mem) es)
pages_past mem least [] l s h = tt
pages_past mem least (e ∷ es) l s h = (
  (
    address_test least e.0 l.0 h.0.private,
    flags_test e.1 h.0.flags,
    length-bytes_from mem (4096 * e.0) 4096,
  ),
  pages_past mem (4096 * e.0 + 1) es
      (each_more {P = λ (f : ℕ × ℕ). e.0 < f.0} {Q = λ (f : ℕ × ℕ). e.0 < f.0} {R = λ (f : ℕ × ℕ). 4096 * e.0 + 1 ≤ 4096 * f.0}
      (λ f m k. omega (arith, m)) es (each_past e.0 es (and_first _ _ s)) (each_past e.0 es (and_first _ _ s))) (and_second _ _ s) h.1,
)

from_nothing : (es : List (ℕ × ℕ)) → Each (λ (e : ℕ × ℕ). 0 ≤ 4096 * e.0) es
from_nothing [] = tt
from_nothing (e ∷ es) = (omega arith, from_nothing es)

pub memory_past : (m : AddressSpace) → HasPlaces m → ArePagesPast 0 (pages_in m)
unfolding pages_in
memory_past m h =
    pages_past m.mem 0 (entries m.perm) (from_nothing (entries m.perm))
    (true_of (is_sorted nat_cmp (entries m.perm)) (entries_sorted m.perm)) (each_entry m h)

narrow_pages : (mem : FinMap nat_cmp ℕ) (es : List (ℕ × ℕ)) → Each (λ (e : ℕ × ℕ). (e.0 < 2 ^ 52) × (e.1 < 2 ^ 8)) es
    → Each IsNarrowPage (map (shown mem) es)
narrow_pages mem [] h = tt
narrow_pages mem (e ∷ es) h = let low = h.0.0 in ((omega (arith, low), h.0.1), narrow_pages mem es h.1)

pub memory_narrow : (m : AddressSpace) → Each (λ (e : ℕ × ℕ). (e.0 < 2 ^ 52) × (e.1 < 2 ^ 8)) (entries m.perm)
    → Each IsNarrowPage (pages_in m)
unfolding pages_in
memory_narrow m h = narrow_pages m.mem (entries m.perm) h

pub entries_narrow : (m : AddressSpace) → HasPlaces m → Each (λ (e : ℕ × ℕ). (e.0 < 2 ^ 52) × (e.1 < 2 ^ 8)) (entries m.perm)
entries_narrow m h =
    each_more {P = IsPageEntry} {Q = IsPageEntry} {R = λ (e : ℕ × ℕ). (e.0 < 2 ^ 52) × (e.1 < 2 ^ 8)}
    (λ e g k. let small = g.flags in (g.low, omega (arith, small))) (entries m.perm) (each_entry m h) (each_entry m h)
