-- One page set at its place.
use Rattle.std.proofs.Common.{inl, inr, ◌≡◌, ℕ, zero, suc, ◌+◌, ◌/◌, ◌%◌, ◌^◌, ◌<◌, ◌≤◌, Bool, true, false, cond, List, [], ◌∷◌, ◌++◌}
use Rattle.std.proofs.Common.{length, get_or, set, take, drop, refl, ap, sym, ◌∙◌, arith, Option, Some, None, slice_get, option_map}
use Rattle.std.specs.Prelude.{◌==◌, map, IsSome}
use Rattle.std.proofs.lemmas.Bool.Decides.{nat_tests}
use Rattle.std.proofs.lemmas.Grind.{common_steps}
use Rattle.std.proofs.lemmas.List.Elements.{recursion_from_All, All-set}
use Rattle.std.proofs.lemmas.Option.{slice_get-get_or}
use Rattle.std.proofs.lemmas.Bool.{and_from, cases_lt}
use Rattle.std.specs.FinMap.{get, same_map, nat_cmp-IsAntisymmetric}
use Rattle.std.specs.FinMap.Entries.{below_all, is_sorted}
use Rattle.std.specs.Cmp.{nat_cmp_total}
use Rattle.std.specs.Ordering.{nat_cmp, is_lt}
use Rattle.plain_lemmas.proofs.Tests.{and_second, and_first}
use Rattle.paged_memory.specs.declared.page.Page.{Page}
use Rattle.paged_memory.specs.Memory.{set_bytes}
use Rattle.paged_memory.specs.Pages.{page_entry, page_at, mem_of, perm_of, IsFine}
use Rattle.paged_memory.proofs.Over.{over, apart, over-below, over-above, over_shift, slice_get-run, get-set_bytes}
use Rattle.paged_memory.proofs.Bytes.{bind, get-perm_of, get-mem_of}
use Rattle.paged_memory.proofs.Order.{later_apart}

pub page_at-set : (ps : List Page) (i : ℕ) (new d : Page) (n : ℕ) → is_sorted nat_cmp (map page_entry ps) ≡ true → i < length ps
    → new.number ≡ (get_or ps i d).number
    → page_at (set ps i new) n ≡ cond (new.number == n) (Some new) (page_at ps n)
page_at-set [] i new d n s h e = absurd (omega arith)
page_at-set (p ∷ ps) zero new d n s h e =
    elim (new.number == n) as (λ t. (new.number == n) ≡ t → cond t (Some new) (page_at ps n) ≡ cond t (Some new) (page_at (p ∷ ps) n)) [
      | true ↦ λ t. refl
      | false ↦ λ t. let u : (p.number == n) ≡ false = grind (arith, nat_tests) in rw u refl
    ] refl
page_at-set (p ∷ ps) (suc i) new d n s h e =
    let apart : (p.number == new.number) ≡ false = rw e (later_apart p.number ps i d (and_first _ _ s) (omega arith)) in
    let rest : page_at (set ps i new) n ≡ cond (new.number == n) (Some new) (page_at ps n) =
    page_at-set ps i new d n (and_second _ _ s) (omega arith) e in
    rw rest (elim (p.number == n) as (λ t. (p.number == n) ≡ t
    → cond t (Some p) (cond (new.number == n) (Some new) (page_at ps n))
    ≡ cond (new.number == n) (Some new) (cond t (Some p) (page_at ps n))) [
      | true ↦ λ t. let u : (new.number == n) ≡ false = grind (arith, nat_tests) in rw u refl
      | false ↦ λ t. refl
    ] refl)

below_all-set : (k : ℕ) (ps : List Page) (i : ℕ) (new d : Page) → i < length ps → new.number ≡ (get_or ps i d).number
    → below_all nat_cmp k (map page_entry ps) ≡ true → below_all nat_cmp k (map page_entry (set ps i new)) ≡ true
below_all-set k [] i new d l e h = h
below_all-set k (p ∷ ps) zero new d l e h =
    let first : is_lt (nat_cmp k new.number) ≡ true = rw e (and_first _ _ h) in and_from _ _ first (and_second _ _ h)
below_all-set k (p ∷ ps) (suc i) new d l e h =
    and_from _ _ (and_first _ _ h) (below_all-set k ps i new d (omega arith) e (and_second _ _ h))

sorted-set : (ps : List Page) (i : ℕ) (new d : Page) → i < length ps → new.number ≡ (get_or ps i d).number
    → is_sorted nat_cmp (map page_entry ps) ≡ true → is_sorted nat_cmp (map page_entry (set ps i new)) ≡ true
sorted-set [] i new d l e h = h
sorted-set (p ∷ ps) zero new d l e h =
    let first : below_all nat_cmp new.number (map page_entry ps) ≡ true = rw e (and_first _ _ h) in and_from _ _ first (and_second _ _ h)
sorted-set (p ∷ ps) (suc i) new d l e h =
    and_from _ _ (below_all-set p.number ps i new d (omega arith) e (and_first _ _ h))
    (sorted-set ps i new d (omega arith) e (and_second _ _ h))

pub fine_set : (ps : List Page) (i : ℕ) (new d : Page) → IsFine ps → i < length ps → length new.bytes.items ≡ 4096 → new.flags < 8
    → new.number ≡ (get_or ps i d).number → IsFine (set ps i new)
fine_set ps i new d fine l whole sum e = record {
  full = All-set (λ x. length x.bytes.items ≡ 4096) ps i new whole fine.full;
  flags = All-set (λ x. x.flags < 8) ps i new sum fine.flags;
  low = All-set (λ x. x.number < 2 ^ 52) ps i new (rw e (fine.low i d l)) fine.low;
  sorted = sorted-set ps i new d l e fine.sorted;
}

flags_step : (b : Bool) (p : Page) (rest : Option Page)
    → option_map (λ x. x.flags) (cond b (Some p) rest) ≡ cond b (Some p.flags) (option_map (λ x. x.flags) rest)
flags_step true p rest = refl
flags_step false p rest = refl

byte_step : (b : Bool) (p : Page) (rest : Option Page) (k : ℕ)
    → bind (cond b (Some p) rest) (λ x. slice_get x.bytes.items k)
    ≡ cond b (slice_get p.bytes.items k) (bind rest (λ x. slice_get x.bytes.items k))
byte_step true p rest k = refl
byte_step false p rest k = refl

pub perm_of-set : (ps : List Page) (i : ℕ) (new d : Page) (n : ℕ) → IsFine ps → i < length ps → new.number ≡ (get_or ps i d).number
    → get (perm_of (set ps i new)) n ≡ cond (new.number == n) (Some new.flags) (get (perm_of ps) n)
perm_of-set ps i new d n fine l e =
    get-perm_of (set ps i new) n ∙ ap (option_map (λ x. x.flags)) (page_at-set ps i new d n fine.sorted l e)
    ∙ flags_step (new.number == n) new (page_at ps n)
    ∙ ap (cond (new.number == n) (Some new.flags)) (sym (get-perm_of ps n))

pub get-mem_of-fine : (ps : List Page) (a : ℕ) → IsFine ps
    → get (mem_of ps) a ≡ bind (page_at ps (a / 4096)) (λ x. slice_get x.bytes.items (a % 4096))
get-mem_of-fine ps a fine =
    get-mem_of ps a (recursion_from_All (λ x. length x.bytes.items ≡ 4096) ps fine.full)
    (recursion_from_All (λ x. x.number < 2 ^ 52) ps fine.low)

pub mem_of-set : (ps : List Page) (i : ℕ) (new d : Page) (a : ℕ) → IsFine ps → IsFine (set ps i new) → i < length ps
    → new.number ≡ (get_or ps i d).number
    → get (mem_of (set ps i new)) a ≡ cond (new.number == a / 4096) (slice_get new.bytes.items (a % 4096)) (get (mem_of ps) a)
mem_of-set ps i new d a fine fine' l e =
    get-mem_of-fine (set ps i new) a fine' ∙ ap (λ o. bind o (λ x. slice_get x.bytes.items (a % 4096)))
    (page_at-set ps i new d (a / 4096) fine.sorted l e) ∙ byte_step (new.number == a / 4096) new (page_at ps (a / 4096)) (a % 4096)
    ∙ ap (cond (new.number == a / 4096) (slice_get new.bytes.items (a % 4096))) (sym (get-mem_of-fine ps a fine))

-- the number of a page that was found
same_number : (ps : List Page) (n : ℕ) (p : Page) → page_at ps n ≡ Some p → p.number ≡ n
same_number [] n p h = cc
same_number (q ∷ ps) n p h =
    elim (q.number == n) as (λ t. (q.number == n) ≡ t → cond t (Some q) (page_at ps n) ≡ Some p → p.number ≡ n) [
      | true ↦ λ t x. let e : q.number ≡ n = grind (arith, nat_tests) in let s : q ≡ p = cc in ap (λ r. r.number) (sym s) ∙ e
      | false ↦ λ t x. same_number ps n p x
    ] refl h

pub found_page : (ps : List Page) (n i : ℕ) (d : Page) → i < length ps → page_at ps n ≡ slice_get ps i → page_at ps n ≡ Some (get_or ps i d)
found_page ps n i d l h = h ∙ slice_get-get_or ps i d l

pub found_number : (ps : List Page) (n i : ℕ) (d : Page) → i < length ps → page_at ps n ≡ slice_get ps i → (get_or ps i d).number ≡ n
found_number ps n i d l h = same_number ps n (get_or ps i d) (found_page ps n i d l h)

pub found_flags : (ps : List Page) (n i : ℕ) (d : Page) → i < length ps → page_at ps n ≡ slice_get ps i
    → get (perm_of ps) n ≡ Some (get_or ps i d).flags
found_flags ps n i d l h = get-perm_of ps n ∙ ap (option_map (λ x. x.flags)) (found_page ps n i d l h)

pub found_byte : (ps : List Page) (a i : ℕ) (d : Page) → IsFine ps → i < length ps → page_at ps (a / 4096) ≡ slice_get ps i
    → get (mem_of ps) a ≡ slice_get (get_or ps i d).bytes.items (a % 4096)
found_byte ps a i d fine l h =
    get-mem_of-fine ps a fine ∙ ap (λ o. bind o (λ x. slice_get x.bytes.items (a % 4096))) (found_page ps (a / 4096) i d l h)

-- ---- a run of bytes set

pub run_flags : (ps : List Page) (i n : ℕ) (new d : Page) → IsFine ps → i < length ps → page_at ps n ≡ slice_get ps i
    → new.number ≡ (get_or ps i d).number → new.flags ≡ (get_or ps i d).flags → perm_of (set ps i new) ≡ perm_of ps
run_flags ps i n new d fine l found e f =
    let number : new.number ≡ n = e ∙ found_number ps n i d l found in
    same_map nat_cmp_total nat_cmp-IsAntisymmetric _ _ (λ q.
    perm_of-set ps i new d q fine l e ∙ elim
    (new.number == q) as (λ t. (new.number == q) ≡ t → cond t (Some new.flags) (get (perm_of ps) q) ≡ get (perm_of ps) q) [
      | true ↦ λ t. let same : n ≡ q = grind (arith, nat_tests) in ap Some f ∙ sym (found_flags ps q i d l (rw same at found))
      | false ↦ λ t. refl
    ] refl)

pub run_bytes : (ps : List Page) (i s : ℕ) (bs : List ℕ) (new d : Page) → IsFine ps → IsFine (set ps i new) → i < length ps
    → page_at ps (s / 4096) ≡ slice_get ps i
    → new.number ≡ (get_or ps i d).number → s % 4096 + length bs ≤ 4096 → new.bytes.items ≡ take (s % 4096) (get_or ps i d).bytes.items
    ++ (bs ++ drop (s % 4096 + length bs) (get_or ps i d).bytes.items)
    → mem_of (set ps i new) ≡ set_bytes (mem_of ps) s bs
run_bytes ps i s bs new d fine fine' l found e fits is =
    let old : Page = get_or ps i d in
    let full : length old.bytes.items ≡ 4096 = fine.full i d l in
    let number : new.number ≡ s / 4096 = e ∙ found_number ps (s / 4096) i d l found in
    let low : s / 4096 < 2 ^ 52 = rw (found_number ps (s / 4096) i d l found) at (fine.low i d l) in
    same_map nat_cmp_total nat_cmp-IsAntisymmetric _ _ (λ a.
    mem_of-set ps i new d a fine fine' l e ∙ elim
    (new.number == a / 4096) as (λ t. (new.number == a / 4096) ≡ t
    → cond t (slice_get new.bytes.items (a % 4096)) (get (mem_of ps) a) ≡ over s bs a (get (mem_of ps) a)) [
      | true ↦ λ t.
          let same : s / 4096 ≡ a / 4096 = grind (arith, nat_tests) in
          let was : get (mem_of ps) a ≡ slice_get old.bytes.items (a % 4096) = found_byte ps a i d fine l (rw same at found) in
          let run : slice_get new.bytes.items (a % 4096) ≡ over (s % 4096) bs (a % 4096) (slice_get old.bytes.items (a % 4096)) =
          ap (λ x. slice_get x (a % 4096)) is ∙ slice_get-run old.bytes.items bs (s % 4096) (a % 4096) (rw full fits) in
          run ∙ over_shift s bs a _ same ∙ ap (over s bs a) (sym was)
      | false ↦ λ t.
          let u : (s / 4096 == a / 4096) ≡ false = rw (← number) t in
          sym (elim (cases_lt a s) [ inl b ↦ over-below s bs a _ b | inr g ↦ over-above s bs a _ (apart s a (length bs) u g fits) ])
    ] refl ∙ sym (get-set_bytes (mem_of ps) s bs a (omega arith)))

missing : (o : Option ℕ) → o ≡ None → IsSome o → ⊥
missing None e h = cc
missing (Some x) e h = cc

pub page_missing : (ps : List Page) (n : ℕ) → page_at ps n ≡ None → IsSome (get (perm_of ps) n) → ⊥
page_missing ps n none some = missing (get (perm_of ps) n) (get-perm_of ps n ∙ ap (option_map (λ x. x.flags)) none) some

pub none_found : (ps : List Page) (n : ℕ) → page_at ps n ≡ None → get (perm_of ps) n ≡ None
none_found ps n none = get-perm_of ps n ∙ ap (option_map (λ x. x.flags)) none

-- a run of bytes set in others leaves as many
pub run_length : (xs bs : List ℕ) (i : ℕ) → length xs ≡ 4096 → i + length bs ≤ 4096
    → length (take i xs ++ (bs ++ drop (i + length bs) xs)) ≡ 4096
run_length xs bs i full fits = grind (arith, common_steps)
