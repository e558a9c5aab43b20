-- Pages that are kept, of a memory and in a list.
use Rattle.std.proofs.Common.{◌≡◌, ◌≢◌, ℕ, zero, suc, ◌+◌, ◌/◌, ◌%◌, ◌<◌, ◌≤◌, Bool, true, false, cond, List, [], ◌∷◌, ◌++◌, length, get_or}
use Rattle.std.proofs.Common.{take, All, refl, ap, sym, ◌∙◌, subst, arith, Option, Some, None, slice_get}
use Rattle.std.specs.Prelude.{map, ◌&&◌, T, option_map}
use Rattle.std.specs.FinMap.{find, get, get-entries, entries, entries_sorted, len, len-entries}
use Rattle.std.specs.FinMap.Entries.{below_all, is_sorted}
use Rattle.std.specs.Ordering.{nat_cmp, is_lt}
use Rattle.std.proofs.lemmas.Bool.Decides.{nat_tests}
use Rattle.std.proofs.lemmas.List.{take_more, take_all, map_push, length-map}
use Rattle.std.proofs.lemmas.Option.{same_Some, slice_get-get_or, slice_get_within, get_or_from_slice_get, slice_get-map}
use Rattle.std.proofs.lemmas.List.Elements.{All-push}
use Rattle.plain_lemmas.proofs.Tests.{eq_by_cmp-self, eq_by_cmp-above}
use Rattle.paged_memory.specs.Memory.{AddressSpace, IsWhole, bytes_from}
use Rattle.paged_memory.specs.PageList.{IsPageImage, IsPageList, image_entry, HasPage}
use Rattle.paged_memory.specs.declared.page_list.PageImage.{PageImage}
use Rattle.kept_states.specs.Pages.{bytes_of, entry_of, IsPage, ArePages, HasShared}
use Rattle.kept_states.specs.Listed.{image_parts, shared_parts, AreSame}
use Rattle.kept_states.specs.declared.pages.SharedPage.{SharedPage}

-- ---- the pages of a memory

-- keys of entries in order rise
less_key : (k n : ℕ) → T (is_lt (nat_cmp k n)) → k < n
less_key k n h = grind (arith, nat_tests)

fore : (a b : Bool) → T (a && b) → T a
fore true b h = tt
fore false b h = h

aft : (a b : Bool) → T (a && b) → T b
aft true b h = h
aft false b h = absurd h

above : (k : ℕ) (es : List (ℕ × ℕ)) (j : ℕ) (e : ℕ × ℕ) → T (below_all nat_cmp k es) → slice_get es j ≡ Some e → k < e.0
above k [] j e h is = absurd (cc)
above k (f ∷ es) zero e h is =
    subst (λ (x : ℕ × ℕ). k < x.0) (same_Some f e is) (less_key k f.0 (fore _ _ h))
above k (f ∷ es) (suc j) e h is = above k es j e (aft _ _ h) is

keys_rise : (es : List (ℕ × ℕ)) (i j : ℕ) (e f : ℕ × ℕ) → T (is_sorted nat_cmp es) → i < j → slice_get es i ≡ Some e
    → slice_get es j ≡ Some f → e.0 < f.0
keys_rise [] i j e f h l a b = absurd (cc)
keys_rise (x ∷ es) i zero e f h l a b = absurd (omega (arith, l))
keys_rise (x ∷ es) zero (suc j) e f h l a b =
    subst (λ (y : ℕ × ℕ). y.0 < f.0) (same_Some x e a) (above x.0 es j f (fore _ _ h) b)
keys_rise (x ∷ es) (suc i) (suc j) e f h l a b = keys_rise es i j e f (aft _ _ h) (omega (arith, l)) a b

entry_found : (es : List (ℕ × ℕ)) (i : ℕ) (e : ℕ × ℕ) → T (is_sorted nat_cmp es) → slice_get es i ≡ Some e → find nat_cmp e.0 es ≡ Some e.1
entry_found [] i e h is = absurd (cc)
entry_found (x ∷ es) zero e h is =
    subst (λ (y : ℕ × ℕ). find nat_cmp y.0 (x ∷ es) ≡ Some y.1) (same_Some x e is)
    (ap (λ b. cond b (Some x.1) (find nat_cmp x.0 es)) (eq_by_cmp-self x.0))
entry_found (x ∷ es) (suc i) e h is =
    ap (λ b. cond b (Some x.1) (find nat_cmp e.0 es)) (eq_by_cmp-above x.0 e.0 (above x.0 es i e (fore _ _ h) is))
    ∙ entry_found es i e (aft _ _ h) is

-- the page of an entry is there
pub page_there : (m : AddressSpace) (place : ℕ) (e : ℕ × ℕ) → slice_get (entries m.perm) place ≡ Some e → get m.perm e.0 ≡ Some e.1
page_there m place e at = get-entries m.perm e.0 ∙ entry_found (entries m.perm) place e (entries_sorted m.perm) at

pub page_of_address : (m : AddressSpace) (place address flags region : ℕ) → slice_get (entries m.perm) place ≡ Some (address / 4096, flags)
    → address / 4096 ≡ region → get m.perm region ≢ None
page_of_address m place address flags region at is = λ none.
    let clash : Some flags ≡ None = sym (page_there m place (address / 4096, flags) at) ∙ ap (get m.perm) is ∙ none in absurd (cc)

-- the flags of a page are a sum of execute, write and read
pub flags_small : (m : AddressSpace) (place : ℕ) (e : ℕ × ℕ) → IsWhole m → slice_get (entries m.perm) place ≡ Some e → e.1 < 8
flags_small m place e whole at =
    whole.flags e.0 e.1 (page_there m place e at)

-- the first pages of a memory, so many
pub record AreFirst (m : AddressSpace) (place : ℕ) (list : List SharedPage) : Type 0 where
  pub each : All IsPage list
  pub entries_are : map entry_of list ≡ take place (entries m.perm)
  pub bytes : All (λ page. bytes_from m.mem page.address 4096 ≡ bytes_of page) list

pub none_first : (m : AddressSpace) (list : List SharedPage) → list ≡ [] → AreFirst m 0 list
none_first m list is = subst (AreFirst m 0) (sym is)
    (record { each = λ k d l. absurd (omega arith); entries_are = refl; bytes = λ k d l. absurd (omega arith) })

pub first_more : (m : AddressSpace) (place : ℕ) (list more : List SharedPage) (page : SharedPage) → AreFirst m place list
    → slice_get (entries m.perm) place ≡ Some (entry_of page) → IsPage page → bytes_from m.mem page.address 4096 ≡ bytes_of page
    → more ≡ list ++ page ∷ [] → AreFirst m (place + 1) more
first_more m place list more page h at good bytes grown =
    let inside = slice_get_within (entries m.perm) place (entry_of page) at in
    subst (AreFirst m (place + 1)) (sym grown) (record {
      each = All-push IsPage list page h.each good;
      entries_are =
          map_push entry_of list page
          ∙ ap (λ l. l ++ entry_of page ∷ []) h.entries_are
          ∙ ap (λ e. take place (entries m.perm) ++ e ∷ [])
          (sym (get_or_from_slice_get (entries m.perm) place (entry_of page) (entry_of page) at))
          ∙ sym (take_more (entries m.perm) place (entry_of page) inside);
      bytes = All-push (λ p. bytes_from m.mem p.address 4096 ≡ bytes_of p) list page h.bytes bytes;
    })

-- all of them
module _ (m : AddressSpace) (place : ℕ) (list : List SharedPage) (h : AreFirst m place list) (all : len m.perm ≤ place)
    (few : len m.perm ≤ 4096) where
  all_entries : map entry_of list ≡ entries m.perm
  all_entries = h.entries_are ∙ take_all place (entries m.perm) (omega (arith, all, len-entries m.perm))

  entry_at : (i : ℕ) (page : SharedPage) → slice_get list i ≡ Some page → slice_get (entries m.perm) i ≡ Some (entry_of page)
  entry_at i page is =
      ap (λ (es : List (ℕ × ℕ)). slice_get es i) (sym all_entries) ∙ slice_get-map entry_of list i
      ∙ ap (λ (o : Option SharedPage). option_map entry_of o) is

  good_at : (i : ℕ) (page : SharedPage) → slice_get list i ≡ Some page → IsPage page
  good_at i page is = subst IsPage (get_or_from_slice_get list i page page is) (h.each i page (slice_get_within list i page is))

  rises : (i j : ℕ) (p q : SharedPage) → i < j → slice_get list i ≡ Some p → slice_get list j ≡ Some q → p.address < q.address
  rises i j p q l a b =
      let keys : p.address / 4096 < q.address / 4096 =
      keys_rise (entries m.perm) i j (entry_of p) (entry_of q) (entries_sorted m.perm) l (entry_at i p a) (entry_at j q b) in
      let first = (good_at i p a).aligned in
      let second = (good_at j q b).aligned in
      omega (arith, keys, first, second)

  pub all_pages : ArePages list
  all_pages = record {
    each = h.each;
    ascending = rises;
    few = omega (arith, few, len-entries m.perm, ap length all_entries, length-map list entry_of);
  }

  pub all_shared : IsWhole m → HasShared m list
  all_shared whole = record { pages = sym all_entries; bytes = h.bytes; whole = whole }

-- ---- a list of the same pages

-- what stands at a place of the list stands there among the pages
record IsSame (pages : List SharedPage) (i : ℕ) (p : PageImage) : Type 0 where
  page : SharedPage
  there : slice_get pages i ≡ Some page
  parts : image_parts p ≡ shared_parts page

same_at : (list : List PageImage) (pages : List SharedPage) → AreSame list pages → (i : ℕ) (p : PageImage) → slice_get list i ≡ Some p
    → IsSame pages i p
same_at [] pages same i p is = absurd (cc)
same_at (x ∷ list) [] same i p is = absurd (cc)
same_at (x ∷ list) (y ∷ pages) same zero p is =
    let first : image_parts x ≡ shared_parts y = cc in
    record { page = y; there = refl; parts = ap image_parts (sym (same_Some x p is)) ∙ first }
same_at (x ∷ list) (y ∷ pages) same (suc i) p is =
    let rest : map image_parts list ≡ map shared_parts pages = cc in
    let found = same_at list pages rest i p is in
    record { page = found.page; there = found.there; parts = found.parts }

page_at : (pages : List SharedPage) (i : ℕ) (page : SharedPage) (P : SharedPage → Type 0) → All P pages → slice_get pages i ≡ Some page
    → P page
page_at pages i page P h is = subst P (get_or_from_slice_get pages i page page is) (h i page (slice_get_within pages i page is))

-- what its parts say of a page
image_good : (p : PageImage) (q : SharedPage) → image_parts p ≡ shared_parts q → IsPage q → IsPageImage p
image_good p q same good =
    let address : p.address ≡ q.address = ap (λ (t : ℕ × ℕ × List ℕ). t.0) same in
    let flags : p.flags ≡ q.flags = ap (λ (t : ℕ × ℕ × List ℕ). t.1) same in
    let bytes : p.bytes.items ≡ bytes_of q = ap (λ (t : ℕ × ℕ × List ℕ). t.2) same in
    record {
      aligned = subst (λ a. a % 4096 ≡ 0) (sym address) good.aligned;
      private = subst (λ a. a ≢ 0x7F0000000000) (sym address) good.private;
      flags = subst (λ f. f < 8) (sym flags) good.flags;
      full = ap length bytes ∙ good.full;
    }

image_address : (p : PageImage) (q : SharedPage) → image_parts p ≡ shared_parts q → p.address ≡ q.address
image_address p q same = ap (λ (t : ℕ × ℕ × List ℕ). t.0) same

module _ (list : List PageImage) (pages : List SharedPage) (same : AreSame list pages) where
  many : length list ≡ length pages
  many =
      sym (length-map list image_parts) ∙ ap length same
      ∙ length-map pages shared_parts

  pub listed : ArePages pages → IsPageList list
  listed good = record {
    each = λ k d l.
        let found = same_at list pages same k (get_or list k d) (slice_get-get_or list k d l) in
        image_good (get_or list k d) found.page found.parts (page_at pages k found.page IsPage good.each found.there);
    ascending = λ i j p q l a b.
        let first = same_at list pages same i p a in
        let second = same_at list pages same j q b in
        let less = good.ascending i j first.page second.page l first.there second.there in
        omega (arith, less, image_address p first.page first.parts, image_address q second.page second.parts);
    few = omega (arith, many, good.few);
  }

pub listed_entries : (list : List PageImage) (pages : List SharedPage) → AreSame list pages → map image_entry list ≡ map entry_of pages
listed_entries [] [] same = refl
listed_entries [] (y ∷ pages) same = absurd (cc)
listed_entries (x ∷ list) [] same = absurd (cc)
listed_entries (x ∷ list) (y ∷ pages) same =
    let first : image_parts x ≡ shared_parts y = cc in
    let rest : map image_parts list ≡ map shared_parts pages = cc in
    let entry = ap (λ (t : ℕ × ℕ × List ℕ). (t.0 / 4096, t.1)) first in
    let others = listed_entries list pages rest in
    λ i. entry i ∷ others i

-- where a memory has the pages of the list, it has those
module _ (list : List PageImage) (pages : List SharedPage) (same : AreSame list pages) (m : AddressSpace) (h : All (HasPage m) list) where
  same_page : (k : ℕ) (p : PageImage) (q : SharedPage) → k < length list → get_or list k p ≡ p → image_parts p ≡ shared_parts q
      → bytes_from m.mem q.address 4096 ≡ bytes_of q
  same_page k p q inside is parts =
      ap (λ a. bytes_from m.mem a 4096) (sym (image_address p q parts))
      ∙ subst (HasPage m) is (h k p inside)
      ∙ ap (λ (t : ℕ × ℕ × List ℕ). t.2) parts

pub same_bytes : (list : List PageImage) (pages : List SharedPage) → AreSame list pages → (m : AddressSpace) → All (HasPage m) list
    → All (λ page. bytes_from m.mem page.address 4096 ≡ bytes_of page) pages
same_bytes list [] same m h = λ k d l. absurd (omega arith)
same_bytes [] (y ∷ pages) same m h = absurd (cc)
same_bytes (x ∷ list) (y ∷ pages) same m h =
    let first : image_parts x ≡ shared_parts y = cc in
    let rest : map image_parts list ≡ map shared_parts pages = cc in
    let others = same_bytes list pages rest m (λ k d l. h (suc k) d (omega (arith, l))) in
    first_and_rest (λ page. bytes_from m.mem page.address 4096 ≡ bytes_of page) y pages
    (same_page (x ∷ list) (y ∷ pages) same m h 0 x y (omega arith) refl first) others
  where
    first_and_rest : (P : SharedPage → Type 0) (y : SharedPage) (pages : List SharedPage) → P y → All P pages → All P (y ∷ pages)
    first_and_rest P y pages p q zero d l = p
    first_and_rest P y pages p q (suc k) d l = q k d (omega (arith, l))
