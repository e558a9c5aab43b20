-- The memory of two pages that are listed.
use Rattle.std.proofs.Common.{◌⊎◌, inl, inr, ◌≡◌, ◌≢◌, ℕ, zero, suc, ◌+◌, ◌-◌, ◌/◌, ◌<◌, ◌≤◌, true, false, cond, List, []}
use Rattle.std.proofs.Common.{◌∷◌, ◌++◌, length, get_or, replicate, refl, ap, sym, ◌∙◌, arith, Option, Some, None, slice_get, Bool, All, Result, Ok, Err}
use Rattle.std.specs.Prelude.{map, is_some, unwrap_or, ◌==◌, IfOk}
use Rattle.std.proofs.lemmas.Bool.Decides.{nat_tests}
use Rattle.std.proofs.lemmas.List.{length-append, length-map, length-replicate}
use Rattle.std.proofs.lemmas.Bool.{cases_lt}
use Rattle.std.specs.FinMap.{FinMap, get, insert, empty, entries, get-entries, get-insert, get-empty, same_map, nat_cmp-IsAntisymmetric}
use Rattle.std.specs.FinMap.Entries.{find}
use Rattle.std.specs.Cmp.{nat_cmp_total}
use Rattle.std.specs.Ordering.{nat_cmp, eq_by_cmp}
use Rattle.std.specs.Int.{w32, to_le_bytes}
use Rattle.plain_lemmas.proofs.Tests.{eq_by_cmp-nat}
use Rattle.plain_lemmas.proofs.Options.{is_some-false}
use Rattle.paged_memory.specs.declared.page_list.PageImage.{PageImage}
use Rattle.paged_memory.specs.Memory.{AddressSpace, IsWhole, bytes_from, set_bytes, with_page, zero_page}
use Rattle.sm_types.specs.declared.Memory.{Memory}
use Rattle.paged_memory.specs.PageTable.{PageTable}
use Rattle.paged_memory.specs.PageList.{IsPageImage, IsPageList, HasPage, image_entry}
use Rattle.paged_memory.proofs.Over.{over, over-inside, over-below, over-above, get-set_bytes}
use Rattle.vector_runner.specs.State.{page_seen, both_pages, code_page, memory_with}

-- ---- the list

pub long_zero : length zero_page ≡ 4096
unfolding zero_page
long_zero = length-replicate {A = ℕ} 4096 0

pub long_code : (word : ℕ) → length (code_page word) ≡ 4096
unfolding code_page
long_code word =
    length-append (to_le_bytes w32 word) (replicate 4092 0) ∙ ap (λ n. 4 + n) (length-replicate {A = ℕ} 4092 0)

module _ (word : ℕ) (x y : PageImage) (is_x : page_seen x ≡ (65536, 6, zero_page)) (is_y : page_seen y ≡ (131072, 5, code_page word)) where
  address_x : x.address ≡ 65536
  address_x = ap (λ t. t.0) is_x

  address_y : y.address ≡ 131072
  address_y = ap (λ t. t.0) is_y

  flags_x : x.flags ≡ 6
  flags_x = ap (λ t. t.1) is_x

  flags_y : y.flags ≡ 5
  flags_y = ap (λ t. t.1) is_y

  bytes_x : x.bytes.items ≡ zero_page
  bytes_x = ap (λ t. t.2) is_x

  bytes_y : y.bytes.items ≡ code_page word
  bytes_y = ap (λ t. t.2) is_y

  image_x : IsPageImage x
  image_x = record {
    aligned = omega (arith, address_x);
    private = λ e. absurd (omega (arith, e, address_x));
    flags = omega (arith, flags_x);
    full = ap length bytes_x ∙ long_zero;
  }

  image_y : IsPageImage y
  image_y = record {
    aligned = omega (arith, address_y);
    private = λ e. absurd (omega (arith, e, address_y));
    flags = omega (arith, flags_y);
    full = ap length bytes_y ∙ long_code word;
  }

  each_image : All IsPageImage (x ∷ y ∷ [])
  each_image zero d l = image_x
  each_image (suc zero) d l = image_y
  each_image (suc (suc k)) d l = absurd (omega arith)

  ascends : (i j : ℕ) (p q : PageImage) → i < j → slice_get (x ∷ y ∷ []) i ≡ Some p → slice_get (x ∷ y ∷ []) j ≡ Some q
      → p.address < q.address
  ascends zero zero p q l is_p is_q = absurd (omega arith)
  ascends zero (suc zero) p q l is_p is_q =
      let first : x.address ≡ p.address = ap (λ o. (unwrap_or o x).address) is_p in
      let second : y.address ≡ q.address = ap (λ o. (unwrap_or o y).address) is_q in
      omega (arith, first, second, address_x, address_y)
  ascends zero (suc (suc j)) p q l is_p is_q = cc
  ascends (suc zero) zero p q l is_p is_q = absurd (omega arith)
  ascends (suc zero) (suc zero) p q l is_p is_q = absurd (omega arith)
  ascends (suc zero) (suc (suc j)) p q l is_p is_q = cc
  ascends (suc (suc i)) j p q l is_p is_q = cc

  pub is_list : IsPageList (x ∷ y ∷ [])
  is_list = record {
    each = each_image;
    ascending = ascends;
    few = omega arith;
  }

  -- what the memory of such pages is known by
  pub entries_are : (m : AddressSpace) → entries m.perm ≡ map image_entry (x ∷ y ∷ []) → entries m.perm ≡ (16, 6) ∷ (32, 5) ∷ []
  entries_are m e =
      let pair : ℕ → ℕ → ℕ → ℕ → List (ℕ × ℕ) = λ a b c d. (a, b) ∷ (c, d) ∷ [] in
      e ∙ ap (λ n. pair (n / 4096) x.flags (y.address / 4096) y.flags) address_x
      ∙ ap (λ n. pair 16 n (y.address / 4096) y.flags) flags_x
      ∙ ap (λ n. pair 16 6 (n / 4096) y.flags) address_y
      ∙ ap (λ n. pair 16 6 32 n) flags_y

  pub data_is : (m : AddressSpace) → All (HasPage m) (x ∷ y ∷ []) → bytes_from m.mem 65536 4096 ≡ zero_page
  data_is m has = ap (λ n. bytes_from m.mem n 4096) (sym address_x) ∙ has 0 x (omega arith) ∙ bytes_x

  pub code_is : (m : AddressSpace) → All (HasPage m) (x ∷ y ∷ []) → bytes_from m.mem 131072 4096 ≡ code_page word
  code_is m has = ap (λ n. bytes_from m.mem n 4096) (sym address_y) ∙ has 1 x (omega arith) ∙ bytes_y

-- ---- the memory

perms : FinMap nat_cmp ℕ
perms = insert (insert empty 32 5) 16 6

perms_at : (q : ℕ) → get perms q ≡ cond (16 == q) (Some 6) (cond (32 == q) (Some 5) None)
unfolding perms
perms_at q =
    let end : Option ℕ → Option ℕ = λ o. cond (16 == q) (Some 6) (cond (32 == q) (Some 5) o) in
    rw (get-insert nat_cmp_total, eq_by_cmp-nat, get-insert nat_cmp_total, eq_by_cmp-nat) (ap end (get-empty nat_cmp q))

found_at : (q : ℕ) → find {X = ℕ} nat_cmp q ((16, 6) ∷ (32, 5) ∷ []) ≡ cond (16 == q) (Some 6) (cond (32 == q) (Some 5) None)
found_at q =
    let both : Bool → Bool → Option ℕ = λ a b. cond a (Some 6) (cond b (Some 5) None) in
    ap (λ b. both b (eq_by_cmp nat_cmp q 32)) (eq_by_cmp-nat q 16) ∙ ap (λ b. both (16 == q) b) (eq_by_cmp-nat q 32)

perms_are : (m : FinMap nat_cmp ℕ) → entries m ≡ (16, 6) ∷ (32, 5) ∷ [] → m ≡ perms
perms_are m e = same_map nat_cmp_total nat_cmp-IsAntisymmetric _ _ (λ q.
    get-entries m q ∙ ap (λ es. find nat_cmp q es) e ∙ found_at q ∙ sym (perms_at q))

-- no other page
other_page : (n : ℕ) → n ≢ 16 → n ≢ 32 → get perms n ≡ None
other_page n a b =
    let first : (16 == n) ≡ false = grind (arith, nat_tests) in
    let second : (32 == n) ≡ false = grind (arith, nat_tests) in
    perms_at n ∙ rw (first, second) refl

some_of : (o : Option ℕ) → is_some o ≡ true → o ≡ Some (unwrap_or o 0)
some_of None e = cc
some_of (Some b) e = refl

byte_from : (m : FinMap nat_cmp ℕ) (a n k : ℕ) → k < n → slice_get (bytes_from m a n) k ≡ Some (unwrap_or (get m (a + k)) 0)
unfolding bytes_from
byte_from m a zero k l = absurd (omega arith)
byte_from m a (suc n) zero l = let e : a + 0 ≡ a = omega arith in rw e refl
byte_from m a (suc n) (suc k) l = let e : a + suc k ≡ a + 1 + k = omega arith in rw e (byte_from m (a + 1) n k (omega arith))

-- a byte of a page
in_page : (m : FinMap nat_cmp ℕ) (start : ℕ) (bs : List ℕ) (a : ℕ) → bytes_from m start 4096 ≡ bs → start ≤ a → a < start + 4096
    → is_some (get m a) ≡ true → get m a ≡ slice_get bs (a - start)
in_page m start bs a is l h some =
    let place : start + (a - start) ≡ a = omega arith in
    let read : slice_get (bytes_from m start 4096) (a - start) ≡ Some (unwrap_or (get m (start + (a - start))) 0) =
    byte_from m start 4096 (a - start) (omega arith) in
    some_of (get m a) some ∙ ap (λ k. let o : Option ℕ = Some (unwrap_or (get m k) 0) in o) (sym place) ∙ sym read
    ∙ ap (λ l. slice_get l (a - start)) is

data Place (a : ℕ) : Type 0 where
  InData : 65536 ≤ a → a < 69632 → Place a
  InCode : 131072 ≤ a → a < 135168 → Place a
  Elsewhere : a / 4096 ≢ 16 → a / 4096 ≢ 32 → (a < 65536) ⊎ (69632 ≤ a) → (a < 131072) ⊎ (135168 ≤ a) → Place a

place_of : (a : ℕ) → Place a
place_of a =
    elim (cases_lt a 65536) [
      | inl l ↦ Elsewhere (λ e. absurd (omega arith)) (λ e. absurd (omega arith)) (inl l) (inl (omega arith))
      | inr h ↦ elim (cases_lt a 69632) [
        | inl l ↦ InData h l
        | inr g ↦ elim (cases_lt a 131072) [
          | inl l ↦ Elsewhere (λ e. absurd (omega arith)) (λ e. absurd (omega arith)) (inr g) (inl l)
          | inr j ↦ elim (cases_lt a 135168) [
            | inl l ↦ InCode j l
            | inr k ↦ Elsewhere (λ e. absurd (omega arith)) (λ e. absurd (omega arith)) (inr g) (inr k)
          ]
        ]
      ]
    ]

outside : (start : ℕ) (bs : List ℕ) (a : ℕ) (old : Option ℕ) → length bs ≡ 4096 → (a < start) ⊎ (start + 4096 ≤ a)
    → over start bs a old ≡ old
outside start bs a old long (inl l) = over-below start bs a old l
outside start bs a old long (inr h) = over-above start bs a old (omega (arith, long))

-- two pages of bytes
bytes_at : (code zeros : List ℕ) (a : ℕ) → length code ≡ 4096 → length zeros ≡ 4096
    → get (set_bytes (set_bytes empty 131072 code) 65536 zeros) a ≡ over 65536 zeros a (over 131072 code a None)
bytes_at code zeros a long_c long_d =
    get-set_bytes (set_bytes empty 131072 code) 65536 zeros a (omega (arith, long_d))
    ∙ ap (over 65536 zeros a) (get-set_bytes empty 131072 code a (omega (arith, long_c)) ∙ ap (over 131072 code a) (get-empty nat_cmp a))

module _ (m : AddressSpace) (code zeros : List ℕ) (whole : IsWhole m) (perm : m.perm ≡ perms)
    (is_data : bytes_from m.mem 65536 4096 ≡ zeros) (is_code : bytes_from m.mem 131072 4096 ≡ code)
    (long_c : length code ≡ 4096) (long_d : length zeros ≡ 4096) where
  there : (a n : ℕ) → a / 4096 ≡ n → is_some (get m.mem a) ≡ is_some (get perms n)
  there a n e = whole.bytes a ∙ ap (λ p. is_some (get p (a / 4096))) perm ∙ ap (λ k. is_some (get perms k)) e

  byte_is : (a : ℕ) → Place a → get m.mem a ≡ over 65536 zeros a (over 131072 code a None)
  byte_is a (InData l h) =
      in_page m.mem 65536 zeros a is_data l (omega arith) (there a 16 (omega arith) ∙ ap is_some (perms_at 16))
      ∙ sym (over-inside 65536 zeros a _ l (omega (arith, long_d)))
  byte_is a (InCode l h) =
      in_page m.mem 131072 code a is_code l (omega arith) (there a 32 (omega arith) ∙ ap is_some (perms_at 32))
      ∙ sym (over-above 65536 zeros a _ (omega (arith, long_d)) ∙ over-inside 131072 code a _ l (omega (arith, long_c)))
  byte_is a (Elsewhere p q r s) =
      is_some-false (get m.mem a) (there a (a / 4096) refl ∙ ap is_some (other_page (a / 4096) p q))
      ∙ sym (outside 65536 zeros a _ long_d r ∙ outside 131072 code a None long_c s)

  bytes_are : m.mem ≡ set_bytes (set_bytes empty 131072 code) 65536 zeros
  bytes_are = same_map nat_cmp_total nat_cmp-IsAntisymmetric _ _ (λ a. byte_is a (place_of a) ∙ sym (bytes_at code zeros a long_c long_d))

  space_is : m ≡ record { mem = set_bytes (set_bytes empty 131072 code) 65536 zeros; perm = perms }
  space_is =
      ap (λ b. let s : AddressSpace = record { mem = b; perm = m.perm } in s) bytes_are
      ∙ ap (λ p. let s : AddressSpace = record { mem = set_bytes (set_bytes empty 131072 code) 65536 zeros; perm = p } in s) perm

-- the memory of the pages that are listed
pub memory_is : (word : ℕ) (x y : PageImage) (m : AddressSpace) → page_seen x ≡ (65536, 6, zero_page)
    → page_seen y ≡ (131072, 5, code_page word) → IsWhole m → entries m.perm ≡ map image_entry (x ∷ y ∷ [])
    → All (HasPage m) (x ∷ y ∷ []) → m ≡ memory_with word
unfolding memory_with with_page perms
memory_is word x y m is_x is_y whole e has =
    space_is m (code_page word) zero_page whole (perms_are m.perm (entries_are word x y is_x is_y m e))
    (data_is word x y is_x is_y m has) (code_is word x y is_x is_y m has) (long_code word) long_zero

-- ---- the same, of any list that is seen so

no_pair : (word : ℕ) (list : List PageImage) → map page_seen list ≡ both_pages word → (length list ≡ 2 → ⊥) → ⊥
no_pair word list e apart = apart (sym (length-map list page_seen) ∙ ap length e)

pub seen_list : (word : ℕ) (list : List PageImage) → map page_seen list ≡ both_pages word → IsPageList list
seen_list word [] e = absurd (no_pair word [] e (λ z. absurd (omega arith)))
seen_list word (x ∷ []) e = absurd (no_pair word (x ∷ []) e (λ z. absurd (omega arith)))
seen_list word (x ∷ y ∷ []) e =
    is_list word x y (ap (λ l. get_or l 0 (page_seen x)) e) (ap (λ l. get_or l 1 (page_seen y)) e)
seen_list word (x ∷ y ∷ z ∷ rest) e = absurd (no_pair word (x ∷ y ∷ z ∷ rest) e (λ n. absurd (omega arith)))

pub seen_memory : (word : ℕ) (list : List PageImage) (m : AddressSpace) → map page_seen list ≡ both_pages word → IsWhole m
    → entries m.perm ≡ map image_entry list → All (HasPage m) list → m ≡ memory_with word
seen_memory word [] m e whole es has = absurd (no_pair word [] e (λ z. absurd (omega arith)))
seen_memory word (x ∷ []) m e whole es has = absurd (no_pair word (x ∷ []) e (λ z. absurd (omega arith)))
seen_memory word (x ∷ y ∷ []) m e whole es has =
    memory_is word x y m (ap (λ l. get_or l 0 (page_seen x)) e) (ap (λ l. get_or l 1 (page_seen y)) e) whole es has
seen_memory word (x ∷ y ∷ z ∷ rest) m e whole es has =
    absurd (no_pair word (x ∷ y ∷ z ∷ rest) e (λ n. absurd (omega arith)))

pub listed_memory : (word : ℕ) (list : List PageImage) (r : Result PageTable Memory) → map page_seen list ≡ both_pages word
    → IfOk r (λ p. entries p.memory.perm ≡ map image_entry list) → IfOk r (λ p. All (HasPage p.memory) list)
    → IfOk r (λ p. IsWhole p.memory) → IfOk r (λ p. p.memory ≡ memory_with word)
listed_memory word list (Ok p) e es has whole = seen_memory word list p.memory e whole es has
listed_memory word list (Err it) e es has whole = tt

-- a list of two pages
pub two_pushed : (before one two : List PageImage) (p q : PageImage) (word : ℕ) → before ≡ [] → one ≡ before ++ p ∷ [] → two ≡ one ++ q ∷ []
    → page_seen p ≡ (65536, 6, zero_page) → page_seen q ≡ (131072, 5, code_page word) → map page_seen two ≡ both_pages word
two_pushed before one two p q word none first second is_p is_q =
    let all : two ≡ p ∷ q ∷ [] =
    second ∙ ap (λ l. l ++ q ∷ []) first ∙ ap (λ l. (l ++ p ∷ []) ++ q ∷ []) none in
    ap (map page_seen) all ∙ ap (λ t. t ∷ page_seen q ∷ []) is_p ∙ ap (λ t. (65536, 6, zero_page) ∷ t ∷ []) is_q
