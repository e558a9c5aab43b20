-- What is kept is one state.
use Rattle.std.proofs.Common.{◌≡◌, ℕ, zero, suc, ◌+◌, ◌*◌, ◌/◌, ◌%◌, ◌^◌, ◌<◌, ◌≤◌, Bool, true, false, List, [], ◌∷◌, ◌++◌}
use Rattle.std.proofs.Common.{length, get_or, drop, refl, ap, sym, ◌∙◌, subst, arith, All, Option, Some, None, inl, inr}
use Rattle.std.specs.Prelude.{map, is_some, unwrap_or, nat_lt}
use Rattle.std.specs.List.{concat, flat_map}
use Rattle.std.specs.FinMap.{FinMap, find, get, get-entries, same_entries_map, same_map, nat_cmp-IsAntisymmetric}
use Rattle.std.specs.Cmp.{nat_cmp_total}
use Rattle.std.specs.Ordering.{nat_cmp, eq_by_cmp}
use Rattle.std.proofs.lemmas.Bool.{cases_Bool}
use Rattle.std.proofs.lemmas.Bool.Decides.{nat_tests}
use Rattle.std.proofs.lemmas.List.{drop_at}
use Rattle.plain_lemmas.proofs.Lists.{append_inj_left}
use Rattle.bit_ops.specs.Sums.{bool_number}
use Rattle.sm_types.specs.declared.config.Config.{Config}
use Rattle.sm_types.specs.declared.scalars.Scalars.{Scalars}
use Rattle.paged_memory.specs.Memory.{AddressSpace, bytes_from}
use Rattle.sve_vectors.specs.Predicates.{predicate_bytes, truths_of}
use Rattle.sve_vectors.specs.Lengths.{vector_bytes}
use Rattle.sve_vectors.proofs.Bits.{truths-predicate_bytes}
use Rattle.sve_vectors.proofs.Held.{whole_current}
use Rattle.mem_access.specs.VectorState.{VectorState}
use Rattle.machine_step.specs.System.{nzcv_of}
use Rattle.signal_frames.proofs.Lengths.{length-predicate}
use Rattle.kernel_contexts.specs.State.{State}
use Rattle.kernel_contexts.specs.LooseState.{HasVectors, loose_length, is_streaming, is_array_on}
use Rattle.kernel_contexts.specs.declared.loose_state.LooseState.{LooseState}
use Rattle.kept_states.specs.Pages.{bytes_of, entry_of, IsPage, HasShared}
use Rattle.kept_states.specs.Kept.{Keeps, kept_config}
use Rattle.kept_states.specs.declared.pages.SharedPage.{SharedPage}
use Rattle.kept_states.specs.declared.kept.KeptState.{KeptState}

-- ---- flags

flag_of : ℕ → Bool
flag_of n = nat_lt 0 n

flag_back : (b : Bool) → flag_of (bool_number b) ≡ b
unfolding flag_of
flag_back true = refl
flag_back false = refl

one_flag : (a b : Bool) → bool_number a ≡ bool_number b → a ≡ b
one_flag a b e = sym (flag_back a) ∙ ap flag_of e ∙ flag_back b

flag_small : (b : Bool) → bool_number b ≤ 1
flag_small true = omega arith
flag_small false = omega arith

-- four bits that make one number
same_bits : (a b c d w x y z : ℕ) → a ≤ 1 → b ≤ 1 → c ≤ 1 → d ≤ 1 → w ≤ 1 → x ≤ 1 → y ≤ 1 → z ≤ 1
    → a * 2 ^ 31 + b * 2 ^ 30 + c * 2 ^ 29 + d * 2 ^ 28 ≡ w * 2 ^ 31 + x * 2 ^ 30 + y * 2 ^ 29 + z * 2 ^ 28
    → (a ≡ w) × (b ≡ x) × (c ≡ y) × (d ≡ z)
same_bits a b c d w x y z la lb lc ld lw lx ly lz e = (omega arith, omega arith, omega arith, omega arith)

same_scalars : (s t : Scalars) → s.x ≡ t.x → s.sp ≡ t.sp → s.pc ≡ t.pc → nzcv_of s ≡ nzcv_of t → s ≡ t
unfolding nzcv_of
same_scalars s t x sp pc e =
    let flags =
    same_bits (bool_number s.n) (bool_number s.z) (bool_number s.c) (bool_number s.v) (bool_number t.n) (bool_number t.z) (bool_number t.c)
    (bool_number t.v) (flag_small s.n) (flag_small s.z) (flag_small s.c) (flag_small s.v) (flag_small t.n) (flag_small t.z) (flag_small t.c)
    (flag_small t.v) e in
    let n = one_flag s.n t.n flags.0 in
    let z = one_flag s.z t.z flags.1 in
    let c = one_flag s.c t.c flags.2 in
    let v = one_flag s.v t.v flags.3 in
    λ i. record { x = x i; sp = sp i; pc = pc i; n = n i; z = z i; c = c i; v = v i }

-- ---- registers, one after the other

same_after : (x y a b : List ℕ) → length x ≡ length y → x ++ a ≡ y ++ b → a ≡ b
same_after x y a b long e = sym (drop_at x a (length x) refl) ∙ ap (drop (length x)) e ∙ drop_at y b (length x) (sym long)

-- each has as many
abbrev AreLong : {X : Type 0} → ℕ → List (List X) → Type 0
AreLong l rows = (k : ℕ) → k < length rows → length (get_or rows k []) ≡ l

same_rows : (l : ℕ) (xs ys : List (List ℕ)) → length xs ≡ length ys → AreLong l xs → AreLong l ys → concat xs ≡ concat ys → xs ≡ ys
same_rows l [] [] n f g e = refl
same_rows l [] (y ∷ ys) n f g e = absurd (omega (arith, n))
same_rows l (x ∷ xs) [] n f g e = absurd (omega (arith, n))
same_rows l (x ∷ xs) (y ∷ ys) n f g e =
    let long : length x ≡ length y = f 0 (omega arith) ∙ sym (g 0 (omega arith)) in
    let first = append_inj_left x y (concat xs) (concat ys) long e in
    let rest = same_rows l xs ys (omega (arith, n)) (λ k h. f (suc k) (omega (arith, h))) (λ k h. g (suc k) (omega (arith, h)))
    (same_after x y (concat xs) (concat ys) long e) in
    λ i. first i ∷ rest i

one_predicate : (p q : List Bool) → length p % 8 ≡ 0 → length q % 8 ≡ 0 → predicate_bytes p ≡ predicate_bytes q → p ≡ q
one_predicate p q f g e = sym (truths-predicate_bytes p f) ∙ ap truths_of e ∙ truths-predicate_bytes q g

same_predicates : (l : ℕ) (ps qs : List (List Bool)) → l % 8 ≡ 0 → length ps ≡ length qs → AreLong l ps → AreLong l qs
    → flat_map predicate_bytes ps ≡ flat_map predicate_bytes qs → ps ≡ qs
same_predicates l [] [] whole n f g e = refl
same_predicates l [] (q ∷ qs) whole n f g e = absurd (omega (arith, n))
same_predicates l (p ∷ ps) [] whole n f g e = absurd (omega (arith, n))
same_predicates l (p ∷ ps) (q ∷ qs) whole n f g e =
    let p_long : length p ≡ l = f 0 (omega arith) in
    let q_long : length q ≡ l = g 0 (omega arith) in
    let long : length (predicate_bytes p) ≡ length (predicate_bytes q) =
    length-predicate p ∙ ap (λ k. k / 8) (p_long ∙ sym q_long) ∙ sym (length-predicate q) in
    let bytes =
    append_inj_left (predicate_bytes p) (predicate_bytes q) (flat_map predicate_bytes ps) (flat_map predicate_bytes qs) long e in
    let first = one_predicate p q (omega (arith, p_long, whole)) (omega (arith, q_long, whole)) bytes in
    let rest = same_predicates l ps qs whole (omega (arith, n)) (λ k h. f (suc k) (omega (arith, h))) (λ k h. g (suc k) (omega (arith, h)))
    (same_after (predicate_bytes p) (predicate_bytes q) (flat_map predicate_bytes ps) (flat_map predicate_bytes qs) long e) in
    λ i. first i ∷ rest i

on_or_off : (config : Config) (t : LooseState) (v w : VectorState) → HasVectors config t v → HasVectors config t w → v.za ≡ w.za
on_or_off config t v w h k = elim (cases_Bool (is_array_on t)) [
  | inl on ↦
      same_rows (vector_bytes config.svl) v.za w.za (h.square.count ∙ sym k.square.count)
      (λ n l. h.square.long n (subst (λ m. n < m) h.square.count l)) (λ n l. k.square.long n (subst (λ m. n < m) k.square.count l))
      (h.array on ∙ sym (k.array on))
  | inr off ↦ h.off off ∙ sym (k.off off)
]

same_vectors : (config : Config) (t : LooseState) (v w : VectorState) → HasVectors config t v → HasVectors config t w → v ≡ w
same_vectors config t v w h k =
    let l : ℕ = loose_length config t in
    let f = h.lengths in
    let g = k.lengths in
    let whole : l % 16 ≡ 0 = (whole_current config.vl config.svl (is_streaming t)).0 in
    let eight : l % 8 ≡ 0 = omega (arith, whole) in
    let vectors =
    same_rows l v.registers.vectors w.registers.vectors (f.vector_count ∙ sym g.vector_count)
    (λ n b. f.vector_length n (subst (λ m. n < m) f.vector_count b)) (λ n b. g.vector_length n (subst (λ m. n < m) g.vector_count b))
    (h.vectors ∙ sym k.vectors) in
    let predicates =
    same_predicates l v.registers.predicates w.registers.predicates eight (f.predicate_count ∙ sym g.predicate_count)
    (λ n b. f.predicate_length n (subst (λ m. n < m) f.predicate_count b))
    (λ n b. g.predicate_length n (subst (λ m. n < m) g.predicate_count b)) (h.predicates ∙ sym k.predicates) in
    let ffr =
    one_predicate v.registers.ffr w.registers.ffr (ap (λ n. n % 8) f.ffr_length ∙ eight) (ap (λ n. n % 8) g.ffr_length ∙ eight)
    (h.first_fault ∙ sym k.first_fault) in
    let za = on_or_off config t v w h k in
    λ i. record { registers = record { vectors = vectors i; predicates = predicates i; ffr = ffr i }; za = za i }

-- ---- memory

-- the page of a number that is found stands somewhere
record IsPageAt (n : ℕ) (list : List SharedPage) (place : ℕ) (page : SharedPage) : Type 0 where
  inside : place < length list
  is : get_or list place page ≡ page
  number : page.address / 4096 ≡ n

page_found : (n flags : ℕ) (list : List SharedPage) → find nat_cmp n (map entry_of list) ≡ Some flags
    → (place : ℕ) × (page : SharedPage) × IsPageAt n list place page
page_found n flags [] is = absurd (cc)
page_found n flags (page ∷ list) is = elim (cases_Bool (eq_by_cmp nat_cmp n (page.address / 4096))) [
  | inl same ↦
      let number : page.address / 4096 ≡ n = grind (arith, nat_tests) in
      (0, page, record { inside = omega arith; is = refl; number = number })
  | inr other ↦
      let rest : find nat_cmp n (map entry_of list) ≡ Some flags = rw other at is in
      let found = page_found n flags list rest in
      let at = found.2 in
      (suc found.0, found.1, record { inside = omega (arith, at.inside); is = at.is; number = at.number })
]

byte_from : (m : FinMap nat_cmp ℕ) (a n k : ℕ) → k < n → get_or (bytes_from m a n) k 0 ≡ unwrap_or (get m (a + k)) 0
unfolding bytes_from
byte_from m a zero k l = absurd (omega arith)
byte_from m a (suc n) zero l = let here : a + 0 ≡ a = omega arith in rw here refl
byte_from m a (suc n) (suc k) l =
    byte_from m (a + 1) n k (omega arith) ∙ ap (λ b. unwrap_or (get m b) 0) (let there : a + 1 + k ≡ a + suc k = omega arith in there)

same_byte : (o p : Option ℕ) → is_some o ≡ is_some p → (is_some o ≡ true → unwrap_or o 0 ≡ unwrap_or p 0) → o ≡ p
same_byte None None s e = refl
same_byte None (Some b) s e = absurd (cc)
same_byte (Some a) None s e = absurd (cc)
same_byte (Some a) (Some b) s e = ap (λ n. Some n) (e refl)

there : (o : Option ℕ) → is_some o ≡ true → (v : ℕ) × (o ≡ Some v)
there None e = absurd (cc)
there (Some v) e = (v, refl)

-- two memories that have the same pages
module _ (m n : AddressSpace) (list : List SharedPage) (good : All IsPage list) (f : HasShared m list) (g : HasShared n list) where
  same_perm : m.perm ≡ n.perm
  same_perm = same_entries_map m.perm n.perm (f.pages ∙ sym g.pages)

  -- a byte of a page that is there
  in_page : (a place : ℕ) (page : SharedPage) → IsPageAt (a / 4096) list place page → unwrap_or (get m.mem a) 0 ≡ unwrap_or (get n.mem a) 0
  in_page a place page at =
      let aligned : page.address % 4096 ≡ 0 =
      subst (λ (p : SharedPage). p.address % 4096 ≡ 0) at.is (good place page at.inside).aligned in
      let number = at.number in
      let here : page.address + a % 4096 ≡ a = omega (arith, aligned, number) in
      let small : a % 4096 < 4096 = omega arith in
      let first : bytes_from m.mem page.address 4096 ≡ bytes_of page =
      subst (λ (p : SharedPage). bytes_from m.mem p.address 4096 ≡ bytes_of p) at.is (f.bytes place page at.inside) in
      let second : bytes_from n.mem page.address 4096 ≡ bytes_of page =
      subst (λ (p : SharedPage). bytes_from n.mem p.address 4096 ≡ bytes_of p) at.is (g.bytes place page at.inside) in
      ap (λ b. unwrap_or (get m.mem b) 0) (sym here)
      ∙ sym (byte_from m.mem page.address 4096 (a % 4096) small)
      ∙ ap (λ l. get_or l (a % 4096) 0) (first ∙ sym second)
      ∙ byte_from n.mem page.address 4096 (a % 4096) small
      ∙ ap (λ b. unwrap_or (get n.mem b) 0) here

  in_memory : (a flags : ℕ) → get m.perm (a / 4096) ≡ Some flags → unwrap_or (get m.mem a) 0 ≡ unwrap_or (get n.mem a) 0
  in_memory a flags is =
      let found = page_found (a / 4096) flags list
      (ap (λ (es : List (ℕ × ℕ)). find nat_cmp (a / 4096) es) (sym f.pages) ∙ sym (get-entries m.perm (a / 4096)) ∙ is) in
      in_page a found.0 found.1 found.2

  same_mem : m.mem ≡ n.mem
  same_mem = same_map nat_cmp_total nat_cmp-IsAntisymmetric m.mem n.mem (λ a.
      same_byte (get m.mem a) (get n.mem a)
      (f.whole.bytes a ∙ ap (λ (o : FinMap nat_cmp ℕ). is_some (get o (a / 4096))) same_perm ∙ sym (g.whole.bytes a))
      (λ some. let page = there (get m.perm (a / 4096)) (sym (f.whole.bytes a) ∙ some) in in_memory a page.0 page.1))

  same_memory : m ≡ n
  same_memory = λ i. record { mem = same_mem i; perm = same_perm i }

-- ---- all of a state

pub one : (k : KeptState) (s t : State) → Keeps k s → Keeps k t → s ≡ t
one k s t f g =
    let scalars =
    same_scalars s.core.scalars t.core.scalars (f.scalars.x ∙ sym g.scalars.x) (f.scalars.sp ∙ sym g.scalars.sp)
    (f.scalars.pc ∙ sym g.scalars.pc) (f.scalars.nzcv ∙ sym g.scalars.nzcv) in
    let tpidr = f.scalars.tpidr ∙ sym g.scalars.tpidr in
    let tpidr2 = f.scalars.tpidr2 ∙ sym g.scalars.tpidr2 in
    let streaming = f.scalars.streaming ∙ sym g.scalars.streaming in
    let za_on = f.scalars.za_on ∙ sym g.scalars.za_on in
    let memory = same_memory s.core.memory t.core.memory k.pages.items k.pages_are.each f.memory g.memory in
    let bank = same_vectors (kept_config k) k.fields s.core.bank t.core.bank f.vectors g.vectors in
    let handlers = same_entries_map s.handlers t.handlers (f.kernel.handlers ∙ sym g.kernel.handlers) in
    let held = f.kernel.held ∙ sym g.kernel.held in
    let mask = f.kernel.mask ∙ sym g.kernel.mask in
    let depth = f.kernel.depth ∙ sym g.kernel.depth in
    let polled = f.kernel.polled ∙ sym g.kernel.polled in
    let output = f.kernel.output ∙ sym g.kernel.output in
    let count = f.kernel.count ∙ sym g.kernel.count in
    let turns = f.kernel.turns ∙ sym g.kernel.turns in
    λ i. record {
      core = record {
        scalars = scalars i;
        tpidr = tpidr i;
        tpidr2 = tpidr2 i;
        streaming = streaming i;
        za_on = za_on i;
        memory = memory i;
        bank = bank i;
      };
      handlers = handlers i;
      held = held i;
      mask = mask i;
      depth = depth i;
      polled = polled i;
      output = output i;
      count = count i;
      turns = turns i;
    }
