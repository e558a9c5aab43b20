-- A test that the way through the tree ends at each row that matches.
use Rattle.std.proofs.Common.{◌≡◌, ℕ, zero, suc, ◌+◌, List, [], ◌∷◌, Option, Some, None, slice_get, bit_and, Bool, true, false}
use Rattle.std.proofs.Common.{◌==◌, ◌&&◌, cond, ◌/◌, ◌%◌, ◌^◌, ◌<◌, sym, ap, ap₂, ◌∙◌, arith, eqb-true, eq-eqb, subst, add-zero}
use Rattle.std.proofs.Common.{zero-add}
use Rattle.std.specs.List.{list_all}
use Rattle.std.proofs.lemmas.Nat.{and_assoc, and_comm, and_le_r, and_shr}
use Rattle.std.proofs.lemmas.Bool.{and_parts, cond_both}
use Rattle.insn_forms.specs.declared.line.Line.{Line}
use Rattle.insn_forms.specs.declared.tree.Fork.{Fork}
use Rattle.insn_forms.specs.declared.tree.Node.{Node}
use Rattle.insn_forms.specs.declared.tree.Node.TheVariants as node
use Rattle.insn_forms.specs.Tree.{step, walk, walk_from, way_on}

-- the fixed bits of a line: which they are, and their values
pub record Bits : Type 0 where
  pub mask : ℕ
  pub value : ℕ

-- with the line's number
abbrev pub Placed : Type 0
Placed = ℕ × Bits

-- the word has these fixed bits
abbrev Matches : Bits → ℕ → Type 0
Matches r word = bit_and word r.mask ≡ r.value

-- the fixed bits of the lines with their numbers, from n on
unfoldable pub numbered : {O : Type 0} → ℕ → List (Line O) → List Placed
numbered n [] = []
numbered n (r ∷ rs) = (n, record { mask = r.mask; value = r.value }) ∷ numbered (suc n) rs

-- those that pass a test
unfoldable pub kept : (Placed → Bool) → List Placed → List Placed
kept p [] = []
kept p (x ∷ xs) = cond (p x) (x ∷ kept p xs) (kept p xs)

-- the row may match a word that has the number k in the bits of the mask from `low` on
unfoldable pub may_have : ℕ → ℕ → ℕ → Placed → Bool
may_have low mask k p = bit_and (p.1.value / 2 ^ low) mask == bit_and k (p.1.mask / 2 ^ low)

-- the same on so many ways of a fork, from that of the number k on, where `on` tells it of the nodes that the
-- fork leads to
unfoldable pub covers_ways : (ℕ → List Placed → Bool) → Fork → List Placed → ℕ → ℕ → Bool
covers_ways on fork left k zero = true
covers_ways on fork left k (suc count) =
    on (fork.first + k) (kept (may_have (fork.low % 32) fork.mask k) left) && covers_ways on fork left (suc k) count

-- the same on all of its ways
unfoldable pub covers_fork : (ℕ → List Placed → Bool) → Fork → List Placed → Bool
covers_fork on fork left = covers_ways on fork left 0 (suc fork.mask)

-- the same at what stands at a place
unfoldable pub covers_at : (ℕ → List Placed → Bool) → Option Node → List Placed → Bool
covers_at on None left = false
covers_at on (Some (node.Leaf place)) left = list_all (λ p. p.0 == place) left
covers_at on (Some (node.Fork fork)) left = covers_fork on fork left

-- the way from the node ends at each of the rows that matches
unfoldable pub covers : ℕ → List Node → ℕ → List Placed → Bool
covers zero nodes at left = false
covers (suc steps) nodes at left = covers_at (λ next rest. covers steps nodes next rest) (slice_get nodes at) left

-- the same from a root
unfoldable pub covers_from : ℕ → List Node → Fork → List Placed → Bool
covers_from steps nodes root left = covers_fork (λ next rest. covers steps nodes next rest) root left

-- the list holds the row
pub data Holds (x : Placed) : List Placed → Type 0 where
  here : {xs : List Placed} → Holds x (x ∷ xs)
  later : {y : Placed} {xs : List Placed} → Holds x xs → Holds x (y ∷ xs)

Holds-kept : (p : Placed → Bool) (x : Placed) (xs : List Placed) → p x ≡ true → Holds x xs → Holds x (kept p xs)
unfolding kept
Holds-kept p x [] e h = elim h [ ]
Holds-kept p x (y ∷ xs) e (here) = subst (λ (zs : List Placed). Holds x zs) (sym (ap (λ b. cond b (x ∷ kept p xs) (kept p xs)) e)) here
Holds-kept p x (y ∷ xs) e (later h) =
    cond_both (p y) (y ∷ kept p xs) (kept p xs) (λ zs. Holds x zs) (λ _. later (Holds-kept p x xs e h)) (λ _. Holds-kept p x xs e h)

-- what the row fixes among the bits is what the word has there
may-have : (low mask word : ℕ) (p : Placed) → Matches p.1 word → may_have low mask (bit_and (word / 2 ^ low) mask) p ≡ true
unfolding may_have
may-have low mask word p m =
    let w = word / 2 ^ low in
    let fixed = p.1.mask / 2 ^ low in
    let there : p.1.value / 2 ^ low ≡ bit_and w fixed = ap (λ n. n / 2 ^ low) (sym m) ∙ and_shr word p.1.mask low in
    eq-eqb _ _ (ap (λ n. bit_and n mask) there ∙ and_assoc mask w fixed ∙ ap (bit_and w) (and_comm fixed mask)
    ∙ sym (and_assoc fixed w mask))

-- if so many ways are covered, then so is each of them
covers-way : (on : ℕ → List Placed → Bool) (fork : Fork) (left : List Placed) (k count i : ℕ) → i < count
    → covers_ways on fork left k count ≡ true
    → on (fork.first + (k + i)) (kept (may_have (fork.low % 32) fork.mask (k + i)) left) ≡ true
unfolding covers_ways
covers-way on fork left k zero i lt e = absurd (omega arith)
covers-way on fork left k (suc count) zero lt e =
    subst (λ (n : ℕ). on (fork.first + n) (kept (may_have (fork.low % 32) fork.mask n) left) ≡ true) (sym (add-zero k))
    (and_parts _ _ e).0
covers-way on fork left k (suc count) (suc i) lt e =
    let same : suc k + i ≡ k + suc i = omega arith in
    subst (λ (n : ℕ). on (fork.first + n) (kept (may_have (fork.low % 32) fork.mask n) left) ≡ true) same
    (covers-way on fork left (suc k) count i (omega arith) (and_parts _ _ e).1)

-- the way that a word takes is covered, and a row that matches the word is among those on it
covers-word : (on : ℕ → List Placed → Bool) (fork : Fork) (left : List Placed) (word : ℕ) (p : Placed) → Matches p.1 word
    → covers_fork on fork left ≡ true → Holds p left
    → (rest : List Placed) × (on (way_on fork word) rest ≡ true) × Holds p rest
unfolding way_on covers_fork
covers-word on fork left word p m e h =
    let k = bit_and (word / 2 ^ (fork.low % 32)) fork.mask in
    let few = and_le_r (word / 2 ^ (fork.low % 32)) fork.mask in (
      (kept (may_have (fork.low % 32) fork.mask k) left),
      subst (λ (n : ℕ). on (fork.first + n) (kept (may_have (fork.low % 32) fork.mask n) left) ≡ true) (zero-add k)
          (covers-way on fork left 0 (suc fork.mask) k (omega arith) e),
      Holds-kept (may_have (fork.low % 32) fork.mask k) p left (may-have (fork.low % 32) fork.mask word p m) h,
    )

all_at : (place : ℕ) (p : Placed) (left : List Placed) → list_all (λ p. p.0 == place) left ≡ true → Holds p left → p.0 ≡ place
all_at place p [] e h = elim h [ ]
all_at place p (x ∷ xs) e (here) = eqb-true _ _ (and_parts _ _ e).0
all_at place p (x ∷ xs) e (later h) = all_at place p xs (and_parts _ _ e).1 h

covers_at-step : (on : ℕ → List Placed → Bool) (way : ℕ → Option ℕ) (word : ℕ) (p : Placed) → Matches p.1 word
    → ((next : ℕ) (rest : List Placed) → on next rest ≡ true → Holds p rest → way next ≡ Some p.0)
    → (found : Option Node) (left : List Placed) → covers_at on found left ≡ true → Holds p left → step way found word ≡ Some p.0
unfolding covers_at step
covers_at-step on way word p m rec None left e h = cc
covers_at-step on way word p m rec (Some (node.Leaf place)) left e h = ap Some (sym (all_at place p left e h))
covers_at-step on way word p m rec (Some (node.Fork fork)) left e h =
    let w = covers-word on fork left word p m e h in
    rec (way_on fork word) w.0 w.1 w.2

covers-walk : (steps : ℕ) (nodes : List Node) (at : ℕ) (left : List Placed) (word : ℕ) (p : Placed) → Matches p.1 word
    → covers steps nodes at left ≡ true → Holds p left → walk steps nodes at word ≡ Some p.0
unfolding covers walk
covers-walk zero nodes at left word p m e h = cc
covers-walk (suc steps) nodes at left word p m e h =
    covers_at-step _ _ word p m (λ next rest e' h'. covers-walk steps nodes next rest word p m e' h') (slice_get nodes at) left e h

pub Holds-numbered : {O : Type 0} (n i : ℕ) (lines : List (Line O)) (r : Line O) → slice_get lines i ≡ Some r
    → Holds (n + i, record { mask = r.mask; value = r.value }) (numbered n lines)
unfolding numbered
Holds-numbered n i [] r e = cc
Holds-numbered {O = O} n zero (x ∷ xs) r e =
    let same : x ≡ r = cc in
    subst (λ (q : Placed). Holds q ((n, record { mask = x.mask; value = x.value }) ∷ numbered (suc n) xs))
    (ap₂ (λ (m : ℕ) (y : Line O). let q : Placed = (m, record { mask = y.mask; value = y.value }) in q) (sym (add-zero n)) same) here
Holds-numbered n (suc i) (x ∷ xs) r e =
    let same : suc n + i ≡ n + suc i = omega arith in
    subst (λ (q : Placed). Holds q ((n, record { mask = x.mask; value = x.value }) ∷ numbered (suc n) xs))
    (ap (λ (m : ℕ). let q : Placed = (m, record { mask = r.mask; value = r.value }) in q) same) (later (Holds-numbered (suc n) i xs r e))

-- the way from the root ends at the line that matches the word
pub leads : {O : Type 0} (steps : ℕ) (nodes : List Node) (root : Fork) (lines : List (Line O))
    → covers_from steps nodes root (numbered 0 lines) ≡ true → (word : ℕ) → (i : ℕ) (r : Line O) → slice_get lines i ≡ Some r
    → bit_and word r.mask ≡ r.value → walk_from steps nodes root word ≡ Some i
unfolding walk_from covers_from
leads steps nodes root lines e word i r g m =
    let p : Placed = (i, record { mask = r.mask; value = r.value }) in
    let listed : Holds p (numbered 0 lines) =
    subst (λ (k : ℕ). Holds (k, record { mask = r.mask; value = r.value }) (numbered 0 lines)) (zero-add i)
    (Holds-numbered 0 i lines r g) in
    let w = covers-word _ root (numbered 0 lines) word p m e listed in
    covers-walk steps nodes (way_on root word) w.0 word p m w.1 w.2
