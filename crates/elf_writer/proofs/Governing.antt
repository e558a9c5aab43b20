-- The mapping symbol that governs a word is its own, or that of the word before.
use Rattle.std.proofs.Common.{◌≡◌, ℕ, zero, suc, ◌/◌, ◌<◌, ◌≤◌, ◌⊎◌, inl, inr, Bool, true, false, cond, List, [], ◌∷◌, length, get_or}
use Rattle.std.proofs.Common.{Option, Some, None, refl, ap, sym, ◌∙◌, arith, add-one, length-append}
use Rattle.std.specs.Prelude.{◌==◌, ◌&&◌, nat_le}
use Rattle.std.proofs.lemmas.Bool.Decides.{nat_tests}
use Rattle.std.proofs.lemmas.Bool.{ne_eqb, eq-eqb, lt-leb, le-leb}
use Rattle.std.specs.Option.{option_or as or_else}
use Rattle.plain_lemmas.proofs.Numbers.{cases_le}
use Rattle.sm_types.specs.declared.object.Content.{Content}
use Rattle.sm_types.specs.declared.object.Object.{Object}
use Rattle.sm_types.specs.Objects.{Mapping, mappings_of, later_mapping, governing_mapping, mapping_says, text_content, is_same}
use Rattle.elf_headers.specs.Below.{answers, answers_below}
use Rattle.elf_headers.proofs.Below.{answers_below-zero, answers_below-next, answers_below-same}
use Rattle.elf_writer.specs.declared.mapping_symbols.TextMapping.{TextMapping}
use Rattle.elf_writer.specs.TextMappings.{word_address, text_mapping_at, word_content, text_mappings}
use Rattle.elf_writer.specs.Slots.{as_mapping_if, newer, word_from, kept_at, says_word, slots_say, AreSlots}

-- a mapping symbol's address is past a, or is not
abbrev IsPast : ℕ → Option Mapping → Type 0
IsPast a None = Unit {0}
IsPast a (Some m) = a < m.address

abbrev IsUnder : ℕ → Option Mapping → Type 0
IsUnder a None = Unit {0}
IsUnder a (Some m) = m.address ≤ a

-- an address is not past a, or past a and not past b, or past b; it is `here` in the middle
abbrev Stands : ℕ → ℕ → Bool → ℕ → Type 0
Stands a b here x = ((x ≤ a) × (here ≡ false)) ⊎ ((a < x) × (x ≤ b) × (here ≡ true)) ⊎ ((b < x) × (here ≡ false))

step_low : (a b : ℕ) (s g : Option Mapping) (m : Mapping) → a ≤ b → IsPast a s → m.address ≤ a
    → later_mapping b (or_else s g) m ≡ or_else s (later_mapping a g m)
step_low a b None None m l p h =
    let t : nat_le m.address a ≡ true =
    le-leb m.address a h in let u : nat_le m.address b ≡ true = le-leb m.address b (omega arith) in rw (t, u) refl
step_low a b None (Some y) m l p h =
    let t : nat_le m.address a ≡ true =
    le-leb m.address a h in let u : nat_le m.address b ≡ true = le-leb m.address b (omega arith) in rw (t, u) refl
step_low a b (Some x) g m l p h =
    let t : nat_le x.address m.address ≡ false =
    lt-leb x.address m.address (omega arith) in let u : nat_le m.address b ≡ true = le-leb m.address b (omega arith) in rw (t, u) refl

step_here : (a b : ℕ) (s g : Option Mapping) (m : Mapping) → IsUnder a g → a < m.address → m.address ≤ b
    → later_mapping b (or_else s g) m ≡ Some (newer s m)
step_here a b None None m p h k = let u : nat_le m.address b ≡ true = le-leb m.address b k in rw u refl
step_here a b None (Some y) m p h k =
    let t : nat_le y.address m.address ≡ true =
    le-leb y.address m.address (omega arith) in let u : nat_le m.address b ≡ true = le-leb m.address b k in rw (t, u) refl
step_here a b (Some x) g m p h k = let u : nat_le m.address b ≡ true = le-leb m.address b k in rw u (pick (nat_le x.address m.address) m x)
  where
    pick : (t : Bool) (m x : Mapping) → cond t (Some m) (Some x) ≡ Some (cond t m x)
    pick true m x = refl
    pick false m x = refl

step_far : (b : ℕ) (o : Option Mapping) (m : Mapping) → b < m.address → later_mapping b o m ≡ o
step_far b None m h = let u : nat_le m.address b ≡ false = lt-leb m.address b h in rw u refl
step_far b (Some x) m h = let u : nat_le m.address b ≡ false = lt-leb m.address b h in rw u refl

step : (a b : ℕ) (here : Bool) (s g : Option Mapping) (m : Mapping) → a ≤ b → IsPast a s → IsUnder a g → Stands a b here m.address
    → later_mapping b (or_else s g) m ≡ or_else (cond here (Some (newer s m)) s) (later_mapping a g m)
step a b here s g m l p u (inl (low, e)) = rw e (step_low a b s g m l p low)
step a b here s g m l p u (inr (inl (past, upto, e))) = rw e (step_here a b s g m u past upto)
step a b here s g m l p u (inr (inr (far, e))) =
    rw e (step_far b (or_else s g) m far ∙ ap (or_else s) (sym (step_far a g m (omega arith))))

newer_past : (a : ℕ) (s : Option Mapping) (m : Mapping) → IsPast a s → a < m.address → a < (newer s m).address
newer_past a None m p h = h
newer_past a (Some x) m p h = elim (nat_le x.address m.address) as (λ t. a < (cond t m x).address) [ true ↦ h | false ↦ p ]

past_more : (a b : ℕ) (here : Bool) (s : Option Mapping) (m : Mapping) → IsPast a s → Stands a b here m.address
    → IsPast a (cond here (Some (newer s m)) s)
past_more a b here s m p (inl (low, e)) = rw e p
past_more a b here s m p (inr (inl (past, upto, e))) = rw e (newer_past a s m p past)
past_more a b here s m p (inr (inr (far, e))) = rw e p

under_more : (a : ℕ) (g : Option Mapping) (m : Mapping) → IsUnder a g → IsUnder a (later_mapping a g m)
under_more a None m u = either_under a (nat_le m.address a) None m refl tt
  where
    either_under : (a : ℕ) (t : Bool) (g : Option Mapping) (m : Mapping) → nat_le m.address a ≡ t → IsUnder a g
        → IsUnder a (cond t (Some m) g)
    either_under a true g m e u = grind (arith, nat_tests)
    either_under a false g m e u = u
under_more a (Some x) m u = both_under a (nat_le m.address a) (nat_le x.address m.address) x m refl u
  where
    both_under : (a : ℕ) (t k : Bool) (x m : Mapping) → nat_le m.address a ≡ t → x.address ≤ a → IsUnder a (cond (t && k) (Some m) (Some x))
    both_under a true true x m e u = grind (arith, nat_tests)
    both_under a true false x m e u = u
    both_under a false k x m e u = u

stands : (n x : ℕ) → Stands (word_address n) (word_address (suc n)) (word_from x == suc n) x
stands n x = elim (cases_le x (word_address n)) [
  | inl low ↦ inl (low, ne_eqb (word_from x) (suc n) (λ e. omega arith))
  | inr past ↦ elim (cases_le x (word_address (suc n))) [
    | inl upto ↦ inr (inl (past, upto, eq-eqb (word_from x) (suc n) (omega arith)))
    | inr far ↦ inr (inr (far, ne_eqb (word_from x) (suc n) (λ e. omega arith)))
  ]
]

governing_more : (n : ℕ) (s g : Option Mapping) (ms : List Mapping) → IsPast (word_address n) s → IsUnder (word_address n) g
    → governing_mapping (word_address (suc n)) (or_else s g) ms ≡ or_else (kept_at (suc n) s ms) (governing_mapping (word_address n) g ms)
governing_more n s g [] p u = refl
governing_more n s g (m ∷ ms) p u =
    ap (λ o. governing_mapping (word_address (suc n)) o ms)
    (step (word_address n) (word_address (suc n)) (word_from m.address == suc n) s g m (omega arith) p u (stands n m.address))
    ∙ governing_more n (cond (word_from m.address == suc n) (Some (newer s m)) s) (later_mapping (word_address n) g m) ms
    (past_more (word_address n) (word_address (suc n)) (word_from m.address == suc n) s m p (stands n m.address))
    (under_more (word_address n) g m u)

same_test : (x : ℕ) → nat_le x (word_address 0) ≡ (word_from x == 0)
same_test x = elim (cases_le x (word_address 0)) [
  | inl low ↦ le-leb x (word_address 0) low ∙ sym (eq-eqb (word_from x) 0 (omega arith))
  | inr past ↦ lt-leb x (word_address 0) past ∙ sym (ne_eqb (word_from x) 0 (λ e. omega arith))
]

step_zero : (t : Bool) (b : ℕ) (g : Option Mapping) (m : Mapping) → nat_le m.address b ≡ t
    → later_mapping b g m ≡ cond t (Some (newer g m)) g
step_zero t b None m e = rw e refl
step_zero true b (Some x) m e =
    rw e (elim (nat_le x.address m.address) as (λ k. cond k (Some m) (Some x) ≡ Some (cond k m x)) [ true ↦ refl | false ↦ refl ])
step_zero false b (Some x) m e = rw e refl

governing_zero : (g : Option Mapping) (ms : List Mapping) → governing_mapping (word_address 0) g ms ≡ kept_at 0 g ms
governing_zero g [] = refl
governing_zero g (m ∷ ms) =
    ap (λ o. governing_mapping (word_address 0) o ms) (step_zero (word_from m.address == 0) (word_address 0) g m (same_test m.address))
    ∙ governing_zero (cond (word_from m.address == 0) (Some (newer g m)) g) ms

-- ---- what the kept mapping symbols say

says_first : (slot : Option TextMapping) → says_word None slot ≡ mapping_says (as_mapping_if slot)
says_first None = refl
says_first (Some m) = refl

says_next : (says : Content) (slot : Option TextMapping) (g : Option Mapping) → says ≡ mapping_says g
    → says_word (Some says) slot ≡ mapping_says (or_else (as_mapping_if slot) g)
says_next says None g e = e
says_next says (Some m) g e = refl

slots_say-first : (slots : List (Option TextMapping)) → slots_say slots 0 ≡ says_word None (get_or slots 0 None)
unfolding slots_say
slots_say-first slots = refl

slots_say-next : (slots : List (Option TextMapping)) (n : ℕ)
    → slots_say slots (suc n) ≡ says_word (Some (slots_say slots n)) (get_or slots (suc n) None)
unfolding slots_say
slots_say-next slots n = refl

slots_govern : (slots : List (Option TextMapping)) (all : List Mapping) (n : ℕ) → AreSlots slots [] all → n < length slots
    → slots_say slots n ≡ mapping_says (governing_mapping (word_address n) None all)
slots_govern slots all zero are l =
    slots_say-first slots ∙ says_first (get_or slots 0 None) ∙ ap mapping_says (are 0 l ∙ sym (governing_zero None all))
slots_govern slots all (suc n) are l =
    slots_say-next slots n ∙ says_next (slots_say slots n) (get_or slots (suc n) None) (governing_mapping (word_address n) None all)
    (slots_govern slots all n are (omega arith))
    ∙ ap (λ o. mapping_says (or_else o (governing_mapping (word_address n) None all))) (are (suc n) l)
    ∙ ap mapping_says (sym (governing_more n None None all tt tt))

slots_content : (o : Object) (slots : List (Option TextMapping)) (n : ℕ) → AreSlots slots [] (mappings_of o.symbols.items)
    → n < length slots → slots_say slots n ≡ word_content o n
unfolding word_content text_content
slots_content o slots n are l = slots_govern slots (mappings_of o.symbols.items) n are l

text_mapping_at-same : (one two : ℕ → Content) (count n : ℕ) → ((k : ℕ) → k < count → one k ≡ two k) → n < count
    → text_mapping_at one n ≡ text_mapping_at two n
unfolding text_mapping_at
text_mapping_at-same one two count zero h l =
    ap (λ c. cond (is_same None c) None (Some (record { address = word_address 0; content = c }))) (h 0 l)
text_mapping_at-same one two count (suc n) h l =
    λ i. cond (is_same (Some (h n (omega arith) i)) (h (suc n) l i)) None
    (Some (record { address = word_address (suc n); content = h (suc n) l i }))

pub mappings_listed : (o : Object) (slots : List (Option TextMapping)) → length slots ≡ length o.text_bytes.items / 4
    → AreSlots slots [] (mappings_of o.symbols.items) → answers_below (text_mapping_at (slots_say slots)) (length slots) ≡ text_mappings o
unfolding text_mappings
mappings_listed o slots e are =
    answers_below-same (text_mapping_at (slots_say slots)) (text_mapping_at (word_content o)) (length slots)
    (λ n b. text_mapping_at-same (slots_say slots) (word_content o) (length slots) n (λ k l. slots_content o slots k are l) b)
    ∙ ap (answers_below (text_mapping_at (word_content o))) e

one_answer : {A : Type 0} (o : Option A) → length (answers o) ≤ 1
one_answer None = omega arith
one_answer (Some x) = omega arith

answers_few : {A : Type 0} (answer : ℕ → Option A) (n : ℕ) → length (answers_below answer n) ≤ n
answers_few answer zero = rw (answers_below-zero answer) (omega arith)
answers_few answer (suc n) =
    rw (← add-one, answers_below-next answer n, length-append (answers_below answer n) (answers (answer n)))
    (omega (arith, answers_few answer n, one_answer (answer n)))

pub few_mappings : (o : Object) → length (text_mappings o) ≤ length o.text_bytes.items / 4
unfolding text_mappings
few_mappings o = answers_few (text_mapping_at (word_content o)) (length o.text_bytes.items / 4)
