-- Who owns the bank of a core: numbers of threads that are apart, and the residents with these.
use Rattle.std.proofs.Common.{◌≡◌, ◌≢◌, ℕ, zero, suc, ◌==◌, List, [], ◌∷◌, ◌++◌, map, Option, Some, None, Bool, true, false}
use Rattle.std.proofs.Common.{refl, sym, ap, ◌∙◌, subst, cond, arith}
use Rattle.std.specs.Prelude.{not, All, slice_get}
use Rattle.std.proofs.lemmas.Bool.Decides.{nat_tests}
use Rattle.std.proofs.lemmas.Option.{same_Some, none-some}
use Rattle.std.proofs.lemmas.List.{map-append}
use Rattle.std.proofs.lemmas.List.Elements.{All-tail, All-head}
use Rattle.std.proofs.lemmas.Bool.{or_left, or_right, not_from_false, not-true, and_from, or_from}
use Rattle.plain_lemmas.proofs.Tests.{or_elim, and_second, and_first, or_resolve_left, or_second, or_first}
use Rattle.mem_access.specs.Bank.{bank_state}
use Rattle.mem_access.specs.declared.bank.Bank.{Bank}
use Rattle.kernel_contexts.specs.Owner.{is_owner, owns}
use Rattle.kernel_contexts.specs.Context.{state_with, bank_of, thread_of}
use Rattle.kernel_contexts.specs.declared.context.Context.{Context}
use Rattle.kernel_contexts.specs.Guest.{guest_with, guest_of, guest_on}
use Rattle.core_unit.specs.Held.{Held, held_of, held_on}
use Rattle.core_unit.specs.Owners.{owns_among, are_apart, numbers_of, IsTold, freed}

-- ---- numbers

pub apart_first : (n : ℕ) (ns : List ℕ) → are_apart (n ∷ ns) ≡ true → owns_among (Some n) ns ≡ false
apart_first n ns h = not-true _ (and_first (not (owns_among (Some n) ns)) (are_apart ns) h)

pub apart_rest : (n : ℕ) (ns : List ℕ) → are_apart (n ∷ ns) ≡ true → are_apart ns ≡ true
apart_rest n ns h = and_second (not (owns_among (Some n) ns)) (are_apart ns) h

-- no thread owns a bank without an owner
pub none_owns : (ns : List ℕ) → owns_among None ns ≡ false
none_owns [] = refl
none_owns (n ∷ ns) = none_owns ns

-- where one of these owns it
pub is_owned : (owner : Option ℕ) (n : ℕ) → is_owner owner n ≡ true → owner ≡ Some n
is_owned None n e = cc
is_owned (Some m) n e = let same : m ≡ n = grind (arith, nat_tests) in ap (λ (k : ℕ). Some k) same

pub is_own : (n : ℕ) → is_owner (Some n) n ≡ true
is_own n = grind (arith, nat_tests)

-- another one
pub other_owns : (owner : Option ℕ) (n : ℕ) (ns : List ℕ) → owner ≡ Some n → are_apart (n ∷ ns) ≡ true → owns_among owner ns ≡ false
other_owns owner n ns is h = ap (λ o. owns_among o ns) is ∙ apart_first n ns h

among_snoc : (owner : Option ℕ) (ns : List ℕ) (n : ℕ) → owns_among owner ns ≡ false → is_owner owner n ≡ false
    → owns_among owner (ns ++ n ∷ []) ≡ false
among_snoc owner [] n h l = or_from _ _ l refl
among_snoc owner (m ∷ ms) n h l =
    or_from _ _ (or_first (is_owner owner m) (owns_among owner ms) h)
    (among_snoc owner ms n (or_second (is_owner owner m) (owns_among owner ms) h) l)

-- one of these is one of more
pub among_more : (owner : Option ℕ) (ns : List ℕ) (n : ℕ) → owns_among owner ns ≡ true → owns_among owner (ns ++ n ∷ []) ≡ true
among_more owner [] n h = cc
among_more owner (m ∷ ms) n h =
    or_elim (is_owner owner m) (owns_among owner ms) h (λ l. or_left _ _ l) (λ l. or_right _ _ (among_more owner ms n l))

among_last : (owner : Option ℕ) (ns : List ℕ) (n : ℕ) → is_owner owner n ≡ true → owns_among owner (ns ++ n ∷ []) ≡ true
among_last owner [] n h = or_left _ _ h
among_last owner (m ∷ ms) n h = or_right _ _ (among_last owner ms n h)

pub other_number : (m n : ℕ) → is_owner (Some n) m ≡ false → is_owner (Some m) n ≡ false
other_number m n e = grind (arith, nat_tests)

-- the last one is none of them
pub apart_snoc : (ns : List ℕ) (n : ℕ) → are_apart ns ≡ true → owns_among (Some n) ns ≡ false → are_apart (ns ++ n ∷ []) ≡ true
apart_snoc [] n h l = refl
apart_snoc (m ∷ ms) n h l =
    and_from _ _ (not_from_false _ (among_snoc (Some m) ms n (apart_first m ms h)
    (other_number m n (or_first (is_owner (Some n) m) (owns_among (Some n) ms) l))))
    (apart_snoc ms n (apart_rest m ms h) (or_second (is_owner (Some n) m) (owns_among (Some n) ms) l))

-- the first one is the last
pub apart_turned : (n : ℕ) (ns : List ℕ) → are_apart (n ∷ ns) ≡ true → are_apart (ns ++ n ∷ []) ≡ true
apart_turned n ns h = apart_snoc ns n (apart_rest n ns h) (apart_first n ns h)

pub among_turned : (owner : Option ℕ) (n : ℕ) (ns : List ℕ) → owns_among owner (n ∷ ns) ≡ true
    → owns_among owner (ns ++ n ∷ []) ≡ true
among_turned owner n ns h =
    or_elim (is_owner owner n) (owns_among owner ns) h (λ l. among_last owner ns n l) (λ l. among_more owner ns n l)

pub other_not : (m n : ℕ) → m ≢ n → is_owner (Some n) m ≡ false
other_not m n e = grind (arith, nat_tests)

-- none of the threads of some residents
pub absent_none : {T : Type 0} (n : ℕ) (hs : List (Held T)) → All (λ h. h.guest.number ≢ n) hs
    → owns_among (Some n) (numbers_of hs) ≡ false
absent_none n [] h = refl
absent_none n (k ∷ hs) h =
    or_from _ _ (other_not k.guest.number n (All-head (λ x. x.guest.number ≢ n) k hs h))
    (absent_none n hs (All-tail (λ x. x.guest.number ≢ n) k hs h))

abbrev head_or : {X : Type 0} → X → List X → X
head_or x [] = x
head_or x (y ∷ ys) = y

abbrev tail_of : {X : Type 0} → List X → List X
tail_of [] = []
tail_of (y ∷ ys) = ys

pub same_tails : {X : Type 0} (x y : X) (xs ys : List X) → x ∷ xs ≡ y ∷ ys → xs ≡ ys
same_tails x y xs ys e = ap tail_of e

-- ---- the first one has the bank no more

freed_test : (b : Bool) (k m n : ℕ) (ns : List ℕ) → (k == m) ≡ b → (Some k ≡ Some n → owns_among (Some n) (m ∷ ns) ≡ true)
    → cond b None (Some k) ≡ Some n → owns_among (Some n) ns ≡ true
freed_test true k m n ns test h is = absurd (none-some n is)
freed_test false k m n ns test h is =
    or_resolve_left (is_owner (Some n) m) (owns_among (Some n) ns) (h is) (ap (λ j. j == m) (sym (same_Some k n is)) ∙ test)

freed_among : (owner : Option ℕ) (m n : ℕ) (ns : List ℕ) → (owner ≡ Some n → owns_among (Some n) (m ∷ ns) ≡ true)
    → freed owner m ≡ Some n → owns_among (Some n) ns ≡ true
freed_among None m n ns h is = absurd (none-some n is)
freed_among (Some k) m n ns h is = freed_test (k == m) k m n ns refl h is

module _ {T : Type 0} where
  pub told_rest : (owner : Option ℕ) (all : List (Held T)) (h : Held T) (hs : List (Held T)) → all ≡ h ∷ hs → IsTold owner all
      → IsTold (freed owner h.guest.number) hs
  told_rest owner all h hs is told =
      let t : IsTold owner (h ∷ hs) = subst (IsTold owner) is told in
      record {
        apart = apart_rest h.guest.number (numbers_of hs) t.apart;
        resident = λ n e. freed_among owner h.guest.number n (numbers_of hs) (t.resident n) e;
      }

-- the threads are the same, and so is the owner
pub told_as : {T : Type 0} (owner after : Option ℕ) (hs ks : List (Held T)) → after ≡ owner → numbers_of ks ≡ numbers_of hs
    → IsTold owner hs → IsTold after ks
told_as owner after hs ks same numbers t = record {
  apart = ap are_apart numbers ∙ t.apart;
  resident = λ n is. ap (owns_among (Some n)) numbers ∙ t.resident n (sym same ∙ is);
}

-- one more, or the first one last
not_among : (owner : Option ℕ) (n : ℕ) (ns : List ℕ) → ((m : ℕ) → owner ≡ Some m → owns_among (Some m) ns ≡ true)
    → owns_among (Some n) ns ≡ false → is_owner owner n ≡ false
not_among None n ns h l = refl
not_among (Some m) n ns h l =
    other_not n m (λ same. let both : true ≡ false = sym (h m refl) ∙ ap (λ k. owns_among (Some k) ns) (sym same) ∙ l in cc)

pub numbers_snoc : {T : Type 0} (hs : List (Held T)) (h : Held T) → numbers_of (hs ++ h ∷ []) ≡ numbers_of hs ++ h.guest.number ∷ []
numbers_snoc hs h = map-append (λ x. x.guest.number) hs (h ∷ [])

module _ {T : Type 0} (owner : Option ℕ) (h : Held T) (hs : List (Held T)) where
  pub not_owner : IsTold owner hs → All (λ x. x.guest.number ≢ h.guest.number) hs → is_owner owner h.guest.number ≡ false
  not_owner t absent = not_among owner h.guest.number (numbers_of hs) t.resident (absent_none h.guest.number hs absent)

  pub told_snoc : IsTold owner hs → All (λ x. x.guest.number ≢ h.guest.number) hs → IsTold owner (hs ++ h ∷ [])
  told_snoc t absent = record {
    apart = ap are_apart (numbers_snoc hs h)
        ∙ apart_snoc (numbers_of hs) h.guest.number t.apart (absent_none h.guest.number hs absent);
    resident = λ n is. ap (owns_among (Some n)) (numbers_snoc hs h)
        ∙ among_more (Some n) (numbers_of hs) h.guest.number (t.resident n is);
  }

  pub told_turned : IsTold owner (h ∷ hs) → IsTold owner (hs ++ h ∷ [])
  told_turned t = record {
    apart = ap are_apart (numbers_snoc hs h) ∙ apart_turned h.guest.number (numbers_of hs) t.apart;
    resident = λ n is. ap (owns_among (Some n)) (numbers_snoc hs h)
        ∙ among_turned (Some n) h.guest.number (numbers_of hs) (t.resident n is);
  }

-- ---- residents

module _ {X T : Type 0} (context : X → Context) (ticket : X → T) where
  abbrev pub item : Bank → X → Held T
  item bank x = record { guest = guest_on bank (context x); ticket = ticket x }

  abbrev pub home : X → Held T
  home x = record { guest = guest_of (context x); ticket = ticket x }

  abbrev pub threads : List X → List ℕ
  threads xs = map (λ x. thread_of (context x)) xs

  pub held_numbers : (bank : Bank) (xs : List X) → numbers_of (held_on context ticket bank xs) ≡ threads xs
  held_numbers bank [] = refl
  held_numbers bank (x ∷ xs) = ap (λ ns. thread_of (context x) ∷ ns) (held_numbers bank xs)

  -- a thread that does not own the bank
  pub item_home : (bank : Bank) (x : X) → owns bank (thread_of (context x)) ≡ false → item bank x ≡ home x
  item_home bank x e = λ i. record {
    guest = guest_with (context x) (state_with (context x) (cond (e i) (bank_state bank) (bank_of (context x))));
    ticket = ticket x;
  }

  pub held_apart : (bank : Bank) (xs : List X) → owns_among bank.owner (threads xs) ≡ false
      → held_on context ticket bank xs ≡ held_of context ticket xs
  held_apart bank [] h = refl
  held_apart bank (x ∷ xs) h =
      let here = item_home bank x (or_first (owns bank (thread_of (context x))) (owns_among bank.owner (threads xs)) h) in
      let rest = held_apart bank xs (or_second (owns bank (thread_of (context x))) (owns_among bank.owner (threads xs)) h) in
      λ i. here i ∷ rest i

  pub held_still : (bank after : Bank) (xs : List X) → owns_among bank.owner (threads xs) ≡ false
      → owns_among after.owner (threads xs) ≡ false → held_on context ticket after xs ≡ held_on context ticket bank xs
  held_still bank after xs h l = held_apart after xs l ∙ sym (held_apart bank xs h)

  -- the threads at some place
  pub not_at : (owner : Option ℕ) (xs : List X) (i : ℕ) (x : X) → owns_among owner (threads xs) ≡ false → slice_get xs i ≡ Some x
      → is_owner owner (thread_of (context x)) ≡ false
  not_at owner [] i x h get = absurd (none-some x get)
  not_at owner (y ∷ ys) zero x h get =
      ap (λ z. is_owner owner (thread_of (context z))) (sym (same_Some y x get))
      ∙ or_first (is_owner owner (thread_of (context y))) (owns_among owner (threads ys)) h
  not_at owner (y ∷ ys) (suc i) x h get =
      not_at owner ys i x (or_second (is_owner owner (thread_of (context y))) (owns_among owner (threads ys)) h) get

  pub none_at : (n : ℕ) (xs : List X) → ((i : ℕ) (x : X) → slice_get xs i ≡ Some x → thread_of (context x) ≢ n)
      → owns_among (Some n) (threads xs) ≡ false
  none_at n [] h = refl
  none_at n (x ∷ xs) h = or_from _ _ (other_not (thread_of (context x)) n (h 0 x refl)) (none_at n xs (λ i y get. h (suc i) y get))

  pub apart_threads : (bank : Bank) (xs : List X) → are_apart (numbers_of (held_on context ticket bank xs)) ≡ true
      → are_apart (threads xs) ≡ true
  apart_threads bank xs h = ap are_apart (sym (held_numbers bank xs)) ∙ h

  pub held_more : (bank : Bank) (xs : List X) (x : X)
      → held_on context ticket bank (xs ++ x ∷ []) ≡ held_on context ticket bank xs ++ item bank x ∷ []
  held_more bank xs x = map-append (item bank) xs (x ∷ [])

  -- a resident more, whose thread does not own the bank
  pub held_admitted : (bank : Bank) (xs : List X) (x : X) → owns bank (thread_of (context x)) ≡ false
      → held_on context ticket bank (xs ++ x ∷ []) ≡ held_on context ticket bank xs ++ home x ∷ []
  held_admitted bank xs x apart = held_more bank xs x ∙ ap (λ h. held_on context ticket bank xs ++ h ∷ []) (item_home bank x apart)
