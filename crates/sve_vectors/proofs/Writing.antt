-- What is left of a list, of a row and of a register where bytes were written over it.
use Rattle.std.proofs.Common.{◌≡◌, ℕ, ◌-◌, ◌*◌, ◌<◌, ◌≤◌, ◌/◌, ◌%◌, Bool, false, List, ◌++◌, length, take, drop, replicate, get_or, refl}
use Rattle.std.proofs.Common.{ap, ◌∙◌, sym, inl, inr, ◌^◌, ◌==◌, arith}
use Rattle.std.proofs.lemmas.List.{length-take, length-take-le, length-append, length-drop, take-append-le, take_at, same_lists}
use Rattle.std.proofs.lemmas.List.{get_or-take, get_or_append_left, get_or-append_right, get_or-drop, length-replicate, get_or-replicate}
use Rattle.std.proofs.lemmas.Bool.{cases_lt}
use Rattle.std.proofs.lemmas.List.FromFn.{length-map-range_with_len, get_or-map-range_with_len}
use Rattle.std.proofs.Math.Nat.{zero-div}
use Rattle.sve_vectors.specs.Predicates.{truth_at, truths_of}
use Rattle.sve_vectors.specs.Lending.{overwritten}

pub length-overwritten : {A : Type 0} (old new : List A) → length (overwritten old new) ≡ length old
unfolding overwritten
length-overwritten old new = omega (
  arith,
  length-take (length old) (new ++ drop (length new) old),
  length-append new
      (drop (length new) old),
  length-drop (length new) old,
)

-- a list as long as the old one is what is left
pub overwritten_whole : {A : Type 0} (old new : List A) → length new ≡ length old → overwritten old new ≡ new
unfolding overwritten
overwritten_whole old new e = rw (← e) (take_at new (drop (length new) old) (length new) refl)

-- what is at a place
pub overwritten-at_new : {A : Type 0} (old new : List A) (k : ℕ) (d : A) → k < length old → k < length new
    → get_or (overwritten old new) k d ≡ get_or new k d
unfolding overwritten
overwritten-at_new old new k d lt l = get_or-take (length old) (new ++ drop (length new) old) k d lt
    ∙ get_or_append_left new (drop (length new) old) d k l

pub overwritten-at_old : {A : Type 0} (old new : List A) (k : ℕ) (d : A) → k < length old → length new ≤ k
    → get_or (overwritten old new) k d ≡ get_or old k d
unfolding overwritten
overwritten-at_old old new k d lt l =
    get_or-take (length old) (new ++ drop (length new) old) k d lt
    ∙ get_or-append_right new (drop (length new) old) (length new) k d refl l
    ∙ get_or-drop (length new) old (k - length new) d
    ∙ ap (λ t. get_or old t d) (omega arith)

-- the first items of what is left
pub take-overwritten : {A : Type 0} (old new : List A) (k : ℕ) → k ≤ length old
    → take k (overwritten old new) ≡ overwritten (take k old) new
take-overwritten {A} old new k le = same_lists _ _ long each
  where
    long : length (take k (overwritten old new)) ≡ length (overwritten (take k old) new)
    long = length-take-le k (overwritten old new) (omega (arith, length-overwritten old new))
        ∙ sym (length-overwritten (take k old) new ∙ length-take-le k old le)

    each : (i : ℕ) (d : A) → i < length (take k (overwritten old new))
        → get_or (take k (overwritten old new)) i d ≡ get_or (overwritten (take k old) new) i d
    each i d lt =
        let below : i < k = omega (arith, lt, length-take k (overwritten old new)) in
        let short : length (take k old) ≡ k = length-take-le k old le in
        get_or-take k (overwritten old new) i d below ∙ elim (cases_lt i (length new)) [
          | inl l ↦ overwritten-at_new old new i d (omega arith) l ∙ sym (overwritten-at_new (take k old) new i d (omega arith) l)
          | inr l ↦ overwritten-at_old old new i d (omega arith) l
              ∙ sym (overwritten-at_old (take k old) new i d (omega arith) l ∙ get_or-take k old i d below)
        ]

pub length-truths : (bytes : List ℕ) → length (truths_of bytes) ≡ 8 * length bytes
unfolding truths_of
length-truths bytes = length-map-range_with_len (truth_at bytes) 0 (8 * length bytes)

pub truths-at : (bytes : List ℕ) (i : ℕ) (d : Bool) → i < 8 * length bytes → get_or (truths_of bytes) i d ≡ truth_at bytes i
unfolding truths_of
truths-at bytes i d lt = get_or-map-range_with_len (truth_at bytes) 0 (8 * length bytes) i i d lt (omega arith)

truth_same : (xs ys : List ℕ) (i : ℕ) → get_or xs (i / 8) 0 ≡ get_or ys (i / 8) 0 → truth_at xs i ≡ truth_at ys i
unfolding truth_at
truth_same xs ys i e = ap (λ byte. byte / 2 ^ (i % 8) % 2 == 1) e

-- bytes written over a predicate are its truth values written
pub truths-overwritten : (old new : List ℕ) → truths_of (overwritten old new) ≡ overwritten (truths_of old) (truths_of new)
truths-overwritten old new = same_lists _ _ long each
  where
    long : length (truths_of (overwritten old new)) ≡ length (overwritten (truths_of old) (truths_of new))
    long = length-truths (overwritten old new) ∙ ap (λ n. 8 * n) (length-overwritten old new)
        ∙ sym (length-overwritten (truths_of old) (truths_of new) ∙ length-truths old)

    each : (i : ℕ) (d : Bool) → i < length (truths_of (overwritten old new))
        → get_or (truths_of (overwritten old new)) i d ≡ get_or (overwritten (truths_of old) (truths_of new)) i d
    each i d lt =
        let below : i < 8 * length old = omega (arith, lt, length-truths (overwritten old new), length-overwritten old new) in
        truths-at (overwritten old new) i d (omega (arith, lt, length-truths (overwritten old new)))
        ∙ elim (cases_lt i (8 * length new)) [
          | inl l ↦ truth_same _ new i (overwritten-at_new old new (i / 8) 0 (omega arith) (omega arith))
              ∙ sym (overwritten-at_new (truths_of old) (truths_of new) i d (omega (arith, length-truths old))
              (omega (arith, length-truths new)) ∙ truths-at new i d l)
          | inr l ↦ truth_same _ old i (overwritten-at_old old new (i / 8) 0 (omega arith) (omega arith))
              ∙ sym (overwritten-at_old (truths_of old) (truths_of new) i d (omega (arith, length-truths old))
              (omega (arith, length-truths new)) ∙ truths-at old i d below)
        ]

zero_bit : (divisor : ℕ) → (0 / divisor % 2 == 1) ≡ false
zero_bit divisor = ap (λ t. t % 2 == 1) (zero-div divisor)

zero_truth : (n i : ℕ) → i < 8 * n → truth_at (replicate n 0) i ≡ false
unfolding truth_at
zero_truth n i lt = ap (λ byte. byte / 2 ^ (i % 8) % 2 == 1) (get_or-replicate n (i / 8) 0 0 (omega arith)) ∙ zero_bit (2 ^ (i % 8))

-- bytes of zero say that nothing holds
pub truths-replicate : (n : ℕ) → truths_of (replicate n 0) ≡ replicate (8 * n) false
truths-replicate n = same_lists _ _ long each
  where
    long : length (truths_of (replicate n 0)) ≡ length (replicate (8 * n) false)
    long = length-truths (replicate n 0) ∙ ap (λ k. 8 * k) (length-replicate {A = ℕ} n 0) ∙ sym (length-replicate (8 * n) false)

    each : (i : ℕ) (d : Bool) → i < length (truths_of (replicate n 0))
        → get_or (truths_of (replicate n 0)) i d ≡ get_or (replicate (8 * n) false) i d
    each i d lt =
        let below : i < 8 * n = omega (arith, lt, length-truths (replicate n 0), length-replicate {A = ℕ} n 0) in
        truths-at (replicate n 0) i d (omega (arith, length-replicate {A = ℕ} n 0)) ∙ zero_truth n i below
        ∙ sym (get_or-replicate (8 * n) i false d below)

-- what a row holds once its slice was written: the list is what std says of it
pub row-overwritten : (items w : List ℕ) (n : ℕ) → n ≡ length items
    → take n ((w ++ drop (length w) items) ++ drop (length (w ++ drop (length w) items)) items) ≡ overwritten items w
unfolding overwritten
row-overwritten items w n e =
    rw e (take-append-le (length items) (w ++ drop (length w) items) (drop (length (w ++ drop (length w) items)) items)
    (omega (arith, length-append w (drop (length w) items), length-drop (length w) items)))
