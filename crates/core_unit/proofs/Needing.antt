-- Which turn of a resident is the first that reads or writes vectors.
use Rattle.std.proofs.Common.{◌≡◌, Bool, true, false, ℕ, zero, suc, ◌+◌, ◌-◌, ◌≤◌, ◌++◌, List, refl, ap, sym, ◌∙◌, arith, Option, Some, None}
use Rattle.sm_types.specs.declared.config.Config.{Config}
use Rattle.sm_types.specs.declared.shared_op.Event.{Event}
use Rattle.sm_types.specs.declared.stop.Stop.{Stop}
use Rattle.kernel_contexts.specs.State.{State}
use Rattle.core_unit.specs.Course.{Course, Going, GaveWay, HasStopped, Unanswered, one_more, course}
use Rattle.core_unit.specs.Need.{needs_at, or_this, first_need}
use Rattle.core_unit.specs.Run.{course_at}
use Rattle.core_unit.proofs.Courses.{HasEnded, longer_going, one_before, stays}

or_none : (found : Option ℕ) (turn : ℕ) → or_this found false turn ≡ found
or_none None turn = refl
or_none (Some earlier) turn = refl

ended_needs : (config : Config) (here : Course) → HasEnded here → needs_at config here ≡ false
ended_needs config (Going s done left) h = absurd h
ended_needs config (GaveWay s done left) h = refl
ended_needs config (HasStopped s stop done left) h = refl
ended_needs config (Unanswered s done left) h = refl

module _ (config : Config) (thread : ℕ) (from : Course) where
  pub first_none : first_need config thread from 0 ≡ None
  unfolding first_need
  first_none = refl

  first_suc : (n : ℕ)
      → first_need config thread from (suc n)
      ≡ or_this (first_need config thread from n) (needs_at config (course config thread from n)) n
  unfolding first_need
  first_suc n = refl

  -- one turn more, which needs them or not
  pub first_more : (n : ℕ) → first_need config thread from n ≡ None → needs_at config (course config thread from n) ≡ false
      → first_need config thread from (suc n) ≡ None
  first_more n h e =
      first_suc n ∙ ap (λ f. or_this f (needs_at config (course config thread from n)) n) h ∙ ap (λ b. or_this None b n) e

  pub first_here : (n : ℕ) → first_need config thread from n ≡ None → needs_at config (course config thread from n) ≡ true
      → first_need config thread from (suc n) ≡ Some n
  first_here n h e =
      first_suc n ∙ ap (λ f. or_this f (needs_at config (course config thread from n)) n) h ∙ ap (λ b. or_this None b n) e

  -- turns after it change nothing
  first_kept : (n turn m : ℕ) → first_need config thread from n ≡ Some turn → first_need config thread from (n + m) ≡ Some turn
  first_kept n turn zero h = let z : n + 0 ≡ n = omega arith in rw z h
  first_kept n turn (suc m) h =
      let z : n + suc m ≡ suc (n + m) = omega arith in
      rw z (first_suc (n + m)
      ∙ ap (λ f. or_this f (needs_at config (course config thread from (n + m))) (n + m)) (first_kept n turn m h))

  pub first_stays : (n k turn : ℕ) → n ≤ k → first_need config thread from n ≡ Some turn → first_need config thread from k ≡ Some turn
  first_stays n k turn l h =
      let z : n + (k - n) ≡ k = omega arith in ap (first_need config thread from) (sym z) ∙ first_kept n turn (k - n) h

  -- where the turns have ended, none needs them
  ended_kept : (here : Course) (n m : ℕ) → HasEnded here → course config thread from n ≡ here
      → first_need config thread from (n + m) ≡ first_need config thread from n
  ended_kept here n zero h at = let z : n + 0 ≡ n = omega arith in rw z refl
  ended_kept here n (suc m) h at =
      let z : n + suc m ≡ suc (n + m) = omega arith in
      rw z (first_suc (n + m)
      ∙ ap (λ b. or_this (first_need config thread from (n + m)) b (n + m))
      (ap (needs_at config) (stays config thread from here n m h at) ∙ ended_needs config here h)
      ∙ or_none (first_need config thread from (n + m)) (n + m) ∙ ended_kept here n m h at)

  pub ended_first : (here : Course) (n k : ℕ) → n ≤ k → HasEnded here → course config thread from n ≡ here
      → first_need config thread from n ≡ None → first_need config thread from k ≡ None
  ended_first here n k l ended at h =
      let z : n + (k - n) ≡ k = omega arith in
      ap (first_need config thread from) (sym z) ∙ ended_kept here n (k - n) ended at ∙ h

-- a thread goes on at a place from which it goes on
went_from : (config : Config) (thread : ℕ) (here : Course) (t : State) (d : ℕ) (l : List Event)
    → one_more config thread here ≡ Going t d l → (s : State) × (done : ℕ) × (left : List Event) × (here ≡ Going s done left)
went_from config thread (Going s done left) t d l h = (s, done, left, refl)
went_from config thread (GaveWay s done left) t d l h = cc
went_from config thread (HasStopped s stop done left) t d l h = cc
went_from config thread (Unanswered s done left) t d l h = cc

-- with more answers it is the same turn
module _ (config : Config) (thread : ℕ) (s : State) (stop : Option Stop) (done : ℕ) (answers more : List Event) where
  abbrev short : Course
  short = course_at s stop done answers

  abbrev long : Course
  long = course_at s stop done (answers ++ more)

  pub longer_first : (n : ℕ) (t : State) (d : ℕ) (left : List Event) → course config thread short n ≡ Going t d left
      → first_need config thread long n ≡ first_need config thread short n
  longer_first zero t d left at = first_none config thread long ∙ sym (first_none config thread short)
  longer_first (suc n) t d left at =
      let here = went_from config thread (course config thread short n) t d left (one_before config thread short n t d left at) in
      first_suc config thread long n
      ∙ ap (λ f. or_this f (needs_at config (course config thread long n)) n) (longer_first n here.0 here.1 here.2 here.3)
      ∙ ap (λ b. or_this (first_need config thread short n) b n)
      (ap (needs_at config) (longer_going config thread s stop done here.0 here.1 here.2 answers more n here.3)
      ∙ sym (ap (needs_at config) here.3))
      ∙ sym (first_suc config thread short n)
