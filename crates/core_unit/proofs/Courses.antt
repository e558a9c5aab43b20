-- How the turns of a resident go on by one, and that they stay where they have ended.
use Rattle.std.proofs.Common.{◌≡◌, Bool, true, false, cond, ℕ, zero, suc, ◌+◌, ◌-◌, ◌≤◌, ◌++◌, List, [], ◌∷◌, refl, ap, sym, ◌∙◌}
use Rattle.std.proofs.Common.{subst, arith, Option, Some, None}
use Rattle.sm_types.specs.SharedOps.{is_same_op}
use Rattle.sm_types.specs.declared.config.Config.{Config}
use Rattle.sm_types.specs.declared.shared_op.Event.{Event}
use Rattle.sm_types.specs.declared.stop.Stop.{Stop}
use Rattle.kernel_contexts.specs.State.{State}
use Rattle.kernel_contexts.specs.Call.{TurnEnd, Goes, Yields, Asks, Ends}
use Rattle.kernel_contexts.specs.Turn.{turn_of}
use Rattle.kernel_contexts.proofs.Runs.{same_kind}
use Rattle.core_unit.specs.Course.{Course, Going, GaveWay, HasStopped, Unanswered, course_after, one_more, course}
use Rattle.core_unit.specs.Run.{course_at}

-- answers that are more: where it goes on, it leaves them too
abbrev IsLonger : List Event → Course → Course → Type 0
IsLonger more (Going s done left) other = other ≡ Going s done (left ++ more)
IsLonger more (GaveWay s done left) other = Unit {0}
IsLonger more (HasStopped s stop done left) other = Unit {0}
IsLonger more (Unanswered s done left) other = Unit {0}

answered_longer : (same : Bool) (more left : List Event) (s t : State) (done : ℕ) (event : Event)
    → IsLonger more (cond same (Going t (done + 1) left) (Unanswered s done (event ∷ left)))
    (cond same (Going t (done + 1) (left ++ more)) (Unanswered s done (event ∷ left ++ more)))
answered_longer true more left s t done event = refl
answered_longer false more left s t done event = tt

turn_longer : (more left : List Event) (s : State) (done : ℕ) (end : TurnEnd)
    → IsLonger more (course_after s done left end) (course_after s done (left ++ more) end)
turn_longer more left s done (Goes t) = refl
turn_longer more left s done (Yields t) = tt
turn_longer more [] s done (Asks op next) = tt
turn_longer more (event ∷ left) s done (Asks op next) =
    answered_longer (is_same_op op event.op) more left s (next event.answer) done event
turn_longer more left s done (Ends t stop) = tt

longer_on : (config : Config) (thread : ℕ) (more : List Event) (here other : Course) → IsLonger more here other
    → IsLonger more (one_more config thread here) (one_more config thread other)
longer_on config thread more (Going s done left) other h =
    subst (λ (r : Course). IsLonger more (one_more config thread (Going s done left)) (one_more config thread r)) (sym h)
    (turn_longer more left s done (turn_of config thread done s))
longer_on config thread more (GaveWay s done left) other h = tt
longer_on config thread more (HasStopped s stop done left) other h = tt
longer_on config thread more (Unanswered s done left) other h = tt

longer_from : (s : State) (stop : Option Stop) (done : ℕ) (answers more : List Event)
    → IsLonger more (course_at s stop done answers) (course_at s stop done (answers ++ more))
longer_from s None done answers more = refl
longer_from s (Some stop) done answers more = tt

module _ (config : Config) (thread : ℕ) (s : State) (stop : Option Stop) (done : ℕ) where
  longer : (answers more : List Event) (n : ℕ)
      → IsLonger more (course config thread (course_at s stop done answers) n)
      (course config thread (course_at s stop done (answers ++ more)) n)
  unfolding course
  longer answers more zero = longer_from s stop done answers more
  longer answers more (suc n) =
      longer_on config thread more (course config thread (course_at s stop done answers) n)
      (course config thread (course_at s stop done (answers ++ more)) n) (longer answers more n)

  pub longer_going : (t : State) (d : ℕ) (left answers more : List Event) (n : ℕ)
      → course config thread (course_at s stop done answers) n ≡ Going t d left
      → course config thread (course_at s stop done (answers ++ more)) n ≡ Going t d (left ++ more)
  longer_going t d left answers more n at =
      subst (λ (r : Course). IsLonger more r (course config thread (course_at s stop done (answers ++ more)) n)) at (longer answers more n)

-- before its last turn
pub one_before : (config : Config) (thread : ℕ) (from : Course) (n : ℕ) (t : State) (d : ℕ) (left : List Event)
    → course config thread from (suc n) ≡ Going t d left → one_more config thread (course config thread from n) ≡ Going t d left
unfolding course
one_before config thread from n t d left at = at

-- one turn more
pub next : (config : Config) (thread : ℕ) (from : Course) (t : State) (d n : ℕ) (left : List Event) (end : TurnEnd)
    → course config thread from n ≡ Going t d left → turn_of config thread d t ≡ end
    → course config thread from (suc n) ≡ course_after t d left end
unfolding course
next config thread from t d n left end at is = ap (one_more config thread) at ∙ ap (course_after t d left) is

-- where it asks an operation, the answer is the next one
pub asks_next : (config : Config) (thread : ℕ) (from : Course) (t u : State) (d n : ℕ) (event : Event) (to : ℕ → State)
    → course config thread from n ≡ Going t d (event ∷ []) → turn_of config thread d t ≡ Asks event.op to → u ≡ to event.answer
    → course config thread from (suc n) ≡ Going u (d + 1) []
asks_next config thread from t u d n event to at is made =
    next config thread from t d n (event ∷ []) (Asks event.op to) at is
    ∙ ap (λ b. cond b (Going (to event.answer) (d + 1) []) (Unanswered t d (event ∷ []))) (same_kind event.op)
    ∙ ap (λ (v : State). Going v (d + 1) []) (sym made)

-- it has ended
abbrev pub HasEnded : Course → Type 0
HasEnded (Going s done left) = ⊥
HasEnded (GaveWay s done left) = Unit {0}
HasEnded (HasStopped s stop done left) = Unit {0}
HasEnded (Unanswered s done left) = Unit {0}

ended_more : (config : Config) (thread : ℕ) (here : Course) → HasEnded here → one_more config thread here ≡ here
ended_more config thread (Going s done left) h = absurd h
ended_more config thread (GaveWay s done left) h = refl
ended_more config thread (HasStopped s stop done left) h = refl
ended_more config thread (Unanswered s done left) h = refl

pub stays : (config : Config) (thread : ℕ) (from here : Course) (n m : ℕ) → HasEnded here → course config thread from n ≡ here
    → course config thread from (n + m) ≡ here
unfolding course
stays config thread from here n zero h at = let z : n + 0 ≡ n = omega arith in rw z at
stays config thread from here n (suc m) h at =
    let z : n + suc m ≡ suc (n + m) = omega arith in
    rw z (ap (one_more config thread) (stays config thread from here n m h at) ∙ ended_more config thread here h)

pub stays_to : (config : Config) (thread : ℕ) (from here : Course) (n k : ℕ) → n ≤ k → HasEnded here
    → course config thread from n ≡ here → course config thread from k ≡ here
stays_to config thread from here n k l h at =
    let z : n + (k - n) ≡ k = omega arith in ap (course config thread from) (sym z) ∙ stays config thread from here n (k - n) h at

-- turns, and more turns after them
pub course_join : (config : Config) (thread : ℕ) (from : Course) (n m : ℕ)
    → course config thread (course config thread from n) m ≡ course config thread from (n + m)
unfolding course
course_join config thread from n zero = let z : n + 0 ≡ n = omega arith in rw z refl
course_join config thread from n (suc m) =
    let z : n + suc m ≡ suc (n + m) = omega arith in rw z (ap (one_more config thread) (course_join config thread from n m))
