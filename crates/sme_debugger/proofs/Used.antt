-- Which events of a journal a thread has used, and which are left.
use Rattle.std.proofs.Common.{◌≡◌, ℕ, zero, suc, ◌+◌, ◌≤◌, List, [], ◌∷◌, length, drop, refl, arith, subst}
use Rattle.std.proofs.lemmas.Bool.{cond_both}
use Rattle.sm_types.specs.SharedOps.{is_same_op}
use Rattle.sm_types.specs.declared.config.Config.{Config}
use Rattle.sm_types.specs.declared.shared_op.SharedOp.{SharedOp}
use Rattle.sm_types.specs.declared.shared_op.Event.{Event}
use Rattle.paged_memory.specs.Image.{Program}
use Rattle.kernel_contexts.specs.State.{State}
use Rattle.kernel_contexts.specs.Call.{TurnEnd, Goes, Yields, Asks, Ends}
use Rattle.kernel_contexts.specs.Turn.{turn_of}
use Rattle.kernel_contexts.specs.Run.{Reached, At, Ended, Strays, turned, after_turn, answered_by, reach, reach_from}

-- so many of the first events of a journal are used, and these are left
pub record AreLeft (journal : List Event) (used : ℕ) (left : List Event) : Type 0 where
  pub within : used ≤ length journal
  pub are : left ≡ drop used journal

abbrev LeftAt : List Event → Reached → Type 0
LeftAt journal (At s used left) = AreLeft journal used left
LeftAt journal (Ended s stop used left) = AreLeft journal used left
LeftAt journal (Strays s used left) = AreLeft journal used left

-- one more is used
next_left : (journal : List Event) (used : ℕ) (event : Event) (left : List Event) → event ∷ left ≡ drop used journal
    → AreLeft journal (used + 1) left
next_left [] zero event left e = absurd (cc)
next_left [] (suc used) event left e = absurd (cc)
next_left (x ∷ journal) zero event left e = record { within = omega arith; are = cc }
next_left (x ∷ journal) (suc used) event left e =
    let rest = next_left journal used event left e in
    let more : suc (used + 1) ≡ suc used + 1 = omega arith in
    record { within = omega (arith, rest.within); are = subst (λ n. left ≡ drop n (x ∷ journal)) more rest.are }

module _ (journal : List Event) where
  answered_left : (s : State) (op : SharedOp) (next : ℕ → State) (used : ℕ) (left : List Event) → AreLeft journal used left
      → LeftAt journal (answered_by s op next used left)
  answered_left s op next used [] h = h
  answered_left s op next used (event ∷ left) h =
      cond_both (is_same_op op event.op) _ _ (LeftAt journal) (λ _. next_left journal used event left h.are) (λ _. h)

  after_left : (s : State) (used : ℕ) (left : List Event) (end : TurnEnd) → AreLeft journal used left
      → LeftAt journal (after_turn s used left end)
  after_left s used left (Goes t) h = h
  after_left s used left (Yields t) h = h
  after_left s used left (Asks op next) h = answered_left s op next used left h
  after_left s used left (Ends t stop) h = h

  turned_left : (config : Config) (thread : ℕ) (r : Reached) → LeftAt journal r → LeftAt journal (turned config thread r)
  turned_left config thread (At s used left) h = after_left s used left (turn_of config thread used s) h
  turned_left config thread (Ended s stop used left) h = h
  turned_left config thread (Strays s used left) h = h

  from_left : (config : Config) (thread : ℕ) (from : State) (turns : ℕ) → LeftAt journal (reach_from config thread from 0 journal turns)
  unfolding reach_from
  from_left config thread from zero = record { within = omega arith; are = refl }
  from_left config thread from (suc turns) =
      turned_left config thread (reach_from config thread from 0 journal turns) (from_left config thread from turns)

-- of a thread that goes on, the first events of its journal are used, and the others left
pub left_at : (program : Program) (config : Config) (thread : ℕ) (journal : List Event) (turns : ℕ) (s : State) (used : ℕ)
    (left : List Event)
    → reach program config thread journal turns ≡ At s used left → AreLeft journal used left
unfolding reach
left_at program config thread journal turns s used left e = subst (LeftAt journal) e (from_left journal config thread _ turns)
