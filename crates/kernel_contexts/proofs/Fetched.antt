-- A turn that counts an instruction executes a word that stands at PC.
use Rattle.std.proofs.Common.{◌≡◌, ℕ, suc, ◌==◌, Bool, true, false, cond, Option, Some, None, refl, ap, sym, ◌∙◌, arith}
use Rattle.std.specs.Prelude.{nat_le}
use Rattle.std.specs.FinMap.{get}
use Rattle.plain_lemmas.proofs.Options.{neither_some}
use Rattle.sm_types.specs.declared.config.Config.{Config}
use Rattle.sm_types.specs.declared.shared_op.SharedOp.{SharedOp}
use Rattle.sm_types.specs.declared.stop.Exception.{Exception}
use Rattle.sm_types.specs.declared.stop.Stop.TheVariants.{Budget, TraceFull}
use Rattle.paged_memory.specs.Memory.{word_at}
use Rattle.machine_step.specs.ProcessorState.{vector_bytes}
use Rattle.machine_step.specs.Effect.{effect_of, fault_of, unless_fault, early_fault, alignment_fault, fetch_fault, word_of}
use Rattle.machine_step.specs.Several.{halts_at}
use Rattle.kernel_contexts.specs.State.{State}
use Rattle.kernel_contexts.specs.Call.{TurnEnd, Goes, Asks, Ends, journal_limit}
use Rattle.kernel_contexts.specs.Several.{halts_before}
use Rattle.kernel_contexts.specs.Turn.{turn_of, after_effect, instruction_of, is_poll_due, poll_of, poll_op, polled_with, is_delivery_due}
use Rattle.kernel_contexts.specs.Turn.{delivery_of, delivered_to, handled, released, lowest_signal}

-- the state after a turn that goes on
abbrev state_of_end : State → TurnEnd → State
state_of_end s (Goes t) = t
state_of_end s other = s

goes_where : (b : Bool) (x y : TurnEnd) (t : State) → cond b x y ≡ Goes t → (x ≡ Goes t → ⊥) → y ≡ Goes t
goes_where true x y t e f = absurd (f e)
goes_where false x y t e f = e

asks_no_more : (b : Bool) (s t : State) (op : SharedOp) (next : ℕ → State) → cond b (Ends s TraceFull) (Asks op next) ≡ Goes t → ⊥
asks_no_more true s t op next e = cc
asks_no_more false s t op next e = cc

poll_asks : (thread events : ℕ) (s t : State) → poll_of thread events s ≡ Goes t → ⊥
poll_asks thread events s t e = asks_no_more (nat_le journal_limit events) s t (poll_op thread) (polled_with s) e

handled_counts : (config : Config) (signal handler : ℕ) (s t : State) (o : Option ℕ) → handled config signal handler s o ≡ Goes t
    → t.count ≡ s.count
handled_counts config signal handler s t None e = sym (ap (λ (end : TurnEnd). (state_of_end s end).count) e)
handled_counts config signal handler s t (Some address) e = cc

delivered_counts : (config : Config) (signal : ℕ) (s t : State) (o : Option ℕ) → delivered_to config signal s o ≡ Goes t
    → t.count ≡ s.count
delivered_counts config signal s t None e = cc
delivered_counts config signal s t (Some handler) e = handled_counts config signal handler (released s) t _ e

-- a turn that counts is that of an instruction
pub by_instruction : (config : Config) (thread events : ℕ) (s t : State) → turn_of config thread events s ≡ Goes t
    → t.count ≡ suc s.count → instruction_of config thread events s ≡ Goes t
unfolding turn_of
by_instruction config thread events s t e one =
    goes_where (is_delivery_due config s) (delivery_of config s) _ t
    (goes_where (is_poll_due config s) (poll_of thread events s) _ t
    (goes_where (s.count == config.budget) (Ends s Budget) _ t e (λ h. cc))
    (λ h. poll_asks thread events s t h))
    (λ h.
    let same = delivered_counts config (lowest_signal s) s t (get s.handlers (lowest_signal s)) h in omega (arith, one, same))

there : (o : Option ℕ) → fetch_fault o ≡ None → (word : ℕ) × (o ≡ Some word)
there None h = cc
there (Some word) h = (word, refl)

module _ (config : Config) (thread events : ℕ) (s t : State) where
  abbrev vl : ℕ
  vl = vector_bytes config.vl

  unfaulted : (fault : Option Exception) → fault_of vl s.core ≡ fault
      → after_effect config thread events s (unless_fault vl fault s.core) ≡ Goes t → fetch_fault (word_of s.core) ≡ None
  unfolding fault_of
  unfaulted (Some exception) is goes = cc
  unfaulted None is goes =
      let early = neither_some (early_fault s.core) _ is in
      let aligned = neither_some (alignment_fault s.core) _ early.0 in
      (neither_some (fetch_fault (word_of s.core)) _ aligned.1).0

  pub fetched : turn_of config thread events s ≡ Goes t → t.count ≡ suc s.count
      → (word : ℕ) × (word_at s.core.memory s.core.scalars.pc ≡ Some word)
  unfolding effect_of
  fetched e one = there (word_of s.core) (unfaulted (fault_of vl s.core) refl (by_instruction config thread events s t e one))

-- and that is none to halt before, where the state is not
pub unhalted : (halts : ℕ → ℕ → Bool) (s : State) (word : ℕ) → word_at s.core.memory s.core.scalars.pc ≡ Some word
    → halts_before halts s ≡ false → halts s.core.scalars.pc word ≡ false
unhalted halts s word is h = ap (halts_at halts s.core.scalars.pc) (sym is) ∙ h
