-- Turns of which none is halted before: at none of them is anything told, but in the state after the last.
use Rattle.std.proofs.Common.{inl, inr, ◌≡◌, ℕ, zero, suc, ◌+◌, ◌-◌, ◌<◌, ◌≤◌, Bool, false, List, Option, Some, None}
use Rattle.std.proofs.Common.{refl, ap, sym, ◌∙◌, subst, arith}
use Rattle.std.proofs.lemmas.Bool.{or_parts, both_ways}
use Rattle.plain_lemmas.proofs.Numbers.{cases_lt_eq_gt}
use Rattle.sm_types.specs.declared.config.Config.{Config}
use Rattle.sm_types.specs.declared.shared_op.Event.{Event}
use Rattle.paged_memory.specs.Image.{Program}
use Rattle.paged_memory.specs.Memory.{word_at}
use Rattle.machine_step.specs.Several.{halts_at}
use Rattle.kernel_contexts.specs.State.{State}
use Rattle.kernel_contexts.specs.Call.{Goes}
use Rattle.kernel_contexts.specs.Turn.{turn_of}
use Rattle.kernel_contexts.specs.Several.{GoesApart, GoesBy, halts_before, never}
use Rattle.kernel_contexts.specs.Run.{Reached, At, reach}
use Rattle.lazy_saving.specs.Dormant.{Places}
use Rattle.lone_runner.specs.Parting.{state_at}
use Rattle.lone_runner.proofs.Partings.{reach_counts}
use Rattle.lone_runner.proofs.Several.{gone_at}
use Rattle.abi_checker.specs.Marks.{IsMarkedCall, is_call_word}
use Rattle.abi_checker.specs.Near.{is_near}
use Rattle.abi_checker.specs.Halting.{halts_for}
use Rattle.abi_checker.specs.Checked.{states_of}
use Rattle.abi_checker.specs.Watching.{IsWatched}
use Rattle.abi_checker.specs.declared.watch.Watch.{Watch}
use Rattle.abi_checker.proofs.Counted.{has_word}
use Rattle.abi_checker.proofs.Settled.{none_settles}
use Rattle.abi_checker.proofs.Went.{went_uncalled, none_back}

-- ---- turns that are told to halt are turns

never_at : (pc : ℕ) (o : Option ℕ) → halts_at never pc o ≡ false
never_at pc None = refl
never_at pc (Some word) = refl

pub goes_by : (halts : ℕ → ℕ → Bool) (config : Config) (thread events n : ℕ) (s t : State)
    → GoesApart halts false config thread events n s t → GoesBy config thread events n s t
goes_by halts config thread events zero s t g = g
goes_by halts config thread events (suc n) s t g = (
  g.0,
  goes_by halts config thread events n s g.0 g.1,
  g.2,
  refl,
  never_at g.0.core.scalars.pc (word_at g.0.core.memory g.0.core.scalars.pc),
)

-- ---- the turns

-- each of these turns goes on to the next state, and counts an instruction
pub record AreCounted (config : Config) (thread events : ℕ) (run : ℕ → State) (here n : ℕ) : Type 0 where
  pub goes : (j : ℕ) → j < n → turn_of config thread events (run (here + j)) ≡ Goes (run (here + suc j))
  pub counts : (j : ℕ) → j < n → (run (here + suc j)).count ≡ suc (run (here + j)).count

module _ (program : Program) (config : Config) (thread : ℕ) (journal : List Event) (here used : ℕ) (left : List Event) (s : State)
    (at : reach program config thread journal here ≡ At s used left) where
  abbrev run : ℕ → State
  run = states_of program config thread journal

  goes_on : (n : ℕ) (t : State) → GoesBy config thread used n s t → (j : ℕ) → j < n
      → turn_of config thread used (run (here + j)) ≡ Goes (run (here + suc j))
  goes_on zero t g j l = absurd (omega (arith, l))
  goes_on (suc n) t g j l =
      elim (cases_lt_eq_gt j n) as (λ _. turn_of config thread used (run (here + j)) ≡ Goes (run (here + suc j))) [
        | inl less ↦ goes_on n g.0 g.1 j less
        | inr (inl same) ↦
            let before = ap state_at (gone_at program config thread journal 0 here n used left s g.0 at g.1) in
            let after = ap state_at (gone_at program config thread journal 0 here (suc n) used left s t at g) in
            subst (λ i. turn_of config thread used (run (here + i)) ≡ Goes (run (here + suc i))) (sym same)
            (ap (turn_of config thread used) before ∙ g.2 ∙ ap Goes (sym after))
        | inr (inr more) ↦ absurd (omega (arith, l, more))
      ]

  -- each counts one instruction at most
  counts_by : (from n : ℕ) → (run (from + n)).count ≤ (run from).count + n
  counts_by from zero =
      let none : from + 0 ≡ from = omega arith in
      subst (λ i. (run i).count ≤ (run from).count + 0) (sym none) (omega arith)
  counts_by from (suc n) =
      let more : from + suc n ≡ suc (from + n) = omega arith in
      let one = reach_counts program config thread journal 0 (from + n) in
      let most = one.most in
      let before = counts_by from n in
      subst (λ i. (run i).count ≤ (run from).count + suc n) (sym more) (omega (arith, most, before))

  counts_on : (n : ℕ) (t : State) → GoesBy config thread used n s t → t.count ≡ s.count + n → (j : ℕ) → j < n
      → (run (here + suc j)).count ≡ suc (run (here + j)).count
  counts_on n t g total j l =
      let first : (run here).count ≡ s.count = ap (λ (r : Reached). (state_at r).count) at in
      let last : (run (here + n)).count ≡ t.count =
      ap (λ (r : Reached). (state_at r).count) (gone_at program config thread journal 0 here n used left s t at g) in
      let before = counts_by here j in
      let step = reach_counts program config thread journal 0 (here + j) in
      let more : here + suc j ≡ suc (here + j) = omega arith in
      let one : (run (here + suc j)).count ≤ (run (here + j)).count + 1 =
      subst (λ i. (run i).count ≤ (run (here + j)).count + 1) (sym more) step.most in
      let rest : here + suc j + (n - suc j) ≡ here + n = omega (arith, l) in
      let after : (run (here + n)).count ≤ (run (here + suc j)).count + (n - suc j) =
      subst (λ i. (run i).count ≤ (run (here + suc j)).count + (n - suc j)) rest
      (counts_by (here + suc j) (n - suc j)) in
      omega (arith, first, last, total, before, one, after, l)

  pub are_counted : (n : ℕ) (t : State) → GoesBy config thread used n s t → t.count ≡ s.count + n
      → AreCounted config thread used run here n
  are_counted n t g total = record { goes = goes_on n t g; counts = counts_on n t g total }

  pub run_after : (n : ℕ) (t : State) → GoesBy config thread used n s t → run (here + n) ≡ t
  run_after n t g = ap state_at (gone_at program config thread journal 0 here n used left s t at g)

  -- it is told to halt before none of them
  pub free_each : (halts : ℕ → ℕ → Bool) (n : ℕ) (t : State) → GoesApart halts false config thread used n s t → (j : ℕ) → j < n
      → halts_before halts (run (here + j)) ≡ false
  free_each halts zero t g j l = absurd (omega (arith, l))
  free_each halts (suc n) t g j l = elim (cases_lt_eq_gt j n) as (λ _. halts_before halts (run (here + j)) ≡ false) [
    | inl less ↦ free_each halts n g.0 g.1 j less
    | inr (inl same) ↦
        let before = run_after n g.0 (goes_by halts config thread used n s g.0 g.1) in
        subst (λ i. halts_before halts (run (here + i)) ≡ false) (sym same) (ap (halts_before halts) before ∙ g.4)
    | inr (inr more) ↦ absurd (omega (arith, l, more))
  ]

-- ---- their states

module _ (config : Config) (thread events : ℕ) (run : ℕ → State) (here n : ℕ) (c : AreCounted config thread events run here n)
    (watch : Watch) (free : (j : ℕ) → j < n → halts_before (halts_for watch.near) (run (here + j)) ≡ false) where
  -- the word at PC is no call's, and no call comes back there
  free_word : (j : ℕ) → j < n → (word : ℕ)
      → word_at (run (here + j)).core.memory (run (here + j)).core.scalars.pc ≡ Some word
      → (is_call_word word ≡ false) × (is_near watch.near (run (here + j)).core.scalars.pc ≡ false)
  free_word j l word there =
      let pc = (run (here + j)).core.scalars.pc in
      or_parts (is_call_word word) (is_near watch.near pc)
      (subst (λ o. halts_at (halts_for watch.near) pc o ≡ false) there (free j l))

  -- none of the turns is a marked call
  pub no_mark : (j : ℕ) → j < n → (p : Places) → ¬ IsMarkedCall p (run (here + j)) (run (here + suc j))
  no_mark j l p marked =
      let call = marked.call in both_ways (is_call_word call.word) (free_word j l call.word call.there).0 call.calls

  away : (j : ℕ) → j < n → is_near watch.near (run (here + j)).core.scalars.pc ≡ false
  away j l =
      let w = has_word config thread events (run (here + j)) (run (here + suc j)) (c.goes j l) (c.counts j l) in
      (free_word j l w.0 w.1).1

  -- what is told stays so before the last
  watched_next : (j : ℕ) → suc j < n → IsWatched run (here + j) watch → IsWatched run (here + suc j) watch
  watched_next j l w =
      let here_less : j < n = omega (arith, l) in
      let more : here + suc j ≡ suc (here + j) = omega arith in
      let grows = c.counts j here_less in
      let there : is_near watch.near (run (here + suc j)).core.scalars.pc ≡ false = away (suc j) l in
      subst (λ i. IsWatched run i watch) (sym more)
      (went_uncalled run (here + j) watch (run (here + suc j)) w (ap run (sym more))
      (subst (λ i. (run (here + j)).count ≤ (run i).count) more (omega (arith, grows)))
      watch
      (none_settles (run (here + suc j)) watch w.near there)
      (λ call p r. absurd (none_back run (here + j) watch w
      (ap (λ (t : State). is_near watch.near t.core.scalars.pc) (ap run (sym more)) ∙ there) call p r))
      (subst (λ (t : State). (p : Places) → ¬ IsMarkedCall p (run (here + j)) t) (ap run more) (no_mark j here_less)))

  pub watched_each : IsWatched run here watch → (j : ℕ) → j < n → IsWatched run (here + j) watch
  watched_each w zero l = let none : here + 0 ≡ here = omega arith in subst (λ i. IsWatched run i watch) (sym none) w
  watched_each w (suc j) l = watched_next j l (watched_each w j (omega (arith, l)))
