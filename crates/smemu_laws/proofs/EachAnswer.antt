-- Each command of a script has an answer, wherever in a run that ends the one before it led.
use Rattle.std.proofs.Common.{◌≡◌, ◌≢◌, ◌⊎◌, inl, inr, ℕ, zero, suc, ◌+◌, ◌-◌, ◌<◌, ◌≤◌, ◌++◌, List, [], ◌∷◌, min, refl, ap, sym, ◌∙◌}
use Rattle.std.proofs.Common.{subst, arith}
use Rattle.plain_lemmas.proofs.Numbers.{cases_lt_eq_gt}
use Rattle.kernel_contexts.specs.State.{State}
use Rattle.lone_runner.specs.Parting.{EndsAt, state_at}
use Rattle.lone_runner.proofs.Shown.{below_all}
use Rattle.script_reader.specs.declared.command.DebugCommand.{DebugCommand}
use Rattle.script_reader.specs.declared.command.DebugCommand.TheVariants.{Step, Back, Goto, Break}
use Rattle.sme_debugger.specs.Answers.{Answers, IsNext, NoneBetween, shown_text}
use Rattle.sme_debugger.specs.Recording.{Recording, Shows, counts_by, reached_by}
use Rattle.sme_debugger.proofs.Recorded.{none_at_first, none_more}
use Rattle.smemu.specs.Debug.{AllAnswers}

-- ---- the first number up to one that a function makes that, if there is one

record IsFirst (f : ℕ → ℕ) (aim first : ℕ) : Type 0 where
  there : f first ≡ aim
  before : (earlier : ℕ) → earlier < first → f earlier ≢ aim

equal_or : (a b : ℕ) → (a ≡ b) ⊎ (a ≢ b)
equal_or a b = elim (cases_lt_eq_gt a b) [
  | inl less ↦ inr (λ same. absurd (omega (arith, less, same)))
  | inr (inl same) ↦ inl same
  | inr (inr more) ↦ inr (λ same. absurd (omega (arith, more, same)))
]

none_below : (f : ℕ → ℕ) (aim n : ℕ) → ((m : ℕ) → m < n → f m ≢ aim) → f n ≢ aim → (m : ℕ) → m < suc n → f m ≢ aim
none_below f aim n before here m l = elim (cases_lt_eq_gt m n) [
  | inl less ↦ before m less
  | inr (inl same) ↦ λ there. here (ap f (sym same) ∙ there)
  | inr (inr more) ↦ absurd (omega (arith, l, more))
]

first_below : (f : ℕ → ℕ) (aim n : ℕ) → ((first : ℕ) × IsFirst f aim first) ⊎ ((m : ℕ) → m < n → f m ≢ aim)
first_below f aim zero = inr (λ m l. absurd (omega (arith, l)))
first_below f aim (suc n) = elim (first_below f aim n) [
  | inl found ↦ inl found
  | inr none ↦ elim (equal_or (f n) aim) [
    | inl there ↦ inl (n, record { there = there; before = none })
    | inr other ↦ inr (none_below f aim n none other)
  ]
]

-- ---- a run that ends shows a state at each count

module _ (r : Recording) (ends : EndsAt r.program r.config r.thread r.journal r.last) where
  last_there : counts_by r ends.run.turns ≡ r.last
  last_there = ap (λ x. (state_at x).count) ends.run.ends ∙ ends.counts

  shown_at : (count : ℕ) → count ≤ r.last → (state : State) × Shows r count state
  shown_at count most = elim (first_below (counts_by r) count (suc ends.run.turns)) [
    | inl found ↦ (
      state_at (reached_by r found.0),
      record { turns = found.0; reached = refl; counts = found.1.there; first = found.1.before },
    )
    | inr none ↦ absurd (
        let below : counts_by r ends.run.turns < count =
        below_all r.program r.config r.thread r.journal count ends.run.turns (λ m l. none m (omega (arith, l))) in
        let last = last_there in
        omega (arith, below, last, most))
  ]

  -- ---- so each command has an answer there

  seek : (from address d : ℕ) → from + d ≤ r.last
      → ((place : ℕ) × IsNext r from address place) ⊎ NoneBetween r from (from + d + 1) address
  seek from address zero most = let z : from + 0 + 1 ≡ from + 1 = omega arith in inr (rw z (none_at_first r from address))
  seek from address (suc d) most = elim (seek from address d (omega (arith, most))) [
    | inl found ↦ inl found
    | inr none ↦
        let here = shown_at (from + suc d) most in
        let z : from + suc d ≡ from + d + 1 = omega arith in
        let before : NoneBetween r from (from + suc d) address = rw z none in
        elim (equal_or here.0.core.scalars.pc address) [
          | inl there ↦ inl (
            from + suc d,
            record {
              above = omega arith;
              within = most;
              state = here.0;
              shown = here.1;
              there = there;
              first = before;
            },
          )
          | inr other ↦ inr (none_more r from (from + suc d) address here.0 before here.1 other)
        ]
  ]

  -- a place within the run, and a text
  abbrev Answer : ℕ → DebugCommand → Type 0
  Answer from command = (place : ℕ) × (text : List ℕ) × Answers r from command place text × (place ≤ r.last)

  breaks : (from address : ℕ) → from ≤ r.last → Answer from (Break address)
  breaks from address most =
      let z : from + (r.last - from) ≡ r.last = omega (arith, most) in
      elim (seek from address (r.last - from) (omega (arith, most))) [
        | inl found ↦ (found.0, [], inl (found.1, refl), found.1.within)
        | inr none ↦ (
          r.last,
          _,
          inr (subst (λ n. NoneBetween r from (n + 1) address) z none, refl, refl),
          omega arith,
        )
      ]

  answer_of : (from : ℕ) (command : DebugCommand) → from ≤ r.last → Answer from command
  answer_of from (Step n) most = (min (from + n) r.last, _, record { leads = refl; prints = refl }, omega arith)
  answer_of from (Back n) most = (from - n, [], (refl, refl), omega (arith, most))
  answer_of from (Goto n) most = (min n r.last, _, record { leads = refl; prints = refl }, omega arith)
  answer_of from (Break address) most = breaks from address most
  answer_of from command most =
      let here = shown_at from most in
      (from, shown_text command here.0, record { stays = refl; state = here.0; shown = here.1; prints = refl }, most)

  pub answers_of : (from : ℕ) (commands : List DebugCommand) → from ≤ r.last → (text : List ℕ) × AllAnswers r from commands text
  answers_of from [] most = ([], (from, (refl, refl)))
  answers_of from (command ∷ commands) most =
      let one = answer_of from command most in
      let rest = answers_of one.0 commands one.3 in (
        one.1 ++ rest.0,
        (rest.1.0, (one.0, one.1, rest.0, one.2, rest.1.1, refl)),
      )
