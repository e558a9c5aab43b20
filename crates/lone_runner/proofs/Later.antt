-- From what is shown at a count to a later one, and to the end of a run.
use Rattle.std.proofs.Common.{◌≡◌, ℕ, ◌<◌, ◌≤◌, List, refl, ap, sym, ◌∙◌, arith}
use Rattle.std.proofs.Common.{Some, None}
use Rattle.std.proofs.lemmas.Option.{none-some}
use Rattle.sm_types.specs.declared.config.Config.{Config}
use Rattle.sm_types.specs.declared.shared_op.Event.{Event}
use Rattle.paged_memory.specs.Image.{Program}
use Rattle.kernel_contexts.specs.State.{State}
use Rattle.kernel_contexts.specs.Run.{Reached, At, Ended, Strays, reach}
use Rattle.lone_runner.specs.Parting.{parting_at, state_at, unanswered}
use Rattle.lone_runner.specs.declared.fault.AloneFault.{AloneFault}
use Rattle.lone_runner.specs.declared.fault.AloneFault.TheVariants.{EndsEarly}
use Rattle.lone_runner.proofs.Partings.{count_later, stays_so}
use Rattle.lone_runner.proofs.Shown.{none_yet, early}

-- a way of parting before a count is one from each later count
pub parts_later : (n last : ℕ) (fault : AloneFault) (r : Reached) → n ≤ last → parting_at n r ≡ Some fault → (state_at r).count < n
    → parting_at last r ≡ Some fault
parts_later n last fault (At s used left) within parts less =
    absurd (none-some fault (sym (none_yet n s used left (omega (arith, less))) ∙ parts))
parts_later n last fault (Ended s stop used left) within parts less =
    early last s stop used left (omega (arith, less, within)) ∙ sym (early n s stop used left less) ∙ parts
parts_later n last fault (Strays s used left) within parts less = parts

-- where it does not part before a count, it does not part from a later one
pub none_later : (n last : ℕ) (r : Reached) → n ≤ last → parting_at n r ≡ None → (state_at r).count < n → parting_at last r ≡ None
none_later n last (At s used left) within none less = none_yet last s used left (omega (arith, less, within))
none_later n last (Ended s stop used left) within none less =
    absurd (none-some (EndsEarly s.count stop) (sym none ∙ early n s stop used left less))
none_later n last (Strays s used left) within none less = absurd (none-some (unanswered s used left) (sym none))

module _ (program : Program) (config : Config) (thread : ℕ) (journal : List Event) where
  abbrev counted_at : ℕ → ℕ
  counted_at m = (state_at (reach program config thread journal m)).count

  -- where it goes on after so many turns, it has gone on before
  pub at_before : (m n : ℕ) (r : Reached) (s : State) (used : ℕ) (left : List Event) → m ≤ n → reach program config thread journal m ≡ r
      → reach program config thread journal n ≡ At s used left → (count : ℕ) → s.count ≤ count
      → parting_at count (reach program config thread journal m) ≡ None
  at_before m n (At t done rest) s used left l at there count most =
      let grown = count_later program config thread journal count m n l in
      let here : counted_at m ≡ t.count = ap (λ (r : Reached). (state_at r).count) at in
      let later : counted_at n ≡ s.count = ap (λ (r : Reached). (state_at r).count) there in
      ap (parting_at count) at ∙ none_yet count t done rest (omega (arith, grown, here, later, most))
  at_before m n (Ended t stop done rest) s used left l at there count most =
      let stays = stays_so program config thread journal count (Ended t stop done rest) refl m n l at in
      let clash : At s used left ≡ Ended t stop done rest = sym there ∙ stays in cc
  at_before m n (Strays t done rest) s used left l at there count most =
      let stays = stays_so program config thread journal count (Strays t done rest) refl m n l at in
      let clash : At s used left ≡ Strays t done rest = sym there ∙ stays in cc
