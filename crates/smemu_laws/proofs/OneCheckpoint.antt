-- What is written of the checkpoint of a thread of a report, at a count, is one.
use Rattle.std.proofs.Common.{◌≡◌, ◌≢◌, inl, inr, ℕ, ◌<◌, ◌≤◌, List, refl, sym, ◌∙◌, ap, subst, arith, Some}
use Rattle.plain_lemmas.proofs.Options.{one_Ok}
use Rattle.plain_lemmas.proofs.Numbers.{cases_lt_eq_gt}
use Rattle.sm_types.specs.declared.config.Config.{Config}
use Rattle.sm_types.specs.declared.shared_op.Event.{Event}
use Rattle.sm_types.specs.declared.stop.Stop.{Stop}
use Rattle.paged_memory.specs.Image.{Program}
use Rattle.kernel_contexts.specs.State.{State}
use Rattle.kernel_contexts.specs.Run.{Reached, At, Ended, Strays, reach, turned}
use Rattle.lone_runner.specs.Parting.{IsPartingBefore, parting_at, state_at}
use Rattle.lone_runner.specs.declared.fault.AloneFault.{AloneFault}
use Rattle.lone_runner.specs.declared.fault.AloneFault.TheVariants.{EndsEarly}
use Rattle.lone_runner.proofs.Partings.{count_later, one_fault, passed, stays_so}
use Rattle.ckpt_file.specs.Checkpoint.{checkpoint}
use Rattle.report_reader.specs.Block.{Block}
use Rattle.report_reader.specs.Report.{report_in}
use Rattle.command_lines.specs.CheckpointLines.{checkpoint_line}
use Rattle.command_lines.specs.declared.checkpoint_line.CheckpointFault.TheVariants.{Count}
use Rattle.smemu.specs.Checkpoints.{FallsShort, IsCheckpointOf, IsLate, IsShort, StandsAt, StopsAt}
use Rattle.report_compare.specs.DifferLines.{parting_line}
use Rattle.smemu.specs.Replay.{IsBlockIn}
use Rattle.smemu_laws.proofs.OneAnswer.{IsOneBlock, one_block}

same_stand : (s t : State) (used made : ℕ) (left rest : List Event) → ◌≡◌ {A = Reached} (At s used left) (At t made rest) → s ≡ t
same_stand s t used made left rest e = cc

same_used : (s t : State) (used made : ℕ) (left rest : List Event) → ◌≡◌ {A = Reached} (At s used left) (At t made rest) → used ≡ made
same_used s t used made left rest e = cc

same_stop : (s t : State) (p q : Stop) (used made : ℕ) (left rest : List Event)
    → ◌≡◌ {A = Reached} (Ended s p used left) (Ended t q made rest) → p ≡ q
same_stop s t p q used made left rest e = cc

goes_or_ends : (s t : State) (q : Stop) (used made : ℕ) (left rest : List Event)
    → ◌≡◌ {A = Reached} (At s used left) (Ended t q made rest) → ⊥
goes_or_ends s t q used made left rest e = cc

module _ (program : Program) (config : Config) (thread : ℕ) (journal : List Event) (count : ℕ) where
  abbrev place : ℕ → Reached
  place n = reach program config thread journal n

  abbrev counts_at : ℕ → ℕ
  counts_at n = (state_at (place n)).count

  -- so many turns are the fewest by which so many instructions are counted
  abbrev IsFirst : ℕ → Type 0
  IsFirst n = (counts_at n ≡ count) × ((m : ℕ) → m < n → counts_at m ≢ count)

  one_turn : (m n : ℕ) → IsFirst m → IsFirst n → m ≡ n
  one_turn m n h k = elim (cases_lt_eq_gt m n) [
    | inl less ↦ absurd (k.1 m less h.0)
    | inr (inl same) ↦ same
    | inr (inr more) ↦ absurd (h.1 n more k.0)
  ]

  stands_first : (s : State) (used : ℕ) (h : StandsAt program config thread journal count s used) → IsFirst h.turns
  stands_first s used h = (ap (λ (r : Reached). (state_at r).count) h.reached ∙ h.counts, h.first)

  stops_first : (p : Stop) (h : StopsAt program config thread journal count p) → IsFirst h.turns
  stops_first p h = (ap (λ (r : Reached). (state_at r).count) h.reached ∙ h.counts, h.first)

  module _ (s t : State) (used made : ℕ) (h : StandsAt program config thread journal count s used)
      (k : StandsAt program config thread journal count t made)
    where
      same_place : ◌≡◌ {A = Reached} (At s used h.left) (At t made k.left)
      same_place = sym h.reached ∙ ap place (one_turn h.turns k.turns (stands_first s used h) (stands_first t made k)) ∙ k.reached

      one_stand : s ≡ t
      one_stand = same_stand s t used made h.left k.left same_place

      one_used : used ≡ made
      one_used = same_used s t used made h.left k.left same_place

  one_stop : (p q : Stop) → StopsAt program config thread journal count p → StopsAt program config thread journal count q → p ≡ q
  one_stop p q h k =
      same_stop h.state k.state p q h.used k.used h.left k.left
      (sym h.reached ∙ ap place (one_turn h.turns k.turns (stops_first p h) (stops_first q k)) ∙ k.reached)

  stands_or_stops : (s : State) (used : ℕ) (q : Stop) → StandsAt program config thread journal count s used
      → StopsAt program config thread journal count q → ⊥
  stands_or_stops s used q h k =
      goes_or_ends s k.state q used k.used h.left k.left
      (sym h.reached ∙ ap place (one_turn h.turns k.turns (stands_first s used h) (stops_first q k)) ∙ k.reached)

  -- ---- a run that parts before the count does not come to it

  later : (n m : ℕ) (r : Reached) → m ≤ n → place m ≡ r → turned config thread r ≡ r → counts_at n ≡ counts_at m
  later n m r l at same =
      ap (λ (x : Reached). (state_at x).count) (stays_so program config thread journal count r same m n l at ∙ sym at)

  parted : (n m : ℕ) (r : Reached) (fault : AloneFault) → m ≤ n → place m ≡ r → parting_at count r ≡ Some fault
      → counts_at n ≡ count → counts_at m ≢ count → ⊥
  parted n m (At s used left) fault l at parts shown other =
      let here : counts_at m ≡ s.count = ap (λ (x : Reached). (state_at x).count) at in
      let over = passed program config thread journal count s used left fault parts in
      let grown = count_later program config thread journal count m n l in omega (arith, here, over, grown, shown)
  parted n m (Ended s stop used left) fault l at parts shown other =
      other (sym (later n m (Ended s stop used left) l at refl) ∙ shown)
  parted n m (Strays s used left) fault l at parts shown other =
      other (sym (later n m (Strays s used left) l at refl) ∙ shown)

  not_counted : (n : ℕ) (fault : AloneFault) → counts_at n ≡ count → IsPartingBefore program config thread journal count fault → ⊥
  not_counted n fault shown p = elim (cases_lt_eq_gt p.parting.turns n) [
    | inl less ↦
        parted n p.parting.turns (place p.parting.turns) fault (omega (arith, less)) refl p.parting.parts shown
        (p.before p.parting.turns (omega arith))
    | inr (inl same) ↦ p.before n (omega (arith, same)) shown
    | inr (inr more) ↦ p.before n (omega (arith, more)) shown
  ]

  -- a thread that goes on at the count does not fall short of it
  stands_or_falls : (s : State) (used : ℕ) (fault : AloneFault) → StandsAt program config thread journal count s used
      → FallsShort program config thread journal count fault → ⊥
  stands_or_falls s used fault h (inl before) = not_counted h.turns fault (stands_first s used h).0 before
  stands_or_falls s used fault h (inr k) = stands_or_stops s used k.0 h k.1

  -- and one that does falls short in one way
  one_short_fault : (f g : AloneFault) → FallsShort program config thread journal count f
      → FallsShort program config thread journal count g → f ≡ g
  one_short_fault f g (inl h) (inl k) = one_fault program config thread journal count f g h.parting k.parting
  one_short_fault f g (inl h) (inr k) = absurd (not_counted k.1.turns f (stops_first k.0 k.1).0 h)
  one_short_fault f g (inr h) (inl k) = absurd (not_counted h.1.turns g (stops_first h.0 h.1).0 k)
  one_short_fault f g (inr h) (inr k) = h.2 ∙ ap (EndsEarly count) (one_stop h.0 k.0 h.1 k.1) ∙ sym k.2

-- ---- the texts

module _ (file report : List ℕ) (thread count : ℕ) (a b : IsBlockIn file report thread) where
  one : IsOneBlock a b
  one = one_block file report thread a b

  stands_there : (s : State) (used : ℕ) → StandsAt a.program a.config thread a.block.journal count s used
      → StandsAt b.program b.config thread b.block.journal count s used
  stands_there s used h =
      subst (λ (k : Block). StandsAt b.program b.config thread k.journal count s used) one.block
      (subst (λ (c : Config). StandsAt b.program c thread a.block.journal count s used) one.config
      (subst (λ (p : Program). StandsAt p a.config thread a.block.journal count s used) one.program h))

  falls_there : (fault : AloneFault) → FallsShort a.program a.config thread a.block.journal count fault
      → FallsShort b.program b.config thread b.block.journal count fault
  falls_there fault h =
      subst (λ (k : Block). FallsShort b.program b.config thread k.journal count fault) one.block
      (subst (λ (c : Config). FallsShort b.program c thread a.block.journal count fault) one.config
      (subst (λ (p : Program). FallsShort p a.config thread a.block.journal count fault) one.program h))

  not_late : count < a.block.count → b.block.count ≤ count → ⊥
  not_late below late =
      let same = ap (λ (k : Block). k.count) one.block in omega (arith, same, below, late)

pub one_checkpoint : (file report : List ℕ) (thread count : ℕ) (text other : List ℕ) → IsCheckpointOf file report thread count text
    → IsCheckpointOf file report thread count other → text ≡ other
one_checkpoint file report thread count text other h g =
    let said = one_Ok (report_in report) h.at.said g.at.said h.at.reads g.at.reads in
    let there = stands_there file report thread count h.at g.at h.state h.used h.stands in
    let state =
    one_stand g.at.program g.at.config thread g.at.block.journal count h.state g.state h.used g.used there g.stands in
    let used =
    one_used g.at.program g.at.config thread g.at.block.journal count h.state g.state h.used g.used there g.stands in
    h.is_text ∙ (λ i. checkpoint (said i).image (said i).options (state i) thread (used i)) ∙ sym g.is_text

pub one_late : (file report : List ℕ) (thread count : ℕ) (text other : List ℕ) → IsLate file report thread count text
    → IsLate file report thread count other → text ≡ other
one_late file report thread count text other h g =
    let same = one file report thread count h.at g.at in
    h.is_text ∙ ap (λ (k : Block). checkpoint_line (Count k.count)) same.block ∙ sym g.is_text

pub one_short : (file report : List ℕ) (thread count : ℕ) (text other : List ℕ) → IsShort file report thread count text
    → IsShort file report thread count other → text ≡ other
one_short file report thread count text other h g =
    let there = falls_there file report thread count h.at g.at h.fault h.short in
    let fault = one_short_fault g.at.program g.at.config thread g.at.block.journal count h.fault g.fault there g.short in
    h.is_text ∙ ap parting_line fault ∙ sym g.is_text

pub stands_or_late : (file report : List ℕ) (thread count : ℕ) (text other : List ℕ) → IsCheckpointOf file report thread count text
    → IsLate file report thread count other → ⊥
stands_or_late file report thread count text other h g = not_late file report thread count h.at g.at h.below g.late

pub short_or_late : (file report : List ℕ) (thread count : ℕ) (text other : List ℕ) → IsShort file report thread count text
    → IsLate file report thread count other → ⊥
short_or_late file report thread count text other h g = not_late file report thread count h.at g.at h.below g.late

pub stands_or_short : (file report : List ℕ) (thread count : ℕ) (text other : List ℕ) → IsCheckpointOf file report thread count text
    → IsShort file report thread count other → ⊥
stands_or_short file report thread count text other h g =
    stands_or_falls g.at.program g.at.config thread g.at.block.journal count h.state h.used g.fault
    (stands_there file report thread count h.at g.at h.state h.used h.stands) g.short
