-- The rest of a run is the rest of it.
use Rattle.std.proofs.Common.{◌≡◌, inl, inr, ℕ, zero, suc, ◌+◌, ◌-◌, ◌<◌, ◌≤◌, List, None, refl, ap, sym, ◌∙◌, arith}
use Rattle.std.proofs.lemmas.Option.{none-some}
use Rattle.plain_lemmas.proofs.Numbers.{cases_le}
use Rattle.sm_types.specs.declared.config.Config.{Config}
use Rattle.sm_types.specs.declared.shared_op.Event.{Event}
use Rattle.sm_types.specs.declared.stop.Stop.{Stop}
use Rattle.paged_memory.specs.Image.{Program}
use Rattle.kernel_contexts.specs.State.{State}
use Rattle.kernel_contexts.specs.Run.{At, Ended, reach, reach_from, turned}
use Rattle.lone_runner.specs.LoneRun.{IsLoneRun}
use Rattle.lone_runner.specs.Parting.{IsParting, parting_at}
use Rattle.lone_runner.specs.Rest.{IsRestOfRun, IsPartingFrom, RestIsRest}
use Rattle.lone_runner.specs.declared.fault.AloneFault.{AloneFault}
use Rattle.lone_runner.proofs.Later.{at_before}
use Rattle.lone_runner.proofs.Partings.{stays_so}

module _ (program : Program) (config : Config) (thread : ℕ) (journal : List Event) (turns : ℕ) (s : State) (used : ℕ) (left : List Event)
    (at : reach program config thread journal turns ≡ At s used left) where
  pub join : (more : ℕ) → reach program config thread journal (turns + more) ≡ reach_from config thread s used left more
  unfolding reach reach_from
  join zero = let z : turns + 0 ≡ turns = omega arith in rw z at
  join (suc more) = let z : turns + suc more ≡ suc (turns + more) = omega arith in rw z (ap (turned config thread) (join more))

  joined : (n : ℕ) → turns ≤ n → reach program config thread journal n ≡ reach_from config thread s used left (n - turns)
  joined n l =
      let z : turns + (n - turns) ≡ n = omega arith in ap (reach program config thread journal) (sym z) ∙ join (n - turns)

  not_ended : (n : ℕ) (t : State) (stop : Stop) (done : ℕ) (rest : List Event) → n ≤ turns
      → reach program config thread journal n ≡ Ended t stop done rest → ⊥
  not_ended n t stop done rest l e =
      let stays = stays_so program config thread journal 0 (Ended t stop done rest) refl n turns l e in
      let clash : At s used left ≡ Ended t stop done rest = sym at ∙ stays in cc

  ends_so : (t : State) (stop : Stop) → IsLoneRun program config thread journal t stop → IsRestOfRun config thread s used left t stop
  ends_so t stop h = elim (cases_le turns h.turns) [
    | inl later ↦ record { turns = h.turns - turns; used = h.used; ends = sym (joined h.turns later) ∙ h.ends }
    | inr before ↦ absurd (not_ended h.turns t stop h.used _ (omega (arith, before)) h.ends)
  ]

  whole_so : (t : State) (stop : Stop) → IsRestOfRun config thread s used left t stop → IsLoneRun program config thread journal t stop
  whole_so t stop h = record { turns = turns + h.turns; used = h.used; ends = join h.turns ∙ h.ends }

  module _ (count : ℕ) (fault : AloneFault) (most : s.count ≤ count) where
    none_before : (n : ℕ) → n ≤ turns → parting_at count (reach program config thread journal n) ≡ None
    none_before n l = at_before program config thread journal n turns (reach program config thread journal n) s used left l refl at count
        most

    parts_so : IsParting program config thread journal count fault → IsPartingFrom config thread s used left count fault
    parts_so h = elim (cases_le turns h.turns) [
      | inl later ↦ record {
        turns = h.turns - turns;
        parts = ap (parting_at count) (sym (joined h.turns later)) ∙ h.parts;
        first = λ earlier l. ap (parting_at count) (sym (join earlier)) ∙ h.first (turns + earlier) (omega (arith, l, later));
      }
      | inr before ↦ absurd (none-some fault (sym (none_before h.turns (omega (arith, before))) ∙ h.parts))
    ]

    first_so : (h : IsPartingFrom config thread s used left count fault) (earlier : ℕ) → earlier < turns + h.turns
        → parting_at count (reach program config thread journal earlier) ≡ None
    first_so h earlier l = elim (cases_le turns earlier) [
      | inl later ↦ ap (parting_at count) (joined earlier later) ∙ h.first (earlier - turns) (omega (arith, l, later))
      | inr before ↦ none_before earlier (omega (arith, before))
    ]

    parted_so : IsPartingFrom config thread s used left count fault → IsParting program config thread journal count fault
    parted_so h = record {
      turns = turns + h.turns;
      parts = ap (parting_at count) (join h.turns) ∙ h.parts;
      first = first_so h;
    }

  pub rest_is_rest : RestIsRest program config thread journal turns s used left
  rest_is_rest = record {
    ends = ends_so;
    whole = whole_so;
    parts = λ count fault most h. parts_so count fault most h;
    parted = λ count fault most h. parted_so count fault most h;
  }
