-- The turns of a resident, one after the other.
use Rattle.std.proofs.Common.{◌≡◌, ℕ, zero, suc, ◌+◌, ◌≤◌, ◌<◌, ◌++◌, List, [], ◌∷◌, length, refl, ap, sym, ◌∙◌, append_assoc}
use Rattle.std.proofs.Common.{subst, arith, Option, Some, None, true, false, cond, Bool, inl, inr, add-one, is_some}
use Rattle.std.specs.Prelude.{◌&&◌}
use Rattle.std.proofs.lemmas.List.{append-nil, length_push}
use Rattle.std.proofs.lemmas.Option.{same_Some}
use Rattle.sm_types.specs.declared.config.Config.{Config}
use Rattle.sm_types.specs.declared.shared_op.SharedOp.{SharedOp}
use Rattle.sm_types.specs.declared.shared_op.Event.{Event}
use Rattle.sm_types.specs.declared.stop.Stop.{Stop}
use Rattle.mem_access.specs.declared.bank.Bank.{Bank}
use Rattle.shared_region.specs.Tickets.{Refusals, IsCause}
use Rattle.shared_region.specs.declared.port.PortStop.TheVariants as refused
use Rattle.kernel_contexts.specs.State.{State}
use Rattle.kernel_contexts.specs.Call.{TurnEnd, Goes, Yields, Asks, Ends}
use Rattle.kernel_contexts.specs.Turn.{turn_of}
use Rattle.kernel_contexts.specs.Several.{GoesApart, never}
use Rattle.kernel_contexts.specs.Stance.{TurnsOn}
use Rattle.kernel_contexts.specs.Context.{GoesOn, TurnsOver, TurnsUnless, AsksFor, made_since, owns, vectors_on}
use Rattle.kernel_contexts.specs.Context.{state_on, turn_with, made_by, stop_of, thread_of, config_of}
use Rattle.kernel_contexts.specs.Needs.{needs_vectors}
use Rattle.kernel_contexts.specs.declared.context.Context.{Context}
use Rattle.kernel_contexts.specs.declared.context.Turn.{Turn}
use Rattle.kernel_contexts.specs.declared.context.Turn.TheVariants as turns
use Rattle.kernel_contexts.proofs.Answered.{made_events, asked_turned}
use Rattle.kernel_contexts.proofs.Several.{nothing_refused}
use Rattle.kernel_contexts.proofs.Turns.{ends_turned, yields_turned}
use Rattle.kernel_contexts.specs.Owner.{is_owner}
use Rattle.core_unit.specs.Course.{Course, Going, GaveWay, HasStopped, course}
use Rattle.kernel_contexts.specs.Guest.{Guest, next_turn}
use Rattle.core_unit.specs.Made.{HasMade, waits}
use Rattle.core_unit.specs.Need.{needs_at, first_need, first_need_of, turns_begun}
use Rattle.core_unit.specs.Run.{course_at, before_run, answers_of, course_of, RunsFirst, EndsBy, WantsTurn, end_of, end_of_turn}
use Rattle.core_unit.specs.Run as run
use Rattle.core_unit.specs.declared.run.RunWhy.{RunWhy}
use Rattle.core_unit.specs.declared.run.RunWhy.TheVariants.{Spent, Yielded, Stopped, Idle, TraceEnds, TraceDiffers, Memory}
use Rattle.core_unit.specs.declared.run.CoreRun.{CoreRun}
use Rattle.core_unit.proofs.Courses.{HasEnded, longer_going, next, asks_next, stays_to}
use Rattle.core_unit.proofs.Needing.{first_none, first_more, first_here, ended_first, longer_first}

-- a guest thread after so many turns
pub record HasRun (old : Guest) (n : ℕ) (now : Guest) : Type 0 where
  pub program : now.program ≡ old.program
  pub config : now.config ≡ old.config
  pub number : now.number ≡ old.number
  pub journal : now.journal ≡ old.journal ++ answers_of old now
  pub turns : now.state.turns ≡ old.state.turns + n
  pub place : course old.config old.number (before_run old (answers_of old now)) n ≡ course_at now.state now.stop (length now.journal) []

-- the same thread, later
pub record IsLater (now next : Guest) (made : List Event) : Type 0 where
  pub program : next.program ≡ now.program
  pub config : next.config ≡ now.config
  pub number : next.number ≡ now.number
  pub journal : next.journal ≡ now.journal ++ made

answers_more : (old now next made : List Event) → now ≡ old ++ made_since old now → next ≡ now ++ made
    → next ≡ old ++ (made_since old now ++ made)
answers_more old now next made grown grows =
    grows ∙ ap (λ (l : List Event). l ++ made) grown ∙ append_assoc old (made_since old now) made

pub run_begins : (old : Guest) → HasRun old 0 old
unfolding course
run_begins old =
    let none : made_since old.journal old.journal ≡ [] = made_events old.journal old.journal [] (sym (append-nil old.journal)) in
    record {
      program = refl;
      config = refl;
      number = refl;
      journal = sym (append-nil old.journal) ∙ ap (λ (l : List Event). old.journal ++ l) (sym none);
      turns = omega arith;
      place = ap (before_run old) none;
    }

-- a thread by its parts
same_guest : (a b : Guest) → b.program ≡ a.program → b.config ≡ a.config → b.number ≡ a.number → b.state ≡ a.state → b.stop ≡ a.stop
    → b.journal ≡ a.journal → b ≡ a
same_guest a b program config number state stop journal =
    λ i. record {
      program = program i;
      config = config i;
      number = number i;
      state = state i;
      stop = stop i;
      journal = journal i;
    }

module _ (old now next : Guest) (n : ℕ) (made : List Event) (h : HasRun old n now)
    (runs : now.stop ≡ None) (later : IsLater now next made) where
  pub is_answers : answers_of old next ≡ answers_of old now ++ made
  is_answers =
      made_events old.journal next.journal (answers_of old now ++ made)
      (answers_more old.journal now.journal next.journal made h.journal later.journal)

  pub grown : next.journal ≡ old.journal ++ answers_of old next
  grown =
      answers_more old.journal now.journal next.journal made h.journal later.journal
      ∙ ap (λ (l : List Event). old.journal ++ l) (sym is_answers)

  goes_here : course_of old now n ≡ Going now.state (length now.journal) []
  goes_here = h.place ∙ ap (λ (o : Option Stop). course_at now.state o (length now.journal) []) runs

  -- with the answers of the next turn
  pub at_next : course_of old next n ≡ Going now.state (length now.journal) made
  at_next =
      ap (λ (l : List Event). course old.config old.number (before_run old l) n) is_answers
      ∙ longer_going old.config old.number old.state old.stop (length old.journal) now.state (length now.journal) []
      (answers_of old now) made n goes_here

  -- which turn needs vectors first
  abbrev started : Course
  started = before_run old (answers_of old next)

  pub quiet_next : first_need_of old now n ≡ None → first_need_of old next n ≡ None
  quiet_next q =
      ap (λ (l : List Event). first_need old.config old.number (before_run old l) n) is_answers
      ∙ longer_first old.config old.number old.state old.stop (length old.journal) (answers_of old now) made n now.state
      (length now.journal) [] goes_here
      ∙ q

  needs_here : (needs : Bool) → needs_vectors now.config now.state ≡ needs → needs_at old.config (course_of old next n) ≡ needs
  needs_here needs is =
      ap (needs_at old.config) at_next ∙ ap (λ (c : Config). needs_vectors c now.state) (sym h.config) ∙ is

  pub quiet_on : first_need_of old now n ≡ None → needs_vectors now.config now.state ≡ false → first_need_of old next (suc n) ≡ None
  quiet_on q needs = first_more old.config old.number started n (quiet_next q) (needs_here false needs)

  pub need_here : first_need_of old now n ≡ None → needs_vectors now.config now.state ≡ true → first_need_of old next (suc n) ≡ Some n
  need_here q needs = first_here old.config old.number started n (quiet_next q) (needs_here true needs)

  same_turn : (end : TurnEnd) → next_turn now ≡ end → turn_of old.config old.number (length now.journal) now.state ≡ end
  same_turn end is =
      ap (λ (k : Config). turn_of k old.number (length now.journal) now.state) (sym h.config)
      ∙ ap (λ (t : ℕ). turn_of now.config t (length now.journal) now.state) (sym h.number) ∙ is

  same_length : made ≡ [] → length now.journal ≡ length next.journal
  same_length none =
      sym (ap (λ l. length l) (later.journal ∙ ap (λ (l : List Event). now.journal ++ l) none ∙ append-nil now.journal))

  -- where no answer is asked
  at_quiet : made ≡ [] → course_of old next n ≡ Going now.state (length now.journal) []
  at_quiet none = at_next ∙ ap (λ (l : List Event). Going now.state (length now.journal) l) none

  went_on : (refusals : Refusals) (l : List Event) → made ≡ l → GoesOn refusals (next_turn now) next.state l
      → course_of old next (suc n) ≡ Going next.state (length next.journal) []
  went_on refusals [] none goes =
      Rattle.core_unit.proofs.Courses.next old.config old.number (before_run old (answers_of old next)) now.state (length now.journal) n []
      (Goes next.state) (at_quiet none) (same_turn (Goes next.state) goes)
      ∙ ap (λ d. Going next.state d []) (same_length none)
  went_on refusals (event ∷ []) one goes =
      asks_next old.config old.number (before_run old (answers_of old next)) now.state next.state (length now.journal) n event goes.next
      (at_next ∙ ap (λ (l : List Event). Going now.state (length now.journal) l) one) (same_turn (Asks event.op goes.next) goes.asks)
      goes.made
      ∙ ap (λ d. Going next.state d [])
      (sym (ap (λ l. length l) (later.journal ∙ ap (λ (l : List Event). now.journal ++ l) one) ∙ length_push now.journal event))
  went_on refusals (event ∷ other ∷ events) more goes = absurd goes

  has_gone_on : (refusals : Refusals) → GoesOn refusals (next_turn now) next.state made → next.stop ≡ None → HasRun old (n + 1) next
  has_gone_on refusals goes stopped =
      let more = asked_turned now.config now.number (length now.journal) now.state next.state refusals made goes in
      record {
        program = later.program ∙ h.program;
        config = later.config ∙ h.config;
        number = later.number ∙ h.number;
        journal = grown;
        turns = omega (arith, more, h.turns);
        place = rw add-one (went_on refusals made refl goes)
            ∙ ap (λ (o : Option Stop). course_at next.state o (length next.journal) []) (sym stopped);
      }

  has_given_way : next_turn now ≡ Yields next.state → made ≡ [] → course_of old next (suc n) ≡ GaveWay next.state (length next.journal) []
  has_given_way is none =
      Rattle.core_unit.proofs.Courses.next old.config old.number (before_run old (answers_of old next)) now.state (length now.journal) n []
      (Yields next.state) (at_quiet none) (same_turn (Yields next.state) is)
      ∙ ap (λ d. GaveWay next.state d []) (same_length none)

  has_stopped : (stop : Stop) → next_turn now ≡ Ends next.state stop → made ≡ []
      → course_of old next (suc n) ≡ HasStopped next.state stop (length next.journal) []
  has_stopped stop is none =
      Rattle.core_unit.proofs.Courses.next old.config old.number (before_run old (answers_of old next)) now.state (length now.journal) n []
      (Ends next.state stop) (at_quiet none) (same_turn (Ends next.state stop) is)
      ∙ ap (λ d. HasStopped next.state stop d []) (same_length none)

  -- where nothing has changed, memory may be wanting for the same turn
  wants_there : (takes_memory : Type 0) → next.state ≡ now.state → made ≡ [] → next.stop ≡ None → WantsTurn takes_memory now
      → WantsTurn takes_memory next
  wants_there takes_memory same none stopped wants =
      let journal : now.journal ≡ next.journal =
      sym (later.journal ∙ ap (λ (l : List Event). now.journal ++ l) none ∙ append-nil now.journal) in
      subst (WantsTurn takes_memory)
      (same_guest next now (sym later.program) (sym later.config) (sym later.number) (sym same) (runs ∙ sym stopped) journal) wants

  -- the turn after these
  module _ (refusals : Refusals) where
    abbrev pub NextTurn : Turn → Type 0
    NextTurn turn = TurnsOver refusals (next_turn now) now.state next.state made next.stop turn

    -- it goes on
    pub goes_on : (turn : Turn) → end_of_turn turn ≡ None → (turn ≡ turns.NeedsBank → ⊥) → NextTurn turn
        → HasRun old (n + 1) next × (next.stop ≡ None)
    goes_on turns.Ran is not e = (has_gone_on refusals e.0 e.1, e.1)
    goes_on turns.Yielded is not e = cc
    goes_on (turns.Stopped stop) is not e = cc
    goes_on turns.NeedsBank is not e = absurd (not refl)
    goes_on turns.TraceEnds is not e = cc
    goes_on turns.TraceDiffers is not e = cc
    goes_on turns.Memory is not e = cc

    stays_low : next.state ≡ now.state → (now.state.turns ≤ next.state.turns) × (next.state.turns ≤ now.state.turns + 1)
    stays_low same = let level = ap (λ (s : State). s.turns) same in (omega (arith, level), omega (arith, level))

    -- a turn counts one at most
    pub rises : (turn : Turn) → NextTurn turn → (now.state.turns ≤ next.state.turns) × (next.state.turns ≤ now.state.turns + 1)
    rises turns.Ran e =
        let more = asked_turned now.config now.number (length now.journal) now.state next.state refusals made e.0 in
        (omega (arith, more), omega (arith, more))
    rises turns.Yielded e =
        let more = yields_turned now.config now.number (length now.journal) now.state next.state e.0 in
        (omega (arith, more), omega (arith, more))
    rises (turns.Stopped stop) e = elim (ends_turned now.config now.number (length now.journal) now.state next.state stop e.0) [
      | inl same ↦ (omega (arith, same), omega (arith, same))
      | inr more ↦ (omega (arith, more), omega (arith, more))
    ]
    rises turns.NeedsBank e = absurd e
    rises turns.TraceEnds e = stays_low e.1
    rises turns.TraceDiffers e = stays_low e.1
    rises turns.Memory e = stays_low e.0

    -- where it does not go on, it makes no event
    pub made_none : (turn : Turn) (why : RunWhy) → end_of_turn turn ≡ Some why → NextTurn turn → made ≡ []
    made_none turns.Ran why is e = cc
    made_none turns.Yielded why is e = e.1
    made_none (turns.Stopped stop) why is e = e.1
    made_none turns.NeedsBank why is e = absurd e
    made_none turns.TraceEnds why is e = e.2
    made_none turns.TraceDiffers why is e = e.2
    made_none turns.Memory why is e = e.1

    -- it ends the run
    module _ (k rose : ℕ) (less : n < k) (rises_by : next.state.turns ≡ old.state.turns + rose) where
      run_by : (why : RunWhy) → EndsBy refusals k old next rose (end_of why)
          → RunsFirst refusals k old next (record { turns = rose; why = why })
      run_by why end = record {
        program = later.program ∙ h.program;
        config = later.config ∙ h.config;
        number = later.number ∙ h.number;
        journal = grown;
        turns = rises_by;
        end = end;
      }

      still : next.state ≡ now.state → made ≡ [] → next.stop ≡ None → run.StillGoes old next rose
      still same none stop =
          let level = ap (λ (s : State). s.turns) same in
          let all : n ≡ rose = omega (arith, level, h.turns, rises_by) in (
            ap (course_of old next) (sym all) ∙ at_quiet none ∙ ap (λ (s : State). Going s (length now.journal) []) (sym same)
                ∙ ap (λ d. Going next.state d []) (same_length none),
            stop,
          )

      fewer : next.state ≡ now.state → rose < k
      fewer same = let level = ap (λ (s : State). s.turns) same in omega (arith, level, h.turns, rises_by, less)

      asks_there : (holds : SharedOp → Type 0) → AsksFor (next_turn now) holds → next.state ≡ now.state → made ≡ []
          → AsksFor (next_turn next) holds
      asks_there holds asks same none =
          let is : next_turn next ≡ next_turn now =
          ap (λ (c : Config). turn_of c next.number (length next.journal) next.state) later.config
          ∙ ap (λ (t : ℕ). turn_of now.config t (length next.journal) next.state) later.number
          ∙ ap (λ (d : ℕ). turn_of now.config now.number d next.state) (sym (same_length none))
          ∙ ap (turn_of now.config now.number (length now.journal)) same in
          subst (λ (end : TurnEnd). AsksFor end holds) (sym is) asks

      ends_with : (turn : Turn) (why : RunWhy) → end_of_turn turn ≡ Some why → NextTurn turn
          → (turn ≡ turns.Memory → WantsTurn refusals.takes_memory now) → EndsBy refusals k old next rose (end_of why)
      ends_with turns.Ran why is e wants = cc
      ends_with turns.Yielded why is e wants =
          let more = yields_turned now.config now.number (length now.journal) now.state next.state e.0 in
          subst (λ (w : RunWhy). EndsBy refusals k old next rose (end_of w)) (same_Some Yielded why is) (
            stays_to old.config old.number _ (GaveWay next.state (length next.journal) []) (suc n) k (omega (arith, less)) tt
                (has_given_way e.0 e.1),
            e.2,
            omega (arith, more, h.turns, rises_by),
          )
      ends_with (turns.Stopped stop) why is e wants =
          subst (λ (w : RunWhy). EndsBy refusals k old next rose (end_of w)) (same_Some Stopped why is) (
            stop,
            stays_to old.config old.number _ (HasStopped next.state stop (length next.journal) []) (suc n) k (omega (arith, less)) tt
                (has_stopped stop e.0 e.1),
            e.2,
          )
      ends_with turns.NeedsBank why is e wants = absurd e
      ends_with turns.TraceEnds why is e wants =
          subst (λ (w : RunWhy). EndsBy refusals k old next rose (end_of w)) (same_Some TraceEnds why is)
          (still e.1 e.2 e.3, fewer e.1, asks_there (λ op. IsCause refusals op refused.TraceEnds) e.0 e.1 e.2)
      ends_with turns.TraceDiffers why is e wants =
          subst (λ (w : RunWhy). EndsBy refusals k old next rose (end_of w)) (same_Some TraceDiffers why is)
          (still e.1 e.2 e.3, fewer e.1, asks_there (λ op. IsCause refusals op refused.TraceDiffers) e.0 e.1 e.2)
      ends_with turns.Memory why is e wants =
          subst (λ (w : RunWhy). EndsBy refusals k old next rose (end_of w)) (same_Some Memory why is)
          (still e.0 e.1 e.2, fewer e.0, wants_there refusals.takes_memory e.0 e.1 e.2 (wants refl))

      -- no turn that it began needs vectors
      abbrev IsQuiet : RunWhy → Type 0
      IsQuiet why = first_need_of old next (turns_begun (end_of why) k rose) ≡ None

      quiet_cut : next.state ≡ now.state → first_need_of old next (suc n) ≡ None → first_need_of old next (rose + 1) ≡ None
      quiet_cut same q =
          let level = ap (λ (s : State). s.turns) same in
          let all : rose + 1 ≡ suc n = omega (arith, level, h.turns, rises_by) in
          ap (first_need_of old next) all ∙ q

      quiet_end : (here : Course) → HasEnded here → course_of old next (suc n) ≡ here → first_need_of old next (suc n) ≡ None
          → first_need_of old next k ≡ None
      quiet_end here ended at q = ended_first old.config old.number started here (suc n) k (omega (arith, less)) ended at q

      pub quiet_so : (turn : Turn) (why : RunWhy) → end_of_turn turn ≡ Some why → NextTurn turn
          → first_need_of old next (suc n) ≡ None → IsQuiet why
      quiet_so turns.Ran why is e q = cc
      quiet_so turns.Yielded why is e q =
          subst IsQuiet (same_Some Yielded why is)
          (quiet_end (GaveWay next.state (length next.journal) []) tt (has_given_way e.0 e.1) q)
      quiet_so (turns.Stopped stop) why is e q =
          subst IsQuiet (same_Some Stopped why is)
          (quiet_end (HasStopped next.state stop (length next.journal) []) tt (has_stopped stop e.0 e.1) q)
      quiet_so turns.NeedsBank why is e q = absurd e
      quiet_so turns.TraceEnds why is e q = subst IsQuiet (same_Some TraceEnds why is) (quiet_cut e.1 q)
      quiet_so turns.TraceDiffers why is e q = subst IsQuiet (same_Some TraceDiffers why is) (quiet_cut e.1 q)
      quiet_so turns.Memory why is e q = subst IsQuiet (same_Some Memory why is) (quiet_cut e.0 q)

      pub runs_so : (turn : Turn) (why : RunWhy) → end_of_turn turn ≡ Some why → NextTurn turn
          → (turn ≡ turns.Memory → WantsTurn refusals.takes_memory now)
          → RunsFirst refusals k old next (record { turns = rose; why = why })
      runs_so turn why is e wants = run_by why (ends_with turn why is e wants)

-- the same thread several turns later, each of which goes on and asks nothing
pub record IsGoneBy (apart : Bool) (now : Guest) (m : ℕ) (next : Guest) : Type 0 where
  pub program : next.program ≡ now.program
  pub config : next.config ≡ now.config
  pub number : next.number ≡ now.number
  pub journal : next.journal ≡ now.journal
  pub runs : now.stop ≡ None
  pub stop : next.stop ≡ None
  pub goes : GoesApart never apart now.config now.number (length now.journal) m now.state next.state

module _ (apart : Bool) (old : Guest) where
  nowhere : (now next : Guest) → IsGoneBy apart now 0 next → next ≡ now
  nowhere now next b = same_guest now next b.program b.config b.number b.goes (b.stop ∙ sym b.runs) b.journal

  -- before the last of them
  abbrev before_last : (now next : Guest) (m : ℕ) → IsGoneBy apart now (suc m) next → Guest
  before_last now next m b = record now { state = b.goes.0 }

  fewer_by : (now next : Guest) (m : ℕ) (b : IsGoneBy apart now (suc m) next) → IsGoneBy apart now m (before_last now next m b)
  fewer_by now next m b = record {
    program = refl;
    config = refl;
    number = refl;
    journal = refl;
    runs = b.runs;
    stop = b.runs;
    goes = b.goes.1;
  }

  later_by : (now next : Guest) (m : ℕ) (b : IsGoneBy apart now (suc m) next) → IsLater (before_last now next m b) next []
  later_by now next m b =
      record { program = b.program; config = b.config; number = b.number; journal = b.journal ∙ sym (append-nil now.journal) }

  pub gone_by : (now next : Guest) (n m : ℕ) → HasRun old n now → IsGoneBy apart now m next → HasRun old (n + m) next
  gone_by now next n zero h b =
      let none : n + 0 ≡ n = omega arith in rw none (subst (HasRun old n) (sym (nowhere now next b)) h)
  gone_by now next n (suc m) h b =
      let more : n + suc m ≡ n + m + 1 = omega arith in
      rw more (has_gone_on old (before_last now next m b) next (n + m) [] (gone_by now (before_last now next m b) n m h (fewer_by now next m b))
      b.runs (later_by now next m b) nothing_refused b.goes.2 b.stop)

  pub quiet_by : (now next : Guest) (n m : ℕ) → apart ≡ true → HasRun old n now → IsGoneBy apart now m next
      → first_need_of old now n ≡ None → first_need_of old next (n + m) ≡ None
  quiet_by now next n zero is h b q =
      let none : n + 0 ≡ n = omega arith in
      rw none (subst (λ (g : Guest). first_need_of old g n ≡ None) (sym (nowhere now next b)) q)
  quiet_by now next n (suc m) is h b q =
      let more : n + suc m ≡ suc (n + m) = omega arith in
      let mid = before_last now next m b in
      let needs = sym (ap (λ a. a && needs_vectors now.config b.goes.0) is) ∙ b.goes.3 in
      rw more (quiet_on old mid next (n + m) [] (gone_by now mid n m h (fewer_by now next m b)) b.runs (later_by now next m b)
      (quiet_by now mid n m is h (fewer_by now next m b) q) needs)

-- as many turns as it was let
pub runs_spent : (refusals : Refusals) (k : ℕ) (old now : Guest) (n : ℕ) → HasRun old n now
    → now.stop ≡ None → n ≡ k → RunsFirst refusals k old now (record { turns = n; why = Spent })
runs_spent refusals k old now n h runs all = record {
  program = h.program;
  config = h.config;
  number = h.number;
  journal = h.journal;
  turns = h.turns;
  end = (
    (
      ap (course_of old now) (sym all) ∙ h.place ∙ ap (λ (o : Option Stop). course_at now.state o (length now.journal) []) runs,
      runs,
    ),
    all,
  );
}

-- a thread that had stopped before
pub runs_not : (refusals : Refusals) (k : ℕ) (old : Guest) (stop : Stop) → old.stop ≡ Some stop
    → RunsFirst refusals k old old (record { turns = 0; why = Stopped })
runs_not refusals k old stop is =
    let h = run_begins old in
    record {
      program = refl;
      config = refl;
      number = refl;
      journal = h.journal;
      turns = h.turns;
      end = (
        stop,
        stays_to old.config old.number _ (HasStopped old.state stop (length old.journal) []) 0 k (omega arith) tt
            (h.place ∙ ap (λ (o : Option Stop). course_at old.state o (length old.journal) []) is),
        is,
      );
    }

-- none of no turns needs vectors, nor one of a thread that had stopped
pub quiet_start : (old : Guest) → first_need_of old old 0 ≡ None
quiet_start old = first_none old.config old.number (before_run old (answers_of old old))

pub quiet_not : (k : ℕ) (old : Guest) (found : Option Stop) → found ≡ old.stop → is_some found ≡ true
    → first_need_of old old k ≡ None
quiet_not k old (Some stop) is some =
    ended_first old.config old.number (before_run old (answers_of old old)) (HasStopped old.state stop (length old.journal) []) 0 k
    (omega arith) tt
    ((run_begins old).place ∙ ap (λ (o : Option Stop). course_at old.state o (length old.journal) []) (sym is))
    (quiet_start old)
quiet_not k old None is some = cc

-- a run of a resident is not idle
pub never_idle : (refusals : Refusals) (k : ℕ) (old new : Guest) (run : CoreRun) → RunsFirst refusals k old new run → run.why ≡ Idle → ⊥
never_idle refusals k old new run h is = subst (λ (w : RunWhy). EndsBy refusals k old new run.turns (end_of w)) is h.end

-- ---- what a turn on the bank of a core says, of a thread that has not stopped

not_waiting : (turn : Turn) → waits turn ≡ false → turn ≡ turns.NeedsBank → ⊥
not_waiting turns.Ran h is = cc
not_waiting turns.Yielded h is = cc
not_waiting turns.NeedsBank h is = cc
not_waiting (turns.Stopped stop) h is = cc
not_waiting turns.TraceEnds h is = cc
not_waiting turns.TraceDiffers h is = cc
not_waiting turns.Memory h is = cc

pub made_turn : (turn : Turn) (found : Bool) → found ≡ waits turn → found ≡ false → turn ≡ turns.NeedsBank → ⊥
made_turn turn found is none = not_waiting turn (sym is ∙ none)

unless_made : (needs : Bool) (refusals : Refusals) (end : TurnEnd) (old new : State) (made : List Event) (stopped : Option Stop)
    (turn : Turn) → (turn ≡ turns.NeedsBank → ⊥) → TurnsUnless needs refusals end old new made stopped turn
    → TurnsOver refusals end old new made stopped turn
unless_made true refusals end old new made stopped turn not h = absurd (not h.0)
unless_made false refusals end old new made stopped turn not h = h

pub turned_on : (stop : Option Stop) (refusals : Refusals) (old : Context) (before : Bank) (new : Context) (after : Bank) (turn : Turn)
    → stop ≡ None → (turn ≡ turns.NeedsBank → ⊥) → TurnsOn stop refusals old before new after turn
    → TurnsOver refusals (turn_with old (vectors_on old before)) (state_on old before) (state_on new after) (made_by old new)
    (stop_of new) turn
turned_on None refusals old before new after turn is not h = unless_made _ _ _ _ _ _ _ _ not h
turned_on (Some stop) refusals old before new after turn is not h = cc

-- one that was made of a thread that does not own the bank needs no vectors
unless_not : (owned needs : Bool) (refusals : Refusals) (end : TurnEnd) (old new : State) (made : List Event) (stopped : Option Stop)
    (turn : Turn) → (turn ≡ turns.NeedsBank → ⊥) → owned ≡ false
    → TurnsUnless (cond owned false needs) refusals end old new made stopped turn → needs ≡ false
unless_not true needs refusals end old new made stopped turn not e h = cc
unless_not false true refusals end old new made stopped turn not e h = absurd (not h.0)
unless_not false false refusals end old new made stopped turn not e h = refl

pub unneeded_on : (stop : Option Stop) (refusals : Refusals) (old : Context) (before : Bank) (new : Context) (after : Bank) (turn : Turn)
    → stop ≡ None → (turn ≡ turns.NeedsBank → ⊥) → owns before (thread_of old) ≡ false
    → TurnsOn stop refusals old before new after turn → needs_vectors (config_of old) (state_on old before) ≡ false
unneeded_on None refusals old before new after turn is not apart h = unless_not _ _ _ _ _ _ _ _ _ not apart h
unneeded_on (Some stop) refusals old before new after turn is not apart h = cc

-- a turn that needs the bank: the thread does not own it, and nothing has changed
pub record Needed (owned needed : Bool) (old new : State) (made : List Event) (stopped : Option Stop) : Type 0 where
  pub apart : owned ≡ false
  pub needs : needed ≡ true
  pub same : new ≡ old
  pub none : made ≡ []
  pub runs : stopped ≡ None

unless_needed : (owned needs : Bool) (refusals : Refusals) (end : TurnEnd) (old new : State) (made : List Event) (stopped : Option Stop)
    (turn : Turn) → waits turn ≡ true → TurnsUnless (cond owned false needs) refusals end old new made stopped turn
    → Needed owned needs old new made stopped
unless_needed false true refusals end old new made stopped turn waits h =
    record { apart = refl; needs = refl; same = h.1; none = h.2; runs = h.3 }
unless_needed false false refusals end old new made stopped turns.NeedsBank waits h = absurd h
unless_needed false false refusals end old new made stopped turns.Ran waits h = cc
unless_needed false false refusals end old new made stopped turns.Yielded waits h = cc
unless_needed false false refusals end old new made stopped (turns.Stopped stop) waits h = cc
unless_needed false false refusals end old new made stopped turns.TraceEnds waits h = cc
unless_needed false false refusals end old new made stopped turns.TraceDiffers waits h = cc
unless_needed false false refusals end old new made stopped turns.Memory waits h = cc
unless_needed true needs refusals end old new made stopped turns.NeedsBank waits h = absurd h
unless_needed true needs refusals end old new made stopped turns.Ran waits h = cc
unless_needed true needs refusals end old new made stopped turns.Yielded waits h = cc
unless_needed true needs refusals end old new made stopped (turns.Stopped stop) waits h = cc
unless_needed true needs refusals end old new made stopped turns.TraceEnds waits h = cc
unless_needed true needs refusals end old new made stopped turns.TraceDiffers waits h = cc
unless_needed true needs refusals end old new made stopped turns.Memory waits h = cc

pub needed_on : (stop : Option Stop) (refusals : Refusals) (old : Context) (before : Bank) (new : Context) (after : Bank) (turn : Turn)
    → stop ≡ None → waits turn ≡ true → TurnsOn stop refusals old before new after turn
    → Needed (owns before (thread_of old)) (needs_vectors (config_of old) (state_on old before)) (state_on old before)
    (state_on new after) (made_by old new) (stop_of new)
needed_on None refusals old before new after turn is waits h = unless_needed _ _ _ _ _ _ _ _ _ waits h
needed_on (Some stop) refusals old before new after turn is waits h = cc

-- so many turns were made before it
pub has_made : (old now next : Guest) (n : ℕ) (made : List Event) → HasRun old n now → now.stop ≡ None → IsLater now next made
    → made ≡ [] → next.state ≡ now.state → next.stop ≡ None → HasMade old n next
has_made old now next n made h runs later none same stop =
    let journal : now.journal ≡ next.journal =
    sym (later.journal ∙ ap (λ (l : List Event). now.journal ++ l) none ∙ append-nil now.journal) in
    subst (HasMade old n)
    (same_guest next now (sym later.program) (sym later.config) (sym later.number) (sym same) (runs ∙ sym stop) journal)
    (record {
      program = h.program;
      config = h.config;
      number = h.number;
      journal = h.journal;
      turned = h.turns;
      goes = h.place ∙ ap (λ (o : Option Stop). course_at now.state o (length now.journal) []) runs;
      runs = runs;
    })

pub runs_not_some : (refusals : Refusals) (k : ℕ) (old : Guest) (found : Option Stop) → found ≡ old.stop
    → is_some found ≡ true → RunsFirst refusals k old old (record { turns = 0; why = Stopped })
runs_not_some refusals k old (Some stop) is some = runs_not refusals k old stop (sym is)
runs_not_some refusals k old None is some = cc

-- the bank has its owner still, and the thread its number
owned_as : (bank after : Bank) (thread number : ℕ) → after.owner ≡ bank.owner → number ≡ thread → owns after number ≡ owns bank thread
owned_as bank after thread number owner same =
    ap (λ (n : ℕ). owns after n) same ∙ ap (λ (o : Option ℕ). is_owner o thread) owner

pub owned_still : (bank after : Bank) (thread number : ℕ) → after.owner ≡ bank.owner → number ≡ thread → owns bank thread ≡ false
    → owns after number ≡ false
owned_still bank after thread number owner same h = owned_as bank after thread number owner same ∙ h

pub owned_before : (bank after : Bank) (thread number : ℕ) → after.owner ≡ bank.owner → number ≡ thread → owns after number ≡ false
    → owns bank thread ≡ false
owned_before bank after thread number owner same h = sym (owned_as bank after thread number owner same) ∙ h

pub needs_there : (config before : Config) (s t : State) → config ≡ before → s ≡ t → needs_vectors before t ≡ true
    → needs_vectors config s ≡ true
needs_there config before s t same is h = ap (λ (c : Config). needs_vectors c s) same ∙ ap (needs_vectors before) is ∙ h

pub none_of : (found stop : Option Stop) → found ≡ stop → is_some found ≡ false → stop ≡ None
none_of (Some stop) other is some = cc
none_of None stop is some = sym is
