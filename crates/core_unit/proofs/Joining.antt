-- Turns that were made until one needed the bank, and the run after that, are one run.
use Rattle.std.proofs.Common.{◌≡◌, ℕ, suc, ◌+◌, ◌-◌, ◌<◌, ◌≤◌, ◌++◌, Bool, true, false, List, [], ◌∷◌, length, ap, sym, refl, ◌∙◌}
use Rattle.std.proofs.Common.{subst, arith, Option, Some, None}
use Rattle.sm_types.specs.declared.config.Config.{Config}
use Rattle.sm_types.specs.declared.shared_op.Event.{Event}
use Rattle.sm_types.specs.declared.stop.Stop.{Stop}
use Rattle.shared_region.specs.Tickets.{Refusals, TicketView, GivesEvents}
use Rattle.sm_types.specs.declared.shared_words.Entry.{Entry}
use Rattle.kernel_contexts.specs.Needs.{needs_vectors}
use Rattle.kernel_contexts.specs.Owner.{is_owner}
use Rattle.mem_access.specs.declared.bank.Bank.{Bank}
use Rattle.core_unit.specs.Course.{Course, course}
use Rattle.kernel_contexts.specs.Guest.{Guest}
use Rattle.core_unit.specs.Held.{Held}
use Rattle.core_unit.specs.Made.{HasMade}
use Rattle.core_unit.specs.Need.{first_need_of, turns_begun, need_in_run}
use Rattle.core_unit.specs.Owners.{moved, owner_after_turns}
use Rattle.core_unit.specs.Residents.{RunsHere}
use Rattle.core_unit.specs.Run.{RunEnd, Spends, GivesWay, Stops, Idles, IsCut, end_of}
use Rattle.core_unit.specs.Run.{course_at, before_run, answers_of, course_of, RunsFirst, RunsHeld, EndsBy}
use Rattle.core_unit.specs.declared.run.CoreRun.{CoreRun}
use Rattle.core_unit.proofs.Courses.{course_join}
use Rattle.core_unit.proofs.Ports.{gives_more}
use Rattle.core_unit.proofs.Needing.{first_stays}
use Rattle.core_unit.proofs.Owners.{is_owned}
use Rattle.core_unit.proofs.Runs.{HasRun, IsLater, grown, at_next, is_answers, need_here}

module _ (refusals : Refusals) (old now next : Guest) (n k : ℕ) (h : HasMade old n now) (less : n < k) (run : CoreRun)
    (r : RunsFirst refusals (k - n) now next run) where
  so_far : HasRun old n now
  so_far = record {
    program = h.program;
    config = h.config;
    number = h.number;
    journal = h.journal;
    turns = h.turned;
    place = h.goes ∙ ap (λ (o : Option Stop). course_at now.state o (length now.journal) []) (sym h.runs);
  }

  later : IsLater now next (answers_of now next)
  later = record { program = r.program; config = r.config; number = r.number; journal = r.journal }

  pub answers_joined : answers_of old next ≡ answers_of old now ++ answers_of now next
  answers_joined = is_answers old now next n (answers_of now next) so_far h.runs later

  from_here : (m : ℕ) → course_of old next (n + m) ≡ course_of now next m
  from_here m =
      sym (course_join old.config old.number (before_run old (answers_of old next)) n m)
      ∙ ap (λ (c : Course). course old.config old.number c m)
      (at_next old now next n (answers_of now next) so_far h.runs later
      ∙ ap (λ (o : Option Stop). course_at now.state o (length now.journal) (answers_of now next)) (sym h.runs))
      ∙ ap (λ (c : Config). course c old.number (before_run now (answers_of now next)) m) (sym h.config)
      ∙ ap (λ (t : ℕ). course now.config t (before_run now (answers_of now next)) m) (sym h.number)

  at_end : course_of old next k ≡ course_of now next (k - n)
  at_end = let z : n + (k - n) ≡ k = omega (arith, less) in ap (course_of old next) (sym z) ∙ from_here (k - n)

  ends_joined : (turns : ℕ) (end : RunEnd) → EndsBy refusals (k - n) now next turns end → EndsBy refusals k old next (n + turns) end
  ends_joined turns Spends e = ((at_end ∙ e.0.0, e.0.1), omega (arith, e.1, less))
  ends_joined turns GivesWay e = (at_end ∙ e.0, e.1, omega (arith, e.2))
  ends_joined turns Stops e = (e.0, at_end ∙ e.1, e.2)
  ends_joined turns Idles e = absurd e
  ends_joined turns (IsCut stop) e = ((from_here turns ∙ e.0.0, e.0.1), omega (arith, e.1, less), e.2)

  pub runs_joined : RunsFirst refusals k old next (record { turns = n + run.turns; why = run.why })
  runs_joined = record {
    program = r.program ∙ h.program;
    config = r.config ∙ h.config;
    number = r.number ∙ h.number;
    journal = grown old now next n (answers_of now next) so_far h.runs later;
    turns = omega (arith, r.turns, h.turned);
    end = ends_joined run.turns (end_of run.why) r.end;
  }

  -- the turn after those that were made is the first that needs vectors
  begun_more : (turns : ℕ) (end : RunEnd) → EndsBy refusals (k - n) now next turns end → suc n ≤ turns_begun end k (n + turns)
  begun_more turns Spends e = omega (arith, less)
  begun_more turns GivesWay e = omega (arith, less)
  begun_more turns Stops e = omega (arith, less)
  begun_more turns Idles e = absurd e
  begun_more turns (IsCut stop) e = omega arith

  pub need_joined : first_need_of old now n ≡ None → needs_vectors now.config now.state ≡ true
      → need_in_run k old next (record { turns = n + run.turns; why = run.why }) ≡ Some n
  need_joined quiet needs =
      first_stays old.config old.number (before_run old (answers_of old next)) (suc n) (turns_begun (end_of run.why) k (n + run.turns)) n
      (begun_more run.turns (end_of run.why) r.end)
      (need_here old now next n (answers_of now next) so_far h.runs later quiet needs)

-- with the tickets, over a port
module _ {P T : Type 0} (gives : P → T → Entry → P → T → Type 0) (name : P → List ℕ) (tells : T → TicketView) (refuses : P → T → Refusals)
    (p q r : P) (old now next : Held T) (n k : ℕ) (h : HasMade old.guest n now.guest) (less : n < k) (run : CoreRun)
    (first : RunsFirst (refuses r next.ticket) (k - n) now.guest next.guest run) where
  pub held_joined : GivesEvents gives name tells old.guest.number (answers_of old.guest now.guest) p old.ticket q now.ticket
      → GivesEvents gives name tells now.guest.number (answers_of now.guest next.guest) q now.ticket r next.ticket
      → RunsHeld (λ t. refuses r t) (λ thread events t u. GivesEvents gives name tells thread events p t r u) k old next
      (record { turns = n + run.turns; why = run.why })
  held_joined given more = record {
    first = runs_joined (refuses r next.ticket) old.guest now.guest next.guest n k h less run first;
    given = gives_more gives name tells p q r old.ticket now.ticket next.ticket old.guest.number now.guest.number
        (answers_of old.guest now.guest) (answers_of now.guest next.guest) (answers_of old.guest next.guest)
        (answers_joined (refuses r next.ticket) old.guest now.guest next.guest n k h less run first) h.number given more;
  }

-- the owner stays where it is the resident, or no turn needs vectors
stays_by : (owned : Bool) (found owner : Option ℕ) (number : ℕ) → is_owner owner number ≡ owned → (owned ≡ false → found ≡ None)
    → owner ≡ moved found number owner
stays_by false found owner number is quiet = sym (ap (λ f. moved f number owner) (quiet refl))
stays_by true None owner number is quiet = refl
stays_by true (Some turn) owner number is quiet = is_owned owner number is

pub owner_stays : (found owner : Option ℕ) (number : ℕ) → (is_owner owner number ≡ false → found ≡ None)
    → owner ≡ moved found number owner
owner_stays found owner number quiet = stays_by (is_owner owner number) found owner number refl quiet

-- a run of the first of some residents
pub runs_here : {T : Type 0} (refusals : T → Refusals) (gives : ℕ → List Event → T → T → Type 0) (k : ℕ) (before after : Bank)
    (old new : List (Held T)) (first last : Held T) (others : List (Held T)) (run : CoreRun) → old ≡ first ∷ others
    → new ≡ last ∷ others → RunsHeld refusals gives k first last run
    → after.owner ≡ owner_after_turns k first.guest last.guest run before.owner
    → RunsHere refusals gives k old before new after run
runs_here refusals gives k before after old new first last others run is all h goes =
    subst (λ (l : List (Held _)). RunsHere refusals gives k l before new after run) (sym is) (last, h, all, goes)
