-- What the turns of a thread that the word rule serves keep: the history is legal, and the thread's part of it is its journal, over which
-- its state is reached.
use Rattle.std.proofs.Common.{◌≡◌, ◌≢◌, ℕ, zero, suc, ◌++◌, List, [], ◌∷◌, length, refl, ap, sym, ◌∙◌, Option, Some, None}
use Rattle.std.specs.Prelude.{◌<◌, All}
use Rattle.std.proofs.lemmas.List.{append-nil}
use Rattle.std.proofs.lemmas.List.Elements.{All-push}
use Rattle.sm_types.specs.declared.config.Config.{Config}
use Rattle.sm_types.specs.declared.shared_op.Event.{Event}
use Rattle.sm_types.specs.declared.shared_words.Entry.{Entry}
use Rattle.sm_types.specs.declared.stop.Stop.{Stop}
use Rattle.shared_region.specs.WordRule.{answer_to, zero_words}
use Rattle.shared_region.specs.History.{event_of, entry_of, ends_in, IsLegal, part_of}
use Rattle.shared_region.proofs.Growth.{answers-snoc, part-snoc_here, part-snoc_else}
use Rattle.shared_region.specs.Tickets.{Refusals}
use Rattle.paged_memory.specs.Image.{Program}
use Rattle.kernel_contexts.specs.State.{State}
use Rattle.kernel_contexts.specs.Standing.{IsRunOf}
use Rattle.kernel_contexts.specs.Call.{TurnEnd, Goes, Yields, Asks, Ends}
use Rattle.kernel_contexts.specs.Turn.{turn_of}
use Rattle.kernel_contexts.specs.declared.context.Turn.TheVariants as turns
use Rattle.kernel_contexts.proofs.Kept.{run_goes_on}
use Rattle.world_core.specs.Serve.{Progress, Service, Going, GaveWay, HasStopped, service_after, served, serve, begins}

module _ (program : Program) (config : Config) (thread : ℕ) (before : List Entry) where
  -- the history is legal, the thread's part of it is its journal, over which its state is reached, and the parts of the others are those
  -- before
  pub record Keeps (p : Progress) (stop : Option Stop) : Type 0 where
    pub legal : IsLegal p.history
    pub part : part_of thread p.history ≡ p.journal
    pub run : IsRunOf program config thread p.journal p.state stop
    pub others : (t : ℕ) → t ≢ thread → part_of t p.history ≡ part_of t before
    pub alone : (n : ℕ) → thread < n → All (λ e. e.thread < n) before → All (λ e. e.thread < n) p.history

  abbrev pub KeepsService : Service → Type 0
  KeepsService (Going p) = Keeps p None
  KeepsService (GaveWay p) = Keeps p None
  KeepsService (HasStopped p stop) = Keeps p (Some stop)

abbrev none : Refusals
none = record { ends = λ op. ⊥; strays = λ op. ⊥; takes_memory = ⊥ }

module _ (program : Program) (config : Config) (thread : ℕ) (before : List Entry) where
  quiet : (p : Progress) (s : State) (stop : Option Stop) → Keeps program config thread before p None
      → IsRunOf program config thread p.journal s stop
      → Keeps program config thread before (record p { state = s }) stop
  quiet p s stop h run = record { legal = h.legal; part = h.part; run = run; others = h.others; alone = h.alone }

  turn : (p : Progress) (end : TurnEnd) → turn_of config thread (length p.journal) p.state ≡ end → Keeps program config thread before p None
      → KeepsService program config thread before (service_after thread p end)
  turn p (Goes s) is h =
      quiet p s None h (run_goes_on program config thread none p.state s p.journal p.journal [] None None turns.Ran h.run refl
      (sym (append-nil p.journal)) (is, refl))
  turn p (Yields s) is h =
      quiet p s None h (run_goes_on program config thread none p.state s p.journal p.journal [] None None turns.Yielded h.run refl
      (sym (append-nil p.journal)) (is, refl, refl))
  turn p (Asks op next) is h =
      let answer = answer_to (ends_in p.history) op in
      let e = entry_of thread op answer in
      record {
        legal = answers-snoc zero_words p.history e h.legal refl;
        part = part-snoc_here thread p.history e refl ∙ ap (λ (l : List Event). l ++ event_of op answer ∷ []) h.part;
        run = run_goes_on program config thread none p.state (next answer) p.journal (p.journal ++ event_of op answer ∷ [])
            (event_of op answer ∷ []) None None turns.Ran h.run refl refl
            (record { next = next; asks = is; made = refl; goes = ((λ x. x), (λ x. x)) }, refl);
        others = λ t other. part-snoc_else t p.history e (λ same. other (sym same)) ∙ h.others t other;
        alone = λ n less all. All-push (λ (x : Entry). x.thread < n) p.history e (h.alone n less all) less;
      }
  turn p (Ends s stop) is h =
      quiet p s (Some stop) h (run_goes_on program config thread none p.state s p.journal p.journal [] None (Some stop)
      (turns.Stopped stop) h.run refl (sym (append-nil p.journal)) (is, refl, refl))

  one : (service : Service) → KeepsService program config thread before service
      → KeepsService program config thread before (served config thread service)
  one (Going p) h = turn p (turn_of config thread (length p.journal) p.state) refl h
  one (GaveWay p) h = h
  one (HasStopped p stop) h = h

  pub keeps : (from : Service) (n : ℕ) → KeepsService program config thread before from
      → KeepsService program config thread before (serve config thread from n)
  unfolding serve
  keeps from zero h = h
  keeps from (suc n) h = one (serve config thread from n) (keeps from n h)

-- a thread that stands in a world
pub begins_kept : (program : Program) (config : Config) (thread : ℕ) (s : State) (stop : Option Stop) (journal : List Event)
    (history : List Entry) → IsLegal history → part_of thread history ≡ journal → IsRunOf program config thread journal s stop
    → KeepsService program config thread history (begins s stop journal history)
begins_kept program config thread s None journal history legal part run =
    record { legal = legal; part = part; run = run; others = λ t other. refl; alone = λ n less all. all }
begins_kept program config thread s (Some stop) journal history legal part run =
    record { legal = legal; part = part; run = run; others = λ t other. refl; alone = λ n less all. all }
