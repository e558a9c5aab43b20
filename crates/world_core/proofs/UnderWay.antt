-- A serial run under way.
use Rattle.std.proofs.Common.{◌≡◌, false, ℕ, zero, suc, ◌<◌, ◌≤◌, ◌++◌, List, [], ◌∷◌, drop, refl, ap, sym, ◌∙◌, subst, arith, Some, None}
use Rattle.std.specs.Prelude.{slice_get, replicate}
use Rattle.sm_types.specs.declared.config.Config.{Config}
use Rattle.sm_types.specs.declared.shared_words.Words.{Words}
use Rattle.paged_memory.specs.Image.{Program}
use Rattle.kernel_contexts.specs.declared.context.Context.{Context}
use Rattle.lone_runner.specs.LoneRun.{HaveRun}
use Rattle.world_core.specs.Applies.{Applies, wants_memory}
use Rattle.world_core.specs.Finish.{AreThreadsOf}
use Rattle.world_core.specs.Happens.{Happened, happens, world_after}
use Rattle.world_core.specs.Kept.{IsKept}
use Rattle.world_core.specs.Serial.{serial_event, phase_after, LeadSerially, IsSerialRun}
use Rattle.world_core.specs.World.{World, residents_of, start_world}
use Rattle.sm_types.specs.declared.world_event.WorldEvent.{WorldEvent}
use Rattle.world_core.specs.declared.event.Applied.{Applied}
use Rattle.world_core.specs.declared.serial.Phase.{Phase}
use Rattle.world_core.specs.declared.serial.Phase.TheVariants.{Fills}
use Rattle.world_core.proofs.Bags.{happens-config}
use Rattle.world_core.proofs.Ends.{few_turns, have_run}
use Rattle.world_core.proofs.Events.{comes_so}
use Rattle.world_core.proofs.Serials.{HasCore, has_core, lead-snoc, lead_world, all_done, left_over, falls, on_first}
use Rattle.world_core.proofs.Worlds.{start_kept, events_kept}

-- serial events have led to this world and this phase from the start
pub record IsUnderWay (program : Program) (config : Config) (w : World) (phase : Phase) : Type 0 where
  pub events : List WorldEvent
  pub lead : LeadSerially (start_world program config) Fills events w phase
  pub core : HasCore w

none_resident : (n : ℕ) → residents_of (replicate n []) ≡ []
none_resident zero = refl
none_resident (suc n) = none_resident n

pub start_core : (program : Program) (config : Config) (cores : ℕ) → config.cores ≡ cores → 1 ≤ cores → HasCore (start_world program config)
start_core program config zero is one = absurd (omega (arith, one))
start_core program config (suc n) is one = record {
  residents = [];
  first = ap (λ (k : ℕ). slice_get (replicate k []) 0) is;
  others = ap (λ (k : ℕ). residents_of (drop 1 (replicate k []))) is ∙ none_resident n;
}

pub begins_way : (program : Program) (config : Config) (w : World) → 1 ≤ config.cores → w ≡ start_world program config
    → IsUnderWay program config w Fills
begins_way program config w one is = record {
  events = [];
  lead = (is, refl);
  core = subst HasCore (sym is) (start_core program config config.cores refl one);
}

config_after : (w : World) (es : List WorldEvent) → (world_after w es).config ≡ w.config
unfolding world_after
config_after w [] = refl
config_after w (e ∷ es) = config_after (happens w e).world es ∙ happens-config w e

module _ (program : Program) (config : Config) (w : World) (phase : Phase) (h : IsUnderWay program config w phase) where
  after_all : w ≡ world_after (start_world program config) h.events
  after_all = lead_world (start_world program config) Fills h.events w phase h.lead

  pub way_kept : IsKept program w
  way_kept =
      subst (IsKept program) (sym after_all) (events_kept program (start_world program config) h.events (start_kept program config))

  pub way_config : w.config ≡ config
  way_config = ap (λ (v : World). v.config) after_all ∙ config_after (start_world program config) h.events

  module _ (e : WorldEvent) (new : World) (answer : Applied) (is : serial_event w phase ≡ Some e) (applies : Applies e w new answer)
      (made : wants_memory answer ≡ false) where
    here : happens w e ≡ record { world = new; answer = answer }
    here = comes_so e w new answer made applies

    pub way_more : IsUnderWay program config new (phase_after answer)
    way_more =
        let few = few_turns program w in
        subst (λ (x : Happened). IsUnderWay program config x.world (phase_after x.answer)) here (record {
          events = h.events ++ e ∷ [];
          lead = lead-snoc (start_world program config) Fills h.events w phase e h.lead is;
          core = has_core w e (on_first w phase program way_kept h.core few e is) h.core;
        })

    pub way_falls : 1 ≤ config.slice → left_over new (phase_after answer) < left_over w phase
    way_falls one =
        let few = few_turns program w in
        let slice = subst (λ (c : Config). 1 ≤ c.slice) (sym way_config) one in
        subst (λ (x : Happened). left_over x.world (phase_after x.answer) < left_over w phase) here
        (falls w phase program way_kept h.core few e slice is)

  module _ (contexts : List Context) (words : Words) (none : serial_event w phase ≡ None) (are : AreThreadsOf w contexts words) where
    pub way_serial : IsSerialRun program config contexts words
    way_serial = record {
      events = h.events;
      last = w;
      serial = record { phase = phase; lead = h.lead; none = none };
      are = are;
    }

    pub way_run : HaveRun program config contexts words
    way_run = have_run program config w contexts words way_kept way_config (all_done w phase h.core none) are
