-- The threads of a world, as a report has them.
use Rattle.std.proofs.Common.{◌≡◌, ℕ, ◌<◌, List, [], ◌∷◌, length, refl, sym, ◌∙◌, ap, subst, Some}
use Rattle.std.specs.Prelude.{slice_get, All}
use Rattle.std.proofs.lemmas.List.{length-map}
use Rattle.std.proofs.lemmas.List.Elements.{All-contains, All-from_recursion}
use Rattle.plain_lemmas.proofs.Lists.{slice_get_from_map}
use Rattle.sm_types.specs.declared.config.Config.{Config}
use Rattle.sm_types.specs.declared.shared_op.Event.{Event}
use Rattle.sm_types.specs.declared.shared_words.Words.{Words}
use Rattle.shared_region.specs.History.{AreOneHistory, part_of}
use Rattle.paged_memory.specs.Image.{Program}
use Rattle.kernel_contexts.specs.Standing.{IsRunOf}
use Rattle.kernel_contexts.specs.declared.context.Context.{Context}
use Rattle.kernel_contexts.specs.Guest.{guest_of}
use Rattle.sm_types.specs.declared.world_event.WorldEvent.{WorldEvent}
use Rattle.report_text.specs.Ends.{ends_of}
use Rattle.report_text.specs.Report.{ThreadEnd}
use Rattle.world_core.specs.Finish.{AreThreadsOf}
use Rattle.world_core.specs.Happens.{happens, world_after}
use Rattle.world_core.specs.Kept.{Stands, IsKept}
use Rattle.world_core.specs.Serial.{IsSerialRun}
use Rattle.world_core.specs.World.{World, start_world, threads_of}
use Rattle.world_core.proofs.Bags.{happens-config}
use Rattle.world_core.proofs.Worlds.{events_kept, start_kept}
use Rattle.smemu.specs.Worlds.{AreEndsIn, AreSerialEnds, IsEndAmong, IsEndBy, journals_of}
use Rattle.smemu.proofs.Threads.{ends_at}

-- ---- contexts

-- the contexts of the threads of a world stand so
pub ends_are : (w : World) (contexts : List Context) (words : Words) → AreThreadsOf w contexts words
    → AreEndsIn w (ends_of contexts) words
ends_are w contexts words h = record {
  count = length-map contexts _ ∙ h.count;
  each = ends_at (IsEndAmong (threads_of w)) contexts (λ k c at. let p = h.each k c at in record {
    guest = guest_of c;
    among = p.among;
    number = p.number_of;
    stands = refl;
  });
  ends_so = h.ends;
}

pub serial_ends : (program : Program) (config : Config) (contexts : List Context) (words : Words)
    → IsSerialRun program config contexts words → AreSerialEnds program config (ends_of contexts) words
serial_ends program config contexts words h =
    record { events = h.events; last = h.last; serial = h.serial; are = ends_are h.last contexts words h.are }

-- ---- a world to which events lead

pub after-config : (w : World) (es : List WorldEvent) → (world_after w es).config ≡ w.config
unfolding world_after
after-config w [] = refl
after-config w (e ∷ es) = after-config (happens w e).world es ∙ happens-config w e

pub plan_kept : (program : Program) (config : Config) (es : List WorldEvent) → IsKept program (world_after (start_world program config) es)
plan_kept program config es = events_kept program (start_world program config) es (start_kept program config)

-- where each thread stands so, it is where it comes to alone over its journal, and the journals are one history
module _ (program : Program) (config : Config) (w : World) (h : IsKept program w) (same : w.config ≡ config) (ends : List ThreadEnd)
    (words : Words) (are : AreEndsIn w ends words) where
  stood : (k : ℕ) (end : ThreadEnd) (e : IsEndAmong (threads_of w) k end) → Stands program w.config w.history e.guest
  stood k end e =
      All-contains (Stands program w.config w.history) (threads_of w) e.guest
      (All-from_recursion (Stands program w.config w.history) (threads_of w) h.each) e.among

  pub each_by : (k : ℕ) (end : ThreadEnd) → slice_get ends k ≡ Some end → IsEndBy program config k end
  each_by k end get =
      let e = are.each k end get in
      let g = e.guest in
      let run = subst (λ (o : Config). IsRunOf program o g.number g.journal g.state g.stop) same (stood k end e).run in
      let here = subst (λ (n : ℕ). IsRunOf program config n g.journal g.state g.stop) e.number run in
      record {
        number = ap (λ (x : ThreadEnd). x.thread) e.stands ∙ e.number;
        run = subst (λ (x : ThreadEnd). IsRunOf program config k x.journal x.state x.stop) (sym e.stands) here;
      }

  counted : length (journals_of ends) ≡ w.config.threads
  counted = length-map ends _ ∙ are.count

  parts : (t : ℕ) (journal : List Event) → slice_get (journals_of ends) t ≡ Some journal → part_of t w.history ≡ journal
  parts t journal get =
      let found = slice_get_from_map (λ (end : ThreadEnd). end.journal) ends t journal get in
      let e = are.each t found.0 found.1 in
      let part = (stood t found.0 e).part in
      ap (λ (n : ℕ). part_of n w.history) (sym e.number) ∙ part ∙ sym (ap (λ (x : ThreadEnd). x.journal) e.stands) ∙ found.2

  pub one_history : AreOneHistory (journals_of ends) words
  one_history = record {
    history = w.history;
    legal = h.legal;
    ends = sym are.ends_so;
    parts = parts;
    alone = subst (λ (n : ℕ). All (λ x. x.thread < n) w.history) (sym counted) h.alone;
  }
