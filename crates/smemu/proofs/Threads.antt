-- The ends of the threads of a run.
use Rattle.std.proofs.Common.{◌≡◌, ℕ, zero, suc, List, [], ◌∷◌, map, refl, ap, subst, ◌∙◌}
use Rattle.std.proofs.lemmas.List.{length-map}
use Rattle.std.proofs.lemmas.Option.{none-some, same_Some}
use Rattle.std.specs.Prelude.{Some, slice_get}
use Rattle.sm_types.specs.declared.config.Config.{Config}
use Rattle.sm_types.specs.declared.shared_op.Event.{Event}
use Rattle.sm_types.specs.declared.shared_words.Words.{Words}
use Rattle.paged_memory.specs.Image.{Program}
use Rattle.shared_region.specs.History.{AreOneHistory}
use Rattle.kernel_contexts.specs.Context.{journal_of}
use Rattle.kernel_contexts.specs.declared.context.Context.{Context}
use Rattle.lone_runner.specs.LoneRun.{HasRunAlone, HaveRun}
use Rattle.report_text.specs.Ends.{end_of, ends_of}
use Rattle.report_text.specs.Report.{ThreadEnd}
use Rattle.smemu.specs.Runs.{IsEndOf, IsWholeRun}
use Rattle.smemu.specs.Worlds.{AreSerialEnds, journals_of}

end_here : (program : Program) (config : Config) (k : ℕ) (context : Context) → HasRunAlone program config k context
    → IsEndOf program config k (end_of context)
end_here program config k context h = record { number = h.number; stop = h.stop; stopped = h.stopped; run = h.run }

-- each end is that of the context of its number
pub ends_at : (is_end : ℕ → ThreadEnd → Type 0) (contexts : List Context)
    → ((k : ℕ) (context : Context) → slice_get contexts k ≡ Some context → is_end k (end_of context))
    → (k : ℕ) (end : ThreadEnd) → slice_get (ends_of contexts) k ≡ Some end → is_end k end
ends_at is_end [] h k end e = absurd (none-some end e)
ends_at is_end (context ∷ contexts) h zero end e = subst (is_end 0) (same_Some (end_of context) end e) (h 0 context refl)
ends_at is_end (context ∷ contexts) h (suc k) end e =
    ends_at (λ n. is_end (suc n)) contexts (λ n c at. h (suc n) c at) k end e

each_end : (program : Program) (config : Config) (contexts : List Context) (words : Words) → HaveRun program config contexts words
    → (k : ℕ) (end : ThreadEnd) → slice_get (ends_of contexts) k ≡ Some end → IsEndOf program config k end
each_end program config contexts words h =
    ends_at (IsEndOf program config) contexts (λ k context at. end_here program config k context (h.each k context at))

journals_are : (contexts : List Context) → map journal_of contexts ≡ journals_of (ends_of contexts)
journals_are [] = refl
journals_are (context ∷ contexts) = ap (λ (js : List (List Event)). journal_of context ∷ js) (journals_are contexts)

same_journals : (contexts : List Context) (words : Words) → AreOneHistory (map journal_of contexts) words
    → AreOneHistory (journals_of (ends_of contexts)) words
same_journals contexts words h = subst (λ (js : List (List Event)). AreOneHistory js words) (journals_are contexts) h

-- a run on cores, whose ends on one core are those of the serial events
pub whole_run : (program : Program) (config : Config) (contexts : List Context) (words : Words) → HaveRun program config contexts words
    → (config.cores ≡ 1 → AreSerialEnds program config (ends_of contexts) words)
    → IsWholeRun program config (ends_of contexts) words
whole_run program config contexts words h serial = record {
  threads = length-map contexts _ ∙ h.threads;
  each = each_end program config contexts words h;
  one_history = same_journals contexts words h.one_history;
  serial = serial;
}
