-- The plan that is read of a file is the one that it is.
use Rattle.std.proofs.Common.{◌≡◌, ℕ, List, length, Ok, ap, ◌∙◌}
use Rattle.std.proofs.lemmas.List.{length-map}
use Rattle.line_reader.specs.Lines.{line_text, words_in}
use Rattle.line_reader.specs.File.{NumberedLine, file_lines, all_said}
use Rattle.plan_reader.specs.Words.{event_in}
use Rattle.plan_reader.specs.Plan.{IsLineOf, IsPlanOf, plan_in, event_lines}
use Rattle.sm_types.specs.declared.world_event.WorldEvent.{WorldEvent}
use Rattle.line_reader.proofs.Files.{IsReadingOf, lines_say, lines_read, say_length, within, not_too_long}
use Rattle.plan_reader.proofs.Spoken.{event_words, words_read}

-- the words of a line are read as the event that it says
pub reading : IsReadingOf event_in IsLineOf
reading = record {
  right = λ line event h. event_words (words_in (line_text line)) event h;
  full = λ line event h. ap event_in h.1 ∙ words_read event h.0;
}

pub is_plan : (bytes : List ℕ) (events : List WorldEvent) → plan_in bytes ≡ Ok events → IsPlanOf bytes events
unfolding plan_in
is_plan bytes events e =
    let it = within _ (length bytes) _ (all_said event_in (file_lines bytes)) events e in
    record { fits = it.0; said = lines_say event_in IsLineOf reading (file_lines bytes) events it.1 }

pub plan_is : (bytes : List ℕ) (events : List WorldEvent) → IsPlanOf bytes events → plan_in bytes ≡ Ok events
unfolding plan_in
plan_is bytes events h =
    not_too_long _ (length bytes) _ (all_said event_in (file_lines bytes)) h.fits
    ∙ lines_read event_in IsLineOf reading (file_lines bytes) events h.said

pub as_many : (bytes : List ℕ) (events : List WorldEvent) → plan_in bytes ≡ Ok events → length (event_lines bytes) ≡ length events
unfolding event_lines
as_many bytes events e =
    length-map (file_lines bytes) (λ (it : NumberedLine). it.number)
    ∙ say_length IsLineOf (file_lines bytes) events (is_plan bytes events e).said
