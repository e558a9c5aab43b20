-- The check of the marked calls of a thread of a report, from what its parts say.
use Rattle.std.proofs.Common.{◌≡◌, ℕ, List, [], ◌∷◌, refl, Result, Ok, Err}
use Rattle.cmd_words.specs.Command.{asking}
use Rattle.cmd_words.specs.Options.{default_options}
use Rattle.cmd_words.specs.Words.{NameSaid, ThreadSaid}
use Rattle.cmd_words.specs.declared.verb.Verb.TheVariants.{AbiCheck}
use Rattle.elf_loader.specs.Loading.{Loads}
use Rattle.paged_memory.specs.Image.{Program}
use Rattle.report_reader.specs.Report.{Report, report_in}
use Rattle.smemu.specs.Replay.{IsBlockIn}
use Rattle.smemu.specs.Views.{EndsAccepted, EndsCheck, IsPartedRefusal, IsUnmatched}
use Rattle.smemu.specs.declared.answer.Answer.{Answer}
use Rattle.smemu.specs.declared.answer.Answer.TheVariants as answer
use Rattle.smemu.specs.declared.ending.Difference.TheVariants as difference
use Rattle.smemu.specs.declared.ending.Ending.TheVariants as ending
use Rattle.smemu.specs.declared.refusal.Refusal.{Refusal}
use Rattle.smemu.specs.declared.refusal.Refusal.TheVariants as refusal

-- a report of another program, or without the thread
pub check_unmatched : (file bytes : List ℕ) (thread : ℕ) (program : Program) (said : Report) (r : Refusal)
    → Loads file program → report_in bytes ≡ Ok said → IsUnmatched file thread said r → EndsCheck file bytes thread (Err r)
check_unmatched file bytes thread program said (refusal.Ended (ending.Mismatch line kind)) loads reads h =
    record { program = program; loads = loads; said = said; reads = reads; is_fault = h }
check_unmatched file bytes thread program said r loads reads h = absurd h

-- the thread parts from the journal or the count
pub check_parted : (file bytes : List ℕ) (thread : ℕ) (at : IsBlockIn file bytes thread) (r : Refusal)
    → IsPartedRefusal at.program at.config thread at.block r → EndsCheck file bytes thread (Err r)
check_parted file bytes thread at (refusal.Ended (ending.Differs (difference.Parts fault))) h =
    record { at = at; fault = fault; parts = h; is_text = refl }
check_parted file bytes thread at refusal.Memory h = tt
check_parted file bytes thread at r h = absurd h

-- the end of a check, for its request
pub check_accepted : (program report : List ℕ) (thread : ℕ) (file bytes : List ℕ) (end : Result Answer Refusal)
    → EndsCheck file bytes thread end
    → EndsAccepted (asking AbiCheck (NameSaid program ∷ NameSaid report ∷ ThreadSaid thread ∷ []) default_options)
    (file ∷ bytes ∷ []) end
check_accepted program report thread file bytes (Ok (answer.Text told)) h = h
check_accepted program report thread file bytes (Ok (answer.Session d)) h = absurd h
check_accepted program report thread file bytes (Err (refusal.Ended (ending.Mismatch line kind))) h =
    record { fault = record { line = line; kind = kind }; is_mismatched = h; is_text = refl }
check_accepted program report thread file bytes (Err (refusal.Ended (ending.Differs it))) h = h
check_accepted program report thread file bytes (Err (refusal.Ended (ending.Unlawful count pc kind))) h = h
check_accepted program report thread file bytes (Err refusal.Memory) h = tt
check_accepted program report thread file bytes (Err r) h = absurd h
