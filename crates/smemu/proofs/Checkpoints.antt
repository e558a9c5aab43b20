-- The checkpoint of a thread of a report, from what its parts say.
use Rattle.std.proofs.Common.{◌≡◌, inl, ℕ, zero, suc, ◌+◌, ◌<◌, ◌≤◌, List, [], ◌∷◌, length, map, refl, ◌∙◌}
use Rattle.std.proofs.Common.{ap, arith, length-append, Option, Some, None, Result, Ok, Err}
use Rattle.std.proofs.lemmas.Option.{same_Some}
use Rattle.std.specs.Prelude.{slice_get, slice_index}
use Rattle.cmd_words.specs.Command.{asking}
use Rattle.cmd_words.specs.Options.{default_options}
use Rattle.cmd_words.specs.Words.{CountSaid, NameSaid, ThreadSaid}
use Rattle.cmd_words.specs.declared.verb.Verb.TheVariants.{Ckpt}
use Rattle.sm_types.specs.declared.config.Config.{Config}
use Rattle.sm_types.specs.declared.shared_op.Event.{Event}
use Rattle.sm_types.specs.declared.stop.Stop.{Stop}
use Rattle.elf_loader.specs.Loading.{Loads}
use Rattle.kernel_contexts.specs.Context.{journal_of, state_of, stop_of}
use Rattle.kernel_contexts.specs.Standing.{standing}
use Rattle.kernel_contexts.specs.State.{State}
use Rattle.kernel_contexts.specs.declared.context.Context.{Context}
use Rattle.lone_runner.specs.Parting.{IsShown}
use Rattle.paged_memory.specs.Image.{Program}
use Rattle.ckpt_file.specs.Beyond.{StandsInBlock}
use Rattle.report_reader.specs.Block.{Block}
use Rattle.report_reader.specs.Report.{Report, report_in}
use Rattle.smemu.specs.Checkpoints.{StandsAt, StopsAt}
use Rattle.smemu.specs.Replay.{IsBlockIn}
use Rattle.smemu.specs.Views.{EndsAccepted, EndsCheckpoint, IsBeforeRefusal, IsShortRefusal, IsUnmatched}
use Rattle.smemu.specs.declared.answer.Answer.{Answer}
use Rattle.smemu.specs.declared.answer.Answer.TheVariants as answer
use Rattle.smemu.specs.declared.ending.Difference.TheVariants as difference
use Rattle.smemu.specs.declared.ending.Ending.TheVariants as ending
use Rattle.smemu.specs.declared.refusal.Refusal.{Refusal}
use Rattle.smemu.specs.declared.refusal.Refusal.TheVariants as refusal

-- ---- where a thread stands at a count

module _ (program : Program) (config : Config) (thread : ℕ) (journal : List Event) (count : ℕ) (context : Context)
    (h : IsShown program config thread journal count context)
  where
    pub stands_so : stop_of context ≡ None → StandsAt program config thread journal count (state_of context) (length (journal_of context))
    stands_so is = record {
      turns = h.turns;
      left = h.left;
      reached = h.reached ∙ ap (λ (o : Option Stop). standing (state_of context) o (length (journal_of context)) h.left) is;
      counts = h.counts;
      first = h.first;
    }

    pub few_used : length (journal_of context) ≤ length journal
    few_used =
        let whole : length journal ≡ length (journal_of context) + length h.left =
        ap length h.events ∙ length-append (journal_of context) h.left in
        omega (arith, whole)

    pub stops_so : (stop : Stop) → stop_of context ≡ Some stop → StopsAt program config thread journal count stop
    stops_so stop is = record {
      turns = h.turns;
      state = state_of context;
      used = length (journal_of context);
      left = h.left;
      reached = h.reached ∙ ap (λ (o : Option Stop). standing (state_of context) o (length (journal_of context)) h.left) is;
      counts = h.counts;
      first = h.first;
    }

-- one that parts before the count does not go on there
pub before_short : (program : Program) (config : Config) (thread : ℕ) (block : Block) (count : ℕ) (r : Refusal)
    → IsBeforeRefusal program config thread block count r → IsShortRefusal program config thread block count r
before_short program config thread block count (refusal.Ended (ending.Differs (difference.Parts fault))) h = inl h
before_short program config thread block count refusal.Memory h = tt
before_short program config thread block count r h = absurd h

-- ---- the ends of `ckpt`

pub checkpoint_unmatched : (file bytes : List ℕ) (thread count : ℕ) (program : Program) (it : Report) (r : Refusal) → Loads file program
    → report_in bytes ≡ Ok it → IsUnmatched file thread it r → EndsCheckpoint file bytes thread count (Err r)
checkpoint_unmatched file bytes thread count program it (refusal.Ended (ending.Mismatch line kind)) loads reads h =
    record { program = program; loads = loads; said = it; reads = reads; is_fault = h }
checkpoint_unmatched file bytes thread count program it r loads reads h = absurd h

pub checkpoint_short : (file bytes : List ℕ) (thread count : ℕ) (at : IsBlockIn file bytes thread) (r : Refusal) → count < at.block.count
    → IsShortRefusal at.program at.config thread at.block count r → EndsCheckpoint file bytes thread count (Err r)
checkpoint_short file bytes thread count at (refusal.Ended (ending.Differs (difference.Parts fault))) below h =
    record { at = at; below = below; fault = fault; short = h; is_text = refl }
checkpoint_short file bytes thread count at refusal.Memory below h = tt
checkpoint_short file bytes thread count at r below h = absurd h

-- for its request
pub checkpoint_accepted : (program report : List ℕ) (thread count : ℕ) (file bytes : List ℕ) (end : Result Answer Refusal)
    → EndsCheckpoint file bytes thread count end
    → EndsAccepted (asking Ckpt (NameSaid program ∷ NameSaid report ∷ ThreadSaid thread ∷ CountSaid count ∷ []) default_options)
    (file ∷ bytes ∷ []) end
checkpoint_accepted program report thread count file bytes (Ok (answer.Text told)) h = h
checkpoint_accepted program report thread count file bytes (Ok (answer.Session d)) h = absurd h
checkpoint_accepted program report thread count file bytes (Err (refusal.Ended (ending.Mismatch line kind))) h =
    record { fault = record { line = line; kind = kind }; is_mismatched = h; is_text = refl }
checkpoint_accepted program report thread count file bytes (Err (refusal.Ended (ending.Differs it))) h = h
checkpoint_accepted program report thread count file bytes (Err (refusal.Ended (ending.Late end))) h = h
checkpoint_accepted program report thread count file bytes (Err refusal.Memory) h = tt
checkpoint_accepted program report thread count file bytes (Err r) h = absurd h

-- ---- where a checkpoint that is read stands in its block

pub index_said : (f : Block → ℕ) (blocks : List Block) (k : ℕ) (b : Block) → slice_get blocks k ≡ Some b
    → slice_index (map f blocks) k ≡ f b
index_said f [] k b e = cc
index_said f (x ∷ xs) zero b e = ap f (same_Some x b e)
index_said f (x ∷ xs) (suc k) b e = index_said f xs k b e

module _ (it : Report) (s : State) (thread used : ℕ) (h : StandsInBlock it s thread used) (block : Block)
    (stands : slice_get it.blocks thread ≡ Some block)
  where
    pub most_counted : s.count ≤ block.count
    most_counted =
        let here = h.count in let same = index_said (λ (b : Block). b.count) it.blocks thread block stands in
        omega (arith, here, same)

    pub used_within : used ≤ length block.journal
    used_within =
        let here = h.events in
        let same = index_said (λ (b : Block). length b.journal) it.blocks thread block stands in
        omega (arith, here, same)
