-- From a checkpoint that was written of a thread of a report, the rest of its run is written as its replay is.
use Rattle.std.proofs.Common.{◌≡◌, ◌⊎◌, inl, inr, ℕ, ◌+◌, ◌<◌, ◌≤◌, List, [], Some, refl, sym, ◌∙◌, ap, subst, arith}
use Rattle.std.specs.List.{concat}
use Rattle.std.specs.Prelude.{◌↔◌, drop}
use Rattle.std.proofs.lemmas.List.Folds.{concat-append}
use Rattle.plain_lemmas.proofs.Lists.{append_inj}
use Rattle.plain_lemmas.proofs.Options.{one_Ok}
use Rattle.plain_lemmas.proofs.Numbers.{cases_lt_eq_gt}
use Rattle.byteorder.specs.Endian.{little_bytes, little_number}
use Rattle.sm_types.specs.Options.{version_of}
use Rattle.sm_types.specs.declared.config.Config.{Config}
use Rattle.sm_types.specs.declared.numbers.Numbers.{Numbers}
use Rattle.sm_types.specs.declared.stop.Stop.{Stop}
use Rattle.kernel_contexts.specs.State.{State}
use Rattle.paged_memory.specs.Image.{Program}
use Rattle.lone_runner.specs.LoneRun.{IsLoneRun}
use Rattle.lone_runner.specs.Parting.{IsParting}
use Rattle.lone_runner.specs.Rest.{EndsFrom, IsPartingFrom, IsRestOfRun}
use Rattle.lone_runner.specs.declared.fault.AloneFault.{AloneFault}
use Rattle.run_laws.specs.Rests.{ComesToTheRun}
use Rattle.run_laws.proofs.Rests.{comes_to_the_run, not_used_up, within_budget}
use Rattle.ckpt_fields.specs.Values.{first_values, thread_values}
use Rattle.ckpt_file.specs.Checkpoint.{checkpoint, checkpoint_values, ReadsCheckpoint}
use Rattle.ckpt_file.proofs.Filling.{word_back}
use Rattle.report_reader.specs.Block.{Block}
use Rattle.report_reader.specs.Report.{Report, report_in}
use Rattle.report_text.specs.Block.{block_text}
use Rattle.line_reader.specs.Difference.{Difference, first_difference}
use Rattle.line_reader.specs.Lines.{lines_of}
use Rattle.command_lines.specs.ReportLines.{difference_lines}
use Rattle.smemu.specs.Checkpoints.{IsCheckpointOf}
use Rattle.report_compare.specs.DifferLines.{parting_line}
use Rattle.smemu.specs.Replay.{text_in, text_of, DiffersSo, EndsAsSaid, IsBlockIn, IsReplayOf}
use Rattle.smemu.specs.Resume.{rest_of, IsRestIn, IsResumeOf, RestDiffers, RestEnds}
use Rattle.smemu_laws.proofs.GoesOn.{below_budget, budget_kept}
use Rattle.smemu_laws.proofs.OneAnswer.{one_block}
use Rattle.smemu_laws.proofs.OneResume.{one_told, told, Told}

-- ---- the replay of a block, by what it is of

record Place : Type 0 where
  program : Program
  config : Config
  block : Block

abbrev place : {file report : List ℕ} {thread : ℕ} → IsBlockIn file report thread → Place
place at = record { program = at.program; config = at.config; block = at.block }

one_place : (file report : List ℕ) (thread : ℕ) (a b : IsBlockIn file report thread) → place a ≡ place b
one_place file report thread a b =
    let one = one_block file report thread a b in
    λ i. record { program = one.program i; config = one.config i; block = one.block i }

-- the end of the run of a block's thread, as the block says
abbrev Ends : ℕ → Place → Type 0
Ends thread p = EndsAsSaid p.program p.config thread p.block

record Replays (report : List ℕ) (thread : ℕ) (text : List ℕ) (p : Place) : Type 0 where
  end : Ends thread p
  is_text : text ≡ text_of end
  same : text_in report p.block ≡ text

record Parts (thread : ℕ) (text : List ℕ) (p : Place) : Type 0 where
  fault : AloneFault
  parts : IsParting p.program p.config thread p.block.journal p.block.count fault
  is_text : text ≡ parting_line fault

record IsOther (report : List ℕ) (thread : ℕ) (text : List ℕ) (p : Place) : Type 0 where
  end : Ends thread p
  it : Difference
  first : first_difference 0 (lines_of (text_in report p.block)) (lines_of (text_of end)) ≡ Some it
  is_text : text ≡ difference_lines (p.block.first_line + it.line) it.first it.second

abbrev Differs : List ℕ → ℕ → List ℕ → Place → Type 0
Differs report thread text p = Parts thread text p ⊎ IsOther report thread text p

replays_there : (file report : List ℕ) (thread : ℕ) (text : List ℕ) (h : IsReplayOf file report thread text)
    → Replays report thread text (place h.at)
replays_there file report thread text h = record { end = h.end; is_text = h.is_text; same = h.same }

differs_there : (file report : List ℕ) (thread : ℕ) (text : List ℕ) → DiffersSo file report thread text
    → (at : IsBlockIn file report thread) × Differs report thread text (place at)
differs_there file report thread text (inl h) = (h.at, inl (record { fault = h.fault; parts = h.parts; is_text = h.is_text }))
differs_there file report thread text (inr h) =
    (h.at, inr (record { end = h.end; it = h.it; first = h.first; is_text = h.is_text }))

-- ---- the rest of a run, by what it is of

abbrev RestEndsAt : Told → Type 0
RestEndsAt t = EndsFrom t.config t.thread t.from t.used (drop t.used t.block.journal) t.block.count

abbrev text_there : (t : Told) → RestEndsAt t → List ℕ
text_there t end = block_text (version_of t.config) t.thread end.state (Some end.stop) t.block.journal

record Resumes (report text : List ℕ) (t : Told) : Type 0 where
  end : RestEndsAt t
  is_text : text ≡ text_there t end
  same : text_in report t.block ≡ text

record RestParts (text : List ℕ) (t : Told) : Type 0 where
  fault : AloneFault
  parts : IsPartingFrom t.config t.thread t.from t.used (drop t.used t.block.journal) t.block.count fault
  is_text : text ≡ parting_line fault

record IsRestOther (report text : List ℕ) (t : Told) : Type 0 where
  end : RestEndsAt t
  it : Difference
  first : first_difference 0 (lines_of (text_in report t.block)) (lines_of (text_there t end)) ≡ Some it
  is_text : text ≡ difference_lines (t.block.first_line + it.line) it.first it.second

abbrev RestDiffersAt : List ℕ → List ℕ → Told → Type 0
RestDiffersAt report text t = RestParts text t ⊎ IsRestOther report text t

resumes_there : (file report bytes text : List ℕ) (h : IsResumeOf file report bytes text) → Resumes report text (told h.rest)
resumes_there file report bytes text h = record { end = h.end; is_text = h.is_text; same = h.same }

rest_differs_there : (file report bytes text : List ℕ) → RestDiffers file report bytes text
    → (rest : IsRestIn file report bytes) × RestDiffersAt report text (told rest)
rest_differs_there file report bytes text (inl h) =
    (h.rest, inl (record { fault = h.fault; parts = h.parts; is_text = h.is_text }))
rest_differs_there file report bytes text (inr h) =
    (h.rest, inr (record { end = h.end; it = h.it; first = h.first; is_text = h.is_text }))

-- ---- from a checkpoint that was written, which the report reads

module _ (file report : List ℕ) (thread count : ℕ) (bytes : List ℕ) (c : IsCheckpointOf file report thread count bytes)
    (reads : ReadsCheckpoint bytes c.at.said c.state thread c.used)
  where
    abbrev rest : IsRestIn file report bytes
    rest = record { thread = thread; at = c.at; from = c.state; used = c.used; reads = reads }

    run : ComesToTheRun c.at.program c.at.config thread c.at.block.journal c.state c.used c.at.block.count
    run =
        let counts = c.stands.counts in
        let below = c.below in
        comes_to_the_run c.at.program c.at.config thread c.at.block.journal c.stands.turns c.state c.used c.stands.left c.stands.reached
        c.at.block.count (omega (arith, counts, below))

    abbrev end_from : Ends thread (place c.at) → RestEnds rest
    end_from e = record { state = e.state; stop = e.stop; run = (run.same e.state e.stop).1 e.run; counts = e.count }

    abbrev end_of : RestEnds rest → Ends thread (place c.at)
    end_of e = record { state = e.state; stop = e.stop; run = (run.same e.state e.stop).0 e.run; count = e.counts }

    -- what `replay` writes
    replayed : (text : List ℕ) → IsReplayOf file report thread text → IsResumeOf file report bytes text
    replayed text h =
        let here = subst (Replays report thread text) (one_place file report thread h.at c.at) (replays_there file report thread text h) in
        record { rest = rest; end = end_from here.end; is_text = here.is_text; same = here.same }

    differs_so : (text : List ℕ) → Differs report thread text (place c.at) → RestDiffers file report bytes text
    differs_so text (inl h) =
        inl (record { rest = rest; fault = h.fault; parts = (run.parts h.fault).1 h.parts; is_text = h.is_text })
    differs_so text (inr h) =
        inr (record { rest = rest; end = end_from h.end; it = h.it; first = h.first; is_text = h.is_text })

    replay_differs : (text : List ℕ) → DiffersSo file report thread text → RestDiffers file report bytes text
    replay_differs text h =
        let there = differs_there file report thread text h in
        differs_so text (subst (Differs report thread text) (one_place file report thread there.0 c.at) there.1)

    -- what `resume` writes
    is_replay : (text : List ℕ) → Resumes report text (told rest) → IsReplayOf file report thread text
    is_replay text h = record { at = c.at; end = end_of h.end; is_text = h.is_text; same = h.same }

    resumed : (text : List ℕ) → IsResumeOf file report bytes text → IsReplayOf file report thread text
    resumed text h =
        is_replay text (subst (Resumes report text) (one_told file report bytes h.rest rest) (resumes_there file report bytes text h))

    is_difference : (text : List ℕ) → RestDiffersAt report text (told rest) → DiffersSo file report thread text
    is_difference text (inl h) =
        inl (record { at = c.at; fault = h.fault; parts = (run.parts h.fault).0 h.parts; is_text = h.is_text })
    is_difference text (inr h) =
        inr (record { at = c.at; end = end_of h.end; it = h.it; first = h.first; is_text = h.is_text })

    resume_differs : (text : List ℕ) → RestDiffers file report bytes text → DiffersSo file report thread text
    resume_differs text h =
        let there = rest_differs_there file report bytes text h in
        is_difference text (subst (RestDiffersAt report text) (one_told file report bytes there.0 rest) there.1)

-- ---- where the replay comes to the block, the budget was not used up

pub left_over : (file report : List ℕ) (thread count : ℕ) (bytes text : List ℕ) (c : IsCheckpointOf file report thread count bytes)
    → IsReplayOf file report thread text → count < c.at.config.budget
left_over file report thread count bytes text c h =
    let here = subst (Replays report thread text) (one_place file report thread h.at c.at) (replays_there file report thread text h) in
    let counts = c.stands.counts in
    let below = c.below in
    let last = here.end.count in
    let more : c.state.count < here.end.state.count = omega (arith, counts, below, last) in
    let within =
    not_used_up c.at.program c.at.config thread c.at.block.journal c.stands.turns c.state c.used c.stands.left c.stands.reached
    here.end.state here.end.stop here.end.run more in
    omega (arith, within, counts)

-- ---- where the report reads what was written, it was not either

-- the fields of two counts in one file
count_fields : (digest : List ℕ) (options : Numbers) (s t : State) (m n u v : ℕ)
    → checkpoint digest options s m u ≡ checkpoint digest options t n v → little_bytes 4 s.count ≡ little_bytes 4 t.count
unfolding checkpoint checkpoint_values thread_values
count_fields digest options s t m n u v e =
    let front = first_values digest options in
    let later = append_inj (concat front) (concat front) _ _ refl (sym (concat-append front _) ∙ e ∙ concat-append front _) in
    let number = append_inj (little_bytes 4 m) (little_bytes 4 n) _ _ refl later.1 in
    (append_inj (little_bytes 4 s.count) (little_bytes 4 t.count) _ _ refl number.1).0

module _ (file report : List ℕ) (thread count : ℕ) (bytes : List ℕ) (c : IsCheckpointOf file report thread count bytes)
    (r : IsRestIn file report bytes)
  where
    reads_there : ReadsCheckpoint bytes c.at.said r.from r.thread r.used
    reads_there =
        subst (λ (s : Report). ReadsCheckpoint bytes s r.from r.thread r.used)
        (one_Ok (report_in report) r.at.said c.at.said r.at.reads c.at.reads) r.reads

    corner : c.at.config.budget ≤ count → ⊥
    corner over =
        let most =
        within_budget c.at.program c.at.config thread c.at.block.journal c.stands.turns c.state c.used c.stands.left c.stands.reached in
        let counts = c.stands.counts in
        let spent : c.state.count ≡ c.at.config.budget = omega (arith, most, counts, over) in
        let same =
        count_fields c.at.said.image c.at.said.options r.from c.state r.thread thread r.used c.used (sym reads_there.file ∙ c.is_text) in
        let read : r.from.count ≡ c.at.said.options.budget =
        sym (word_back r.from.count reads_there.widths.count) ∙ ap (little_number 4) same
        ∙ ap (λ n. little_number 4 (little_bytes 4 n)) (spent ∙ ap (λ (o : Numbers). o.budget) c.at.given)
        ∙ budget_kept bytes c.at.said r.from r.thread r.used reads_there in
        let below = below_budget bytes c.at.said r.from r.thread r.used reads_there in
        omega (arith, read, below)

    budget_left : count < c.at.config.budget
    budget_left = elim (cases_lt_eq_gt count c.at.config.budget) [
      | inl less ↦ less
      | inr (inl same) ↦ absurd (corner (omega (arith, same)))
      | inr (inr more) ↦ absurd (corner (omega (arith, more)))
    ]

-- ---- from a checkpoint that was written

module _ (file report : List ℕ) (thread count : ℕ) (bytes text : List ℕ) (c : IsCheckpointOf file report thread count bytes) where
  pub resumes : IsReplayOf file report thread text → IsResumeOf file report bytes text
  resumes h =
      replayed file report thread count bytes c (c.read_back (left_over file report thread count bytes text c h)) text h

  replays : IsResumeOf file report bytes text → IsReplayOf file report thread text
  replays h = resumed file report thread count bytes c (c.read_back (budget_left file report thread count bytes c h.rest)) text h

  pub same_block : IsResumeOf file report bytes text ↔ IsReplayOf file report thread text
  same_block = (replays, resumes)

  pub same_difference : IsRestIn file report bytes → RestDiffers file report bytes text ↔ DiffersSo file report thread text
  same_difference r =
      let reads = c.read_back (budget_left file report thread count bytes c r) in (
        resume_differs file report thread count bytes c reads text,
        replay_differs file report thread count bytes c reads text,
      )

-- ---- what the report reads is that of a place of the run, of which the rest comes to what the run comes to

module _ (file report : List ℕ) (thread count : ℕ) (bytes : List ℕ) (c : IsCheckpointOf file report thread count bytes)
    (r : IsRestIn file report bytes)
  where
    reads_back : ReadsCheckpoint bytes c.at.said c.state thread c.used
    reads_back = c.read_back (budget_left file report thread count bytes c r)

    same_told : told (rest file report thread count bytes c reads_back) ≡ told r
    same_told = one_told file report bytes (rest file report thread count bytes c reads_back) r

    whole_run : ComesToTheRun c.at.program c.at.config thread c.at.block.journal c.state c.used c.at.block.count
    whole_run = run file report thread count bytes c reads_back

    pub same_ends : (state : State) (stop : Stop)
        → IsRestOfRun r.at.config r.thread r.from r.used (rest_of r) state stop
        ↔ IsLoneRun c.at.program c.at.config thread c.at.block.journal state stop
    same_ends state stop =
        subst
        (λ (t : Told). IsRestOfRun t.config t.thread t.from t.used (drop t.used t.block.journal) state stop
        ↔ IsLoneRun c.at.program c.at.config thread c.at.block.journal state stop) same_told (whole_run.same state stop)

    pub same_partings : (fault : AloneFault)
        → IsPartingFrom r.at.config r.thread r.from r.used (rest_of r) r.at.block.count fault
        ↔ IsParting c.at.program c.at.config thread c.at.block.journal c.at.block.count fault
    same_partings fault =
        subst
        (λ (t : Told). IsPartingFrom t.config t.thread t.from t.used (drop t.used t.block.journal) t.block.count fault
        ↔ IsParting c.at.program c.at.config thread c.at.block.journal c.at.block.count fault) same_told (whole_run.parts fault)
