-- A checkpoint that is written of a thread of a report is read back for that report.
use Rattle.std.proofs.Common.{◌≡◌, ℕ, ◌<◌, ◌≤◌, List, length, refl, sym, ◌∙◌, ap, subst, arith, Some, None}
use Rattle.std.specs.Prelude.{slice_get, slice_index, IsSome}
use Rattle.plain_lemmas.proofs.Options.{neither_some}
use Rattle.sm_types.specs.Options.{numbers_of}
use Rattle.sm_types.specs.declared.config.Config.{Config}
use Rattle.paged_memory.specs.Image.{Program}
use Rattle.paged_memory.proofs.Count.{page_of_parts}
use Rattle.elf_headers.specs.Header.{kind_fault, length_fault, table_fault}
use Rattle.elf_headers.specs.Loads.{extents_of, headers_fault, loads_of, overlap_fault, pages_fault}
use Rattle.elf_headers.specs.Segments.{segments_fault}
use Rattle.elf_headers.proofs.Extents.{loads_are_sound, loads_placed}
use Rattle.elf_loader.specs.Loading.{load_fault, Loads}
use Rattle.kernel_contexts.specs.Context.{config_of, journal_of, state_of, thread_of}
use Rattle.kernel_contexts.specs.declared.context.Context.{Context}
use Rattle.report_reader.specs.Block.{Block}
use Rattle.report_reader.specs.Report.{Report}
use Rattle.ckpt_fields.specs.Rows.{counts, journals}
use Rattle.ckpt_file.specs.Beyond.{GoesBeyond, HasLoadablePages}
use Rattle.ckpt_file.specs.Checkpoint.{checkpoint, ReadsCheckpoint}
use Rattle.smemu.proofs.Checkpoints.{index_said}

-- ---- the pages of a program that is loaded are where an image may have one

module _ (file : List ℕ) (program : Program) (h : Loads file program) where
  headers : headers_fault file ≡ None
  unfolding load_fault
  headers = (neither_some (headers_fault file) _ h.accepted).0

  from_segments : (segments_fault file ≡ None) × (overlap_fault file ≡ None) × (pages_fault file ≡ None)
  unfolding headers_fault
  from_segments =
      let kind = neither_some (length_fault file) _ headers in
      let table = neither_some (kind_fault file) _ kind.1 in
      let segments = neither_some (table_fault file) _ table.1 in
      let overlap = neither_some (segments_fault file) _ segments.1 in
      let pages = neither_some (overlap_fault file) _ overlap.1 in
      (overlap.0, pages.0, (neither_some (pages_fault file) _ pages.1).0)

  pub loadable_pages : HasLoadablePages program
  loadable_pages n there =
      let sound = loads_are_sound file (loads_of file) refl from_segments.0 from_segments.1 from_segments.2 in
      let placed = loads_placed file (loads_of file) sound in
      page_of_parts (extents_of file) n placed.placed (subst (λ o. IsSome o) (h.memory.flags n) there)

-- ---- the report has the thread's options, and its block goes further

module _ (report : Report) (context : Context) (thread count : ℕ) (block : Block) (config : Config) (same : config_of context ≡ config)
    (number : thread_of context ≡ thread) (options : report.options ≡ numbers_of config)
    (stands : slice_get report.blocks thread ≡ Some block)
    (counted : (state_of context).count ≡ count) (below : count < block.count) (few : length (journal_of context) ≤ length block.journal)
  where
    beyond : count < config.budget → GoesBeyond report context
    beyond within =
        let counts_there : slice_index (counts report) (thread_of context) ≡ block.count =
        ap (slice_index (counts report)) number ∙ index_said (λ (b : Block). b.count) report.blocks thread block stands in
        let journal_there : slice_index (journals report) (thread_of context) ≡ length block.journal =
        ap (slice_index (journals report)) number ∙ index_said (λ (b : Block). length b.journal) report.blocks thread block stands in
        let budget : (config_of context).budget ≡ config.budget = ap (λ (c : Config). c.budget) same in
        record {
          options = options ∙ ap numbers_of (sym same);
          count = omega (arith, counts_there, counted, below);
          budget = omega (arith, budget, counted, within);
          events = omega (arith, journal_there, few);
        }

    -- it is read as what it was written of
    pub read_so : (bytes : List ℕ)
        → bytes ≡ checkpoint report.image (numbers_of (config_of context)) (state_of context) (thread_of context)
        (length (journal_of context))
        → ((r : Report) → GoesBeyond r context
        → ReadsCheckpoint (checkpoint r.image (numbers_of (config_of context)) (state_of context) (thread_of context)
        (length (journal_of context))) r (state_of context) (thread_of context) (length (journal_of context)))
        → count < config.budget → ReadsCheckpoint bytes report (state_of context) thread (length (journal_of context))
    read_so bytes written read within =
        subst (λ n. ReadsCheckpoint bytes report (state_of context) n (length (journal_of context))) number
        (subst (λ (b : List ℕ). ReadsCheckpoint b report (state_of context) (thread_of context) (length (journal_of context))) (sym written)
        (read report (beyond within)))
