use Rattle.std.proofs.Common.{◌≡◌, ℕ, ◌<◌, ◌≤◌, ◌^◌, [], length, ap, sym, ◌∙◌, subst, arith}
use Rattle.std.specs.FinMap.{entries, len}
use Rattle.sm_types.specs.Options.{numbers_of, version_of}
use Rattle.sm_types.specs.declared.config.Config.{Config}
use Rattle.sm_types.specs.declared.numbers.Numbers.{Numbers}
use Rattle.sve_vectors.specs.Lengths.{vector_bytes}
use Rattle.paged_memory.specs.Memory.{IsWhole}
use Rattle.machine_step.specs.declared.machine.Machine.{Machine}
use Rattle.kernel_contexts.specs.Context.{state_of, config_of, thread_of, journal_of, image_of, save_area_of, stop_of}
use Rattle.kernel_contexts.specs.HandlerTable.{handlers_of}
use Rattle.kernel_contexts.specs.Watch.{AreOfSignals}
use Rattle.mem_access.specs.declared.bank.Bank.{Bank}
use Rattle.sm_types.specs.declared.version.Version.{Version}
use Rattle.sm_types.specs.declared.version.Version.TheVariants.{One, Two}
use Rattle.kernel_contexts.specs.Kernel.{depth_limit}
use Rattle.kernel_contexts.specs.Run.{reach, At}
use Rattle.kernel_contexts.specs.Standing.{IsRunOf}
use Rattle.ckpt_fields.specs.Rows.{is_mask}
use Rattle.ckpt_file.specs.Checkpoint.{checkpoint, HasWidths}
use Rattle.ckpt_file.proofs.Filling.{all_of_each}
use Rattle.ckpt_file.proofs.Parts.{IsNarrowEntry, AreNarrow}
use Rattle.ckpt_file.proofs.Modes.{mask_by}
use Rattle.ckpt_file.proofs.Kept.{HasPlaces, entries_narrow}
use Rattle.ckpt_file.proofs.Filled.{IsInTable, state_filled}
use Rattle.ckpt_file.proofs.RunKept.{IsOfSignals, run_pages, run_signals}
use Rattle.ckpt_file.proofs.RunGood.{IsWithin, AreListed, options_narrow, progress_good, handlers_listed, pages_placed, start_pages}
use Rattle.ckpt_file.proofs.laws.checkpoints_are_read.Goals as goal

pub returns : goal.returns
unfolding checkpoint
returns c = λ report beyond.
    let context = c.args.context.now in
    let s = state_of context in
    let config = config_of context in
    let g = context.guest in
    let events : ℕ = length (journal_of context) in
    let run : IsRunOf (image_of context) config (thread_of context) (journal_of context) s (stop_of context) =
    context.is_run c.requires.home in
    let stands : reach (image_of context) config (thread_of context) (journal_of context) s.turns ≡ At s events [] =
    subst (λ stop. IsRunOf (image_of context) config (thread_of context) (journal_of context) s stop) c.requires.runs run in
    let signals : IsOfSignals s = run_signals (image_of context) config (thread_of context)
    (journal_of context) s.turns s events [] stands in
    let whole : IsWhole s.core.memory =
    subst (λ (m : Machine). IsWhole m.pages.memory) c.machine.ensures c.page_count-pages.ensures.whole in
    let few : len s.core.memory.perm ≤ 4096 =
    let value : c.page_count-pages.result ≡ len s.core.memory.perm =
    c.page_count-pages.ensures.value ∙ ap (λ (m : Machine). len m.pages.memory.perm) c.machine.ensures in
    omega (arith, value, c.page_count-pages.ensures.few) in
    let places : HasPlaces s.core.memory =
    pages_placed (image_of context) s.core.memory c.requires.image whole
    (run_pages (image_of context) config (thread_of context) (journal_of context) s.turns s events [] stands
    ∙ start_pages (image_of context) config (thread_of context)) in
    let known : AreOfSignals (handlers_of c.handlers.result.now) =
    subst AreOfSignals (sym c.handlers.ensures.value) g.handlers_of_signals in
    let listed : AreListed s.handlers =
    subst AreListed c.handlers.ensures.value
    (handlers_listed c.handlers.result.now c.handlers.ensures.count known c.addresses_fit.ensures) in
    let within : IsWithin config (thread_of context) s.count events s.depth s.turns =
    record {
      number_within = g.number_within;
      count_within = beyond.budget;
      events_within = omega (arith, g.journal_within, g.journal.ok.0, context.from_start.earlier);
      depth_within = g.depth_within;
      turns_within = let most = g.turns_within in omega (arith, most, context.from_start.begun);
    } in
    let budget : config.budget < 2 ^ 32 = subst (λ (k : Config). k.budget < 2 ^ 32) c.config.ensures c.budget_fits.ensures in
    let good : IsInTable report s (thread_of context) events =
    record {
      progress = progress_good report config
          (thread_of context) s.count events s.depth s.turns beyond.options within beyond.count beyond.events;
      mask = ap (λ (o : Numbers). is_mask o.kernel s.mask) beyond.options
          ∙ mask_by config s.mask signals.mask.even signals.mask.low g.unmasked_at_first;
      handlers = listed.past;
      few_handlers = listed.few;
      few_bytes = omega (arith, g.output_within, g.output.ok.0);
      places = places;
      few_pages = few;
    } in
    let long : length s.core.bank.za ≡ vector_bytes config.svl =
    subst (λ (b : Bank). length b.za.vectors ≡ vector_bytes b.za.svl) c.bank.ensures.value c.size-size.ensures.square.count
    ∙ ap vector_bytes ((save_area_of context).one_length ∙ context.fits.lengths.svl) in
    let wide : HasWidths (numbers_of config) s (thread_of context) events =
    record {
      core = c.contexts_are_plain.ensures.range;
      array = long;
      memory = whole;
      pages = all_of_each (λ (e : ℕ × ℕ). (e.0 < 2 ^ 52) × (e.1 < 2 ^ 8)) (entries s.core.memory.perm)
          (entries_narrow s.core.memory places);
      handlers = all_of_each IsNarrowEntry (entries s.handlers) listed.narrow;
      few_handlers = let most = listed.few in omega (arith, most);
      thread = let least = g.number_within in
          let most = config.threads_in_range.1 in omega (arith, least, most);
      events = let most = within.events_within in omega (arith, most);
      count = let most = beyond.budget in omega (arith, most, budget);
      depth = let most = g.depth_within in
          let limit = few_handlers_deep (version_of config) in omega (arith, most, limit);
      turns = let most = within.turns_within in omega (arith, most, budget);
      held = omega (arith, c.held-held.ensures);
      mask = c.contexts_are_plain.ensures.mask;
    } in
    record {
      file = ap (λ (o : Numbers). checkpoint report.image o s (thread_of context) events) (sym beyond.options);
      fields = state_filled report s (thread_of context) events good
          (subst (λ (o : Numbers). HasWidths o s (thread_of context) events) (sym beyond.options) wide)
          (subst AreNarrow (sym beyond.options) (options_narrow config budget));
      widths = subst (λ (o : Numbers). HasWidths o s (thread_of context) events) (sym beyond.options) wide;
    }
  where
    few_handlers_deep : (version : Version) → depth_limit version ≤ 64
    few_handlers_deep One = omega arith
    few_handlers_deep Two = omega arith
