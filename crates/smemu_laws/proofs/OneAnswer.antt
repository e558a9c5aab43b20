-- Two texts that answer the same request for the same files are equal.
use Rattle.std.proofs.Common.{◌≡◌, ℕ, ◌+◌, true, List, [], ◌∷◌, length, cond, Some, None, refl, sym, ◌∙◌, ap}
use Rattle.std.proofs.Common.{subst}
use Rattle.std.specs.Prelude.{◌==◌, slice_get, slice_index}
use Rattle.std.specs.Str.{bytes_eq}
use Rattle.std.proofs.lemmas.Slice.Eq.{bytes_eq-Decides}
use Rattle.plain_lemmas.proofs.Options.{one_Ok, one_Some}
use Rattle.sha2.specs.Sha256.{sha256}
use Rattle.sm_types.specs.declared.config.Config.{Config}
use Rattle.sm_types.specs.declared.object.Object.{Object}
use Rattle.sm_types.specs.Objects.{text_address, data_address}
use Rattle.asm_core.specs.Assembly.{IsSameObject}
use Rattle.asm_core.proofs.OneObject.{one_object, same_code}
use Rattle.sm_types.specs.declared.numbers.Numbers.{Numbers}
use Rattle.code_listing.specs.Listing.{listing_text}
use Rattle.elf_loader.specs.Loading.{Loads}
use Rattle.elf_loader.specs.Objects.{IsObjectImage, object_extents, text_extent, data_extent}
use Rattle.elf_loader.proofs.Images.{one_memory, one_program}
use Rattle.plan_reader.specs.Plan.{plan_in, event_lines}
use Rattle.plan_reader.specs.Plan as plan
use Rattle.paged_memory.specs.Image.{Extent, IsMemoryOf, Program}
use Rattle.report_text.specs.Report.{ThreadEnd, report_text}
use Rattle.line_reader.specs.Difference.{first_difference}
use Rattle.report_reader.specs.Report.{Report, report_in}
use Rattle.smemu.specs.Replay.{IsBlockIn, IsReplayOf, text_in}
use Rattle.sim_text.specs.Sim.{sim_text}
use Rattle.vector_runner.specs.Grammar as grammar
use Rattle.vector_runner.specs.Grammar.{vectors_in}
use Rattle.vector_runner.specs.Run.{answers_text}
use Rattle.workload.specs.Source.{source_of}
use Rattle.smemu.specs.Answers.{IsReportOf, IsReport, IsListingOf, IsProgramOf}
use Rattle.smemu.specs.Bench.{all_counted, bench_line, IsBench, IsBenchOf}
use Rattle.smemu.specs.Vectors.{IsAnswersOf, length_said}
use Rattle.smemu.specs.Worlds.{AreEndsIn, AreSerialEnds, IsSimulationOf, IsSimulation}
use Rattle.world_core.specs.Happens.{world_after, answers_after}
use Rattle.world_core.specs.World.{World, start_world}
use Rattle.sm_types.proofs.Options.{same_numbers}
use Rattle.smemu_laws.specs.OneAnswer.{AreLoadedAsOne}
use Rattle.smemu_laws.proofs.SerialEnds.{one_end_list, one_serial_run}

-- ---- the texts

one_report : (file : List ℕ) (config : Config) (text other : List ℕ) → config.cores ≡ 1 → IsReportOf file config text
    → IsReportOf file config other → text ≡ other
one_report file config text other one h g =
    let program = one_program file h.program g.program h.loads g.loads in
    let serial = subst (λ (p : Program). AreSerialEnds p config h.ends h.words) program (h.run.serial one) in
    let same = one_serial_run g.program config h.ends g.ends h.words g.words serial (g.run.serial one) in
    h.is_text ∙ ap (λ (es : List ThreadEnd). report_text config (sha256 file) es h.words) same.same_ends
    ∙ ap (report_text config (sha256 file) g.ends) same.same_words ∙ sym g.is_text

one_simulation_of : (file plan : List ℕ) (config : Config) (text other : List ℕ) → IsSimulationOf file plan config text
    → IsSimulationOf file plan config other → text ≡ other
one_simulation_of file plan config text other h g =
    let program = one_program file h.program g.program h.loads g.loads in
    let events = one_Ok (plan_in plan) h.events g.events h.planned g.planned in
    let start = ap (λ (p : Program). start_world p config) program in
    let last = h.happened ∙ (λ i. world_after (start i) (events i)) ∙ sym g.happened in
    let here = subst (λ (w : World). AreEndsIn w h.ends h.words) last h.are in
    let same = one_end_list g.last g.kept.owned h.ends g.ends h.words g.words here g.are in
    h.is_text ∙ (λ i. sim_text (event_lines plan) (answers_after (start i) (events i))
    (report_text config (sha256 file) (same.same_ends i) (same.same_words i)) (last i).history) ∙ sym g.is_text

-- ---- the files of a program

same_extents : (o p : Object) → IsSameObject o p → object_extents o ≡ object_extents p
unfolding object_extents text_extent data_extent
same_extents o p h =
    λ i. record { address = text_address; size = length (h.text_bytes i); flags = 5; bytes = h.text_bytes i }
    ∷ cond (length (h.data_bytes i) == 0) []
    (record { address = data_address (length (h.text_bytes i)); size = length (h.data_bytes i); flags = 6; bytes = h.data_bytes i } ∷ [])

same_image : (o p : Object) (x y : Program) → IsSameObject o p → IsObjectImage o x → IsObjectImage p y → x ≡ y
same_image o p x y s h g =
    let memory =
    one_memory (object_extents p) x.memory y.memory (subst (λ (es : List Extent). IsMemoryOf es x.memory) (same_extents o p s) h.memory)
    g.memory in
    let entry : x.entry ≡ y.entry = h.entry_is ∙ s.entry ∙ sym g.entry_is in
    let code : x.code ≡ y.code = h.code_is ∙ same_code o p s ∙ sym g.code_is in
    λ i. record { memory = memory i; entry = entry i; code = code i }

pub one_assembly : (source text other : List ℕ) → IsProgramOf source text → IsProgramOf source other → AreLoadedAsOne text other
one_assembly source text other h g =
    let same =
    same_image h.object g.object h.written.program g.written.program (one_object source h.object g.object h.assembles g.assembles)
    h.written.image g.written.image in
    (g.written.program, subst (λ (p : Program). Loads text p) same h.written.loads, g.written.loads)

-- ---- the runs of a workload

one_bench_of : (number : ℕ) (config : Config) (text other : List ℕ) → config.cores ≡ 1 → IsBenchOf number config text
    → IsBenchOf number config other → text ≡ other
one_bench_of number config text other one h g =
    let program =
    same_image h.image.object g.image.object h.program g.program
    (one_object (source_of number) h.image.object g.image.object h.image.assembles g.image.assembles) h.image.image g.image.image in
    let serial = subst (λ (p : Program). AreSerialEnds p config h.ends h.words) program (h.run.serial one) in
    let same = one_serial_run g.program config h.ends g.ends h.words g.words serial (g.run.serial one) in
    h.is_text ∙ (λ i. bench_line number (all_counted (same.same_ends i)) (slice_index (same.same_words i).shared 0)) ∙ sym g.is_text

pub one_bench : (number : ℕ) (options : Numbers) (text other : List ℕ) → options.cores ≡ 1 → IsBench number options text
    → IsBench number options other → text ≡ other
one_bench number options text other one h g =
    let config = same_numbers h.config g.config (h.given ∙ sym g.given) in
    let of_config = subst (λ (c : Config). IsBenchOf number c text) config h.bench in
    one_bench_of number g.config text other (ap (λ (o : Numbers). o.cores) g.given ∙ one) of_config g.bench

-- ---- the replays of a thread

-- a thread has one block in a report, with one program and one set of options
pub record IsOneBlock {file report : List ℕ} {thread : ℕ} (a b : IsBlockIn file report thread) : Type 0 where
  pub program : a.program ≡ b.program
  pub config : a.config ≡ b.config
  pub block : a.block ≡ b.block

pub one_block : (file report : List ℕ) (thread : ℕ) (a b : IsBlockIn file report thread) → IsOneBlock a b
one_block file report thread a b =
    let said = one_Ok (report_in report) a.said b.said a.reads b.reads in
    let options = a.given ∙ ap (λ (r : Report). r.options) said ∙ sym b.given in
    record {
      program = one_program file a.program b.program a.loads b.loads;
      config = same_numbers a.config b.config options;
      block =
          one_Some (slice_get a.said.blocks thread) a.block b.block a.stands (ap (λ (r : Report). slice_get r.blocks thread) said
          ∙ b.stands);
    }

pub one_replay : (file report : List ℕ) (thread : ℕ) (text other : List ℕ) → IsReplayOf file report thread text
    → IsReplayOf file report thread other → text ≡ other
one_replay file report thread text other h g =
    sym h.same ∙ ap (text_in report) (one_block file report thread h.at g.at).block ∙ g.same

-- a text differs from itself in no line
pub no_line : (n : ℕ) (lines : List (List ℕ)) → first_difference n lines lines ≡ None
unfolding first_difference
no_line n [] = refl
no_line n (a ∷ rest) =
    let same : bytes_eq a a ≡ true = (bytes_eq-Decides a a).1 refl in
    ap (λ t. cond t (first_difference (n + 1) rest rest) (Some (record { line = n; first = a; second = a }))) same ∙ no_line (n + 1) rest

-- ---- runs and listings

pub one_run_report : (file : List ℕ) (options : Numbers) (text other : List ℕ) → options.cores ≡ 1 → IsReport file options text
    → IsReport file options other → text ≡ other
one_run_report file options text other one h g =
    let config = same_numbers h.config g.config (h.given ∙ sym g.given) in
    let of_config = subst (λ (c : Config). IsReportOf file c text) config h.report in
    one_report file g.config text other (ap (λ (o : Numbers). o.cores) g.given ∙ one) of_config g.report

pub one_simulation : (file plan : List ℕ) (options : Numbers) (text other : List ℕ) → IsSimulation file plan options text
    → IsSimulation file plan options other → text ≡ other
one_simulation file plan options text other h g =
    let config = same_numbers h.config g.config (h.given ∙ sym g.given) in
    let of_config = subst (λ (c : Config). IsSimulationOf file plan c text) config h.simulation in
    one_simulation_of file plan g.config text other of_config g.simulation

pub one_listing : (file text other : List ℕ) → IsListingOf file text → IsListingOf file other → text ≡ other
one_listing file text other h g =
    h.is_text ∙ ap listing_text (h.loads.code_is ∙ sym g.loads.code_is) ∙ sym g.is_text

pub one_answers : (file : List ℕ) (options : Numbers) (text other : List ℕ) → IsAnswersOf file options text
    → IsAnswersOf file options other → text ≡ other
one_answers file options text other h g =
    let vl = length_said options.vl in
    let svl = length_said options.svl in
    h.is_text ∙ ap (answers_text vl svl) (one_Ok (vectors_in vl svl file) h.vectors g.vectors h.read g.read) ∙ sym g.is_text
