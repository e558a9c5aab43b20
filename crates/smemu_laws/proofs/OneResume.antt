-- What is written of the rest of the run of a thread of a report, from a checkpoint, is one.
use Rattle.std.proofs.Common.{◌≡◌, inl, inr, ℕ, suc, ◌+◌, true, false, Bool, cond, List, [], drop, Some, None, refl}
use Rattle.std.proofs.Common.{sym, ◌∙◌}
use Rattle.std.proofs.Common.{ap, subst, arith}
use Rattle.std.specs.Prelude.{nat_lt, slice_get}
use Rattle.std.specs.Str.{bytes_eq}
use Rattle.plain_lemmas.proofs.Options.{none_not_some, one_Ok, one_Some}
use Rattle.plain_lemmas.proofs.Numbers.{cases_lt_eq_gt}
use Rattle.sha2.specs.Sha256.{sha256}
use Rattle.sm_types.proofs.Options.{same_numbers}
use Rattle.sm_types.specs.Options.{version_of}
use Rattle.sm_types.specs.declared.config.Config.{Config}
use Rattle.sm_types.specs.declared.shared_op.Event.{Event}
use Rattle.sm_types.specs.declared.stop.Stop.{Stop}
use Rattle.kernel_contexts.specs.State.{State}
use Rattle.kernel_contexts.specs.Run.{Reached, Ended, reach_from, turned}
use Rattle.lone_runner.specs.Rest.{EndsFrom, IsPartingFrom, IsRestOfRun}
use Rattle.lone_runner.specs.declared.fault.AloneFault.{AloneFault}
use Rattle.lone_runner.proofs.Partings.{one_rest_fault, rest_ends}
use Rattle.lone_runner.proofs.Places.{stays_at}
use Rattle.field_table.proofs.Tables.{one_filling}
use Rattle.ckpt_fields.specs.Rows.{checkpoint_table}
use Rattle.ckpt_file.specs.Checkpoint.{checkpoint, checkpoint_values, ReadsCheckpoint}
use Rattle.ckpt_file.proofs.One.{same_events, same_state, same_thread}
use Rattle.line_reader.specs.Difference.{first_difference}
use Rattle.line_reader.specs.Lines.{lines_of}
use Rattle.report_reader.specs.Block.{Block}
use Rattle.report_reader.specs.Reading.{Fault}
use Rattle.report_reader.specs.Report.{Report, report_in}
use Rattle.report_reader.specs.declared.fault.ReportKind.TheVariants.{Image, NoThread}
use Rattle.report_text.specs.Block.{block_text}
use Rattle.command_lines.specs.ReportLines.{difference_lines}
use Rattle.report_compare.specs.DifferLines.{parting_line}
use Rattle.smemu.specs.Replay.{text_in}
use Rattle.smemu.specs.Resume.{rest_of, rest_text, IsOtherProgram, IsRestIn, IsResumeOf, RestDiffers, RestEnds}
use Rattle.smemu_laws.proofs.OneAnswer.{no_line}

-- ---- a rest of a run ends once

module _ (config : Config) (thread : ℕ) (from : State) (done : ℕ) (events : List Event) where
  abbrev there : ℕ → Reached
  there n = reach_from config thread from done events n

  step : (n : ℕ) → there (suc n) ≡ turned config thread (there n)
  unfolding reach_from
  step n = refl

  both_end : (s t : State) (p q : Stop) (u v m n : ℕ) → there m ≡ Ended s p u [] → there n ≡ Ended t q v []
      → ◌≡◌ {A = Reached} (Ended s p u []) (Ended t q v [])
  both_end s t p q u v m n h k = elim (cases_lt_eq_gt m n) [
    | inl less ↦ sym (stays_at config thread there step (Ended s p u []) refl m n (omega (arith, less)) h) ∙ k
    | inr (inl same) ↦ sym h ∙ ap there same ∙ k
    | inr (inr more) ↦ sym h ∙ stays_at config thread there step (Ended t q v []) refl n m (omega (arith, more)) k
  ]

  state_of_end : (s t : State) (p q : Stop) (u v : ℕ) → ◌≡◌ {A = Reached} (Ended s p u []) (Ended t q v []) → s ≡ t
  state_of_end s t p q u v e = cc

  stop_of_end : (s t : State) (p q : Stop) (u v : ℕ) → ◌≡◌ {A = Reached} (Ended s p u []) (Ended t q v []) → p ≡ q
  stop_of_end s t p q u v e = cc

  module _ (s t : State) (p q : Stop) (h : IsRestOfRun config thread from done events s p)
      (k : IsRestOfRun config thread from done events t q)
    where
      one_end_state : s ≡ t
      one_end_state = state_of_end s t p q h.used k.used (both_end s t p q h.used k.used h.turns k.turns h.ends k.ends)

      one_end_stop : p ≡ q
      one_end_stop = stop_of_end s t p q h.used k.used (both_end s t p q h.used k.used h.turns k.turns h.ends k.ends)

-- ---- a checkpoint is that of one state

module _ (bytes : List ℕ) (said : Report) (s r : State) (thread number events used : ℕ) (h : ReadsCheckpoint bytes said s thread events)
    (k : ReadsCheckpoint bytes said r number used)
  where
    same_values : checkpoint_values said.image said.options s thread events ≡ checkpoint_values said.image said.options r number used
    unfolding checkpoint
    same_values =
        one_filling (checkpoint_table said) (checkpoint_values said.image said.options s thread events)
        (checkpoint_values said.image said.options r number used) h.fields k.fields (sym h.file ∙ k.file)

    read_state : s ≡ r
    read_state = same_state said.image said.options s r thread number events used h.widths k.widths same_values

    read_thread : thread ≡ number
    read_thread = same_thread said.image said.options s r thread number events used h.widths k.widths same_values

    read_events : events ≡ used
    read_events = same_events said.image said.options s r thread number events used h.widths k.widths same_values

-- ---- so the rest of a run is one

pub record Told : Type 0 where
  pub config : Config
  pub thread : ℕ
  pub from : State
  pub used : ℕ
  pub block : Block

abbrev pub told : {file report bytes : List ℕ} → IsRestIn file report bytes → Told
told r = record { config = r.at.config; thread = r.thread; from = r.from; used = r.used; block = r.at.block }

pub one_told : (file report bytes : List ℕ) (a b : IsRestIn file report bytes) → told a ≡ told b
one_told file report bytes a b =
    let said = one_Ok (report_in report) a.at.said b.at.said a.at.reads b.at.reads in
    let config =
    same_numbers a.at.config b.at.config (a.at.given ∙ ap (λ (r : Report). r.options) said ∙ sym b.at.given) in
    let reads : ReadsCheckpoint bytes b.at.said a.from a.thread a.used =
    subst (λ (r : Report). ReadsCheckpoint bytes r a.from a.thread a.used) said a.reads in
    let thread = read_thread bytes b.at.said a.from b.from a.thread b.thread a.used b.used reads b.reads in
    let from = read_state bytes b.at.said a.from b.from a.thread b.thread a.used b.used reads b.reads in
    let used = read_events bytes b.at.said a.from b.from a.thread b.thread a.used b.used reads b.reads in
    let block =
    one_Some (slice_get b.at.said.blocks b.thread) a.at.block b.at.block
    (sym (λ i. slice_get (said i).blocks (thread i)) ∙ a.at.stands) b.at.stands in
    λ i. record { config = config i; thread = thread i; from = from i; used = used i; block = block i }

abbrev Ends : Told → Type 0
Ends t = EndsFrom t.config t.thread t.from t.used (drop t.used t.block.journal) t.block.count

abbrev Parts : AloneFault → Told → Type 0
Parts fault t = IsPartingFrom t.config t.thread t.from t.used (drop t.used t.block.journal) t.block.count fault

abbrev end_text : (t : Told) → Ends t → List ℕ
end_text t end = block_text (version_of t.config) t.thread end.state (Some end.stop) t.block.journal

-- the text of an end is one
one_end_text : (t : Told) (a b : Ends t) → end_text t a ≡ end_text t b
one_end_text t a b =
    let events = drop t.used t.block.journal in
    let state = one_end_state t.config t.thread t.from t.used events a.state b.state a.stop b.stop a.run b.run in
    let stop = one_end_stop t.config t.thread t.from t.used events a.state b.state a.stop b.stop a.run b.run in
    λ i. block_text (version_of t.config) t.thread (state i) (Some (stop i)) t.block.journal

same_end_text : (t u : Told) (same : t ≡ u) (a : Ends t) (b : Ends u) → end_text t a ≡ end_text u b
same_end_text t u same =
    subst (λ (v : Told). (a : Ends t) (b : Ends v) → end_text t a ≡ end_text v b) same (one_end_text t)

ends_or_parts : (t u : Told) (fault : AloneFault) → t ≡ u → Ends t → Parts fault u → ⊥
ends_or_parts t u fault same end parts =
    rest_ends t.config t.thread t.from t.used (drop t.used t.block.journal) t.block.count fault end (subst (Parts fault) (sym same) parts)

one_parting : (t u : Told) (f g : AloneFault) → t ≡ u → Parts f t → Parts g u → f ≡ g
one_parting t u f g same h k =
    one_rest_fault u.config u.thread u.from u.used (drop u.used u.block.journal) u.block.count f g (subst (Parts f) same h) k

-- ---- the texts

module _ (file report bytes : List ℕ) (a b : IsRestIn file report bytes) where
  same : told a ≡ told b
  same = one_told file report bytes a b

  same_text : (end : RestEnds a) (other : RestEnds b) → rest_text a end ≡ rest_text b other
  same_text end other = same_end_text (told a) (told b) same end other

  not_parted : (fault : AloneFault) → RestEnds a
      → IsPartingFrom b.at.config b.thread b.from b.used (rest_of b) b.at.block.count fault → ⊥
  not_parted fault end parts = ends_or_parts (told a) (told b) fault same end parts

  one_parted : (f g : AloneFault) → IsPartingFrom a.at.config a.thread a.from a.used (rest_of a) a.at.block.count f
      → IsPartingFrom b.at.config b.thread b.from b.used (rest_of b) b.at.block.count g → f ≡ g
  one_parted f g h k = one_parting (told a) (told b) f g same h k

  one_block_text : text_in report a.at.block ≡ text_in report b.at.block
  one_block_text = ap (λ (t : Told). text_in report t.block) same

pub one_resume : (file report bytes text other : List ℕ) → IsResumeOf file report bytes text → IsResumeOf file report bytes other
    → text ≡ other
one_resume file report bytes text other h g = sym h.same ∙ one_block_text file report bytes h.rest g.rest ∙ g.same

pub one_rest_difference : (file report bytes text other : List ℕ) → RestDiffers file report bytes text
    → RestDiffers file report bytes other → text ≡ other
one_rest_difference file report bytes text other (inl h) (inl g) =
    h.is_text ∙ ap parting_line (one_parted file report bytes h.rest g.rest h.fault g.fault h.parts g.parts) ∙ sym g.is_text
one_rest_difference file report bytes text other (inl h) (inr g) =
    absurd (not_parted file report bytes g.rest h.rest h.fault g.end h.parts)
one_rest_difference file report bytes text other (inr h) (inl g) =
    absurd (not_parted file report bytes h.rest g.rest g.fault h.end g.parts)
one_rest_difference file report bytes text other (inr h) (inr g) =
    let texts = same_text file report bytes h.rest g.rest h.end g.end in
    let blocks = one_block_text file report bytes h.rest g.rest in
    let it =
    one_Some (first_difference 0 (lines_of (text_in report g.rest.at.block)) (lines_of (rest_text g.rest g.end))) h.it g.it
    (sym (λ i. first_difference 0 (lines_of (blocks i)) (lines_of (texts i))) ∙ h.first) g.first in
    let line = ap (λ (t : Told). t.block.first_line) (same file report bytes h.rest g.rest) in
    h.is_text ∙ (λ i. difference_lines (line i + (it i).line) (it i).first (it i).second) ∙ sym g.is_text

pub resumed_or_differs : (file report bytes text other : List ℕ) → IsResumeOf file report bytes text
    → RestDiffers file report bytes other → ⊥
resumed_or_differs file report bytes text other h (inl g) =
    not_parted file report bytes h.rest g.rest g.fault h.end g.parts
resumed_or_differs file report bytes text other h (inr g) =
    let texts : text_in report g.rest.at.block ≡ rest_text g.rest g.end =
    sym (one_block_text file report bytes h.rest g.rest) ∙ h.same ∙ h.is_text ∙ same_text file report bytes h.rest g.rest h.end g.end in
    none_not_some (first_difference 0 (lines_of (text_in report g.rest.at.block)) (lines_of (rest_text g.rest g.end))) g.it
    (ap (λ (t : List ℕ). first_difference 0 (lines_of t) (lines_of (rest_text g.rest g.end))) texts
    ∙ no_line 0 (lines_of (rest_text g.rest g.end))) g.first

-- ---- a report of another program

matches_so : (same lower : Bool) (f g : Fault) → cond same (cond lower None (Some f)) (Some g) ≡ None → same ≡ true
matches_so true lower f g e = refl
matches_so false lower f g e = cc

other_program : (file report bytes text : List ℕ) (r : IsRestIn file report bytes) → IsOtherProgram file report bytes text → ⊥
other_program file report bytes text r h =
    let said = one_Ok (report_in report) r.at.said h.said r.at.reads h.reads in
    let is : bytes_eq r.at.said.image (sha256 file) ≡ true =
    matches_so (bytes_eq r.at.said.image (sha256 file)) (nat_lt r.thread r.at.said.options.threads)
    (record { line = 2; kind = NoThread })
    (record { line = 3; kind = Image }) r.at.matches in
    let other : bytes_eq r.at.said.image (sha256 file) ≡ false =
    ap (λ (q : Report). bytes_eq q.image (sha256 file)) said ∙ h.other in cc

pub resumed_or_other : (file report bytes text other : List ℕ) → IsResumeOf file report bytes text
    → IsOtherProgram file report bytes other → ⊥
resumed_or_other file report bytes text other h g = other_program file report bytes other h.rest g

pub differs_or_other : (file report bytes text other : List ℕ) → RestDiffers file report bytes text
    → IsOtherProgram file report bytes other → ⊥
differs_or_other file report bytes text other (inl h) g = other_program file report bytes other h.rest g
differs_or_other file report bytes text other (inr h) g = other_program file report bytes other h.rest g
