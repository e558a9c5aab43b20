-- What `ckpt` has written is resumed where the thread is replayed.
use Rattle.std.proofs.Common.{◌≡◌, ℕ, ◌/◌, ◌<◌, ◌≤◌, Bool, true, false, cond, List, [], ◌∷◌, length, Option, Some, None, Result}
use Rattle.std.proofs.Common.{refl, ◌∙◌, ap, subst, arith}
use Rattle.std.specs.Prelude.{nat_lt, option_map}
use Rattle.std.specs.Str.{bytes_eq}
use Rattle.std.proofs.lemmas.Slice.Eq.{bytes_eq-Decides}
use Rattle.plain_lemmas.proofs.Options.{one_Some}
use Rattle.sha2.specs.Sha256.{sha256}
use Rattle.sha2.proofs.Facts256.{length-sha256}
use Rattle.sm_types.specs.declared.numbers.Numbers.{Numbers}
use Rattle.ckpt_fields.specs.Rows as ckpt
use Rattle.ckpt_fields.specs.Rows.{checkpoint_fault}
use Rattle.report_reader.specs.Reading.{Fault}
use Rattle.report_reader.specs.Report.{Report, report_in}
use Rattle.report_reader.specs.declared.fault.ReportKind.TheVariants.{Image, NoThread}
use Rattle.command_lines.specs.declared.status.Status.TheVariants.{Done}
use Rattle.smemu.specs.Answers.{outcome, AreAccepted, IsOutcome}
use Rattle.smemu.specs.Checkpoints.{IsCheckpointOf}
use Rattle.smemu.specs.Rejections.{checkpoint_judge, field_told, program_judge, report_judge}
use Rattle.smemu.specs.Replay.{IsBlockIn, IsReplayOf}
use Rattle.smemu.specs.Requests.{files_named}
use Rattle.smemu.specs.declared.rejection.Rejection.TheVariants as rejection
use Rattle.smemu_laws.specs.Asked.{checkpoint_asked, replay_asked, resume_asked}
use Rattle.smemu_laws.proofs.Resumed.{left_over, resumes}
use Rattle.smemu_laws.proofs.Short.{read_accepted, short_length}

-- ---- the files of the two commands

record AreOpened (files : List ℕ → Option (List ℕ)) (program report file bytes : List ℕ) : Type 0 where
  program_is : files program ≡ Some file
  loaded : program_judge file ≡ None
  report_is : files report ≡ Some bytes
  accepted : report_judge bytes ≡ None

record IsOpened (files : List ℕ → Option (List ℕ)) (program report : List ℕ) (tells : List ℕ → List ℕ → Type 0) : Type 0 where
  file : List ℕ
  bytes : List ℕ
  are : AreOpened files program report file bytes
  ends : tells file bytes

module _ (files : List ℕ → Option (List ℕ)) (program report : List ℕ) (thread count : ℕ) (text : List ℕ) where
  checkpoint_opened : (fs : List (List ℕ))
      → AreAccepted (Some files) (checkpoint_asked program report thread count) []
      (files_named (checkpoint_asked program report thread count)) fs
      → outcome (checkpoint_asked program report thread count) fs Done text
      → IsOpened files program report (λ file bytes. IsCheckpointOf file bytes thread count text)
  checkpoint_opened [] h e = absurd h
  checkpoint_opened (file ∷ []) h e = absurd h.2
  checkpoint_opened (file ∷ bytes ∷ []) h e = record {
    file = file;
    bytes = bytes;
    are = record { program_is = h.0; loaded = h.1; report_is = h.2.0; accepted = h.2.1 };
    ends = e;
  }
  checkpoint_opened (file ∷ bytes ∷ more ∷ fs) h e = absurd h.2.2

  replay_opened : (fs : List (List ℕ))
      → AreAccepted (Some files) (replay_asked program report thread) [] (files_named (replay_asked program report thread)) fs
      → outcome (replay_asked program report thread) fs Done text
      → IsOpened files program report (λ file bytes. IsReplayOf file bytes thread text)
  replay_opened [] h e = absurd h
  replay_opened (file ∷ []) h e = absurd h.2
  replay_opened (file ∷ bytes ∷ []) h e = record {
    file = file;
    bytes = bytes;
    are = record { program_is = h.0; loaded = h.1; report_is = h.2.0; accepted = h.2.1 };
    ends = e;
  }
  replay_opened (file ∷ bytes ∷ more ∷ fs) h e = absurd h.2.2

-- ---- the report reads what was written

matches_so : (same : Bool) (lower : Bool) (f g : Fault) → cond same (cond lower None (Some f)) (Some g) ≡ None → same ≡ true
matches_so true lower f g e = refl
matches_so false lower f g e = cc

module _ (file report : List ℕ) (thread : ℕ) (at : IsBlockIn file report thread) where
  digest : at.said.image ≡ sha256 file
  digest =
      (bytes_eq-Decides at.said.image (sha256 file)).0
      (matches_so (bytes_eq at.said.image (sha256 file)) (nat_lt thread at.said.options.threads) (record { line = 2; kind = NoThread })
      (record { line = 3; kind = Image }) at.matches)

  short_digest : length at.said.image ≤ 32
  short_digest = let long : length at.said.image ≡ 32 = ap length digest ∙ length-sha256 file in omega (arith, long)

  short_vl : at.said.options.vl / 8 ≤ 256
  short_vl = subst (λ (o : Numbers). o.vl / 8 ≤ 256) at.given (short_length at.config.vl)

  short_svl : at.said.options.svl / 8 ≤ 256
  short_svl = subst (λ (o : Numbers). o.svl / 8 ≤ 256) at.given (short_length at.config.svl)

module _ (file report : List ℕ) (thread count : ℕ) (bytes : List ℕ) (c : IsCheckpointOf file report thread count bytes)
    (within : count < c.at.config.budget)
  where
    pub is_read : checkpoint_fault c.at.said bytes ≡ None
    is_read =
        read_accepted c.at.said (short_vl file report thread c.at) (short_svl file report thread c.at)
        (short_digest file report thread c.at) bytes c.state thread c.used (c.read_back within)

    judged : checkpoint_judge (report_in report) bytes ≡ None
    judged =
        ap (λ (r : Result Report Fault). checkpoint_judge r bytes) c.at.reads
        ∙ ap (option_map (λ (fault : ckpt.Fault). rejection.Checkpoint (field_told fault))) is_read

-- ---- over files that are told

module _ (files : List ℕ → Option (List ℕ)) (program report name : List ℕ) (thread count : ℕ) (checkpoint text : List ℕ)
    (written : IsOutcome (Some files) (checkpoint_asked program report thread count) Done checkpoint)
    (stands : files name ≡ Some checkpoint)
  where
    of_checkpoint : IsOpened files program report (λ file bytes. IsCheckpointOf file bytes thread count checkpoint)
    of_checkpoint = checkpoint_opened files program report thread count checkpoint written.files written.accepted written.ends

    resumed_from : (c : IsOpened files program report (λ file bytes. IsCheckpointOf file bytes thread count checkpoint))
        → IsReplayOf c.file c.bytes thread text → IsOutcome (Some files) (resume_asked program report name) Done text
    resumed_from c h =
        let within = left_over c.file c.bytes thread count checkpoint text c.ends h in
        record {
          files = c.file ∷ c.bytes ∷ checkpoint ∷ [];
          accepted = (
            c.are.program_is,
            c.are.loaded,
            (c.are.report_is, c.are.accepted, (stands, judged c.file c.bytes thread count checkpoint c.ends within, tt)),
          );
          ends = resumes c.file c.bytes thread count checkpoint text c.ends h;
        }

    pub resumed_where : IsOutcome (Some files) (replay_asked program report thread) Done text
        → IsOutcome (Some files) (resume_asked program report name) Done text
    resumed_where replay =
        let c = of_checkpoint in
        let r = replay_opened files program report thread count text replay.files replay.accepted replay.ends in
        let file = one_Some (files program) r.file c.file r.are.program_is c.are.program_is in
        let bytes = one_Some (files report) r.bytes c.bytes r.are.report_is c.are.report_is in
        resumed_from c
        (subst (λ (b : List ℕ). IsReplayOf c.file b thread text) bytes
        (subst (λ (f : List ℕ). IsReplayOf f r.bytes thread text) file r.ends))
