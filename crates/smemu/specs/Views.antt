-- What the answers and refusals of the code stand for, on the way from the words to the writing.
use Rattle.std.specs.Prelude.{◌≡◌, ◌⊎◌, ℕ, ◌+◌, ◌<◌, ◌≤◌, [], List, Some, None, IfSome, IsSome, IsTrue, Result}
use Rattle.std.specs.Prelude.{Ok, Err, option_map, drop, length, slice_get, take}
use Rattle.std.specs.List.{flat_map}
use Rattle.std.specs.String.{string_bytes}
use Rattle.edge_io.specs.Cause.{Rose}
use Rattle.edge_io.specs.Files.{Told, FilesView, IsKept}
use Rattle.edge_io.specs.Sink.{SinkView, Writes}
use Rattle.edge_io.specs.declared.sink.PutFault.{PutFault}
use Rattle.edge_io.specs.declared.sink.PutFault.TheVariants.{Failed}
use Rattle.cmd_words.specs.Words.{Request}
use Rattle.code_listing.specs.Listing.{listing_text}
use Rattle.kernel_contexts.specs.Loose.{loose_config, loose_events, loose_state, loose_stop, loose_thread}
use Rattle.kernel_contexts.specs.declared.loose.Loose.{Loose}
use Rattle.lone_runner.specs.Parting.{EndsAt, IsParting, IsPartingBefore}
use Rattle.lone_runner.specs.Rest.{IsPartingFrom}
use Rattle.paged_memory.specs.Image.{Program}
use Rattle.report_reader.specs.Block.{Block}
use Rattle.line_reader.specs.Difference.{first_difference}
use Rattle.line_reader.specs.Difference as lines
use Rattle.line_reader.specs.Lines.{lines_of}
use Rattle.report_reader.specs.Report.{Report}
use Rattle.script_reader.specs.Script.{script_in}
use Rattle.sme_debugger.specs.Session.{recording_of, place_of}
use Rattle.sha2.specs.Sha256.{sha256}
use Rattle.sm_types.specs.declared.config.Config.{Config}
use Rattle.sm_types.specs.declared.shared_op.Event.{Event}
use Rattle.sm_types.specs.declared.stop.Stop.{Stop}
use Rattle.sm_types.specs.Options.{version_of}
use Rattle.ckpt_file.specs.Checkpoint.{ReadsCheckpoint}
use Rattle.report_text.specs.Block.{block_text}
use Rattle.report_text.specs.Ends.{ends_of}
use Rattle.report_text.specs.Report.{report_text}
use Rattle.sim_text.specs.Sim.{sim_text}
use Rattle.command_lines.specs.CheckpointLines.{checkpoint_line}
use Rattle.command_lines.specs.declared.checkpoint_line.CheckpointFault.TheVariants.{Count}
use Rattle.command_lines.specs.LawLines.{lawful_line, unlawful_line}
use Rattle.command_lines.specs.ReportLines.{report_line, difference_lines}
use Rattle.command_lines.specs.Texts.{usage_line, help_text, version_text}
use Rattle.command_lines.specs.declared.status.Status.{Status}
use Rattle.command_lines.specs.declared.status.Status.TheVariants as status
use Rattle.workload.specs.Source.{source_of}
use Rattle.smemu.specs.Answers.{IsFile, outcome}
use Rattle.smemu.specs.Bench.{bench_line}
use Rattle.smemu.specs.Checkpoints.{FallsShort, IsCheckpointOf, IsLate, IsShort}
use Rattle.smemu.specs.Checks.{kind_word, IsLawfulOf, IsUnlawfulOf}
use Rattle.report_compare.specs.DifferLines.{parting_line}
use Rattle.smemu.specs.Excerpt.{excerpt_text}
use Rattle.smemu.specs.Ends.{Change, change, Stands, Defined, FetchesReached, absent_line, read_fault_line}
use Rattle.smemu.specs.Rejections.{Judge, rejection_status, rejection_line}
use Rattle.smemu.specs.Debug.{AllAnswers, FrontAnswers, recorded}
use Rattle.smemu.specs.Replay.{mismatch, IsBlockIn, IsReplayOf, IsMismatched, IsParted, DiffersSo}
use Rattle.smemu.specs.Requests.{reached_of}
use Rattle.smemu.specs.Resume.{IsOtherProgram, IsResumeOf, RestDiffers}
use Rattle.smemu.specs.Vectors.{with_line_feed}
use Rattle.smemu.specs.declared.answer.Answer.{Answer}
use Rattle.smemu.specs.declared.answer.Answer.TheVariants as answer
use Rattle.smemu.specs.declared.answer.Text.{Text}
use Rattle.smemu.specs.declared.answer.Text.TheVariants as texts
use Rattle.smemu.specs.declared.answer.RunReport.{RunReport}
use Rattle.smemu.specs.declared.answer.Simulation.{Simulation}
use Rattle.smemu.specs.declared.bench.Summary.{Summary}
use Rattle.smemu.specs.declared.debug.Debugging.{Debugging}
use Rattle.smemu.specs.declared.ending.Difference.{Difference}
use Rattle.smemu.specs.declared.ending.Difference.TheVariants as difference
use Rattle.smemu.specs.declared.ending.Ending.{Ending}
use Rattle.smemu.specs.declared.ending.Ending.TheVariants as ending
use Rattle.smemu.specs.declared.refusal.Refusal.{Refusal}
use Rattle.smemu.specs.declared.refusal.Refusal.TheVariants as refusal
use Rattle.smemu.specs.declared.refusal.Unread.{Unread}
use Rattle.smemu.specs.declared.refusal.Unread.TheVariants as unread
use Rattle.smemu.specs.declared.rejection.Rejection.{Rejection}

-- the text of a report
unfoldable pub run_text : RunReport → List ℕ
run_text r = report_text r.head.config r.head.image (ends_of r.run.contexts.items) r.run.words

-- the text of a plan's events
unfoldable pub simulation_text : Simulation → List ℕ
simulation_text s = sim_text s.lines.items s.answers.items (run_text s.report) s.history.items

-- the line of a workload
abbrev pub summary_text : Summary → List ℕ
summary_text s = bench_line s.number s.instructions s.word

-- the text that is answered
abbrev pub answer_text : Text → List ℕ
answer_text (texts.Report report) = run_text report
answer_text (texts.Simulation simulation) = simulation_text simulation
answer_text (texts.Listing image) = listing_text image.code
answer_text (texts.Program bytes) = bytes.items
answer_text (texts.Block block) = excerpt_text block
answer_text (texts.Checkpoint bytes) = bytes.items
answer_text (texts.Lawful calls unreturned) = lawful_line calls unreturned
answer_text (texts.Lines lines) = flat_map with_line_feed lines.items
answer_text (texts.Source number) = source_of number
answer_text (texts.Summary summary) = summary_text summary
answer_text texts.Help = help_text
answer_text texts.Version = version_text

-- the text of a difference
abbrev pub difference_text : Difference → List ℕ
difference_text (difference.Parts fault) = parting_line fault
difference_text (difference.Lines line report replay) = difference_lines line report.items replay.items

-- the text and the status of an ending
abbrev pub ending_text : Ending → List ℕ
ending_text (ending.Mismatch line kind) = report_line (record { line = line; kind = kind })
ending_text (ending.Differs it) = difference_text it
ending_text (ending.Late end) = checkpoint_line (Count end)
ending_text (ending.Unlawful count pc kind) = unlawful_line count pc (kind_word kind)

abbrev pub ending_status : Ending → Status
ending_status (ending.Mismatch line kind) = status.BadReport
ending_status (ending.Differs it) = status.Differs
ending_status (ending.Late end) = status.BadCheckpoint
ending_status (ending.Unlawful count pc kind) = status.Unlawful

-- the line and the status of a file that was not fetched
abbrev pub unread_line : Unread → List ℕ → List ℕ
unread_line unread.Absent name = absent_line name
unread_line unread.Failed name = read_fault_line name

abbrev pub unread_status : Unread → Status
unread_status unread.Absent = status.Absent
unread_status unread.Failed = status.ReadFault

-- the text of a refusal
unfoldable pub refusal_text : Refusal → List ℕ
refusal_text (refusal.Usage place kind) = usage_line (record { place = place; kind = kind })
refusal_text (refusal.Unread name why) = unread_line why (string_bytes name)
refusal_text (refusal.Rejected rejection) = rejection_line rejection
refusal_text (refusal.Ended end) = ending_text end
refusal_text refusal.Memory = []

-- the status of a refusal
abbrev pub refusal_status : Refusal → Status
refusal_status (refusal.Usage place kind) = status.Usage
refusal_status (refusal.Unread name why) = unread_status why
refusal_status (refusal.Rejected rejection) = rejection_status rejection
refusal_status (refusal.Ended end) = ending_status end
refusal_status refusal.Memory = status.OutOfMemory

-- the status with which a command ends; where it carries out a script, that where memory is not wanting
abbrev pub end_status : Result Answer Refusal → Status
end_status (Ok a) = status.Done
end_status (Err r) = refusal_status r

-- the text is what all commands of a session print
abbrev pub PrintsAll : Debugging → List ℕ → Type 0
PrintsAll d = AllAnswers (recording_of d.session) (place_of d.session) d.commands.items

-- the text is what those before one of them print
abbrev pub PrintsFront : Debugging → List ℕ → Type 0
PrintsFront d = FrontAnswers (recording_of d.session) (place_of d.session) d.commands.items

-- a command's end is written with this status and this text: a session with what all its commands print, or
-- where memory was wanting for one of them, with what those before it do
abbrev pub EndsWith : Result Answer Refusal → Status → List ℕ → Type 0
EndsWith (Ok (answer.Text answered)) s text = (s ≡ status.Done) × (text ≡ answer_text answered)
EndsWith (Ok (answer.Session d)) status.Done text = PrintsAll d text
EndsWith (Ok (answer.Session d)) status.OutOfMemory text = PrintsFront d text
EndsWith (Ok (answer.Session d)) s text = ⊥
EndsWith (Err r) s text = (s ≡ refusal_status r) × (text ≡ refusal_text r)

-- an end was written to a sink with this result: the status of a text, which was written, or of one of which
-- a part was
abbrev pub WritesEnd : Result Answer Refusal → SinkView → SinkView → Result Status PutFault → Type 0
WritesEnd end before after (Ok s) =
    (text : List ℕ) × EndsWith end s text × Writes before after (Ok tt) text
WritesEnd end before after (Err fault) =
    (s : Status) × (text : List ℕ) × EndsWith end s text × Writes before after (Err fault) text

-- an end was written to a sink, and this is the status with which the command then ends
abbrev pub WritesStatus : Result Answer Refusal → SinkView → SinkView → Status → Type 0
WritesStatus end before after s =
    WritesEnd end before after (Ok s) ⊎ ((s ≡ status.WriteFault) × WritesEnd end before after (Err Failed))

-- ---- files

-- these are the bytes of the file of that name, or those of its front, as far as the limit
abbrev pub IsFront : Told → ℕ → List ℕ → List ℕ → Type 0
IsFront told limit name bytes = IfSome told (λ files. option_map (take limit) (files name) ≡ Some bytes)

-- why a file was not fetched
abbrev pub IsWhy : Change FilesView → List ℕ → Unread → Type 0
IsWhy files name unread.Absent =
    IfSome files.before.told (λ told. told name ≡ None) × Rose files.before.absences files.after.absences
IsWhy files name unread.Failed =
    IfSome files.before.told (λ told. IsSome (told name)) × Rose files.before.faults files.after.faults
    × (IsTrue files.before.reliable → ⊥)

-- the file of that name was not fetched
abbrev pub IsUnread : Change FilesView → List ℕ → Refusal → Type 0
IsUnread files name (refusal.Unread shown why) = (string_bytes shown ≡ name) × IsWhy files name why
IsUnread files name refusal.Memory = Unit {0}
IsUnread files name other = ⊥

-- the file is not accepted
abbrev pub IsRejected : Judge → List ℕ → Refusal → Type 0
IsRejected judge file (refusal.Rejected rejection) = judge file ≡ Some rejection
IsRejected judge file refusal.Memory = Unit {0}
IsRejected judge file other = ⊥

-- the file of that name is accepted
pub record IsOpened (told : Told) (name : List ℕ) (judge : Judge) (file : List ℕ) : Type 0 where
  pub is_file : IsFile told name file
  pub accepted : judge file ≡ None

-- the file of that name is not accepted
pub record IsRefusedFile (told : Told) (name : List ℕ) (judge : Judge) (rejection : Rejection) : Type 0 where
  pub file : List ℕ
  pub is_file : IsFile told name file
  pub rejects : judge file ≡ Some rejection

-- the file of that name was not fetched, or is not accepted
abbrev pub IsUnopened : Change FilesView → List ℕ → Judge → Refusal → Type 0
IsUnopened files name judge (refusal.Rejected rejection) =
    IsRefusedFile files.before.told name judge rejection
IsUnopened files name judge other = IsUnread files name other

-- ---- replays

-- the fault of a report that says another program, or has no such thread
abbrev pub IsUnmatched : List ℕ → ℕ → Report → Refusal → Type 0
IsUnmatched file thread said (refusal.Ended (ending.Mismatch line kind)) =
    mismatch (sha256 file) thread said ≡ Some (record { line = line; kind = kind })
IsUnmatched file thread said other = ⊥

-- the thread of a block parts so from its journal or its count
abbrev pub IsPartedRefusal : Program → Config → ℕ → Block → Refusal → Type 0
IsPartedRefusal program config thread block (refusal.Ended (ending.Differs (difference.Parts fault))) =
    IsParting program config thread block.journal block.count fault
IsPartedRefusal program config thread block refusal.Memory = Unit {0}
IsPartedRefusal program config thread block other = ⊥

-- a line that is another in the replay
abbrev pub IsOtherLine : ℕ → List ℕ → List ℕ → Difference → Type 0
IsOtherLine line report replay (difference.Lines number first second) =
    (number ≡ line) × (first.items ≡ report) × (second.items ≡ replay)
IsOtherLine line report replay other = ⊥

-- what comes of comparing a block of the report, whose first line has this number, with that of the replay
abbrev pub ComparesSo : List ℕ → ℕ → List ℕ → Result (Unit {0}) Refusal → Type 0
ComparesSo report line replay (Ok nothing) = report ≡ replay
ComparesSo report line replay (Err (refusal.Ended (ending.Differs it))) =
    (first : lines.Difference) × (first_difference 0 (lines_of report) (lines_of replay) ≡ Some first)
    × IsOtherLine (line + first.line) first.first first.second it
ComparesSo report line replay (Err refusal.Memory) = Unit {0}
ComparesSo report line replay (Err other) = ⊥

-- the end of a replay of a thread, by the program's file and the report, which are accepted
abbrev pub EndsReplay : List ℕ → List ℕ → ℕ → Result Answer Refusal → Type 0
EndsReplay file report thread (Ok (answer.Text answered)) =
    IsReplayOf file report thread (answer_text answered)
EndsReplay file report thread (Ok (answer.Session d)) = ⊥
EndsReplay file report thread (Err (refusal.Ended (ending.Mismatch line kind))) =
    IsMismatched file report thread (record { line = line; kind = kind })
EndsReplay file report thread (Err (refusal.Ended (ending.Differs it))) =
    DiffersSo file report thread (difference_text it)
EndsReplay file report thread (Err refusal.Memory) = Unit {0}
EndsReplay file report thread (Err other) = ⊥

-- ---- sessions of the debugger

-- a session stands at count 0 of the recorded run of a thread that a report has, which ends with exactly the
-- journal and the count of its block, and its commands are those of a script
pub record IsDebugging (file report : List ℕ) (thread : ℕ) (script : List ℕ) (d : Debugging) : Type 0 where
  pub at : IsBlockIn file report thread
  pub ends : EndsAt at.program at.config thread at.block.journal at.block.count
  pub recording : recording_of d.session ≡ recorded at
  pub place : place_of d.session ≡ 0
  pub said : script_in script ≡ Ok d.commands.items

-- the end of `debug`, by the program's file, the report and the script, which are accepted
abbrev pub EndsDebug : List ℕ → List ℕ → ℕ → List ℕ → Result Answer Refusal → Type 0
EndsDebug file report thread script (Ok (answer.Text answered)) = ⊥
EndsDebug file report thread script (Ok (answer.Session d)) = IsDebugging file report thread script d
EndsDebug file report thread script (Err (refusal.Ended (ending.Mismatch line kind))) =
    IsMismatched file report thread (record { line = line; kind = kind })
EndsDebug file report thread script (Err (refusal.Ended (ending.Differs it))) =
    IsParted file report thread (difference_text it)
EndsDebug file report thread script (Err refusal.Memory) = Unit {0}
EndsDebug file report thread script (Err other) = ⊥

-- ---- checkpoints

-- the run of a block's thread parts so before a count
abbrev pub IsBeforeRefusal : Program → Config → ℕ → Block → ℕ → Refusal → Type 0
IsBeforeRefusal program config thread block count (refusal.Ended (ending.Differs (difference.Parts fault))) =
    IsPartingBefore program config thread block.journal count fault
IsBeforeRefusal program config thread block count refusal.Memory = Unit {0}
IsBeforeRefusal program config thread block count other = ⊥

-- the thread of a block does not go on at a count
abbrev pub IsShortRefusal : Program → Config → ℕ → Block → ℕ → Refusal → Type 0
IsShortRefusal program config thread block count (refusal.Ended (ending.Differs (difference.Parts fault))) =
    FallsShort program config thread block.journal count fault
IsShortRefusal program config thread block count refusal.Memory = Unit {0}
IsShortRefusal program config thread block count other = ⊥

-- the end of `ckpt`, by the program's file and the report, which are accepted
abbrev pub EndsCheckpoint : List ℕ → List ℕ → ℕ → ℕ → Result Answer Refusal → Type 0
EndsCheckpoint file report thread count (Ok (answer.Text answered)) =
    IsCheckpointOf file report thread count (answer_text answered)
EndsCheckpoint file report thread count (Ok (answer.Session d)) = ⊥
EndsCheckpoint file report thread count (Err (refusal.Ended (ending.Mismatch line kind))) =
    IsMismatched file report thread (record { line = line; kind = kind })
EndsCheckpoint file report thread count (Err (refusal.Ended (ending.Late most))) =
    IsLate file report thread count (checkpoint_line (Count most))
EndsCheckpoint file report thread count (Err (refusal.Ended (ending.Differs it))) =
    IsShort file report thread count (difference_text it)
EndsCheckpoint file report thread count (Err refusal.Memory) = Unit {0}
EndsCheckpoint file report thread count (Err other) = ⊥

-- ---- the rest of a run

-- the thread goes on in its state, which is not past the block's count and has used no more events than the
-- block's journal has
pub record IsInBlock (block : Block) (loose : Loose) : Type 0 where
  pub runs : loose_stop loose ≡ None
  pub most : (loose_state loose).count ≤ block.count
  pub used : loose_events loose ≤ length block.journal

-- the state is that of a checkpoint for a report, with the report's options
pub record IsStateFor (said : Report) (config : Config) (checkpoint : List ℕ) (loose : Loose) : Type 0 where
  pub reads : ReadsCheckpoint checkpoint said (loose_state loose) (loose_thread loose) (loose_events loose)
  pub options : loose_config loose ≡ config
  pub thread : loose_thread loose < said.options.threads
  pub block : (block : Block) → slice_get said.blocks (loose_thread loose) ≡ Some block
      → IsInBlock block loose

-- the events that are left of a block's journal
abbrev pub rest_in : Block → Loose → List Event
rest_in block loose = drop (loose_events loose) block.journal

-- the thread parts so from these and from the block's count
abbrev pub IsRestRefusal : Block → Loose → Refusal → Type 0
IsRestRefusal block loose (refusal.Ended (ending.Differs (difference.Parts fault))) =
    IsPartingFrom (loose_config loose) (loose_thread loose) (loose_state loose) (loose_events loose)
    (rest_in block loose) block.count fault
IsRestRefusal block loose refusal.Memory = Unit {0}
IsRestRefusal block loose other = ⊥

-- the text of the block of a thread that ended so
abbrev pub ended_text : Loose → Stop → List Event → List ℕ
ended_text loose stop journal =
    block_text (version_of (loose_config loose)) (loose_thread loose) (loose_state loose) (Some stop) journal

-- the end of `resume`, by the program's file, the report and the checkpoint, which are accepted
abbrev pub EndsResume : List ℕ → List ℕ → List ℕ → Result Answer Refusal → Type 0
EndsResume file report checkpoint (Ok (answer.Text answered)) =
    IsResumeOf file report checkpoint (answer_text answered)
EndsResume file report checkpoint (Ok (answer.Session d)) = ⊥
EndsResume file report checkpoint (Err (refusal.Ended (ending.Mismatch line kind))) =
    IsOtherProgram file report checkpoint (report_line (record { line = line; kind = kind }))
EndsResume file report checkpoint (Err (refusal.Ended (ending.Differs it))) =
    RestDiffers file report checkpoint (difference_text it)
EndsResume file report checkpoint (Err refusal.Memory) = Unit {0}
EndsResume file report checkpoint (Err other) = ⊥

-- ---- checks of marked calls

-- the end of `abi-check`, by the program's file and the report, which are accepted
abbrev pub EndsCheck : List ℕ → List ℕ → ℕ → Result Answer Refusal → Type 0
EndsCheck file report thread (Ok (answer.Text answered)) =
    IsLawfulOf file report thread (answer_text answered)
EndsCheck file report thread (Ok (answer.Session d)) = ⊥
EndsCheck file report thread (Err (refusal.Ended (ending.Mismatch line kind))) =
    IsMismatched file report thread (record { line = line; kind = kind })
EndsCheck file report thread (Err (refusal.Ended (ending.Differs it))) =
    IsParted file report thread (difference_text it)
EndsCheck file report thread (Err (refusal.Ended (ending.Unlawful count pc kind))) =
    IsUnlawfulOf file report thread (unlawful_line count pc (kind_word kind))
EndsCheck file report thread (Err refusal.Memory) = Unit {0}
EndsCheck file report thread (Err other) = ⊥

-- ---- ends

-- this holds of each status and text with which an answer is written
abbrev pub OfAnswer : (Status → List ℕ → Type 0) → Answer → Type 0
OfAnswer says (answer.Text answered) = says status.Done (answer_text answered)
OfAnswer says (answer.Session d) =
    ((text : List ℕ) → PrintsAll d text → says status.Done text)
    × ((text : List ℕ) → PrintsFront d text → says status.OutOfMemory text)

-- the end of a request whose files, in order, are these and are accepted
abbrev pub EndsAccepted : Request → List (List ℕ) → Result Answer Refusal → Type 0
EndsAccepted request files (Ok a) = OfAnswer (outcome request files) a
EndsAccepted request files (Err (refusal.Ended end)) =
    outcome request files (ending_status end) (ending_text end)
EndsAccepted request files (Err refusal.Memory) = Unit {0}
EndsAccepted request files (Err other) = ⊥

-- the end of a command, for a request
abbrev pub EndsRequest : Request → Change FilesView → Result Answer Refusal → Type 0
EndsRequest request files (Ok a) = OfAnswer (Stands request files) a
EndsRequest request files (Err refusal.Memory) = Unit {0}
EndsRequest request files (Err r) = Stands request files (refusal_status r) (refusal_text r)

-- the end of a command, for words
abbrev pub EndsWords : List (List ℕ) → Change FilesView → Result Answer Refusal → Type 0
EndsWords words files (Ok a) = OfAnswer (Defined words files) a
EndsWords words files (Err refusal.Memory) = Unit {0}
EndsWords words files (Err r) = Defined words files (refusal_status r) (refusal_text r)

-- a request was carried out: it ended for its cause, the files tell the same, and those that are reached
-- were fetched
pub record CarriesOut {F : Type 0} (fetched : F → List ℕ → ℕ → F → Type 0) (view : F → FilesView)
    (request : Request) (old new : F) (end : Result Answer Refusal) : Type 0 where
  pub ends : EndsRequest request (change view old new) end
  pub kept : IsKept (view old) (view new)
  pub fetches : FetchesReached fetched (view old).told (Rose (view old).faults (view new).faults)
      (reached_of (view old).told request) old new (end_status end)
