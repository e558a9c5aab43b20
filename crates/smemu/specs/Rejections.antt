-- What a file is to be, how it is judged, why it is not accepted as that, and how that is told.
use Rattle.sm_types.specs.declared.limits.TheConstants.{FILE_LIMIT}
use Rattle.std.specs.Prelude.{ℕ, ◌+◌, List, [], ◌∷◌, Option, Some, None, option_map, Result, Ok, Err}
use Rattle.cmd_words.specs.Words.{Request}
use Rattle.asm_core.specs.Faults.{asm_fault}
use Rattle.elf_loader.specs.Loading.{load_fault}
use Rattle.plan_reader.specs.Plan.{plan_in}
use Rattle.plan_reader.specs.Plan as plan
use Rattle.report_reader.specs.Reading.{Fault}
use Rattle.report_reader.specs.Report.{Report, report_in}
use Rattle.script_reader.specs.Script.{script_in}
use Rattle.ckpt_fields.specs.Rows as ckpt
use Rattle.ckpt_fields.specs.Rows.{checkpoint_fault}
use Rattle.command_lines.specs.CheckpointLines.{checkpoint_line}
use Rattle.command_lines.specs.FaultLines.{fault_line}
use Rattle.command_lines.specs.PlanLines.{plan_line}
use Rattle.command_lines.specs.ReportLines.{report_line}
use Rattle.command_lines.specs.SourceLines.{source_line}
use Rattle.command_lines.specs.VectorsLines.{vectors_line}
use Rattle.command_lines.specs.declared.status.Status.{Status}
use Rattle.command_lines.specs.declared.status.Status.TheVariants.{BadFile, BadSource, BadReport, BadPlan}
use Rattle.command_lines.specs.declared.status.Status.TheVariants.{BadCheckpoint, BadVectors}
use Rattle.command_lines.specs.declared.checkpoint_line.CheckpointFault.{CheckpointFault}
use Rattle.command_lines.specs.declared.checkpoint_line.CheckpointFault.TheVariants as checkpoints
use Rattle.command_lines.specs.declared.vectors_line.VectorsFault.{VectorsFault}
use Rattle.command_lines.specs.declared.vectors_line.VectorsFault.TheVariants as vectors
use Rattle.sm_types.specs.declared.length.VecLen.{VecLen}
use Rattle.vector_runner.specs.Grammar as grammar
use Rattle.vector_runner.specs.Grammar.{vectors_in}
use Rattle.smemu.specs.Vectors.{length_said}
use Rattle.smemu.specs.declared.rejection.Rejection.{Rejection}
use Rattle.smemu.specs.declared.rejection.Rejection.TheVariants as rejection

-- what a file is to be
pub data Kind : Type 0 where
  -- a program, which the loader accepts
  ProgramFile : Kind
  -- a source, which the assembler accepts
  SourceFile : Kind
  -- a report, which is in its format
  ReportFile : Kind
  -- a plan, which is in its format
  PlanFile : Kind
  -- a script of the debugger, which is in its format
  ScriptFile : Kind
  -- a checkpoint, which is one for the report before it
  CheckpointFile : Kind
  -- a file of vectors, which is in its format for the lengths of the options
  VectorsFile : Kind

-- how many bytes are fetched: one more than it may have
abbrev pub limit_of : Kind → ℕ
limit_of ProgramFile = FILE_LIMIT + 1
limit_of SourceFile = FILE_LIMIT + 1
limit_of ReportFile = 1073741825
limit_of PlanFile = FILE_LIMIT + 1
limit_of ScriptFile = FILE_LIMIT + 1
limit_of CheckpointFile = FILE_LIMIT + 1
limit_of VectorsFile = FILE_LIMIT + 1

-- the fault of a reading
abbrev pub fault_in : {A F : Type 0} → Result A F → Option F
fault_in (Ok read) = None
fault_in (Err fault) = Some fault

-- how a file is judged: why it is not accepted
abbrev pub Judge : Type 0
Judge = List ℕ → Option Rejection

-- as a program, which the loader accepts
abbrev pub program_judge : Judge
program_judge file = option_map rejection.Program (load_fault file)

-- as a source, which the assembler accepts
abbrev pub source_judge : Judge
source_judge file = option_map rejection.Source (asm_fault file)

-- as a report, by its format
abbrev pub report_judge : Judge
report_judge file =
    option_map (λ (fault : Fault). rejection.Report fault.line fault.kind) (fault_in (report_in file))

-- as a plan
abbrev pub plan_judge : Judge
plan_judge file =
    option_map (λ (fault : plan.Fault). rejection.Plan fault.line fault.kind) (fault_in (plan_in file))

-- as a script
abbrev pub script_judge : Judge
script_judge file =
    option_map (λ (fault : plan.Fault). rejection.Plan fault.line fault.kind) (fault_in (script_in file))

-- the fault of a checkpoint, as it is told
abbrev pub field_told : ckpt.Fault → CheckpointFault
field_told ckpt.TooLong = checkpoints.TooLong
field_told (ckpt.Field offset) = checkpoints.Field offset

-- as a checkpoint for what a report says; one that says nothing has none
abbrev pub checkpoint_judge : Result Report Fault → Judge
checkpoint_judge (Ok said) file =
    option_map (λ (fault : ckpt.Fault). rejection.Checkpoint (field_told fault)) (checkpoint_fault said file)
checkpoint_judge (Err fault) file = Some (rejection.Report fault.line fault.kind)

-- after these files, of which the last is the report
abbrev pub judge_after : List (List ℕ) → Judge
judge_after (program ∷ report ∷ []) = checkpoint_judge (report_in report)
judge_after files = λ file. None

-- the fault of a file of vectors, as it is told
abbrev pub fault_told : grammar.Fault → VectorsFault
fault_told grammar.TooLong = vectors.TooLong
fault_told (grammar.Line line) = vectors.Line line

-- as a file of vectors, for these lengths
abbrev pub vectors_judge : VecLen → VecLen → Judge
vectors_judge vl svl file =
    option_map (λ (fault : grammar.Fault). rejection.Vectors (fault_told fault))
    (fault_in (vectors_in vl svl file))

-- as what it is to be for a request, after these files, which are accepted
abbrev pub judge_of : Request → List (List ℕ) → Kind → Judge
judge_of request before ProgramFile = program_judge
judge_of request before SourceFile = source_judge
judge_of request before ReportFile = report_judge
judge_of request before PlanFile = plan_judge
judge_of request before ScriptFile = script_judge
judge_of request before CheckpointFile = judge_after before
judge_of request before VectorsFile =
    vectors_judge (length_said request.options.vl) (length_said request.options.svl)

-- the status of a rejection
abbrev pub rejection_status : Rejection → Status
rejection_status (rejection.Program fault) = BadFile
rejection_status (rejection.Source fault) = BadSource
rejection_status (rejection.Report line kind) = BadReport
rejection_status (rejection.Plan line kind) = BadPlan
rejection_status (rejection.Checkpoint fault) = BadCheckpoint
rejection_status (rejection.Vectors fault) = BadVectors

-- its line
abbrev pub rejection_line : Rejection → List ℕ
rejection_line (rejection.Program fault) = fault_line fault
rejection_line (rejection.Source fault) = source_line fault
rejection_line (rejection.Report line kind) = report_line (record { line = line; kind = kind })
rejection_line (rejection.Plan line kind) = plan_line (record { line = line; kind = kind })
rejection_line (rejection.Checkpoint fault) = checkpoint_line fault
rejection_line (rejection.Vectors fault) = vectors_line fault
