-- The format of a report as a relation between its lines and what it says. How lines follow one another is said
-- apart from the reader; what a single line says is what the reader's parsers of lines take.
-- Source: docs/REPORT.md.
use Rattle.std.specs.Prelude.{◌≡◌, ℕ, zero, suc, ◌+◌, ◌-◌, ◌/◌, ◌≤◌, min, true, List, [], ◌∷◌, ◌++◌, Some}
use Rattle.std.specs.Prelude.{length, map, codes, replicate}
use Rattle.sm_types.specs.declared.shared_op.Event.{Event}
use Rattle.sm_types.specs.declared.version.Version.{Version}
use Rattle.line_reader.specs.Lines.{lines_of}
use Rattle.text_lines.specs.Forms.{often_of, state_lines}
use Rattle.text_lines.specs.declared.forms.LineKind.{LineKind}
use Rattle.text_lines.specs.declared.forms.Often.{Often}
use Rattle.text_lines.specs.declared.forms.Often.TheVariants.{Once, AtMostOnce, AnyTimes}
use Rattle.report_reader.specs.Forms.{is_line}
use Rattle.report_reader.specs.Header.{version_line, options_line, image_line}
use Rattle.report_reader.specs.Stops.{stop_line}
use Rattle.report_reader.specs.Events.{number_line, is_thread, out_line, event_line, setting_line}
use Rattle.report_reader.specs.Block.{Block}
use Rattle.report_reader.specs.Report.{Report, with_settings}
use Rattle.report_reader.specs.declared.events.Setting.{Setting}

-- ---- lines by their kinds

-- so many lines of a kind may stand together
abbrev pub IsOften : Often → ℕ → Type 0
IsOften Once n = n ≡ 1
IsOften AtMostOnce n = n ≤ 1
IsOften AnyTimes n = Unit {0}

-- each line is of that kind
abbrev pub AllOfKind : LineKind → List (List ℕ) → Type 0
AllOfKind kind [] = Unit {0}
AllOfKind kind (line ∷ lines) = (is_line kind line ≡ true) × AllOfKind kind lines

-- the first of some lines are those of a kind, as many as may stand together, and these are the others
pub record BeginWith (kind : LineKind) (lines others : List (List ℕ)) : Type 0 where
  pub first : List (List ℕ)
  pub whole : lines ≡ first ++ others
  pub many : IsOften (often_of kind) (length first)
  pub each : AllOfKind kind first

-- lines are of those kinds, one kind after another
abbrev pub AreOfKinds : List LineKind → List (List ℕ) → Type 0
AreOfKinds [] lines = lines ≡ []
AreOfKinds (kind ∷ kinds) lines =
    (others : List (List ℕ)) × BeginWith kind lines others × AreOfKinds kinds others

-- ---- a block

-- lines of output of so many bytes: 32 in each, and in the last the rest
abbrev pub AreOutput : ℕ → ℕ → List (List ℕ) → Type 0
AreOutput zero size lines = lines ≡ []
AreOutput (suc n) size [] = ⊥
AreOutput (suc n) size (line ∷ lines) =
    (out_line (min size 32) line ≡ Some tt) × AreOutput n (size - 32) lines

-- the lines of these events
abbrev pub AreEvents : List (List ℕ) → List Event → Type 0
AreEvents lines events = map event_line lines ≡ map Some events

-- the bytes of some lines
abbrev pub bytes_in : List (List ℕ) → ℕ
bytes_in [] = 0
bytes_in (line ∷ lines) = length line + bytes_in lines

-- lines are those of the block of a thread, in a version: where it stands behind other lines, and what it
-- says
pub record IsBlock (version : Version) (thread : ℕ) (before lines : List (List ℕ)) (block : Block)
    : Type 0 where
  pub heading : List ℕ
  pub stopping : List ℕ
  pub counting : List ℕ
  pub state : List (List ℕ)
  pub sizing : List ℕ
  pub output : List (List ℕ)
  pub listing : List ℕ
  pub events : List (List ℕ)
  pub ending : List ℕ
  pub whole : lines ≡ heading ∷ stopping ∷ counting
      ∷ (state ++ (sizing ∷ (output ++ (listing ∷ (events ++ ending ∷ [])))))
  pub is_heading : is_thread thread heading ≡ true
  pub is_stop : stop_line stopping ≡ Some block.stop
  pub is_count : number_line (codes "count") counting ≡ Some block.count
  pub are_state : AreOfKinds (state_lines version) state
  pub size : ℕ
  pub is_size : number_line (codes "output") sizing ≡ Some size
  pub are_output : AreOutput ((size + 31) / 32) size output
  pub is_listing : number_line (codes "journal") listing ≡ Some (length block.journal)
  pub are_events : AreEvents events block.journal
  pub is_end : ending ≡ codes "end-thread\n"
  pub start : block.start ≡ bytes_in before
  pub end : block.end ≡ bytes_in (before ++ lines)
  pub first_line : block.first_line ≡ length before + 1

-- ---- a report

-- lines are those of the blocks of threads, the first of them of thread k, behind other lines
abbrev pub AreBlocks : Version → ℕ → List (List ℕ) → List (List ℕ) → List Block → Type 0
AreBlocks version k before lines [] = lines ≡ []
AreBlocks version k before lines (block ∷ blocks) =
    (own others : List (List ℕ)) × (lines ≡ own ++ others) × IsBlock version k before own block
    × AreBlocks version (k + 1) (before ++ own) others blocks

-- lines are those of words of that name, and these are the words, of which all others are zero
pub record AreWords (name : List ℕ) (count : ℕ) (lines : List (List ℕ)) (words : List ℕ) : Type 0 where
  pub settings : List Setting
  pub each : map (setting_line name count) lines ≡ map Some settings
  pub values : words ≡ with_settings (replicate count 0) settings

-- lines are those of a report
pub record AreReport (lines : List (List ℕ)) (report : Report) : Type 0 where
  pub first : List ℕ
  pub options : List ℕ
  pub image : List ℕ
  pub blocks : List (List ℕ)
  pub heading : List ℕ
  pub shared : List (List ℕ)
  pub pending : List (List ℕ)
  pub ending : List ℕ
  pub whole : lines ≡ first ∷ options ∷ image ∷ (blocks ++ (heading ∷ (shared ++ (pending ++ ending ∷ []))))
  pub version : Version
  pub is_version : version_line first ≡ Some version
  pub are_options : options_line version options ≡ Some report.options
  pub is_image : image_line image ≡ Some report.image
  pub are_blocks : AreBlocks version 0 (first ∷ options ∷ image ∷ []) blocks report.blocks
  pub one_each : length report.blocks ≡ report.options.threads
  pub is_heading : heading ≡ codes "shared\n"
  pub are_shared : AreWords (codes "w") 512 shared report.words.shared
  pub are_pending : AreWords (codes "pending") 32 pending report.words.pending
  pub is_end : ending ≡ codes "end\n"

-- a file is the report that says this
pub record IsReportOf (bytes : List ℕ) (report : Report) : Type 0 where
  pub size : length bytes ≤ 1073741824
  pub lines : AreReport (lines_of bytes) report
