-- What the block of a guest thread says of its state: the rows of each kind of line, and their text.
use Rattle.std.specs.Prelude.{ℕ, ◌++◌, ◌∷◌, [], List, map, nat_lt, if◌then◌else◌}
use Rattle.std.specs.FinMap.{entries}
use Rattle.sve_vectors.specs.Predicates.{predicate_bytes}
use Rattle.machine_step.specs.System.{svcr_of}
use Rattle.kernel_contexts.specs.State.{State}
use Rattle.text_lines.specs.Forms.{name_of}
use Rattle.text_lines.specs.Rows.{Number, Long, Value, Truth, Flags, Row, rows_text}
use Rattle.text_lines.specs.Rows.{value_rows, bytes_row, numbered_rows}
use Rattle.text_lines.specs.declared.forms.LineKind.{LineKind}
use Rattle.text_lines.specs.declared.forms.LineKind.TheVariants as kind
use Rattle.report_text.specs.Digest.{memory_rows}

-- the handlers that are set, by their signals
abbrev pub handler_rows : List (ℕ × ℕ) → List Row
handler_rows handlers = map (λ handler. Number handler.0 ∷ Value handler.1 ∷ []) handlers

-- the rows of each kind
abbrev pub rows_of : State → LineKind → List Row
rows_of s kind.Turns = (Long s.turns ∷ []) ∷ []
rows_of s kind.Pc = (Value s.core.scalars.pc ∷ []) ∷ []
rows_of s kind.X = value_rows 0 s.core.scalars.x
rows_of s kind.Sp = (Value s.core.scalars.sp ∷ []) ∷ []
rows_of s kind.Nzcv =
    (Flags (s.core.scalars.n ∷ s.core.scalars.z ∷ s.core.scalars.c ∷ s.core.scalars.v ∷ []) ∷ []) ∷ []
rows_of s kind.Tpidr = (Value s.core.tpidr ∷ []) ∷ []
rows_of s kind.Tpidr2 = (Value s.core.tpidr2 ∷ []) ∷ []
rows_of s kind.Svcr = (Number (svcr_of s.core) ∷ []) ∷ []
rows_of s kind.Z = numbered_rows 0 s.core.bank.registers.vectors
rows_of s kind.P = numbered_rows 0 (map predicate_bytes s.core.bank.registers.predicates)
rows_of s kind.Ffr = bytes_row (predicate_bytes s.core.bank.registers.ffr)
rows_of s kind.Za = if s.core.za_on then numbered_rows 0 s.core.bank.za else []
rows_of s kind.Memory = memory_rows s.core.memory
rows_of s kind.Held = (Value s.held ∷ []) ∷ []
rows_of s kind.Inside = (Truth (nat_lt 0 s.depth) ∷ []) ∷ []
rows_of s kind.Mask = (Value s.mask ∷ []) ∷ []
rows_of s kind.Depth = (Number s.depth ∷ []) ∷ []
rows_of s kind.Polled = (Truth s.polled ∷ []) ∷ []
rows_of s kind.Handler = handler_rows (entries s.handlers)

-- the lines of such kinds
unfoldable pub lines_text : State → List LineKind → List ℕ
lines_text s [] = []
lines_text s (kind ∷ kinds) = rows_text (name_of kind) (rows_of s kind) ++ lines_text s kinds
