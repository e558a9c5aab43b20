-- The lines of events, of shared words, and of numbers. Source: docs/REPORT.md.
use Rattle.std.specs.Prelude.{ℕ, ◌^◌, ◌*◌, ◌==◌, ◌&&◌, Bool, false, List, length, codes, Option, Some, None}
use Rattle.std.specs.Prelude.{if◌then◌else◌}
use Rattle.std.specs.Option.{option_map_or}
use Rattle.std.specs.Str.{bytes_eq}
use Rattle.sm_types.specs.declared.shared_op.OpKind.{OpKind}
use Rattle.sm_types.specs.declared.shared_op.OpKind.TheVariants.{Load, Store, Swap, Add, Clear, Eor, Set}
use Rattle.sm_types.specs.declared.shared_op.OpKind.TheVariants.{Umax, Umin, Cas, Post, Poll}
use Rattle.sm_types.specs.declared.shared_op.Event.{Event}
use Rattle.line_reader.specs.Numbers.{is_hex}
use Rattle.report_reader.specs.declared.events.Setting.{Setting}
use Rattle.line_reader.specs.Fields.{◌>>=◌, field, named, number, hex, ended, said_by}

-- a name and a number below 2 ^ 32
unfoldable pub number_line : List ℕ → List ℕ → Option ℕ
number_line name = said_by (do
  _ ← named name
  n ← number (2 ^ 32)
  ended n)

-- `thread` and that number
unfoldable pub is_thread : ℕ → List ℕ → Bool
is_thread thread line = option_map_or (λ n. n == thread) (number_line (codes "thread") line) false

-- a string of so many bytes, two hexadecimal digits each
unfoldable pub bytes_of : ℕ → List ℕ → Option (Unit {0})
bytes_of size word = if (length word == 2 * size) && is_hex word then Some tt else None

-- `out` and so many bytes
unfoldable pub out_line : ℕ → List ℕ → Option (Unit {0})
out_line size = said_by (do
  _ ← named (codes "out")
  _ ← field (bytes_of size)
  ended tt)

-- the operation of a word
unfoldable pub kind_of : List ℕ → Option OpKind
kind_of word =
    if bytes_eq word (codes "ld") then Some Load
    else if bytes_eq word (codes "st") then Some Store
    else if bytes_eq word (codes "swp") then Some Swap
    else if bytes_eq word (codes "add") then Some Add
    else if bytes_eq word (codes "clr") then Some Clear
    else if bytes_eq word (codes "eor") then Some Eor
    else if bytes_eq word (codes "set") then Some Set
    else if bytes_eq word (codes "umax") then Some Umax
    else if bytes_eq word (codes "umin") then Some Umin
    else if bytes_eq word (codes "cas") then Some Cas
    else if bytes_eq word (codes "post") then Some Post
    else if bytes_eq word (codes "poll") then Some Poll
    else None

-- `e`, an operation, its place, its two values, and the answer
unfoldable pub event_line : List ℕ → Option Event
event_line = said_by (do
  _ ← named (codes "e")
  kind ← field kind_of
  place ← number (2 ^ 32)
  a ← hex 16
  b ← hex 16
  answer ← hex 16
  ended (record { op = record { kind = kind; place = place; a = a; b = b }; answer = answer }))

-- a name, a word's number below the bound, and its value
unfoldable pub setting_line : List ℕ → ℕ → List ℕ → Option Setting
setting_line name bound = said_by (do
  _ ← named name
  place ← number bound
  value ← hex 16
  ended (record { place = place; value = value }))
