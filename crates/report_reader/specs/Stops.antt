-- The line of a stop. Source: docs/REPORT.md.
use Rattle.std.specs.Prelude.{ℕ, ◌^◌, List, codes, Option, Some, None, if◌then◌else◌}
use Rattle.std.specs.Str.{bytes_eq}
use Rattle.sm_types.specs.declared.stop.Access.{Access}
use Rattle.sm_types.specs.declared.stop.Access.TheVariants.{Read, Write}
use Rattle.sm_types.specs.declared.stop.Exception.{Exception}
use Rattle.sm_types.specs.declared.stop.Exception.TheVariants.{Undefined, PcAlign, Fetch, Data, SpAlign}
use Rattle.sm_types.specs.declared.stop.Exception.TheVariants.{Align, IllegalStreaming, NotStreaming}
use Rattle.sm_types.specs.declared.stop.Exception.TheVariants.{ZaInactive, Breakpoint, Shared}
use Rattle.sm_types.specs.declared.stop.Stop.{Stop}
use Rattle.sm_types.specs.declared.stop.Stop.TheVariants.{Exited, Raised, Killed, BadFrame, Budget, TraceFull}
use Rattle.sm_types.specs.declared.stop.Stop.TheVariants.{OutputFull}
use Rattle.line_reader.specs.Fields.{Saying, ◌>>=◌, give, field, named, number, hex, ended, said_by}
use Rattle.report_reader.specs.declared.stops.ExceptionName.{ExceptionName}
use Rattle.report_reader.specs.declared.stops.ExceptionName.TheVariants as exception
use Rattle.report_reader.specs.declared.stops.StopName.{StopName}
use Rattle.report_reader.specs.declared.stops.StopName.TheVariants as stop

-- the access of a word
unfoldable pub access_of : List ℕ → Option Access
access_of word =
    if bytes_eq word (codes "read") then Some Read
    else if bytes_eq word (codes "write") then Some Write
    else None

-- the exception of a word
unfoldable pub exception_of : List ℕ → Option ExceptionName
exception_of word =
    if bytes_eq word (codes "undefined") then Some exception.Undefined
    else if bytes_eq word (codes "pcalign") then Some exception.PcAlign
    else if bytes_eq word (codes "fetch") then Some exception.Fetch
    else if bytes_eq word (codes "data") then Some exception.Data
    else if bytes_eq word (codes "spalign") then Some exception.SpAlign
    else if bytes_eq word (codes "align") then Some exception.Align
    else if bytes_eq word (codes "illegalstreaming") then Some exception.IllegalStreaming
    else if bytes_eq word (codes "notstreaming") then Some exception.NotStreaming
    else if bytes_eq word (codes "zainactive") then Some exception.ZaInactive
    else if bytes_eq word (codes "breakpoint") then Some exception.Breakpoint
    else if bytes_eq word (codes "shared") then Some exception.Shared
    else None

-- its values: a word in 8 hexadecimal digits, addresses in 16, a number in decimal
unfoldable pub exception_values : ExceptionName → Saying Exception
exception_values exception.Undefined = do
  word ← hex 8
  give (Undefined word)
exception_values exception.PcAlign = give PcAlign
exception_values exception.Fetch = give Fetch
exception_values exception.Data = do
  address ← hex 16
  access ← field access_of
  give (Data address access)
exception_values exception.SpAlign = give SpAlign
exception_values exception.Align = do
  address ← hex 16
  give (Align address)
exception_values exception.IllegalStreaming = give IllegalStreaming
exception_values exception.NotStreaming = give NotStreaming
exception_values exception.ZaInactive = give ZaInactive
exception_values exception.Breakpoint = do
  n ← number (2 ^ 16)
  give (Breakpoint n)
exception_values exception.Shared = do
  address ← hex 16
  give (Shared address)

-- the stop of a word
unfoldable pub stop_of : List ℕ → Option StopName
stop_of word =
    if bytes_eq word (codes "exited") then Some stop.Exited
    else if bytes_eq word (codes "raised") then Some stop.Raised
    else if bytes_eq word (codes "killed") then Some stop.Killed
    else if bytes_eq word (codes "badframe") then Some stop.BadFrame
    else if bytes_eq word (codes "budget") then Some stop.Budget
    else if bytes_eq word (codes "tracefull") then Some stop.TraceFull
    else if bytes_eq word (codes "outputfull") then Some stop.OutputFull
    else None

-- its values
unfoldable pub stop_values : StopName → Saying Stop
stop_values stop.Exited = do
  status ← number (2 ^ 8)
  give (Exited status)
stop_values stop.Raised = do
  name ← field exception_of
  pc ← hex 16
  raised ← exception_values name
  give (Raised raised pc)
stop_values stop.Killed = do
  signal ← number (2 ^ 32)
  give (Killed signal)
stop_values stop.BadFrame = do
  address ← hex 16
  give (BadFrame address)
stop_values stop.Budget = give Budget
stop_values stop.TraceFull = give TraceFull
stop_values stop.OutputFull = give OutputFull

-- `stop`, its name and its values
unfoldable pub stop_line : List ℕ → Option Stop
stop_line = said_by (do
  _ ← named (codes "stop")
  name ← field stop_of
  said ← stop_values name
  ended said)
