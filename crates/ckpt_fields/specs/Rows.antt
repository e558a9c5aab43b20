-- The table of the file of a thread's state, for a report of its run. Source: this emulator's own format;
-- numbers have their low byte first. L is the vector length of the mode in bytes, S is the streaming vector
-- length in bytes.
--
-- Offset           Bytes    Content, and what it must be
-- 0, 8             8, 32    the bytes of `SMECKPT1`; the program's digest, as in the report
-- 40 to 60         4        VL and SVL in bits, slice, budget, threads, kernel's version, as in the report
-- 64, 68           4        the thread, below the threads; its count, below that of its block and the budget
-- 72               4        events used so far, at most those of its block's journal and at most 262,144
-- 76               4        its depth, at most 1 in version 1 of the kernel and at most 64 in version 2
-- 80               8        its turns, at most 64 times the budget
-- 88, 96, 104      8        PC; SP; each of X0 to X30
-- 352, 360         8        NZCV, in bits 31 to 28 alone; SVCR, below 4
-- 368, 376, 384    8        TPIDR_EL0; TPIDR2_EL0; the signals that are held
-- 392              8        the mask, in bits 1 to 62 alone, and 0 in version 1
-- 400              8        whether the pending signals were polled: 0 or 1
-- 408              L        each of Z0 to Z31
--                  L / 8    each of P0 to P15, and FFR
--                  S        each vector of ZA, where bit 1 of SVCR is set
-- then             4        how many handlers there are, at most 62
--     each         4, 8     its signal, 1 to 62 and above the one before; its address, not 0
-- then             4        how many bytes the output has, at most 1,048,576
--                           these bytes, one field
-- then             4        how many pages there are, at most 4,096
--     each         8        its address, a multiple of 4,096 above the one before and not 0x7F0000000000
--                  1        its permission, below 8
--                  4,096    its bytes, one field
use Rattle.std.specs.Prelude.{ℕ, ◌+◌, ◌*◌, ◌/◌, ◌%◌, ◌^◌, ◌==◌, ◌&&◌, ◌||◌, not, nat_lt, nat_le}
use Rattle.std.specs.Prelude.{Bool, true, if◌then◌else◌, List, [], ◌∷◌, length, map, slice_index, Option, Some, option_map}
use Rattle.sm_types.specs.declared.numbers.Numbers.{Numbers}
use Rattle.sm_types.specs.declared.limits.TheConstants.{JOURNAL_LIMIT, OUTPUT_LIMIT, PAGE_SIZE, PAGE_LIMIT}
use Rattle.sm_types.specs.declared.limits.TheConstants.{FILE_LIMIT, SHARED_PAGE}
use Rattle.report_reader.specs.Report.{Report}
use Rattle.field_table.specs.Table.{Table, End, first_bad}
use Rattle.field_table.specs.Rows.{number, said, told, fields, repeated}

-- ---- from the end on

-- the start of a page, from the least address on, and not of the shared one
abbrev pub is_page_address : ℕ → ℕ → Bool
is_page_address least a = nat_le least a && (a % PAGE_SIZE == 0) && not (a == SHARED_PAGE)

-- a page from the least address on; the next one is past it
unfoldable pub page_row : ℕ → (ℕ → Table) → Table
page_row least next =
    number 8 (is_page_address least) (λ a.
    number 1 (λ flags. nat_lt flags 8) (λ flags. fields 1 PAGE_SIZE (next (a + 1))))

-- how many pages there are, and each of them
unfoldable pub pages_of : Table
pages_of = number 4 (λ n. nat_le n PAGE_LIMIT) (λ n. repeated page_row n 0 End)

-- how many bytes of output there are, and these bytes
unfoldable pub output_rows : Table → Table
output_rows next = number 4 (λ n. nat_le n OUTPUT_LIMIT) (λ n. fields 1 n next)

-- a signal above the last one
abbrev pub is_signal_past : ℕ → ℕ → Bool
is_signal_past last signal = nat_lt last signal && nat_le signal 62

-- a handler, of a signal above the last one; the next one is above its signal
unfoldable pub handler_row : ℕ → (ℕ → Table) → Table
handler_row last next =
    number 4 (is_signal_past last) (λ signal.
    number 8 (λ address. nat_lt 0 address) (λ address. next signal))

-- how many handlers there are, and each of them
unfoldable pub handlers_of : Table → Table
handlers_of next = number 4 (λ n. nat_le n 62) (λ n. repeated handler_row n 0 next)

-- L for the mode of SVCR
abbrev pub length_for : Numbers → ℕ → ℕ
length_for options svcr = if svcr % 2 == 1 then options.svl / 8 else options.vl / 8

-- how many vectors of ZA there are, with that value of SVCR, which is below 4
abbrev pub array_size : Numbers → ℕ → ℕ
array_size options svcr = if nat_le 2 svcr then options.svl / 8 else 0

-- the vectors, the predicates and FFR, and ZA where it is on
unfoldable pub vector_rows : Numbers → ℕ → Table → Table
vector_rows options svcr next =
    fields 32 (length_for options svcr) (
    fields 17 (length_for options svcr / 8) (
    fields (array_size options svcr) (options.svl / 8) next))

-- in bits 1 to 62 alone, and 0 in version 1
abbrev pub is_mask : ℕ → ℕ → Bool
is_mask kernel mask = (mask % 2 == 0) && nat_lt mask (2 ^ 63) && (nat_lt 1 kernel || (mask == 0))

-- a number of 8 bytes, whatever it is
abbrev pub anything : (ℕ → Table) → Table
anything next = number 8 (λ n. true) next

-- in bits 31 to 28 alone
abbrev pub are_flags : ℕ → Bool
are_flags nzcv = (nzcv % 2 ^ 28 == 0) && nat_lt nzcv (2 ^ 32)

-- from NZCV on; what follows depends on SVCR
unfoldable pub system_rows : ℕ → (ℕ → Table) → Table
system_rows kernel next =
    number 8 are_flags (λ nzcv.
    number 8 (λ svcr. nat_lt svcr 4) (λ svcr.
    anything (λ tpidr. anything (λ tpidr2. anything (λ held.
    number 8 (is_mask kernel) (λ mask.
    number 8 (λ polled. nat_lt polled 2) (λ polled. next svcr)))))))

-- the counts of the threads, and how many events their journals have
abbrev pub counts : Report → List ℕ
counts report = map (λ block. block.count) report.blocks

abbrev pub journals : Report → List ℕ
journals report = map (λ block. length block.journal) report.blocks

-- how deep in handlers a thread may be
abbrev pub most_depth : ℕ → ℕ
most_depth kernel = if nat_lt 1 kernel then 64 else 1

-- below the count of the thread's block and below the budget
abbrev pub is_count : ℕ → ℕ → ℕ → Bool
is_count there budget count = nat_lt count there && nat_lt count budget

-- at most as many as the thread's journal has, and at most 262,144
abbrev pub are_events : ℕ → ℕ → Bool
are_events there events = nat_le events there && nat_le events JOURNAL_LIMIT

-- from the thread on
unfoldable pub thread_rows : Report → Table → Table
thread_rows report next =
    number 4 (λ thread. nat_lt thread report.options.threads) (λ thread.
    number 4 (is_count (slice_index (counts report) thread) report.options.budget) (λ count.
    number 4 (are_events (slice_index (journals report) thread)) (λ events.
    number 4 (λ depth. nat_le depth (most_depth report.options.kernel)) (λ depth.
    number 8 (λ turns. nat_le turns (64 * report.options.budget)) (λ turns. next)))))

-- the bytes of `SMECKPT1`
abbrev pub tag : List ℕ
tag = 0x53 ∷ 0x4d ∷ 0x45 ∷ 0x43 ∷ 0x4b ∷ 0x50 ∷ 0x54 ∷ 0x31 ∷ []

-- the options
unfoldable pub options_rows : Numbers → Table → Table
options_rows options next =
    told options.vl (told options.svl (told options.slice (told options.budget (
    told options.threads (told options.kernel next)))))

-- the tag, the digest and the options
unfoldable pub first_rows : List ℕ → Numbers → Table → Table
first_rows digest options next = said tag (said digest (options_rows options next))

-- from the output on
abbrev pub from_output : Table
from_output = output_rows pages_of

-- from the handlers on
abbrev pub from_handlers : Table
from_handlers = handlers_of from_output

-- from the vectors on, with that value of SVCR
abbrev pub from_vectors : Report → ℕ → Table
from_vectors report svcr = vector_rows report.options svcr from_handlers

-- from NZCV on
abbrev pub from_system : Report → Table
from_system report = system_rows report.options.kernel (from_vectors report)

-- from PC on
abbrev pub from_registers : Report → Table
from_registers report = fields 33 8 (from_system report)

-- from the thread on
abbrev pub from_thread : Report → Table
from_thread report = thread_rows report (from_registers report)

-- the whole table
unfoldable pub checkpoint_table : Report → Table
checkpoint_table report = first_rows report.image report.options (from_thread report)

-- the offset of the first field that is not whole in a file or not as the table says, or of the first byte
-- past the last page
abbrev pub bad_field : Report → List ℕ → Option ℕ
bad_field report bytes = first_bad (checkpoint_table report) bytes 0

-- why a file is no checkpoint for a report: it has more than 67,108,864 bytes, or a bad field at this offset
pub data Fault : Type 0 where
  TooLong : Fault
  Field : ℕ → Fault

-- the fault of a file, if it is no checkpoint
unfoldable pub checkpoint_fault : Report → List ℕ → Option Fault
checkpoint_fault report bytes =
    if nat_lt FILE_LIMIT (length bytes) then Some TooLong else option_map Field (bad_field report bytes)
