-- The state that a vector says, all of which it says nothing is zero in. Source: docs/VECTORS.md.
use Rattle.std.specs.Prelude.{ℕ, ◌++◌, false, List, [], ◌∷◌, replicate, slice_set}
use Rattle.std.specs.Int.{w32, to_le_bytes}
use Rattle.sm_types.specs.declared.length.VecLen.{VecLen}
use Rattle.sm_types.specs.declared.scalars.Scalars.{Scalars}
use Rattle.paged_memory.specs.declared.page_list.PageImage.{PageImage}
use Rattle.paged_memory.specs.Memory.{AddressSpace, no_memory, set_bytes, with_page, zero_page}
use Rattle.sve_vectors.specs.Lengths.{current_bytes, vector_bytes}
use Rattle.sve_vectors.specs.Predicates.{truths_of}
use Rattle.sve_vectors.specs.Registers.{VectorRegisters, zero_registers, vector_written, predicate_written, ffr_written}
use Rattle.za_array.specs.Array.{zero_vectors}
use Rattle.machine_step.specs.ProcessorState.{ProcessorState}
use Rattle.vector_runner.specs.declared.vector.Modes.{Modes}
use Rattle.vector_runner.specs.Field.{Field, Vector, modes_of, X, Sp, Nzcv, Tpidr, Tpidr2, Svcr, Z, P, Ffr, Za, M}

-- where the instruction stands, and where the data do
abbrev pub code_address : ℕ
code_address = 0x20000

abbrev pub data_address : ℕ
data_address = 0x10000

-- a page that begins with the bytes of a word, the lowest first, and has zeros after them
unfoldable pub code_page : ℕ → List ℕ
code_page word = to_le_bytes w32 word ++ replicate 4092 0

-- the memory: a page of zeros that can be read and written (6), and one with the word that can be read and
-- executed (5); no other
unfoldable pub memory_with : ℕ → AddressSpace
memory_with word = with_page (with_page no_memory 0x20 5 (code_page word)) 0x10 6 zero_page

-- what a page of a list says: its address, its flags and its bytes
abbrev pub page_seen : PageImage → ℕ × ℕ × List ℕ
page_seen page = (page.address, page.flags, page.bytes.items)

-- the pages of that memory
abbrev pub both_pages : ℕ → List (ℕ × ℕ × List ℕ)
both_pages word = (data_address, 6, zero_page) ∷ (code_address, 5, code_page word) ∷ []

-- registers of zeros, with PC at the instruction
unfoldable pub zero_scalars : Scalars
zero_scalars = record {
  x = replicate 31 0;
  sp = 0;
  pc = code_address;
  n = false;
  z = false;
  c = false;
  v = false;
}

-- the state of an instruction in these modes, in which all else is zero
unfoldable pub blank : VecLen → VecLen → Modes → ℕ → ProcessorState
blank vl svl modes word = record {
  scalars = zero_scalars;
  tpidr = 0;
  tpidr2 = 0;
  streaming = modes.streaming;
  za_on = modes.za_on;
  memory = memory_with word;
  bank = record {
    registers = zero_registers (current_bytes vl svl modes.streaming);
    za = zero_vectors (vector_bytes svl);
  };
}

-- with a general register
abbrev pub with_x : ProcessorState → ℕ → ℕ → ProcessorState
with_x s n value = record s { scalars = record s.scalars { x = slice_set s.scalars.x n value } }

-- with other vector registers
abbrev pub with_registers : ProcessorState → VectorRegisters → ProcessorState
with_registers s registers = record s { bank = record s.bank { registers = registers } }

-- the state with what a field says; the modes are those of the blank state
abbrev pub with_field : ProcessorState → Field → ProcessorState
with_field s (X n value) = with_x s n value
with_field s (Sp value) = record s { scalars = record s.scalars { sp = value } }
with_field s (Nzcv n z c v) = record s { scalars = record s.scalars { n = n; z = z; c = c; v = v } }
with_field s (Tpidr value) = record s { tpidr = value }
with_field s (Tpidr2 value) = record s { tpidr2 = value }
with_field s (Svcr streaming za_on) = s
with_field s (Z n bytes) = with_registers s (vector_written s.bank.registers n bytes)
with_field s (P n bytes) = with_registers s (predicate_written s.bank.registers n (truths_of bytes))
with_field s (Ffr bytes) = with_registers s (ffr_written s.bank.registers (truths_of bytes))
with_field s (Za n bytes) = record s { bank = record s.bank { za = slice_set s.bank.za n bytes } }
with_field s (M bytes) =
    record s { memory = record s.memory { mem = set_bytes s.memory.mem data_address bytes } }

-- with what each of some fields says
unfoldable pub with_fields : ProcessorState → List Field → ProcessorState
with_fields s [] = s
with_fields s (f ∷ fields) = with_fields (with_field s f) fields

-- the state that a vector says
unfoldable pub state_of : VecLen → VecLen → Vector → ProcessorState
state_of vl svl v = with_fields (blank vl svl (modes_of v.fields) v.word) v.fields
