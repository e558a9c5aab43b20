-- The checks of an access of vectors or predicates, and what it leaves where none fails. A vector has l
-- bytes. The scalar registers stay as they are; PC is moved by the machine.
-- Source: DDI 0487, C8.2: LD1B to LD1D, ST1B to ST1D (contiguous), LDR and STR (vector, predicate).
use Rattle.std.specs.Prelude.{◌≡◌, ℕ, ◌/◌, Bool, true, false, not, List, [], Option, Some, None}
use Rattle.std.specs.Prelude.{unwrap_or, Result}
use Rattle.sm_types.specs.declared.scalars.Scalars.{Scalars}
use Rattle.sm_types.specs.declared.vector as types
use types.{VectorOffset.VectorOffset, VectorAccess.VectorAccess}
use types.VectorAccess.TheVariants.{Load, Store, Vector, Predicate}
use Rattle.sm_types.specs.declared.stop.Exception.{Exception}
use Rattle.vector_elements.specs.declared.size.Size.{Size}
use Rattle.vector_elements.specs.Elements.{each_or_zero}
use Rattle.vector_elements.specs.Numbers.{bytes_in}
use Rattle.sve_vectors.specs.Predicates.{truths_of}
use Rattle.sve_vectors.specs.Registers.{VectorRegisters, vector_at, predicate_at, vector_written}
use Rattle.sve_vectors.specs.Registers.{predicate_written}
use Rattle.sve_vectors.specs.State.{SveState, length_of}
use Rattle.scalar_exec.specs.Registers.{x_or_sp}
use Rattle.paged_memory.specs.Memory.{AddressSpace, run_of}
use Rattle.paged_memory.specs.PageTable.{PageTable}
use Rattle.mem_access.specs.Access.{is_sp}
use Rattle.mem_access.specs.DataAccess.{DataAccess}
use Rattle.mem_access.specs.Checks.{access_fault}
use Rattle.mem_access.specs.Values.{bytes_at, number_at}
use Rattle.mem_access.specs.Transfer.{written, written_addresses, Transfers, HasRoom}
use Rattle.mem_access.specs.declared.stop.AccessStop.{AccessStop}
use Rattle.sve_access.specs.Contiguous.{size_of, memory_size, element_size, loaded, multiple_from}
use Rattle.sve_access.specs.Contiguous.{first_address}
use Rattle.sve_access.specs.Elements.{element_run, element_addresses, element_bytes}

-- what an access leaves
pub record AfterVectorAccess : Type 0 where
  pub registers : VectorRegisters
  pub memory : AddressSpace

-- an access to bytes at a base register, none of which must be aligned
abbrev pub at_base : ℕ → Bool → List ℕ → DataAccess
at_base rn writes bytes = record {
  bytes = bytes;
  on_sp = is_sp rn;
  aligned = false;
  address = 0;
  size = 1;
  reads = not writes;
  writes = writes;
}

-- a store of the low bytes of the active elements, and what memory is after it
abbrev pub elements_stored : ℕ → ℕ → Size → Size → List ℕ → DataAccess
elements_stored rn start memory element pg = at_base rn true (element_addresses start memory element pg)

abbrev pub with_elements : AddressSpace → ℕ → Size → Size → List ℕ → List ℕ → AddressSpace
with_elements m start memory element pg z =
    written m (element_addresses start memory element pg) (Some (element_bytes z memory element pg))

-- the address of element 0 of a load or store of elements, a vector having l bytes
abbrev pub start_of : VectorOffset → Size → Size → ℕ → Scalars → ℕ → ℕ
start_of offset memory element rn s l = first_address offset memory element l (x_or_sp s rn) s

-- the access that an instruction makes: LDR and STR are of all bytes of the register
unfoldable pub access_of : VectorAccess → Scalars → ℕ → VectorRegisters → DataAccess
access_of (Load kind offset pg rn zt) s l r =
    at_base rn false
    (element_addresses (start_of offset (memory_size kind) (element_size kind) rn s l)
    (memory_size kind) (element_size kind) (predicate_at r pg))
access_of (Store memory element offset pg rn zt) s l r =
    at_base rn true
    (element_addresses (start_of offset (size_of memory) (size_of element) rn s l)
    (size_of memory) (size_of element) (predicate_at r pg))
access_of (Vector store vectors rn zt) s l r =
    at_base rn store (run_of (multiple_from (x_or_sp s rn) vectors l) l)
access_of (Predicate store vectors rn pt) s l r =
    at_base rn store (run_of (multiple_from (x_or_sp s rn) vectors (l / 8)) (l / 8))

-- the exception of the first of its checks that fails, if any does
abbrev pub vector_fault : VectorAccess → Scalars → ℕ → VectorRegisters → AddressSpace → Option Exception
vector_fault x s l r m = access_fault None (access_of x s l r) s m

-- the bytes at some addresses, which can be read
abbrev pub read_bytes : AddressSpace → List ℕ → List ℕ
read_bytes m addresses = unwrap_or (bytes_at m addresses) []

-- the registers after it: a load makes each active element of what is read, and the others zero
unfoldable pub registers_after : VectorAccess → Scalars → ℕ → VectorRegisters → AddressSpace → VectorRegisters
registers_after (Load kind offset pg rn zt) s l r m =
    vector_written r zt (each_or_zero (bytes_in (element_size kind)) (predicate_at r pg) (vector_at r zt)
    (λ i old. loaded kind (number_at m (element_run
    (start_of offset (memory_size kind) (element_size kind) rn s l) (memory_size kind) i))))
registers_after (Store memory element offset pg rn zt) s l r m = r
registers_after (Vector true vectors rn zt) s l r m = r
registers_after (Vector false vectors rn zt) s l r m =
    vector_written r zt (read_bytes m (access_of (Vector false vectors rn zt) s l r).bytes)
registers_after (Predicate true vectors rn pt) s l r m = r
registers_after (Predicate false vectors rn pt) s l r m =
    predicate_written r pt (truths_of (read_bytes m (access_of (Predicate false vectors rn pt) s l r).bytes))

-- the bytes that it stores, in the order of their transfer, where it stores any
unfoldable pub stored : VectorAccess → VectorRegisters → Option (List ℕ)
stored (Load kind offset pg rn zt) r = None
stored (Store memory element offset pg rn zt) r =
    Some (element_bytes (vector_at r zt) (size_of memory) (size_of element) (predicate_at r pg))
stored (Vector true vectors rn zt) r = Some (vector_at r zt)
stored (Vector false vectors rn zt) r = None
stored (Predicate true vectors rn pt) r = Some (predicate_at r pt)
stored (Predicate false vectors rn pt) r = None

-- the addresses of the bytes that it writes, where no check refuses it
abbrev pub writes_of : VectorAccess → Scalars → ℕ → VectorRegisters → List ℕ
writes_of x s l r =
    written_addresses (access_of x s l r).bytes (stored x r)

-- what it leaves, where no check refuses it
abbrev pub after_access : VectorAccess → Scalars → ℕ → VectorRegisters → AddressSpace → AfterVectorAccess
after_access x s l r m = record {
  registers = registers_after x s l r m;
  memory = written m (access_of x s l r).bytes (stored x r);
}

-- what registers and pages hold
abbrev pub contents_of : VectorRegisters → PageTable → AfterVectorAccess
contents_of r pages = record { registers = r; memory = pages.memory }

-- the answer of an instruction: its access is made after Ok, and else all stays
abbrev pub IsMade : VectorAccess → Scalars → SveState → SveState → PageTable → PageTable
    → Result (Unit {0}) AccessStop → Type 0
IsMade x s old new before after result =
    Transfers (vector_fault x s (length_of old) old.registers before.memory)
    (after_access x s (length_of old) old.registers before.memory)
    (contents_of old.registers before) (contents_of new.registers after) result

-- the pages that it stores to are owned
abbrev pub HasInstructionRoom : VectorAccess → Scalars → SveState → PageTable → Type 0
HasInstructionRoom x s v pages = HasRoom (access_of x s (length_of v) v.registers) pages

-- the lengths and the mode of vectors stay
pub record KeepsLengths (old new : SveState) : Type 0 where
  pub vl : new.vl ≡ old.vl
  pub svl : new.svl ≡ old.svl
  pub streaming : new.streaming ≡ old.streaming
