-- An access to memory: its bytes in the order of their transfer, and how it is made.
-- Source: DDI 0487, J1.1 (Mem), C1.3.3; addresses are taken modulo 2 ^ 64.
use Rattle.std.specs.Prelude.{ℕ, Bool, List}
use Rattle.paged_memory.specs.Memory.{run_of}
use Rattle.mem_access.specs.declared.access.MemoryAccess.{MemoryAccess}

pub record DataAccess : Type 0 where
  -- the addresses of its bytes, in the order of their transfer
  pub bytes : List ℕ
  -- SP is the base
  pub on_sp : Bool
  -- the address must be a multiple of the size
  pub aligned : Bool
  pub address : ℕ
  pub size : ℕ
  pub reads : Bool
  pub writes : Bool

-- an access to consecutive bytes
abbrev pub of_run : MemoryAccess → DataAccess
of_run run = record {
  bytes = run_of run.address run.size;
  on_sp = run.on_sp;
  aligned = run.aligned;
  address = run.address;
  size = run.size;
  reads = run.reads;
  writes = run.writes;
}
