-- The state of a guest thread in plain fields: when they are those of a thread, and of which state.
-- Source: DDI 0487, B1.2 and B1.4 for the registers, C5.2 for NZCV and SVCR; the kernel is this emulator's
-- own.
use Rattle.std.specs.Prelude.{◌≡◌, ℕ, ◌*◌, ◌/◌, ◌%◌, ◌^◌, ◌<◌, ◌≤◌, Bool, true, false, if◌then◌else◌}
use Rattle.std.specs.Prelude.{List, length, map, All, slice_get, Some}
use Rattle.std.specs.List.{concat, flat_map}
use Rattle.std.specs.FinMap.{entries}
use Rattle.sm_types.specs.Options.{version_of}
use Rattle.sm_types.specs.declared.config.Config.{Config}
use Rattle.sm_types.specs.declared.limits.TheConstants.{JOURNAL_LIMIT, OUTPUT_LIMIT}
use Rattle.sm_types.specs.declared.version.Version.TheVariants.{One}
use Rattle.paged_memory.specs.Memory.{IsWhole}
use Rattle.paged_memory.specs.PageList.{IsPageList, image_entry, HasPage}
use Rattle.sve_vectors.specs.Lengths.{vector_bytes, current_bytes}
use Rattle.sve_vectors.specs.Predicates.{predicate_bytes}
use Rattle.sve_vectors.specs.Registers.{AreOfLength}
use Rattle.za_array.specs.Array.{zero_vectors, IsSquare}
use Rattle.mem_access.specs.VectorState.{VectorState}
use Rattle.machine_step.specs.System.{nzcv_of, svcr_of, bit_at}
use Rattle.kernel_contexts.specs.Handlers.{is_signal}
use Rattle.kernel_contexts.specs.Kernel.{depth_limit}
use Rattle.kernel_contexts.specs.State.{State}
use Rattle.kernel_contexts.specs.declared.loose_state.LooseState.{LooseState}
use Rattle.kernel_contexts.specs.declared.loose_state.Handler.{Handler}

-- PSTATE.SM
abbrev pub is_streaming : LooseState → Bool
is_streaming t = bit_at t.svcr 0

-- PSTATE.ZA
abbrev pub is_array_on : LooseState → Bool
is_array_on t = bit_at t.svcr 1

-- L: the vector length of its mode, in bytes
abbrev pub loose_length : Config → LooseState → ℕ
loose_length config t = current_bytes config.vl config.svl (is_streaming t)

-- the bytes of ZA: S vectors of S bytes where it is on, else none
abbrev pub array_size : Config → LooseState → ℕ
array_size config t = if is_array_on t then vector_bytes config.svl * vector_bytes config.svl else 0

-- a handler of a signal, which begins somewhere
pub record IsHandler (h : Handler) : Type 0 where
  pub signal : is_signal h.signal ≡ true
  pub address : 1 ≤ h.address

-- each of them is one, and their signals ascend
pub record AreHandlers (handlers : List Handler) : Type 0 where
  pub each : All IsHandler handlers
  pub ascending :
      (i j : ℕ) (g h : Handler) → i < j → slice_get handlers i ≡ Some g → slice_get handlers j ≡ Some h
      → g.signal < h.signal

-- the numbers among the fields are those of a thread that goes on, with these options: no count is at the
-- budget, each turn of 64 an instruction at most, and nothing is masked nor nested that the kernel's version
-- does not mask and nest
pub record AreLooseNumbers (config : Config) (t : LooseState) : Type 0 where
  pub thread : t.thread < config.threads
  pub count : t.count < config.budget
  pub events : t.events ≤ JOURNAL_LIMIT
  pub depth : t.depth ≤ depth_limit (version_of config)
  pub turns : t.turns ≤ 64 * config.budget
  pub flags : t.nzcv % 2 ^ 28 ≡ 0
  pub word : t.nzcv < 2 ^ 32
  pub modes : t.svcr < 4
  pub signals : t.mask % 2 ≡ 0
  pub highest : t.mask < 2 ^ 63
  pub unmasked : version_of config ≡ One → t.mask ≡ 0

-- the fields are those of a thread that goes on, with these options: the numbers are, the registers have the
-- lengths of its mode, and handlers, output and pages are such as a thread may have
pub record IsLooseState (config : Config) (t : LooseState) : Type 0 where
  pub numbers : AreLooseNumbers config t
  pub vectors : length t.z.items ≡ 32 * loose_length config t
  pub predicates : length t.p.items ≡ 16 * (loose_length config t / 8)
  pub first_fault : length t.ffr.items ≡ loose_length config t / 8
  pub array : length t.za.items ≡ array_size config t
  pub handlers : AreHandlers t.handlers.items
  pub output : length t.output.items ≤ OUTPUT_LIMIT
  pub pages : IsPageList t.pages.items

-- signal and address of a handler
abbrev pub handler_entry : Handler → ℕ × ℕ
handler_entry h = (h.signal, h.address)

-- the scalars of a state are those of the fields
pub record HasScalars (t : LooseState) (s : State) : Type 0 where
  pub x : s.core.scalars.x ≡ t.x
  pub sp : s.core.scalars.sp ≡ t.sp
  pub pc : s.core.scalars.pc ≡ t.pc
  pub nzcv : nzcv_of s.core.scalars ≡ t.nzcv
  pub svcr : svcr_of s.core ≡ t.svcr
  pub streaming : s.core.streaming ≡ is_streaming t
  pub za_on : s.core.za_on ≡ is_array_on t
  pub tpidr : s.core.tpidr ≡ t.tpidr
  pub tpidr2 : s.core.tpidr2 ≡ t.tpidr2

-- vectors, predicates and FFR are, at the length of the mode; and so is ZA, which is zero where it is off
pub record HasVectors (config : Config) (t : LooseState) (v : VectorState) : Type 0 where
  pub lengths : AreOfLength (loose_length config t) v.registers
  pub vectors : concat v.registers.vectors ≡ t.z.items
  pub predicates : flat_map predicate_bytes v.registers.predicates ≡ t.p.items
  pub first_fault : predicate_bytes v.registers.ffr ≡ t.ffr.items
  pub square : IsSquare (vector_bytes config.svl) v.za
  pub array : is_array_on t ≡ true → concat v.za ≡ t.za.items
  pub off : is_array_on t ≡ false → v.za ≡ zero_vectors (vector_bytes config.svl)

-- its memory has exactly these pages
pub record HasPages (t : LooseState) (s : State) : Type 0 where
  pub pages : entries s.core.memory.perm ≡ map image_entry t.pages.items
  pub bytes : All (HasPage s.core.memory) t.pages.items
  pub whole : IsWhole s.core.memory

-- what the kernel keeps of the thread is so too
pub record HasKernel (t : LooseState) (s : State) : Type 0 where
  pub handlers : entries s.handlers ≡ map handler_entry t.handlers.items
  pub held : s.held ≡ t.held
  pub mask : s.mask ≡ t.mask
  pub depth : s.depth ≡ t.depth
  pub polled : s.polled ≡ t.polled
  pub output : s.output ≡ t.output.items
  pub count : s.count ≡ t.count
  pub turns : s.turns ≡ t.turns

-- a state has exactly these fields
pub record HasFields (config : Config) (t : LooseState) (s : State) : Type 0 where
  pub scalars : HasScalars t s
  pub vectors : HasVectors config t s.core.bank
  pub memory : HasPages t s
  pub kernel : HasKernel t s
