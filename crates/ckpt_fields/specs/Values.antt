-- The fields of the file of a thread's state, for what they say. Source: the table of the file.
use Rattle.std.specs.Prelude.{◌≡◌, ℕ, ◌*◌, ◌/◌, ◌^◌, ◌<◌, ◌≤◌, All, Bool, List, [], ◌∷◌, ◌++◌, length, map}
use Rattle.std.specs.List.{flat_map}
use Rattle.bit_ops.specs.Sums.{bool_number}
use Rattle.byteorder.specs.Endian.{little_bytes}
use Rattle.sm_types.specs.declared.numbers.Numbers.{Numbers}
use Rattle.sm_types.specs.declared.limits.TheConstants.{OUTPUT_LIMIT, PAGE_LIMIT}
use Rattle.field_table.specs.Rows.{rows}
use Rattle.paged_memory.specs.declared.page_list.PageImage.{PageImage}
use Rattle.ckpt_fields.specs.Rows.{tag, length_for, array_size}
use Rattle.ckpt_fields.specs.declared.state.Progress.{Progress}
use Rattle.ckpt_fields.specs.declared.state.System.{System}
use Rattle.ckpt_fields.specs.declared.state.VectorBytes.{VectorBytes}
use Rattle.ckpt_fields.specs.declared.state.SignalHandler.{SignalHandler}
use Rattle.ckpt_fields.specs.declared.state.StateFields.{StateFields}

-- numbers of 4 bytes, a field each
abbrev pub words : List ℕ → List (List ℕ)
words numbers = map (little_bytes 4) numbers

-- numbers of 8 bytes
abbrev pub doublewords : List ℕ → List (List ℕ)
doublewords numbers = map (little_bytes 8) numbers

-- the options
unfoldable pub option_values : Numbers → List (List ℕ)
option_values options =
    words (options.vl ∷ options.svl ∷ options.slice ∷ options.budget ∷ options.threads ∷ options.kernel ∷ [])

-- the tag, the digest and the options
unfoldable pub first_values : List ℕ → Numbers → List (List ℕ)
first_values digest options = tag ∷ digest ∷ option_values options

-- the thread, its count, its events and its depth, and its turns
unfoldable pub thread_values : ℕ → ℕ → ℕ → ℕ → ℕ → List (List ℕ)
thread_values thread count events depth turns =
    words (thread ∷ count ∷ events ∷ depth ∷ []) ++ doublewords (turns ∷ [])

-- NZCV, SVCR, TPIDR_EL0, TPIDR2_EL0, the signals that are held, the mask, and whether they were polled
unfoldable pub system_values : ℕ → ℕ → ℕ → ℕ → ℕ → ℕ → Bool → List (List ℕ)
system_values nzcv svcr tpidr tpidr2 held mask polled =
    doublewords (nzcv ∷ svcr ∷ tpidr ∷ tpidr2 ∷ held ∷ mask ∷ bool_number polled ∷ [])

-- a signal and its address
abbrev pub handler_value : ℕ × ℕ → List (List ℕ)
handler_value h = little_bytes 4 h.0 ∷ little_bytes 8 h.1 ∷ []

-- how many handlers, and each
unfoldable pub handler_values : List (ℕ × ℕ) → List (List ℕ)
handler_values handlers = words (length handlers ∷ []) ++ flat_map handler_value handlers

-- the output
unfoldable pub output_values : List ℕ → List (List ℕ)
output_values output = words (length output ∷ []) ++ (output ∷ [])

-- the address of a page, its permission and its bytes
abbrev pub page_value : ℕ × ℕ × List ℕ → List (List ℕ)
page_value p = little_bytes 8 p.0 ∷ little_bytes 1 p.1 ∷ p.2 ∷ []

-- how many pages, and each
unfoldable pub page_values : List (ℕ × ℕ × List ℕ) → List (List ℕ)
page_values pages = words (length pages ∷ []) ++ flat_map page_value pages

-- ---- what the code's own types tell

abbrev pub handler_said : SignalHandler → ℕ × ℕ
handler_said h = (h.signal, h.address)

abbrev pub page_said : PageImage → ℕ × ℕ × List ℕ
page_said p = (p.address, p.flags, p.bytes.items)

-- the fields of a thread's progress
abbrev pub progress_said : Progress → List (List ℕ)
progress_said p = thread_values p.thread p.count p.events p.depth p.turns

-- of what the system registers and the kernel keep
abbrev pub system_said : System → List (List ℕ)
system_said s = system_values s.nzcv s.svcr s.tpidr s.tpidr2 s.held s.mask s.polled

-- of vectors, predicates, FFR and ZA, with that value of SVCR
unfoldable pub vectors_said : Numbers → ℕ → VectorBytes → List (List ℕ)
vectors_said options svcr v =
    rows 32 (length_for options svcr) v.z.now
    ++ (rows 17 (length_for options svcr / 8) v.predicates.now
    ++ rows (array_size options svcr) (options.svl / 8) v.za.now)

-- all fields of a file with that digest and those options
unfoldable pub fields_said : List ℕ → Numbers → StateFields → List (List ℕ)
fields_said digest options f =
    first_values digest options
    ++ (progress_said f.progress
    ++ (rows 33 8 f.registers.now
    ++ (system_said f.system
    ++ (vectors_said options f.system.svcr f.vectors
    ++ (handler_values (map handler_said f.handlers.items)
    ++ (output_values f.output.now ++ page_values (map page_said f.pages.items)))))))

-- the vectors of some fields have the lengths of the mode of SVCR
pub record HasVectorSizes (options : Numbers) (svcr : ℕ) (v : VectorBytes) : Type 0 where
  pub z : length v.z.now ≡ 32 * length_for options svcr
  pub predicates : length v.predicates.now ≡ 17 * (length_for options svcr / 8)
  pub za : length v.za.now ≡ array_size options svcr * (options.svl / 8)

-- a signal and its address fit their fields
abbrev pub IsNarrowHandler : SignalHandler → Type 0
IsNarrowHandler h = (h.signal < 2 ^ 32) × (h.address < 2 ^ 64)

-- the address of a page and its permission fit theirs
abbrev pub IsNarrowPage : PageImage → Type 0
IsNarrowPage p = (p.address < 2 ^ 64) × (p.flags < 256)

-- the registers are 33 of 8 bytes, and the vectors have the lengths of their mode; what is listed fits, and
-- there are as few handlers, bytes of output and pages as a thread may have
pub record HasSizes (options : Numbers) (f : StateFields) : Type 0 where
  pub registers : length f.registers.now ≡ 33 * 8
  pub vectors : HasVectorSizes options f.system.svcr f.vectors
  pub handlers : All IsNarrowHandler f.handlers.items
  pub few_handlers : length f.handlers.items ≤ 62
  pub few_bytes : length f.output.now ≤ OUTPUT_LIMIT
  pub pages : All IsNarrowPage f.pages.items
  pub few_pages : length f.pages.items ≤ PAGE_LIMIT
