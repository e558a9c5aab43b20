-- A state in plain fields, as the fields of a file.
use Rattle.std.specs.Prelude.{◌≡◌, ℕ, ◌*◌, ◌/◌, ◌^◌, ◌<◌, ◌≤◌, All, List, [], ◌∷◌, ◌++◌, length, map}
use Rattle.sm_types.specs.declared.numbers.Numbers.{Numbers}
use Rattle.sm_types.specs.declared.limits.TheConstants.{OUTPUT_LIMIT, PAGE_LIMIT}
use Rattle.field_table.specs.Rows.{rows}
use Rattle.kernel_contexts.specs.LooseState.{handler_entry}
use Rattle.kernel_contexts.specs.declared.loose_state.LooseState.{LooseState}
use Rattle.kernel_contexts.specs.declared.loose_state.Handler.{Handler}
use Rattle.ckpt_fields.specs.Rows.{length_for, array_size}
use Rattle.ckpt_fields.specs.Values.{doublewords, first_values, thread_values, system_values, handler_values}
use Rattle.ckpt_fields.specs.Values.{output_values, page_values, page_said, IsNarrowPage}

-- the fields of a state in plain fields, of a program with that digest, with those options
unfoldable pub loose_values : List ℕ → Numbers → LooseState → List (List ℕ)
loose_values digest options t =
    first_values digest options
    ++ (thread_values t.thread t.count t.events t.depth t.turns
    ++ (doublewords (t.pc ∷ t.sp ∷ t.x)
    ++ (system_values t.nzcv t.svcr t.tpidr t.tpidr2 t.held t.mask t.polled
    ++ ((rows 32 (length_for options t.svcr) t.z.items
    ++ (rows 16 (length_for options t.svcr / 8) t.p.items ++ t.ffr.items ∷ []))
    ++ (rows (array_size options t.svcr) (options.svl / 8) t.za.items
    ++ (handler_values (map handler_entry t.handlers.items)
    ++ (output_values t.output.items ++ page_values (map page_said t.pages.items))))))))

-- a signal and its address fit their fields
abbrev pub IsNarrowEntry : Handler → Type 0
IsNarrowEntry h = (h.signal < 2 ^ 32) × (h.address < 2 ^ 64)

-- its registers have the lengths of its mode; what is listed fits, and there are as few handlers, bytes of
-- output and pages as a thread may have
pub record HasLooseSizes (options : Numbers) (t : LooseState) : Type 0 where
  pub registers : length t.x ≡ 31
  pub vectors : length t.z.items ≡ 32 * length_for options t.svcr
  pub predicates : length t.p.items ≡ 16 * (length_for options t.svcr / 8)
  pub first_fault : length t.ffr.items ≡ length_for options t.svcr / 8
  pub array : length t.za.items ≡ array_size options t.svcr * (options.svl / 8)
  pub handlers : All IsNarrowEntry t.handlers.items
  pub few_handlers : length t.handlers.items ≤ 62
  pub few_bytes : length t.output.items ≤ OUTPUT_LIMIT
  pub pages : All IsNarrowPage t.pages.items
  pub few_pages : length t.pages.items ≤ PAGE_LIMIT

-- its numbers fit their types
pub record HasNarrowNumbers (t : LooseState) : Type 0 where
  pub thread : t.thread < 2 ^ 32
  pub count : t.count < 2 ^ 32
  pub events : t.events < 2 ^ 32
  pub depth : t.depth < 2 ^ 32
  pub turns : t.turns < 2 ^ 64
  pub nzcv : t.nzcv < 2 ^ 64
  pub svcr : t.svcr < 2 ^ 64
  pub tpidr : t.tpidr < 2 ^ 64
  pub tpidr2 : t.tpidr2 < 2 ^ 64
  pub held : t.held < 2 ^ 64
  pub mask : t.mask < 2 ^ 64
