-- When an object can be written as a file that is loaded. Source: this project's own.
use Rattle.std.specs.Prelude.{◌≡◌, ◌≤◌, ℕ, length, Bool, true, is_some}
use Rattle.std.specs.List.{list_all}
use Rattle.sm_types.specs.declared.object.Object.{Object}
use Rattle.sm_types.specs.Objects.{object_code, IsStartable}
use Rattle.a64_encode.specs.Either.{instruction_of}

-- a code word, an address and a word, means an instruction
abbrev pub is_listed : ℕ × ℕ → Bool
is_listed entry = is_some (instruction_of entry.1)

-- the object can start, each part has at most 4 MiB, and each of its code words means an instruction
pub record IsWritable (o : Object) : Type 0 where
  pub startable : IsStartable o
  pub text_size : length o.text_bytes.items ≤ 4194304
  pub data_size : length o.data_bytes.items ≤ 4194304
  pub listed : list_all is_listed (object_code o) ≡ true
