-- The lines of a report before its blocks. Source: docs/REPORT.md.
use Rattle.std.specs.Prelude.{ℕ, List, length, take, drop, codes, Option, Some, None, option_and_then}
use Rattle.std.specs.Prelude.{if◌then◌else◌}
use Rattle.std.specs.Result.{result_ok}
use Rattle.std.specs.Str.{bytes_eq}
use Rattle.hex.specs.Hex.{decode_sized}
use Rattle.sm_types.specs.Options.{if_taken}
use Rattle.sm_types.specs.declared.numbers.Numbers.{Numbers}
use Rattle.sm_types.specs.declared.version.Version.{Version}
use Rattle.sm_types.specs.declared.version.Version.TheVariants.{One, Two}
use Rattle.line_reader.specs.Numbers.{decimal_number, is_hex}
use Rattle.line_reader.specs.Fields.{◌>>=◌, field, named, ended, said_by}

-- the version of the format, which the first line says
unfoldable pub version_line : List ℕ → Option Version
version_line text =
    if bytes_eq text (codes "smemu-report 1\n") then Some One
    else if bytes_eq text (codes "smemu-report 2\n") then Some Two
    else None

-- the number of a version's kernel
abbrev pub kernel_of : Version → ℕ
kernel_of One = 1
kernel_of Two = 2

-- the numbers that a report says of options: it has no word for the cores, and stands for one
abbrev pub reported : Numbers → Numbers
reported numbers = record numbers { cores = 1 }

-- the numbers of the words of a report's options, in a version
abbrev pub five_numbers : Version → ℕ → ℕ → ℕ → ℕ → ℕ → Numbers
five_numbers version vl svl slice budget threads =
    record {
      vl = vl;
      svl = svl;
      slice = slice;
      budget = budget;
      threads = threads;
      cores = 1;
      kernel = kernel_of version;
    }

-- the number after a key
unfoldable pub number_after : List ℕ → List ℕ → Option ℕ
number_after key word =
    if bytes_eq (take (length key) word) key then decimal_number (drop (length key) word) else None

-- `options` and the numbers after their keys, in a version
unfoldable pub options_line : Version → List ℕ → Option Numbers
options_line version line = option_and_then if_taken (said_by (do
  _ ← named (codes "options")
  vl ← field (number_after (codes "vl="))
  svl ← field (number_after (codes "svl="))
  slice ← field (number_after (codes "slice="))
  budget ← field (number_after (codes "budget="))
  threads ← field (number_after (codes "threads="))
  ended (five_numbers version vl svl slice budget threads)) line)

-- the 32 bytes that 64 hexadecimal digits in lower case write
unfoldable pub digest_of : List ℕ → Option (List ℕ)
digest_of word = if is_hex word then result_ok (decode_sized word 32) else None

-- `image` and a digest
unfoldable pub image_line : List ℕ → Option (List ℕ)
image_line = said_by (do
  _ ← named (codes "image")
  digest ← field digest_of
  ended digest)
