-- The options of a run: their numbers, and those of a config.
use Rattle.std.specs.Prelude.{◌≡◌, ◌==◌, ◌&&◌, Bool, Option, Some, None, if◌then◌else◌}
use Rattle.sm_types.specs.Length.{bits_of}
use Rattle.sm_types.specs.Ranges.{is_length, is_slice, is_budget, are_threads, are_cores, is_kernel}
use Rattle.sm_types.specs.declared.config.Config.{Config}
use Rattle.sm_types.specs.declared.numbers.Numbers.{Numbers}
use Rattle.sm_types.specs.declared.length.VecLen.TheVariants.{Bits128, Bits256}
use Rattle.sm_types.specs.declared.version.Version.{Version}
use Rattle.sm_types.specs.declared.version.Version.TheVariants.{One, Two}

-- each number is one that its option takes
unfoldable pub are_taken : Numbers → Bool
are_taken numbers =
    is_length numbers.vl && is_length numbers.svl && is_slice numbers.slice && is_budget numbers.budget
    && are_threads numbers.threads && are_cores numbers.cores && is_kernel numbers.kernel

-- the numbers, if each is one that its option takes
abbrev pub if_taken : Numbers → Option Numbers
if_taken numbers = if are_taken numbers then Some numbers else None

-- ---- those of a config

-- its numbers
abbrev pub numbers_of : Config → Numbers
numbers_of config =
    record {
      vl = bits_of config.vl;
      svl = bits_of config.svl;
      slice = config.slice;
      budget = config.budget;
      threads = config.threads;
      cores = config.cores;
      kernel = config.kernel;
    }

-- the version of its kernel
unfoldable pub version_of : Config → Version
version_of config = if config.kernel == 2 then Two else One

-- the options are those of a command that gives none
pub record AreDefaults (options : Config) : Type 0 where
  pub vl : options.vl ≡ Bits128
  pub svl : options.svl ≡ Bits256
  pub slice : options.slice ≡ 1000
  pub budget : options.budget ≡ 10000000
  pub threads : options.threads ≡ 1
  pub cores : options.cores ≡ 1
  pub kernel : options.kernel ≡ 2
