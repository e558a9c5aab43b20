-- What goes by the version of the kernel alone.
-- Source: the kernel is this emulator's own.
use Rattle.std.specs.Prelude.{ℕ, ◌^◌, bit_or}
use Rattle.sm_types.specs.declared.version.Version.{Version}
use Rattle.sm_types.specs.declared.version.Version.TheVariants.{One, Two}

-- how many handlers a thread is in at most: in version 1 none begins inside another
abbrev pub depth_limit : Version → ℕ
depth_limit One = 1
depth_limit Two = 64

-- the mask inside the handler of a signal: version 2 masks that signal
abbrev pub masked_inside : Version → ℕ → ℕ → ℕ
masked_inside One signal mask = mask
masked_inside Two signal mask = bit_or mask (2 ^ signal)
