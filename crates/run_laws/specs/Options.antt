-- Options of runs that are the same but for the number of cores.
use Rattle.std.specs.Prelude.{◌≡◌}
use Rattle.sm_types.specs.Options.{numbers_of}
use Rattle.sm_types.specs.declared.config.Config.{Config}
use Rattle.sm_types.specs.declared.numbers.Numbers.{Numbers}

-- their numbers may differ in that of cores alone
abbrev pub AreSameButCores : Config → Config → Type 0
AreSameButCores c d = ◌≡◌ {A = Numbers} (record (numbers_of c) { cores = d.cores }) (numbers_of d)
