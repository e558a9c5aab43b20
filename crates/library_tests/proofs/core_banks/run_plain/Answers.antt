use Rattle.std.proofs.Common.{refl}
use Rattle.library_tests.proofs.core_banks.run_plain.Goals as goal

pub run-requires : goal.run-requires
run-requires c = record { belong = record { resident = λ k d l. refl; stopped = λ k d l. refl } }
