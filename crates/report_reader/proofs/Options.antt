-- The options that a report says are of one core.
use Rattle.std.proofs.Common.{◌≡◌, ℕ, Bool, true, false, cond, Option, Some, None, ap}
use Rattle.std.specs.Prelude.{IfSome, option_map}
use Rattle.sm_types.specs.Options.{are_taken, if_taken, numbers_of}
use Rattle.sm_types.specs.declared.config.Config.{Config}
use Rattle.sm_types.specs.declared.numbers.Numbers.{Numbers}
use Rattle.sm_types.specs.declared.version.Version.{Version}
use Rattle.report_reader.specs.Header.{five_numbers}

taken_is : (a b : Numbers) (taken : Bool) → ◌≡◌ {A = Option Numbers} (Some a) (cond taken (Some b) None) → a ≡ b
taken_is a b true e = cc
taken_is a b false e = cc

pub one_core : (version : Version) (vl svl slice budget threads : ℕ) (made : Option Config)
    → option_map numbers_of made ≡ if_taken (five_numbers version vl svl slice budget threads) → IfSome made (λ config. config.cores ≡ 1)
one_core version vl svl slice budget threads None e = tt
one_core version vl svl slice budget threads (Some config) e =
    let said = five_numbers version vl svl slice budget threads in
    ap (λ (numbers : Numbers). numbers.cores) (taken_is (numbers_of config) said (are_taken said) e)
