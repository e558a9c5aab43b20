-- Where turns that are made at once are told to halt.
use Rattle.std.specs.Prelude.{ℕ, ◌||◌, Bool}
use Rattle.abi_checker.specs.Marks.{is_call_word}
use Rattle.abi_checker.specs.Near.{is_near}
use Rattle.abi_checker.specs.declared.near.Near.{Near}

-- before each BL and BLR, and where a call may come back
abbrev pub halts_for : Near → ℕ → ℕ → Bool
halts_for near pc word = is_call_word word || is_near near pc
