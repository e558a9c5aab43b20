-- A file of single instructions with states: how it is read, and what is written of it.
use Rattle.std.specs.Prelude.{◌≡◌, ◌==◌, ◌++◌, ℕ, List, [], ◌∷◌, Ok, if◌then◌else◌}
use Rattle.std.specs.declared.vec.Vec.{Vec}
use Rattle.sm_types.specs.declared.length.VecLen.{VecLen}
use Rattle.sm_types.specs.declared.length.VecLen.TheVariants.{Bits128, Bits256, Bits512, Bits1024, Bits2048}
use Rattle.sm_types.specs.declared.numbers.Numbers.{Numbers}
use Rattle.vector_runner.specs.Field.{Vector}
use Rattle.vector_runner.specs.Grammar.{vectors_in}
use Rattle.vector_runner.specs.Run.{answers_text}

-- the length of so many bits, of the five that there are
abbrev pub length_said : ℕ → VecLen
length_said bits =
    if bits == 128 then Bits128
    else (if bits == 256 then Bits256
    else (if bits == 512 then Bits512
    else (if bits == 1024 then Bits1024
    else Bits2048)))

-- a line with the line feed (10) after it
abbrev pub with_line_feed : {Z : Type 0} → Vec ℕ Z → List ℕ
with_line_feed line = line.items ++ 10 ∷ []

-- the text is the answers to the vectors of a file, with the lengths that the options say
pub record IsAnswersOf (file : List ℕ) (options : Numbers) (text : List ℕ) : Type 0 where
  pub vectors : List Vector
  pub read : vectors_in (length_said options.vl) (length_said options.svl) file ≡ Ok vectors
  pub is_text : text ≡ answers_text (length_said options.vl) (length_said options.svl) vectors
