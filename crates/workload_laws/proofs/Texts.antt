-- The texts of words: what a line says that is one.
use Rattle.std.proofs.Common.{◌≡◌, ℕ, ◌<◌, ◌^◌, true, List, Option, Some, None, Ok, refl, subst}
use Rattle.std.specs.Prelude.{is_some}
use Rattle.sm_types.specs.declared.insn.Insn.{Insn}
use Rattle.a64_encode.specs.Either.{MeansEither, instruction_of}
use Rattle.a64_encode.proofs.Either.{either}
use Rattle.insn_text.specs.Texts.{text_of}
use Rattle.asm_parser.specs.Lines.{line_of}
use Rattle.asm_parser.proofs.Round.{round}
use Rattle.workload_laws.specs.Words.{word_line}

-- the text is that of a word, which means an instruction
pub record IsText (word : ℕ) (text : List ℕ) : Type 0 where
  pub insn : Insn
  pub means : MeansEither word insn
  pub is : text_of word ≡ text

-- such a line says the instruction
pub text_says : (word : ℕ) (text : List ℕ) → IsText word text → line_of text ≡ Ok (word_line word)
text_says word text h = subst (λ (t : List ℕ). line_of t ≡ Ok (word_line word)) h.is (round word h.insn h.means)

-- a word that some instruction has
pub text_by : (word : ℕ) (text : List ℕ) → word < 2 ^ 32 → is_some (instruction_of word) ≡ true → text_of word ≡ text → IsText word text
text_by word text lt some is = given (instruction_of word) refl some
  where
    given : (o : Option Insn) → instruction_of word ≡ o → is_some o ≡ true → IsText word text
    given None e s = cc
    given (Some it) e s = record { insn = it; means = (either word it lt).0 e; is = is }
