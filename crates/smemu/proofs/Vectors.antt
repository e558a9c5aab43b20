-- A file of vectors is read for the lengths of the options, and its answers are written as lines.
use Rattle.std.proofs.Common.{◌≡◌, ℕ, ◌++◌, List, [], ◌∷◌, map, Ok, Vec, refl, sym, ◌∙◌, ap, subst}
use Rattle.std.specs.List.{flat_map}
use Rattle.sm_types.specs.Length.{bits_of}
use Rattle.sm_types.specs.Options.{numbers_of}
use Rattle.sm_types.specs.declared.config.Config.{Config}
use Rattle.sm_types.specs.declared.length.VecLen.{VecLen}
use Rattle.sm_types.specs.declared.length.VecLen.TheVariants.{Bits128, Bits256, Bits512, Bits1024, Bits2048}
use Rattle.edge_io.specs.Files.{FilesView, Told}
use Rattle.vector_runner.specs.Field.{Vector}
use Rattle.vector_runner.specs.Grammar.{vectors_in}
use Rattle.vector_runner.specs.Run.{answers, lines_text}
use Rattle.smemu.specs.Ends.{Change}
use Rattle.smemu.specs.Rejections.{Judge, vectors_judge}
use Rattle.smemu.specs.Vectors.{IsAnswersOf, with_line_feed, length_said}
use Rattle.smemu.specs.Views.{IsOpened, IsUnopened}
use Rattle.smemu.specs.declared.refusal.Refusal.{Refusal}

-- lines are written one after another, each with its line feed
pub lines_with_feeds : {Z : Type 0} (lines : List (Vec ℕ Z))
    → flat_map with_line_feed lines ≡ lines_text (map (λ (line : Vec ℕ Z). line.items) lines)
unfolding lines_text
lines_with_feeds [] = refl
lines_with_feeds (line ∷ lines) = ap (λ (rest : List ℕ). with_line_feed line ++ rest) (lines_with_feeds lines)

-- a length is that of its bits
said_length : (l : VecLen) → l ≡ length_said (bits_of l)
said_length Bits128 = refl
said_length Bits256 = refl
said_length Bits512 = refl
said_length Bits1024 = refl
said_length Bits2048 = refl

-- so a file is judged with the lengths of a config as with its numbers
module _ (config : Config) where
  same_judge : vectors_judge config.vl config.svl
      ≡ vectors_judge (length_said (numbers_of config).vl) (length_said (numbers_of config).svl)
  same_judge = λ i. vectors_judge (said_length config.vl i) (said_length config.svl i)

  pub vectors_opened : {told : Told} {name file : List ℕ} → IsOpened told name (vectors_judge config.vl config.svl) file
      → IsOpened told name (vectors_judge (length_said (numbers_of config).vl) (length_said (numbers_of config).svl)) file
  vectors_opened {told} {name} {file} h = subst (λ (j : Judge). IsOpened told name j file) same_judge h

  pub vectors_unopened : (files : Change FilesView) (name : List ℕ) (r : Refusal)
      → IsUnopened files name (vectors_judge config.vl config.svl) r
      → IsUnopened files name (vectors_judge (length_said (numbers_of config).vl) (length_said (numbers_of config).svl)) r
  vectors_unopened files name r h = subst (λ (j : Judge). IsUnopened files name j r) same_judge h

  -- and read
  pub vectors_answered : {Z : Type 0} (file : List ℕ) (vectors : List Vector) (lines : List (Vec ℕ Z))
      → vectors_in config.vl config.svl file ≡ Ok vectors
      → map (λ (line : Vec ℕ Z). line.items) lines ≡ answers config.vl config.svl vectors
      → IsAnswersOf file (numbers_of config) (flat_map with_line_feed lines)
  vectors_answered file vectors lines read are = record {
    vectors = vectors;
    read = (λ i. vectors_in (sym (said_length config.vl) i) (sym (said_length config.svl) i) file) ∙ read;
    is_text = lines_with_feeds lines ∙ ap lines_text are
        ∙ (λ i. lines_text (answers (said_length config.vl i) (said_length config.svl i) vectors));
  }
