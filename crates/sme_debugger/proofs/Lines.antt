-- The lines of memory and of the place, part by part.
use Rattle.std.proofs.Common.{◌≡◌, ℕ, List, [], ◌∷◌, ◌++◌, Option, Some, None, ap, ◌∙◌, append_assoc, codes}
use Rattle.std.specs.Prelude.{unwrap_or, decimal}
use Rattle.std.specs.List.{concat}
use Rattle.paged_memory.specs.Memory.{AddressSpace, bytes_with, first_without}
use Rattle.kernel_contexts.specs.State.{State}
use Rattle.text_lines.specs.Lines.{hex64}
use Rattle.sme_debugger.specs.Texts.{bytes_text, read_text, memory_text, listed_word, insn_words, place_text}
use Rattle.sme_debugger.proofs.Bytes.{all_read}

-- bytes of which one cannot be read
pub text_of_fault : (m : AddressSpace) (a size first : ℕ) → first_without 4 m a size ≡ Some first
    → memory_text a size m ≡ concat (codes "fault " ∷ hex64 first ∷ codes "\n" ∷ [])
unfolding memory_text
text_of_fault m a size first is = ap (λ o. read_text o (bytes_with 4 m a size)) is

-- bytes that can all be read
pub text_of_bytes : (m : AddressSpace) (a size : ℕ) → first_without 4 m a size ≡ None
    → memory_text a size m ≡ bytes_text (unwrap_or (bytes_with 4 m a size) [])
unfolding memory_text
text_of_bytes m a size none =
    ap (λ o. read_text o (bytes_with 4 m a size)) none ∙ ap (read_text None) (all_read m a size none)

five_and_two : (a b c d e f g : List ℕ)
    → concat (a ∷ b ∷ c ∷ d ∷ e ∷ []) ++ (f ++ (g ++ [])) ≡ concat (a ∷ b ∷ c ∷ d ∷ e ∷ f ∷ g ∷ [])
five_and_two a b c d e f g = simp append_assoc

-- the count and PC come first
pub place_first : (s : State) (count pc : List ℕ) (word : Option ℕ)
    → count ≡ decimal s.count → pc ≡ hex64 s.core.scalars.pc → word ≡ listed_word s.core.memory s.core.scalars.pc
    → concat (codes "at " ∷ count ∷ codes " " ∷ pc ∷ codes " " ∷ []) ++ (insn_words word ++ (codes "\n" ++ [])) ≡ place_text s
unfolding place_text
place_first s count pc word counts there listed =
    rw (counts, there, listed)
    (five_and_two (codes "at ") (decimal s.count) (codes " ") (hex64 s.core.scalars.pc) (codes " ")
    (insn_words (listed_word s.core.memory s.core.scalars.pc)) (codes "\n"))
