-- No shape goes on with the token where the fault stands.
use Rattle.std.proofs.Common.{◌≡◌, ℕ, zero, suc, ◌+◌, ◌<◌, ◌≤◌, List, [], ◌∷◌, ◌++◌, Option, Some, None, length, take, refl, ap, ap₂, ◌∙◌}
use Rattle.std.proofs.Common.{arith, add-one}
use Rattle.asm_tokens.specs.declared.token.Token.{Token}
use Rattle.insn_text.specs.declared.item.Item.{Item}
use Rattle.insn_text.specs.declared.item.Shape.{Shape}
use Rattle.insn_text.specs.Texts.{items_of}
use Rattle.asm_operands.specs.Operands.{PartialWord, partial_after, taken_on, taken, count_on, taken_count, fixed, word_in, taken_count_in}
use Rattle.asm_operands.specs.Operands.{shapes_of}
use Rattle.asm_operands.specs.Operands.{first_of_words, first_word, furthest}

stop_on : (is : List Item) (ts rest : List Token) (m : ℕ)
    → ((partial : PartialWord) (n : ℕ) → taken_count is partial ts ≤ n → n < length ts → taken is partial (take (suc n) ts ++ rest) ≡ None)
    → (o : Option PartialWord) → count_on (λ next. taken_count is next ts) o ≤ m → m < suc (length ts)
    → taken_on (λ next. taken is next (take m ts ++ rest)) o ≡ None
stop_on is ts rest m ih None le lt = refl
stop_on is ts rest zero ih (Some next) le lt = absurd (omega arith)
stop_on is ts rest (suc m) ih (Some next) le lt = ih next m (omega arith) (omega arith)

stop : (is : List Item) (partial : PartialWord) (ts rest : List Token) (m : ℕ) → taken_count is partial ts ≤ m → m < length ts
    → taken is partial (take (suc m) ts ++ rest) ≡ None
unfolding taken_count taken
stop is partial [] rest m le lt = absurd (omega arith)
stop [] partial (t ∷ ts) rest m le lt = refl
stop (i ∷ is) partial (t ∷ ts) rest m le lt = stop_on is ts rest m (λ k n l h. stop is k ts rest n l h) (partial_after i partial t) le lt

stop_shapes : (ss : List Shape) (ts rest : List Token) (m : ℕ) → furthest ss ts ≤ m → m < length ts
    → first_word ss (take (suc m) ts ++ rest) ≡ None
unfolding furthest first_word taken_count_in word_in
stop_shapes [] ts rest m le lt = refl
stop_shapes (s ∷ ss) ts rest m le lt =
    ap₂ first_of_words (stop (items_of s) (fixed s) ts rest m (omega arith) lt) (stop_shapes ss ts rest m (omega arith) lt)

pub stops : (mnemonic : ℕ) (ts rest : List Token) → furthest (shapes_of mnemonic) ts < length ts
    → first_word (shapes_of mnemonic) (take (furthest (shapes_of mnemonic) ts + 1) ts ++ rest) ≡ None
stops mnemonic ts rest lt =
    ap (λ n. first_word (shapes_of mnemonic) (take n ts ++ rest)) (add-one (furthest (shapes_of mnemonic) ts))
    ∙ stop_shapes (shapes_of mnemonic) ts rest (furthest (shapes_of mnemonic) ts) (omega arith) lt
