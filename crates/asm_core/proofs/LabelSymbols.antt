-- The symbols of labels, and of others after them.
use Rattle.std.proofs.Common.{◌≡◌, ℕ, List, [], ◌∷◌, ◌++◌, refl, sym, ap, ◌∙◌, append_assoc}
use Rattle.asm_core.specs.Layout.{Label}
use Rattle.asm_core.specs.Assembly.{label_symbol, label_symbols}

pub symbols_append : (text_length : ℕ) (xs ys : List Label)
    → label_symbols text_length (xs ++ ys) ≡ label_symbols text_length xs ++ label_symbols text_length ys
unfolding label_symbols
symbols_append text_length [] ys = refl
symbols_append text_length (x ∷ xs) ys =
    ap (λ ss. label_symbol text_length x ++ ss) (symbols_append text_length xs ys)
    ∙ sym (append_assoc (label_symbol text_length x) (label_symbols text_length xs) (label_symbols text_length ys))
