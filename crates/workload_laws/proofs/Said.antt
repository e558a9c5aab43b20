-- Lines that are the texts of words, one after another.
use Rattle.std.proofs.Common.{◌≡◌, ℕ, List, [], ◌∷◌, ◌++◌, map, length, arith}
use Rattle.workload_laws.proofs.Texts.{IsText}

-- each of these lines is the text of the word at its place, and there are as many
abbrev pub AreTexts : List ℕ → List (List ℕ) → Type 0
AreTexts [] [] = Unit {0}
AreTexts [] (text ∷ texts) = ⊥
AreTexts (word ∷ words) [] = ⊥
AreTexts (word ∷ words) (text ∷ texts) = IsText word text × AreTexts words texts

pub texts-append : (ws vs : List ℕ) (ts us : List (List ℕ)) → AreTexts ws ts → AreTexts vs us → AreTexts (ws ++ vs) (ts ++ us)
texts-append [] vs [] us h k = k
texts-append [] vs (t ∷ ts) us h k = absurd h
texts-append (w ∷ ws) vs [] us h k = absurd h
texts-append (w ∷ ws) vs (t ∷ ts) us h k = (h.0, texts-append ws vs ts us h.1 k)

pub texts-map : (word : ℕ → ℕ) (text : ℕ → List ℕ) → ((i : ℕ) → IsText (word i) (text i)) → (is : List ℕ)
    → AreTexts (map word is) (map text is)
texts-map word text h [] = tt
texts-map word text h (i ∷ is) = (h i, texts-map word text h is)

pub texts-parts : (ws vs : List ℕ) (ts us : List (List ℕ)) → length ws ≡ length ts → AreTexts (ws ++ vs) (ts ++ us)
    → AreTexts ws ts × AreTexts vs us
texts-parts [] vs [] us e h = (tt, h)
texts-parts [] vs (t ∷ ts) us e h = absurd (omega arith)
texts-parts (w ∷ ws) vs [] us e h = absurd (omega arith)
texts-parts (w ∷ ws) vs (t ∷ ts) us e h =
    let same : length ws ≡ length ts = omega arith in let p = texts-parts ws vs ts us same h.1 in ((h.0, p.0), p.1)
