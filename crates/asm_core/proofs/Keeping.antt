-- What the first pass keeps of the lines of a source, as the second finds it.
use Rattle.std.proofs.Common.{◌≡◌, ℕ, List, [], ◌∷◌, ◌++◌, drop, Option, sym, ap, ◌∙◌, subst}
use Rattle.std.proofs.lemmas.List.{append_assoc, append-nil}
use Rattle.asm_core.specs.declared.kept_words.KeptWord.{KeptWord}
use Rattle.asm_core.specs.Source.{lines_of}
use Rattle.asm_core.specs.Kept.{AreKept, IsKept, first_kept}
use Rattle.asm_core.specs.Scanned.{AreKeptTo, HasKept}

-- something is kept of one more line
pub kept_more : (source : List ℕ) (old new : List (Option KeptWord)) (rest text after : List ℕ) → AreKeptTo source old rest
    → lines_of rest ≡ text ∷ lines_of after → HasKept old text new → AreKeptTo source new after
kept_more source old new rest text after h split has = λ more is.
    let now : AreKept (has.kept ∷ more) (lines_of rest) = subst (AreKept (has.kept ∷ more)) (sym split) (has.is_kept, is) in
    subst (λ (ks : List (Option KeptWord)). AreKept ks (lines_of source))
    (sym (ap (λ ks. ks ++ more) has.added ∙ append_assoc old (has.kept ∷ []) more)) (h (has.kept ∷ more) now)

-- this is kept of all lines
pub kept_all : (source : List ℕ) (kept : List (Option KeptWord)) (rest : List ℕ) → AreKeptTo source kept rest
    → AreKept kept (lines_of source)
kept_all source kept rest h = subst (λ (ks : List (Option KeptWord)). AreKept ks (lines_of source)) (append-nil kept) (h [] tt)

-- ---- one line after the other

pub kept_first : (kept : List (Option KeptWord)) (text : List ℕ) (texts : List (List ℕ)) → AreKept kept (text ∷ texts)
    → IsKept (first_kept kept) text
kept_first [] text texts h = tt
kept_first (k ∷ ks) text texts h = h.0

pub kept_after : (kept : List (Option KeptWord)) (text : List ℕ) (texts : List (List ℕ)) → AreKept kept (text ∷ texts)
    → AreKept (drop 1 kept) texts
kept_after [] text texts h = tt
kept_after (k ∷ ks) text texts h = h.1
