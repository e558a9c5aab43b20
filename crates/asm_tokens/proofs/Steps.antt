-- The steps of loops over a text.
use Rattle.std.proofs.Common.{◌≡◌, ℕ, ◌+◌, ◌*◌, ◌%◌, ◌<◌, ◌≤◌, Bool, true, false, List, [], ◌∷◌, ◌++◌}
use Rattle.std.proofs.Common.{length, take, drop, get_or, cond, refl, sym, ap, ◌∙◌, arith, append_assoc, add-one}
use Rattle.std.specs.List.{prefix_len}
use Rattle.std.proofs.Math.Seq.{take-suc}
use Rattle.std.proofs.lemmas.List.{append-nil, drop-drop, at_drop_more, at_drop_all, length-take}
use Rattle.std.proofs.lemmas.List.Sums.{prefix_len-drop_yes, prefix_len-drop_no, prefix_len-drop_all, prefix_len-le-length}
use Rattle.asm_tokens.specs.Characters.{front, starts_comment, before_comment}
use Rattle.asm_tokens.specs.Slots.{hash_after}

-- what a text has from an offset on, from an offset on
pub joined_drops : (n m : ℕ) (xs : List ℕ) → drop m (drop n xs) ≡ drop (n + m) xs
joined_drops n m xs = drop-drop m n xs

-- ---- runs

pub front-length : (p : ℕ → Bool) (xs : List ℕ) → length (front p xs) ≡ prefix_len p xs
front-length p xs = omega (arith, length-take (prefix_len p xs) xs, prefix_len-le-length p xs)

pub take_front : (p : ℕ → Bool) (xs : List ℕ) → take (length (front p xs)) xs ≡ front p xs
take_front p xs = ap (λ n. take n xs) (front-length p xs)

pub front-more : (p : ℕ → Bool) (xs : List ℕ) (at whole : ℕ) → at < length xs → true ≡ p (get_or xs at 0)
    → at + length (front p (drop at xs)) ≡ whole → at + 1 + length (front p (drop (at + 1) xs)) ≡ whole
front-more p xs at whole lt e h =
    omega (arith, front-length p (drop at xs), front-length p (drop (at + 1) xs), prefix_len-drop_yes p xs at 0 lt (sym e))

pub front-stop : (p : ℕ → Bool) (xs : List ℕ) (at whole : ℕ) → at < length xs → false ≡ p (get_or xs at 0)
    → at + length (front p (drop at xs)) ≡ whole → at ≡ whole
front-stop p xs at whole lt e h = omega (arith, front-length p (drop at xs), prefix_len-drop_no p xs at 0 lt (sym e))

pub front-end : (p : ℕ → Bool) (xs : List ℕ) (at whole : ℕ) → length xs ≤ at → at + length (front p (drop at xs)) ≡ whole → at ≡ whole
front-end p xs at whole le h = omega (arith, front-length p (drop at xs), prefix_len-drop_all p xs at le)

-- ---- comments

take-at : (xs : List ℕ) (at : ℕ) → at < length xs → take (at + 1) xs ≡ take at xs ++ (get_or xs at 0 ∷ [])
take-at xs at lt = rw (add-one, take-suc xs at 0) refl

pub comment-more : (xs whole : List ℕ) (at : ℕ) → at < length xs → false ≡ starts_comment (get_or xs at 0) (drop (at + 1) xs)
    → take at xs ++ before_comment (drop at xs) ≡ whole → take (at + 1) xs ++ before_comment (drop (at + 1) xs) ≡ whole
unfolding before_comment
comment-more xs whole at lt e h =
    ap (λ (ys : List ℕ). ys ++ before_comment (drop (at + 1) xs)) (take-at xs at lt)
    ∙ append_assoc (take at xs) (get_or xs at 0 ∷ []) (before_comment (drop (at + 1) xs))
    ∙ ap (λ b. take at xs ++ cond b [] (get_or xs at 0 ∷ before_comment (drop (at + 1) xs))) e
    ∙ ap (λ (ys : List ℕ). take at xs ++ ys) (sym (at_drop_more before_comment xs at 0 lt)) ∙ h

pub comment-here : (xs whole : List ℕ) (at : ℕ) → at < length xs → true ≡ starts_comment (get_or xs at 0) (drop (at + 1) xs)
    → take at xs ++ before_comment (drop at xs) ≡ whole → take at xs ≡ whole
unfolding before_comment
comment-here xs whole at lt e h =
    sym (append-nil (take at xs)) ∙ ap (λ b. take at xs ++ cond b [] (get_or xs at 0 ∷ before_comment (drop (at + 1) xs))) e
    ∙ ap (λ (ys : List ℕ). take at xs ++ ys) (sym (at_drop_more before_comment xs at 0 lt)) ∙ h

pub comment-end : (xs whole : List ℕ) (at : ℕ) → length xs ≤ at → take at xs ++ before_comment (drop at xs) ≡ whole → take at xs ≡ whole
unfolding before_comment
comment-end xs whole at le h =
    sym (append-nil (take at xs)) ∙ ap (λ (ys : List ℕ). take at xs ++ ys) (sym (at_drop_all before_comment xs at le)) ∙ h

-- ---- hashes

pub hash-more : (factor size h : ℕ) (xs : List ℕ) (at : ℕ) → at < length xs
    → hash_after factor size h (drop at xs) ≡ hash_after factor size ((h * factor + get_or xs at 0) % size) (drop (at + 1) xs)
hash-more factor size h xs at lt = at_drop_more (hash_after factor size h) xs at 0 lt

pub hash-end : (factor size h : ℕ) (xs : List ℕ) (at : ℕ) → length xs ≤ at → hash_after factor size h (drop at xs) ≡ h
hash-end factor size h xs at le = at_drop_all (hash_after factor size h) xs at le
