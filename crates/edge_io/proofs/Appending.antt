-- What a writer that is known to hold some bytes holds after several writes.
use Rattle.std.proofs.Common.{ℕ, ◌+◌, ◌-◌, List, ◌++◌, length, take, drop, Option, Some, None, ap, sym, ◌∙◌, append_assoc}
use Rattle.std.proofs.lemmas.List.{take_rest}
use Rattle.std.proofs.Math.Seq.{take-add}
use Rattle.std.specs.Io.KnownBytes.{Appends}

-- w bytes are written, and then n of those that are left
pub appends_more : (a b c : Option (List ℕ)) (bs : List ℕ) (w n : ℕ) → Appends a b (take w bs)
    → Appends b c (take n (take (length bs - w) (drop w bs))) → Appends a c (take (w + n) bs)
appends_more None b c bs w n h k = tt
appends_more (Some xs) None c bs w n h k = absurd h
appends_more (Some xs) (Some ys) None bs w n h k = absurd k
appends_more (Some xs) (Some ys) (Some zs) bs w n h k =
    k ∙ ap (λ l. ys ++ take n l) (take_rest bs w) ∙ ap (λ l. l ++ take n (drop w bs)) h ∙ append_assoc xs (take w bs) (take n (drop w bs))
    ∙ ap (λ l. xs ++ l) (sym (take-add w n bs))
