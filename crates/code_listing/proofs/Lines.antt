-- The lines of code words one after another.
use Rattle.std.proofs.Common.{◌≡◌, ℕ, ◌+◌, ◌<◌, ◌≤◌, ◌++◌, List, [], ◌∷◌, length, drop, get_or, refl, ◌∙◌, ap, add-one, drop-cons}
use Rattle.std.proofs.Math.ListN.{drop_of_length-le}
use Rattle.code_listing.specs.Listing.{listing_line, listing_text}

listing_cons : (entry : ℕ × ℕ) (entries : List (ℕ × ℕ)) → listing_text (entry ∷ entries) ≡ listing_line entry ++ listing_text entries
unfolding listing_text
listing_cons entry entries = refl

listing_none : listing_text [] ≡ []
unfolding listing_text
listing_none = refl

-- the line at a place is the first of those that are left
pub listing_at : (entries : List (ℕ × ℕ)) (i : ℕ) (d : ℕ × ℕ) → i < length entries
    → listing_text (drop i entries) ≡ listing_line (get_or entries i d) ++ listing_text (drop (i + 1) entries)
listing_at entries i d l = rw (add-one, drop-cons entries i d) (listing_cons (get_or entries i d) _)

-- past the last place none is left
pub listing_past : (entries : List (ℕ × ℕ)) (i : ℕ) → length entries ≤ i → listing_text (drop i entries) ≡ []
listing_past entries i l = ap listing_text (drop_of_length-le entries l) ∙ listing_none
