-- The fields of a line, and lines by their kinds, one after another.
use Rattle.std.proofs.Common.{◌≡◌, ℕ, ◌+◌, ◌<◌, ◌≤◌, false, ◌&&◌, List, [], ◌∷◌, length, drop, get_or, refl, ap, ◌∙◌, Ok}
use Rattle.std.specs.Prelude.{is_some, option_map}
use Rattle.std.proofs.lemmas.List.{at_drop_more, at_drop_all}
use Rattle.line_reader.specs.Fields.{ended}
use Rattle.report_reader.specs.Forms.{is_field, are_fields}
use Rattle.text_lines.specs.Forms.{often_of}
use Rattle.text_lines.specs.declared.forms.FieldKind.{FieldKind}
use Rattle.text_lines.specs.declared.forms.LineKind.{LineKind}
use Rattle.line_reader.specs.Reading.{Left, and_then}
use Rattle.report_reader.specs.Block.{together, lines_of_kinds}

-- one field more
pub row-more : (fields : List FieldKind) (at : ℕ) (d : FieldKind) (ahead : List (List ℕ)) (word : List ℕ) (words : List (List ℕ))
    → at < length fields → ahead ≡ word ∷ words
    → are_fields (drop at fields) ahead ≡ is_field (get_or fields at d) word && are_fields (drop (at + 1) fields) words
unfolding are_fields
row-more fields at d ahead word words lt e =
    ap (are_fields (drop at fields)) e ∙ at_drop_more (λ fs. are_fields fs (word ∷ words)) fields at d lt

-- a word is missing
pub row-short : (fields : List FieldKind) (at : ℕ) (d : FieldKind) (ahead : List (List ℕ)) → at < length fields → ahead ≡ []
    → are_fields (drop at fields) ahead ≡ false
unfolding are_fields
row-short fields at d ahead lt e = ap (are_fields (drop at fields)) e ∙ at_drop_more (λ fs. are_fields fs []) fields at d lt

no_more : (words : List (List ℕ)) → are_fields [] words ≡ is_some (option_map (λ said. said.0) (ended (tt {0}) words))
unfolding are_fields
no_more [] = refl
no_more (word ∷ words) = refl

-- all fields have been read
pub row-end : (fields : List FieldKind) (at : ℕ) (words : List (List ℕ)) → length fields ≤ at
    → are_fields (drop at fields) words ≡ is_some (option_map (λ said. said.0) (ended (tt {0}) words))
row-end fields at words le = at_drop_all (λ fs. are_fields fs words) fields at le ∙ no_more words

-- lines of one kind more
pub kinds-more : (kinds : List LineKind) (at : ℕ) (d : LineKind) (left : Left) → at < length kinds
    → lines_of_kinds (drop at kinds) left
    ≡ and_then (together (often_of (get_or kinds at d)) (get_or kinds at d) left) (λ u. lines_of_kinds (drop (at + 1) kinds))
unfolding lines_of_kinds
kinds-more kinds at d left lt = at_drop_more (λ ks. lines_of_kinds ks left) kinds at d lt

-- those of all kinds have been read
pub kinds-end : (kinds : List LineKind) (at : ℕ) (left : Left) → length kinds ≤ at → lines_of_kinds (drop at kinds) left ≡ Ok (tt, left)
unfolding lines_of_kinds
kinds-end kinds at left le = at_drop_all (λ ks. lines_of_kinds ks left) kinds at le
