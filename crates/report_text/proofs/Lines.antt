-- The lines of a state, kind by kind.
use Rattle.std.proofs.Common.{◌≡◌, ℕ, ◌+◌, ◌<◌, ◌≤◌, ◌++◌, List, [], ◌∷◌, length, drop, get_or, ap, sym, ◌∙◌, Result}
use Rattle.std.proofs.lemmas.List.{at_drop_more, at_drop_all}
use Rattle.edge_io.specs.Pieces.{Gathered, Gathers}
use Rattle.edge_io.specs.declared.sink.PutFault.{PutFault}
use Rattle.edge_io.proofs.Gathering.{as_text, and_end}
use Rattle.kernel_contexts.specs.State.{State}
use Rattle.text_lines.specs.Forms.{name_of}
use Rattle.text_lines.specs.Rows.{Row, row_text, rows_text}
use Rattle.text_lines.specs.declared.forms.LineKind.{LineKind}
use Rattle.report_text.specs.State.{rows_of, lines_text}

-- those of the first kind that is left
pub lines_text-at : (s : State) (kinds : List LineKind) (i : ℕ) (d : LineKind) → i < length kinds
    → lines_text s (drop i kinds)
    ≡ rows_text (name_of (get_or kinds i d)) (rows_of s (get_or kinds i d)) ++ lines_text s (drop (i + 1) kinds)
unfolding lines_text
lines_text-at s kinds i d h = at_drop_more (lines_text s) kinds i d h

-- no kind is left
pub lines_text-end : (s : State) (kinds : List LineKind) (i : ℕ) → length kinds ≤ i → lines_text s (drop i kinds) ≡ []
unfolding lines_text
lines_text-end s kinds i h = at_drop_all (lines_text s) kinds i h

-- the lines of a kind that is known
pub kind_text : (s : State) (kind known : LineKind) → kind ≡ known
    → rows_text (name_of known) (rows_of s known) ≡ rows_text (name_of kind) (rows_of s kind)
kind_text s kind known is = ap (λ (k : LineKind). rows_text (name_of k) (rows_of s k)) (sym is)

-- the one line of a kind
pub one_line : {a b : Gathered} {r : Result Unit PutFault} (s : State) (kind known : LineKind) (row : Row) → kind ≡ known
    → rows_of s known ≡ row ∷ [] → Gathers a b r (row_text (name_of known) row)
    → Gathers a b r (rows_text (name_of kind) (rows_of s kind))
unfolding rows_text
one_line s kind known row is one h =
    as_text (ap (λ (rows : List Row). rows_text (name_of known) rows) (sym one) ∙ kind_text s kind known is) (and_end h)
