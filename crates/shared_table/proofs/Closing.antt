-- A new table meets the rule, and what a closed one says.
use Rattle.std.proofs.Common.{◌≡◌, ◌≢◌, ℕ, zero, suc, ◌+◌, ◌<◌, List, [], ◌∷◌, ◌++◌, length, map, set, get_or, take, drop}
use Rattle.std.proofs.Common.{replicate, refl, sym, ap, ◌∙◌, subst, zero-add, suc-add, arith}
use Rattle.std.specs.Prelude.{Some, All, slice_get}
use Rattle.std.proofs.lemmas.List.{take_more_set, take_more, length-map, length-replicate}
use Rattle.std.proofs.lemmas.List.Elements.{All-nil}
use Rattle.std.proofs.lemmas.Option.{none-some, same_Some}
use mathlib.Core.Option.{some, some-injective, some-ne-none}
use lib.ListN.{get_elem?}
use Rattle.atomic_table.specs.Table.{Final, Seen}
use Rattle.sm_types.specs.declared.shared_op.Event.{Event}
use Rattle.sm_types.specs.declared.shared_words.Entry.{Entry}
use Rattle.sm_types.specs.declared.shared_words.Words.{Words}
use Rattle.shared_region.specs.History.{words_after, ends_in, part_of, AreOneHistory}
use Rattle.shared_table.specs.declared.view.Told.{Told}
use Rattle.shared_table.specs.declared.view.Told.TheVariants.{Never, Out, Back}
use Rattle.shared_table.specs.declared.view.SeatView.{SeatView}
use Rattle.shared_table.specs.declared.view.SeatView.TheVariants.{Maker, Thread, Spent}
use Rattle.shared_table.specs.Views.{new_book, told, list_of, book_in}
use Rattle.shared_table.specs.Rule.{Agrees, Fits, IsKept, Holds}
use Rattle.shared_table.proofs.Cells.{end_lengths, zero_cells, cells_parts}
use Rattle.shared_table.proofs.Views.{each_snoc, never_new}

-- zeros, no entry, and a maker's seat that has given no number
pub opens : IsKept (replicate 544 0) (Maker new_book ∷ [])
unfolding new_book part_of words_after
opens = record {
  history = [];
  book = new_book;
  owner = λ t. 0;
  legal = λ i e at. absurd (none-some e at);
  ends = zero_cells;
  small = All-nil (λ (x : Entry). x.thread < 32);
  long = length-replicate 32 Never;
  agrees = λ t. subst (λ (k : Told). Agrees k []) (sym (never_new 32 t)) refl;
  fits = each_snoc (Fits [] new_book (λ t. 0)) [] (Maker new_book) (refl, refl) (λ j u at. absurd (some-ne-none u (sym at)));
}

-- of a thread that has no seat, the book keeps the events
known_list : (known : Told) (events : List Event) → known ≢ Out → Agrees known events → events ≡ list_of known
known_list Never events back agrees = agrees
known_list Out events back agrees = absurd (back refl)
known_list (Back k) events back agrees = agrees

list_at : (book : List Told) (t : ℕ) (journal : List Event) → slice_get (map list_of book) t ≡ Some journal
    → list_of (told book t) ≡ journal
list_at [] t journal at = absurd (none-some journal at)
list_at (x ∷ xs) zero journal at = same_Some (list_of x) journal at
list_at (x ∷ xs) (suc t) journal at = list_at xs t journal at

-- once all seats are back, the lists in the maker's book and the words that were copied are one history
pub closes : (id : ℕ) (v : SeatView) (words slots : List ℕ) (into : Words) → v ≡ Maker (book_in v)
    → ((t : ℕ) → told (book_in v) t ≢ Out) → Final (Seen Holds id v) words slots
    → into.shared ≡ take 512 words → into.pending ≡ take 32 (drop 512 words) → AreOneHistory (map list_of (book_in v)) into
closes id (Maker book) words slots into is back final shared pending =
    let kept = final.1.0 in
    let mine : Fits kept.history kept.book kept.owner id (Maker book) = kept.fits id (Maker book) final.1.1 in
    let long : length (map list_of book) ≡ 32 = length-map book list_of ∙ ap length mine.1 ∙ kept.long in
    record {
      history = kept.history;
      legal = kept.legal;
      ends = cells_parts (ends_in kept.history) into words (end_lengths kept.history) (kept.ends ∙ final.2) shared pending;
      parts = λ t journal at.
          known_list (told book t) (part_of t kept.history) (back t)
          (subst (λ (b : List Told). Agrees (told b t) (part_of t kept.history)) (sym mine.1) (kept.agrees t))
          ∙ list_at book t journal at;
      alone = subst (λ (n : ℕ). All (λ (x : Entry). x.thread < n) kept.history) (sym long) kept.small;
    }
closes id (Thread t events) words slots into is back final shared pending = absurd (cc)
closes id Spent words slots into is back final shared pending = absurd (cc)

found_at : (l : List ℕ) (i x : ℕ) → get_elem? l i ≡ some x → (i < length l) × (get_or l i 0 ≡ x)
found_at [] i x at = absurd (some-ne-none x (sym at))
found_at (y ∷ ys) zero x at = (omega arith, some-injective y x at)
found_at (y ∷ ys) (suc i) x at = let r = found_at ys i x at in (omega arith, r.1)

found_past : (l : List ℕ) (from i x : ℕ) → get_elem? l (from + i) ≡ some x → get_elem? (drop from l) i ≡ some x
found_past l zero i x at = ap (get_elem? l) (sym (zero-add i)) ∙ at
found_past [] (suc from) i x at = absurd (some-ne-none x (sym at))
found_past (y ∷ ys) (suc from) i x at = found_past ys from i x (ap (get_elem? (y ∷ ys)) (sym (suc-add from i)) ∙ at)

-- one more word is copied
pub copies : (into words : List ℕ) (from i x : ℕ) → i < length into → get_elem? words (from + i) ≡ some x
    → take i into ≡ take i (drop from words) → take (i + 1) (set into i x) ≡ take (i + 1) (drop from words)
copies into words from i x lt is same =
    let r = found_at (drop from words) i x (found_past words from i x is) in
    let grown : take i (drop from words) ++ x ∷ [] ≡ take (i + 1) (drop from words) =
    ap (λ y. take i (drop from words) ++ y ∷ []) (sym r.1) ∙ sym (take_more (drop from words) i 0 r.0) in
    take_more_set into i x lt ∙ (ap (λ l. l ++ x ∷ []) same ∙ grown)
