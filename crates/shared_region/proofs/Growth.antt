-- One more entry at the end of a history.
use Rattle.std.proofs.Common.{◌≡◌, ◌≢◌, ℕ, zero, suc, ◌<◌, cond, List, [], ◌∷◌, ◌++◌}
use Rattle.std.proofs.Common.{length, map, refl, sym, ap, ◌∙◌, subst, eq-eqb, ne_eqb}
use Rattle.std.specs.Prelude.{◌==◌, Some, filter, slice_get, slice_set}
use Rattle.std.proofs.lemmas.List.{map-append, length-set, append-nil}
use Rattle.std.proofs.lemmas.List.Elements.{filter-append, All-append, All-cons, All-nil}
use Rattle.std.proofs.lemmas.Option.{slice_get_within, same_Some, none-some}
use mathlib.Core.Logic.{dite}
use native.Mathlib.Decide.{ℕ_discrete}
use Rattle.sm_types.specs.declared.shared_op.SharedOp.{SharedOp}
use Rattle.sm_types.specs.declared.shared_op.Event.{Event}
use Rattle.sm_types.specs.declared.shared_words.Entry.{Entry}
use Rattle.sm_types.specs.declared.shared_words.Words.{Words}
use Rattle.shared_region.specs.WordRule.{applied, answer_to, zero_words}
use Rattle.shared_region.specs.History.{event_of, entry_of, words_after, AnswersFrom, part_of}
use Rattle.shared_region.specs.History.{AreOneHistory}

pub words_after-snoc : (w : Words) (es : List Entry) (e : Entry) → words_after w (es ++ e ∷ []) ≡ applied (words_after w es) e.event.op
unfolding words_after
words_after-snoc w [] e = refl
words_after-snoc w (x ∷ es) e = words_after-snoc (applied w x.event.op) es e

pub answers-snoc : (w : Words) (es : List Entry) (e : Entry)
    → AnswersFrom w es → e.event.answer ≡ answer_to (words_after w es) e.event.op → AnswersFrom w (es ++ e ∷ [])
unfolding words_after
answers-snoc w [] e h is zero x at = subst (λ (y : Entry). y.event.answer ≡ answer_to w y.event.op) (same_Some e x at) is
answers-snoc w [] e h is (suc i) x at = absurd (none-some x at)
answers-snoc w (y ∷ ys) e h is zero x at = h zero x at
answers-snoc w (y ∷ ys) e h is (suc i) x at = answers-snoc (applied w y.event.op) ys e (λ j z p. h (suc j) z p) is i x at

pub part-snoc_here : (t : ℕ) (es : List Entry) (e : Entry) → e.thread ≡ t → part_of t (es ++ e ∷ []) ≡ part_of t es ++ e.event ∷ []
unfolding part_of
part-snoc_here t es e is =
    ap (map (λ (x : Entry). x.event)) (filter-append (λ (x : Entry). x.thread == t) es (e ∷ []))
    ∙ map-append (λ (x : Entry). x.event) (filter (λ (x : Entry). x.thread == t) es) (filter (λ (x : Entry). x.thread == t) (e ∷ []))
    ∙ ap (λ b. map (λ (x : Entry). x.event) (filter (λ (x : Entry). x.thread == t) es)
    ++ map (λ (x : Entry). x.event) (cond b (e ∷ []) [])) (eq-eqb _ _ is)

pub part-snoc_else : (t : ℕ) (es : List Entry) (e : Entry) → e.thread ≢ t → part_of t (es ++ e ∷ []) ≡ part_of t es
unfolding part_of
part-snoc_else t es e apart =
    ap (map (λ (x : Entry). x.event)) (filter-append (λ (x : Entry). x.thread == t) es (e ∷ [])
    ∙ ap (λ b. filter (λ (x : Entry). x.thread == t) es ++ cond b (e ∷ []) []) (ne_eqb _ _ apart)
    ∙ append-nil _)

pub set_same : {A : Type 0} (xs : List A) (i : ℕ) (x y : A) → slice_get xs i ≡ Some y → slice_get (slice_set xs i x) i ≡ Some x
set_same [] i x y at = absurd (none-some y at)
set_same (z ∷ xs) zero x y at = refl
set_same (z ∷ xs) (suc i) x y at = set_same xs i x y at

pub set_other : {A : Type 0} (xs : List A) (i j : ℕ) (x : A) → j ≢ i → slice_get (slice_set xs i x) j ≡ slice_get xs j
set_other [] i j x ne = refl
set_other (z ∷ xs) zero zero x ne = absurd (ne refl)
set_other (z ∷ xs) zero (suc j) x ne = refl
set_other (z ∷ xs) (suc i) zero x ne = refl
set_other (z ∷ xs) (suc i) (suc j) x ne = set_other xs i j x (λ e. ne (ap suc e))

pub begins : (journals : List (List Event))
    → ((t : ℕ) (journal : List Event) → slice_get journals t ≡ Some journal → journal ≡ [])
    → AreOneHistory journals zero_words
unfolding words_after part_of
begins journals empty = record {
  history = [];
  legal = λ i e at. absurd (none-some e at);
  ends = refl;
  parts = λ t journal at. sym (empty t journal at);
  alone = All-nil (λ (x : Entry). x.thread < length journals);
}

pub grows : (journals : List (List Event)) (words : Words) (t : ℕ) (journal : List Event) (op : SharedOp)
    → AreOneHistory journals words → slice_get journals t ≡ Some journal
    → AreOneHistory (slice_set journals t (journal ++ event_of op (answer_to words op) ∷ [])) (applied words op)
grows journals words t journal op h at =
    let event = event_of op (answer_to words op) in
    let e = entry_of t op (answer_to words op) in
    let longer = slice_set journals t (journal ++ event ∷ []) in
    record {
      history = h.history ++ e ∷ [];
      legal = answers-snoc zero_words h.history e h.legal (ap (λ w. answer_to w op) (sym h.ends));
      ends = words_after-snoc zero_words h.history e ∙ ap (λ w. applied w op) h.ends;
      parts = λ u j there. dite (ℕ_discrete u t)
          (λ (is : u ≡ t).
          part-snoc_here u h.history e (sym is)
          ∙ ap (λ l. l ++ event ∷ []) (h.parts u journal (ap (slice_get journals) is ∙ at))
          ∙ same_Some _ _ (sym (ap (slice_get longer) is ∙ set_same journals t (journal ++ event ∷ []) journal at) ∙ there))
          (λ (ne : u ≢ t).
          part-snoc_else u h.history e (λ same. ne (sym same))
          ∙ h.parts u j (sym (set_other journals t u (journal ++ event ∷ []) ne) ∙ there));
      alone = rw (length-set journals t (journal ++ event ∷ []))
          (All-append (λ (x : Entry). x.thread < length journals) h.history (e ∷ []) h.alone
          (All-cons (λ (x : Entry). x.thread < length journals) e [] (slice_get_within journals t journal at)
          (All-nil (λ (x : Entry). x.thread < length journals))));
    }
