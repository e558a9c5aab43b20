-- A step that makes an operation keeps the rule.
use Rattle.std.proofs.Common.{◌≡◌, ◌≢◌, ℕ, ◌<◌, List, [], ◌∷◌, ◌++◌, set, refl, sym, ap, ◌∙◌, subst}
use Rattle.std.specs.Prelude.{Some, slice_index, slice_set}
use Rattle.std.proofs.lemmas.List.Elements.{All-append, All-cons, All-nil}
use Rattle.std.proofs.lemmas.Option.{none-some}
use mathlib.Core.Option.{some}
use native.Mathlib.Decide.{ℕ_discrete}
use lib.ListN.{get_elem?}
use Rattle.atomic_table.specs.Table.{Me, keeps, Allows}
use Rattle.sm_types.specs.declared.shared_op.OpKind.TheVariants.{Store}
use Rattle.sm_types.specs.declared.shared_op.SharedOp.{SharedOp}
use Rattle.sm_types.specs.declared.shared_op.Event.{Event}
use Rattle.sm_types.specs.declared.shared_words.Entry.{Entry}
use Rattle.shared_region.specs.WordRule.{HasWord, new_word, answer_of, zero_words}
use Rattle.shared_region.specs.History.{event_of, entry_of, ends_in, part_of}
use Rattle.shared_region.proofs.Growth.{words_after-snoc, answers-snoc, part-snoc_here, part-snoc_else}
use Rattle.shared_table.specs.declared.view.Told.{Told}
use Rattle.shared_table.specs.declared.view.Told.TheVariants.{Out}
use Rattle.shared_table.specs.declared.view.SeatView.{SeatView}
use Rattle.shared_table.specs.declared.view.SeatView.TheVariants.{Maker, Thread, Spent}
use Rattle.shared_table.specs.Cells.{cells_of, cell_of}
use Rattle.shared_table.specs.Views.{told, thread_in, with_event}
use Rattle.shared_table.specs.Rule.{Agrees, Fits, IsKept, Holds, Logged}
use Rattle.shared_table.proofs.Cells.{end_lengths, cell_applied, cell_answer}
use Rattle.shared_table.proofs.Views.{each_set, out_in}

-- another seat's view fits the history with one more entry
fits_more : (history : List Entry) (book : List Told) (owner : ℕ → ℕ) (id : ℕ) (e : Entry) (j : ℕ) (u : SeatView)
    → owner e.thread ≡ id → j ≢ id → Fits history book owner j u → Fits (history ++ e ∷ []) book owner j u
fits_more history book owner id e j (Maker known) own apart fit = fit
fits_more history book owner id e j (Thread t events) own apart fit =
    (fit.0, fit.1, part-snoc_else t history e (λ is. apart (sym fit.0 ∙ (ap owner (sym is) ∙ own))) ∙ fit.2)
fits_more history book owner id e j Spent own apart fit = tt

-- the book, which tells nothing of the events of a thread that has a seat, agrees with one more entry of such a thread
agrees_more : (known : Told) (history : List Entry) (e : Entry) (t : ℕ) → Dec (e.thread ≡ t) → (e.thread ≡ t → known ≡ Out)
    → Agrees known (part_of t history) → Agrees known (part_of t (history ++ e ∷ []))
agrees_more known history e t (yes is) out fit =
    subst (λ (k : Told). Agrees k (part_of t (history ++ e ∷ []))) (sym (out is)) tt
agrees_more known history e t (no ne) out fit =
    subst (λ (l : List Event). Agrees known l) (sym (part-snoc_else t history e ne)) fit

-- the history gets the operation of a thread with a seat, and the seat's list too
grown : (id t : ℕ) (events : List Event) (op : SharedOp) (words : List ℕ) (views : List SeatView) → HasWord op → IsKept words views
    → get_elem? views id ≡ some (Thread t events)
    → IsKept (slice_set words (cell_of op) (new_word op.kind op.a op.b (slice_index words (cell_of op))))
    (set views id (Thread t (events ++ event_of op (answer_of op.kind (slice_index words (cell_of op))) ∷ [])))
grown id t events op words views has kept at =
    let mine : Fits kept.history kept.book kept.owner id (Thread t events) = kept.fits id (Thread t events) at in
    let answer = answer_of op.kind (slice_index words (cell_of op)) in
    let e = entry_of t op answer in
    let long = end_lengths kept.history in
    let small : t < 32 = subst (λ n. t < n) kept.long (out_in kept.book t mine.1) in
    let Small : Entry → Type 0 = λ x. x.thread < 32 in
    record {
      history = kept.history ++ e ∷ [];
      book = kept.book;
      owner = kept.owner;
      legal = answers-snoc zero_words kept.history e kept.legal (cell_answer (ends_in kept.history) words op long has kept.ends);
      ends = ap cells_of (words_after-snoc zero_words kept.history e)
          ∙ sym (cell_applied (ends_in kept.history) words op long has kept.ends);
      small = All-append Small kept.history (e ∷ []) kept.small (All-cons Small e [] small (All-nil Small));
      long = kept.long;
      agrees = λ u.
          agrees_more (told kept.book u) kept.history e u (ℕ_discrete t u) (λ is. ap (told kept.book) (sym is) ∙ mine.1)
          (kept.agrees u);
      fits = each_set (Fits (kept.history ++ e ∷ []) kept.book kept.owner) views id (Thread t (events ++ event_of op answer ∷ []))
          (mine.0, mine.1, part-snoc_here t kept.history e refl ∙ ap (λ l. l ++ event_of op answer ∷ []) mine.2)
          (λ j u apart a. fits_more kept.history kept.book kept.owner id e j u mine.0 apart (kept.fits j u a));
    }

does : (slots id : ℕ) (v : SeatView) (t : ℕ) (op : SharedOp) (f : ℕ → ℕ) → thread_in v ≡ Some t → HasWord op
    → ((old : ℕ) → new_word op.kind op.a op.b old ≡ f old) → Allows Holds slots id (v, []) (cell_of op) f (Logged op (v, []))
does slots id (Thread u events) t op f number has is = λ s kept many at lt.
    let after : SeatView = Thread u (events ++ event_of op (answer_of op.kind (slice_index s.words (cell_of op))) ∷ []) in (
      after,
      keeps,
      tt,
      subst (λ (n : ℕ). IsKept (set s.words (cell_of op) n) (set s.views id after)) (is (slice_index s.words (cell_of op)))
          (grown id u events op s.words s.views has kept at),
      refl,
    )
does slots id (Maker book) t op f number has is = absurd (none-some t number)
does slots id Spent t op f number has is = absurd (none-some t number)

-- the step that changes the operation's cell as the word rule says makes the operation
pub does_at : (slots id : ℕ) (me : Me ℕ SeatView) (t : ℕ) (op asked : SharedOp) (i : ℕ) (f : ℕ → ℕ)
    → me.1 ≡ [] → thread_in me.0 ≡ Some t → asked ≡ op → HasWord op → i ≡ cell_of op
    → ((old : ℕ) → new_word op.kind op.a op.b old ≡ f old) → Allows Holds slots id me i f (Logged asked me)
does_at slots id me t op asked i f bare number same has place is =
    let all : Allows Holds slots id (me.0, []) (cell_of op) f (Logged op (me.0, [])) = does slots id me.0 t op f number has is in
    let P : Me ℕ SeatView → SharedOp → ℕ → Type 0 = λ m o j. Allows Holds slots id m j f (Logged o m) in
    subst (λ (j : ℕ). P me asked j) (sym place)
    (subst (λ (o : SharedOp). P me o (cell_of op)) (sym same)
    (subst (λ (m : Me ℕ SeatView). P m op (cell_of op)) (λ k. (me.0, sym bare k)) all))

-- a store finds nothing out, and answers 0
pub stores_at : (slots id : ℕ) (me : Me ℕ SeatView) (t : ℕ) (op asked : SharedOp) (i new : ℕ)
    → me.1 ≡ [] → thread_in me.0 ≡ Some t → asked ≡ op → HasWord op → i ≡ cell_of op → op.kind ≡ Store → new ≡ op.a
    → Allows Holds slots id me i (λ _. new) (λ _. Logged asked me new)
stores_at slots id me t op asked i new bare number same has place store is =
    let all = does_at slots id me t op asked i (λ _. new) bare number same has place
    (λ old. ap (λ k. new_word k op.a op.b old) store ∙ sym is) in
    let none : (n : ℕ) → answer_of asked.kind n ≡ 0 =
    λ n. ap (λ (o : SharedOp). answer_of o.kind n) same ∙ ap (λ k. answer_of k n) store in
    λ s kept many at lt.
    let r = all s kept many at lt in
    let told = ap (λ (n : ℕ). (with_event me.0 (event_of asked n), me.1)) (none (slice_index s.words i) ∙ sym (none new)) in
    (r.0, r.1, r.2, r.3, r.4 ∙ told)
