-- What a whole run comes to.
use Rattle.std.proofs.Common.{◌≡◌, ◌≢◌, ℕ, zero, suc, ◌<◌, ◌≤◌, cond, List, [], ◌∷◌, ◌++◌, map, length, get_or, replicate, refl, sym}
use Rattle.std.proofs.Common.{ap, ◌∙◌, subst, eq-eqb, ne_eqb, arith}
use Rattle.std.specs.Prelude.{◌==◌, Option, Some, All, filter, slice_get}
use Rattle.std.proofs.lemmas.List.Elements.{All-nil, All-cons, All-head, All-tail}
use Rattle.std.proofs.lemmas.Option.{none-some, same_Some}
use mathlib.Core.Logic.{dite}
use native.Mathlib.Decide.{ℕ_discrete, dec_lt}
use Rattle.sm_types.specs.declared.shared_op.Event.{Event}
use Rattle.sm_types.specs.declared.shared_words.Entry.{Entry}
use Rattle.sm_types.specs.declared.shared_words.Words.{Words}
use Rattle.shared_region.specs.History.{part_of, AreOneHistory}
use Rattle.run_queue.specs.declared.origin.Origin.{Origin}
use Rattle.run_queue.specs.Ticketed.{Ticketed}
use Rattle.thread_lists.specs.Counts.{occurrences, once_below}
use Rattle.run_queue.specs.Passes.{known_threads}
use Rattle.run_queue.specs.Rule.{threads_in, AreOf}
use Rattle.smp_runner.specs.Contexts.{HasStopped}

no_part : (t : ℕ) (h : List Entry) → part_of t h ≡ [] → All (λ e. e.thread ≢ t) h
unfolding part_of
no_part t [] none = All-nil (λ (e : Entry). e.thread ≢ t)
no_part t (x ∷ xs) none = dite (ℕ_discrete x.thread t)
    (λ (is : x.thread ≡ t). absurd (some_none x.event _
    (sym (ap (λ b. map (λ (e : Entry). e.event) (cond b (x ∷ filter (λ (e : Entry). e.thread == t) xs)
    (filter (λ (e : Entry). e.thread == t) xs))) (eq-eqb _ _ is)) ∙ none)))
    (λ (ne : x.thread ≢ t). All-cons (λ (e : Entry). e.thread ≢ t) x xs ne (no_part t xs
    (sym (ap (λ b. map (λ (e : Entry). e.event) (cond b (x ∷ filter (λ (e : Entry). e.thread == t) xs)
    (filter (λ (e : Entry). e.thread == t) xs))) (ne_eqb _ _ ne)) ∙ none)))
  where
    some_none : (e : Event) (es : List Event) → e ∷ es ≡ [] → ⊥
    some_none e es p = cc

get_front : (js es : List (List Event)) (t : ℕ) (j : List Event) → slice_get js t ≡ Some j → slice_get (js ++ es) t ≡ Some j
get_front [] es t j at = absurd (none-some j at)
get_front (x ∷ xs) es zero j at = at
get_front (x ∷ xs) es (suc t) j at = get_front xs es t j at

get_rest : (js : List (List Event)) (m t : ℕ) → length js ≤ t → t < length (js ++ replicate m []) → slice_get (js ++ replicate m []) t
    ≡ Some []
get_rest [] zero t le lt = absurd (omega arith)
get_rest [] (suc m) zero le lt = refl
get_rest [] (suc m) (suc t) le lt = get_rest [] m t (omega arith) (omega arith)
get_rest (x ∷ xs) m zero le lt = absurd (omega arith)
get_rest (x ∷ xs) m (suc t) le lt = get_rest xs m t (omega arith) (omega arith)

small : (js : List (List Event)) (m t : ℕ) (part : ℕ → List Event) → Dec (t < length js) → t < length (js ++ replicate m []) →
    (part t ≡ [] → ⊥)
    → ((u : ℕ) → slice_get (js ++ replicate m []) u ≡ Some [] → part u ≡ []) → t < length js
small js m t part (yes lt) all some none = lt
small js m t part (no ge) all some none = absurd (some (none t (get_rest js m t (omega arith) all)))

-- journals that are empty may be left out at the end
pub fewer : (js all : List (List Event)) (m : ℕ) (words : Words) → all ≡ js ++ replicate m [] → AreOneHistory all words → AreOneHistory
    js words
fewer js all m words is h' =
    let h : AreOneHistory (js ++ replicate m []) words = subst (λ (l : List (List Event)). AreOneHistory l words) is h' in
    record {
      history = h.history;
      legal = h.legal;
      ends = h.ends;
      parts = λ t j at. h.parts t j (get_front js (replicate m []) t j at);
      alone = λ i d lt. small js m (get_or h.history i d).thread (λ t. part_of t h.history)
          (dec_lt (get_or h.history i d).thread (length js))
          (h.alone i d lt) (λ none. no_part (get_or h.history i d).thread h.history none i d lt refl) (λ t. h.parts t []);
    }

module _ {X : Type 0} (f : X → Ticketed) where
  threads-map : (t : ℕ) (xs : List X) → occurrences t (threads_in (map f xs)) ≡ occurrences t (map (λ x. (f x).thread) xs)
  threads-map t [] = refl
  threads-map t (x ∷ xs) = let rest = threads-map t xs in omega arith

  -- each thread is there
  pub once_each : (xs : List X) (o : Option Origin) (n : ℕ) → known_threads o ≡ n
      → ((t : ℕ) → occurrences t (threads_in (map f xs)) ≡ once_below t (known_threads o))
      → (t : ℕ) → occurrences t (map (λ x. (f x).thread) xs) ≡ once_below t n
  once_each xs o n is h t = sym (threads-map t xs) ∙ h t ∙ ap (once_below t) is

  unmapped : (F : Ticketed → Type 0) (xs : List X) → All F (map f xs) → All (λ x. F (f x)) xs
  unmapped F [] h = All-nil (λ x. F (f x))
  unmapped F (x ∷ xs) h =
      All-cons (λ y. F (f y)) x xs (All-head F (f x) (map f xs) h) (unmapped F xs (All-tail F (f x) (map f xs) h))

  -- all are from one start
  pub origins : (xs : List X) (known : Option Origin) (o : Origin) → known ≡ Some o → AreOf known (map f xs)
      → All (λ x. (f x).origin ≡ o) xs
  origins xs known o is h = unmapped (λ x. x.origin ≡ o) xs (λ i d lt. same_Some _ _ (h i d lt ∙ is))

  pub all_ended : (xs : List X) → All HasStopped (map f xs) → All (λ x. HasStopped (f x)) xs
  all_ended xs h = unmapped HasStopped xs h
