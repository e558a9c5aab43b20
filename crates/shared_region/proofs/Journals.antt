-- The next event of a journal.
use Rattle.std.proofs.Common.{◌≡◌, ℕ, zero, suc, ◌+◌, ◌≤◌, List, [], ◌∷◌, ◌++◌, length, take, drop, refl}
use Rattle.std.proofs.Common.{sym, ap, ◌∙◌, arith, add-one}
use Rattle.std.specs.Prelude.{Option, Some, None, slice_get}
use Rattle.std.proofs.lemmas.Option.{same_Some, none-some, slice_get_within}
use Rattle.plain_lemmas.proofs.Lists.{cons_inj_left, take-suc_at}
use Rattle.sm_types.specs.declared.shared_op.SharedOp.{SharedOp}
use Rattle.sm_types.specs.declared.shared_op.Event.{Event}
use Rattle.shared_region.specs.Ports.{ReplayEvents, IsAtEnd, Strays, ReplayGives}
use Rattle.shared_region.specs.History.{event_of, entry_of}

-- none is left past the end
pub none_ahead : (journal : List Event) (place : ℕ) → slice_get journal place ≡ None → drop place journal ≡ []
none_ahead [] zero at = refl
none_ahead [] (suc i) at = refl
none_ahead (x ∷ xs) zero at = absurd (none-some x (sym at))
none_ahead (x ∷ xs) (suc i) at = none_ahead xs i at

-- the next one is the first that is left
pub next_ahead : (journal : List Event) (place : ℕ) (next : Event) → slice_get journal place ≡ Some next
    → drop place journal ≡ next ∷ drop (suc place) journal
next_ahead [] place next at = absurd (none-some next at)
next_ahead (x ∷ xs) zero next at = ap (λ (y : Event). y ∷ xs) (same_Some x next at)
next_ahead (x ∷ xs) (suc i) next at = next_ahead xs i next at

-- what a ticket tells
abbrev pub told : ℕ → List Event → ℕ → ReplayEvents
told thread journal place = record { thread = thread; answered = take place journal; ahead = drop place journal }

-- a ticket of which an event was found to be the next one
pub record IsNext (t : ReplayEvents) (journal : List Event) (place : ℕ) (next : Event) : Type 0 where
  pub ahead : t.ahead ≡ next ∷ drop (place + 1) journal
  pub answered : take (place + 1) journal ≡ t.answered ++ next ∷ []
  pub inside : place + 1 ≤ length journal

pub is_next : (t : ReplayEvents) (thread : ℕ) (journal found : List Event) (place : ℕ) (o : Option Event) (next : Event)
    → told thread journal place ≡ t → found ≡ journal → o ≡ slice_get found place → o ≡ Some next → IsNext t journal place next
is_next t thread journal found place o next view same looked is =
    let at : slice_get journal place ≡ Some next = ap (λ (l : List Event). slice_get l place) (sym same) ∙ sym looked ∙ is in
    let within = slice_get_within journal place next at in
    record {
      ahead = rw (add-one place) (ap (λ (u : ReplayEvents). u.ahead) (sym view) ∙ next_ahead journal place next at);
      answered = rw (add-one place) (take-suc_at journal place next at ∙ ap (λ (u : ReplayEvents). u.answered ++ next ∷ []) view);
      inside = omega (arith, within);
    }

pub is_at_end : (t : ReplayEvents) (thread : ℕ) (journal found : List Event) (place : ℕ) (o : Option Event)
    → told thread journal place ≡ t → found ≡ journal → o ≡ slice_get found place → o ≡ None → IsAtEnd t
is_at_end t thread journal found place o view same looked is =
    ap (λ (u : ReplayEvents). u.ahead) (sym view)
    ∙ none_ahead journal place (ap (λ (l : List Event). slice_get l place) (sym same) ∙ sym looked ∙ is)

not_both : (e : Event) (es : List Event) → [] ≡ e ∷ es → ⊥
not_both e es p = cc

same_op : (x y : Event) (xs ys : List Event) → x ∷ xs ≡ y ∷ ys → x.op ≡ y.op
same_op x y xs ys p = ap (λ (e : Event). e.op) (cons_inj_left x y xs ys p)

-- a ticket whose next event has that operation is neither at its end nor astray
pub goes_on : (t : ReplayEvents) (journal : List Event) (place : ℕ) (next : Event) (op : SharedOp)
    → IsNext t journal place next → next.op ≡ op → (IsAtEnd t → ⊥) × (Strays t op → ⊥)
goes_on t journal place next op h same = (
  λ ends. not_both next (drop (place + 1) journal) (sym ends ∙ h.ahead),
  λ strays. strays.differs (same_op strays.next next strays.others _ (sym strays.ahead ∙ h.ahead) ∙ same),
)

-- it gives its event, and the journal stays
pub gives_next : (t : ReplayEvents) (thread other : ℕ) (journal : List Event) (place : ℕ) (next : Event) (op : SharedOp)
    → IsNext t journal place next → next.op ≡ op → ReplayGives t (entry_of thread op next.answer) (told other journal (place + 1))
gives_next t thread other journal place next op h same = record {
  ahead = h.ahead ∙ ap (λ (o : SharedOp). event_of o next.answer ∷ drop (place + 1) journal) same;
  answered = h.answered ∙ ap (λ (o : SharedOp). t.answered ++ event_of o next.answer ∷ []) same;
}
