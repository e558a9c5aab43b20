-- What the maker's seat tells of numbers, before and after the seat of a thread was out.
use Rattle.std.proofs.Common.{◌≡◌, ◌≢◌, ℕ, zero, suc, ◌<◌, ◌≤◌, List, [], ◌∷◌, set, get_or, replicate, refl, sym, ap, ◌∙◌, arith}
use Rattle.std.specs.Prelude.{Some}
use Rattle.std.proofs.lemmas.List.{get_or-set_other}
use Rattle.std.proofs.lemmas.Option.{none-some, same_Some}
use native.Mathlib.Decide.{ℕ_discrete}
use Rattle.sm_types.specs.declared.shared_op.Event.{Event}
use Rattle.shared_table.specs.declared.view.Told.{Told}
use Rattle.shared_table.specs.declared.view.Told.TheVariants.{Never, Out, Back}
use Rattle.shared_table.specs.declared.view.SeatView.{SeatView}
use Rattle.shared_table.specs.declared.view.SeatView.TheVariants.{Maker, Thread, Spent}
use Rattle.shared_table.specs.Views.{new_book, told, thread_in, book_in, with_split, with_joined}
use Rattle.shared_table.proofs.Views.{never_new, never_out}

never_in_new : (n t : ℕ) → t < n → get_or (replicate n Never) t Out ≡ Never
never_in_new zero t lt = absurd (omega arith)
never_in_new (suc n) zero lt = refl
never_in_new (suc n) (suc t) lt = never_in_new n t (omega arith)

-- a new table's maker's seat has given no number
pub fresh_new : (v : SeatView) → v ≡ Maker new_book → (t : ℕ) → 0 ≤ t → t < 32 → get_or (book_in v) t Out ≡ Never
unfolding new_book
fresh_new v is t past lt = ap (λ w. get_or (book_in w) t Out) is ∙ never_in_new 32 t lt

-- so where no other number is out than before, none is
pub none_out : (before after : SeatView) → before ≡ Maker new_book
    → ((u : ℕ) → told (book_in after) u ≡ Out → told (book_in before) u ≡ Out) → (u : ℕ) → told (book_in after) u ≡ Out → ⊥
unfolding new_book
none_out before after is between u out =
    never_out (sym (never_new 32 u) ∙ (ap (λ v. told (book_in v) u) (sym is) ∙ between u out))

back_here : (book : List Told) (t : ℕ) (events : List Event) → get_or (set book t (Back events)) t Never ≢ Out
back_here [] t events out = cc
back_here (x ∷ xs) zero events out = cc
back_here (x ∷ xs) (suc t) events out = back_here xs t events out

back_at : (given now : List Told) (t : ℕ) (events : List Event) (u : ℕ) → Dec (u ≡ t)
    → (told now u ≡ Out → told (set given t Out) u ≡ Out) → told (set now t (Back events)) u ≡ Out → told given u ≡ Out
back_at given now t events u (yes is) between out =
    absurd (back_here now t events (ap (told (set now t (Back events))) (sym is) ∙ out))
back_at given now t events u (no ne) between out =
    sym (get_or-set_other given t u Out Never ne) ∙ between (sym (get_or-set_other now t u (Back events) Never ne) ∙ out)

-- once the seat of a thread that was split is joined again, no other number is out than before
pub none_more_out : (before given now after other : SeatView) (t : ℕ) → given ≡ with_split t before
    → thread_in other ≡ Some t → after ≡ with_joined now other
    → ((u : ℕ) → told (book_in now) u ≡ Out → told (book_in given) u ≡ Out)
    → (u : ℕ) → told (book_in after) u ≡ Out → told (book_in before) u ≡ Out
none_more_out before given now after (Thread thread events) t split is joined between u out =
    let same : thread ≡ t = same_Some thread t is in
    let at_t : told (set (book_in now) t (Back events)) u ≡ Out =
    ap (λ n. told (set (book_in now) n (Back events)) u) (sym same) ∙ (ap (λ v. told (book_in v) u) (sym joined) ∙ out) in
    back_at (book_in before) (book_in now) t events u (ℕ_discrete u t)
    (λ o. ap (λ v. told (book_in v) u) (sym split) ∙ between u o) at_t
none_more_out before given now after (Maker book) t split is joined between u out = absurd (none-some t is)
none_more_out before given now after Spent t split is joined between u out = absurd (none-some t is)
