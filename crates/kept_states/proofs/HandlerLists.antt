-- The handlers of a table as a list.
use Rattle.std.proofs.Common.{◌≡◌, ◌≢◌, ℕ, zero, suc, ◌+◌, ◌<◌, ◌≤◌, ◌==◌, true, false, cond, List, [], ◌∷◌, ◌++◌, length, get_or, drop}
use Rattle.std.proofs.Common.{All}
use Rattle.std.proofs.Common.{refl, ap, sym, ◌∙◌, subst, arith, Option, Some, None, inl, inr, slice_get, ◌⊎◌}
use Rattle.std.specs.Prelude.{map}
use Rattle.std.specs.FinMap.{entries}
use Rattle.std.proofs.lemmas.Bool.{cases_Bool}
use Rattle.std.proofs.lemmas.Bool.Decides.{nat_tests}
use Rattle.std.proofs.lemmas.List.{drop_more, drop_all, append-nil, map_push, append_assoc, length_push}
use Rattle.std.proofs.lemmas.Option.{same_Some, slice_get_within, get_or_from_slice_get}
use Rattle.std.proofs.lemmas.List.Elements.{All-push}
use Rattle.kernel_contexts.specs.Handlers.{is_signal}
use Rattle.kernel_contexts.specs.HandlerTable.{handlers_of, set_from}
use Rattle.kernel_contexts.specs.LooseState.{IsHandler, AreHandlers, handler_entry}
use Rattle.kernel_contexts.specs.Watch.{AreOfSignals}
use Rattle.kernel_contexts.specs.declared.loose_state.Handler.{Handler}
use Rattle.kernel_contexts.proofs.HandlerTable.{handlers_in_order, handler_at}

-- the handlers of a table from a number on
abbrev pub rest_from : List ℕ → ℕ → List (ℕ × ℕ)
rest_from addresses signal = set_from signal (drop signal addresses)

rest_more : (addresses : List ℕ) (signal : ℕ) → signal < length addresses → rest_from addresses signal
    ≡ cond (get_or addresses signal 0 == 0) (rest_from addresses (signal + 1))
    ((signal, get_or addresses signal 0) ∷ rest_from addresses (signal + 1))
unfolding set_from
rest_more addresses signal l = ap (set_from signal) (drop_more addresses signal 0 l)

no_address : (a : ℕ) → ◌≡◌ {A = Option ℕ} (cond (a == 0) None (Some a)) None → a ≡ 0
no_address a e = elim (cases_Bool (a == 0)) [
  | inl none ↦ grind (arith, nat_tests)
  | inr some ↦ let clash : ◌≡◌ {A = Option ℕ} (Some a) None = sym (ap (λ b. cond b None (Some a)) some) ∙ e in absurd (cc)
]

-- a table of 63 addresses, of signals alone
pub begins : (addresses : List ℕ) → length addresses ≡ 63 → AreOfSignals (handlers_of addresses)
    → rest_from addresses 1 ≡ entries (handlers_of addresses)
begins addresses count signals =
    let none : get_or addresses 0 0 ≡ 0 = no_address _ (sym (handler_at addresses 0) ∙ signals 0 refl) in
    let zero : (get_or addresses 0 0 == 0) ≡ true = grind (arith, nat_tests) in
    sym (rest_more addresses 0 (omega (arith, count))
    ∙ ap (λ b. cond b (rest_from addresses 1) ((0, get_or addresses 0 0) ∷ rest_from addresses 1)) zero)
    ∙ sym (handlers_in_order addresses)

-- one that has no handler
pub passed_over : (addresses : List ℕ) (signal : ℕ) → signal < length addresses → get_or addresses signal 0 ≡ 0
    → rest_from addresses signal ≡ rest_from addresses (signal + 1)
passed_over addresses signal l none =
    let zero : (get_or addresses signal 0 == 0) ≡ true = grind (arith, nat_tests) in
    rest_more addresses signal l
    ∙ ap (λ b. cond b (rest_from addresses (signal + 1)) ((signal, get_or addresses signal 0) ∷ rest_from addresses (signal + 1))) zero

-- one that has
pub one_more : (addresses : List ℕ) (signal : ℕ) (list more : List Handler) (h : Handler) → signal < length addresses
    → get_or addresses signal 0 ≢ 0 → h ≡ record { signal = signal; address = get_or addresses signal 0 } → more ≡ list ++ h ∷ []
    → map handler_entry list ++ rest_from addresses signal ≡ map handler_entry more ++ rest_from addresses (signal + 1)
one_more addresses signal list more h l set is grown =
    let some : (get_or addresses signal 0 == 0) ≡ false = grind (arith, nat_tests) in
    ap (λ es. map handler_entry list ++ es) (rest_more addresses signal l
    ∙ ap (λ b. cond b (rest_from addresses (signal + 1)) ((signal, get_or addresses signal 0) ∷ rest_from addresses (signal + 1))) some)
    ∙ ap (λ (k : Handler). map handler_entry list ++ handler_entry k ∷ rest_from addresses (signal + 1)) (sym is)
    ∙ sym (append_assoc (map handler_entry list) (handler_entry h ∷ []) (rest_from addresses (signal + 1)))
    ∙ ap (λ es. es ++ rest_from addresses (signal + 1)) (sym (ap (map handler_entry) grown ∙ map_push handler_entry list h))

-- when all are through
pub all_through : (addresses : List ℕ) (signal : ℕ) (list : List Handler) → length addresses ≤ signal
    → map handler_entry list ++ rest_from addresses signal ≡ map handler_entry list
unfolding set_from
all_through addresses signal list past =
    ap (λ l. map handler_entry list ++ set_from signal l) (drop_all signal addresses past) ∙ append-nil (map handler_entry list)

-- ---- the list

none_set : AreHandlers []
none_set = record { each = λ k d l. absurd (omega arith); ascending = λ i j g h l is. cc }

pub no_handlers : (list : List Handler) → list ≡ [] → AreHandlers list
no_handlers list is = subst AreHandlers (sym is) none_set

-- an element of a list with one more is one of the list, or the last
last_or_before : {X : Type 0} (list : List X) (x : X) (k : ℕ) (y : X) → slice_get (list ++ x ∷ []) k ≡ Some y
    → (slice_get list k ≡ Some y) ⊎ ((k ≡ length list) × (y ≡ x))
last_or_before [] x zero y e = inr (refl, sym (same_Some x y e))
last_or_before [] x (suc k) y e = absurd (cc)
last_or_before (z ∷ list) x zero y e = inl e
last_or_before (z ∷ list) x (suc k) y e = elim (last_or_before list x k y e) [
  | inl before ↦ inl before
  | inr last ↦ inr (ap suc last.0, last.1)
]

-- with a handler of a later signal at its end
module _ (list : List Handler) (h : Handler) (good : AreHandlers list) (lower : All (λ g. g.signal < h.signal) list)
    (is : is_signal h.signal ≡ true) (set : 1 ≤ h.address) where
  added_rises : (i j : ℕ) (f g : Handler) → i < j → slice_get (list ++ h ∷ []) i ≡ Some f → slice_get (list ++ h ∷ []) j ≡ Some g
      → f.signal < g.signal
  added_rises i j f g l a b = elim (last_or_before list h i f a) [
    | inl first ↦ elim (last_or_before list h j g b) [
      | inl second ↦ good.ascending i j f g l first second
      | inr last ↦
          let below : f.signal < h.signal =
          subst (λ (x : Handler). x.signal < h.signal) (get_or_from_slice_get list i f f first)
          (lower i f (slice_get_within list i f first)) in
          subst (λ (x : Handler). f.signal < x.signal) (sym last.1) below
    ]
    | inr last ↦
        let inside = slice_get_within (list ++ h ∷ []) j g b in
        let many = length_push list h in
        let place = last.0 in absurd (omega (arith, inside, many, place, l))
  ]

  added_each : All IsHandler (list ++ h ∷ [])
  added_each = All-push IsHandler list h good.each (record { signal = is; address = set })

  pub handler_added : AreHandlers (list ++ h ∷ [])
  handler_added = record { each = added_each; ascending = added_rises }

-- all are lower than a signal further on
pub lower_still : (list : List Handler) (n m : ℕ) → n ≤ m → All (λ g. g.signal < n) list → All (λ g. g.signal < m) list
lower_still list n m l h = λ k d b. let low = h k d b in omega (arith, low, l)

pub lower_added : (list : List Handler) (h : Handler) (n : ℕ) → All (λ g. g.signal < n) list → h.signal ≡ n
    → All (λ g. g.signal < n + 1) (list ++ h ∷ [])
lower_added list h n lower is = All-push (λ g. g.signal < n + 1) list h (lower_still list n (n + 1) (omega arith) lower) (omega (arith, is))
