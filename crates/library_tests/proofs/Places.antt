-- The threads that a core does not have.
use Rattle.std.proofs.Common.{◌≡◌, ◌≢◌, ℕ, List, [], ◌∷◌, true, sym, subst, Result, Ok, Err}
use Rattle.std.specs.Prelude.{OnOk, is_ok}
use Rattle.std.proofs.lemmas.List.Elements.{All-append, All-cons, All-nil}
use Rattle.sm_types.specs.declared.config.Config.{Config}
use Rattle.core_unit.specs.CoreState.{CoreState, IsAbsent, empty_core, with_last}
use Rattle.core_unit.specs.Held.{Held}

-- what holds with Ok
pub where_ok : {A E : Type 0} (r : Result A E) (P : Type 0) → is_ok r ≡ true → OnOk r P → P
where_ok (Ok a) P is h = h
where_ok (Err e) P is h = cc

module _ {T : Type 0} where
  pub absent_first : (number : ℕ) (config : Config) (c : CoreState T) (t : ℕ) → c ≡ empty_core number config → IsAbsent t c
  absent_first number config c t is =
      subst (IsAbsent t) (sym is)
      (record { resident = All-nil (λ (h : Held T). h.guest.number ≢ t); stopped = All-nil (λ (h : Held T). h.guest.number ≢ t) })

  pub absent_more : (h : Held T) (old new : CoreState T) (t : ℕ) → new ≡ with_last h old → h.guest.number ≢ t → IsAbsent t old
      → IsAbsent t new
  absent_more h old new t is other a =
      subst (IsAbsent t) (sym is)
      (record {
        resident =
            All-append (λ (x : Held T). x.guest.number ≢ t) old.residents (h ∷ []) a.resident
            (All-cons (λ (x : Held T). x.guest.number ≢ t) h [] other (All-nil (λ (x : Held T). x.guest.number ≢ t)));
        stopped = a.stopped;
      })
