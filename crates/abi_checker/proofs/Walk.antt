-- The marked calls of a run, from one state to the next.
use Rattle.std.proofs.Common.{inl, inr, ◌≡◌, ℕ, zero, suc, ◌+◌, ◌<◌, ◌≤◌, List, [], ◌∷◌, ◌++◌, length, filter, refl, ap, sym, ◌∙◌}
use Rattle.std.proofs.Common.{arith, subst, Bool, true, false, cond, ◌-◌}
use Rattle.std.specs.Prelude.{not}
use Rattle.std.specs.List.{Contains}
use Rattle.std.proofs.lemmas.List.Filters.{length-filter_both}
use Rattle.std.proofs.lemmas.Bool.{cases_Bool}
use Rattle.std.proofs.lemmas.List.{append-nil, length_push}
use Rattle.std.proofs.lemmas.List.Elements.{Contains-push, Contains-push_cases, Contains-append_left, filter-append}
use Rattle.plain_lemmas.proofs.Numbers.{cases_lt_suc}
use Rattle.kernel_contexts.specs.State.{State}
use Rattle.lazy_saving.specs.Dormant.{Places}
use Rattle.za_routines.specs.Places.{places_of}
use Rattle.abi_checker.specs.Marks.{IsBackFrom}
use Rattle.abi_checker.specs.Numbers.{NumberOf}
use Rattle.abi_checker.specs.Faults.{IsMarkedAt, HasReturned, IsOpen}
use Rattle.abi_checker.specs.Watching.{IsHeld, IsWalked}
use Rattle.abi_checker.specs.declared.open_call.OpenCall.{OpenCall}
use Rattle.abi_checker.proofs.OneMark.{one_mark}

-- the empty list has no element
not_in : (call : OpenCall) → Contains [] call → ⊥
not_in call is = let less : is.0 < 0 = is.1 in omega (arith, less)

module _ (run : ℕ → State) where
  -- there is one place of a marked call
  pub one_place : (k : ℕ) (p q : Places) → IsMarkedAt run p k → IsMarkedAt run q k → p ≡ q
  one_place zero p q h g = absurd h
  one_place (suc k) p q h g = one_mark (run k) (run (suc k)) p q h g

  -- ---- how many have returned, and how many have not

  -- a call that is held has not returned
  held_stays : (n k : ℕ) (call : OpenCall) → IsHeld run n k call → ¬ HasReturned run n k
  held_stays n k call h back =
      let same = one_place k (places_of call.places) back.places h.marked back.return.marked in
      h.never back.at back.return.after back.by
      (subst (λ (p : Places). IsBackFrom p (run k) (run back.at)) (sym same) back.return.back)

  held_open : (n k : ℕ) (call : OpenCall) → IsHeld run n k call → IsOpen run n k
  held_open n k call h = record { places = places_of call.places; marked = h.marked; never = h.never }

  -- a call that has returned is not open
  back_closed : (n k : ℕ) → HasReturned run n k → ¬ IsOpen run n k
  back_closed n k back h =
      let same = one_place k h.places back.places h.marked back.return.marked in
      h.never back.at back.return.after back.by
      (subst (λ (p : Places). IsBackFrom p (run k) (run back.at)) (sym same) back.return.back)

  pub count_open : (n k : ℕ) (calls : List OpenCall) (returned : ℕ) → IsWalked run n k calls returned
      → NumberOf (IsOpen run n) k (length calls)
  count_open n zero calls returned h = ap (λ (l : List OpenCall). length l) h.0
  count_open n (suc k) calls returned (inl h) =
      inl (
        held_open n k h.1 h.3,
        length h.0,
        count_open n k h.0 returned h.4,
        ap (λ (l : List OpenCall). length l) h.2 ∙ length_push h.0 h.1 ∙ omega arith,
      )
  count_open n (suc k) calls returned (inr (inl h)) =
      inr (back_closed n k h.2, count_open n k calls h.0 h.3)
  count_open n (suc k) calls returned (inr (inr h)) =
      inr ((λ is. h.0 is.places is.marked), count_open n k calls returned h.1)

  pub count_back : (n k : ℕ) (calls : List OpenCall) (returned : ℕ) → IsWalked run n k calls returned
      → NumberOf (HasReturned run n) k returned
  count_back n zero calls returned h = h.1
  count_back n (suc k) calls returned (inl h) = inr (held_stays n k h.1 h.3, count_back n k h.0 returned h.4)
  count_back n (suc k) calls returned (inr (inl h)) = inl (h.2, h.0, count_back n k calls h.0 h.3, h.1)
  count_back n (suc k) calls returned (inr (inr h)) =
      inr ((λ is. h.0 is.places is.return.marked), count_back n k calls returned h.1)

  -- ---- the list and the calls that have not returned

  -- each one of the list is held
  pub of_list : (n k : ℕ) (calls : List OpenCall) (returned : ℕ) (call : OpenCall) → IsWalked run n k calls returned
      → Contains calls call → (c : ℕ) × (c < k) × IsHeld run n c call
  of_list n zero calls returned call h is =
      absurd (not_in call (subst (λ (l : List OpenCall). Contains l call) h.0 is))
  of_list n (suc k) calls returned call (inl h) is =
      elim (Contains-push_cases h.0 h.1 call (subst (λ (l : List OpenCall). Contains l call) h.2 is)) [
        | inl front ↦ let r = of_list n k h.0 returned call h.4 front in (r.0, omega (arith, r.1), r.2)
        | inr last ↦ (k, omega arith, subst (λ (x : OpenCall). IsHeld run n k x) last h.3)
      ]
  of_list n (suc k) calls returned call (inr (inl h)) is =
      let r = of_list n k calls h.0 call h.3 is in (r.0, omega (arith, r.1), r.2)
  of_list n (suc k) calls returned call (inr (inr h)) is =
      let r = of_list n k calls returned call h.1 is in (r.0, omega (arith, r.1), r.2)

  -- each one that has not returned is in the list
  pub in_list : (n k : ℕ) (calls : List OpenCall) (returned c : ℕ) → IsWalked run n k calls returned → c < k → IsOpen run n c
      → (call : OpenCall) × Contains calls call × IsHeld run n c call
  in_list n zero calls returned c h less is = absurd (omega (arith, less))
  in_list n (suc k) calls returned c (inl h) less is = elim (cases_lt_suc c k less) [
    | inl last ↦ (
      h.1,
      subst (λ (l : List OpenCall). Contains l h.1) (sym h.2) (Contains-push h.0 h.1),
      subst (λ i. IsHeld run n i h.1) (sym last) h.3,
    )
    | inr before ↦
        let r = in_list n k h.0 returned c h.4 before is in (
          r.0,
          subst (λ (l : List OpenCall). Contains l r.0) (sym h.2) (Contains-append_left h.0 (h.1 ∷ []) r.0 r.1),
          r.2,
        )
  ]
  in_list n (suc k) calls returned c (inr (inl h)) less is = elim (cases_lt_suc c k less) [
    | inl last ↦ absurd (back_closed n k h.2 (subst (λ i. IsOpen run n i) last is))
    | inr before ↦ in_list n k calls h.0 c h.3 before is
  ]
  in_list n (suc k) calls returned c (inr (inr h)) less is = elim (cases_lt_suc c k less) [
    | inl last ↦ absurd (h.0 is.places (subst (λ i. IsMarkedAt run is.places i) last is.marked))
    | inr before ↦ in_list n k calls returned c h.1 before is
  ]

  -- ---- the next state

  module _ (n : ℕ) (keeps : OpenCall → Bool)
      (stays : (k : ℕ) (call : OpenCall) → IsHeld run n k call → keeps call ≡ true
      → ¬ IsBackFrom (places_of call.places) (run k) (run (suc n)))
      (backs : (k : ℕ) (call : OpenCall) → IsHeld run n k call → keeps call ≡ false
      → IsBackFrom (places_of call.places) (run k) (run (suc n))) where
    still_held : (k : ℕ) (call : OpenCall) → IsHeld run n k call → keeps call ≡ true → IsHeld run (suc n) k call
    still_held k call h e = record {
      kept = h.kept;
      marked = h.marked;
      never = λ m after by.
          elim (cases_lt_suc m (suc n) (omega (arith, by))) as (λ _. ¬ IsBackFrom (places_of call.places) (run k) (run m)) [
            | inl last ↦
                subst (λ i. ¬ IsBackFrom (places_of call.places) (run k) (run i)) (sym last) (stays k call h e)
            | inr less ↦ h.never m after (omega (arith, less))
          ];
    }

    now_back : (k : ℕ) (call : OpenCall) → k < suc n → IsHeld run n k call → keeps call ≡ false → HasReturned run (suc n) k
    now_back k call less h e = record {
      places = places_of call.places;
      at = suc n;
      by = omega arith;
      return = record {
        marked = h.marked;
        after = less;
        back = backs k call h e;
        first = λ m after before. h.never m after (omega (arith, before));
      };
    }

    still_back : (k : ℕ) → HasReturned run n k → HasReturned run (suc n) k
    still_back k h =
        let by = h.by in record { places = h.places; at = h.at; by = omega (arith, by); return = h.return }

    kept_few : (calls : List OpenCall) → length (filter keeps calls) ≤ length calls
    kept_few calls =
        let both = length-filter_both keeps (λ call. not (keeps call)) (λ call. refl) calls in omega (arith, both)

    kept_pushed : (front calls : List OpenCall) (call : OpenCall) → calls ≡ front ++ call ∷ [] → keeps call ≡ true
        → filter keeps calls ≡ filter keeps front ++ call ∷ []
    kept_pushed front calls call is e =
        ap (filter keeps) is ∙ filter-append keeps front (call ∷ [])
        ∙ ap (λ b. filter keeps front ++ cond b (call ∷ []) []) e

    gone_pushed : (front calls : List OpenCall) (call : OpenCall) → calls ≡ front ++ call ∷ [] → keeps call ≡ false
        → filter keeps calls ≡ filter keeps front
    gone_pushed front calls call is e =
        ap (filter keeps) is ∙ filter-append keeps front (call ∷ [])
        ∙ ap (λ b. filter keeps front ++ cond b (call ∷ []) []) e ∙ append-nil (filter keeps front)

    pub walked_on : (k : ℕ) (calls : List OpenCall) (returned now : ℕ) → k ≤ suc n → IsWalked run n k calls returned
        → now + length (filter keeps calls) ≡ returned + length calls
        → IsWalked run (suc n) k (filter keeps calls) now
    walked_on zero calls returned now within h all =
        let none : filter keeps calls ≡ [] = ap (filter keeps) h.0 in
        let kept : length (filter keeps calls) ≡ 0 = ap (λ (l : List OpenCall). length l) none in
        let had : length calls ≡ 0 = ap (λ (l : List OpenCall). length l) h.0 in
        let zero : returned ≡ 0 = h.1 in
        (none, omega (arith, all, kept, had, zero))
    walked_on (suc k) calls returned now within (inl h) all =
        let long : length calls ≡ length h.0 + 1 = ap (λ (l : List OpenCall). length l) h.2 ∙ length_push h.0 h.1 in
        let few = kept_few h.0 in
        elim (cases_Bool (keeps h.1)) [
          | inl keep ↦
              let same = kept_pushed h.0 calls h.1 h.2 keep in
              let kept : length (filter keeps calls) ≡ length (filter keeps h.0) + 1 =
              ap (λ (l : List OpenCall). length l) same ∙ length_push (filter keeps h.0) h.1 in
              inl (
                filter keeps h.0,
                h.1,
                same,
                still_held k h.1 h.3 keep,
                walked_on k h.0 returned now (omega (arith, within)) h.4 (omega (arith, all, long, kept)),
              )
          | inr go ↦
              let same = gone_pushed h.0 calls h.1 h.2 go in
              let kept : length (filter keeps calls) ≡ length (filter keeps h.0) = ap (λ (l : List OpenCall). length l) same in
              let some : now ≡ suc (now - 1) = omega (arith, all, long, kept, few) in
              let fewer : (now - 1) + length (filter keeps h.0) ≡ returned + length h.0 = omega (arith, all, long, kept, some) in
              inr (inl (
                now - 1,
                some,
                now_back k h.1 (omega (arith, within)) h.3 go,
                subst (λ (l : List OpenCall). IsWalked run (suc n) k l (now - 1)) (sym same)
                    (walked_on k h.0 returned (now - 1) (omega (arith, within)) h.4 fewer),
              ))
        ]
    walked_on (suc k) calls returned now within (inr (inl h)) all =
        let few = kept_few calls in
        let was : returned ≡ suc h.0 = h.1 in
        let some : now ≡ suc (now - 1) = omega (arith, all, few, was) in
        let fewer : (now - 1) + length (filter keeps calls) ≡ h.0 + length calls = omega (arith, all, some, was) in
        inr (inl (now - 1, some, still_back k h.2, walked_on k calls h.0 (now - 1) (omega (arith, within)) h.3 fewer))
    walked_on (suc k) calls returned now within (inr (inr h)) all =
        inr (inr (h.0, walked_on k calls returned now (omega (arith, within)) h.1 all))
