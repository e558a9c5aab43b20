-- What the code's parts of a state come to.
use Rattle.std.proofs.Common.{inl, inr, ◌≡◌, ℕ, suc, ◌+◌, ◌<◌, ◌≤◌, ◌++◌, List, [], ◌∷◌, length, filter, refl, ap, sym, ◌∙◌, arith, subst}
use Rattle.std.proofs.Common.{Option, Some, None, true, false}
use Rattle.std.proofs.Common.{get_or, Vec, Global}
use Rattle.std.specs.Prelude.{not, Result, Ok, Err, IfOk}
use Rattle.std.specs.List.{All, Contains}
use Rattle.std.proofs.lemmas.List.{length_push, get_or_default}
use Rattle.std.proofs.lemmas.List.Elements.{All-contains}
use Rattle.std.proofs.lemmas.List.Filters.{length-filter_both}
use Rattle.std.proofs.lemmas.Bool.{both_ways}
use Rattle.kernel_contexts.specs.State.{State}
use Rattle.lazy_saving.specs.Dormant.{Places, IsDormantAt}
use Rattle.za_routines.specs.Places.{places_of}
use Rattle.abi_checker.specs.Faults.{IsMarkedAt, IsReturn, IsOpen, block_of}
use Rattle.abi_checker.specs.Whole.{IsWholeAt}
use Rattle.abi_checker.specs.Keeping.{IsKept}
use Rattle.abi_checker.specs.Returning.{is_back, IsOfSome, IsFine, IsUnlawful}
use Rattle.abi_checker.specs.Watching.{IsWatched, IsWalked, IsMarkedPast, IsPast, IsAdded, AfterCall, IsToldNext}
use Rattle.abi_checker.specs.Watching.{AreNear, Settles}
use Rattle.abi_checker.specs.Near.{is_near}
use Rattle.abi_checker.specs.declared.abi.AbiKind.{AbiKind}
use Rattle.abi_checker.specs.declared.abi.AbiKind.TheVariants.{NotDormant, NotLawful, TooDeep}
use Rattle.abi_checker.specs.declared.open_call.OpenCall.{OpenCall}
use Rattle.abi_checker.specs.declared.watch.Watch.{Watch}
use Rattle.abi_checker.proofs.Next.{unlawful_first, lawful_on, no_more, none_unmarked, walked_unmarked, none_added, walked_added}
use Rattle.abi_checker.proofs.Next.{undormant_first, deep_first}
use Rattle.abi_checker.proofs.Walk.{of_list, in_list, one_place}
use Rattle.abi_checker.proofs.WholeStates.{whole_on}

module _ (run : ℕ → State) (n : ℕ) (old : Watch) (s : State) (w : IsWatched run n old) (e : run (suc n) ≡ s)
    (grows : (run n).count ≤ (run (suc n)).count) where
  pub went_unlawful : (new : Watch) → (call : OpenCall) × Contains old.calls.items call × IsUnlawful s call
      → IsToldNext run (suc n) (Some NotLawful) new
  went_unlawful new found =
      unlawful_first run n old.calls.items old.returned w.none w.walked found.0 found.1
      (subst (λ t. IsUnlawful t found.0) (sym e) found.2)

  module _ (mid : Watch) (settled : Settles s old mid)
      (back : (c : ℕ) (p : Places) → IsReturn run p c (suc n) → IsWholeAt run (suc n)) where
    here : All (IsFine (run (suc n))) old.calls.items
    here = subst (λ t. All (IsFine t) old.calls.items) (sym e) settled.fine

    gone : mid.calls.items ≡ filter (λ call. not (is_back (run (suc n)) call)) old.calls.items
    gone = subst (λ t. mid.calls.items ≡ filter (λ call. not (is_back t call)) old.calls.items) (sym e) settled.left

    all : mid.returned + length mid.calls.items ≡ old.returned + length old.calls.items
    all = settled.all

    fewer : length mid.calls.items ≤ length old.calls.items
    fewer = no_more run n old.calls.items old.returned w.none w.walked here mid.calls.items mid.returned gone all

    unmarked_watched : (new : Watch) → new.calls.items ≡ mid.calls.items → new.returned ≡ mid.returned
        → AreNear new.near new.calls.items → ((p : Places) → ¬ IsMarkedAt run p (suc n)) → IsWatched run (suc n) new
    unmarked_watched new same told near unmarked =
        let few = w.few in
        let counted = w.counted in
        let sum = all in
        let less = fewer in
        let long : length new.calls.items ≡ length mid.calls.items = ap (λ (l : List OpenCall). length l) same in
        record {
          none = none_unmarked run n old.calls.items old.returned w.none w.walked here mid.calls.items mid.returned gone all
              unmarked;
          lawful = lawful_on run n old.calls.items old.returned w.none w.walked here w.lawful;
          whole = whole_on run n w.whole (λ p marked. absurd (unmarked p marked)) back;
          walked = subst (λ (l : List OpenCall). IsWalked run (suc n) (suc (suc n)) l new.returned) (sym same)
              (subst (λ i. IsWalked run (suc n) (suc (suc n)) mid.calls.items i) (sym told)
              (walked_unmarked run n old.calls.items old.returned w.none w.walked here mid.calls.items mid.returned gone all
              unmarked));
          few = omega (arith, few, less, long);
          counted = omega (arith, counted, sum, grows, long, told);
          near = near;
        }

    pub went_uncalled : IsPast (run n) (run (suc n)) None → IsToldNext run (suc n) None mid
    went_uncalled apart = unmarked_watched mid refl refl settled.near apart

    module _ (past : ℕ) (new : Watch) (call : IsPast (run n) (run (suc n)) (Some past)) (whole : IsWholeAt run (suc n))
        (near : AreNear new.near new.calls.items) where
      at_past : (p : Places) → IsMarkedPast p s past → IsMarkedAt run p (suc n)
      at_past p h =
          let there = subst (λ t. IsMarkedPast p t past) (sym e) h in
          record { call = call.0; place = there.place ∙ call.1; mark = there.mark }

      from_past : (p : Places) → IsMarkedAt run p (suc n) → IsMarkedPast p s past
      from_past p h =
          subst (λ t. IsMarkedPast p t past) e (record { place = h.place ∙ sym call.1; mark = h.mark })

      added_watched : new.returned ≡ mid.returned → IsAdded s past mid new → IsWatched run (suc n) new
      added_watched told h =
          let counted = w.counted in
          let sum = all in
          let one = call.0.counted in
          let most = h.few in
          let long : length new.calls.items ≡ length mid.calls.items + 1 =
          ap (λ (l : List OpenCall). length l) h.calls ∙ length_push mid.calls.items h.last in
          let few : length mid.calls.items < 256 = omega (arith, most, long) in
          let kept : IsKept h.last (run (suc n)) = subst (λ t. IsKept h.last t) (sym e) h.kept in
          let marked = at_past (places_of h.last.places) h.marked in
          record {
            none = none_added run n old.calls.items old.returned w.none w.walked here mid.calls.items mid.returned gone all h.last
                marked kept few;
            lawful = lawful_on run n old.calls.items old.returned w.none w.walked here w.lawful;
            whole = whole_on run n w.whole (λ p marked. whole) back;
            walked = subst (λ (l : List OpenCall). IsWalked run (suc n) (suc (suc n)) l new.returned) (sym h.calls)
                (subst (λ i. IsWalked run (suc n) (suc (suc n)) (mid.calls.items ++ h.last ∷ []) i) (sym told)
                (walked_added run n old.calls.items old.returned w.none w.walked here mid.calls.items mid.returned gone all h.last
                marked kept few));
            few = h.few;
            counted = omega (arith, counted, sum, one, long, told);
            near = near;
          }

      pub went_called : (kind : Option AbiKind) → AfterCall s past mid new kind → IsToldNext run (suc n) kind new
      went_called None h = elim h.1 [
        | inl none ↦ unmarked_watched new none.calls h.0 near (λ p marked. none.none p (from_past p marked))
        | inr one ↦ added_watched h.0 one
      ]
      went_called (Some NotDormant) h =
          undormant_first run n old.calls.items old.returned w.none w.walked here mid.calls.items mid.returned gone all h.0
          (at_past h.0 h.1) (subst (λ t. ¬ IsDormantAt h.0 t.core (block_of t)) (sym e) h.2)
      went_called (Some NotLawful) h = absurd h
      went_called (Some TooDeep) h =
          deep_first run n old.calls.items old.returned w.none w.walked here mid.calls.items mid.returned gone all h.0
          (at_past h.0 h.1) (subst (λ t. IsDormantAt h.0 t.core (block_of t)) (sym e) h.2) h.3

-- ---- what the code asks of the calls so far

pub all_of_some : (run : ℕ → State) (n : ℕ) (watch : Watch) → IsWatched run n watch → All IsOfSome watch.calls.items
all_of_some run n watch w k d l =
    let call : OpenCall = get_or watch.calls.items k d in
    let h = of_list run n (suc n) watch.calls.items watch.returned call w.walked (k, l, get_or_default watch.calls.items k call d l) in
    (run h.0, h.2.kept)

pub settled_few : (r : State) (old new : Watch) → Settles r old new → length new.calls.items ≤ length old.calls.items
settled_few r old new h =
    let sum =
    length-filter_both (λ call. not (is_back r call)) (λ call. not (not (is_back r call))) (λ call. refl) old.calls.items in
    let same : length new.calls.items ≡ length (filter (λ call. not (is_back r call)) old.calls.items) =
    ap (λ (l : List OpenCall). length l) h.left in
    omega (arith, sum, same)

-- one fact from two of a result
pub both_ok : {T E : Type 0} (result : Result T E) (P Q R : T → Type 0) → IfOk result P → IfOk result Q
    → ((x : T) → P x → Q x → R x) → IfOk result R
both_ok (Ok x) P Q R p q f = f x p q
both_ok (Err e) P Q R p q f = tt

-- ---- a state to which no call comes back

pub none_back : (run : ℕ → State) (n : ℕ) (watch : Watch) → IsWatched run n watch
    → is_near watch.near (run (suc n)).core.scalars.pc ≡ false → (c : ℕ) (p : Places) → ¬ IsReturn run p c (suc n)
none_back run n watch w away c p r =
    let still : IsOpen run n c = record {
      places = p;
      marked = r.marked;
      never = λ m after by. r.first m after (omega (arith, by));
    } in
    let found = in_list run n (suc n) watch.calls.items watch.returned c w.walked r.after still in
    let same = one_place run c (places_of found.0.places) p found.2.marked r.marked in
    let near =
    All-contains (λ (call : OpenCall). is_near watch.near call.places.tail ≡ true) watch.calls.items found.0 w.near found.1 in
    let there = subst (λ (q : Places). is_near watch.near q.tail ≡ true) same near in
    both_ways (is_near watch.near (run (suc n)).core.scalars.pc) away (ap (λ a. is_near watch.near a) r.back.pc ∙ there)
