-- Calls of which none is back, and what is told of them.
use Rattle.std.proofs.Common.{◌≡◌, ℕ, suc, ◌+◌, ◌<◌, subst, List, [], ◌∷◌, length, get_or, filter, cond, refl, ap, sym, ◌∙◌}
use Rattle.std.proofs.Common.{arith, Bool, true, false}
use Rattle.std.specs.Prelude.{not, ◌==◌, ◌++◌}
use Rattle.std.proofs.lemmas.List.{get_or_default}
use Rattle.std.proofs.lemmas.List.Elements.{All-push}
use Rattle.std.proofs.lemmas.Bool.{cases_Bool, eqb-true, not_from_false, both_ways}
use Rattle.std.proofs.Common.{inl, inr}
use Rattle.plain_lemmas.proofs.Numbers.{cases_lt_eq_gt}
use Rattle.kernel_contexts.specs.State.{State}
use Rattle.abi_checker.specs.Returning.{is_back, IsFine}
use Rattle.abi_checker.specs.Watching.{AreNear, Settles}
use Rattle.abi_checker.specs.Near.{is_near}
use Rattle.abi_checker.specs.declared.near.Near.{Near}
use Rattle.abi_checker.specs.declared.open_call.OpenCall.{OpenCall}
use Rattle.abi_checker.specs.declared.watch.Watch.{Watch}
use Rattle.abi_checker.proofs.Next.{both}

all_kept : (keeps : OpenCall → Bool) (calls : List OpenCall) → ((k : ℕ) (d : OpenCall) → k < length calls → keeps (get_or calls k d) ≡ true)
    → calls ≡ filter keeps calls
all_kept keeps [] h = refl
all_kept keeps (call ∷ calls) h =
    let rest = all_kept keeps calls (λ k d l. h (suc k) d (omega (arith, l))) in
    ap (λ l. call ∷ l) rest ∙ sym (ap (λ b. cond b (call ∷ filter keeps calls) (filter keeps calls)) (h 0 call (omega arith)))

-- a state whose PC is near no call is back from none
pub away : (r : State) (near : Near) (call : OpenCall) → is_near near call.places.tail ≡ true
    → is_near near r.core.scalars.pc ≡ false → is_back r call ≡ false
away r near call there here = elim (cases_Bool (is_back r call)) [
  | inl back ↦
      let pc = eqb-true r.core.scalars.pc call.places.tail
      (both (r.core.scalars.pc == call.places.tail) (r.core.scalars.sp == call.sp) (r.depth == call.depth) back).0 in
      absurd (both_ways (is_near near r.core.scalars.pc) here (ap (λ a. is_near near a) pc ∙ there))
  | inr other ↦ other
]

pub none_settles : (r : State) (old : Watch) → AreNear old.near old.calls.items → is_near old.near r.core.scalars.pc ≡ false
    → Settles r old old
none_settles r old near here = record {
  fine = λ k d l back.
      absurd (both_ways (is_back r (get_or old.calls.items k d)) (away r old.near (get_or old.calls.items k d) (near k d l) here) back);
  left = all_kept (λ call. not (is_back r call)) old.calls.items
      (λ k d l. not_from_false (is_back r (get_or old.calls.items k d)) (away r old.near (get_or old.calls.items k d) (near k d l) here));
  all = refl;
  near = near;
}

-- ---- the calls up to one place more

pub fine_more : (r : State) (calls : List OpenCall) (n : ℕ) (call : OpenCall)
    → ((k : ℕ) (d : OpenCall) → k < n → IsFine r (get_or calls k d)) → call ≡ get_or calls n call → n < length calls → IsFine r call
    → (k : ℕ) (d : OpenCall) → k < n + 1 → IsFine r (get_or calls k d)
fine_more r calls n call before is below fine k d l = elim (cases_lt_eq_gt k n) as (λ _. IsFine r (get_or calls k d)) [
  | inl less ↦ before k d less
  | inr (inl same) ↦
      subst (IsFine r) (is ∙ get_or_default calls n call d below ∙ sym (ap (λ i. get_or calls i d) same)) fine
  | inr (inr more) ↦ absurd (omega (arith, l, more))
]

-- ---- one call more

pub near_more : (old new : Near) (calls : List OpenCall) (call : OpenCall) → is_near new call.places.tail ≡ true
    → ((other : ℕ) → is_near old other ≡ true → is_near new other ≡ true) → AreNear old calls → AreNear new (calls ++ call ∷ [])
near_more old new calls call here others h =
    All-push (λ (x : OpenCall). is_near new x.places.tail ≡ true) calls call
    (λ k d below. others (get_or calls k d).places.tail (h k d below)) here
