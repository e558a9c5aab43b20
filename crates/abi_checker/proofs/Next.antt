-- What is told of the next state of a run.
use Rattle.std.proofs.Common.{inl, inr, ◌≡◌, ℕ, suc, ◌+◌, ◌<◌, ◌≤◌, List, [], ◌∷◌, ◌++◌, length, filter, refl, ap, sym, ◌∙◌}
use Rattle.std.proofs.Common.{arith, subst, Bool, true, false}
use Rattle.std.specs.Prelude.{not, ◌==◌, ◌&&◌}
use Rattle.std.specs.List.{All, Contains}
use Rattle.std.proofs.lemmas.List.Elements.{All-contains}
use Rattle.std.proofs.lemmas.List.Filters.{length-filter_both}
use Rattle.std.proofs.lemmas.Bool.{both_ways, not-false, not-true, eq-eqb, eqb-true}
use Rattle.plain_lemmas.proofs.Numbers.{cases_lt_eq_gt}
use Rattle.kernel_contexts.specs.State.{State}
use Rattle.lazy_saving.specs.Dormant.{Places, IsDormantAt, IsLawful}
use Rattle.za_routines.specs.Places.{places_of}
use Rattle.abi_checker.specs.Marks.{IsBackFrom}
use Rattle.abi_checker.specs.Faults.{IsMarkedAt, IsReturn, IsOpen, HasFault, IsFirstFault, ReturnsUnlawfully}
use Rattle.abi_checker.specs.Faults.{AreLawful, block_of, order_of}
use Rattle.abi_checker.specs.Keeping.{IsKept}
use Rattle.abi_checker.specs.Returning.{is_back, IsFine, IsUnlawful}
use Rattle.abi_checker.specs.Watching.{IsHeld, IsWalked}
use Rattle.abi_checker.specs.declared.abi.AbiKind.{AbiKind}
use Rattle.abi_checker.specs.declared.abi.AbiKind.TheVariants.{NotDormant, NotLawful, TooDeep}
use Rattle.abi_checker.specs.declared.open_call.OpenCall.{OpenCall}
use Rattle.abi_checker.proofs.Once.{one_number}
use Rattle.abi_checker.proofs.Walk.{one_place, count_open, of_list, in_list, walked_on}

-- ---- whether a state is back from a call

pub both : (a b c : Bool) → (a && (b && c)) ≡ true → (a ≡ true) × (b ≡ true) × (c ≡ true)
both true true true e = (refl, refl, refl)
both true true false e = cc
both true false c e = cc
both false b c e = cc

all_three : (a b c : Bool) → a ≡ true → b ≡ true → c ≡ true → (a && (b && c)) ≡ true
all_three true true true e f g = refl
all_three true true false e f g = cc
all_three true false c e f g = cc
all_three false b c e f g = cc

pub back_means : (s r : State) (call : OpenCall) → IsKept call s → is_back r call ≡ true
    → IsBackFrom (places_of call.places) s r
back_means s r call h e =
    let t = both (r.core.scalars.pc == call.places.tail) (r.core.scalars.sp == call.sp) (r.depth == call.depth) e in
    record {
      pc = eqb-true r.core.scalars.pc call.places.tail t.0;
      sp = eqb-true r.core.scalars.sp call.sp t.1 ∙ h.sp;
      depth = eqb-true r.depth call.depth t.2 ∙ h.depth;
    }

pub back_tells : (s r : State) (call : OpenCall) → IsKept call s → IsBackFrom (places_of call.places) s r
    → is_back r call ≡ true
back_tells s r call h b =
    all_three (r.core.scalars.pc == call.places.tail) (r.core.scalars.sp == call.sp) (r.depth == call.depth)
    (eq-eqb r.core.scalars.pc call.places.tail b.pc) (eq-eqb r.core.scalars.sp call.sp (b.sp ∙ sym h.sp))
    (eq-eqb r.depth call.depth (b.depth ∙ sym h.depth))

-- ---- the next state

module _ (run : ℕ → State) (n : ℕ) (calls : List OpenCall) (returned : ℕ)
    (none : (m : ℕ) (kind : AbiKind) → m ≤ n → ¬ HasFault run m kind)
    (walked : IsWalked run n (suc n) calls returned) where
  abbrev next : State
  next = run (suc n)

  earlier : (m : ℕ) (other : AbiKind) → m < suc n → ¬ HasFault run m other
  earlier m other less = none m other (omega (arith, less))

  none_first : (other : AbiKind) → order_of run other < 0 → ⊥
  none_first other less = omega (arith, less)

  -- a call returns unlawfully
  pub unlawful_first : (call : OpenCall) → Contains calls call → IsUnlawful next call → IsFirstFault run (suc n) NotLawful
  unlawful_first call is h =
      let held = of_list run n (suc n) calls returned call walked is in
      record {
        fault = record {
          call = held.0;
          places = places_of call.places;
          return = record {
            marked = held.2.marked;
            after = held.1;
            back = back_means (run held.0) next call held.2.kept h.back;
            first = λ m after before. held.2.never m after (omega (arith, before));
          };
          unlawful = h.unlawful (run held.0) held.2.kept;
        };
        earlier = earlier;
        sooner = λ other less. absurd (none_first other less);
      }

  module _ (fine : All (IsFine next) calls) where
    lawful_here : (c : ℕ) (p : Places) → IsReturn run p c (suc n) → IsLawful p (run c).core next.core (block_of (run c))
    lawful_here c p r =
        let still : IsOpen run n c = record {
          places = p;
          marked = r.marked;
          never = λ m after by. r.first m after (omega (arith, by));
        } in
        let found = in_list run n (suc n) calls returned c walked r.after still in
        let same = one_place run c (places_of found.0.places) p found.2.marked r.marked in
        let back = subst (λ (q : Places). IsBackFrom q (run c) next) (sym same) r.back in
        let lawful =
        All-contains (IsFine next) calls found.0 fine found.1 (back_tells (run c) next found.0 found.2.kept back) (run c)
        found.2.kept in
        subst (λ (q : Places). IsLawful q (run c).core next.core (block_of (run c))) same lawful

    pub lawful_on : AreLawful run n → AreLawful run (suc n)
    lawful_on lawful c m p within r =
        elim (cases_lt_eq_gt m (suc n)) as (λ _. IsLawful p (run c).core (run m).core (block_of (run c))) [
          | inl less ↦ lawful c m p (omega (arith, less)) r
          | inr (inl same) ↦
              subst (λ i. IsLawful p (run c).core (run i).core (block_of (run c))) (sym same)
              (lawful_here c p (subst (λ i. IsReturn run p c i) same r))
          | inr (inr more) ↦ absurd (omega (arith, within, more))
        ]

    no_unlawful : ¬ ReturnsUnlawfully run (suc n)
    no_unlawful f = f.unlawful (lawful_here f.call f.places f.return)

    stays : (k : ℕ) (call : OpenCall) → IsHeld run n k call → not (is_back next call) ≡ true
        → ¬ IsBackFrom (places_of call.places) (run k) next
    stays k call h e back =
        both_ways (is_back next call) (not-true (is_back next call) e) (back_tells (run k) next call h.kept back)

    backs : (k : ℕ) (call : OpenCall) → IsHeld run n k call → not (is_back next call) ≡ false
        → IsBackFrom (places_of call.places) (run k) next
    backs k call h e = back_means (run k) next call h.kept (not-false (is_back next call) e)

    module _ (left : List OpenCall) (now : ℕ) (is : left ≡ filter (λ call. not (is_back next call)) calls)
        (all : now + length left ≡ returned + length calls) where
      pub passed : IsWalked run (suc n) (suc n) left now
      passed =
          subst (λ (l : List OpenCall). IsWalked run (suc n) (suc n) l now) (sym is)
          (walked_on run n (λ call. not (is_back next call)) stays backs (suc n) calls returned now (omega arith) walked
          (ap (λ (l : List OpenCall). now + length l) (sym is) ∙ all))

      pub no_more : length left ≤ length calls
      no_more =
          let sum = length-filter_both (λ call. not (is_back next call)) (λ call. not (not (is_back next call))) (λ call. refl) calls in
          let same : length left ≡ length (filter (λ call. not (is_back next call)) calls) = ap (λ (l : List OpenCall). length l) is in
          omega (arith, sum, same)

      -- no call is marked
      module _ (unmarked : (p : Places) → ¬ IsMarkedAt run p (suc n)) where
        no_fault : (kind : AbiKind) → ¬ HasFault run (suc n) kind
        no_fault NotLawful f = no_unlawful f
        no_fault NotDormant f = unmarked f.places f.marked
        no_fault TooDeep f = unmarked f.places f.marked

        pub none_unmarked : (m : ℕ) (kind : AbiKind) → m ≤ suc n → ¬ HasFault run m kind
        none_unmarked m kind within = elim (cases_lt_eq_gt m (suc n)) as (λ _. ¬ HasFault run m kind) [
          | inl less ↦ earlier m kind less
          | inr (inl same) ↦ subst (λ i. ¬ HasFault run i kind) (sym same) (no_fault kind)
          | inr (inr more) ↦ absurd (omega (arith, within, more))
        ]

        pub walked_unmarked : IsWalked run (suc n) (suc (suc n)) left now
        walked_unmarked = inr (inr (unmarked, passed))

      -- a call is marked, and at no fault
      module _ (call : OpenCall) (marked : IsMarkedAt run (places_of call.places) (suc n)) (kept : IsKept call next)
          (few : length left < 256) where
        is_dormant : IsDormantAt (places_of call.places) next.core (block_of next)
        is_dormant = subst (λ b. IsDormantAt (places_of call.places) next.core b) kept.block kept.kept.dormant

        clean : (kind : AbiKind) → ¬ HasFault run (suc n) kind
        clean NotLawful f = no_unlawful f
        clean NotDormant f =
            let same = one_place run (suc n) (places_of call.places) f.places marked f.marked in
            f.active (subst (λ (p : Places). IsDormantAt p next.core (block_of next)) same is_dormant)
        clean TooDeep f =
            let many : f.depth ≡ length left =
            one_number (IsOpen run (suc n)) (suc n) f.depth (length left) f.others
            (count_open run (suc n) (suc n) left now passed) in
            let most : 256 ≤ f.depth = f.many in
            omega (arith, many, most, few)

        pub none_added : (m : ℕ) (kind : AbiKind) → m ≤ suc n → ¬ HasFault run m kind
        none_added m kind within = elim (cases_lt_eq_gt m (suc n)) as (λ _. ¬ HasFault run m kind) [
          | inl less ↦ earlier m kind less
          | inr (inl same) ↦ subst (λ i. ¬ HasFault run i kind) (sym same) (clean kind)
          | inr (inr more) ↦ absurd (omega (arith, within, more))
        ]

        pub walked_added : IsWalked run (suc n) (suc (suc n)) (left ++ call ∷ []) now
        walked_added =
            inl (
              left,
              call,
              refl,
              record {
                kept = kept;
                marked = marked;
                never = λ m after by. absurd (omega (arith, after, by));
              },
              passed,
            )

      sooner_undormant : (other : AbiKind) → order_of run other < 1 → ¬ HasFault run (suc n) other
      sooner_undormant NotLawful less = no_unlawful
      sooner_undormant NotDormant less = absurd (omega (arith, less))
      sooner_undormant TooDeep less = absurd (omega (arith, less))

      -- a call is marked, and not dormant
      pub undormant_first : (p : Places) → IsMarkedAt run p (suc n) → ¬ IsDormantAt p next.core (block_of next)
          → IsFirstFault run (suc n) NotDormant
      undormant_first p marked active = record {
        fault = record { places = p; marked = marked; active = active };
        earlier = earlier;
        sooner = sooner_undormant;
      }

      -- a call is marked and dormant, and too many are open
      module _ (p : Places) (marked : IsMarkedAt run p (suc n)) (dormant : IsDormantAt p next.core (block_of next))
          (many : length left ≡ 256) where
        sooner_deep : (other : AbiKind) → order_of run other < 2 → ¬ HasFault run (suc n) other
        sooner_deep NotLawful less f = no_unlawful f
        sooner_deep NotDormant less f =
            let same = one_place run (suc n) p f.places marked f.marked in
            f.active (subst (λ (q : Places). IsDormantAt q next.core (block_of next)) same dormant)
        sooner_deep TooDeep less f = absurd (omega (arith, less))

        pub deep_first : IsFirstFault run (suc n) TooDeep
        deep_first = record {
          fault = record {
            places = p;
            marked = marked;
            depth = length left;
            others = count_open run (suc n) (suc n) left now passed;
            many = omega (arith, many);
          };
          earlier = earlier;
          sooner = sooner_deep;
        }
