-- Places that follow one another by turns, and where they part from their events and a count: at one place at
-- most, and nowhere exactly where they end there.
use Rattle.std.proofs.Common.{inl, inr, ◌≡◌, Bool, true, false, cond, ℕ, zero, suc, ◌+◌, ◌<◌, ◌≤◌, List, [], ◌∷◌, refl, ap, sym}
use Rattle.std.proofs.Common.{◌∙◌, arith, subst, Option, Some, None}
use Rattle.std.specs.Prelude.{nat_lt, ◌-◌}
use Rattle.std.proofs.lemmas.Bool.{cond_both, cases_Bool}
use Rattle.std.proofs.lemmas.Bool.Decides.{nat_tests}
use Rattle.std.proofs.lemmas.Option.{same_Some, none-some}
use Rattle.plain_lemmas.proofs.Numbers.{cases_lt_eq_gt}
use Rattle.sm_types.specs.SharedOps.{is_same_op}
use Rattle.sm_types.specs.declared.config.Config.{Config}
use Rattle.sm_types.specs.declared.shared_op.Event.{Event}
use Rattle.sm_types.specs.declared.stop.Stop.{Stop}
use Rattle.kernel_contexts.specs.State.{State}
use Rattle.kernel_contexts.specs.Call.{TurnEnd, Goes, Yields, Asks, Ends}
use Rattle.kernel_contexts.specs.Turn.{turn_of}
use Rattle.kernel_contexts.specs.Run.{Reached, At, Ended, Strays, turned, after_turn}
use Rattle.lone_runner.specs.Parting.{parting_at, left_over, unanswered, state_at}
use Rattle.lone_runner.specs.declared.fault.AloneFault.{AloneFault}
use Rattle.lone_runner.specs.declared.fault.AloneFault.TheVariants.{EndsEarly, GoesOn}
use Rattle.lone_runner.proofs.Counted.{IsCounted, Counts, turn_counted}

-- ---- an end that does not part

both_false : (a b : Bool) (x y : AloneFault) (o : Option AloneFault) → cond a (Some x) (cond b (Some y) o) ≡ None
    → (a ≡ false) × (b ≡ false) × (o ≡ None)
both_false true b x y o e = absurd (none-some x (sym e))
both_false false true x y o e = absurd (none-some y (sym e))
both_false false false x y o e = (refl, refl, e)

none_left : (left : List Event) → left_over left ≡ None → left ≡ []
none_left [] e = refl
none_left (event ∷ left) e = absurd (none-some _ (sym e))

pub ends_well : (count : ℕ) (s : State) (stop : Stop) (used : ℕ) (left : List Event) → parting_at count (Ended s stop used left) ≡ None
    → (s.count ≡ count) × (left ≡ [])
ends_well count s stop used left e =
    let h = both_false (nat_lt s.count count) (nat_lt count s.count) (EndsEarly s.count stop) (GoesOn count) (left_over left) e in
    let under : nat_lt s.count count ≡ false = h.0 in
    let over : nat_lt count s.count ≡ false = h.1 in
    let same : s.count ≡ count = grind (arith, nat_tests) in (same, none_left left h.2)

-- a thread that goes on and parts has passed the count
pub passed : (count : ℕ) (s : State) (used : ℕ) (left : List Event) (fault : AloneFault) → parting_at count (At s used left) ≡ Some fault
    → count < s.count
passed count s used left fault parts = elim (cases_Bool (nat_lt count s.count)) [
  | inl more ↦ grind (arith, nat_tests)
  | inr less ↦
      absurd (none-some fault (sym (ap (λ b. cond b (Some (GoesOn count)) None) less) ∙ parts))
]

-- ---- places that follow one another

module _ (config : Config) (thread : ℕ) (at : ℕ → Reached) (step : (n : ℕ) → at (suc n) ≡ turned config thread (at n)) where
  -- a place at which the turns end stays
  stays_on : (r : Reached) → turned config thread r ≡ r → (m k : ℕ) → at m ≡ r → at (m + k) ≡ r
  stays_on r same m zero is = let z : m + 0 ≡ m = omega arith in rw z is
  stays_on r same m (suc k) is =
      let z : m + suc k ≡ suc (m + k) = omega arith in
      rw z (step (m + k) ∙ ap (turned config thread) (stays_on r same m k is) ∙ same)

  pub stays_at : (r : Reached) → turned config thread r ≡ r → (m n : ℕ) → m ≤ n → at m ≡ r → at n ≡ r
  stays_at r same m n l is =
      let z : m + (n - m) ≡ n = omega arith in subst (λ k. at k ≡ r) z (stays_on r same m (n - m) is)

  -- ---- counts do not fall

  abbrev counted_at : ℕ → ℕ
  counted_at n = (state_at (at n)).count

  same_count : (s : State) → IsCounted s s
  same_count s = record { least = omega arith; most = omega arith }

  after_counts : (s : State) (used : ℕ) (left : List Event) (end : TurnEnd) → Counts s end
      → IsCounted s (state_at (after_turn s used left end))
  after_counts s used left (Goes t) h = h
  after_counts s used left (Yields t) h = h
  after_counts s used [] (Asks op next) h = same_count s
  after_counts s used (event ∷ left) (Asks op next) h =
      cond_both (is_same_op op event.op) _ _ (λ (r : Reached). IsCounted s (state_at r)) (λ _. h event.answer) (λ _. same_count s)
  after_counts s used left (Ends t stop) h = h

  turned_counts : (r : Reached) → IsCounted (state_at r) (state_at (turned config thread r))
  turned_counts (At s used left) = after_counts s used left (turn_of config thread used s) (turn_counted config thread used s)
  turned_counts (Ended s stop used left) = same_count s
  turned_counts (Strays s used left) = same_count s

  pub counts_next : (n : ℕ) → IsCounted (state_at (at n)) (state_at (at (suc n)))
  counts_next n = subst (λ (r : Reached). IsCounted (state_at (at n)) (state_at r)) (sym (step n)) (turned_counts (at n))

  count_grows : (n k : ℕ) → counted_at n ≤ counted_at (n + k)
  count_grows n zero = let z : n + 0 ≡ n = omega arith in rw z (omega arith)
  count_grows n (suc k) =
      let z : n + suc k ≡ suc (n + k) = omega arith in
      let one = counts_next (n + k) in
      let before = count_grows n k in
      rw z (omega (arith, one.least, before))

  pub counts_later : (m n : ℕ) → m ≤ n → counted_at m ≤ counted_at n
  counts_later m n l =
      let z : m + (n - m) ≡ n = omega arith in subst (λ k. counted_at m ≤ counted_at k) z (count_grows m (n - m))

  -- ---- where they part

  module _ (count : ℕ) where
    abbrev parts_at : ℕ → Option AloneFault
    parts_at n = parting_at count (at n)

    -- they part so after so many turns, and not before
    abbrev pub IsFirst : ℕ → AloneFault → Type 0
    IsFirst n fault = (parts_at n ≡ Some fault) × ((m : ℕ) → m < n → parts_at m ≡ None)

    pub one_first : (m n : ℕ) (f g : AloneFault) → IsFirst m f → IsFirst n g → f ≡ g
    one_first m n f g h k = elim (cases_lt_eq_gt m n) [
      | inl less ↦ absurd (none-some f (sym (k.1 m less) ∙ h.0))
      | inr (inl same) ↦ same_Some f g (sym h.0 ∙ ap parts_at same ∙ k.0)
      | inr (inr more) ↦ absurd (none-some g (sym (h.1 n more) ∙ k.0))
    ]

    none_or : (o : Option AloneFault) → ((fault : AloneFault) → o ≡ Some fault → ⊥) → o ≡ None
    none_or None none = refl
    none_or (Some fault) none = absurd (none fault refl)

    never : ((n : ℕ) (fault : AloneFault) → IsFirst n fault → ⊥) → (n m : ℕ) → m < n → parts_at m ≡ None
    never none zero m less = absurd (omega (arith, less))
    never none (suc n) m less = elim (cases_lt_eq_gt m n) [
      | inl below ↦ never none n m below
      | inr (inl same) ↦
          ap parts_at same ∙ none_or (parts_at n) (λ fault parts. none n fault (parts, never none n))
      | inr (inr above) ↦ absurd (omega (arith, less, above))
    ]

    -- ---- turns that end there do not part

    good_end : (s : State) (stop : Stop) (used : ℕ) → s.count ≡ count → parting_at count (Ended s stop used []) ≡ None
    good_end s stop used same =
        let under : nat_lt s.count count ≡ false = grind (arith, nat_tests) in
        let over : nat_lt count s.count ≡ false = grind (arith, nat_tests) in rw (under, over) refl

    not_both : (s t : State) (stop : Stop) (u v : ℕ) (left : List Event) → ◌≡◌ {A = Reached} (Strays s u left) (Ended t stop v []) → ⊥
    not_both s t stop u v left e = cc

    module _ (end : ℕ) (state : State) (stop : Stop) (used : ℕ) (ends : at end ≡ Ended state stop used []) (counts : state.count ≡ count)
      where
        parts_before : (fault : AloneFault) (m : ℕ) (r : Reached) → m ≤ end → at m ≡ r → parting_at count r ≡ Some fault → ⊥
        parts_before fault m (At s u left) l is parts =
            let more = counts_later m end l in
            let here : counted_at m ≡ s.count = ap (λ (r : Reached). (state_at r).count) is in
            let there : counted_at end ≡ state.count = ap (λ (r : Reached). (state_at r).count) ends in
            let over = passed count s u left fault parts in omega (arith, more, here, there, over, counts)
        parts_before fault m (Ended s p u left) l is parts =
            let last = stays_at (Ended s p u left) refl m end l is in
            none-some fault (sym (good_end state stop used counts) ∙ ap (parting_at count) (sym ends ∙ last) ∙ parts)
        parts_before fault m (Strays s u left) l is parts =
            let last = stays_at (Strays s u left) refl m end l is in not_both s state stop u used left (sym last ∙ ends)

        parts_after : (fault : AloneFault) (m : ℕ) → end ≤ m → parts_at m ≡ Some fault → ⊥
        parts_after fault m l parts =
            let last = stays_at (Ended state stop used []) refl end m l ends in
            none-some fault (sym (good_end state stop used counts) ∙ ap (parting_at count) (sym last) ∙ parts)

        pub no_first : (n : ℕ) (fault : AloneFault) → IsFirst n fault → ⊥
        no_first n fault h = elim (cases_lt_eq_gt n end) [
          | inl less ↦ parts_before fault n (at n) (omega (arith, less)) refl h.0
          | inr (inl same) ↦ parts_after fault n (omega (arith, same)) h.0
          | inr (inr more) ↦ parts_after fault n (omega (arith, more)) h.0
        ]

    -- ---- turns that do not part end, where they are few

    -- they end at the count with no event left
    pub record EndsWell : Type 0 where
      pub turns : ℕ
      pub state : State
      pub stop : Stop
      pub used : ℕ
      pub ends : at turns ≡ Ended state stop used []
      pub counts : state.count ≡ count

    module _ (most : ℕ) (few : (n : ℕ) (s : State) (used : ℕ) (left : List Event) → at n ≡ At s used left → n ≤ most) where
      ends_by : (r : Reached) (n : ℕ) → most < n → at n ≡ r → parting_at count r ≡ None → EndsWell
      ends_by (At s used left) n late is none = absurd (omega (arith, few n s used left is, late))
      ends_by (Ended s stop used left) n late is none =
          let end = ends_well count s stop used left none in
          record {
            turns = n;
            state = s;
            stop = stop;
            used = used;
            ends = is ∙ ap (λ (l : List Event). Ended s stop used l) end.1;
            counts = end.0;
          }
      ends_by (Strays s used left) n late is none = absurd (none-some (unanswered s used left) (sym none))

      pub ends_unless_first : ((n : ℕ) (fault : AloneFault) → IsFirst n fault → ⊥) → EndsWell
      ends_unless_first none = ends_by (at (suc most)) (suc most) (omega arith) refl (never none (suc (suc most)) (suc most) (omega arith))
