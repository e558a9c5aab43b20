-- The residents of a core as lists, and a core after a run.
use Rattle.std.proofs.Common.{◌≡◌, ℕ, zero, suc, ◌<◌, List, [], ◌∷◌, ◌++◌, length, Option, Some, None, sym, ap, refl, ◌∙◌, subst, arith, cond}
use Rattle.std.proofs.Common.{true, false}
use Rattle.std.specs.Prelude.{slice_get, slice_index_or, All}
use Rattle.std.proofs.lemmas.List.Elements.{All-cons, All-tail, All-head, All-push}
use Rattle.std.proofs.lemmas.Option.{same_Some, none-some}
use Rattle.std.proofs.lemmas.Bool.{or_left}
use Rattle.sm_types.specs.declared.config.Config.{Config}
use Rattle.sm_types.specs.declared.shared_op.Event.{Event}
use Rattle.shared_region.specs.Tickets.{Refusals}
use Rattle.mem_access.specs.declared.bank.Bank.{Bank}
use Rattle.kernel_contexts.specs.Owner.{is_owner}
use Rattle.kernel_contexts.specs.declared.context.Context.{Context}
use Rattle.core_unit.specs.CoreState.{CoreState, BelongTo}
use Rattle.kernel_contexts.specs.Guest.{Guest}
use Rattle.core_unit.specs.Held.{Held, held_on}
use Rattle.core_unit.specs.Need.{need_in_run}
use Rattle.core_unit.specs.Owners.{IsTold, OwnerWith, are_apart, owns_among, numbers_of, freed, freed_by, moved, owner_after_turns}
use Rattle.core_unit.specs.Residents.{RunsHere, HasRetired}
use Rattle.core_unit.specs.Run.{RunsCore, core_after, is_stop}
use Rattle.core_unit.specs.declared.run.CoreRun.{CoreRun}
use Rattle.core_unit.specs.declared.run.RunWhy.TheVariants.{Idle}
use Rattle.core_unit.proofs.Owners.{told_as, told_rest, is_own}
use Rattle.core_unit.proofs.Runs.{never_idle}

-- a list that has a first item
pub first_of : {X : Type 0} (xs rest : List X) (x : X) → xs ≡ x ∷ rest → slice_get xs 0 ≡ Some x
first_of xs rest x is = ap (λ l. slice_get l 0) is

pub cons_of : {X : Type 0} (xs : List X) (x : X) → 0 < length xs → x ≡ slice_index_or xs 0 x → (rest : List X) × (xs ≡ x ∷ rest)
cons_of [] x l e = absurd (omega arith)
cons_of (y ∷ ys) x l e = (ys, ap (λ z. z ∷ ys) (sym e))

-- ---- a fact of each item, where the first one has changed or gone, or there is one more

pub each_set : {X : Type 0} (P : X → Type 0) (xs all rest : List X) (x y : X) → xs ≡ x ∷ rest → all ≡ y ∷ rest → P y
    → ((i : ℕ) (r : X) → slice_get xs i ≡ Some r → P r) → (i : ℕ) (r : X) → slice_get all i ≡ Some r → P r
each_set P xs all rest x y is was mine h zero r get =
    subst P (same_Some y r (ap (λ l. slice_get l 0) (sym was) ∙ get)) mine
each_set P xs all rest x y is was mine h (suc i) r get =
    h (suc i) r (ap (λ l. slice_get l (suc i)) is ∙ ap (λ l. slice_get l (suc i)) (sym was) ∙ get)

pub each_rest : {X : Type 0} (P : X → Type 0) (xs all rest : List X) (x : X) → xs ≡ x ∷ rest → all ≡ rest
    → ((i : ℕ) (r : X) → slice_get xs i ≡ Some r → P r) → (i : ℕ) (r : X) → slice_get all i ≡ Some r → P r
each_rest P xs all rest x is was h i r get = h (suc i) r (ap (λ l. slice_get l (suc i)) is ∙ ap (λ l. slice_get l i) (sym was) ∙ get)

pub each_snoc : {X : Type 0} (P : X → Type 0) (xs : List X) (x : X) → ((i : ℕ) (r : X) → slice_get xs i ≡ Some r → P r) → P x
    → (i : ℕ) (r : X) → slice_get (xs ++ x ∷ []) i ≡ Some r → P r
each_snoc P [] x h mine zero r get = subst P (same_Some x r get) mine
each_snoc P [] x h mine (suc i) r get = absurd (none-some r get)
each_snoc P (y ∷ ys) x h mine zero r get = h zero r get
each_snoc P (y ∷ ys) x h mine (suc i) r get = each_snoc P ys x (λ j z g. h (suc j) z g) mine i r get

-- ---- a run of the first resident

-- its ticket belongs to the port
pub first_belongs : {X T : Type 0} (context : X → Context) (ticket : X → T) (bank : Bank) (xs : List X) (x : X) (name_of : T → List ℕ)
    (name : List ℕ) → slice_get xs 0 ≡ Some x → All (λ h. name_of h.ticket ≡ name) (held_on context ticket bank xs)
    → name_of (ticket x) ≡ name
first_belongs context ticket bank [] x name_of name get h = absurd (none-some x get)
first_belongs context ticket bank (y ∷ ys) x name_of name get h =
    ap (λ z. name_of (ticket z)) (sym (same_Some y x get))
    ∙ All-head (λ h. name_of h.ticket ≡ name) _ (held_on context ticket bank ys) h

module _ {T : Type 0} (refusals : T → Refusals) (gives : ℕ → List Event → T → T → Type 0) (k : ℕ) (before after : Bank) (run : CoreRun)
    (number : ℕ) (config : Config) where
  abbrev core : List (Held T) → List (Held T) → CoreState T
  core residents done = record { number = number; config = config; residents = residents; done = done }

  abbrev Runs : List (Held T) → List (Held T) → Type 0
  Runs old new = RunsHere refusals gives k old before new after run

  pub not_idle : (old new : List (Held T)) → Runs old new → run.why ≡ Idle → ⊥
  not_idle [] new h is = absurd h
  not_idle (first ∷ others) new h is = never_idle _ _ _ _ _ h.1.first is

  -- it stays the first one
  goes_on : (first last : Held T) (others new done : List (Held T)) → new ≡ last ∷ others → is_stop run.why ≡ false
      → core new done ≡ core_after (is_stop run.why) last others (core (first ∷ others) done)
  goes_on first last others new done all not =
      ap (λ l. core l done) all ∙ sym (ap (λ b. core_after b last others (core (first ∷ others) done)) not)

  pub runs_on : (old new done : List (Held T)) → Runs old new → is_stop run.why ≡ false
      → RunsCore refusals gives k (core old done) (core new done) run
  runs_on [] new done h not = absurd h
  runs_on (first ∷ others) new done h not = (h.0, h.1, goes_on first h.0 others new done h.2 not)

  -- the owner of the bank, before a stop
  abbrev owner_mid : Guest → Guest → Option ℕ
  owner_mid first last = owner_after_turns k first last run before.owner

  pub owner_on : (old new done : List (Held T)) → Runs old new → is_stop run.why ≡ false
      → OwnerWith k old (core old done) before.owner (core new done) after.owner run
  owner_on [] new done h not = absurd h
  owner_on (first ∷ others) new done h not =
      let mid = owner_mid first.guest h.0.guest in (
        h.0,
        goes_on first h.0 others new done h.2 not,
        h.3 ∙ sym (ap (λ b. cond b (freed mid first.guest.number) mid) not),
      )

  -- it is done with
  goes_out : (first last : Held T) (others mid new done all : List (Held T)) → mid ≡ last ∷ others → HasRetired mid done new all
      → is_stop run.why ≡ true → core new all ≡ core_after (is_stop run.why) last others (core (first ∷ others) done)
  goes_out first last others mid new done all is r so =
      let out : HasRetired (last ∷ others) done new all = subst (λ l. HasRetired l done new all) is r in
      ap (λ l. core l all) out.0 ∙ ap (λ d. core others d) out.1
      ∙ sym (ap (λ b. core_after b last others (core (first ∷ others) done)) so)

  pub runs_out : (old mid new done all : List (Held T)) → Runs old mid → HasRetired mid done new all → is_stop run.why ≡ true
      → RunsCore refusals gives k (core old done) (core new all) run
  runs_out [] mid new done all h r so = absurd h
  runs_out (first ∷ others) mid new done all h r so = (h.0, h.1, goes_out first h.0 others mid new done all h.2 r so)

  pub owner_out : (old mid new done all : List (Held T)) (owner : Option ℕ) → Runs old mid → HasRetired mid done new all
      → is_stop run.why ≡ true → owner ≡ freed_by mid after.owner
      → OwnerWith k old (core old done) before.owner (core new all) owner run
  owner_out [] mid new done all owner h r so is = absurd h
  owner_out (first ∷ others) mid new done all owner h r so is =
      let here = owner_mid first.guest h.0.guest in (
        h.0,
        goes_out first h.0 others mid new done all h.2 r so,
        is ∙ ap (λ l. freed_by l after.owner) h.2 ∙ ap (freed after.owner) h.1.first.number
            ∙ ap (λ o. freed o first.guest.number) h.3
            ∙ sym (ap (λ b. cond b (freed here first.guest.number) here) so),
      )

  -- the threads stay, and the owner is one of them
  told_moved : (found : Option ℕ) (number : ℕ) (old new : List (Held T)) (others : List ℕ) → numbers_of old ≡ number ∷ others
      → numbers_of new ≡ numbers_of old → IsTold before.owner old → after.owner ≡ moved found number before.owner
      → IsTold after.owner new
  told_moved None number old new others all numbers t is = told_as before.owner after.owner old new is numbers t
  told_moved (Some turn) number old new others all numbers t is = record {
    apart = ap are_apart numbers ∙ t.apart;
    resident = λ n e. ap (owns_among (Some n)) (numbers ∙ all)
        ∙ or_left (is_owner (Some n) number) (owns_among (Some n) others)
        (ap (λ o. is_owner o number) (sym e ∙ is) ∙ is_own number);
  }

  pub told_after : (old new : List (Held T)) → Runs old new → IsTold before.owner old → IsTold after.owner new
  told_after [] new h t = absurd h
  told_after (first ∷ others) new h t =
      told_moved (need_in_run k first.guest h.0.guest run) first.guest.number (first ∷ others) new (numbers_of others) refl
      (ap numbers_of h.2 ∙ ap (λ n. n ∷ numbers_of others) h.1.first.number) t h.3

  abbrev HaveOptions : List (Held T) → Type 0
  HaveOptions hs = (i : ℕ) (h : Held T) → slice_get hs i ≡ Some h → h.guest.config ≡ config

  pub options_on : (old new : List (Held T)) → Runs old new → HaveOptions old → HaveOptions new
  options_on [] new h o = absurd h
  options_on (first ∷ others) new h o =
      each_set (λ x. x.guest.config ≡ config) (first ∷ others) new others first h.0 refl h.2
      (h.1.first.config ∙ o 0 first refl) o

  pub options_out : (mid new done all : List (Held T)) → HasRetired mid done new all → HaveOptions mid → HaveOptions new
  options_out [] new done all r o = absurd r
  options_out (first ∷ others) new done all r o =
      each_rest (λ x. x.guest.config ≡ config) (first ∷ others) new others first refl r.0 o

  pub told_out : (mid new done all : List (Held T)) (owner : Option ℕ) → HasRetired mid done new all → owner ≡ freed_by mid after.owner
      → IsTold after.owner mid → IsTold owner new
  told_out [] new done all owner r is t = absurd r
  told_out (first ∷ others) new done all owner r is t =
      subst (λ o. IsTold o new) (sym is) (subst (IsTold (freed after.owner first.guest.number)) (sym r.0)
      (told_rest after.owner (first ∷ others) first others refl t))

  -- the tickets belong to the port still
  module _ (name_of : T → List ℕ) (name : List ℕ)
      (kept : (n : ℕ) (events : List Event) (t u : T) → gives n events t u → name_of u ≡ name_of t) where
    abbrev named : Held T → Type 0
    named x = name_of x.ticket ≡ name

    named_on : (first last : Held T) (others new : List (Held T)) → new ≡ last ∷ others → name_of last.ticket ≡ name_of first.ticket
        → All named (first ∷ others) → All named new
    named_on first last others new is same h =
        subst (All named) (sym is) (All-cons named last others (same ∙ All-head named first others h) (All-tail named first others h))

    pub belong_on : (old new done : List (Held T)) → Runs old new → BelongTo name_of name (core old done)
        → BelongTo name_of name (core new done)
    belong_on [] new done h b = absurd h
    belong_on (first ∷ others) new done h b = record {
      resident = named_on first h.0 others new h.2 (kept _ _ _ _ h.1.given) b.resident;
      stopped = b.stopped;
    }

    pub belong_out : (mid new done all : List (Held T)) → HasRetired mid done new all → BelongTo name_of name (core mid done)
        → BelongTo name_of name (core new all)
    belong_out [] new done all r b = absurd r
    belong_out (first ∷ others) new done all r b = record {
      resident = subst (All named) (sym r.0) (All-tail named first others b.resident);
      stopped = subst (All named) (sym r.1) (All-push named done first b.stopped (All-head named first others b.resident));
    }
