-- Banks that move between residents.
use Rattle.std.proofs.Common.{◌≡◌, ℕ, zero, suc, List, [], ◌∷◌, Some, None, Bool, true, false}
use Rattle.std.proofs.Common.{refl, sym, ap, ◌∙◌, subst, cond}
use Rattle.std.specs.Prelude.{not, slice_get, slice_set}
use Rattle.std.proofs.lemmas.Option.{same_Some, none-some}
use Rattle.sm_types.specs.declared.config.Config.{Config}
use Rattle.mem_access.specs.Bank.{bank_state}
use Rattle.mem_access.specs.declared.bank.Bank.{Bank}
use Rattle.machine_step.specs.Machine.{IsSameBank}
use Rattle.kernel_contexts.specs.Owner.{is_owner, owns}
use Rattle.kernel_contexts.specs.Context.{IsOn, thread_of, config_of, is_home, stop_of, journal_of, state_of, state_on, state_with}
use Rattle.kernel_contexts.specs.Context.{bank_of, IsSameThread}
use Rattle.kernel_contexts.specs.SaveArea.{HasLengths}
use Rattle.kernel_contexts.specs.State.{State}
use Rattle.kernel_contexts.specs.declared.context.Context.{Context}
use Rattle.kernel_contexts.specs.Guest.{guest_with, guest_of, guest_on}
use Rattle.core_unit.specs.Held.{Held, held_on}
use Rattle.core_unit.specs.Owners.{owns_among, are_apart}
use Rattle.core_unit.specs.Residents.{HasSameLengths}
use Rattle.core_unit.proofs.Owners.{item, home, threads, item_home, held_still, not_at, other_owns, none_owns, is_owned, other_number}
use Rattle.core_unit.proofs.Owners.{apart_first, apart_rest}

-- a context that does not own the one bank or the other
pub on_moved : (c : Context) (bank after : Bank) → IsOn c bank → owns bank (thread_of c) ≡ false → owns after (thread_of c) ≡ false
    → HasSameLengths bank after → IsOn c after
on_moved c bank after h here there same = record {
  lengths = record { vl = same.vl ∙ h.lengths.vl; svl = same.svl ∙ h.lengths.svl };
  place = h.place ∙ ap not here ∙ sym (ap not there);
  fit = λ owned. cc;
  run = λ owned. cc;
}

-- one that is home, where its thread does not own the bank
pub home_on : (c old : Context) (bank : Bank) → config_of c ≡ config_of old → is_home c ≡ true → owns bank (thread_of c) ≡ false
    → HasLengths (config_of old) bank → IsOn c bank
home_on c old bank same home apart lengths = record {
  lengths = record {
    vl = lengths.vl ∙ ap (λ (k : Config). k.vl) (sym same);
    svl = lengths.svl ∙ ap (λ (k : Config). k.svl) (sym same);
  };
  place = home ∙ sym (ap not apart);
  fit = λ owned. cc;
  run = λ owned. cc;
}

pub home_of : (c : Context) (bank : Bank) → IsOn c bank → owns bank (thread_of c) ≡ false → is_home c ≡ true
home_of c bank h apart = h.place ∙ ap not apart

pub away_of : (c : Context) (bank : Bank) → IsOn c bank → owns bank (thread_of c) ≡ true → is_home c ≡ false
away_of c bank h owned = h.place ∙ ap not owned

-- a bank of the lengths of a context's options, and another one
pub same_lengths : (config given : Config) (bank after : Bank) → given ≡ config → HasLengths config bank → HasLengths given after
    → HasSameLengths bank after
same_lengths config given bank after same h l = record {
  vl = l.vl ∙ ap (λ (k : Config). k.vl) same ∙ sym h.vl;
  svl = l.svl ∙ ap (λ (k : Config). k.svl) same ∙ sym h.svl;
}

-- the plain state of a thread that does not own a bank
home_state : (c : Context) (bank : Bank) → owns bank (thread_of c) ≡ false → state_on c bank ≡ state_of c
home_state c bank e = ap (λ b. state_with c (cond b (bank_state bank) (bank_of c))) e

-- a thread whose context has changed, but not in what is plain
module _ (old new : Context) (same : IsSameThread old new) (stop : stop_of new ≡ stop_of old) (journal : journal_of new ≡ journal_of old) where
  guest_as : (s t : State) → t ≡ s → guest_with new t ≡ guest_with old s
  guest_as s t is = λ i. record {
    program = same.image i;
    config = same.config i;
    number = same.thread i;
    state = is i;
    stop = stop i;
    journal = journal i;
  }

  -- its vectors are home
  pub guest_home : (bank : Bank) → state_of new ≡ state_on old bank → guest_of new ≡ guest_on bank old
  guest_home bank is = guest_as (state_on old bank) (state_of new) is

  pub guest_out : (bank after : Bank) → owns after (thread_of new) ≡ false → state_of new ≡ state_on old bank
      → guest_on after new ≡ guest_on bank old
  guest_out bank after apart is = guest_as (state_on old bank) (state_on new after) (home_state new after apart ∙ is)

  -- or in the bank
  pub guest_in : (bank after : Bank) → owns bank (thread_of old) ≡ false → state_on new after ≡ state_of old
      → guest_on after new ≡ guest_on bank old
  guest_in bank after apart is = guest_as (state_on old bank) (state_on new after) (is ∙ sym (home_state old bank apart))

module _ {X T : Type 0} (context : X → Context) (ticket : X → T) (bank after : Bank) where
  abbrev AllOn : Bank → List X → Type 0
  AllOn b xs = (i : ℕ) (x : X) → slice_get xs i ≡ Some x → IsOn (context x) b

  pub all_moved : (xs : List X) → AllOn bank xs → owns_among bank.owner (threads context ticket xs) ≡ false
      → owns_among after.owner (threads context ticket xs) ≡ false → HasSameLengths bank after → AllOn after xs
  all_moved xs on h l same = λ i x get.
      on_moved (context x) bank after (on i x get) (not_at context ticket bank.owner xs i x h get)
      (not_at context ticket after.owner xs i x l get) same

  pub all_rest : (x : X) (xs : List X) → AllOn bank (x ∷ xs) → AllOn bank xs
  all_rest x xs on = λ i r get. on (suc i) r get

  pub all_first : (x : X) (xs : List X) → IsOn (context x) after → AllOn after xs → AllOn after (x ∷ xs)
  all_first x xs mine on zero r get = subst (λ z. IsOn (context z) after) (same_Some x r get) mine
  all_first x xs mine on (suc i) r get = on i r get

  -- the owner at some place has the bank no more
  module _ (none : after.owner ≡ None) (same : HasSameLengths bank after) where
    free : (ns : List ℕ) → owns_among after.owner ns ≡ false
    free ns = ap (λ o. owns_among o ns) none ∙ none_owns ns

    not_mine : (y x : X) (ys : List X) (i : ℕ) → bank.owner ≡ Some (thread_of (context x)) → slice_get ys i ≡ Some x
        → are_apart (threads context ticket (y ∷ ys)) ≡ true → owns bank (thread_of (context y)) ≡ false
    not_mine y x ys i owner get apart =
        ap (λ o. is_owner o (thread_of (context y))) owner
        ∙ other_number (thread_of (context x)) (thread_of (context y))
        (not_at context ticket (Some (thread_of (context y))) ys i x (apart_first (thread_of (context y)) (threads context ticket ys) apart)
        get)

    pub freed_held : (xs : List X) (i : ℕ) (x new : X) → slice_get xs i ≡ Some x → bank.owner ≡ Some (thread_of (context x))
        → are_apart (threads context ticket xs) ≡ true → item context ticket after new ≡ item context ticket bank x
        → held_on context ticket after (slice_set xs i new) ≡ held_on context ticket bank xs
    freed_held [] i x new get owner apart mine = absurd (none-some x get)
    freed_held (y ∷ ys) zero x new get owner apart mine =
        let is : y ≡ x = same_Some y x get in
        let first = mine ∙ ap (item context ticket bank) (sym is) in
        let rest = held_still context ticket bank after ys
        (other_owns bank.owner (thread_of (context y)) (threads context ticket ys)
        (owner ∙ ap (λ z. Some (thread_of (context z))) (sym is)) apart)
        (free (threads context ticket ys)) in
        λ j. first j ∷ rest j
    freed_held (y ∷ ys) (suc i) x new get owner apart mine =
        let first = item_home context ticket after y (ap (λ o. is_owner o (thread_of (context y))) none)
        ∙ sym (item_home context ticket bank y (not_mine y x ys i owner get apart)) in
        let rest = freed_held ys i x new get owner (apart_rest (thread_of (context y)) (threads context ticket ys) apart) mine in
        λ j. first j ∷ rest j

    pub freed_on : (xs : List X) (i : ℕ) (x new : X) → slice_get xs i ≡ Some x → bank.owner ≡ Some (thread_of (context x))
        → are_apart (threads context ticket xs) ≡ true → IsOn (context new) after → AllOn bank xs
        → AllOn after (slice_set xs i new)
    freed_on [] i x new get owner apart mine on = absurd (none-some x get)
    freed_on (y ∷ ys) zero x new get owner apart mine on =
        all_first new ys mine (all_moved ys (all_rest y ys on)
        (other_owns bank.owner (thread_of (context y)) (threads context ticket ys)
        (owner ∙ ap (λ z. Some (thread_of (context z))) (sym (same_Some y x get))) apart)
        (free (threads context ticket ys)) same)
    freed_on (y ∷ ys) (suc i) x new get owner apart mine on =
        all_first y (slice_set ys i new)
        (on_moved (context y) bank after (on zero y refl) (not_mine y x ys i owner get apart)
        (ap (λ o. is_owner o (thread_of (context y))) none) same)
        (freed_on ys i x new get owner (apart_rest (thread_of (context y)) (threads context ticket ys) apart) mine (all_rest y ys on))

  -- turns of a first resident on the bank, which they leave as it is where its thread does not own it
  module _ (n : ℕ) (same : IsSameBank bank after) (stays : owns bank n ≡ false → after ≡ bank) where
    held_by : (owned : Bool) → owns bank n ≡ owned → (xs : List X) → are_apart (n ∷ threads context ticket xs) ≡ true
        → held_on context ticket after xs ≡ held_on context ticket bank xs
    held_by false test xs apart = ap (λ b. held_on context ticket b xs) (stays test)
    held_by true test xs apart =
        let owner = is_owned bank.owner n test in
        held_still context ticket bank after xs (other_owns bank.owner n (threads context ticket xs) owner apart)
        (other_owns after.owner n (threads context ticket xs) (same.owner ∙ owner) apart)

    pub others_held : (xs : List X) → are_apart (n ∷ threads context ticket xs) ≡ true
        → held_on context ticket after xs ≡ held_on context ticket bank xs
    others_held xs apart = held_by (owns bank n) refl xs apart

    on_by : (owned : Bool) → owns bank n ≡ owned → (xs : List X) → are_apart (n ∷ threads context ticket xs) ≡ true
        → AllOn bank xs → AllOn after xs
    on_by false test xs apart on = λ i x get. subst (IsOn (context x)) (sym (stays test)) (on i x get)
    on_by true test xs apart on =
        let owner = is_owned bank.owner n test in
        all_moved xs on (other_owns bank.owner n (threads context ticket xs) owner apart)
        (other_owns after.owner n (threads context ticket xs) (same.owner ∙ owner) apart) (record { vl = same.vl; svl = same.svl })

    pub others_on : (xs : List X) → are_apart (n ∷ threads context ticket xs) ≡ true → AllOn bank xs → AllOn after xs
    others_on xs apart on = on_by (owns bank n) refl xs apart on

  -- the first one has changed
  pub ran_on : (xs rest : List X) (x new : X) → xs ≡ x ∷ rest → IsOn (context new) after → AllOn after rest
      → AllOn after (slice_set xs 0 new)
  ran_on xs rest x new is mine on = subst (AllOn after) (sym (ap (λ l. slice_set l 0 new) is)) (all_first new rest mine on)

  pub ran_held : (xs rest : List X) (x new : X) → xs ≡ x ∷ rest
      → held_on context ticket after rest ≡ held_on context ticket bank rest
      → held_on context ticket after (slice_set xs 0 new) ≡ item context ticket after new ∷ held_on context ticket bank rest
  ran_held xs rest x new is others =
      ap (λ l. held_on context ticket after (slice_set l 0 new)) is ∙ ap (λ l. item context ticket after new ∷ l) others

  pub split_on : (xs rest : List X) (x : X) → xs ≡ x ∷ rest → AllOn bank xs → AllOn bank rest
  split_on xs rest x is on = all_rest x rest (subst (AllOn bank) is on)

  pub split_apart : (xs rest : List X) (x : X) → xs ≡ x ∷ rest → are_apart (threads context ticket xs) ≡ true
      → are_apart (thread_of (context x) ∷ threads context ticket rest) ≡ true
  split_apart xs rest x is h = ap (λ l. are_apart (threads context ticket l)) (sym is) ∙ h

  -- it takes the bank, which no thread owns
  module _ (xs rest : List X) (x new : X) (is : xs ≡ x ∷ rest) (none : bank.owner ≡ None)
      (owner : after.owner ≡ Some (thread_of (context x))) (apart : are_apart (threads context ticket xs) ≡ true) where
    pub taken_held : item context ticket after new ≡ item context ticket bank x
        → held_on context ticket after (slice_set xs 0 new) ≡ held_on context ticket bank xs
    taken_held mine =
        let others = held_still context ticket bank after rest (ap (λ o. owns_among o (threads context ticket rest)) none
        ∙ none_owns (threads context ticket rest))
        (other_owns after.owner (thread_of (context x)) (threads context ticket rest) owner (split_apart xs rest x is apart)) in
        ran_held xs rest x new is others ∙ ap (λ h. h ∷ held_on context ticket bank rest) mine
        ∙ ap (held_on context ticket bank) (sym is)

    pub taken_on : IsOn (context new) after → AllOn bank xs → HasSameLengths bank after → AllOn after (slice_set xs 0 new)
    taken_on mine on same =
        ran_on xs rest x new is mine (all_moved rest (split_on xs rest x is on)
        (ap (λ o. owns_among o (threads context ticket rest)) none ∙ none_owns (threads context ticket rest))
        (other_owns after.owner (thread_of (context x)) (threads context ticket rest) owner (split_apart xs rest x is apart)) same)

  -- it goes, and no thread owns the bank
  module _ (xs rest all : List X) (x : X) (is : xs ≡ x ∷ rest) (was : all ≡ rest) (owner : bank.owner ≡ Some (thread_of (context x)))
      (none : after.owner ≡ None) (apart : are_apart (threads context ticket xs) ≡ true) where
    pub gone_held : (h : Held T) → h ≡ item context ticket bank x
        → held_on context ticket bank xs ≡ h ∷ held_on context ticket after all
    gone_held h mine =
        let others = held_still context ticket bank after rest
        (other_owns bank.owner (thread_of (context x)) (threads context ticket rest) owner (split_apart xs rest x is apart))
        (ap (λ o. owns_among o (threads context ticket rest)) none ∙ none_owns (threads context ticket rest)) in
        ap (held_on context ticket bank) is ∙ ap (λ k. k ∷ held_on context ticket bank rest) (sym mine)
        ∙ ap (λ l. h ∷ l) (sym others) ∙ ap (λ l. h ∷ held_on context ticket after l) (sym was)

    pub gone_on : AllOn bank xs → HasSameLengths bank after → AllOn after all
    gone_on on same =
        subst (AllOn after) (sym was) (all_moved rest (split_on xs rest x is on)
        (other_owns bank.owner (thread_of (context x)) (threads context ticket rest) owner (split_apart xs rest x is apart))
        (ap (λ o. owns_among o (threads context ticket rest)) none ∙ none_owns (threads context ticket rest)) same)
