-- A thread that is followed over turns that are made at once.
use Rattle.std.proofs.Common.{inl, inr, ◌≡◌, ℕ, zero, suc, ◌+◌, ◌-◌, ◌<◌, ◌≤◌, List, length, Option, Some, None, true, refl}
use Rattle.std.proofs.Common.{ap, sym}
use Rattle.std.proofs.Common.{◌∙◌, subst, arith, Bool, false}
use Rattle.std.specs.Prelude.{is_some, IfOk, IfSome, IfNone, MatchOption, Result, Ok, Err}
use Rattle.plain_lemmas.proofs.Numbers.{cases_lt_eq_gt}
use Rattle.plain_lemmas.proofs.Options.{is_some-false}
use Rattle.sm_types.specs.declared.config.Config.{Config}
use Rattle.sm_types.specs.declared.shared_op.Event.{Event}
use Rattle.shared_region.specs.Ports.{ReplayEvents}
use Rattle.paged_memory.specs.Image.{Program}
use Rattle.paged_memory.specs.Memory.{AddressSpace, word_at}
use Rattle.sve_vectors.specs.Lengths.{vector_bytes}
use Rattle.kernel_contexts.specs.State.{State}
use Rattle.machine_step.specs.Several.{HaltsAt}
use Rattle.machine_step.specs.declared.several.Made.{Made}
use Rattle.kernel_contexts.specs.Several.{GoesApart, GoesBy, halts_before}
use Rattle.kernel_contexts.specs.Run.{At, reach}
use Rattle.kernel_contexts.specs.Advance.{AdvancesSeveral}
use Rattle.kernel_contexts.specs.Context.{state_of, config_of, image_of, thread_of, journal_of, stop_of, is_home}
use Rattle.kernel_contexts.specs.declared.context.Context.{Context}
use Rattle.lone_runner.specs.Parting.{parting_at}
use Rattle.lone_runner.proofs.Several.{way_goes_on, gone_at, not_passed, up_to_count}
use Rattle.abi_checker.specs.Halting.{halts_for}
use Rattle.abi_checker.specs.Checked.{states_of}
use Rattle.abi_checker.specs.Whole.{IsWholeWith, IsWholeAt}
use Rattle.abi_checker.specs.Watching.{IsWatched, IsNextCall, IsNextWord, IsNoCall, IsPast}
use Rattle.abi_checker.specs.Following.{GoesFar, IsFollowed, IsFollowedBySome, IsUnderWay}
use Rattle.abi_checker.specs.declared.abi.Abi.{Abi}
use Rattle.abi_checker.specs.declared.watch.Watch.{Watch}
use Rattle.abi_checker.proofs.Deliveries.{plain_over}
use Rattle.abi_checker.proofs.Followed.{now_state, past_counted}
use Rattle.abi_checker.proofs.WholeStates.{whole_at}
use Rattle.abi_checker.proofs.Passed.{told_later}
use Rattle.abi_checker.proofs.Quiet.{AreCounted, are_counted, free_each, goes_by, run_after, no_mark, watched_each}

module _ (program : Program) (config : Config) (thread : ℕ) (journal : List Event) (count : ℕ) (old : Context) (ticket : ReplayEvents)
    (same : config_of old ≡ config) (is : thread_of old ≡ thread) (watch : Watch) (found : Option Abi)
    (h : IsFollowed program config thread journal count old ticket watch found) (new : Context) (n : ℕ)
    (goes : GoesBy (config_of old) (thread_of old) (length (journal_of old)) n (state_of old) (state_of new))
    (total : (state_of new).count ≡ (state_of old).count + n) (quiet : journal_of new ≡ journal_of old)
    (most : (state_of new).count ≤ count) where
  abbrev run : ℕ → State
  run = states_of program config thread journal

  abbrev here : ℕ
  here = h.way.turns

  by_own : GoesBy config thread (length (journal_of old)) n (state_of old) (state_of new)
  by_own =
      subst (λ (k : ℕ). GoesBy config k (length (journal_of old)) n (state_of old) (state_of new)) is
      (subst (λ (k : Config). GoesBy k (thread_of old) (length (journal_of old)) n (state_of old) (state_of new)) same goes)

  -- the thread goes on in each of the states
  abbrev IsUp : ℕ → Type 0
  IsUp m = (s : State) × (done : ℕ) × (left : List Event) × (reach program config thread journal m ≡ At s done left)

  goes_each : (k : ℕ) (t : State) → GoesBy config thread (length (journal_of old)) k (state_of old) t → (m : ℕ) → m ≤ here + k → IsUp m
  goes_each zero t g m l = h.goes m (omega (arith, l))
  goes_each (suc k) t g m l = elim (cases_lt_eq_gt m (here + suc k)) as (λ _. IsUp m) [
    | inl less ↦ goes_each k g.0 g.1 m (omega (arith, less))
    | inr (inl last) ↦ (
      t,
      length (journal_of old),
      ticket.ahead,
      ap (reach program config thread journal) last
          ∙ gone_at program config thread journal count here (suc k) (length (journal_of old)) ticket.ahead (state_of old) t h.way.at g,
    )
    | inr (inr more) ↦ absurd (omega (arith, l, more))
  ]

  counted : AreCounted config thread (length (journal_of old)) run here n
  counted =
      are_counted program config thread journal here (length (journal_of old)) ticket.ahead (state_of old) h.way.at n (state_of new)
      by_own total

  after : run (here + n) ≡ state_of new
  after =
      run_after program config thread journal here (length (journal_of old)) ticket.ahead (state_of old) h.way.at n (state_of new) by_own

  -- with what is told of the last of them
  pub followed_over : (later : Watch) (told : Option Abi) → IsUnderWay run (here + n) later told
      → IsFollowed program config thread journal count new ticket later told
  unfolding way_goes_on
  followed_over later told way = record {
    way = way_goes_on program config thread journal count old new ticket same is n goes quiet most h.way;
    goes = goes_each n (state_of new) by_own;
    plain = plain_over config run thread (length (journal_of old)) here n counted h.plain;
    told = way;
  }

  -- what is told of the last state, where nothing is told of those before
  module _ (call : Option ℕ) (later : Watch) (told : Option Abi)
      (tells : (run : ℕ → State) (m : ℕ) → IsUnderWay run m watch found → run (suc m) ≡ state_of new
      → IsPast (run m) (run (suc m)) call → (run m).count ≤ (run (suc m)).count → IsWholeAt run (suc m)
      → IsUnderWay run (suc m) later told)
      (own : config_of new ≡ config) (whole : IsWholeWith (vector_bytes (config_of new).svl) (state_of new).core) where
    last_whole : IsWholeAt run (here + n)
    last_whole = whole_at program config thread journal (here + n) (state_of new) (config_of new) after own whole

    pub last_told : (k : ℕ) → n ≡ suc k → IsUnderWay run (here + k) watch found
        → IsPast (run (here + k)) (run (here + suc k)) call → IsUnderWay run (here + n) later told
    last_told k e way past =
        let more : here + suc k ≡ suc (here + k) = omega arith in
        let all : here + n ≡ suc (here + k) = omega (arith, e) in
        let grows = counted.counts k (omega (arith, e)) in
        subst (λ i. IsUnderWay run i later told) (sym all)
        (tells run (here + k) way (ap run (sym all) ∙ after) (subst (λ i. IsPast (run (here + k)) (run i) call) more past)
        (subst (λ i. (run (here + k)).count ≤ (run i).count) more (omega (arith, grows)))
        (subst (λ i. IsWholeAt run i) all last_whole))

-- a thread that is followed to a count has not passed it
pub not_over : (program : Program) (config : Config) (thread : ℕ) (journal : List Event) (count : ℕ) (context : Context)
    (ticket : ReplayEvents) (watch : Watch) (found : Option Abi)
    → IsFollowed program config thread journal count context ticket watch found → (state_of context).count ≤ count
not_over program config thread journal count context ticket watch found h =
    not_passed count (state_of context) (length (journal_of context)) ticket.ahead
    (sym (ap (parting_at count) h.way.at) ∙ h.way.none h.way.turns (omega arith))

pub not_over_now : (program : Program) (config : Config) (thread : ℕ) (journal : List Event) (count : ℕ) (context : Context)
    (ticket : ReplayEvents) (watch : Watch) (found : Option Abi) (told : ℕ) → told ≡ (state_of context).count
    → IsFollowed program config thread journal count context ticket watch found → told ≤ count
not_over_now program config thread journal count context ticket watch found told e h =
    let most = not_over program config thread journal count context ticket watch found h in omega (arith, e, most)

-- ---- how far it goes

pub far_first : (context : Context) → is_home context ≡ true → stop_of context ≡ None → GoesFar context context
far_first context home stop = record {
  home = home;
  stop = stop;
  journal = refl;
  same = record { config = refl; thread = refl; image = refl };
  more = omega arith;
  count = omega arith;
}

pub far_on : (old mid new : Context) → GoesFar old mid → GoesFar mid new → GoesFar old new
far_on old mid new far on =
    let turns = far.more in
    let others = on.more in
    let counts = far.count in
    let later = on.count in
    record {
      home = on.home;
      stop = on.stop;
      journal = on.journal ∙ far.journal;
      same = record {
        config = on.same.config ∙ far.same.config;
        thread = on.same.thread ∙ far.same.thread;
        image = on.same.image ∙ far.same.image;
      };
      more = omega (arith, turns, others);
      count = omega (arith, counts, later);
    }

pub far_over : (halts : ℕ → ℕ → Bool) (old new : Context) (most : ℕ) (end : Made) → AdvancesSeveral halts most old new end
    → GoesFar old new
far_over halts old new most end e =
    let made = e.made in
    let count = e.count in
    record {
      home = e.home;
      stop = e.stop;
      journal = e.journal;
      same = e.same;
      more = omega (arith, made);
      count = omega (arith, count);
    }

-- the word that it was told to halt before stands there
some_there : (halts : ℕ → ℕ → Bool) (m : AddressSpace) (pc : ℕ) (o : Option ℕ) (A : Type 0) → MatchOption o A (λ word. HaltsAt halts m pc word)
    → IfSome o (λ word. word_at m pc ≡ Some word)
some_there halts m pc None A h = tt
some_there halts m pc (Some word) A h = h.0

pub halted_there : (halts : ℕ → ℕ → Bool) (old new : Context) (most : ℕ) (end : Made) → AdvancesSeveral halts most old new end
    → IfSome end.halt (λ word. IsNextWord (state_of new) word)
halted_there halts old new most end e =
    some_there halts (state_of new).core.memory (state_of new).core.scalars.pc end.halt _ e.halted

pub if_ok : {T E : Type 0} (r : Result T E) (P : T → Type 0) → ((x : T) → r ≡ Ok x → P x) → IfOk r P
if_ok (Ok x) P f = f x refl
if_ok (Err e) P f = tt

-- ---- a round of turns, as many as are left up to the count at most

one_more : (n : ℕ) → (n ≡ 0 → ⊥) → (k : ℕ) × (n ≡ suc k)
one_more zero some = absurd (some refl)
one_more (suc k) some = (k, refl)

module _ (program : Program) (config : Config) (thread : ℕ) (journal : List Event) (count : ℕ) (old : Context) (ticket : ReplayEvents)
    (same : config_of old ≡ config) (is : thread_of old ≡ thread) (watch : Watch) (found : Option Abi)
    (h : IsFollowed program config thread journal count old ticket watch found) (halts : ℕ → ℕ → Bool) (new : Context)
    (end : Made) (most told : ℕ) (e : AdvancesSeveral halts most old new end) (counts : told ≡ (state_of old).count)
    (few : most ≤ count - told) where
  goes : GoesBy (config_of old) (thread_of old) (length (journal_of old)) end.count (state_of old) (state_of new)
  goes =
      goes_by halts (config_of old) (thread_of old) (length (journal_of old)) end.count (state_of old) (state_of new) e.turns

  pub within : (state_of new).count ≤ count
  within =
      let made = e.few in
      up_to_count (state_of old).count (state_of new).count count end.count told
      (not_over program config thread journal count old ticket watch found h) counts e.count
      (omega (arith, made, few))

  abbrev states : ℕ → State
  states = states_of program config thread journal

  -- with what is told then
  pub round_over : (later : Watch) (now : Option Abi) → IsUnderWay states (h.way.turns + end.count) later now
      → IsFollowed program config thread journal count new ticket later now
  round_over later now way =
      followed_over program config thread journal count old ticket same is watch found h new end.count goes e.count e.journal within
      later now way

  -- none was made
  pub round_stays : end.count ≡ 0 → IsFollowed program config thread journal count new ticket watch found
  round_stays none =
      let here : h.way.turns + end.count ≡ h.way.turns = omega (arith, none) in
      round_over watch found (subst (λ i. IsUnderWay states i watch found) (sym here) h.told)

  module _ (call : Option ℕ) (later : Watch) (now : Option Abi)
      (tells : (run : ℕ → State) (m : ℕ) → IsUnderWay run m watch found → run (suc m) ≡ state_of new
      → IsPast (run m) (run (suc m)) call → (run m).count ≤ (run (suc m)).count → IsWholeAt run (suc m)
      → IsUnderWay run (suc m) later now)
      (whole : IsWholeWith (vector_bytes (config_of new).svl) (state_of new).core) where
    pub round_told : (k : ℕ) → end.count ≡ suc k → IsUnderWay states (h.way.turns + k) watch found
        → IsPast (states (h.way.turns + k)) (states (h.way.turns + suc k)) call
        → IsFollowed program config thread journal count new ticket later now
    round_told k some way past =
        round_over later now
        (last_told program config thread journal count old ticket same is watch found h new end.count goes e.count e.journal within
        call later now tells (e.same.config ∙ same) whole k some way past)

  -- the turns by their own names
  pub own_turns : GoesApart halts false config thread (length (journal_of old)) end.count (state_of old) (state_of new)
  own_turns =
      subst (λ (k : ℕ). GoesApart halts false config k (length (journal_of old)) end.count (state_of old) (state_of new)) is
      (subst (λ (k : Config). GoesApart halts false k (thread_of old) (length (journal_of old)) end.count (state_of old) (state_of new))
      same e.turns)

  pub counted_turns : AreCounted config thread (length (journal_of old)) states h.way.turns end.count
  counted_turns =
      are_counted program config thread journal h.way.turns (length (journal_of old)) ticket.ahead (state_of old) h.way.at end.count
      (state_of new)
      (goes_by halts config thread (length (journal_of old)) end.count (state_of old) (state_of new) own_turns) e.count

-- none of the turns is halted before: nothing is to be told but in the last state, to which none is a call
pub quiet_told : (program : Program) (config : Config) (thread : ℕ) (journal : List Event) (count : ℕ) (old : Context)
    (ticket : ReplayEvents) (same : config_of old ≡ config) (is : thread_of old ≡ thread) (watch : Watch)
    (h : IsFollowed program config thread journal count old ticket watch None) (new : Context) (end : Made) (told : ℕ)
    (e : AdvancesSeveral (λ pc word. halts_for watch.near pc word) (count - told) old new end)
    (counts : told ≡ (state_of old).count) (later : Watch) (now : Option Abi)
    (tells : (run : ℕ → State) (m : ℕ) → IsWatched run m watch → run (suc m) ≡ state_of new
    → IsPast (run m) (run (suc m)) None → (run m).count ≤ (run (suc m)).count → IsWholeAt run (suc m)
    → IsUnderWay run (suc m) later now)
    (whole : IsWholeWith (vector_bytes (config_of new).svl) (state_of new).core) → (end.count ≡ 0 → ⊥)
    → IsFollowed program config thread journal count new ticket later now
quiet_told program config thread journal count old ticket same is watch h new end told e counts later now tells whole some =
    let halts : ℕ → ℕ → Bool = λ pc word. halts_for watch.near pc word in
    let used = length (journal_of old) in
    let run = states_of program config thread journal in
    let own =
    own_turns program config thread journal count old ticket same is watch None h halts new end (count - told) told e counts
    (omega arith) in
    let counted =
    counted_turns program config thread journal count old ticket same is watch None h halts new end (count - told) told e counts
    (omega arith) in
    let free : (j : ℕ) → j < end.count → halts_before (halts_for watch.near) (run (h.way.turns + j)) ≡ false =
    λ j l.
    free_each program config thread journal h.way.turns used ticket.ahead (state_of old) h.way.at halts end.count (state_of new) own j
    l in
    let k = one_more end.count some in
    let less : k.0 < end.count = omega (arith, k.1) in
    round_told program config thread journal count old ticket same is watch None h halts new end (count - told) told e counts
    (omega arith) None later now tells whole k.0 k.1
    (watched_each config thread used run h.way.turns end.count counted watch free h.told k.0 less)
    (no_mark config thread used run h.way.turns end.count counted watch free k.0 less)

-- a fault that is none
pub under_none : (run : ℕ → State) (n : ℕ) (watch : Watch) (found : Option Abi) → found ≡ None → IsUnderWay run n watch None
    → IsUnderWay run n watch found
under_none run n watch found none h = subst (λ o. IsUnderWay run n watch o) (sym none) h

-- the one turn is that of a call, or of none
pub one_told : (program : Program) (config : Config) (thread : ℕ) (journal : List Event) (count : ℕ) (old : Context)
    (ticket : ReplayEvents) (same : config_of old ≡ config) (is : thread_of old ≡ thread) (watch : Watch)
    (h : IsFollowed program config thread journal count old ticket watch None) (halts : ℕ → ℕ → Bool) (new : Context) (end : Made)
    (most told : ℕ) (e : AdvancesSeveral halts most old new end) (counts : told ≡ (state_of old).count)
    (few : most ≤ count - told) (single : most ≤ 1) (call : Option ℕ) → IfSome call (λ past. IsNextCall (state_of old) past)
    → IfNone call (IsNoCall (state_of old)) → (later : Watch) (now : Option Abi)
    (tells : (run : ℕ → State) (m : ℕ) → IsWatched run m watch → run (suc m) ≡ state_of new
    → IsPast (run m) (run (suc m)) call → (run m).count ≤ (run (suc m)).count → IsWholeAt run (suc m)
    → IsUnderWay run (suc m) later now)
    (whole : IsWholeWith (vector_bytes (config_of new).svl) (state_of new).core) → (end.count ≡ 0 → ⊥)
    → IsFollowed program config thread journal count new ticket later now
one_told program config thread journal count old ticket same is watch h halts new end most told e counts few single call past none
    later now tells whole some =
    let run = states_of program config thread journal in
    let here = h.way.turns in
    let state = now_state program config thread journal count old ticket same is watch None h in
    let counted =
    counted_turns program config thread journal count old ticket same is watch None h halts new end most told e counts few in
    let made = e.few in
    let k = one_more end.count some in
    let first : here + k.0 ≡ here = omega (arith, k.1, made, single) in
    let less : k.0 < end.count = omega (arith, k.1) in
    let grows = counted.counts k.0 less in
    round_told program config thread journal count old ticket same is watch None h halts new end most told e counts few call later now
    tells whole k.0 k.1 (subst (λ i. IsWatched run i watch) (sym first) h.told)
    (subst (λ i. IsPast (run i) (run (here + suc k.0)) call) (sym first)
    (past_counted (run here) (run (here + suc k.0)) call
    (subst (λ (s : State). IfSome call (λ past. IsNextCall s past)) (sym state) past)
    (subst (λ (s : State). IfNone call (IsNoCall s)) (sym state) none)
    (subst (λ i. (run (here + suc k.0)).count ≡ suc (run i).count) first grows)))

-- a fault was told, and the turns go on
found_later : (run : ℕ → State) (n k : ℕ) (watch : Watch) (found : Option Abi) → is_some found ≡ true → IsUnderWay run n watch found
    → IsUnderWay run (n + k) watch found
found_later run n k watch None e h = cc
found_later run n k watch (Some abi) e h = told_later run n k watch abi h

pub found_over : (program : Program) (config : Config) (thread : ℕ) (journal : List Event) (count : ℕ) (old : Context)
    (ticket : ReplayEvents) (same : config_of old ≡ config) (is : thread_of old ≡ thread) (watch : Watch) (found : Option Abi)
    (h : IsFollowed program config thread journal count old ticket watch found) (halts : ℕ → ℕ → Bool) (new : Context) (end : Made)
    (told : ℕ) (e : AdvancesSeveral halts (count - told) old new end) (counts : told ≡ (state_of old).count) → is_some found ≡ true
    → IsFollowed program config thread journal count new ticket watch found
found_over program config thread journal count old ticket same is watch found h halts new end told e counts some =
    round_over program config thread journal count old ticket same is watch found h halts new end (count - told) told e counts
    (omega arith) watch found
    (found_later (states_of program config thread journal) h.way.turns end.count watch found some h.told)

pub found_none : (program : Program) (config : Config) (thread : ℕ) (journal : List Event) (count : ℕ) (context : Context)
    (ticket : ReplayEvents) (watch : Watch) (found : Option Abi) → is_some found ≡ false
    → IsFollowed program config thread journal count context ticket watch found
    → IsFollowed program config thread journal count context ticket watch None
found_none program config thread journal count context ticket watch found quiet h =
    subst (λ o. IsFollowed program config thread journal count context ticket watch o) (is_some-false found quiet) h

-- ---- of the same thread, by other names

pub moved : (program other : Program) (config own : Config) (thread number : ℕ) → program ≡ other → config ≡ own → thread ≡ number
    → (journal : List Event) (count : ℕ) (context : Context) (ticket : ReplayEvents) (watch : Watch) (found : Option Abi)
    → IsFollowed program config thread journal count context ticket watch found
    → IsFollowed other own number journal count context ticket watch found
moved program other config own thread number e f g journal count context ticket watch found h =
    subst (λ (p : Program). IsFollowed p own number journal count context ticket watch found) e
    (subst (λ (k : Config). IsFollowed program k number journal count context ticket watch found) f
    (subst (λ (t : ℕ). IsFollowed program config t journal count context ticket watch found) g h))

pub by_some : (program : Program) (config : Config) (thread : ℕ) (journal : List Event) (count : ℕ) (context : Context)
    (ticket : ReplayEvents) (watch : Watch) (found : Option Abi) → image_of context ≡ program → config_of context ≡ config
    → thread_of context ≡ thread → IsFollowed program config thread journal count context ticket watch found
    → IsFollowedBySome count context watch found
by_some program config thread journal count context ticket watch found e f g h = record {
  journal = journal;
  ticket = ticket;
  followed = moved program (image_of context) config (config_of context) thread (thread_of context) (sym e) (sym f) (sym g) journal
      count context ticket watch found h;
}

module _ (first old : Context) (far : GoesFar first old) (journal : List Event) (count : ℕ) (ticket : ReplayEvents) (watch : Watch)
    (found : Option Abi)
    (h : IsFollowed (image_of first) (config_of first) (thread_of first) journal count old ticket watch found) where
  pub own_followed : IsFollowed (image_of old) (config_of old) (thread_of old) journal count old ticket watch found
  own_followed =
      moved (image_of first) (image_of old) (config_of first) (config_of old) (thread_of first) (thread_of old) (sym far.same.image)
      (sym far.same.config) (sym far.same.thread) journal count old ticket watch found h

  pub some_followed : IsFollowedBySome count old watch found
  some_followed =
      by_some (image_of first) (config_of first) (thread_of first) journal count old ticket watch found far.same.image far.same.config
      far.same.thread h

  pub first_followed : (new : Context) (later : Watch) (now : Option Abi)
      → IsFollowed (image_of old) (config_of old) (thread_of old) journal count new ticket later now
      → IsFollowed (image_of first) (config_of first) (thread_of first) journal count new ticket later now
  first_followed new later now on =
      moved (image_of old) (image_of first) (config_of old) (config_of first) (thread_of old) (thread_of first) far.same.image
      far.same.config far.same.thread journal count new ticket later now on

pub fewer : (count old mid new before now : ℕ) → old ≤ mid → before ≡ mid → now ≡ new → (now ≡ before → ⊥) → mid ≤ new → new ≤ count
    → count - new < count - old
fewer count old mid new before now up e f other on most = omega (arith, up, e, f, other, on, most)

-- over turns at which nothing was told
pub quiet_followed : (first old : Context) (far : GoesFar first old) (journal : List Event) (count : ℕ) (ticket : ReplayEvents)
    (watch : Watch) (h : IsFollowed (image_of first) (config_of first) (thread_of first) journal count old ticket watch None)
    (new : Context) (later : Watch) (found : Option Abi)
    (on : IsFollowed (image_of old) (config_of old) (thread_of old) journal count old ticket watch None
    → IsFollowed (image_of old) (config_of old) (thread_of old) journal count new ticket later found) → found ≡ None
    → IsFollowed (image_of first) (config_of first) (thread_of first) journal count new ticket later None
quiet_followed first old far journal count ticket watch h new later found on quiet =
    subst (λ o. IsFollowed (image_of first) (config_of first) (thread_of first) journal count new ticket later o) quiet
    (first_followed first old far journal count ticket watch None h new later found
    (on (own_followed first old far journal count ticket watch None h)))
