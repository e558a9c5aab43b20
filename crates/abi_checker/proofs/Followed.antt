-- A thread that is followed over its run, and what is told of it.
use Rattle.std.proofs.Common.{inl, inr, ◌≡◌, ℕ, suc, ◌<◌, ◌≤◌, ◌^◌, List, [], ◌++◌, length, ap, sym, ◌∙◌}
use Rattle.std.proofs.Common.{arith, subst, Option, Some, None}
use Rattle.std.specs.Prelude.{nat_lt, cond, IfSome, IfNone}
use Rattle.std.proofs.lemmas.Bool.{cases_Bool, both_ways}
use Rattle.std.proofs.lemmas.Bool.Decides.{nat_tests}
use Rattle.sm_types.specs.declared.config.Config.{Config}
use Rattle.sm_types.specs.declared.shared_op.Event.{Event}
use Rattle.sm_types.specs.declared.stop.Stop.{Stop}
use Rattle.shared_region.specs.Ports.{ReplayEvents}
use Rattle.paged_memory.specs.Image.{Program}
use Rattle.sve_vectors.specs.Lengths.{vector_bytes}
use Rattle.kernel_contexts.specs.State.{State, start_state}
use Rattle.kernel_contexts.specs.HandlerRun.{IsPlain}
use Rattle.kernel_contexts.specs.Run.{At, Ended, reach}
use Rattle.kernel_contexts.specs.Context.{state_of, config_of, image_of, thread_of, journal_of}
use Rattle.kernel_contexts.specs.declared.context.Context.{Context}
use Rattle.lone_runner.specs.Parting.{parting_at, state_at}
use Rattle.lone_runner.specs.Replayed.{IsAtStart, place_of, next_place}
use Rattle.lone_runner.proofs.Counted.{IsCounted}
use Rattle.lone_runner.proofs.Partings.{reach_counts, reach_start, whole_end}
use Rattle.lone_runner.proofs.Shown.{state_standing}
use Rattle.lone_runner.proofs.Ways.{way_starts, way_on, next_at, up_to, IsStopped}
use Rattle.abi_checker.specs.Marks.{is_call_word}
use Rattle.abi_checker.specs.Faults.{HasFault}
use Rattle.abi_checker.specs.Checked.{IsChecked, IsTold, states_of}
use Rattle.abi_checker.specs.Whole.{IsWholeWith, IsWholeAt}
use Rattle.abi_checker.specs.Watching.{IsWatched, IsNextCall, IsNoCall, IsPast}
use Rattle.abi_checker.specs.Following.{IsFollowed, IsUnderWay, IsSomewhereWith}
use Rattle.abi_checker.specs.declared.abi.Abi.{Abi}
use Rattle.abi_checker.specs.declared.abi.AbiKind.{AbiKind}
use Rattle.abi_checker.specs.declared.abi.AbiKind.TheVariants.{NotDormant, NotLawful, TooDeep}
use Rattle.abi_checker.specs.declared.watch.Watch.{Watch}
use Rattle.abi_checker.proofs.Deliveries.{plain_first, plain_next}
use Rattle.abi_checker.proofs.WholeStates.{whole_first, whole_at}

-- ---- the start

none_first : (run : ℕ → State) (kind : AbiKind) → ¬ HasFault run 0 kind
none_first run NotLawful f = let after = f.return.after in omega (arith, after)
none_first run NotDormant f = f.marked
none_first run TooDeep f = f.marked

pub watched_first : (run : ℕ → State) (watch : Watch) → watch.calls.items ≡ [] → watch.returned ≡ 0
    → IsWatched run 0 watch
watched_first run watch e z =
    let short : length watch.calls.items ≡ 0 = ap (λ l. length l) e in
    record {
      none = λ m kind within.
          let zero : m ≡ 0 = omega (arith, within) in subst (λ i. ¬ HasFault run i kind) (sym zero) (none_first run kind);
      lawful = λ c m p within r. let after = r.after in absurd (omega (arith, within, after));
      whole = whole_first run;
      walked = inr (inr ((λ p h. h), (e, z)));
      few = omega (arith, short);
      counted = omega (arith, short, z);
      near = λ k d less. absurd (omega (arith, less, short));
    }

-- ---- the call that stood at PC

pub past_counted : (s t : State) (call : Option ℕ) → IfSome call (λ past. IsNextCall s past) → IfNone call (IsNoCall s)
    → t.count ≡ suc s.count → IsPast s t call
past_counted s t (Some past) some none counted =
    (record { word = some.word; there = some.there; calls = some.calls; counted = counted }, some.place)
past_counted s t None some none counted = λ p h.
    let call = h.call in both_ways (is_call_word call.word) (none call.word call.there) call.calls

pub past_means : (s t : State) (call past : Option ℕ) → IfSome call (λ past. IsNextCall s past) → IfNone call (IsNoCall s)
    → IsCounted s t → past ≡ cond (nat_lt s.count t.count) call None → IsPast s t past
past_means s t call past some none counts e = elim (cases_Bool (nat_lt s.count t.count)) [
  | inl less ↦
      let over : s.count < t.count = grind (arith, nat_tests) in
      let most = counts.most in
      let one : t.count ≡ suc s.count = omega (arith, over, most) in
      subst (IsPast s t) (sym (e ∙ ap (λ b. cond b call None) less)) (past_counted s t call some none one)
  | inr same ↦
      let under : t.count ≤ s.count = grind (arith, nat_tests) in
      let apart : IsPast s t None = λ p h. let one = h.call.counted in omega (arith, under, one) in
      subst (IsPast s t) (sym (e ∙ ap (λ b. cond b call None) same)) apart
]

-- ---- the way

module _ (program : Program) (config : Config) (thread : ℕ) (journal : List Event) (count : ℕ) (old : Context)
    (before : ReplayEvents) (same : config_of old ≡ config) (is : thread_of old ≡ thread) (watch : Watch) (found : Option Abi)
    (h : IsFollowed program config thread journal count old before watch found) where
  abbrev run : ℕ → State
  run = states_of program config thread journal

  abbrev here : ℕ
  here = h.way.turns

  pub now_state : run here ≡ state_of old
  now_state = ap state_at h.way.at

  plain_now : IsPlain (config_of old) (state_of old) → IsPlain config (run here)
  plain_now plain =
      subst (λ (s : State). IsPlain config s) (sym now_state) (subst (λ (k : Config). IsPlain k (state_of old)) same plain)

  pub next_state : (new : Context) (after : ReplayEvents) (stop : Option Stop) → next_place old before ≡ place_of new after stop
      → run (suc here) ≡ state_of new
  next_state new after stop e =
      ap state_at (next_at program config thread journal count old before same is h.way (place_of new after stop) e)
      ∙ state_standing (state_of new) stop (length (journal_of new)) after.ahead

  pub next_counts : IsCounted (run here) (run (suc here))
  next_counts = reach_counts program config thread journal count here

  pub past_here : (new : Context) (after : ReplayEvents) (stop : Option Stop) (call past : Option ℕ) (first now : ℕ)
      → next_place old before ≡ place_of new after stop
      → IfSome call (λ past. IsNextCall (state_of old) past) → IfNone call (IsNoCall (state_of old))
      → first ≡ (state_of old).count → now ≡ (state_of new).count → past ≡ cond (nat_lt first now) call None
      → IsPast (run here) (run (suc here)) past
  past_here new after stop call past first now e some none f g p =
      let is = now_state in
      let later = next_state new after stop e in
      past_means (run here) (run (suc here)) call past
      (subst (λ (s : State). IfSome call (λ past. IsNextCall s past)) (sym is) some)
      (subst (λ (s : State). IfNone call (IsNoCall s)) (sym is) none) next_counts
      (p ∙ ap (λ i. cond (nat_lt i now) call None) (f ∙ sym (ap (λ (s : State). s.count) is))
      ∙ ap (λ i. cond (nat_lt (run here).count i) call None) (g ∙ sym (ap (λ (s : State). s.count) later)))

  pub somewhere_here : (first : ℕ) → first ≡ (state_of old).count → first < 2 ^ 32 → IsSomewhereWith watch found
  somewhere_here first e small =
      (run, here, h.told, subst (λ n. n < 2 ^ 32) (e ∙ sym (ap (λ (s : State). s.count) now_state)) small)

  pub somewhere_next : (new : Context) (after : ReplayEvents) (stop : Option Stop) (later : Watch) (told : Option Abi) (now : ℕ)
      → next_place old before ≡ place_of new after stop → now ≡ (state_of new).count → now < 2 ^ 32
      → IsUnderWay run (suc here) later told → IsSomewhereWith later told
  somewhere_next new after stop later told now e g small way =
      (run, suc here, way, subst (λ n. n < 2 ^ 32) (g ∙ sym (ap (λ (s : State). s.count) (next_state new after stop e))) small)

  pub followed_on : (new : Context) (after : ReplayEvents) (later : Watch) (told : Option Abi)
      → next_place old before ≡ place_of new after None → journal_of new ++ after.ahead ≡ journal_of old ++ before.ahead
      → parting_at count (place_of new after None) ≡ None → IsPlain (config_of old) (state_of old)
      → IsUnderWay run (suc here) later told → IsFollowed program config thread journal count new after later told
  unfolding way_on
  followed_on new after later told e stays none plain way = record {
    way = way_on program config thread journal count old before same is h.way new after e stays none;
    goes = up_to
        (λ m. (s : State) × (done : ℕ) × (left : List Event) × (reach program config thread journal m ≡ At s done left)) here h.goes (
          state_of new,
          length (journal_of new),
          after.ahead,
          next_at program config thread journal count old before same is h.way (place_of new after None) e,
        );
    plain = plain_next config run here h.plain (plain_now plain);
    told = way;
  }

  -- what is told of the next state
  pub told_on : (new : Context) (after : ReplayEvents) (stop : Option Stop) (call past : Option ℕ) (first now : ℕ) (later : Watch)
      (told : Option Abi) → next_place old before ≡ place_of new after stop
      → IfSome call (λ past. IsNextCall (state_of old) past) → IfNone call (IsNoCall (state_of old))
      → first ≡ (state_of old).count → now ≡ (state_of new).count → past ≡ cond (nat_lt first now) call None
      → config_of new ≡ config_of old → IsWholeWith (vector_bytes (config_of new).svl) (state_of new).core
      → ((run : ℕ → State) (n : ℕ) → IsUnderWay run n watch found → run (suc n) ≡ state_of new
      → IsPast (run n) (run (suc n)) past → (run n).count ≤ (run (suc n)).count → IsWholeAt run (suc n)
      → IsUnderWay run (suc n) later told)
      → IsUnderWay run (suc here) later told
  told_on new after stop call past first now later told e some none f g p config_is whole tells =
      tells run here h.told (next_state new after stop e) (past_here new after stop call past first now e some none f g p)
      next_counts.least
      (whole_at program config thread journal (suc here) (state_of new) (config_of new) (next_state new after stop e)
      (config_is ∙ same) whole)

  pub checked : (new : Context) (after : ReplayEvents) (stop : Stop) (abi : Abi)
      → next_place old before ≡ place_of new after (Some stop)
      → parting_at count (place_of new after (Some stop)) ≡ None → IsPlain (config_of old) (state_of old)
      → IsTold run (suc here) abi → IsChecked program config thread journal count abi
  checked new after stop abi e none plain told =
      let end = whole_end program config thread journal count (state_of new) stop (length (journal_of new)) after.ahead none in
      record {
        turns = suc here;
        state = state_of new;
        stop = stop;
        used = length (journal_of new);
        ends = next_at program config thread journal count old before same is h.way (place_of new after (Some stop)) e
            ∙ ap (λ (l : List Event). Ended (state_of new) stop (length (journal_of new)) l) end.1;
        counts = end.0;
        first = λ earlier less. h.goes earlier (omega (arith, less));
        plain = plain_next config run here h.plain (plain_now plain);
        told = told;
      }

pub followed_first : (count : ℕ) (context : Context) (ticket : ReplayEvents) (watch : Watch) → IsAtStart context ticket
    → watch.calls.items ≡ [] → watch.returned ≡ 0
    → IsFollowed (image_of context) (config_of context) (thread_of context) ticket.ahead count context ticket watch None
unfolding way_starts
followed_first count context ticket watch h e z =
    let program = image_of context in
    let config = config_of context in
    let thread = thread_of context in
    record {
      way = way_starts count context ticket h;
      goes = λ m within.
          let zero : m ≡ 0 = omega (arith, within) in (
            start_state program config thread,
            0,
            ticket.ahead,
            ap (λ n. reach program config thread ticket.ahead n) zero ∙ reach_start program config thread ticket.ahead,
          );
      plain = plain_first config (states_of program config thread ticket.ahead);
      told = watched_first (states_of program config thread ticket.ahead) watch e z;
    }

-- at a stop, or none
pub checked_if : (program : Program) (config : Config) (thread : ℕ) (journal : List Event) (count : ℕ) (old : Context)
    (before : ReplayEvents) (same : config_of old ≡ config) (is : thread_of old ≡ thread) (watch : Watch) (found : Option Abi)
    (h : IsFollowed program config thread journal count old before watch found)
    (new : Context) (after : ReplayEvents) (stop : Option Stop) (abi : Abi) → IsStopped stop
    → next_place old before ≡ place_of new after stop → parting_at count (place_of new after stop) ≡ None
    → IsPlain (config_of old) (state_of old) → IsTold (states_of program config thread journal) (suc h.way.turns) abi
    → IsChecked program config thread journal count abi
checked_if program config thread journal count old before same is watch found h new after (Some stop) abi _ e none plain told =
    checked program config thread journal count old before same is watch found h new after stop abi e none plain told
checked_if program config thread journal count old before same is watch found h new after None abi s e none plain told = absurd s
