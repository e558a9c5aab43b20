-- What a worker has is what its pass holds.
use Rattle.std.proofs.Common.{◌≡◌, ◌≢◌, ℕ, ◌+◌, ◌<◌, ◌≤◌, List, [], ◌∷◌, ◌++◌, length, refl, sym, ap, ◌∙◌, subst, arith}
use Rattle.std.specs.Prelude.{Option, Some, None, All}
use Rattle.std.proofs.lemmas.List.{length-map}
use Rattle.std.proofs.lemmas.List.Elements.{All-nil, All-cons, All-head, All-tail, All-push, All-pop}
use mathlib.Core.Logic.{dite}
use native.Mathlib.Decide.{ℕ_discrete, dec_lt}
use Rattle.sm_types.specs.declared.config.Config.{Config}
use Rattle.run_queue.specs.declared.origin.Origin.{Origin}
use Rattle.run_queue.specs.declared.view.PassView.{PassView}
use Rattle.run_queue.specs.Ticketed.{Ticketed}
use Rattle.thread_lists.specs.Counts.{occurrences, once_below}
use Rattle.run_queue.specs.Passes.{known_threads, after_offer, HasFetched}
use Rattle.run_queue.specs.Rule.{threads_in}
use Rattle.thread_lists.proofs.Sums.{mark, mark_same, mark_other, once_in, once_out, occurrences-append, occurrences-without, pigeons}
use Rattle.smp_runner.specs.Contexts.{Holds, HasStopped, HasEnded, IsSameTicketed, IsSameHolder, IsOf}

abbrev pub IsFrom : Option Origin → Ticketed → Type 0
IsFrom origin x = Some x.origin ≡ origin

pub threads-push : (xs : List Ticketed) (x : Ticketed) (t : ℕ) → occurrences t (threads_in (xs ++ x ∷ [])) ≡ occurrences t
    (threads_in xs) + mark t x.thread
threads-push [] x t = omega arith
threads-push (y ∷ ys) x t = let rest = threads-push ys x t in omega arith

pub unpush : {X : Type 0} (F : X → Type 0) (xs : List X) (x : X) → All F (xs ++ x ∷ []) → All F xs × F x
unpush F xs x h = All-pop F (xs ++ x ∷ []) xs (Some x) refl h

-- a pass that holds nothing, and a worker that has nothing
pub starts : (v : PassView) (residents stopped done : List Ticketed) → v.held ≡ [] → residents ≡ [] → stopped ≡ [] → done ≡ []
    → Holds v residents stopped done
starts v residents stopped done held r s d = rw (r, s, d) (record {
  sums = λ t. sym (ap (occurrences t) held);
  most = λ t. let none = ap (occurrences t) held in omega (arith, none);
  residents_of = All-nil (IsFrom v.origin);
  stopped_of = All-nil (IsFrom v.origin);
  done_of = All-nil (IsFrom v.origin);
  stopped_ended = All-nil HasStopped;
  done_ended = All-nil HasStopped;
})

-- a context is fetched
pub got : (v w : PassView) (residents stopped done : List Ticketed) (x : Ticketed) → Holds v residents stopped done
    → HasFetched v x w → Holds w (residents ++ x ∷ []) stopped done
got v w residents stopped done x h f = rw f.view (record {
  sums = λ t.
      let a = threads-push residents x t in
      let b = occurrences-append t v.held (x.thread ∷ []) in
      let s = h.sums t in
      omega (arith, a, b, s);
  most = λ t.
      let b = occurrences-append t v.held (x.thread ∷ []) in
      let m = h.most t in
      dite (ℕ_discrete x.thread t)
      (λ (same : x.thread ≡ t).
      let none : occurrences t v.held ≡ 0 = ap (λ y. occurrences y v.held) (sym same) ∙ f.fresh in
      let lt : t < known_threads v.origin = subst (λ y. y < known_threads v.origin) same f.small in
      omega (arith, b, mark_same t x.thread same, none, once_in t (known_threads v.origin) lt))
      (λ (ne : x.thread ≢ t). omega (arith, b, m, mark_other t x.thread ne));
  residents_of = All-push (IsFrom v.origin) residents x h.residents_of f.known;
  stopped_of = h.stopped_of;
  done_of = h.done_of;
  stopped_ended = h.stopped_ended;
  done_ended = h.done_ended;
})

pub same_holder : (v w : PassView) (x : Ticketed) → HasFetched v x w → IsSameHolder v w
same_holder v w x f = rw f.view (record { role = refl; origin = refl })

-- the first resident made turns, and goes on
pub goes_on : (v : PassView) (others stopped done : List Ticketed) (first last : Ticketed) → Holds v (first ∷ others) stopped done
    → IsSameTicketed first last → Holds v (last ∷ others) stopped done
goes_on v others stopped done first last h same = record {
  sums = λ t. let s = h.sums t in let c : mark t last.thread ≡ mark t first.thread = ap (mark t) same.thread in omega (arith, s, c);
  most = h.most;
  residents_of = All-cons (IsFrom v.origin) last others
      (ap Some same.origin ∙ All-head (IsFrom v.origin) first others h.residents_of)
      (All-tail (IsFrom v.origin) first others h.residents_of);
  stopped_of = h.stopped_of;
  done_of = h.done_of;
  stopped_ended = h.stopped_ended;
  done_ended = h.done_ended;
}

-- and has stopped
pub stops : (v : PassView) (others stopped done : List Ticketed) (first last : Ticketed) → Holds v (first ∷ others) stopped done
    → IsSameTicketed first last → HasStopped last → Holds v others (stopped ++ last ∷ []) done
stops v others stopped done first last h same ended = record {
  sums = λ t.
      let s = h.sums t in
      let a = threads-push stopped last t in
      let c : mark t last.thread ≡ mark t first.thread = ap (mark t) same.thread in
      omega (arith, s, a, c);
  most = h.most;
  residents_of = All-tail (IsFrom v.origin) first others h.residents_of;
  stopped_of = All-push (IsFrom v.origin) stopped last h.stopped_of
      (ap Some same.origin ∙ All-head (IsFrom v.origin) first others h.residents_of);
  done_of = h.done_of;
  stopped_ended = All-push HasStopped stopped last h.stopped_ended ended;
  done_ended = h.done_ended;
}

in_range : (t n : ℕ) → 0 < once_below t n → t < n
in_range t n some_there = go (dec_lt t n)
  where
    go : Dec (t < n) → t < n
    go (yes lt) = lt
    go (no ge) = absurd (omega (arith, some_there, once_out t n (omega arith)))

once_most : (t n : ℕ) → once_below t n ≤ 1
once_most t n = go (dec_lt t n)
  where
    go : Dec (t < n) → once_below t n ≤ 1
    go (yes lt) = omega (arith, once_in t n lt)
    go (no ge) = omega (arith, once_out t n (omega arith))

-- those that were collected are fewer than all while there is another
pub room : (v : PassView) (residents stopped done : List Ticketed) (x : Ticketed) → Holds v residents (stopped ++ x ∷ []) done
    → length done < known_threads v.origin
room v residents stopped done x h =
    let n = known_threads v.origin in
    let t = x.thread in
    let s = h.sums t in
    let m = h.most t in
    let a = threads-push stopped x t in
    let here = mark_same t t refl in
    let some_there : 0 < once_below t n = omega (arith, s, m, a, here) in
    let lt = in_range t n some_there in
    subst (λ (k : ℕ). k < n) (length-map done (λ (y : Ticketed). y.thread))
    (pigeons n t (threads_in done) (λ k. let s' = h.sums k in let m' = h.most k in omega (arith, s', m')) lt
    (omega (arith, s, m, a, here, once_most t n)))

-- a stopped context is collected
pub collects : (v : PassView) (residents stopped done : List Ticketed) (x : Ticketed) → Holds v residents (stopped ++ x ∷ []) done
    → Holds v residents stopped (done ++ x ∷ [])
collects v residents stopped done x h =
    let of = unpush (IsFrom v.origin) stopped x h.stopped_of in
    let ended = unpush HasStopped stopped x h.stopped_ended in
    record {
      sums = λ t. let s = h.sums t in let a = threads-push stopped x t in let b = threads-push done x t in omega (arith, s, a, b);
      most = h.most;
      residents_of = h.residents_of;
      stopped_of = of.0;
      done_of = All-push (IsFrom v.origin) done x h.done_of of.1;
      stopped_ended = ended.0;
      done_ended = All-push HasStopped done x h.done_ended ended.1;
    }

-- the first resident may be offered
pub is_held : (v : PassView) (others stopped done : List Ticketed) (x : Ticketed) → Holds v (x ∷ others) stopped done
    → (0 < occurrences x.thread v.held) × IsFrom v.origin x
is_held v others stopped done x h =
    let s = h.sums x.thread in
    (omega (arith, s, mark_same x.thread x.thread refl), All-head (IsFrom v.origin) x others h.residents_of)

pub gives : (v w : PassView) (others stopped done : List Ticketed) (x : Ticketed) → Holds v (x ∷ others) stopped done
    → w ≡ after_offer v x.thread → Holds w others stopped done
gives v w others stopped done x h new =
    let has = (is_held v others stopped done x h).0 in
    rw new (record {
      sums = λ t. let s = h.sums t in let b = occurrences-without t x.thread v.held has in omega (arith, s, b);
      most = λ t. let b = occurrences-without t x.thread v.held has in let m = h.most t in omega (arith, b, m);
      residents_of = All-tail (IsFrom v.origin) x others h.residents_of;
      stopped_of = h.stopped_of;
      done_of = h.done_of;
      stopped_ended = h.stopped_ended;
      done_ended = h.done_ended;
    })

-- where the core is empty, the collected contexts are all
pub ends : (v : PassView) (residents stopped done : List Ticketed) → Holds v residents stopped done → residents ≡ [] → stopped ≡ []
    → HasEnded v done
ends v residents stopped done h r s = record {
  sums = λ t.
      let all = h.sums t in
      let a : occurrences t (threads_in residents) ≡ 0 = ap (λ (l : List Ticketed). occurrences t (threads_in l)) r in
      let b : occurrences t (threads_in stopped) ≡ 0 = ap (λ (l : List Ticketed). occurrences t (threads_in l)) s in
      omega (arith, all, a, b);
  all_of = h.done_of;
  ended = h.done_ended;
}

-- a start that is known
pub of_known : (origin : Option Origin) (config : Config) (name : List ℕ) (o : Origin) → IsOf origin config name → Some o ≡ origin
    → (o.config ≡ config) × (o.name ≡ name)
of_known origin config name o is same = subst (λ (x : Option Origin). IsOf x config name) (sym same) is

pub still_of : (old new : Option Origin) (config : Config) (name name' : List ℕ) → IsOf old config name → new ≡ old → name' ≡ name
    → IsOf new config name'
still_of old new config name name' of same named =
    subst (λ (x : Option Origin). IsOf x config name') (sym same) (subst (IsOf old config) (sym named) of)

pub threads_known : (origin : Option Origin) (config : Config) (name : List ℕ) → IsOf origin config name → known_threads origin ≡
    config.threads
threads_known None config name of = absurd of
threads_known (Some o) config name of = ap (λ (c : Config). c.threads) of.0
