-- What the caller gathers is what the first pass holds.
use Rattle.std.proofs.Common.{◌≡◌, ℕ, ◌+◌, true, List, [], ◌∷◌, ◌++◌, map, refl, ap, ◌∙◌, subst, arith}
use Rattle.std.specs.Prelude.{Option, Some}
use Rattle.std.proofs.lemmas.List.{map-append, map_push}
use Rattle.std.proofs.lemmas.List.Elements.{All-push, All-append}
use Rattle.std.proofs.lemmas.Bool.{false≢true}
use Rattle.run_queue.specs.declared.origin.Origin.{Origin}
use Rattle.run_queue.specs.declared.view.PassView.{PassView}
use Rattle.run_queue.specs.declared.view.Role.{Role}
use Rattle.run_queue.specs.declared.view.Role.TheVariants.{Unopened, First, Numbered, Spent}
use Rattle.run_queue.specs.Ticketed.{Ticketed}
use Rattle.thread_lists.specs.Counts.{occurrences, once_below}
use Rattle.run_queue.specs.Passes.{known_threads, given_in, after_join, HasFetched, is_first_pass, HoldsRest, AreAllBack}
use Rattle.run_queue.specs.Rule.{threads_in, AreOf}
use Rattle.thread_lists.proofs.Sums.{mark, occurrences-append}
use Rattle.smp_runner.specs.Contexts.{HasEnded, HasStopped, IsSameTicketed}
use Rattle.smp_runner.specs.Gathered.{Gathered}
use Rattle.smp_runner.proofs.Holding.{IsFrom, threads-push}

threads-append : (xs ys : List Ticketed) (t : ℕ) → occurrences t (threads_in (xs ++ ys)) ≡ occurrences t (threads_in xs) + occurrences
    t (threads_in ys)
threads-append xs ys t =
    ap (occurrences t) (map-append (λ (x : Ticketed). x.thread) xs ys) ∙ occurrences-append t (threads_in xs) (threads_in ys)

first_is : (r : Role) → is_first_pass r ≡ true → r ≡ First (given_in r)
first_is Unopened is = absurd (false≢true is)
first_is (First given) is = refl
first_is (Numbered n) is = absurd (false≢true is)
first_is Spent is = absurd (false≢true is)

-- a worker that has ended gives what it has collected
more : (v w u : PassView) (all all' done : List Ticketed) → Gathered v all → w.origin ≡ v.origin → HasEnded w done
    → u ≡ after_join v w → all' ≡ all ++ done → Gathered u all'
more v w u all all' done h same k is longer = rw (is, longer) (record {
  first = refl;
  ended = record {
    sums = λ t.
        let a = threads-append all done t in
        let b = occurrences-append t v.held w.held in
        let s = h.ended.sums t in
        let r = k.sums t in
        omega (arith, a, b, s, r);
    all_of = All-append (IsFrom v.origin) all done h.ended.all_of (subst (λ (o : Option Origin). AreOf o done) same k.all_of);
    ended = All-append HasStopped all done h.ended.ended k.ended;
  };
})

-- one more that the first pass fetched, and that was run to its stop
one_more : (v w : PassView) (all all' : List Ticketed) (x last : Ticketed) → Gathered v all → HasFetched v x w
    → IsSameTicketed x last → HasStopped last → all' ≡ all ++ last ∷ [] → Gathered w all'
one_more v w all all' x last h f same stopped longer = rw (f.view, longer) (record {
  first = h.first;
  ended = record {
    sums = λ t.
        let a = threads-push all last t in
        let b = occurrences-append t v.held (x.thread ∷ []) in
        let c : mark t last.thread ≡ mark t x.thread = ap (mark t) same.thread in
        let s = h.ended.sums t in
        omega (arith, a, b, c, s);
    all_of = All-push (IsFrom v.origin) all last h.ended.all_of (ap Some same.origin ∙ f.known);
    ended = All-push HasStopped all last h.ended.ended stopped;
  };
})

-- with all passes back, and a queue that was empty, each thread is there
pub each_once : (v : PassView) (all : List Ticketed) → Gathered v all → AreAllBack (given_in v.role) → HoldsRest [] v
    → (t : ℕ) → occurrences t (threads_in all) ≡ once_below t (known_threads v.origin)
each_once v all h back rest t =
    let s = h.ended.sums t in let r = rest (given_in v.role) (first_is v.role h.first) back t in omega (arith, s, r)

module _ {X : Type 0} (f : X → Ticketed) where
  pub more_in : (v w u : PassView) (all all' done : List X) → Gathered v (map f all) → w.origin ≡ v.origin
      → HasEnded w (map f done) → u ≡ after_join v w → all' ≡ all ++ done → Gathered u (map f all')
  more_in v w u all all' done h same k is longer =
      more v w u (map f all) (map f all') (map f done) h same k is (ap (map f) longer ∙ map-append f all done)

  pub one_more_in : (v w : PassView) (all all' : List X) (y : Ticketed) (x : X) → Gathered v (map f all) → HasFetched v y w
      → IsSameTicketed y (f x) → HasStopped (f x) → all' ≡ all ++ x ∷ [] → Gathered w (map f all')
  one_more_in v w all all' y x h k same stopped longer =
      one_more v w (map f all) (map f all') y (f x) h k same stopped (ap (map f) longer ∙ map_push f all x)
