-- A seat that is split from the maker's, and one that is joined to it, keep the rule.
use Rattle.std.proofs.Common.{◌≡◌, ◌≢◌, ℕ, ◌<◌, cond, eqb, List, [], length, set, get_or, refl, sym, ap, ◌∙◌, subst}
use Rattle.std.proofs.Common.{⊎_elim, eq-eqb, ne_eqb}
use Rattle.std.specs.Prelude.{IsSome}
use Rattle.std.proofs.lemmas.List.{get_or-set_same, get_or-set_other, length-set}
use mathlib.Core.Option.{some}
use native.Mathlib.Decide.{ℕ_discrete}
use lib.ListN.{get_elem?}
use Rattle.atomic_table.specs.Table.{Splits, Joins}
use Rattle.atomic_table.proofs.Lists.{at_set}
use Rattle.sm_types.specs.declared.shared_op.Event.{Event}
use Rattle.sm_types.specs.declared.shared_words.Entry.{Entry}
use Rattle.shared_region.specs.History.{part_of}
use Rattle.shared_table.specs.declared.view.Told.{Told}
use Rattle.shared_table.specs.declared.view.Told.TheVariants.{Never, Out, Back}
use Rattle.shared_table.specs.declared.view.SeatView.{SeatView}
use Rattle.shared_table.specs.declared.view.SeatView.TheVariants.{Maker, Thread, Spent}
use Rattle.shared_table.specs.Views.{told, thread_in, book_in, with_split, with_joined}
use Rattle.shared_table.specs.Rule.{Agrees, Fits, Holds}
use Rattle.shared_table.proofs.Views.{each_set, each_snoc, out_in, never_in, never_out}

-- the book agrees with a thread's events where it tells something new of one thread that agrees with its events
agrees_set : (book now : List Told) (t : ℕ) (known : Told) (u : ℕ) (events : List Event) → Dec (u ≡ t) → book ≡ now → t < length book
    → (u ≡ t → Agrees known events) → Agrees (told now u) events → Agrees (told (set book t known) u) events
agrees_set book now t known u events (yes is) same lt new old =
    subst (λ (k : Told). Agrees k events) (sym (ap (told (set book t known)) is ∙ get_or-set_same book t known Never lt)) (new is)
agrees_set book now t known u events (no ne) same lt new old =
    subst (λ (k : Told). Agrees k events) (sym (get_or-set_other book t u known Never ne ∙ ap (λ b. told b u) same)) old

-- a seat that is not the maker's, and whose thread is not the one of which the book tells something new, fits as before
fits_else : (history : List Entry) (book now : List Told) (owner owner_now : ℕ → ℕ) (t : ℕ) (known : Told) (j : ℕ) (u : SeatView)
    → book ≡ now → j ≢ 0
    → ((other : ℕ) → owner other ≡ j → told now other ≡ Out → (other ≢ t) × (owner_now other ≡ owner other))
    → Fits history now owner j u → Fits history (set book t known) owner_now j u
fits_else history book now owner owner_now t known j (Maker k) same apart else fit = absurd (apart fit.0)
fits_else history book now owner owner_now t known j (Thread other events) same apart else fit =
    let n = else other fit.0 fit.1 in
    (n.1 ∙ fit.0, get_or-set_other book t other known Never n.0 ∙ ap (λ b. told b other) same ∙ fit.1, fit.2)
fits_else history book now owner owner_now t known j Spent same apart else fit = tt

splits_off : (id t : ℕ) (book : List Told) → get_or book t Out ≡ Never
    → Splits Holds id (Maker book) (Maker (set book t Out)) (Thread t [])
splits_off id t book fresh s kept at =
    let mine : Fits kept.history kept.book kept.owner id (Maker book) = kept.fits id (Maker book) at in
    let within = never_in book t fresh in
    let never : told kept.book t ≡ Never = ap (λ b. told b t) (sym mine.1) ∙ within.1 in
    let none : part_of t kept.history ≡ [] = subst (λ (k : Told). Agrees k (part_of t kept.history)) never (kept.agrees t) in
    let views : List SeatView = set s.views id (Maker (set book t Out)) in
    let owner : ℕ → ℕ = λ u. cond (eqb u t) (length views) (kept.owner u) in
    let here : owner t ≡ length views = ap (λ b. cond b (length views) (kept.owner t)) (eq-eqb t t refl) in
    let F : ℕ → SeatView → Type 0 = Fits kept.history (set book t Out) owner in
    let else : (other : ℕ) → told kept.book other ≡ Out → (other ≢ t) × (owner other ≡ kept.owner other) =
    λ other out.
    let ne : other ≢ t = λ is. never_out (sym never ∙ (ap (told kept.book) (sym is) ∙ out)) in
    (ne, ap (λ b. cond b (length views) (kept.owner other)) (ne_eqb other t ne)) in
    let olds : (j : ℕ) (u : SeatView) → get_elem? views j ≡ some u → F j u =
    each_set F s.views id (Maker (set book t Out)) (mine.0, refl)
    (λ j u apart a.
    fits_else kept.history book kept.book kept.owner owner t Out j u mine.1 (λ first. apart (first ∙ sym mine.0))
    (λ other own out. else other out) (kept.fits j u a)) in
    record {
      history = kept.history;
      book = set book t Out;
      owner = owner;
      legal = kept.legal;
      ends = kept.ends;
      small = kept.small;
      long = length-set book t Out ∙ ap length mine.1 ∙ kept.long;
      agrees = λ u.
          agrees_set book kept.book t Out u (part_of u kept.history) (ℕ_discrete u t) mine.1 within.0 (λ _. tt) (kept.agrees u);
      fits = each_snoc F views (Thread t []) (here, get_or-set_same book t Out Never within.0, none) olds;
    }

-- the maker's seat gives a number that it never gave
pub splits : (id t : ℕ) (v : SeatView) → v ≡ Maker (book_in v) → get_or (book_in v) t Out ≡ Never
    → Splits Holds id v (with_split t v) (Thread t [])
splits id t (Maker book) is fresh = splits_off id t book fresh
splits id t (Thread u events) is fresh = absurd (cc)
splits id t Spent is fresh = absurd (cc)

takes_back : (id other t : ℕ) (book : List Told) (events : List Event)
    → Joins Holds id (Maker book) other (Thread t events) (Maker (set book t (Back events))) Spent
takes_back id other t book events s kept at two theirs_at =
    let both : SeatView = Maker (set book t (Back events)) in
    let mine : Fits kept.history kept.book kept.owner id (Maker book) = kept.fits id (Maker book) at in
    let was : get_elem? s.views other ≡ some (Thread t events) =
    ⊎_elim
    (λ (x : (other ≡ id) × (both ≡ Thread t events)). absurd (two x.0))
    (λ (x : (other ≢ id) × (get_elem? s.views other ≡ some (Thread t events))). x.1)
    (at_set s.views id other both (Thread t events) theirs_at) in
    let theirs : Fits kept.history kept.book kept.owner other (Thread t events) = kept.fits other (Thread t events) was in
    let within : t < length book = out_in book t (ap (λ b. told b t) mine.1 ∙ theirs.1) in
    let F : ℕ → SeatView → Type 0 = Fits kept.history (set book t (Back events)) kept.owner in
    let G : ℕ → SeatView → Type 0 = λ j u. j ≢ other → F j u in
    let olds : (j : ℕ) (u : SeatView) → get_elem? (set s.views id both) j ≡ some u → G j u =
    each_set G s.views id both (λ _. (mine.0, refl))
    (λ j u apart a off.
    fits_else kept.history book kept.book kept.owner kept.owner t (Back events) j u mine.1
    (λ first. apart (first ∙ sym mine.0))
    (λ thread own out. ((λ is. off (sym own ∙ (ap kept.owner is ∙ theirs.0))), refl)) (kept.fits j u a)) in
    record {
      history = kept.history;
      book = set book t (Back events);
      owner = kept.owner;
      legal = kept.legal;
      ends = kept.ends;
      small = kept.small;
      long = length-set book t (Back events) ∙ ap length mine.1 ∙ kept.long;
      agrees = λ u.
          agrees_set book kept.book t (Back events) u (part_of u kept.history) (ℕ_discrete u t) mine.1 within
          (λ is. ap (λ k. part_of k kept.history) is ∙ theirs.2) (kept.agrees u);
      fits = each_set F (set s.views id both) other Spent tt (λ j u off a. olds j u a off);
    }

-- the maker's seat takes the seat of a thread back
pub joins : (id other : ℕ) (v w : SeatView) → v ≡ Maker (book_in v) → IsSome (thread_in w)
    → Joins Holds id v other w (with_joined v w) Spent
joins id other (Maker book) (Thread t events) is thread = takes_back id other t book events
joins id other (Maker book) (Maker b) is thread = absurd (cc)
joins id other (Maker book) Spent is thread = absurd (cc)
joins id other (Thread t events) w is thread = absurd (cc)
joins id other Spent w is thread = absurd (cc)
