-- A turn that makes no event gives a port and a ticket none.
use Rattle.std.proofs.Common.{◌≡◌, ◌++◌, ℕ, List, [], refl, ap, sym, ◌∙◌, subst}
use Rattle.std.proofs.lemmas.List.{append-nil}
use Rattle.sm_types.specs.declared.shared_op.Event.{Event}
use Rattle.sm_types.specs.declared.shared_words.Entry.{Entry}
use Rattle.shared_region.specs.Tickets.{TicketView, with_events, GivesEvents}
use Rattle.kernel_contexts.specs.Context.{made_since}
use Rattle.kernel_contexts.proofs.Answered.{made_events}

-- no event was made since
none_since : (journal : List Event) → made_since journal journal ≡ []
none_since journal = made_events journal journal [] (sym (append-nil journal))

pub grows_by_none : (journal : List Event) → journal ≡ journal ++ made_since journal journal
grows_by_none journal = sym (ap (λ (l : List Event). journal ++ l) (none_since journal) ∙ append-nil journal)

with_none : (t : TicketView) → t ≡ with_events t []
with_none t = let e = sym (append-nil t.events) in λ i. record { number = t.number; events = e i; name = t.name }

module _ {P T : Type 0} (gives : P → T → Entry → P → T → Type 0) (name : P → List ℕ) (tells : T → TicketView) where
  gives_nothing : (p : P) (t : T) (thread : ℕ) → GivesEvents gives name tells thread [] p t p t
  gives_nothing p t thread = record { chain = (refl, refl); same = refl; ticket = with_none (tells t) }

  pub gives_none : (p : P) (t : T) (thread : ℕ) (journal : List Event)
      → GivesEvents gives name tells thread (made_since journal journal) p t p t
  gives_none p t thread journal =
      subst (λ (l : List Event). GivesEvents gives name tells thread l p t p t) (sym (none_since journal)) (gives_nothing p t thread)
