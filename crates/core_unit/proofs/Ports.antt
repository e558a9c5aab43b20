-- What turns make of a port and a ticket, one after the other.
use Rattle.std.proofs.Common.{◌≡◌, ℕ, ◌++◌, List, [], ◌∷◌, Some, refl, ap, sym, ◌∙◌, subst, append_assoc}
use Rattle.std.proofs.lemmas.List.{append-nil, map-append}
use Rattle.sm_types.specs.declared.shared_op.Event.{Event}
use Rattle.sm_types.specs.declared.shared_words.Entry.{Entry}
use Rattle.shared_region.specs.History.{entries_of}
use Rattle.shared_region.specs.Chain.{Chain}
use Rattle.shared_region.specs.Tickets.{TicketView, IsTicketOf, with_events, Refusals, GivesEvents}
use Rattle.shared_region.proofs.Chains.{chain_join}
use Rattle.kernel_contexts.specs.Context.{made_since}
use Rattle.kernel_contexts.specs.Guest.{Guest}
use Rattle.core_unit.specs.Run.{RunsFirst}
use Rattle.core_unit.specs.declared.run.CoreRun.{CoreRun}

module _ {P T : Type 0} (gives : P → T → Entry → P → T → Type 0) (name : P → List ℕ) (tells : T → TicketView) where
  -- the turns so far and one more
  pub gives_more : (p q r : P) (t u v : T) (thread number : ℕ) (so_far made all : List Event) → all ≡ so_far ++ made → number ≡ thread
      → GivesEvents gives name tells thread so_far p t q u → GivesEvents gives name tells number made q u r v
      → GivesEvents gives name tells thread all p t r v
  gives_more p q r t u v thread number so_far made all is same h k =
      let k' : GivesEvents gives name tells thread made q u r v =
      subst (λ (n : ℕ). GivesEvents gives name tells n made q u r v) same k in
      let more : entries_of thread all ≡ entries_of thread so_far ++ entries_of thread made =
      ap (entries_of thread) is ∙ map-append (λ (e : Event). record { thread = thread; event = e }) so_far made in
      let told : tells v ≡ with_events (tells t) (so_far ++ made) =
      k'.ticket ∙ ap (λ (x : TicketView). with_events x made) h.ticket
      ∙ ap (λ (l : List Event). record (tells t) { events = l }) (append_assoc (tells t).events so_far made) in
      record {
        chain = subst (λ (l : List Entry). Chain gives p t l r v) (sym more)
            (chain_join gives p q r t u v (entries_of thread so_far) (entries_of thread made) h.chain k'.chain);
        same = k'.same ∙ h.same;
        ticket = told ∙ ap (λ (l : List Event). with_events (tells t) l) (sym is);
      }

  -- the ticket is the thread's and the port's still
  pub ticket_stays : (p q : P) (t u : T) (thread number : ℕ) (events : List Event) → number ≡ thread → IsTicketOf thread (name p) (tells t)
      → GivesEvents gives name tells thread events p t q u → IsTicketOf number (name q) (tells u)
  ticket_stays p q t u thread number events same h k = record {
    number = ap (λ (x : TicketView). x.number) k.ticket ∙ h.number ∙ ap (λ (n : ℕ). Some n) (sym same);
    belongs = ap (λ (x : TicketView). x.name) k.ticket ∙ h.belongs ∙ sym k.same;
  }

  -- a thread that makes no event leaves both
  pub ticket_kept : (p : P) (t : T) (thread number : ℕ) → number ≡ thread → IsTicketOf thread (name p) (tells t)
      → IsTicketOf number (name p) (tells t)
  ticket_kept p t thread number same h = subst (λ (n : ℕ). IsTicketOf n (name p) (tells t)) (sym same) h

  pub gives_kept : (p q : P) (t u : T) (thread : ℕ) (before journal longer : List Event) → longer ≡ journal
      → GivesEvents gives name tells thread (made_since before journal) p t q u
      → GivesEvents gives name tells thread (made_since before longer) p t q u
  gives_kept p q t u thread before journal longer same h =
      subst (λ (l : List Event). GivesEvents gives name tells thread (made_since before l) p t q u) (sym same) h

  -- where nothing was made, the port and the ticket are where they were, and refuse the same
  same_place : (p q : P) (t u : T) (thread : ℕ) (made : List Event) → made ≡ [] → Chain gives p t (entries_of thread made) q u
      → (p ≡ q) × (t ≡ u)
  same_place p q t u thread [] is h = h
  same_place p q t u thread (e ∷ es) is h = cc

  pub refuses_there : (refuses : P → T → Refusals) (p q : P) (t u : T) (thread : ℕ) (made : List Event) (k : ℕ) (old next : Guest)
      (run : CoreRun) → made ≡ [] → GivesEvents gives name tells thread made p t q u
      → RunsFirst (refuses p t) k old next run → RunsFirst (refuses q u) k old next run
  refuses_there refuses p q t u thread made k old next run none given h =
      let same = same_place p q t u thread made none given.chain in
      subst (λ x. RunsFirst (refuses x u) k old next run) same.0
      (subst (λ y. RunsFirst (refuses p y) k old next run) same.1 h)
