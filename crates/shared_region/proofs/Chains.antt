-- Accesses one after another.
use Rattle.std.proofs.Common.{◌≡◌, List, [], ◌∷◌, ◌++◌, map, refl, sym, ap, ◌∙◌, append_assoc}
use Rattle.std.proofs.lemmas.List.{append-nil}
use Rattle.sm_types.specs.declared.shared_op.Event.{Event}
use Rattle.sm_types.specs.declared.shared_words.Entry.{Entry}
use Rattle.shared_region.specs.History.{words_after}
use Rattle.shared_region.specs.Chain.{Chain}
use Rattle.shared_region.specs.Ports.{PlainWords, PlainEvents, ReplayEvents, PlainGives, ReplayGives}

module _ {P T : Type 0} (gives : P → T → Entry → P → T → Type 0) where
  -- one link
  pub chain_one : (p q : P) (t u : T) (e : Entry) → gives p t e q u → Chain gives p t (e ∷ []) q u
  chain_one p q t u e g = (q, u, g, (refl, refl))

  -- two chains
  pub chain_join : (p r q : P) (t s u : T) (es fs : List Entry)
      → Chain gives p t es r s → Chain gives r s fs q u → Chain gives p t (es ++ fs) q u
  chain_join p r q t s u [] fs h k = rw (h.0, h.1) k
  chain_join p r q t s u (e ∷ es) fs h k = (h.0, h.1, h.2, chain_join h.0 r q h.1 s u es fs h.3 k)

pub plain_words : (p q : PlainWords) (t u : PlainEvents) (es : List Entry)
    → Chain (λ x a e y b. PlainGives x e y) p t es q u → q.words ≡ words_after p.words es
unfolding words_after
plain_words p q t u [] h = ap (λ (x : PlainWords). x.words) (sym h.0)
plain_words p q t u (e ∷ es) h =
    plain_words h.0 q h.1 u es h.3 ∙ ap (λ w. words_after w es) h.2.words

pub plain_history : (p q : PlainWords) (t u : PlainEvents) (es : List Entry)
    → Chain (λ x a e y b. PlainGives x e y) p t es q u → q.history ≡ p.history ++ es
plain_history p q t u [] h = ap (λ (x : PlainWords). x.history) (sym h.0) ∙ sym (append-nil p.history)
plain_history p q t u (e ∷ es) h =
    plain_history h.0 q h.1 u es h.3 ∙ ap (λ l. l ++ es) h.2.history ∙ append_assoc p.history (e ∷ []) es

pub replay_ahead : {P : Type 0} (p q : P) (t u : ReplayEvents) (es : List Entry)
    → Chain (λ x a e y b. ReplayGives a e b) p t es q u → t.ahead ≡ map (λ (e : Entry). e.event) es ++ u.ahead
replay_ahead p q t u [] h = ap (λ (x : ReplayEvents). x.ahead) h.1
replay_ahead p q t u (e ∷ es) h = h.2.ahead ∙ ap (λ (l : List Event). e.event ∷ l) (replay_ahead h.0 q h.1 u es h.3)

pub replay_answered : {P : Type 0} (p q : P) (t u : ReplayEvents) (es : List Entry)
    → Chain (λ x a e y b. ReplayGives a e b) p t es q u → u.answered ≡ t.answered ++ map (λ (e : Entry). e.event) es
replay_answered p q t u [] h = ap (λ (x : ReplayEvents). x.answered) (sym h.1) ∙ sym (append-nil t.answered)
replay_answered p q t u (e ∷ es) h =
    replay_answered h.0 q h.1 u es h.3
    ∙ ap (λ l. l ++ map (λ (e : Entry). e.event) es) h.2.answered
    ∙ append_assoc t.answered (e.event ∷ []) (map (λ (e : Entry). e.event) es)
