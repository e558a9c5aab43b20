-- What the ports and their tickets tell.
use Rattle.std.specs.Prelude.{◌≡◌, ◌≢◌, ℕ, List, [], ◌∷◌, ◌++◌}
use Rattle.std.proofs.Common.{sym, ◌∙◌, subst}
use Rattle.sm_types.specs.declared.shared_op.SharedOp.{SharedOp}
use Rattle.sm_types.specs.declared.shared_op.Event.{Event}
use Rattle.sm_types.specs.declared.shared_words.Entry.{Entry}
use Rattle.sm_types.specs.declared.shared_words.Words.{Words}
use Rattle.shared_region.specs.WordRule.{applied, answer_to}
use Rattle.shared_region.specs.History.{IsLegal, ends_in}

-- the name of a port that lends no table
abbrev pub no_table : List ℕ
no_table = 0 ∷ []

-- words, with the history that led to them
pub record PlainWords : Type 0 where
  pub words : Words
  pub history : List Entry

-- the history is legal and ends in the words
pub record IsPlain (p : PlainWords) : Type 0 where
  pub legal : IsLegal p.history
  pub ends : ends_in p.history ≡ p.words

-- the answer and the new words are those of the word rule, and the history got the entry at its end
pub record PlainGives (p : PlainWords) (e : Entry) (q : PlainWords) : Type 0 where
  pub answer : e.event.answer ≡ answer_to p.words e.event.op
  pub words : q.words ≡ applied p.words e.event.op
  pub history : q.history ≡ p.history ++ e ∷ []

-- a thread's number, and the events that it was given
pub record PlainEvents : Type 0 where
  pub thread : ℕ
  pub events : List Event

-- a thread's number, and its journal in two parts: the events already answered, and the others
pub record ReplayEvents : Type 0 where
  pub thread : ℕ
  pub answered : List Event
  pub ahead : List Event

-- no event is left
abbrev pub IsAtEnd : ReplayEvents → Type 0
IsAtEnd t = t.ahead ≡ []

-- the next event has another operation
pub record Strays (t : ReplayEvents) (op : SharedOp) : Type 0 where
  pub next : Event
  pub others : List Event
  pub ahead : t.ahead ≡ next ∷ others
  pub differs : next.op ≢ op

-- the event is the next one of the journal, which stays
pub record ReplayGives (t : ReplayEvents) (e : Entry) (u : ReplayEvents) : Type 0 where
  pub ahead : t.ahead ≡ e.event ∷ u.ahead
  pub answered : u.answered ≡ t.answered ++ e.event ∷ []

-- the list is empty
abbrev IsNone : List Event → Type 0
IsNone [] = Unit {0}
IsNone (e ∷ es) = ⊥

-- no event is left, and there is a next one: not both
pub end_or_stray : (t : ReplayEvents) (op : SharedOp) → IsAtEnd t → Strays t op → ⊥
end_or_stray t op ends strays = subst IsNone (sym ends ∙ strays.ahead) tt
