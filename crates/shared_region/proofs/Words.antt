-- One more access keeps that a history is legal and ends in the words.
use Rattle.std.proofs.Common.{◌≡◌, List, [], sym, ap, ◌∙◌, refl}
use Rattle.std.proofs.lemmas.Option.{none-some}
use Rattle.sm_types.specs.declared.shared_words.Entry.{Entry}
use Rattle.sm_types.specs.declared.shared_words.Words.{Words}
use Rattle.shared_region.specs.WordRule.{applied, answer_to, zero_words}
use Rattle.shared_region.specs.History.{words_after}
use Rattle.shared_region.specs.Ports.{PlainWords, IsPlain, PlainGives}
use Rattle.shared_region.proofs.Growth.{words_after-snoc, answers-snoc}

-- words and a history
abbrev pub plain : Words → List Entry → PlainWords
plain words history = record { words = words; history = history }

pub plain_begins : (words : Words) (history : List Entry) → words ≡ zero_words → history ≡ [] → IsPlain (plain words history)
unfolding words_after
plain_begins words history zeros empty = rw (zeros, empty) (record { legal = λ i e at. absurd (none-some e at); ends = refl })

pub plain_goes_on : (p : PlainWords) (e : Entry) (words : Words) (history : List Entry)
    → IsPlain p → PlainGives p e (plain words history) → IsPlain (plain words history)
plain_goes_on p e words history h g = rw (g.words, g.history) (record {
  legal = answers-snoc zero_words p.history e h.legal (g.answer ∙ ap (λ w. answer_to w e.event.op) (sym h.ends));
  ends = words_after-snoc zero_words p.history e ∙ ap (λ w. applied w e.event.op) h.ends;
})
