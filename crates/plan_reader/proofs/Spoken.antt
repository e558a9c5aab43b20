-- The words of an event, and what they say.
use Rattle.std.proofs.Common.{◌≡◌, ℕ, ◌^◌, ◌<◌, List, [], ◌∷◌, Some, None, Ok, refl, ap, ◌∙◌, arith, subst}
use Rattle.std.specs.Prelude.{codes, decimal}
use Rattle.line_reader.specs.Phrases.{and_then, first_word, number, ended}
use Rattle.plan_reader.specs.Words.{verb_of, event_on, event_in}
use Rattle.plan_reader.specs.Plan.{words_for, IsInRange}
use Rattle.sm_types.specs.declared.world_event.WorldEvent.{WorldEvent}
use Rattle.sm_types.specs.declared.world_event.WorldEvent.TheVariants as event
use Rattle.plan_reader.specs.declared.words.Verb.{Verb}
use Rattle.plan_reader.specs.declared.words.Verb.TheVariants as verb
use Rattle.line_reader.proofs.Readings.{between, chosen, pair_is, first_is, first_read, fitting, number_first, number_read, ended_is}

-- ---- the word of an event

abbrev verb_word : Verb → List ℕ
verb_word verb.Run = codes "run"
verb_word verb.Next = codes "next"
verb_word verb.Fetch = codes "fetch"
verb_word verb.Offer = codes "offer"

verb_is : (word : List ℕ) (v : Verb) → verb_of word ≡ Some v → word ≡ verb_word v
unfolding verb_of
verb_is word v e =
    chosen verb_word word (codes "run") verb.Run v _ refl
    (chosen verb_word word (codes "next") verb.Next v _ refl
    (chosen verb_word word (codes "fetch") verb.Fetch v _ refl
    (chosen verb_word word (codes "offer") verb.Offer v None refl (λ h. cc)))) e

verb_said : (v : Verb) → verb_of (verb_word v) ≡ Some v
unfolding verb_of
verb_said verb.Run = refl
verb_said verb.Next = refl
verb_said verb.Fetch = refl
verb_said verb.Offer = refl

-- ---- the words of an event

-- the words behind that of the event are its numbers
rest_is : (v : Verb) (core : ℕ) (words : List (List ℕ)) (e : WorldEvent) (left : List (List ℕ)) → core < 2 ^ 32
    → event_on v core words ≡ Ok (e, left) → left ≡ []
    → IsInRange e × (verb_word v ∷ decimal core ∷ words ≡ words_for e)
unfolding event_on
rest_is verb.Run core words e left below h none =
    let it = between (number 1 (2 ^ 32) words) (λ k left. Ok (event.Run core k, left)) (e, left) h in
    let n = number_first (2 ^ 32) fitting 1 words it.value it.words it.before in
    let said = pair_is (event.Run core it.value) e it.words left it.behind in
    let last : words ≡ decimal it.value ∷ [] = n.0 ∙ ap (λ (ws : List (List ℕ)). decimal it.value ∷ ws) (said.1 ∙ none) in
    subst (λ (x : WorldEvent). IsInRange x × (codes "run" ∷ decimal core ∷ words ≡ words_for x)) said.0
    ((below, n.1, n.2), ap (λ (ws : List (List ℕ)). codes "run" ∷ decimal core ∷ ws) last)
rest_is verb.Next core words e left below h none =
    let said = pair_is (event.Next core) e words left h in
    subst (λ (x : WorldEvent). IsInRange x × (codes "next" ∷ decimal core ∷ words ≡ words_for x)) said.0
    (below, ap (λ (ws : List (List ℕ)). codes "next" ∷ decimal core ∷ ws) (said.1 ∙ none))
rest_is verb.Fetch core words e left below h none =
    let said = pair_is (event.Fetch core) e words left h in
    subst (λ (x : WorldEvent). IsInRange x × (codes "fetch" ∷ decimal core ∷ words ≡ words_for x)) said.0
    (below, ap (λ (ws : List (List ℕ)). codes "fetch" ∷ decimal core ∷ ws) (said.1 ∙ none))
rest_is verb.Offer core words e left below h none =
    let said = pair_is (event.Offer core) e words left h in
    subst (λ (x : WorldEvent). IsInRange x × (codes "offer" ∷ decimal core ∷ words ≡ words_for x)) said.0
    (below, ap (λ (ws : List (List ℕ)). codes "offer" ∷ decimal core ∷ ws) (said.1 ∙ none))

-- words that say an event are its words
pub event_words : (words : List (List ℕ)) (e : WorldEvent) → event_in words ≡ Ok e → IsInRange e × (words ≡ words_for e)
unfolding event_in
event_words words e h =
    let v = between (first_word verb_of words) _ e h in
    let core = between (number 0 (2 ^ 32) v.words) _ e v.behind in
    let on = between (event_on v.value core.value core.words) _ e core.behind in
    let last = ended_is on.value e on.words on.behind in
    let said = first_is verb_of words v.value v.words v.before in
    let first : words ≡ verb_word v.value ∷ v.words =
    said.is ∙ ap (λ (w : List ℕ). w ∷ v.words) (verb_is said.word v.value said.said) in
    let n = number_first (2 ^ 32) fitting 0 v.words core.value core.words core.before in
    let rest = rest_is v.value core.value core.words on.value on.words n.2 on.before last.1 in
    let all : words ≡ verb_word v.value ∷ decimal core.value ∷ core.words =
    first ∙ ap (λ (ws : List (List ℕ)). verb_word v.value ∷ ws) n.0 in
    subst (λ (x : WorldEvent). IsInRange x × (words ≡ words_for x)) last.0 (rest.0, all ∙ rest.1)

-- the words of an event say it
on_read : (v : Verb) (core : ℕ) (words : List (List ℕ)) (e : WorldEvent) → core < 2 ^ 32 → event_on v core words ≡ Ok (e, [])
    → event_in (verb_word v ∷ decimal core ∷ words) ≡ Ok e
unfolding event_in ended
on_read v core words e below is =
    ap (λ r. and_then r (λ v left. and_then (number 0 (2 ^ 32) left) (λ core left. and_then (event_on v core left) ended)))
    (first_read verb_of (verb_word v) (decimal core ∷ words) v (verb_said v))
    ∙ ap (λ r. and_then r (λ core left. and_then (event_on v core left) ended))
    (number_read (2 ^ 32) fitting 0 core words (omega arith) below)
    ∙ ap (λ r. and_then r ended) is

pub words_read : (e : WorldEvent) → IsInRange e → event_in (words_for e) ≡ Ok e
unfolding event_on
words_read (event.Run core k) fit =
    on_read verb.Run core (decimal k ∷ []) (event.Run core k) fit.0
    (ap (λ r. and_then r (λ k left. Ok (event.Run core k, left))) (number_read (2 ^ 32) fitting 1 k [] fit.1 fit.2))
words_read (event.Next core) fit = on_read verb.Next core [] (event.Next core) fit refl
words_read (event.Fetch core) fit = on_read verb.Fetch core [] (event.Fetch core) fit refl
words_read (event.Offer core) fit = on_read verb.Offer core [] (event.Offer core) fit refl
