-- Which words ranges have, and which a section's mapping symbols make code.
use Rattle.std.proofs.Common.{inl, inr, ◌≡◌, ℕ, zero, suc, ◌+◌, ◌*◌, ◌<◌, ◌≤◌, min, max, Bool, true, false, List, [], ◌∷◌, ◌++◌, length}
use Rattle.std.proofs.Common.{get_or, take, drop, Option, Some, None, refl, ap, sym, ◌∙◌, arith}
use Rattle.std.specs.Prelude.{◌==◌, ◌&&◌, ◌||◌, nat_lt, nat_le, All}
use Rattle.std.specs.List.Sorted.{IsNonDecreasingBy}
use Rattle.std.proofs.lemmas.Bool.{cases_lt, ne_eqb, and_left, lt-ltb, le-ltb, le-leb, lt-leb}
use Rattle.std.proofs.lemmas.Bool.Decides.{nat_tests}
use Rattle.std.proofs.lemmas.List.{get_or-take, get_or-drop, length-take, length-drop, take-append-drop, get_or_default}
use Rattle.std.proofs.lemmas.List.Folds.{list_any-append}
use Rattle.std.specs.Option.{option_or}
use Rattle.plain_lemmas.proofs.Options.{option_or-none}
use Rattle.plain_lemmas.proofs.Tests.{or-false}
use Rattle.sm_types.specs.declared.object.Content.TheVariants.{Code}
use Rattle.sm_types.specs.Objects.{is_code}
use Rattle.elf_sections.specs.declared.mapping_symbols.MappingSymbol.{MappingSymbol}
use Rattle.elf_sections.specs.declared.word_ranges.WordRange.{WordRange}
use Rattle.elf_sections.specs.MappingSymbols.{is_code_at}
use Rattle.elf_sections.proofs.Governing.{later, governing, says_code, code_at}
use Rattle.elf_sections.specs.SymbolOrder.{is_symbol_of, last_symbol}
use Rattle.elf_sections.specs.WordRanges.{has_number, is_in_ranges}
use Rattle.elf_sections.proofs.Saying.{last_symbol-append}

-- ---- the mapping symbols of one section

-- the default that a read of a mapping symbol has
abbrev pub no_symbol : MappingSymbol
no_symbol = record { section = 0; value = 0; content = Code }

-- no mapping symbol of the list is of the section
last_symbol-none : (s v : ℕ) (symbols : List MappingSymbol)
    → ((k : ℕ) (d : MappingSymbol) → k < length symbols → (get_or symbols k d).section ≡ s → ⊥)
    → last_symbol s v symbols ≡ None
unfolding last_symbol
last_symbol-none s v [] h = refl
last_symbol-none s v (m ∷ symbols) h =
    let test : is_symbol_of s v m ≡ false = and_left (m.section == s) (m.value == v) (ne_eqb m.section s (h 0 m (omega arith))) in
    rw test (option_or-none (last_symbol s v symbols) ∙ last_symbol-none s v symbols (λ k d l. h (suc k) d (omega arith)))

-- mapping symbols that stand before and behind, and are of other sections, say nothing of the section
pub part_same : (symbols rest : List MappingSymbol) (i from count v : ℕ) → rest ≡ drop from symbols
    → ((k : ℕ) (d : MappingSymbol) → k < from → (get_or symbols k d).section < i)
    → ((k : ℕ) (d : MappingSymbol) → count ≤ k → k < length rest → i < (get_or rest k d).section)
    → last_symbol i v (take count rest) ≡ last_symbol i v symbols
part_same symbols rest i from count v is low high =
    let before : last_symbol i v (take from symbols) ≡ None = last_symbol-none i v (take from symbols) (λ k d l e.
    let short = length-take from symbols in
    let at : get_or (take from symbols) k d ≡ get_or symbols k d = get_or-take from symbols k d (omega arith) in
    let under : (get_or symbols k d).section < i = low k d (omega arith) in
    let same : (get_or symbols k d).section ≡ i = rw at at e in
    omega arith) in
    let after : last_symbol i v (drop count rest) ≡ None = last_symbol-none i v (drop count rest) (λ k d l e.
    let short = length-drop count rest in
    let at : get_or (drop count rest) k d ≡ get_or rest (count + k) d = get_or-drop count rest k d in
    let over : i < (get_or rest (count + k) d).section = high (count + k) d (omega arith) (omega arith) in
    let same : (get_or rest (count + k) d).section ≡ i = rw at at e in
    omega arith) in
    let part : last_symbol i v rest ≡ last_symbol i v (take count rest) =
    ap (last_symbol i v) (sym (take-append-drop count rest)) ∙ last_symbol-append i v (take count rest) (drop count rest)
    ∙ ap (λ o. option_or o (last_symbol i v (take count rest))) after in
    let whole : last_symbol i v symbols ≡ last_symbol i v (drop from symbols) =
    ap (last_symbol i v) (sym (take-append-drop from symbols)) ∙ last_symbol-append i v (take from symbols) (drop from symbols)
    ∙ ap (option_or (last_symbol i v (drop from symbols))) before ∙ option_or-none (last_symbol i v (drop from symbols)) in
    sym (whole ∙ ap (last_symbol i v) (sym is) ∙ part)

-- ---- ranges

pub in_ranges-none : (n : ℕ) → is_in_ranges [] n ≡ false
unfolding is_in_ranges
in_ranges-none n = refl

pub in_ranges-push : (ranges : List WordRange) (s : WordRange) (n : ℕ)
    → is_in_ranges (ranges ++ s ∷ []) n ≡ (is_in_ranges ranges n || has_number s n)
unfolding is_in_ranges
in_ranges-push ranges s n =
    list_any-append (λ t. has_number t n) ranges (s ∷ []) ∙ ap (λ b. is_in_ranges ranges n || b) (or-false (has_number s n))

-- what a push of the words that are code adds
pub in_ranges-code : (old new : List WordRange) (code : Bool) (start end n : ℕ) → code ≡ true
    → new ≡ old ++ record { start = start; end = end }
    ∷ [] → is_in_ranges new n ≡ (is_in_ranges old n || (code && nat_le start n && nat_lt n end))
in_ranges-code old new code start end n t e = rw (e, t) (in_ranges-push old (record { start = start; end = end }) n)

-- ---- the words that a section's own mapping symbols make code

-- whether it is code after the first k mapping symbols, where one led before
abbrev pub code_from : Option MappingSymbol → List MappingSymbol → ℕ → Bool
code_from best symbols zero = says_code best
code_from best [] (suc k) = says_code best
code_from best (m ∷ symbols) (suc k) = code_from (Some m) symbols k

pub code_from-next : (best : Option MappingSymbol) (symbols : List MappingSymbol) (k : ℕ) (d : MappingSymbol) → k < length symbols
    → code_from best symbols (suc k) ≡ is_code (get_or symbols k d).content
code_from-next best [] k d l = absurd (omega arith)
code_from-next best (m ∷ symbols) zero d l = refl
code_from-next best (m ∷ symbols) (suc k) d l = code_from-next (Some m) symbols k d (omega arith)

-- the mapping symbol does not lie above the first of the others
abbrev IsUnder : Option MappingSymbol → List MappingSymbol → Type 0
IsUnder None symbols = Unit
IsUnder (Some b) [] = Unit
IsUnder (Some b) (m ∷ symbols) = b.value ≤ m.value

later-above : (s a : ℕ) (best : Option MappingSymbol) (m : MappingSymbol) → a < m.value → later s a best m ≡ best
later-above s a None m h = let test : ((m.section == s) && nat_le m.value a) ≡ false = grind (arith, nat_tests) in rw test refl
later-above s a (Some b) m h =
    let test : ((m.section == s) && nat_le m.value a && nat_le b.value m.value) ≡ false = grind (arith, nat_tests) in rw test refl

later-own : (s a : ℕ) (best : Option MappingSymbol) (m : MappingSymbol) (symbols : List MappingSymbol) → m.section ≡ s → m.value ≤ a
    → IsUnder best (m ∷ symbols)
    → later s a best m ≡ Some m
later-own s a None m symbols e h under = let test : ((m.section == s) && nat_le m.value a) ≡ true = grind (arith, nat_tests) in rw test refl
later-own s a (Some b) m symbols e h under =
    let test : ((m.section == s) && nat_le m.value a && nat_le b.value m.value) ≡ true = grind (arith, nat_tests) in rw test refl

governing-above : (s a : ℕ) (best : Option MappingSymbol) (symbols : List MappingSymbol)
    → ((j : ℕ) (d : MappingSymbol) → j < length symbols → a < (get_or symbols j d).value) → governing s a best symbols ≡ best
governing-above s a best [] high = refl
governing-above s a best (m ∷ symbols) high =
    rw (later-above s a best m (high 0 m (omega arith))) (governing-above s a best symbols (λ j d l. high (suc j) d (omega arith)))

under_next : (m : MappingSymbol) (symbols : List MappingSymbol) → IsNonDecreasingBy (λ m. m.value) (m ∷ symbols) → IsUnder (Some m) symbols
under_next m [] order = tt
under_next m (n ∷ symbols) order = order 0 1 m (omega arith) (omega arith)

-- the last mapping symbol that is not above the address says what stands there
governing-own : (s a k : ℕ) (best : Option MappingSymbol) (symbols : List MappingSymbol) → All (λ m. m.section ≡ s) symbols
    → IsNonDecreasingBy (λ m. m.value) symbols → IsUnder best symbols → k ≤ length symbols
    → ((j : ℕ) (d : MappingSymbol) → j < k → (get_or symbols j d).value ≤ a)
    → ((j : ℕ) (d : MappingSymbol) → k ≤ j → j < length symbols → a < (get_or symbols j d).value)
    → says_code (governing s a best symbols) ≡ code_from best symbols k
governing-own s a zero best symbols own order under within low high =
    ap says_code (governing-above s a best symbols (λ j d l. high j d (omega arith) l))
governing-own s a (suc k) best [] own order under within low high = absurd (omega arith)
governing-own s a (suc k) best (m ∷ symbols) own order under within low high =
    let section : m.section ≡ s = own 0 m (omega arith) in
    let value : m.value ≤ a = low 0 m (omega arith) in
    rw (later-own s a best m symbols section value under)
    (governing-own s a k (Some m) symbols (λ j d l. own (suc j) d (omega arith))
    (λ i j d l n. order (suc i) (suc j) d (omega arith) (omega arith)) (under_next m symbols order) (omega arith)
    (λ j d l. low (suc j) d (omega arith)) (λ j d l n. high (suc j) d (omega arith) (omega arith)))

pub is_code_at-own : (s a k : ℕ) (symbols : List MappingSymbol) → All (λ m. m.section ≡ s) symbols
    → IsNonDecreasingBy (λ m. m.value) symbols
    → k ≤ length symbols
    → ((j : ℕ) (d : MappingSymbol) → j < k → (get_or symbols j d).value ≤ a)
    → ((j : ℕ) (d : MappingSymbol) → k ≤ j → j < length symbols → a < (get_or symbols j d).value)
    → is_code_at symbols s a ≡ code_from None symbols k
is_code_at-own s a k symbols own order within low high = code_at symbols s a ∙ governing-own s a k None symbols own order tt within low high

-- ---- one more mapping symbol passed

both_below : (y code t : Bool) → (y || ((code && false) && t)) ≡ y
both_below true code t = refl
both_below false true t = refl
both_below false false t = refl

both_between : (old t code : Bool) → ((old || ((true && t) && (false && code))) || ((code && true) && t))
    ≡ (old || ((true && t) && (true && code)))
both_between true t code = refl
both_between false true true = refl
both_between false true false = refl
both_between false false true = refl
both_between false false false = refl

both_above : (y b : Bool) → (y || (b && false)) ≡ y
both_above true b = refl
both_above false true = refl
both_above false false = refl

lt_min : (n next end : ℕ) → n < next → nat_lt n (min next end) ≡ nat_lt n end
lt_min n next end l = elim (cases_lt n end) [
  | inl m ↦ lt-ltb n (min next end) (omega arith) ∙ sym (lt-ltb n end m)
  | inr g ↦ le-ltb n (min next end) (omega arith) ∙ sym (le-ltb n end g)
]

-- the words from the last mapping symbol up to the next are as the last one says
pub words_more : (old now new code c : Bool) (first end start next n : ℕ)
    → now ≡ (old || ((nat_le first n && nat_lt n end) && (nat_lt n start && c)))
    → new ≡ (now || (code && nat_le start n && nat_lt n (min next end)))
    → first ≤ start → (start ≤ n → n < next → c ≡ code)
    → new ≡ (old || ((nat_le first n && nat_lt n end) && (nat_lt n (max start next) && c)))
words_more old now new code c first end start next n before is from says =
    elim (cases_lt n start) [
      | inl l ↦
          let below : nat_lt n start ≡ true = lt-ltb n start l in
          let test : nat_le start n ≡ false = lt-leb start n l in
          let after : nat_lt n (max start next) ≡ true = lt-ltb n (max start next) (omega arith) in
          rw (is, before, below, test, after) (both_below (old || ((nat_le first n && nat_lt n end) && (true && c))) code
          (nat_lt n (min next end)))
      | inr g ↦
          let below : nat_lt n start ≡ false = le-ltb n start g in
          elim (cases_lt n next) [
            | inl l ↦
                let inside : nat_le first n ≡ true = le-leb first n (omega arith) in
                let test : nat_le start n ≡ true = le-leb start n g in
                let after : nat_lt n (max start next) ≡ true = lt-ltb n (max start next) (omega arith) in
                rw (is, before, below, inside, test, lt_min n next end l, after, says g l) (both_between old (nat_lt n end) code)
            | inr h ↦
                let test : nat_lt n (min next end) ≡ false = le-ltb n (min next end) (omega arith) in
                let after : nat_lt n (max start next) ≡ false = le-ltb n (max start next) (omega arith) in
                rw (is, before, below, test, after) (both_above (old || ((nat_le first n && nat_lt n end) && (false && c)))
                (code && nat_le start n))
          ]
    ]

-- and those from the last mapping symbol of all on
pub words_all : (old now new code c : Bool) (first end start n : ℕ)
    → now ≡ (old || ((nat_le first n && nat_lt n end) && (nat_lt n start && c))) → new ≡ (now || (code && nat_le start n && nat_lt n end))
    → first ≤ start → (start ≤ n → c ≡ code) → new ≡ (old || ((nat_le first n && nat_lt n end) && c))
words_all old now new code c first end start n before is from says =
    elim (cases_lt n start) [
      | inl l ↦
          let below : nat_lt n start ≡ true = lt-ltb n start l in
          let test : nat_le start n ≡ false = lt-leb start n l in
          rw (is, before, below, test) (both_below (old || ((nat_le first n && nat_lt n end) && c)) code (nat_lt n end))
      | inr g ↦
          let below : nat_lt n start ≡ false = le-ltb n start g in
          let inside : nat_le first n ≡ true = le-leb first n (omega arith) in
          let test : nat_le start n ≡ true = le-leb start n g in
          rw (is, before, below, inside, test, says g) (both_between old (nat_lt n end) code)
    ]

-- what stands between the last mapping symbol that was passed and the next
pub code_between : (s k start n : ℕ) (symbols : List MappingSymbol) (d : MappingSymbol) → All (λ m. m.section ≡ s) symbols
    → IsNonDecreasingBy (λ m. m.value) symbols → k < length symbols
    → ((j : ℕ) (e : MappingSymbol) → j < k → (get_or symbols j e).value ≤ 4 * start)
    → start ≤ n → 4 * n < (get_or symbols k d).value → is_code_at symbols s (4 * n) ≡ code_from None symbols k
code_between s k start n symbols d own order inside passed from to =
    is_code_at-own s (4 * n) k symbols own order (omega arith)
    (λ j e l. let low : (get_or symbols j e).value ≤ 4 * start = passed j e l in omega arith)
    (λ j e l m.
    let up : (get_or symbols k e).value ≤ (get_or symbols j e).value = order k j e l m in
    let same : get_or symbols k e ≡ get_or symbols k d = get_or_default symbols k e d inside in
    let up2 : (get_or symbols k d).value ≤ (get_or symbols j e).value = rw same at up in
    omega arith)

pub code_behind : (s k start n : ℕ) (symbols : List MappingSymbol) → All (λ m. m.section ≡ s) symbols
    → IsNonDecreasingBy (λ m. m.value) symbols
    → length symbols ≤ k → k ≤ length symbols → ((j : ℕ) (e : MappingSymbol) → j < k → (get_or symbols j e).value ≤ 4 * start)
    → start ≤ n → is_code_at symbols s (4 * n) ≡ code_from None symbols k
code_behind s k start n symbols own order all inside passed from =
    is_code_at-own s (4 * n) k symbols own order inside
    (λ j e l. let low : (get_or symbols j e).value ≤ 4 * start = passed j e l in omega arith) (λ j e l m. absurd (omega arith))

pub passed_more : (symbols : List MappingSymbol) (k start next : ℕ) (d : MappingSymbol) → k < length symbols
    → ((j : ℕ) (e : MappingSymbol) → j < k → (get_or symbols j e).value ≤ 4 * start) → (get_or symbols k d).value ≤ 4 * next
    → (j : ℕ) (e : MappingSymbol)
    → j < k + 1 → (get_or symbols j e).value ≤ 4 * max start next
passed_more symbols k start next d inside passed here j e l = elim (cases_lt j k) [
  | inl b ↦ let low : (get_or symbols j e).value ≤ 4 * start = passed j e b in omega arith
  | inr g ↦
      let z : j ≡ k = omega arith in
      let same : get_or symbols k e ≡ get_or symbols k d = get_or_default symbols k e d inside in
      rw (z, same) (omega arith)
]
