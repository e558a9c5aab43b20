-- The mapping symbols that are written say of each word what was said of it.
use Rattle.std.proofs.Common.{◌≡◌, ℕ, zero, suc, ◌+◌, ◌-◌, ◌/◌, ◌^◌, ◌<◌, ◌≤◌, ◌⊎◌, inl, inr, Bool, true, false, cond, List, [], ◌∷◌, ◌++◌}
use Rattle.std.proofs.Common.{length, map, All, IfSome, Option, Some, None, refl, ap, sym, ◌∙◌, arith}
use Rattle.std.proofs.lemmas.List.{map-append}
use Rattle.std.proofs.lemmas.Bool.{lt-leb, le-leb}
use Rattle.sm_types.specs.declared.object.Content.{Content}
use Rattle.sm_types.specs.declared.object.Content.TheVariants as content
use Rattle.sm_types.specs.declared.object.Object.{Object}
use Rattle.sm_types.specs.Objects.{mappings_of, text_content, is_code, is_same, is_text_code}
use Rattle.elf_headers.specs.Below.{answers, answers_below}
use Rattle.elf_headers.proofs.Below.{All-answers_below}
use Rattle.elf_sections.specs.declared.mapping_symbols.MappingSymbol.{MappingSymbol}
use Rattle.elf_sections.specs.MappingSymbols.{is_code_at}
use Rattle.elf_sections.proofs.Governing.{later, governing, says_code, code_at}
use Rattle.elf_writer.specs.declared.mapping_symbols.TextMapping.{TextMapping}
use Rattle.elf_writer.specs.TextMappings.{word_address, said_before, text_mapping_at, word_content, text_mappings}
use Rattle.elf_writer.proofs.Symbols.{as_mapping_symbol}

-- the mapping symbol says so, and stands at the address or before it
abbrev Says : Option MappingSymbol → Content → ℕ → Type 0
Says None now limit = ⊥
Says (Some m) now limit = (m.content ≡ now) × (m.value ≤ limit)

governing-append : (s a : ℕ) (best : Option MappingSymbol) (xs ys : List MappingSymbol)
    → governing s a best (xs ++ ys) ≡ governing s a (governing s a best xs) ys
governing-append s a best [] ys = refl
governing-append s a best (x ∷ xs) ys = governing-append s a (later s a best x) xs ys

-- the mapping symbol that governs the address, of those of the words below w
found : (ℕ → Content) → ℕ → ℕ → Option MappingSymbol
found says a w = governing 1 a None (map as_mapping_symbol (answers_below (text_mapping_at says) w))

-- a mapping symbol of one word more
abbrev more : ℕ → Option MappingSymbol → Option TextMapping → Option MappingSymbol
more a best o = governing 1 a best (map as_mapping_symbol (answers o))

found-none : (says : ℕ → Content) (a : ℕ) → found says a 0 ≡ None
unfolding found answers_below
found-none says a = refl

found-next : (says : ℕ → Content) (a w : ℕ) → found says a (suc w) ≡ more a (found says a w) (text_mapping_at says w)
unfolding found answers_below
found-next says a w =
    ap (governing 1 a None) (map-append as_mapping_symbol (answers_below (text_mapping_at says) w) (answers (text_mapping_at says w)))
    ∙ governing-append 1 a None (map as_mapping_symbol (answers_below (text_mapping_at says) w))
    (map as_mapping_symbol (answers (text_mapping_at says w)))

-- a mapping symbol in front of the address governs it
more_takes : (a v : ℕ) (best : Option MappingSymbol) (before : Content) (limit : ℕ) → v ≤ a
    → (best ≡ None) ⊎ (Says best before limit × (limit ≤ v))
    → (now : Content) → Says (more a best (Some (record { address = v; content = now }))) now v
more_takes a v None before limit h s now = rw (le-leb v a h) (refl, omega arith)
more_takes a v (Some m) before limit h (inl e) now = cc
more_takes a v (Some m) before limit h (inr s) now = rw (le-leb v a h, le-leb m.value v (omega (arith, s.0.1, s.1))) (refl, omega arith)

-- a mapping symbol past it does not
more_skips : (a v : ℕ) (best : Option MappingSymbol) (now : Content) → a < v
    → more a best (Some (record { address = v; content = now })) ≡ best
more_skips a v None now h = rw (lt-leb v a h) refl
more_skips a v (Some m) now h = rw (lt-leb v a h) refl

-- no mapping symbol is written where it would say what was said
said_still : (before now : Content) → is_same (Some before) now ≡ true → before ≡ now
said_still content.Code content.Code h = refl
said_still content.Code content.Data h = cc
said_still content.Data content.Code h = cc
said_still content.Data content.Data h = refl

step_by : (t : Bool) (a v : ℕ) (best : Option MappingSymbol) (before now : Content) (limit : ℕ) → is_same (Some before) now ≡ t → v ≤ a
    → Says best before limit → limit ≤ v → Says (more a best (cond t None (Some (record { address = v; content = now })))) now v
step_by false a v best before now limit e h s l = more_takes a v best before limit h (inr (s, l)) now
step_by true a v None before now limit e h s l = absurd s
step_by true a v (Some m) before now limit e h s l = (s.0 ∙ said_still before now e, omega (arith, s.1))

mapping-first : (says : ℕ → Content) → text_mapping_at says 0 ≡ Some (record { address = word_address 0; content = says 0 })
unfolding text_mapping_at
mapping-first says = refl

mapping-next : (says : ℕ → Content) (w : ℕ) → text_mapping_at says (suc w)
    ≡ cond (is_same (Some (says w)) (says (suc w))) None (Some (record { address = word_address (suc w); content = says (suc w) }))
unfolding text_mapping_at
mapping-next says w = refl

-- after the mapping symbol of word w, what it says is said at each address from it on
said : (says : ℕ → Content) (a w : ℕ) → word_address w ≤ a → Says (found says a (suc w)) (says w) (word_address w)
said says a zero h =
    rw (found-next says a 0, found-none says a, mapping-first says)
    (more_takes a (word_address 0) None content.Code 0 h (inl refl) (says 0))
said says a (suc w) h =
    rw (found-next says a (suc w), mapping-next says w)
    (step_by (is_same (Some (says w)) (says (suc w))) a (word_address (suc w)) (found says a (suc w)) (says w) (says (suc w))
    (word_address w) refl h (said says a w (omega arith)) (omega arith))

past_by : (t : Bool) (a v : ℕ) (best : Option MappingSymbol) (now : Content) → a < v
    → more a best (cond t None (Some (record { address = v; content = now }))) ≡ best
past_by false a v best now h = more_skips a v best now h
past_by true a v best now h = refl

found-past : (says : ℕ → Content) (a w k : ℕ) → a < word_address (suc w) → found says a (suc w + k) ≡ found says a (suc w)
found-past says a w zero h = let e : suc w + 0 ≡ suc w = omega arith in rw e refl
found-past says a w (suc k) h =
    let e : suc w + suc k ≡ suc (suc (w + k)) = omega arith in
    let f : suc w + k ≡ suc (w + k) = omega arith in
    ap (found says a) e ∙ found-next says a (suc (w + k)) ∙ ap (more a (found says a (suc (w + k)))) (mapping-next says (w + k))
    ∙ past_by (is_same (Some (says (w + k))) (says (suc (w + k)))) a (word_address (suc (w + k)))
    (found says a (suc (w + k))) (says (suc (w + k))) (omega arith)
    ∙ ap (found says a) (sym f) ∙ found-past says a w k h

says_so : (o : Option MappingSymbol) (now : Content) (limit : ℕ) → Says o now limit → says_code o ≡ is_code now
says_so None now limit s = absurd s
says_so (Some m) now limit s = ap is_code s.0

-- the mapping symbols of the words below the count say of word n what it begins with
said_all : (says : ℕ → Content) (n count : ℕ) → n < count
    → is_code_at (map as_mapping_symbol (answers_below (text_mapping_at says) count)) 1 (word_address n) ≡ is_code (says n)
unfolding found
said_all says n count h =
    let e : count ≡ suc n + (count - suc n) = omega arith in
    code_at (map as_mapping_symbol (answers_below (text_mapping_at says) count)) 1 (word_address n)
    ∙ ap (λ c. says_code (found says (word_address n) c)) e
    ∙ ap says_code (found-past says (word_address n) n (count - suc n) (omega arith))
    ∙ says_so (found says (word_address n) (suc n)) (says n) (word_address n) (said says (word_address n) n (omega arith))

pub mappings_say : (o : Object) (n : ℕ) → n < length o.text_bytes.items / 4
    → is_code_at (map as_mapping_symbol (text_mappings o)) 1 (word_address n) ≡ is_text_code (mappings_of o.symbols.items) (word_address n)
unfolding text_mappings word_content text_content is_text_code
mappings_say o n h = said_all (word_content o) n (length o.text_bytes.items / 4) h

-- ---- the addresses of the mapping symbols

low_mapping : (t : Bool) (v : ℕ) (now : Content) → v < 2 ^ 64
    → IfSome (cond t None (Some (let m : TextMapping = record { address = v; content = now } in m))) (λ m. m.address < 2 ^ 64)
low_mapping false v now h = h
low_mapping true v now h = tt

mapping-low : (says : ℕ → Content) (n : ℕ) → n < 2 ^ 32 → IfSome (text_mapping_at says n) (λ m. m.address < 2 ^ 64)
unfolding text_mapping_at
mapping-low says n h = low_mapping (is_same (said_before says n) (says n)) (word_address n) (says n) (omega arith)

pub low_mappings : (o : Object) → length o.text_bytes.items ≤ 4194304 → All (λ m. m.address < 2 ^ 64) (text_mappings o)
unfolding text_mappings
low_mappings o h =
    All-answers_below (λ m. m.address < 2 ^ 64) (text_mapping_at (word_content o)) (length o.text_bytes.items / 4)
    (λ n l. mapping-low (word_content o) n (omega arith))
