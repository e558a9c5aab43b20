-- What mapping symbols say of a section: the last mapping symbol of each value decides.
use Rattle.std.proofs.Common.{inl, inr, ◌≡◌, ℕ, zero, suc, ◌+◌, ◌-◌, ◌≤◌, true, false, cond, List, [], ◌∷◌, ◌++◌, Option, Some, None, refl}
use Rattle.std.proofs.Common.{ap, sym, ◌∙◌, arith, add-one}
use Rattle.std.specs.Prelude.{◌==◌, ◌&&◌, nat_le}
use Rattle.std.proofs.lemmas.Bool.{cases_Bool}
use Rattle.std.proofs.lemmas.List.{append-nil}
use Rattle.std.proofs.lemmas.Bool.Decides.{nat_tests}
use Rattle.std.specs.Option.{option_or}
use Rattle.plain_lemmas.proofs.Options.{option_or-none, option_or-assoc}
use Rattle.elf_sections.specs.declared.mapping_symbols.MappingSymbol.{MappingSymbol}
use Rattle.elf_sections.specs.Sections.{section_of, is_symbol_table}
use Rattle.elf_sections.specs.Repeats.{repeats_table}
use Rattle.elf_sections.specs.MappingSymbols.{is_code_at, mapping_symbols_below, table_mapping_symbols}
use Rattle.elf_sections.proofs.Governing.{later, governing, says_code, code_at}
use Rattle.elf_sections.specs.SymbolOrder.{is_symbol_of, last_symbol, SayTheSame}
use Rattle.elf_sections.proofs.Tables.{Repeats, repeats_parts, table_mapping_symbols-repeats}

-- ---- the first of several

or_else_twice : (a b : Option MappingSymbol) → option_or a (option_or a b) ≡ option_or a b
or_else_twice None b = refl
or_else_twice (Some x) b = refl

or_else_some : (a c : Option MappingSymbol) (x : MappingSymbol) → option_or (option_or a (Some x)) c ≡ option_or a (Some x)
or_else_some None c x = refl
or_else_some (Some y) c x = refl

-- ---- the last mapping symbol of a value

pub last_symbol-append : (s v : ℕ) (xs ys : List MappingSymbol)
    → last_symbol s v (xs ++ ys) ≡ option_or (last_symbol s v ys) (last_symbol s v xs)
unfolding last_symbol
last_symbol-append s v [] ys = sym (option_or-none (last_symbol s v ys))
last_symbol-append s v (x ∷ xs) ys =
    rw (last_symbol-append s v xs ys) (sym (option_or-assoc (last_symbol s v ys) (last_symbol s v xs)
    (cond (is_symbol_of s v x) (Some x) None)))

pub same-append : (xs ys zs : List MappingSymbol) → SayTheSame xs ys → SayTheSame (xs ++ zs) (ys ++ zs)
same-append xs ys zs h =
    λ s v. last_symbol-append s v xs zs ∙ ap (option_or (last_symbol s v zs)) (h s v) ∙ sym (last_symbol-append s v ys zs)

pub same-twice : (xs ys : List MappingSymbol) → SayTheSame ((xs ++ ys) ++ ys) (xs ++ ys)
same-twice xs ys =
    λ s v. last_symbol-append s v (xs ++ ys) ys ∙ ap (option_or (last_symbol s v ys)) (last_symbol-append s v xs ys)
    ∙ or_else_twice (last_symbol s v ys) (last_symbol s v xs) ∙ sym (last_symbol-append s v xs ys)

-- ---- the mapping symbols of the first sections

pub mapping_symbols_below-zero : (file : List ℕ) → mapping_symbols_below file 0 ≡ []
unfolding mapping_symbols_below
mapping_symbols_below-zero file = refl

pub mapping_symbols_below-next : (file : List ℕ) (i : ℕ) → is_symbol_table (section_of file i) ≡ true
    → mapping_symbols_below file (i + 1) ≡ mapping_symbols_below file i
    ++ table_mapping_symbols file (section_of file i)
unfolding mapping_symbols_below
mapping_symbols_below-next file i h = rw (add-one, h) refl

pub mapping_symbols_below-other : (file : List ℕ) (i : ℕ) → is_symbol_table (section_of file i) ≡ false
    → mapping_symbols_below file (i + 1) ≡ mapping_symbols_below file i
unfolding mapping_symbols_below
mapping_symbols_below-other file i h = rw (add-one, h) (append-nil (mapping_symbols_below file i))

-- a symbol table that comes again says nothing new
pub mapping_symbols_below-repeats : (file : List ℕ) (i : ℕ) → repeats_table file i ≡ true
    → SayTheSame (mapping_symbols_below file (i + 1)) (mapping_symbols_below file i)
mapping_symbols_below-repeats file i h =
    let r : Repeats file i = repeats_parts file i h in
    let e : i - 1 + 1 ≡ i = omega (arith, r.later) in
    let before : mapping_symbols_below file i ≡ mapping_symbols_below file (i - 1) ++ table_mapping_symbols file (section_of file (i - 1)) =
    rw e at (mapping_symbols_below-next file (i - 1) r.before) in
    let here : mapping_symbols_below file (i + 1) ≡ (mapping_symbols_below file (i - 1)
    ++ table_mapping_symbols file (section_of file (i - 1)))
    ++ table_mapping_symbols file (section_of file (i - 1)) =
    mapping_symbols_below-next file i r.table ∙ (λ j. before j ++ table_mapping_symbols-repeats file i r j) in
    λ s v. ap (last_symbol s v) here ∙ same-twice (mapping_symbols_below file (i - 1))
    (table_mapping_symbols file (section_of file (i - 1))) s v
    ∙ ap (last_symbol s v) (sym before)

-- ---- what governs an address

abbrev IsBelow : ℕ → Option MappingSymbol → Type 0
IsBelow a None = Unit
IsBelow a (Some m) = m.value ≤ a

-- one of the address itself stays until another of that address comes
governing-top : (s v : ℕ) (b : MappingSymbol) (ms : List MappingSymbol) → b.value ≡ v
    → governing s v (Some b) ms ≡ option_or (last_symbol s v ms) (Some b)
unfolding last_symbol
governing-top s v b [] e = refl
governing-top s v b (m ∷ ms) e =
    elim (cases_Bool (is_symbol_of s v m)) [
      | inl t ↦
          let value : m.value ≡ v = grind (arith, nat_tests) in
          let test : ((m.section == s) && nat_le m.value v && nat_le b.value m.value) ≡ true = grind (arith, nat_tests) in
          rw (test, t) (governing-top s v m ms value ∙ sym (or_else_some (last_symbol s v ms) (Some b) m))
      | inr f ↦
          let test : ((m.section == s) && nat_le m.value v && nat_le b.value m.value) ≡ false = grind (arith, nat_tests) in
          rw (test, f) (governing-top s v b ms e ∙ ap (λ o. option_or o (Some b)) (sym (option_or-none (last_symbol s v ms))))
    ]

governing-zero : (s : ℕ) (ms : List MappingSymbol) → governing s 0 None ms ≡ last_symbol s 0 ms
unfolding last_symbol
governing-zero s [] = refl
governing-zero s (m ∷ ms) =
    elim (cases_Bool (is_symbol_of s 0 m)) [
      | inl t ↦
          let value : m.value ≡ 0 = grind (arith, nat_tests) in
          let test : ((m.section == s) && nat_le m.value 0) ≡ true = grind (arith, nat_tests) in
          rw (test, t) (governing-top s 0 m ms value)
      | inr f ↦
          let test : ((m.section == s) && nat_le m.value 0) ≡ false = grind (arith, nat_tests) in
          rw (test, f) (governing-zero s ms ∙ sym (option_or-none (last_symbol s 0 ms)))
    ]

-- a mapping symbol of the next address up governs it at once
later-takes : (s a : ℕ) (best : Option MappingSymbol) (m : MappingSymbol) → IsBelow a best → is_symbol_of s (suc a) m ≡ true
    → later s (suc a) best m ≡ Some m
later-takes s a None m h t = let test : ((m.section == s) && nat_le m.value (suc a)) ≡ true = grind (arith, nat_tests) in rw test refl
later-takes s a (Some b) m h t =
    let test : ((m.section == s) && nat_le m.value (suc a) && nat_le b.value m.value) ≡ true = grind (arith, nat_tests) in rw test refl

later-skips : (s a : ℕ) (best : Option MappingSymbol) (m : MappingSymbol) → is_symbol_of s (suc a) m ≡ true → later s a best m ≡ best
later-skips s a None m t = let test : ((m.section == s) && nat_le m.value a) ≡ false = grind (arith, nat_tests) in rw test refl
later-skips s a (Some b) m t =
    let test : ((m.section == s) && nat_le m.value a && nat_le b.value m.value) ≡ false = grind (arith, nat_tests) in rw test refl

later-same : (s a : ℕ) (best : Option MappingSymbol) (m : MappingSymbol) → is_symbol_of s (suc a) m ≡ false
    → later s (suc a) best m ≡ later s a best m
later-same s a None m f =
    let test : ((m.section == s) && nat_le m.value (suc a)) ≡ ((m.section == s) && nat_le m.value a) =
    grind (arith, nat_tests) in rw test refl
later-same s a (Some b) m f =
    let test : ((m.section == s) && nat_le m.value (suc a) && nat_le b.value m.value)
    ≡ ((m.section == s) && nat_le m.value a && nat_le b.value m.value) = grind (arith, nat_tests) in rw test refl

later-below : (s a : ℕ) (best : Option MappingSymbol) (m : MappingSymbol) → IsBelow a best → IsBelow a (later s a best m)
later-below s a None m h =
    elim ((m.section == s) && nat_le m.value a) as (λ t. ((m.section == s) && nat_le m.value a) ≡ t → IsBelow a (cond t (Some m) None)) [
      | true ↦ λ t. grind (arith, nat_tests)
      | false ↦ λ t. tt
    ] refl
later-below s a (Some b) m h =
    elim ((m.section == s) && nat_le m.value a
    && nat_le b.value m.value) as (λ t. ((m.section == s) && nat_le m.value a && nat_le b.value m.value) ≡ t
    → IsBelow a (cond t (Some m) (Some b))) [
      | true ↦ λ t. grind (arith, nat_tests)
      | false ↦ λ t. h
    ] refl

-- at the next address up the last mapping symbol of that address governs, else what governs one below
governing-suc : (s a : ℕ) (best : Option MappingSymbol) (ms : List MappingSymbol) → IsBelow a best
    → governing s (suc a) best ms ≡ option_or (last_symbol s (suc a) ms) (governing s a best ms)
unfolding last_symbol
governing-suc s a best [] h = refl
governing-suc s a best (m ∷ ms) h =
    elim (cases_Bool (is_symbol_of s (suc a) m)) [
      | inl t ↦
          let value : m.value ≡ suc a = grind (arith, nat_tests) in
          rw (later-takes s a best m h t, later-skips s a best m t, t)
          (governing-top s (suc a) m ms value ∙ sym (or_else_some (last_symbol s (suc a) ms) (governing s a best ms) m))
      | inr f ↦
          rw (later-same s a best m f, f) (governing-suc s a (later s a best m) ms (later-below s a best m h)
          ∙ ap (λ o. option_or o (governing s a (later s a best m) ms)) (sym (option_or-none (last_symbol s (suc a) ms))))
    ]

governing-same : (xs ys : List MappingSymbol) (s a : ℕ) → ((v : ℕ) → last_symbol s v xs ≡ last_symbol s v ys)
    → governing s a None xs ≡ governing s a None ys
governing-same xs ys s zero h = governing-zero s xs ∙ h 0 ∙ sym (governing-zero s ys)
governing-same xs ys s (suc a) h =
    governing-suc s a None xs tt ∙ (λ j. option_or (h (suc a) j) (governing-same xs ys s a h j)) ∙ sym (governing-suc s a None ys tt)

-- mapping symbols that say the same make the same code
pub is_code_at-same : (xs ys : List MappingSymbol) (s a : ℕ) → ((v : ℕ) → last_symbol s v xs ≡ last_symbol s v ys)
    → is_code_at xs s a ≡ is_code_at ys s a
is_code_at-same xs ys s a h = code_at xs s a ∙ ap says_code (governing-same xs ys s a h) ∙ sym (code_at ys s a)
