-- Mapping symbols sorted by section and value.
use Rattle.std.proofs.Common.{◌⊎◌, inl, inr, ◌≡◌, ℕ, ◌<◌, ◌≤◌, Bool, false, not, List, [], ◌∷◌, length, get_or, Option, Some, None}
use Rattle.std.proofs.Common.{refl, ap, sym, ◌∙◌, arith}
use Rattle.std.specs.Prelude.{◌==◌, ◌&&◌, filter}
use Rattle.std.specs.Cmp.{IsStrictWeakOrder, nat_cmp_total, then_total, on_total}
use Rattle.std.specs.Ordering.{nat_cmp, ordering_then, is_lt}
use Rattle.std.specs.List.Sorted.{IsSortedBy, IsStableBy, ties}
use Rattle.std.proofs.lemmas.List.Sorted.{ranks_by, sorted_far}
use Rattle.std.proofs.lemmas.List.Elements.{filter_agree}
use Rattle.std.proofs.lemmas.Bool.{cases_Bool}
use Rattle.std.proofs.lemmas.Bool.Decides.{nat_tests}
use Rattle.std.specs.Option.{option_or}
use Rattle.plain_lemmas.proofs.Options.{option_or-none}
use Rattle.sm_types.specs.declared.object.Content.TheVariants.{Code}
use Rattle.elf_sections.specs.declared.mapping_symbols.MappingSymbol.{MappingSymbol}
use Rattle.elf_sections.specs.SymbolOrder.{is_symbol_of, last_symbol, SayTheSame, AreSymbolsInOrder}

-- by section, then by value
abbrev pub is_before : MappingSymbol → MappingSymbol → Bool
is_before x y = is_lt (ordering_then (nat_cmp x.section y.section) (nat_cmp x.value y.value))

is_before-order : IsStrictWeakOrder is_before
is_before-order =
    ranks_by (then_total (on_total (λ (t : ℕ × ℕ). t.0) nat_cmp_total) (on_total (λ (t : ℕ × ℕ). t.1) nat_cmp_total))
    (λ (m : MappingSymbol). (m.section, m.value))

not_before : (a b c d : ℕ) → is_lt (ordering_then (nat_cmp c a) (nat_cmp d b)) ≡ false → (a < c) ⊎ ((a ≡ c) × (b ≤ d))
not_before a b c d h = grind (arith, nat_tests)

far : (symbols : List MappingSymbol) (i j : ℕ) (d : MappingSymbol) → IsSortedBy is_before symbols → i ≤ j → j < length symbols
    → ((get_or symbols i d).section < (get_or symbols j d).section) ⊎
    (((get_or symbols i d).section ≡ (get_or symbols j d).section) × ((get_or symbols i d).value ≤ (get_or symbols j d).value))
far symbols i j d up l m =
    not_before (get_or symbols i d).section (get_or symbols i d).value (get_or symbols j d).section (get_or symbols j d).value
    (sorted_far is_before is_before-order symbols up i j d l m)

pub in_order : (symbols : List MappingSymbol) → IsSortedBy is_before symbols → AreSymbolsInOrder symbols
in_order symbols up = record {
  sections = λ i j d l m. elim (far symbols i j d up l m) [ inl a ↦ omega arith | inr e ↦ omega (arith, e.0) ];
  values = λ i j d l m s. elim (far symbols i j d up l m) [ inl a ↦ absurd (omega arith) | inr e ↦ e.1 ];
}

ties_test : (a b c d : ℕ) → (not (is_lt (ordering_then (nat_cmp a c) (nat_cmp b d)))
    && not (is_lt (ordering_then (nat_cmp c a) (nat_cmp d b)))) ≡ ((c == a) && (d == b))
ties_test a b c d = grind (arith, nat_tests)

-- the last of a list
abbrev last_of : List MappingSymbol → Option MappingSymbol
last_of [] = None
last_of (m ∷ symbols) = option_or (last_of symbols) (Some m)

last_symbol-filter : (s v : ℕ) (symbols : List MappingSymbol) → last_symbol s v symbols ≡ last_of (filter (is_symbol_of s v) symbols)
unfolding last_symbol
last_symbol-filter s v [] = refl
last_symbol-filter s v (m ∷ symbols) =
    elim (cases_Bool (is_symbol_of s v m)) [
      | inl t ↦ rw t (ap (λ o. option_or o (Some m)) (last_symbol-filter s v symbols))
      | inr f ↦ rw f (option_or-none (last_symbol s v symbols) ∙ last_symbol-filter s v symbols)
    ]

-- a stable sort keeps the last mapping symbol of each section and value
pub same-sorted : (old new : List MappingSymbol) → IsStableBy is_before old new → SayTheSame new old
same-sorted old new stable = λ s v.
    let x : MappingSymbol = record { section = s; value = v; content = Code } in
    let agree : (m : MappingSymbol) → is_symbol_of s v m ≡ ties is_before x m = λ m. sym (ties_test s v m.section m.value) in
    last_symbol-filter s v new ∙ ap last_of (filter_agree (is_symbol_of s v) (ties is_before x) agree new ∙ stable x
    ∙ sym (filter_agree (is_symbol_of s v) (ties is_before x) agree old)) ∙ sym (last_symbol-filter s v old)
