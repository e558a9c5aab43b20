-- The mapping symbol that governs an address of a section, among the mapping symbols of all sections.
use Rattle.std.proofs.Common.{◌≡◌, ℕ, ◌==◌, ◌&&◌, nat_le, Bool, true, false, cond, List, [], ◌∷◌, Option, Some, None, refl, sym, ap, ◌∙◌}
use Rattle.std.specs.List.{filter_map, cons_option}
use Rattle.sm_types.specs.Objects.{Mapping, later_mapping, governing_mapping, mapping_says, is_code}
use Rattle.elf_sections.specs.declared.mapping_symbols.MappingSymbol.{MappingSymbol}
use Rattle.elf_sections.specs.MappingSymbols.{mapping_in, is_code_at}

-- of one mapping symbol and a later one, that which says what stands at an address of the section
abbrev pub later : ℕ → ℕ → Option MappingSymbol → MappingSymbol → Option MappingSymbol
later section a None m = cond ((m.section == section) && nat_le m.value a) (Some m) None
later section a (Some best) m = cond ((m.section == section) && nat_le m.value a && nat_le best.value m.value) (Some m) (Some best)

-- of one mapping symbol and a list of later ones, that which says what stands at an address of the section
abbrev pub governing : ℕ → ℕ → Option MappingSymbol → List MappingSymbol → Option MappingSymbol
governing section a best [] = best
governing section a best (m ∷ symbols) = governing section a (later section a best m) symbols

abbrev pub says_code : Option MappingSymbol → Bool
says_code None = true
says_code (Some m) = is_code m.content

abbrev mapping_of : MappingSymbol → Mapping
mapping_of m = record { address = m.value; content = m.content }

abbrev mapping_if : Option MappingSymbol → Option Mapping
mapping_if None = None
mapping_if (Some m) = Some (mapping_of m)

if_symbol : (b : Bool) (m : MappingSymbol) (o : Option MappingSymbol)
    → cond b (Some (mapping_of m)) (mapping_if o) ≡ mapping_if (cond b (Some m) o)
if_symbol true m o = refl
if_symbol false m o = refl

-- a mapping symbol of the section is the later one
of_section : (s a : ℕ) (best : Option MappingSymbol) (m : MappingSymbol) → (m.section == s) ≡ true
    → later_mapping a (mapping_if best) (mapping_of m) ≡ mapping_if (later s a best m)
of_section s a None m e = if_symbol (nat_le m.value a) m None ∙ ap (λ b. mapping_if (cond (b && nat_le m.value a) (Some m) None)) (sym e)
of_section s a (Some best) m e =
    if_symbol (nat_le m.value a && nat_le best.value m.value) m (Some best)
    ∙ ap (λ b. mapping_if (cond (b && nat_le m.value a && nat_le best.value m.value) (Some m) (Some best))) (sym e)

of_other : (s a : ℕ) (best : Option MappingSymbol) (m : MappingSymbol) → (m.section == s) ≡ false → later s a best m ≡ best
of_other s a None m e = ap (λ b. cond (b && nat_le m.value a) (Some m) None) e
of_other s a (Some best) m e = ap (λ b. cond (b && nat_le m.value a && nat_le best.value m.value) (Some m) (Some best)) e

governs : (s a : ℕ) (best : Option MappingSymbol) (ms : List MappingSymbol)
    → governing_mapping a (mapping_if best) (filter_map (mapping_in s) ms) ≡ mapping_if (governing s a best ms)
governs s a best [] = refl
governs s a best (m ∷ ms) = go (m.section == s) refl (λ o. governs s a o ms)
  where
    go : (b : Bool) → (m.section == s) ≡ b
        → ((o : Option MappingSymbol) → governing_mapping a (mapping_if o) (filter_map (mapping_in s) ms) ≡ mapping_if (governing s a o ms))
        → governing_mapping a (mapping_if best) (cons_option (cond b (Some (mapping_of m)) None) (filter_map (mapping_in s) ms))
        ≡ mapping_if (governing s a (later s a best m) ms)
    go true e rest = ap (λ o. governing_mapping a o (filter_map (mapping_in s) ms)) (of_section s a best m e) ∙ rest (later s a best m)
    go false e rest = rest best ∙ ap (λ o. mapping_if (governing s a o ms)) (sym (of_other s a best m e))

says : (o : Option MappingSymbol) → is_code (mapping_says (mapping_if o)) ≡ says_code o
says None = refl
says (Some m) = refl

pub code_at : (symbols : List MappingSymbol) (s a : ℕ) → is_code_at symbols s a ≡ says_code (governing s a None symbols)
unfolding is_code_at
code_at symbols s a = ap (λ o. is_code (mapping_says o)) (governs s a None symbols) ∙ says (governing s a None symbols)
