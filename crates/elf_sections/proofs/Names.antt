-- Names that end inside their string table.
use Rattle.std.proofs.Common.{inl, inr, ◌≡◌, ◌≢◌, ℕ, ◌+◌, ◌-◌, ◌<◌, ◌≤◌, true, false, List, length, sym, ◌∙◌, arith}
use Rattle.std.specs.Prelude.{◌==◌, ◌&&◌, nat_lt, nat_le}
use Rattle.std.proofs.lemmas.Bool.{cases_lt, le-ltb, lt-ltb, leb-true, eqb-true, and_parts}
use Rattle.std.proofs.lemmas.Bool.Decides.{nat_tests}
use Rattle.elf_headers.specs.Header.{number_at}
use Rattle.elf_sections.specs.declared.section.SectionHeader.{SectionHeader}
use Rattle.elf_sections.specs.MappingSymbols.{HasEnd}
use Rattle.elf_sections.specs.Sections.{is_in_file, ends_inside, has_names, symbol_name, symbol_count, strings_of}
use Rattle.elf_headers.proofs.Below.{any_below-found, any_below-all_none, any_below-one, all_below-found, all_below-all}

pub in_file : (file : List ℕ) (s : SectionHeader) → is_in_file file s ≡ true → 0 < s.size → s.offset + s.size ≤ length file
in_file file s h l = grind (arith, nat_tests)

-- no byte of the string table from that one on is zero
abbrev pub HasNoZeroFrom : List ℕ → SectionHeader → ℕ → Type 0
HasNoZeroFrom file strings end = (p : ℕ) → end ≤ p → p < strings.size → number_at file (strings.offset + p) 1 ≢ 0

no_zero_at : (file : List ℕ) (strings : SectionHeader) (name p : ℕ) → number_at file (strings.offset + p) 1 ≢ 0
    → (nat_le name p && (number_at file (strings.offset + p) 1 == 0)) ≡ false
no_zero_at file strings name p h = grind (arith, nat_tests)

before_none : (file : List ℕ) (strings : SectionHeader) (name p : ℕ) → p < name
    → (nat_le name p && (number_at file (strings.offset + p) 1 == 0)) ≡ false
before_none file strings name p h = grind (arith, nat_tests)

-- where no byte is zero, no name ends
pub ends_inside-none : (file : List ℕ) (strings : SectionHeader) (end name : ℕ) → end ≤ 0 → HasNoZeroFrom file strings end
    → ends_inside file strings name ≡ nat_lt name end
unfolding ends_inside
ends_inside-none file strings end name z h =
    any_below-all_none _ strings.size (λ p l. no_zero_at file strings name p (h p (omega arith) l)) ∙ sym (le-ltb name end (omega arith))

-- a name ends inside exactly where it begins at the last zero byte or before it
pub ends_inside-last : (file : List ℕ) (strings : SectionHeader) (end name : ℕ) → 0 < end → end ≤ strings.size
    → number_at file (strings.offset + (end - 1)) 1 ≡ 0 → HasNoZeroFrom file strings end → ends_inside file strings name ≡ nat_lt name end
unfolding ends_inside
ends_inside-last file strings end name some within last none =
    elim (cases_lt name end) [
      | inl l ↦ any_below-found _ (end - 1) strings.size (grind (arith, nat_tests)) (omega arith) ∙ sym (lt-ltb name end l)
      | inr g ↦
          any_below-all_none _ strings.size (λ p l. elim (cases_lt p name) [
            | inl b ↦ before_none file strings name p b
            | inr a ↦ no_zero_at file strings name p (none p (omega arith) l)
          ]) ∙ sym (le-ltb name end g)
    ]

-- ---- the names of all symbols

pub names-none : (file : List ℕ) (s : SectionHeader) (k : ℕ) → k < symbol_count s
    → ends_inside file (strings_of file s) (symbol_name file s k) ≡ false → has_names file s ≡ false
unfolding has_names
names-none file s k l h = all_below-found _ k (symbol_count s) h l

pub names-all : (file : List ℕ) (s : SectionHeader)
    → ((k : ℕ) → k < symbol_count s → ends_inside file (strings_of file s) (symbol_name file s k) ≡ true) → has_names file s ≡ true
unfolding has_names
names-all file s h = all_below-all _ (symbol_count s) h

-- a name that ends inside its string table ends in the file
pub name_ends : (file : List ℕ) (strings : SectionHeader) (name : ℕ) → is_in_file file strings ≡ true → ends_inside file strings name ≡ true
    → HasEnd file (strings.offset + name)
unfolding ends_inside
name_ends file strings name inside h =
    let w : (p : ℕ) × (p < strings.size) × ((nat_le name p && (number_at file (strings.offset + p) 1 == 0)) ≡ true) =
    any_below-one _ strings.size h in
    let parts = and_parts (nat_le name w.0) (number_at file (strings.offset + w.0) 1 == 0) w.2 in
    let from : name ≤ w.0 = leb-true _ _ parts.0 in
    let within : strings.offset + strings.size ≤ length file = in_file file strings inside (omega (arith, w.1)) in
    (strings.offset + w.0, omega arith, omega (arith, w.1), eqb-true _ _ parts.1)
