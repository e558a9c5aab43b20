-- A symbol table that comes again.
use Rattle.std.proofs.Common.{◌≡◌, ℕ, ◌+◌, ◌-◌, ◌*◌, ◌<◌, ◌≤◌, Bool, true, false, not, List, length, None, refl, ap, sym, ◌∙◌, arith}
use Rattle.std.specs.Prelude.{◌==◌, nat_lt}
use Rattle.std.proofs.lemmas.Bool.{and_parts, ltb-true, eqb-true}
use Rattle.std.proofs.lemmas.Bool.Decides.{nat_tests}
use Rattle.elf_headers.specs.declared.fault.LoadFault.{LoadFault}
use Rattle.elf_headers.specs.declared.fault.LoadFault.TheVariants.{BadTable}
use Rattle.sm_types.specs.Checks.{fault_when, fault_only}
use Rattle.std.specs.Option.{option_or}
use Rattle.elf_headers.specs.Below.{first_below}
use Rattle.elf_sections.specs.declared.section.SectionHeader.{SectionHeader}
use Rattle.elf_sections.specs.Sections.{section_of, section_count, section_fault, is_symbol_table, is_code_section, is_all_loaded}
use Rattle.elf_sections.specs.Sections.{is_in_file, is_good_table, has_names, ends_inside, strings_of, symbol_count, symbol_name}
use Rattle.elf_sections.specs.Sections.{section_header_offset}
use Rattle.elf_sections.specs.Repeats.{is_same_table, repeats_table}
use Rattle.elf_sections.specs.MappingSymbols.{table_mapping_symbols}
use Rattle.elf_headers.proofs.Below.{first_below-each_none, all_below-each}
use Rattle.elf_sections.proofs.Names.{in_file}

-- what it is to come again
pub record Repeats (file : List ℕ) (i : ℕ) : Type 0 where
  pub later : 0 < i
  pub table : is_symbol_table (section_of file i) ≡ true
  pub before : is_symbol_table (section_of file (i - 1)) ≡ true
  pub offset : (section_of file i).offset ≡ (section_of file (i - 1)).offset
  pub size : (section_of file i).size ≡ (section_of file (i - 1)).size
  pub link : (section_of file i).link ≡ (section_of file (i - 1)).link
  pub entry_size : (section_of file i).entry_size ≡ (section_of file (i - 1)).entry_size

pub repeats_parts : (file : List ℕ) (i : ℕ) → repeats_table file i ≡ true → Repeats file i
unfolding repeats_table
repeats_parts file i h =
    let s : SectionHeader = section_of file i in
    let t : SectionHeader = section_of file (i - 1) in
    let a = and_parts _ (is_same_table s t) h in
    let b = and_parts _ (is_symbol_table t) a.0 in
    let c = and_parts (nat_lt 0 i) (is_symbol_table s) b.0 in
    let d = and_parts _ (s.entry_size == t.entry_size) a.1 in
    let e = and_parts _ (s.link == t.link) d.0 in
    let f = and_parts (s.offset == t.offset) (s.size == t.size) e.0 in
    record {
      later = ltb-true _ _ c.0;
      table = c.1;
      before = b.1;
      offset = eqb-true _ _ f.0;
      size = eqb-true _ _ f.1;
      link = eqb-true _ _ e.1;
      entry_size = eqb-true _ _ d.1;
    }

-- a header that has these fields, and no others
abbrev table_header : ℕ → ℕ → ℕ → ℕ → SectionHeader
table_header offset size link entry_size =
    record { kind = 0; flags = 0; address = 0; offset = offset; size = size; link = link; entry_size = entry_size }

is_good_table-fields : (file : List ℕ) (s : SectionHeader)
    → is_good_table file s ≡ is_good_table file (table_header s.offset s.size s.link s.entry_size)
unfolding is_good_table has_names
is_good_table-fields file s = refl

table_mapping_symbols-fields : (file : List ℕ) (s : SectionHeader)
    → table_mapping_symbols file s ≡ table_mapping_symbols file (table_header s.offset s.size s.link s.entry_size)
unfolding table_mapping_symbols
table_mapping_symbols-fields file s = refl

same_header : (s t : SectionHeader) → s.offset ≡ t.offset → s.size ≡ t.size → s.link ≡ t.link → s.entry_size ≡ t.entry_size
    → table_header s.offset s.size s.link s.entry_size ≡ table_header t.offset t.size t.link t.entry_size
same_header s t o z l e = λ i. table_header (o i) (z i) (l i) (e i)

pub is_good_table-repeats : (file : List ℕ) (i : ℕ) → Repeats file i
    → is_good_table file (section_of file i) ≡ is_good_table file (section_of file (i - 1))
is_good_table-repeats file i r =
    is_good_table-fields file (section_of file i)
    ∙ ap (is_good_table file) (same_header (section_of file i) (section_of file (i - 1)) r.offset r.size r.link r.entry_size)
    ∙ sym (is_good_table-fields file (section_of file (i - 1)))

pub table_mapping_symbols-repeats : (file : List ℕ) (i : ℕ) → Repeats file i
    → table_mapping_symbols file (section_of file i) ≡ table_mapping_symbols file (section_of file (i - 1))
table_mapping_symbols-repeats file i r =
    table_mapping_symbols-fields file (section_of file i)
    ∙ ap (table_mapping_symbols file) (same_header (section_of file i) (section_of file (i - 1)) r.offset r.size r.link r.entry_size)
    ∙ sym (table_mapping_symbols-fields file (section_of file (i - 1)))

-- ---- what the checks give

both_parts : (t g c l : Bool) (fault : LoadFault)
    → option_or (fault_only t (fault_when (not g) fault)) (option_or (fault_only c (fault_when (not l) fault)) None) ≡ None
    → (t ≡ true → g ≡ true) × (c ≡ true → l ≡ true)
both_parts true true true true fault h = (λ _. refl, λ _. refl)
both_parts true true true false fault h = cc
both_parts true true false l fault h = (λ _. refl, λ e. cc)
both_parts true false c l fault h = cc
both_parts false g true true fault h = (λ e. cc, λ _. refl)
both_parts false g true false fault h = cc
both_parts false g false l fault h = (λ e. cc, λ e. cc)

pub good_table : (file : List ℕ) (i : ℕ) → section_fault file i ≡ None → is_symbol_table (section_of file i) ≡ true
    → is_good_table file (section_of file i) ≡ true
unfolding section_fault
good_table file i h t =
    (both_parts (is_symbol_table (section_of file i)) (is_good_table file (section_of file i)) (is_code_section (section_of file i))
    (is_all_loaded file (section_of file i)) (BadTable (section_header_offset file i)) h).0 t

pub loaded_section : (file : List ℕ) (i : ℕ) → section_fault file i ≡ None → is_code_section (section_of file i) ≡ true
    → is_all_loaded file (section_of file i) ≡ true
unfolding section_fault
loaded_section file i h t =
    (both_parts (is_symbol_table (section_of file i)) (is_good_table file (section_of file i)) (is_code_section (section_of file i))
    (is_all_loaded file (section_of file i)) (BadTable (section_header_offset file i)) h).1 t

no_code : (s : SectionHeader) → is_symbol_table s ≡ true → is_code_section s ≡ false
no_code s h = grind (arith, nat_tests)

passes : (t g c l : Bool) (fault : LoadFault) → g ≡ true → c ≡ false
    → option_or (fault_only t (fault_when (not g) fault)) (option_or (fault_only c (fault_when (not l) fault)) None) ≡ None
passes true true false l fault g c = refl
passes false true false l fault g c = refl
passes t false c l fault g e = cc
passes t g true l fault h e = cc

-- a symbol table that comes again passes, as it did before
pub section_fault-repeats : (file : List ℕ) (i : ℕ) → repeats_table file i ≡ true → first_below (section_fault file) i ≡ None
    → section_fault file i ≡ None
unfolding section_fault
section_fault-repeats file i h before =
    let r : Repeats file i = repeats_parts file i h in
    let good : is_good_table file (section_of file (i - 1)) ≡ true =
    good_table file (i - 1) (first_below-each_none (section_fault file) i before (i - 1) (omega (arith, r.later))) r.before in
    passes (is_symbol_table (section_of file i)) (is_good_table file (section_of file i)) (is_code_section (section_of file i))
    (is_all_loaded file (section_of file i)) (BadTable (section_header_offset file i))
    (is_good_table-repeats file i r ∙ good) (no_code (section_of file i) r.table)

-- ---- what a good table has

pub record HasParts (file : List ℕ) (s : SectionHeader) : Type 0 where
  pub linked : s.link < section_count file
  pub symbols : is_in_file file s ≡ true
  pub strings : is_in_file file (strings_of file s) ≡ true
  pub names : has_names file s ≡ true

pub table_parts : (file : List ℕ) (s : SectionHeader) → is_good_table file s ≡ true → HasParts file s
unfolding is_good_table
table_parts file s h =
    let a = and_parts _ (has_names file s) h in
    let b = and_parts _ (is_in_file file (strings_of file s)) a.0 in
    let c = and_parts _ (is_in_file file s) b.0 in
    let d = and_parts (s.entry_size == 24) (nat_lt s.link (section_count file)) c.0 in
    record { linked = ltb-true _ _ d.1; symbols = c.1; strings = b.1; names = a.1 }

pub name_inside : (file : List ℕ) (s : SectionHeader) (k : ℕ) → has_names file s ≡ true → k < symbol_count s
    → ends_inside file (strings_of file s) (symbol_name file s k) ≡ true
unfolding has_names
name_inside file s k h l = all_below-each _ (symbol_count s) h k l

pub symbol_inside : (file : List ℕ) (s : SectionHeader) (k : ℕ) → is_in_file file s ≡ true → k < symbol_count s
    → s.offset + 24 * k + 24 ≤ length file
symbol_inside file s k h l = let within : s.offset + s.size ≤ length file = in_file file s h (omega arith) in omega arith
