-- The fault of the section table, check by check.
use Rattle.std.proofs.Common.{◌≡◌, ℕ, ◌^◌, true, false, List, [], Option, Some, None, refl, ◌∙◌}
use Rattle.plain_lemmas.proofs.Options.{option_or-none}
use Rattle.elf_headers.specs.declared.fault.LoadFault.{LoadFault}
use Rattle.elf_headers.specs.Below.{first_below, answers_below}
use Rattle.elf_sections.specs.Sections.{section_count, section_table_fault, section_fault, sections_fault, has_sections}
use Rattle.elf_sections.specs.Code.{code_word, code_words}

pub no_sections : (file : List ℕ) → has_sections file ≡ false → sections_fault file ≡ None
unfolding sections_fault
no_sections file h = rw (h) refl

pub no_code : (file : List ℕ) → has_sections file ≡ false → [] ≡ code_words file
unfolding code_words
no_code file h = rw (h) refl

pub table_refused : (file : List ℕ) (fault : LoadFault) → has_sections file ≡ true → section_table_fault file ≡ Some fault
    → sections_fault file ≡ Some fault
unfolding sections_fault
table_refused file fault h t = rw (h, t) refl

-- where the table passes, the fault is that of the first section that fails
pub section_refused : (file : List ℕ) (o : Option LoadFault) → has_sections file ≡ true → section_table_fault file ≡ None
    → first_below (section_fault file) (section_count file) ≡ o → sections_fault file ≡ o
unfolding sections_fault
section_refused file o h t f = rw (h, t) (option_or-none (first_below (section_fault file) (section_count file)) ∙ f)

pub all_code : (file : List ℕ) → has_sections file ≡ true → answers_below (code_word file) (2 ^ 45) ≡ code_words file
unfolding code_words
all_code file h = rw (h) refl
