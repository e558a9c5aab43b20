-- The fault of a file, check by check.
use Rattle.std.proofs.Common.{◌≡◌, ℕ, List, Some, None, Result, Ok, Err, IfOk, map, refl, subst, ◌∙◌, ◌<◌, length, true, arith}
use Rattle.std.specs.Prelude.{nat_lt}
use Rattle.std.proofs.lemmas.Bool.Decides.{nat_tests}
use Rattle.elf_headers.specs.declared.fault.LoadFault.TheVariants.{TooLong}
use Rattle.paged_memory.specs.Image.{Program, IsMemoryOf}
use Rattle.elf_headers.specs.declared.program_header.ProgramHeader.{ProgramHeader}
use Rattle.elf_headers.specs.Header.{header_entry, length_fault}
use Rattle.elf_headers.specs.declared.fault.LoadFault.{LoadFault}
use Rattle.elf_headers.specs.Loads.{extent_of_load, loads_of, headers_fault}
use Rattle.elf_sections.specs.Sections.{sections_fault}
use Rattle.elf_sections.specs.Code.{code_words}
use Rattle.elf_loader.specs.Loading.{words_fault, load_fault, Loads}

pub headers_refused : (file : List ℕ) (fault : LoadFault) → headers_fault file ≡ Some fault → load_fault file ≡ Some fault
unfolding load_fault
headers_refused file fault h = rw h refl

pub sections_refused : (file : List ℕ) (fault : LoadFault) → headers_fault file ≡ None → sections_fault file ≡ Some fault
    → load_fault file ≡ Some fault
unfolding load_fault
sections_refused file fault h s = rw (h, s) refl

pub words_refused : (file : List ℕ) (fault : LoadFault) → headers_fault file ≡ None → sections_fault file ≡ None
    → words_fault (code_words file) ≡ Some fault → load_fault file ≡ Some fault
unfolding load_fault
words_refused file fault h s w = rw (h, s, w) refl

pub all_accepted : (file : List ℕ) → headers_fault file ≡ None → sections_fault file ≡ None → words_fault (code_words file) ≡ None
    → load_fault file ≡ None
unfolding load_fault
all_accepted file h s w = rw (h, s, w) refl

-- the image that was made is what the file stands for
pub loaded : (file : List ℕ) (loads : List ProgramHeader) (entry : ℕ) (code : List (ℕ × ℕ)) (r : Result Program LoadFault)
    → load_fault file ≡ None → loads ≡ loads_of file → entry ≡ header_entry file → code ≡ code_words file
    → IfOk r (λ image. IsMemoryOf (map (extent_of_load file) loads) image.memory) → IfOk r (λ image. image.entry ≡ entry)
    → IfOk r (λ image. image.code ≡ code) → IfOk r (λ image. Loads file image)
loaded file loads entry code (Ok image) a l e c memory entry_is code_is = record {
  accepted = a;
  memory = subst (λ (ls : List ProgramHeader). IsMemoryOf (map (extent_of_load file) ls) image.memory) l memory;
  entry_is = entry_is ∙ e;
  code_is = code_is ∙ c;
}
loaded file loads entry code (Err fault) a l e c memory entry_is code_is = tt

is_long : (file : List ℕ) → 67108864 < length file → nat_lt 67108864 (length file) ≡ true
is_long file h = grind (arith, nat_tests)

-- a file of more than 64 MiB is refused for its length
pub long_refused : (file : List ℕ) → 67108864 < length file → load_fault file ≡ Some TooLong
unfolding load_fault headers_fault length_fault
long_refused file h = rw (is_long file h) refl
