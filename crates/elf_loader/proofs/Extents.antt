-- The parts of loads, one after another.
use Rattle.std.proofs.Common.{◌≡◌, ℕ, ◌+◌, ◌-◌, ◌<◌, List, [], ◌∷◌, ◌++◌, length, get_or, take, map, refl, sym, ap, ap₂, ◌∙◌}
use Rattle.std.proofs.Common.{add-one}
use Rattle.std.proofs.Math.Seq.{take-suc}
use Rattle.std.proofs.lemmas.List.{map_push}
use Rattle.paged_memory.specs.declared.image.Part.{Part}
use Rattle.paged_memory.specs.Image.{Extent, extent_of}
use Rattle.elf_headers.specs.declared.program_header.ProgramHeader.{ProgramHeader}
use Rattle.elf_headers.specs.Loads.{extent_of_load}

pub parts_more : (file : List ℕ) (parts : List Part) (part : Part) (loads : List ProgramHeader) (i : ℕ) (d : ProgramHeader)
    → i < length loads
    → map extent_of parts ≡ map (extent_of_load file) (take i loads) → extent_of part ≡ extent_of_load file (get_or loads i d)
    → map extent_of (parts ++ part ∷ []) ≡ map (extent_of_load file) (take (i + 1) loads)
parts_more file parts part loads i d l before here =
    map_push extent_of parts part ∙ ap₂ (λ (xs : List Extent) (x : Extent). xs ++ x ∷ []) before here
    ∙ sym (map_push (extent_of_load file) (take i loads) (get_or loads i d))
    ∙ ap (map (extent_of_load file)) (sym (rw add-one (take-suc loads i d l)))

take_all : (loads : List ProgramHeader) → take (length loads) loads ≡ loads
take_all [] = refl
take_all (x ∷ loads) = ap (λ xs. x ∷ xs) (take_all loads)

pub parts_all : (file : List ℕ) (parts : List Part) (loads : List ProgramHeader) (i : ℕ) → i ≡ length loads
    → map extent_of parts ≡ map (extent_of_load file) (take i loads) → map extent_of parts ≡ map (extent_of_load file) loads
parts_all file parts loads i e h =
    h ∙ ap (λ k. map (extent_of_load file) (take k loads)) e ∙ ap (map (extent_of_load file)) (take_all loads)
