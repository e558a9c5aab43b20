use Rattle.std.proofs.Common.{ℕ, ◌≡◌, ◌*◌, ◌<◌, Bool, true, refl, sym, ◌∙◌, arith}
use Rattle.std.specs.Prelude.{◌&&◌, ◌||◌}
use Rattle.std.proofs.lemmas.Result.{on_ok_weaker}
use Rattle.elf_sections.specs.Sections.{section_of, is_code_section, is_all_loaded}
use Rattle.elf_sections.specs.MappingSymbols.{mapping_symbols_of, is_code_at}
use Rattle.elf_sections.specs.Code.{has_word}
use Rattle.elf_sections.specs.WordRanges.{has_number, is_in_ranges}
use Rattle.elf_sections.proofs.Loaded.{section_low}
use Rattle.elf_sections.proofs.Saying.{is_code_at-same}
use Rattle.elf_sections.proofs.Tables.{loaded_section}
use Rattle.elf_sections.proofs.word_ranges.add_section.Goals as goal

positive : {n : ℕ} → (n ≡ 0 → ⊥) → 0 < n
positive {n = n} h = grind arith

pub words_of-requires : goal.words_of-requires
words_of-requires c =
    let code : is_code_section (section_of c.args.file.now c.args.i) ≡ true =
    rw c.read_section-s.ensures at (sym c.is_code.ensures ∙ c.if-not-is_code.false) in
    let all : is_all_loaded c.args.file.now (section_of c.args.file.now c.args.i) ≡ true =
    loaded_section c.args.file.now c.args.i c.requires.checked code in
    let some : 0 < (section_of c.args.file.now c.args.i).size = rw c.read_section-s.ensures at (positive c.if-s-eq0.false) in
    rw c.read_section-s.ensures (section_low c.args.file.now (section_of c.args.file.now c.args.i) c.requires.loads all some)

all_three : (old a b c w x : Bool) → c ≡ true → a ≡ w → b ≡ x → (old || (a && b)) ≡ (old || ((c && w) && x))
all_three old a b c w x e f g = rw (e, f, g) refl

pub returns-clause-words : goal.returns-clause-words
returns-clause-words c =
    let code : is_code_section (section_of c.args.file.now c.args.i) ≡ true =
    rw c.read_section-s.ensures at (sym c.is_code.ensures ∙ c.if-not-is_code.false) in
    let word : (n : ℕ) → has_number c.words_of.result n ≡ has_word (section_of c.args.file.now c.args.i) (4 * n) =
    λ n. rw c.read_section-s.ensures at (c.words_of.ensures.words n) in
    let says : (n : ℕ) → is_code_at c.symbols_of_section.result.now c.args.i (4 * n)
    ≡ is_code_at (mapping_symbols_of c.args.file.now) c.args.i (4 * n) = λ n.
    is_code_at-same c.symbols_of_section.result.now (mapping_symbols_of c.args.file.now) c.args.i (4 * n)
    (λ v. c.symbols_of_section.ensures.same v ∙ c.requires.same c.args.i v) in
    on_ok_weaker c.add_code.result (λ new n. new n
    ∙ all_three (is_in_ranges c.args.ranges.now.items n) (has_number c.words_of.result n)
    (is_code_at c.symbols_of_section.result.now c.args.i (4 * n)) (is_code_section (section_of c.args.file.now c.args.i))
    (has_word (section_of c.args.file.now c.args.i) (4 * n)) (is_code_at (mapping_symbols_of c.args.file.now) c.args.i (4 * n)) code
    (word n)
    (says n)) c.add_code.ensures.words
