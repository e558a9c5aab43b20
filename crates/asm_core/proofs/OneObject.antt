-- Two objects of one source have the same bytes, the same symbols and the same start.
use Rattle.std.proofs.Common.{◌≡◌, ℕ, suc, ◌+◌, ◌*◌, ◌/◌, cond, List, [], ◌∷◌, ◌++◌, length, take, drop, map, replicate, slice_get}
use Rattle.std.proofs.Common.{Option, Some, None, refl, sym, ap, ap₂, ◌∙◌, arith}
use Rattle.std.specs.List.{filter_map, range_with_len}
use Rattle.std.proofs.lemmas.List.{length-map, length-replicate, take_all}
use Rattle.std.proofs.Math.Seq.{take-add}
use Rattle.sm_types.specs.declared.object.Section.{Section}
use Rattle.sm_types.specs.declared.object.Section.TheVariants.{Text, Data}
use Rattle.sm_types.specs.declared.object.Symbol.{Symbol}
use Rattle.sm_types.specs.declared.object.Object.{Object}
use Rattle.sm_types.specs.Objects.{text_address, Mapping, mapping_at, mapping_of, mappings_of, says_in, symbol_says, name_says}
use Rattle.sm_types.specs.Objects.{is_text_code, text_word, object_word, object_code}
use Rattle.asm_parser.specs.Statements.{Says, Nothing, IntoText, IntoData, Quads, Words, Bytes, Zeros, Aligns}
use Rattle.asm_parser.specs.Statements.{Globals, Codes, SourceLine}
use Rattle.asm_core.specs.Code.{code_words}
use Rattle.asm_core.specs.declared.location_counter.LocationCounter.{LocationCounter}
use Rattle.asm_core.specs.Source.{lines_of, said_lines}
use Rattle.asm_core.specs.Layout.{first_counter, here_in, here, size_of, grown_in, part_after, counter_after, counter_past}
use Rattle.asm_core.specs.Layout.{Names, names_in, address_here}
use Rattle.asm_core.specs.Faults.{text_length_of, start_of}
use Rattle.asm_core.specs.Assembly.{HasBytes, numbers_bytes, quad_number, resolved_words, Puts, part_bytes, SymbolSaid, symbol_said}
use Rattle.asm_core.specs.Assembly.{IsObjectOf, Assembles, IsSameObject}
use Rattle.asm_core.proofs.Pieces.{length-numbers, length-resolved}

-- ---- what a line puts is the same wherever it stands

alike : (at n : ℕ) (piece bytes others : List ℕ) → length piece ≡ n → HasBytes bytes at piece → HasBytes others at piece
    → take n (drop at bytes) ≡ take n (drop at others)
alike at n piece bytes others size h g = ap (λ k. take k (drop at bytes)) (sym size) ∙ h ∙ sym g ∙ ap (λ k. take k (drop at others)) size

module _ (text_length : ℕ) (names : Names) where
  puts_alike : (p : LocationCounter) (says : Says) (bytes others : List ℕ) → Puts text_length names bytes p says
      → Puts text_length names others p says
      → take (size_of says (here p)) (drop (here p) bytes) ≡ take (size_of says (here p)) (drop (here p) others)
  unfolding Puts size_of
  puts_alike p (Codes code column) bytes others h g =
      let from = address_here text_length p in
      let words = resolved_words text_length names from (code_words code) in
      alike (here p) (4 * length (code_words code)) (numbers_bytes 4 words) bytes others
      (length-numbers 4 words ∙ ap (λ n. 4 * n) (length-resolved text_length names from (code_words code))) h.stand g.stand
  puts_alike p (Quads values) bytes others h g =
      let numbers = map (quad_number text_length names) values in
      alike (here p) (8 * length values) (numbers_bytes 8 numbers) bytes others
      (length-numbers 8 numbers ∙ ap (λ n. 8 * n) (length-map values (quad_number text_length names))) h g
  puts_alike p (Words numbers) bytes others h g =
      alike (here p) (4 * length numbers) (numbers_bytes 4 numbers) bytes others (length-numbers 4 numbers) h g
  puts_alike p (Bytes numbers) bytes others h g = alike (here p) (length numbers) numbers bytes others refl h g
  puts_alike p (Zeros count) bytes others h g = alike (here p) count (replicate count 0) bytes others (length-replicate count 0) h g
  puts_alike p (Aligns power) bytes others h g =
      let n = size_of (Aligns power) (here p) in
      alike (here p) n (replicate n 0) bytes others (length-replicate n 0) h g
  puts_alike p Nothing bytes others h g = refl
  puts_alike p IntoText bytes others h g = refl
  puts_alike p IntoData bytes others h g = refl
  puts_alike p (Globals name) bytes others h g = refl

  -- ---- so the parts are alike up to where the lines come

  AreAlike : (Section → List ℕ) → (Section → List ℕ) → LocationCounter → Type 0
  AreAlike a b p = (s : Section) → take (here_in s p) (a s) ≡ take (here_in s p) (b s)

  more_alike : (at n : ℕ) (bytes others : List ℕ) → take at bytes ≡ take at others → take n (drop at bytes) ≡ take n (drop at others)
      → take (at + n) bytes ≡ take (at + n) others
  more_alike at n bytes others front next = take-add at n bytes ∙ ap₂ (λ x y. x ++ y) front next ∙ sym (take-add at n others)

  grown_alike : (a b : Section → List ℕ) (p : LocationCounter) (q : Section) (n : ℕ) (part s : Section) → AreAlike a b p
      → take n (drop (here_in part p) (a part)) ≡ take n (drop (here_in part p) (b part))
      → take (here_in s (record (grown_in part p n) { part = q })) (a s) ≡ take (here_in s (record (grown_in part p n) { part = q })) (b s)
  unfolding AreAlike
  grown_alike a b p q n Text Text h e = more_alike p.text_size n (a Text) (b Text) (h Text) e
  grown_alike a b p q n Text Data h e = h Data
  grown_alike a b p q n Data Text h e = h Text
  grown_alike a b p q n Data Data h e = more_alike p.data_size n (a Data) (b Data) (h Data) e

  -- the lines from a place on put what they do
  ArePut : (Section → List ℕ) → LocationCounter → List SourceLine → Type 0
  ArePut a p lines =
      (k : ℕ) (line : SourceLine) → slice_get lines k ≡ Some line
      → Puts text_length names (a (counter_past p (take k lines)).part) (counter_past p (take k lines)) line.says

  line_alike : (a b : Section → List ℕ) (p : LocationCounter) (says : Says) → AreAlike a b p
      → take (size_of says (here p)) (drop (here p) (a p.part)) ≡ take (size_of says (here p)) (drop (here p) (b p.part))
      → AreAlike a b (counter_after p says)
  unfolding counter_after AreAlike
  line_alike a b p says e same = λ s. grown_alike a b p (part_after says p.part) (size_of says (here p)) p.part s e same

  all_alike : (a b : Section → List ℕ) (p : LocationCounter) (lines : List SourceLine) → ArePut a p lines → ArePut b p lines
      → AreAlike a b p
      → AreAlike a b (counter_past p lines)
  unfolding ArePut counter_past
  all_alike a b p [] h g e = e
  all_alike a b p (line ∷ lines) h g e =
      all_alike a b (counter_after p line.says) lines (λ k other at. h (suc k) other at) (λ k other at. g (suc k) other at)
      (line_alike a b p line.says e (puts_alike p line.says (a p.part) (b p.part) (h 0 line refl) (g 0 line refl)))

-- ---- the objects

whole : (bytes others : List ℕ) (n : ℕ) → length bytes ≡ n → length others ≡ n → take n bytes ≡ take n others → bytes ≡ others
whole bytes others n l m e = sym (take_all n bytes (omega (arith, l))) ∙ e ∙ take_all n others (omega (arith, m))

same_some : (a b : ℕ) (o : Option ℕ) → o ≡ Some a → o ≡ Some b → a ≡ b
same_some a b o e f = cc

one_by_lines : (lines : List SourceLine) (o p : Object) → IsObjectOf lines o → IsObjectOf lines p → IsSameObject o p
unfolding ArePut AreAlike
one_by_lines lines o p h g =
    let n = text_length_of lines in
    let parts = all_alike n (names_in lines) (part_bytes o) (part_bytes p) first_counter lines h.puts g.puts (λ s. none s) in
    record {
      text_bytes = whole o.text_bytes.items p.text_bytes.items n h.text_size g.text_size (parts Text);
      data_bytes =
          whole o.data_bytes.items p.data_bytes.items (counter_past first_counter lines).data_size h.data_size g.data_size (parts Data);
      symbols = h.symbols ∙ sym g.symbols;
      entry = same_some o.entry p.entry (start_of n (names_in lines)) h.starts g.starts;
    }
  where
    none : (s : Section) → take (here_in s first_counter) (part_bytes o s) ≡ take (here_in s first_counter) (part_bytes p s)
    none Text = refl
    none Data = refl

pub one_object : (source : List ℕ) (o p : Object) → Assembles source o → Assembles source p → IsSameObject o p
one_object source o p h g = one_by_lines (said_lines (lines_of source)) o p h.object_is g.object_is

-- ---- the code words of such objects

-- what a symbol says, of what is known of it
mapping_said : SymbolSaid → Option Mapping
mapping_said s = mapping_at s.address (says_in s.section (name_says s.name))

mappings_by : (symbols : List Symbol) → mappings_of symbols ≡ filter_map mapping_said (map symbol_said symbols)
unfolding mappings_of mapping_said symbol_says
mappings_by [] = refl
mappings_by (s ∷ symbols) = ap (λ ms. add (mapping_of s) ms) (mappings_by symbols)
  where
    add : Option Mapping → List Mapping → List Mapping
    add None ms = ms
    add (Some m) ms = m ∷ ms

pub same_code : (o p : Object) → IsSameObject o p → object_code o ≡ object_code p
unfolding object_code object_word
same_code o p h =
    let mappings : mappings_of o.symbols.items ≡ mappings_of p.symbols.items =
    mappings_by o.symbols.items ∙ ap (filter_map mapping_said) h.symbols ∙ sym (mappings_by p.symbols.items) in
    λ i. filter_map (λ n. cond (is_text_code (mappings i) (text_address + 4 * n))
    (Some (text_address + 4 * n, text_word (h.text_bytes i) (4 * n))) None) (range_with_len 0 (length (h.text_bytes i) / 4))
