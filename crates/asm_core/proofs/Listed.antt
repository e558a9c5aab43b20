-- Each code word of a source's object means an instruction, since an instruction put it.
use Rattle.std.proofs.Common.{◌≡◌, ℕ, zero, suc, ◌+◌, ◌*◌, ◌/◌, ◌%◌, ◌^◌, ◌<◌, ◌≤◌, Bool, true, false, cond, ◌==◌, ◌&&◌, List, [], ◌∷◌}
use Rattle.std.proofs.Common.{◌++◌, inl, inr, length, take, drop, Option, Some, None, Ok, Err, refl, sym, ap, ◌∙◌, subst, arith, drop-drop, length-append}
use Rattle.std.specs.Prelude.{slice_get, is_some, option_map}
use Rattle.std.proofs.lemmas.Bool.{cases_lt}
use Rattle.std.proofs.lemmas.List.{drop_at, drop-take, take-take}
use Rattle.byteorder.specs.Numbers.{length-bytes_low_first}
use Rattle.std.specs.List.{filter_map, cons_option, range_with_len, list_all}
use Rattle.std.proofs.lemmas.Bool.Decides.{nat_tests}
use Rattle.std.proofs.lemmas.Option.{same_Some}
use Rattle.byteorder.specs.Endian.{little_bytes}
use Rattle.sm_types.specs.declared.object.Object.{Object}
use Rattle.sm_types.specs.declared.object.Section.{Section}
use Rattle.sm_types.specs.declared.object.Section.TheVariants.{Text}
use Rattle.sm_types.specs.Bytes.{little_number as little}
use Rattle.sm_types.specs.Objects.{text_address, mappings_of, governing_mapping, mapping_says, is_code, text_content, is_text_code, text_word, object_word}
use Rattle.sm_types.specs.Objects.{object_code}
use Rattle.a64_encode.specs.Either.{instruction_of}
use Rattle.asm_parser.specs.declared.line.LineFault.{LineFault}
use Rattle.asm_parser.specs.Statements.{Says, Nothing, IntoText, IntoData, Quads, Words, Bytes, Zeros, Aligns, Globals, Codes}
use Rattle.asm_parser.specs.Statements.{SourceLine}
use Rattle.asm_parser.specs.Lines.{line_of}
use Rattle.asm_core.specs.declared.fault.AsmFault.{AsmFault}
use Rattle.asm_core.specs.declared.location_counter.LocationCounter.{LocationCounter}
use Rattle.asm_core.specs.Source.{said_lines}
use Rattle.asm_core.specs.Layout.{first_counter, here_in, here, size_of, Label, Names, names_in, address_here, counter_after, counter_past}
use Rattle.std.specs.Option.{option_or as or_else}
use Rattle.asm_core.specs.Faults.{misaligned, line_fault, lines_fault, labels_after, text_length_of}
use Rattle.asm_core.specs.Code.{code_words}
use Rattle.asm_core.specs.Assembly.{HasBytes, numbers_bytes, resolved_words, MeansOne, MeanEach, Puts, part_bytes, puts_code, IsObjectOf}
use Rattle.a64_encode.specs.Writable.{is_listed}
use Rattle.asm_core.proofs.MappingSymbols.{mappings_said, line_mappings_said, told}
use Rattle.asm_core.proofs.Scanning.{lines_cons, said_cons, line_passes}
use Rattle.asm_core.proofs.Pieces.{length-resolved}

-- ---- instructions stand at multiples of 4

first_none : (a b : Option AsmFault) → or_else a b ≡ None → a ≡ None
first_none None b e = refl
first_none (Some f) b e = cc

placed_column : (o : Option ℕ) (f : ℕ → AsmFault) → option_map f o ≡ None → o ≡ None
placed_column None f e = refl
placed_column (Some c) f e = cc

no_column : (n : ℕ) (p : LocationCounter) (labels : List Label) (line : SourceLine) → line_fault n p labels (Ok line) ≡ None
    → misaligned line.says (here p) ≡ None
unfolding line_fault
no_column n p labels line e = placed_column (misaligned line.says (here p)) _ (first_none _ _ e)

past_none : (p : LocationCounter) → counter_past p [] ≡ p
unfolding counter_past
past_none p = refl

past_cons : (p : LocationCounter) (line : SourceLine) (lines : List SourceLine)
    → counter_past p (line ∷ lines) ≡ counter_past (counter_after p line.says) lines
unfolding counter_past
past_cons p line lines = refl

nothing_said : said_lines [] ≡ []
unfolding said_lines
nothing_said = refl

faulty : (n : ℕ) (p : LocationCounter) (list : List Label) (fault : LineFault) → line_fault n p list (Err fault) ≡ None → ⊥
unfolding line_fault
faulty n p list fault e = cc

no_item : (lines : List SourceLine) (k : ℕ) (line : SourceLine) → lines ≡ [] → slice_get lines k ≡ Some line → ⊥
no_item [] k line h e = cc
no_item (l ∷ lines) k line h e = cc

aligned_cons : (texts : List (List ℕ)) (n : ℕ) (p : LocationCounter) (list : List Label) (first : SourceLine)
    → line_fault n p list (Ok first) ≡ None
    → ((j : ℕ) (other : SourceLine) → slice_get (said_lines texts) j ≡ Some other
    → misaligned other.says (here (counter_past (counter_after p first.says) (take j (said_lines texts)))) ≡ None)
    → (k : ℕ) (line : SourceLine) → slice_get (first ∷ said_lines texts) k ≡ Some line
    → misaligned line.says (here (counter_past p (take k (first ∷ said_lines texts)))) ≡ None
aligned_cons texts n p list first sound later zero line at =
    subst (λ (l : SourceLine). misaligned l.says (here (counter_past p [])) ≡ None) (same_Some first line at)
    (subst (λ (q : LocationCounter). misaligned first.says (here q) ≡ None) (sym (past_none p)) (no_column n p list first sound))
aligned_cons texts n p list first sound later (suc k) line at =
    subst (λ (q : LocationCounter). misaligned line.says (here q) ≡ None) (sym (past_cons p first (take k (said_lines texts))))
    (later k line at)

pub aligned_at : (texts : List (List ℕ)) (n : ℕ) (p : LocationCounter) (list : List Label) → lines_fault n p list texts ≡ None
    → (k : ℕ) (line : SourceLine) → slice_get (said_lines texts) k ≡ Some line
    → misaligned line.says (here (counter_past p (take k (said_lines texts)))) ≡ None
aligned_at [] n p list e k line at = absurd (no_item (said_lines []) k line nothing_said at)
aligned_at (text ∷ texts) n p list e k line at =
    let split = sym (lines_cons n p list text texts) ∙ e in
    elim (line_of text) as (λ r. line_of text ≡ r → misaligned line.says (here (counter_past p (take k (said_lines (text ∷ texts)))))
    ≡ None) [
      | Err fault ↦ λ is. absurd (faulty n p list fault (sym (ap (line_fault n p list) is) ∙ first_none _ _ split))
      | Ok first ↦ λ is.
          let sound : line_fault n p list (Ok first) ≡ None = sym (ap (line_fault n p list) is) ∙ first_none _ _ split in
          let rest : lines_fault (n + 1) (counter_after p first.says) (labels_after p list first) texts ≡ None =
          sym (line_passes n p list text texts first is sound) ∙ e in
          let said : said_lines (text ∷ texts) ≡ first ∷ said_lines texts = said_cons text texts first is in
          subst (λ (ls : List SourceLine). misaligned line.says (here (counter_past p (take k ls))) ≡ None) (sym said)
          (aligned_cons texts n p list first sound
          (λ j other there. aligned_at texts (n + 1) (counter_after p first.says) (labels_after p list first) rest j other there) k line
          (sym (ap (λ (ls : List SourceLine). slice_get ls k) said) ∙ at))
    ] refl

-- ---- the word that an instruction put

multiple : (at column : ℕ) (b : Bool) → (at % 4 == 0) ≡ b → cond b None (Some column) ≡ None → at % 4 ≡ 0
multiple at column true e h = grind (arith, nat_tests)
multiple at column false e h = cc

bytes_word : (word : ℕ) → word < 2 ^ 32 → little (little_bytes 4 word) ≡ word
bytes_word word l = omega arith

here_text : (p : LocationCounter) → p.part ≡ Text → here p ≡ p.text_size
here_text p e = ap (λ part. here_in part p) e

word_there : (word : ℕ) (text : List ℕ) (at : ℕ) → MeansOne word → HasBytes text at (little_bytes 4 word)
    → is_some (instruction_of (text_word text at)) ≡ true
unfolding text_word
word_there word text at h stands =
    ap (λ bytes. is_some (instruction_of (little bytes))) stands ∙ ap (λ w. is_some (instruction_of w)) (bytes_word word h.is_word)
    ∙ h.means

same_offset : (n at : ℕ) → at % 4 ≡ 0 → at ≤ 4 * n → 4 * n < at + 4 → at ≡ 4 * n
same_offset n at e l m = omega arith

-- bytes that stand somewhere are two pieces, one after the other
two_pieces : (bytes a b : List ℕ) (at : ℕ) → HasBytes bytes at (a ++ b) → HasBytes bytes at a × HasBytes bytes (at + length a) b
two_pieces bytes a b at h =
    let rest = drop at bytes in
    let whole : take (length a + length b) rest ≡ a ++ b = ap (λ n. take n rest) (sym (length-append a b)) ∙ h in (
      sym (take-take (length a) (length a + length b) rest (omega arith)) ∙ ap (take (length a)) whole ∙ take_at a b,
      ap (take (length b)) (sym (drop-drop (length a) at bytes)) ∙ sym (drop-take (length a) (length b) rest)
          ∙ ap (drop (length a)) whole ∙ drop_at a b (length a) refl,
    )
  where
    take_at : (xs ys : List ℕ) → take (length xs) (xs ++ ys) ≡ xs
    take_at [] ys = refl
    take_at (x ∷ xs) ys = ap (λ zs. x ∷ zs) (take_at xs ys)

-- of words that stand somewhere, that which has byte 4 * n
word_among : (words text : List ℕ) (at n : ℕ) → MeanEach words → HasBytes text at (numbers_bytes 4 words) → at % 4 ≡ 0 → at ≤ 4 * n
    → 4 * n < at + 4 * length words → is_some (instruction_of (text_word text (4 * n))) ≡ true
word_among [] text at n m h e from to = absurd (omega arith)
word_among (w ∷ ws) text at n m h e from to =
    let p = two_pieces text (little_bytes 4 w) (numbers_bytes 4 ws) at h in
    elim (cases_lt (4 * n) (at + 4)) [
      | inl lt ↦
          let same : at ≡ 4 * n = same_offset n at e from lt in
          ap (λ k. is_some (instruction_of (text_word text k))) (sym same) ∙ word_there w text at m.0 p.0
      | inr past ↦
          let rest : HasBytes text (at + 4) (numbers_bytes 4 ws) =
          subst (λ k. HasBytes text (at + k) (numbers_bytes 4 ws)) (length-bytes_low_first 0 4 w) p.1 in
          let next : (at + 4) % 4 ≡ 0 = omega arith in
          let to_end : 4 * n < at + 4 + 4 * length ws = omega arith in
          word_among ws text (at + 4) n m.1 rest next past to_end
    ]

-- code at a location counter of the text that has byte 4 * n put word n
put_word : (tl : ℕ) (names : Names) (text : List ℕ) (says : Says) (p : LocationCounter) (n : ℕ) → puts_code says ≡ true
    → p.part ≡ Text
    → p.text_size ≤ 4 * n → 4 * n < p.text_size + size_of says (here p)
    → misaligned says (here p) ≡ None → Puts tl names text p says → is_some (instruction_of (text_word text (4 * n))) ≡ true
unfolding puts_code size_of misaligned Puts
put_word tl names text (Codes code column) p n isn in_text from to aligned puts =
    let at : here p ≡ p.text_size = here_text p in_text in
    let whole : here p % 4 ≡ 0 = multiple (here p) column (here p % 4 == 0) refl aligned in
    let count = length-resolved tl names (address_here tl p) (code_words code) in
    word_among (resolved_words tl names (address_here tl p) (code_words code)) text (here p) n puts.mean puts.stand whole
    (subst (λ m. m ≤ 4 * n) (sym at) from)
    (subst (λ k. 4 * n < here p + 4 * k) (sym count) (subst (λ m. 4 * n < m + 4 * length (code_words code)) (sym at) to))
put_word tl names text Nothing p n isn in_text from to aligned puts = cc
put_word tl names text IntoText p n isn in_text from to aligned puts = cc
put_word tl names text IntoData p n isn in_text from to aligned puts = cc
put_word tl names text (Quads values) p n isn in_text from to aligned puts = cc
put_word tl names text (Words numbers) p n isn in_text from to aligned puts = cc
put_word tl names text (Bytes numbers) p n isn in_text from to aligned puts = cc
put_word tl names text (Zeros count) p n isn in_text from to aligned puts = cc
put_word tl names text (Aligns power) p n isn in_text from to aligned puts = cc
put_word tl names text (Globals name) p n isn in_text from to aligned puts = cc

-- ---- all code words

all_listed : (f : ℕ → Option (ℕ × ℕ)) (a m : ℕ) → ((n : ℕ) → a ≤ n → n < a + m → (e : ℕ × ℕ) → f n ≡ Some e → is_listed e ≡ true)
    → list_all is_listed (filter_map f (range_with_len a m)) ≡ true
all_listed f a zero h = refl
all_listed f a (suc m) h =
    elim (f a) as (λ o. f a ≡ o → list_all is_listed (cons_option o (filter_map f (range_with_len (a + 1) m))) ≡ true) [
      | None ↦ λ is. all_listed f (a + 1) m (λ n l u e at. h n (omega arith) (omega arith) e at)
      | Some e ↦ λ is. (λ i. h a (omega arith) (omega arith) e is i
          && all_listed f (a + 1) m (λ n l u e at. h n (omega arith) (omega arith) e at) i)
    ] refl

abbrev second_of : Option (ℕ × ℕ) → ℕ
second_of None = 0
second_of (Some e) = e.1

same_word : (address word : ℕ) (e : ℕ × ℕ) → ◌≡◌ {A = Option (ℕ × ℕ)} (Some (address, word)) (Some e) → word ≡ e.1
same_word address word e h = ap (λ (o : Option (ℕ × ℕ)). second_of o) h

code_if : (b : Bool) (address word : ℕ) (e : ℕ × ℕ) → cond b (Some (address, word)) None ≡ Some e → (b ≡ true) × (word ≡ e.1)
code_if true address word e h = (refl, same_word address word e h)
code_if false address word e h = cc

module _ (texts : List (List ℕ)) (accepted : lines_fault 1 first_counter [] texts ≡ None) (object : Object)
    (is : IsObjectOf (said_lines texts) object) where
  code_listed : (n : ℕ) → 4 * n < length object.text_bytes.items
      → is_text_code (mappings_of object.symbols.items) (text_address + 4 * n) ≡ true
      → is_some (instruction_of (text_word object.text_bytes.items (4 * n))) ≡ true
  unfolding is_text_code text_content
  code_listed n l code =
      let lines = said_lines texts in
      let inside : 4 * n < (counter_past first_counter lines).text_size = subst (λ m. 4 * n < m) is.text_size l in
      let t = told lines first_counter None None (4 * n) refl (omega arith) inside in
      let p = counter_past first_counter (take t.put.k lines) in
      let mappings =
      mappings_said object.symbols.items ∙ ap (filter_map _) is.symbols
      ∙ line_mappings_said (text_length_of lines) first_counter None lines in
      let instruction : puts_code t.put.line.says ≡ true =
      sym t.kind ∙ sym (ap (λ ms. is_code (mapping_says (governing_mapping (text_address + 4 * n) None ms))) mappings) ∙ code in
      let puts : Puts (text_length_of lines) (names_in lines) object.text_bytes.items p t.put.line.says =
      subst (λ (part : Section). Puts (text_length_of lines) (names_in lines) (part_bytes object part) p t.put.line.says) t.put.in_text
      (is.puts t.put.k t.put.line t.put.listed) in
      put_word (text_length_of lines) (names_in lines) object.text_bytes.items t.put.line.says p n instruction t.put.in_text t.put.from
      t.put.to (aligned_at texts 1 first_counter [] accepted t.put.k t.put.line t.put.listed) puts

  -- each code word means an instruction
  pub object_listed : list_all is_listed (object_code object) ≡ true
  unfolding object_code object_word
  object_listed = all_listed (object_word object) 0 (length object.text_bytes.items / 4) (λ n l u e at.
      let c =
      code_if (is_text_code (mappings_of object.symbols.items) (text_address + 4 * n)) (text_address + 4 * n)
      (text_word object.text_bytes.items (4 * n)) e at in
      ap (λ w. is_some (instruction_of w)) (sym c.1) ∙ code_listed n (omega arith) c.0)
