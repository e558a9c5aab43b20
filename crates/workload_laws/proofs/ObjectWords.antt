-- The object of a source of the workload: its text is the words, one after another.
use Rattle.std.proofs.Common.{◌≡◌, ℕ, suc, ◌+◌, ◌*◌, List, [], ◌∷◌, ◌++◌, map, length, take, drop, slice_get, Option, Some}
use Rattle.std.proofs.Common.{refl, sym, ap, ap₂, ◌∙◌, subst, arith, drop-drop}
use Rattle.std.proofs.lemmas.List.{append-nil, take-append-drop}
use Rattle.std.proofs.Math.ListN.{drop_of_length-le}
use Rattle.byteorder.specs.Endian.{little_bytes}
use Rattle.byteorder.specs.Numbers.{length-bytes_low_first}
use Rattle.sm_types.specs.declared.object.Object.{Object}
use Rattle.sm_types.specs.declared.object.Section.{Section}
use Rattle.sm_types.specs.declared.object.Section.TheVariants.{Text}
use Rattle.asm_parser.specs.Statements.{SourceLine}
use Rattle.asm_core.specs.declared.location_counter.LocationCounter.{LocationCounter}
use Rattle.asm_core.specs.Layout.{Names, names_in, size_of, counter_after, counter_past}
use Rattle.asm_core.specs.Faults.{text_length_of}
use Rattle.asm_core.specs.Code.{code_words}
use Rattle.asm_core.specs.Assembly.{HasBytes, numbers_bytes, resolved, resolved_words, Puts, part_bytes, IsObjectOf, Assembles}
use Rattle.workload.specs.Source.{source_of}
use Rattle.workload_laws.specs.Words.{source_words, word_line, said_of, HasWords}
use Rattle.workload_laws.proofs.Instructions.{after_words, word_counter}
use Rattle.workload_laws.proofs.Sources.{source_said, said_counter, said_start, word_count}

module _ (text_length : ℕ) (names : Names) (a : Section → List ℕ) where
  -- the lines from a location counter on put what they do
  ArePut : LocationCounter → List SourceLine → Type 0
  ArePut p lines =
      (k : ℕ) (line : SourceLine) → slice_get lines k ≡ Some line
      → Puts text_length names (a (counter_past p (take k lines)).part) (counter_past p (take k lines)) line.says

  put_first : (p : LocationCounter) (line : SourceLine) (lines : List SourceLine) → ArePut p (line ∷ lines)
      → Puts text_length names (a p.part) p line.says
  unfolding ArePut counter_past
  put_first p line lines h = h 0 line refl

  put_rest : (p : LocationCounter) (line : SourceLine) (lines : List SourceLine) → ArePut p (line ∷ lines)
      → ArePut (counter_after p line.says) lines
  unfolding ArePut counter_past
  put_rest p line lines h = λ k other at. h (suc k) other at

  word_bytes : (count word : ℕ) → Puts text_length names (a Text) (after_words count) (word_line word).says
      → take 4 (drop (4 * count) (a Text)) ≡ little_bytes 4 word
  unfolding Puts resolved resolved_words code_words
  word_bytes count word h =
      ap (λ n. take n (drop (4 * count) (a Text))) (sym (length-bytes_low_first 0 4 word))
      ∙ subst (λ bytes. HasBytes (a Text) (4 * count) bytes) (append-nil (little_bytes 4 word)) h.stand

  next_words : (count : ℕ) (words : List ℕ) (p : LocationCounter) → p ≡ after_words (count + 1) → ArePut p (map word_line words)
      → ArePut (after_words (count + 1)) (map word_line words)
  next_words count words p e h = subst (λ (q : LocationCounter). ArePut q (map word_line words)) e h

  -- so the text from there on is their words
  words_put : (count : ℕ) (words : List ℕ) → length (a Text) ≡ 4 * count + 4 * length words
      → ArePut (after_words count) (map word_line words) → drop (4 * count) (a Text) ≡ numbers_bytes 4 words
  words_put count [] size h = drop_of_length-le (a Text) (omega arith)
  words_put count (word ∷ words) size h =
      let first : take 4 (drop (4 * count) (a Text)) ≡ little_bytes 4 word =
      word_bytes count word (put_first (after_words count) (word_line word) (map word_line words) h) in
      let rest : drop (4 * (count + 1)) (a Text) ≡ numbers_bytes 4 words =
      words_put (count + 1) words (omega arith)
      (next_words count words (counter_after (after_words count) (word_line word).says) (word_counter count word)
      (put_rest (after_words count) (word_line word) (map word_line words) h)) in
      let next : 4 * count + 4 ≡ 4 * (count + 1) = omega arith in
      let step : drop 4 (drop (4 * count) (a Text)) ≡ drop (4 * (count + 1)) (a Text) =
      drop-drop 4 (4 * count) (a Text) ∙ ap (λ n. drop n (a Text)) next in
      sym (take-append-drop 4 (drop (4 * count) (a Text))) ∙ ap₂ (λ (x y : List ℕ). x ++ y) first (step ∙ rest)

module _ (number : ℕ) (object : Object) (is : Assembles (source_of number) object) where
  object_is : IsObjectOf (said_of number) object
  object_is = subst (λ (ls : List SourceLine). IsObjectOf ls object) (source_said number) is.object_is

  text_size : length object.text_bytes.items ≡ 4 * (10 + number)
  text_size = object_is.text_size ∙ ap (λ (p : LocationCounter). p.text_size) (said_counter number)

  no_items : (xs : List ℕ) → length xs ≡ 0 → xs ≡ []
  no_items [] e = refl
  no_items (x ∷ xs) e = absurd (omega arith)

  are_put : ArePut (text_length_of (said_of number)) (names_in (said_of number)) (part_bytes object) (after_words 0)
      (map word_line (source_words number))
  unfolding ArePut said_of counter_past counter_after size_of
  are_put = λ k line at. object_is.puts (suc (suc (suc k))) line at

  some_same : (x y : ℕ) → ◌≡◌ {A = Option ℕ} (Some x) (Some y) → x ≡ y
  some_same x y e = cc

  pub has_words : HasWords number object
  has_words = record {
    text_is = words_put _ _ (part_bytes object) 0 (source_words number)
        (text_size ∙ (let count = word_count number in omega arith)) are_put;
    no_data = no_items object.data_bytes.items
        (object_is.data_size ∙ ap (λ (p : LocationCounter). p.data_size) (said_counter number));
    entry_is = some_same _ _ (sym object_is.starts ∙ said_start number);
  }
