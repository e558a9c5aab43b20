-- Bytes that are put after others: they stand there, and those before stay.
use Rattle.std.proofs.Common.{◌≡◌, ℕ, zero, suc, ◌+◌, ◌*◌, ◌<◌, Bool, true, false, get_or, List, [], ◌∷◌, ◌++◌, length, take, drop, map}
use Rattle.std.proofs.Common.{replicate, refl, sym, ap, ◌∙◌, subst, arith, length-append, append_assoc, min, Option}
use Rattle.std.proofs.lemmas.List.{length-take, length-replicate, length-map, take_all, drop_at, take-append-le, append-nil, map-append}
use Rattle.std.proofs.lemmas.List.Folds.{list_any-append}
use Rattle.std.proofs.lemmas.Bool.{or_right}
use Rattle.std.specs.List.{list_any}
use Rattle.byteorder.specs.Endian.{little_bytes}
use Rattle.byteorder.specs.Numbers.{length-bytes_low_first}
use Rattle.asm_parser.specs.Statements.{QuadValue, Code, Instruction, SupportRoutines, CallTail, TargetSaid, Says, Nothing, IntoText, IntoData, Quads, Words, Bytes, Zeros, Aligns}
use Rattle.asm_parser.specs.Statements.{Globals, Codes}
use Rattle.asm_core.specs.Code.{CodeWord, routine_words, tail_code, code_words}
use Rattle.asm_core.specs.declared.location_counter.LocationCounter.{LocationCounter}
use Rattle.asm_core.specs.Layout.{Names, here, size_of, address_here}
use Rattle.asm_core.specs.Assembly.{HasBytes, numbers_bytes, quad_number, resolved, resolved_words, MeansOne, MeanEach, Puts}
use Rattle.asm_core.specs.Emitted.{AreWordsAfter, IsPiece, Adds}
use Rattle.asm_core.proofs.RoutineWords.{resolved_plain, words_mean}

pub length-numbers : (width : ℕ) (ns : List ℕ) → length (numbers_bytes width ns) ≡ width * length ns
length-numbers width [] = omega arith
length-numbers width (n ∷ ns) =
    let head : length (little_bytes width n) ≡ width = length-bytes_low_first 0 width n in
    let tail : length (numbers_bytes width ns) ≡ width * length ns = length-numbers width ns in
    length-append (little_bytes width n) (numbers_bytes width ns) ∙ omega arith

pub length-resolved : (text_length : ℕ) (names : Names) (from : ℕ) (words : List CodeWord)
    → length (resolved_words text_length names from words) ≡ length words
unfolding resolved_words
length-resolved text_length names from [] = refl
length-resolved text_length names from (w ∷ ws) = ap suc (length-resolved text_length names (from + 4) ws)

-- the bytes of numbers after those of others
pub numbers_append : (width : ℕ) (ns ms : List ℕ) → numbers_bytes width (ns ++ ms) ≡ numbers_bytes width ns ++ numbers_bytes width ms
numbers_append width [] ms = refl
numbers_append width (n ∷ ns) ms =
    ap (λ x. little_bytes width n ++ x) (numbers_append width ns ms)
    ∙ sym (append_assoc (little_bytes width n) (numbers_bytes width ns) (numbers_bytes width ms))

-- ---- standing at a location counter

front_kept : (bytes more piece : List ℕ) → take (length piece) bytes ≡ piece → take (length piece) (bytes ++ more) ≡ piece
front_kept bytes more piece h =
    let size : length piece ≡ min (length piece) (length bytes) = sym (ap length h) ∙ length-take (length piece) bytes in
    take-append-le (length piece) bytes more (omega arith) ∙ h

nothing_kept : (n : ℕ) (bytes piece : List ℕ) → take (length piece) (drop n []) ≡ piece → take (length piece) bytes ≡ piece
nothing_kept zero bytes [] h = refl
nothing_kept zero bytes (b ∷ piece) h = cc
nothing_kept (suc n) bytes [] h = refl
nothing_kept (suc n) bytes (b ∷ piece) h = cc

pub bytes_kept : (bytes more : List ℕ) (at : ℕ) (piece : List ℕ) → HasBytes bytes at piece → HasBytes (bytes ++ more) at piece
bytes_kept bytes more zero piece h = front_kept bytes more piece h
bytes_kept [] more (suc at) piece h = nothing_kept (suc at) (drop (suc at) more) piece h
bytes_kept (b ∷ bytes) more (suc at) piece h = bytes_kept bytes more at piece h

pub bytes_put : (old piece : List ℕ) (at : ℕ) → length old ≡ at → HasBytes (old ++ piece) at piece
bytes_put old piece at e = ap (take (length piece)) (drop_at old piece at e) ∙ take_all (length piece) piece (omega arith)

-- ---- what a line puts

module _ (text_length : ℕ) (names : Names) (p : LocationCounter) where
  pub piece_puts : (says : Says) (old piece : List ℕ) → length old ≡ here p → IsPiece text_length names p says piece
      → Puts text_length names (old ++ piece) p says
  unfolding IsPiece Puts
  piece_puts (Codes code column) old piece e h = record {
    mean = h.mean;
    stand = subst (λ (x : List ℕ). HasBytes (old ++ piece) (here p) x) h.bytes (bytes_put old piece (here p) e);
  }
  piece_puts (Quads values) old piece e h = subst (λ (x : List ℕ). HasBytes (old ++ piece) (here p) x) h (bytes_put old piece (here p) e)
  piece_puts (Words numbers) old piece e h = subst (λ (x : List ℕ). HasBytes (old ++ piece) (here p) x) h (bytes_put old piece (here p) e)
  piece_puts (Bytes numbers) old piece e h = subst (λ (x : List ℕ). HasBytes (old ++ piece) (here p) x) h (bytes_put old piece (here p) e)
  piece_puts (Zeros count) old piece e h = subst (λ (x : List ℕ). HasBytes (old ++ piece) (here p) x) h (bytes_put old piece (here p) e)
  piece_puts (Aligns power) old piece e h = subst (λ (x : List ℕ). HasBytes (old ++ piece) (here p) x) h (bytes_put old piece (here p) e)
  piece_puts Nothing old piece e h = tt
  piece_puts IntoText old piece e h = tt
  piece_puts IntoData old piece e h = tt
  piece_puts (Globals name) old piece e h = tt

  pub puts_kept : (says : Says) (bytes more : List ℕ) → Puts text_length names bytes p says
      → Puts text_length names (bytes ++ more) p says
  unfolding Puts
  puts_kept (Codes code column) bytes more h =
      let words = resolved_words text_length names (address_here text_length p) (code_words code) in
      record { mean = h.mean; stand = bytes_kept bytes more (here p) (numbers_bytes 4 words) h.stand }
  puts_kept (Quads values) bytes more h = bytes_kept bytes more (here p) (numbers_bytes 8 (map (quad_number text_length names) values)) h
  puts_kept (Words numbers) bytes more h = bytes_kept bytes more (here p) (numbers_bytes 4 numbers) h
  puts_kept (Bytes numbers) bytes more h = bytes_kept bytes more (here p) numbers h
  puts_kept (Zeros count) bytes more h = bytes_kept bytes more (here p) (replicate count 0) h
  puts_kept (Aligns power) bytes more h = bytes_kept bytes more (here p) (replicate (size_of (Aligns power) (here p)) 0) h
  puts_kept Nothing bytes more h = tt
  puts_kept IntoText bytes more h = tt
  puts_kept IntoData bytes more h = tt
  puts_kept (Globals name) bytes more h = tt

  -- ---- what was put is what a line puts

  pub adds_quads : (values : List QuadValue) (old new : List ℕ) → new ≡ old ++ numbers_bytes 8 (map (quad_number text_length names) values)
      → Adds text_length names p (Quads values) old new
  unfolding IsPiece size_of
  adds_quads values old new e =
      let numbers = map (quad_number text_length names) values in
      record {
        piece = numbers_bytes 8 numbers;
        added = e;
        size = length-numbers 8 numbers
            ∙ ap (λ n. 8 * n) (length-map values (quad_number text_length names));
        piece_is = refl;
      }

  pub adds_words : (numbers old new : List ℕ) → new ≡ old ++ numbers_bytes 4 numbers → Adds text_length names p (Words numbers) old new
  unfolding IsPiece size_of
  adds_words numbers old new e = record { piece = numbers_bytes 4 numbers; added = e; size = length-numbers 4 numbers; piece_is = refl }

  pub adds_bytes : (numbers old new : List ℕ) → new ≡ old ++ numbers → Adds text_length names p (Bytes numbers) old new
  unfolding IsPiece size_of
  adds_bytes numbers old new e = record { piece = numbers; added = e; size = refl; piece_is = refl }

  pub adds_zeros : (count : ℕ) (old new : List ℕ) → new ≡ old ++ replicate count 0 → Adds text_length names p (Zeros count) old new
  unfolding IsPiece size_of
  adds_zeros count old new e = record { piece = replicate count 0; added = e; size = length-replicate count 0; piece_is = refl }

  pub adds_padding : (power count : ℕ) (old new : List ℕ) → count ≡ size_of (Aligns power) (here p) → new ≡ old ++ replicate count 0
      → Adds text_length names p (Aligns power) old new
  unfolding IsPiece
  adds_padding power count old new s e =
      record { piece = replicate count 0; added = e; size = length-replicate count 0 ∙ s; piece_is = ap (λ n. replicate n 0) s }

  pub adds_nothing : (old : List ℕ) (says : Says) → size_of says (here p) ≡ 0 → IsPiece text_length names p says []
      → Adds text_length names p says old old
  adds_nothing old says s h = record { piece = []; added = sym (append-nil old); size = sym s; piece_is = h }

  pub adds_code : (code : Code) (column : ℕ) (old new : List ℕ)
      → AreWordsAfter (resolved_words text_length names (address_here text_length p) (code_words code)) old new
      → Adds text_length names p (Codes code column) old new
  unfolding IsPiece size_of
  adds_code code column old new h =
      let from = address_here text_length p in
      let words = resolved_words text_length names from (code_words code) in
      record {
        piece = numbers_bytes 4 words;
        added = h.added;
        size = length-numbers 4 words
            ∙ ap (λ n. 4 * n) (length-resolved text_length names from (code_words code));
        piece_is = record { mean = h.mean; bytes = refl };
      }

  pub adds_word : (word : ℕ) (target : Option TargetSaid) (column : ℕ) (old new : List ℕ)
      → MeansOne (resolved text_length names (address_here text_length p) word target)
      → new ≡ old ++ little_bytes 4 (resolved text_length names (address_here text_length p) word target)
      → Adds text_length names p (Codes (Instruction word target) column) old new
  unfolding code_words resolved_words
  adds_word word target column old new m e =
      let v = resolved text_length names (address_here text_length p) word target in
      adds_code (Instruction word target) column old new
      (record { mean = (m, tt); added = e ∙ ap (λ x. old ++ x) (sym (append-nil (little_bytes 4 v))) })

  pub adds_routines : (column : ℕ) (old new : List ℕ) → new ≡ old ++ numbers_bytes 4 routine_words
      → Adds text_length names p (Codes SupportRoutines column) old new
  unfolding code_words
  adds_routines column old new e =
      let same = resolved_plain text_length names (address_here text_length p) routine_words in
      adds_code SupportRoutines column old new (record {
        mean = subst MeanEach (sym same) words_mean.0;
        added = e ∙ ap (λ ws. old ++ numbers_bytes 4 ws) (sym same);
      })

  pub adds_tail : (column : ℕ) (old new : List ℕ)
      → AreWordsAfter (resolved_words text_length names (address_here text_length p) tail_code) old new
      → Adds text_length names p (Codes CallTail column) old new
  unfolding code_words
  adds_tail column old new h = adds_code CallTail column old new h

-- ---- numbers, one after the other

pub numbers_push : (width : ℕ) (ns : List ℕ) (n : ℕ) → numbers_bytes width (ns ++ n ∷ []) ≡ numbers_bytes width ns ++ little_bytes width n
numbers_push width [] n = append-nil (little_bytes width n)
numbers_push width (m ∷ ns) n =
    ap (λ x. little_bytes width m ++ x) (numbers_push width ns n)
    ∙ sym (append_assoc (little_bytes width m) (numbers_bytes width ns) (little_bytes width n))

-- one more number, after those that a step appended
pub numbers_more : (width : ℕ) (start old new ns all : List ℕ) (n : ℕ) → old ≡ start ++ numbers_bytes width ns → new ≡ old
    ++ little_bytes width n → all ≡ ns ++ n ∷ [] → new ≡ start ++ numbers_bytes width all
numbers_more width start old new ns all n before step grown =
    step ∙ ap (λ x. x ++ little_bytes width n) before ∙ append_assoc start (numbers_bytes width ns) (little_bytes width n)
    ∙ ap (λ x. start ++ x) (sym (numbers_push width ns n) ∙ ap (numbers_bytes width) (sym grown))

-- ---- tests of values, one after the other

pub none_more : {X : Type 0} (test : X → Bool) (xs all : List X) (x : X) → list_any test xs ≡ false → test x ≡ false → all ≡ xs ++ x ∷ []
    → list_any test all ≡ false
none_more test xs all x h e grown = ap (list_any test) grown ∙ list_any-append test xs (x ∷ []) ∙ rw (h, e) refl

pub mapped_more : {X Y : Type 0} (f : X → Y) (xs all : List X) (x : X) → all ≡ xs ++ x ∷ [] → map f all ≡ map f xs ++ f x ∷ []
mapped_more f xs all x grown = ap (map f) grown ∙ map-append f xs (x ∷ [])

pub mapped_at : {X Y : Type 0} (test : Y → Bool) (f : X → Y) (xs : List X) (i : ℕ) (d : X) → i < length xs → test (f (get_or xs i d)) ≡ true
    → list_any test (map f xs) ≡ true
mapped_at test f [] i d l h = absurd (omega arith)
mapped_at test f (x ∷ xs) zero d l h = rw h refl
mapped_at test f (x ∷ xs) (suc i) d l h = or_right (test (f x)) (list_any test (map f xs)) (mapped_at test f xs i d (omega arith) h)
