-- The words that directives put: each means an instruction.
use Rattle.std.proofs.Common.{◌≡◌, ℕ, ◌+◌, ◌^◌, Bool, true, ◌&&◌, nat_lt, List, [], ◌∷◌, ◌++◌, Option, Some, None, refl, sym, ap, ◌∙◌, subst, arith}
use Rattle.std.proofs.Common.{ltb-true}
use Rattle.std.specs.Prelude.{is_some, Result, Ok, Err, IfErr, OnOk}
use Rattle.std.specs.List.{list_all}
use Rattle.std.proofs.lemmas.Bool.{and_parts}
use Rattle.sm_types.specs.Routines.{tail_words, call_word}
use Rattle.insn_forms.specs.Fields.{field_in, field_of, bit_of}
use Rattle.insn_forms.specs.Tables.{meaning_by, meaning_in, stands_for}
use Rattle.a64_table.specs.Table.{scalar, meaning_of}
use Rattle.a64_table.specs.Conditions as conditions
use Rattle.sve_table.specs.Table.{vector, vector_meaning_of}
use Rattle.sve_table.specs.Conditions as vector_conditions
use Rattle.a64_encode.specs.Either.{instruction_of}
use Rattle.std.specs.Option.{option_or as or_else}
use Rattle.asm_parser.specs.Statements.{TargetSaid, Instruction, SupportRoutines, CallTail, Codes}
use Rattle.asm_core.specs.declared.location_counter.LocationCounter.{LocationCounter}
use Rattle.asm_core.specs.declared.fault.AsmFault.{AsmFault}
use Rattle.asm_core.specs.Code.{plain_words, routine_words, restore_target, tail_code, code_words}
use Rattle.asm_core.specs.Layout.{Names, address_here}
use Rattle.asm_core.specs.Faults.{instruction_fault, words_fault, target_fault}
use Rattle.asm_core.specs.Assembly.{resolved, resolved_words, MeansOne, MeanEach}
use Rattle.asm_core.specs.Emitted.{AreMeant}

-- the word has 32 bits and means an instruction
unfoldable means_one : ℕ → Bool
means_one word = nat_lt word (2 ^ 32) && is_some (instruction_of word)

mean_by : (words : List ℕ) → list_all means_one words ≡ true → MeanEach words
unfolding means_one
mean_by [] e = tt
mean_by (w ∷ ws) e =
    let p = and_parts (means_one w) (list_all means_one ws) e in
    let q = and_parts (nat_lt w (2 ^ 32)) (is_some (instruction_of w)) p.0 in
    (record { is_word = ltb-true w (2 ^ 32) q.0; means = q.1 }, mean_by ws p.1)

plain_meant : (words : List ℕ) → MeanEach words → AreMeant (plain_words words)
plain_meant [] h = tt
plain_meant (w ∷ ws) h = (record { means = h.0.means; resolves = tt }, plain_meant ws h.1)

-- words without targets stay as they are, and have no fault
pub resolved_plain : (text_length : ℕ) (names : Names) (from : ℕ) (words : List ℕ)
    → resolved_words text_length names from (plain_words words) ≡ words
unfolding resolved_words resolved
resolved_plain text_length names from [] = refl
resolved_plain text_length names from (w ∷ ws) = ap (λ vs. w ∷ vs) (resolved_plain text_length names (from + 4) ws)

pub no_plain_fault : (n text_length : ℕ) (names : Names) (from : ℕ) (words : List ℕ)
    → words_fault n text_length names from (plain_words words) ≡ None
unfolding words_fault
no_plain_fault n text_length names from [] = refl
no_plain_fault n text_length names from (w ∷ ws) = no_plain_fault n text_length names (from + 4) ws

-- ---- the words

all_mean : list_all means_one (routine_words ++ tail_words (call_word 0)) ≡ true
unfolding means_one instruction_of meaning_of vector_meaning_of meaning_by meaning_in stands_for scalar vector field_in field_of bit_of
    conditions.fits_of vector_conditions.fits_of conditions.has_load conditions.is_below_width
all_mean = refl

parts : (ws vs : List ℕ) → MeanEach (ws ++ vs) → MeanEach ws × MeanEach vs
parts [] vs h = (tt, h)
parts (w ∷ ws) vs h = let p = parts ws vs h.1 in ((h.0, p.0), p.1)

pub words_mean : MeanEach routine_words × MeanEach (tail_words (call_word 0))
words_mean = parts routine_words (tail_words (call_word 0)) (mean_by (routine_words ++ tail_words (call_word 0)) all_mean)

pub routines_meant : AreMeant (plain_words routine_words)
routines_meant = plain_meant routine_words words_mean.0

pub tail_parts : AreMeant (plain_words (tail_words (call_word 0)))
tail_parts = plain_meant (tail_words (call_word 0)) words_mean.1

-- ---- the tail

or_none : (f : Option AsmFault) → or_else f None ≡ f
or_none None = refl
or_none (Some fault) = refl

four_words : (from : ℕ) → from + 4 + 4 + 4 + 4 ≡ from + 16
four_words from = omega arith

module _ (text_length : ℕ) (names : Names) where
  -- the fault of one word is that of its instruction
  pub one_fault : (n from word : ℕ) (target : Option TargetSaid)
      → words_fault n text_length names from (code_words (Instruction word target)) ≡ instruction_fault n text_length names from word target
  unfolding words_fault code_words
  one_fault n from word target = or_none (instruction_fault n text_length names from word target)

  -- and that of the tail is its BL's, as are its words with the distance in that
  pub tail_fault : (n from : ℕ) → words_fault n text_length names from tail_code
      ≡ instruction_fault n text_length names (from + 16) (call_word 0) (Some restore_target)
  unfolding words_fault
  tail_fault n from =
      or_none (instruction_fault n text_length names (from + 4 + 4 + 4 + 4) (call_word 0) (Some restore_target))
      ∙ ap (λ k. instruction_fault n text_length names k (call_word 0) (Some restore_target)) (four_words from)

  abbrev pub call_in : ℕ → ℕ
  call_in from = resolved text_length names (from + 16) (call_word 0) (Some restore_target)

  pub tail_resolved : (from : ℕ) → resolved_words text_length names from tail_code ≡ tail_words (call_in from)
  unfolding resolved_words resolved
  tail_resolved from =
      ap (λ k. tail_words (resolved text_length names k (call_word 0) (Some restore_target))) (four_words from)

  pub tail_mean : (from : ℕ) → MeansOne (call_in from) → MeanEach (resolved_words text_length names from tail_code)
  tail_mean from h =
      let plain = words_mean.1 in
      subst MeanEach (sym (tail_resolved from)) (plain.0, (plain.1.0, (plain.1.1.0, (plain.1.1.1.0, (h, plain.1.1.1.1.1)))))

  -- ---- the faults of lines that put code

  module _ (n : ℕ) (p : LocationCounter) (column : ℕ) where
    pub word_line_fault : (word : ℕ) (target : Option TargetSaid)
        → target_fault n text_length names p (Codes (Instruction word target) column)
        ≡ instruction_fault n text_length names (address_here text_length p) word target
    unfolding target_fault
    word_line_fault word target = one_fault n (address_here text_length p) word target

    pub routines_line_fault : target_fault n text_length names p (Codes SupportRoutines column) ≡ None
    unfolding target_fault code_words
    routines_line_fault = no_plain_fault n text_length names (address_here text_length p) routine_words

    pub tail_line_fault : target_fault n text_length names p (Codes CallTail column)
        ≡ words_fault n text_length names (address_here text_length p) tail_code
    unfolding target_fault code_words
    tail_line_fault = refl

-- ---- results that are passed on

pub err_more : {T E : Type 0} (r : Result T E) (P Q : E → Type 0) → ((fault : E) → P fault → Q fault) → IfErr r P → IfErr r Q
err_more (Ok x) P Q f h = tt
err_more (Err fault) P Q f h = f fault h

pub both_ok : {T E A B C : Type 0} (r : Result T E) → (A → B → C) → OnOk r A → OnOk r B → OnOk r C
both_ok (Ok x) f a b = f a b
both_ok (Err fault) f a b = tt
