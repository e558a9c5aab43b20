-- The vectors of a file, and the first of its lines at fault.
use Rattle.std.proofs.Common.{◌≡◌, ℕ, ◌+◌, ◌<◌, ◌≤◌, Bool, true, false, cond, nat_lt, List, [], ◌∷◌, ◌++◌, length}
use Rattle.std.proofs.Common.{Option, Some, None, Result, Ok, Err, Vec, Global, map, refl, sym, ap, ◌∙◌, arith, subst, lt-ltb}
use Rattle.std.specs.Prelude.{nat_le, IfOk}
use Rattle.std.proofs.lemmas.Bool.{le-ltb, le-leb}
use Rattle.std.proofs.lemmas.Bool.Decides.{nat_tests}
use Rattle.std.proofs.lemmas.List.{length-map}
use Rattle.std.proofs.lemmas.Option.{same_Some}
use Rattle.plain_lemmas.proofs.Options.{same_Ok}
use Rattle.line_reader.specs.Lines.{lines_of, line_text, words_in}
use Rattle.line_reader.specs.Numbers.{hex_number}
use Rattle.sm_types.specs.declared.length.VecLen.{VecLen}
use Rattle.vector_runner.specs.Field.{Field, Vector}
use Rattle.vector_runner.specs.Told.{vector_told, AnswersAs}
use Rattle.vector_runner.specs.declared.vector.Vector as code
use Rattle.vector_runner.specs.declared.read.VectorFault.{VectorFault}
use Rattle.vector_runner.specs.Words.{fields_in, no_modes, vector_with, vector_in}
use Rattle.vector_runner.specs.Grammar.{IsVectorLine, Say, IsFileOf, Fault, TooLong, Line, IsAtFault, Silent, Past, IsFirstAtFault, IsFaultOf}
use Rattle.vector_runner.specs.Grammar.{line_said, onto_others, lines_said, vectors_in}
use Rattle.vector_runner.proofs.Values.{number_read, number_said, eight_fit}
use Rattle.vector_runner.proofs.Order.{fields_read, fields_said, placed_ascend, placed_fit, are_placed}

-- ---- a line

with_both : (o : Option ℕ) (p : Option (List Field)) (v : Vector) → vector_with o p ≡ Some v → (o ≡ Some v.word) × (p ≡ Some v.fields)
with_both None p v e = cc
with_both (Some word) None v e = cc
with_both (Some word) (Some fields) v e =
    let it : ◌≡◌ {A = Vector} (record { word = word; fields = fields }) v = same_Some _ v e in
    (ap (λ (w : Vector). let o : Option ℕ = Some w.word in o) it, ap (λ (w : Vector). let p : Option (List Field) = Some w.fields in p) it)

line_from : (vl svl : VecLen) (line : List ℕ) (words : List (List ℕ)) (v : Vector) → words_in (line_text line) ≡ words
    → vector_in vl svl words ≡ Some v → IsVectorLine vl svl line v
unfolding vector_in
line_from vl svl line [] v is e = cc
line_from vl svl line (word ∷ words) v is e =
    let both = with_both (hex_number 8 word) (fields_in vl svl no_modes 0 words) v e in
    let read = fields_read vl svl no_modes 0 words v.fields both.1 in
    record {
      first = word;
      rest = words;
      words = is;
      instruction = number_read 8 word v.word both.0;
      said = read.0;
      vector = record {
        fit = placed_fit vl svl no_modes v.fields read.1;
        ordered = placed_ascend vl svl no_modes v.fields read.1;
      };
    }

pub line_is : (vl svl : VecLen) (line : List ℕ) (v : Vector) → line_said vl svl line ≡ Some v → IsVectorLine vl svl line v
unfolding line_said
line_is vl svl line v e = line_from vl svl line (words_in (line_text line)) v refl e

words_said : (vl svl : VecLen) (line : List ℕ) (v : Vector) (it : IsVectorLine vl svl line v)
    → vector_in vl svl (it.first ∷ it.rest) ≡ Some v
unfolding vector_in
words_said vl svl line v it =
    ap (λ o. vector_with o (fields_in vl svl no_modes 0 it.rest)) (number_said 8 it.first v.word eight_fit it.instruction)
    ∙ ap (vector_with (Some v.word)) (fields_said vl svl no_modes 0 it.rest v.fields it.said
    (are_placed vl svl no_modes v.fields it.vector.ordered it.vector.fit))

pub line_reads : (vl svl : VecLen) (line : List ℕ) (v : Vector) → IsVectorLine vl svl line v → line_said vl svl line ≡ Some v
unfolding line_said
line_reads vl svl line v it = ap (vector_in vl svl) it.words ∙ words_said vl svl line v it

pub same_vector : (vl svl : VecLen) (line : List ℕ) (v w : Vector) → IsVectorLine vl svl line v → IsVectorLine vl svl line w → v ≡ w
same_vector vl svl line v w h k = same_Some v w (sym (line_reads vl svl line v h) ∙ line_reads vl svl line w k)

-- ---- lines

not_refused : (b : Bool) (fault : Fault) (r : Result (List Vector) Fault) (vectors : List Vector) → cond b (Err fault) r ≡ Ok vectors
    → (b ≡ false) × (r ≡ Ok vectors)
not_refused true fault r vectors e = cc
not_refused false fault r vectors e = (refl, e)

onto_read : (n : ℕ) (o : Option Vector) (r : Result (List Vector) Fault) (all : List Vector) (Holds : List Vector → Type 0)
    → ((v : Vector) (vectors : List Vector) → o ≡ Some v → r ≡ Ok vectors → Holds (v ∷ vectors)) → onto_others n o r ≡ Ok all → Holds all
onto_read n None r all Holds each e = cc
onto_read n (Some v) (Err fault) all Holds each e = cc
onto_read n (Some v) (Ok vectors) all Holds each e = subst Holds (same_Ok (v ∷ vectors) all e) (each v vectors refl refl)

module _ (vl svl : VecLen) where
  -- all lines say vectors, and there are not too many
  lines_say : (before : ℕ) (lines : List (List ℕ)) (vectors : List Vector) → before ≤ 2048
      → lines_said vl svl before lines ≡ Ok vectors → Say vl svl lines vectors × (before + length vectors ≤ 2048)
  unfolding lines_said
  lines_say before [] [] l e = (tt, omega (arith, l))
  lines_say before [] (v ∷ vectors) l e = cc
  lines_say before (line ∷ lines) all l e =
      let few = not_refused (nat_le 2048 before) _ _ all e in
      let test : nat_le 2048 before ≡ false = few.0 in
      let low : before < 2048 = grind (arith, nat_tests) in
      onto_read before (line_said vl svl line) (lines_said vl svl (before + 1) lines) all
      (λ them. Say vl svl (line ∷ lines) them × (before + length them ≤ 2048))
      (λ v vectors here others.
      let rest = lines_say (before + 1) lines vectors (omega (arith, low)) others in
      ((line_is vl svl line v here, rest.0), omega (arith, rest.1))) few.1

  -- what the code answers of the lines
  pub answered_few : (lines : List (List ℕ)) (r : Result (Vec code.Vector Global) VectorFault)
      → AnswersAs (λ vectors. map vector_told vectors.items) (lines_said vl svl 0 lines) r
      → IfOk r (λ vectors. length vectors.items ≤ 2048)
  answered_few lines (Ok vectors) h =
      let said = lines_say 0 lines (map vector_told vectors.items) (omega arith) h in
      let few = said.1 in
      omega (arith, few, length-map vectors.items vector_told)
  answered_few lines (Err it) h = tt

  lines_read : (before : ℕ) (lines : List (List ℕ)) (vectors : List Vector) → Say vl svl lines vectors
      → before + length vectors ≤ 2048 → lines_said vl svl before lines ≡ Ok vectors
  unfolding lines_said
  lines_read before [] [] h l = refl
  lines_read before [] (v ∷ vectors) h l = absurd h
  lines_read before (line ∷ lines) [] h l = absurd h
  lines_read before (line ∷ lines) (v ∷ vectors) h l =
      let few : nat_le 2048 before ≡ false = grind (arith, nat_tests) in
      ap (λ b. cond b (Err (Line (before + 1))) (onto_others before (line_said vl svl line) (lines_said vl svl (before + 1) lines))) few
      ∙ ap (λ o. onto_others before o (lines_said vl svl (before + 1) lines)) (line_reads vl svl line v h.0)
      ∙ ap (onto_others before (Some v)) (lines_read (before + 1) lines vectors h.1 (omega (arith, l)))

  -- ---- the first at fault

  -- the same behind so many others
  record FirstFrom (before : ℕ) (lines : List (List ℕ)) (number : ℕ) : Type 0 where
    earlier : List (List ℕ)
    at : List ℕ
    later : List (List ℕ)
    vectors : List Vector
    whole : lines ≡ earlier ++ at ∷ later
    said : Say vl svl earlier vectors
    few : before + length earlier ≤ 2048
    wrong : IsAtFault vl svl at (before + length earlier)
    counted : number ≡ before + length earlier + 1

  line_is_it : (a b : ℕ) → ◌≡◌ {A = Result (List Vector) Fault} (Err (Line a)) (Err (Line b)) → a ≡ b
  line_is_it a b e = cc

  here_at : (before number : ℕ) (line : List ℕ) (lines : List (List ℕ)) → before ≤ 2048 → IsAtFault vl svl line before
      → before + 1 ≡ number → FirstFrom before (line ∷ lines) number
  here_at before number line lines l wrong e =
      let none : before ≡ before + 0 = omega arith in
      record {
        earlier = [];
        at = line;
        later = lines;
        vectors = [];
        whole = refl;
        said = tt;
        few = omega (arith, l);
        wrong = subst (IsAtFault vl svl line) none wrong;
        counted = omega (arith, e);
      }

  later_at : (before number : ℕ) (line : List ℕ) (lines : List (List ℕ)) (v : Vector) → IsVectorLine vl svl line v
      → FirstFrom (before + 1) lines number → FirstFrom before (line ∷ lines) number
  later_at before number line lines v said it =
      let low = it.few in
      let count = it.counted in
      let moved : before + 1 + length it.earlier ≡ before + length (line ∷ it.earlier) = omega arith in
      record {
        earlier = line ∷ it.earlier;
        at = it.at;
        later = it.later;
        vectors = v ∷ it.vectors;
        whole = ap (λ (ls : List (List ℕ)). line ∷ ls) it.whole;
        said = (said, it.said);
        few = omega (arith, low);
        wrong = subst (IsAtFault vl svl it.at) moved it.wrong;
        counted = omega (arith, count);
      }

  said_none : (line : List ℕ) → line_said vl svl line ≡ None → (v : Vector) → IsVectorLine vl svl line v → ⊥
  said_none line none v h = (let it : ◌≡◌ {A = Option Vector} None (Some v) = sym none ∙ line_reads vl svl line v h in cc)

  says_none : (line : List ℕ) (o : Option Vector) → line_said vl svl line ≡ o → ((v : Vector) → IsVectorLine vl svl line v → ⊥) → o ≡ None
  says_none line None is silent = refl
  says_none line (Some v) is silent = absurd (silent v (line_is vl svl line v is))

  first_of_two : (before number : ℕ) (line : List ℕ) (lines : List (List ℕ)) (o : Option Vector) (r : Result (List Vector) Fault)
      → before ≤ 2048 → line_said vl svl line ≡ o → (r ≡ Err (Line number) → FirstFrom (before + 1) lines number)
      → onto_others before o r ≡ Err (Line number) → FirstFrom before (line ∷ lines) number
  first_of_two before number line lines None r l is more e =
      here_at before number line lines l (Silent (said_none line is)) (line_is_it (before + 1) number e)
  first_of_two before number line lines (Some v) (Ok vectors) l is more e = cc
  first_of_two before number line lines (Some v) (Err fault) l is more e =
      later_at before number line lines v (line_is vl svl line v is) (more e)

  first_at : (before number : ℕ) (lines : List (List ℕ)) → before ≤ 2048 → lines_said vl svl before lines ≡ Err (Line number)
      → FirstFrom before lines number
  unfolding lines_said
  first_at before number [] l e = cc
  first_at before number (line ∷ lines) l e =
      elim (nat_le 2048 before) as (λ b. nat_le 2048 before ≡ b → cond b (Err (Line (before + 1)))
      (onto_others before (line_said vl svl line) (lines_said vl svl (before + 1) lines)) ≡ Err (Line number)
      → FirstFrom before (line ∷ lines) number) [
        | true ↦ λ is h.
            here_at before number line lines l (Past (grind (arith, nat_tests))) (line_is_it (before + 1) number h)
        | false ↦ λ is h.
            let low : before < 2048 = grind (arith, nat_tests) in
            first_of_two before number line lines (line_said vl svl line) (lines_said vl svl (before + 1) lines) l refl
            (λ k. first_at (before + 1) number lines (omega (arith, low)) k) h
      ] refl e

  -- a line at fault is read as such
  fault_here : (before : ℕ) (line : List ℕ) (lines : List (List ℕ)) → IsAtFault vl svl line before
      → lines_said vl svl before (line ∷ lines) ≡ Err (Line (before + 1))
  unfolding lines_said
  fault_here before line lines (Silent silent) =
      ap (λ o. cond (nat_le 2048 before) (Err (Line (before + 1))) (onto_others before o (lines_said vl svl (before + 1) lines)))
      (says_none line (line_said vl svl line) refl silent)
      ∙ either_way (nat_le 2048 before) (Err (Line (before + 1)))
    where
      either_way : (b : Bool) (r : Result (List Vector) Fault) → cond b r r ≡ r
      either_way true r = refl
      either_way false r = refl
  fault_here before line lines (Past l) =
      ap (λ b. cond b (Err (Line (before + 1))) (onto_others before (line_said vl svl line) (lines_said vl svl (before + 1) lines)))
      (le-leb 2048 before l)

  at_first : (before : ℕ) (earlier : List (List ℕ)) (vectors : List Vector) (line : List ℕ) (later : List (List ℕ))
      → Say vl svl earlier vectors → before + length earlier ≤ 2048 → IsAtFault vl svl line (before + length earlier)
      → lines_said vl svl before (earlier ++ line ∷ later) ≡ Err (Line (before + length earlier + 1))
  unfolding lines_said
  at_first before [] (v ∷ vectors) line later s l wrong = absurd s
  at_first before (first ∷ earlier) [] line later s l wrong = absurd s
  at_first before [] [] line later s l wrong =
      let none : before + 0 ≡ before = omega arith in
      fault_here before line later (subst (IsAtFault vl svl line) none wrong)
      ∙ ap (λ (n : ℕ). let r : Result (List Vector) Fault = Err (Line (n + 1)) in r) (sym none)
  at_first before (first ∷ earlier) (v ∷ vectors) line later s l wrong =
      let few : nat_le 2048 before ≡ false = grind (arith, nat_tests) in
      let moved : before + length (first ∷ earlier) ≡ before + 1 + length earlier = omega arith in
      let others = lines_said vl svl (before + 1) (earlier ++ line ∷ later) in
      ap (λ b. cond b (Err (Line (before + 1))) (onto_others before (line_said vl svl first) others)) few
      ∙ ap (λ o. onto_others before o others) (line_reads vl svl first v s.0)
      ∙ ap (onto_others before (Some v))
      (at_first (before + 1) earlier vectors line later s.1 (omega (arith, l)) (subst (IsAtFault vl svl line) moved wrong))
      ∙ ap (λ (n : ℕ). let r : Result (List Vector) Fault = Err (Line (n + 1)) in r) (sym moved)

  onto_short : (before : ℕ) (o : Option Vector) (r : Result (List Vector) Fault) → (r ≡ Err TooLong → ⊥)
      → onto_others before o r ≡ Err TooLong → ⊥
  onto_short before None r never e = cc
  onto_short before (Some v) (Ok vectors) never e = cc
  onto_short before (Some v) (Err fault) never e = never e

  never_long : (before : ℕ) (lines : List (List ℕ)) → lines_said vl svl before lines ≡ Err TooLong → ⊥
  unfolding lines_said
  never_long before [] e = cc
  never_long before (line ∷ lines) e =
      elim (nat_le 2048 before) as (λ b. cond b (Err (Line (before + 1)))
      (onto_others before (line_said vl svl line) (lines_said vl svl (before + 1) lines)) ≡ Err TooLong → ⊥) [
        | true ↦ λ h. cc
        | false ↦ λ h. onto_short before (line_said vl svl line) (lines_said vl svl (before + 1) lines) (never_long (before + 1) lines) h
      ] e

  -- ---- a file

  from_none : (lines : List (List ℕ)) (number : ℕ) → FirstFrom 0 lines number → IsFirstAtFault vl svl lines number
  from_none lines number it =
      let all : 0 + length it.earlier ≡ length it.earlier = omega arith in
      let low = it.few in
      let count = it.counted in
      record {
        earlier = it.earlier;
        at = it.at;
        later = it.later;
        vectors = it.vectors;
        whole = it.whole;
        said = it.said;
        few = omega (arith, low);
        wrong = subst (IsAtFault vl svl it.at) all it.wrong;
        counted = omega (arith, count);
      }

  first_read : (lines : List (List ℕ)) (number : ℕ) → IsFirstAtFault vl svl lines number → lines_said vl svl 0 lines ≡ Err (Line number)
  first_read lines number it =
      let all : length it.earlier ≡ 0 + length it.earlier = omega arith in
      let count : number ≡ length it.earlier + 1 = it.counted in
      let low = it.few in
      let same : 0 + length it.earlier + 1 ≡ number = omega (arith, count) in
      ap (lines_said vl svl 0) it.whole
      ∙ at_first 0 it.earlier it.vectors it.at it.later it.said (omega (arith, low)) (subst (IsAtFault vl svl it.at) all it.wrong)
      ∙ ap (λ (n : ℕ). let r : Result (List Vector) Fault = Err (Line n) in r) same

  pub file_is : (bytes : List ℕ) (vectors : List Vector) → vectors_in vl svl bytes ≡ Ok vectors → IsFileOf vl svl bytes vectors
  unfolding vectors_in
  file_is bytes vectors e =
      let short = not_refused (nat_lt 67108864 (length bytes)) TooLong (lines_said vl svl 0 (lines_of bytes)) vectors e in
      let test : nat_lt 67108864 (length bytes) ≡ false = short.0 in
      let said = lines_say 0 (lines_of bytes) vectors (omega arith) short.1 in
      let few = said.1 in
      record { short = grind (arith, nat_tests); few = omega (arith, few); said = said.0 }

  pub file_reads : (bytes : List ℕ) (vectors : List Vector) → IsFileOf vl svl bytes vectors → vectors_in vl svl bytes ≡ Ok vectors
  unfolding vectors_in
  file_reads bytes vectors it =
      let few = it.few in
      ap (λ b. cond b (Err TooLong) (lines_said vl svl 0 (lines_of bytes))) (le-ltb 67108864 (length bytes) it.short)
      ∙ lines_read 0 (lines_of bytes) vectors it.said (omega (arith, few))

  line_fault : (long : Bool) (bytes : List ℕ) (number : ℕ) → nat_lt 67108864 (length bytes) ≡ long
      → cond long (Err TooLong) (lines_said vl svl 0 (lines_of bytes)) ≡ Err (Line number) → IsFaultOf vl svl bytes (Line number)
  line_fault true bytes number is e = cc
  line_fault false bytes number is e =
      (grind (arith, nat_tests), from_none (lines_of bytes) number (first_at 0 number (lines_of bytes) (omega arith) e))

  long_fault : (long : Bool) (bytes : List ℕ) → nat_lt 67108864 (length bytes) ≡ long
      → cond long (Err TooLong) (lines_said vl svl 0 (lines_of bytes)) ≡ Err TooLong → IsFaultOf vl svl bytes TooLong
  long_fault true bytes is e = grind (arith, nat_tests)
  long_fault false bytes is e = absurd (never_long 0 (lines_of bytes) e)

  pub fault_is : (bytes : List ℕ) (fault : Fault) → vectors_in vl svl bytes ≡ Err fault → IsFaultOf vl svl bytes fault
  unfolding vectors_in
  fault_is bytes TooLong e = long_fault (nat_lt 67108864 (length bytes)) bytes refl e
  fault_is bytes (Line number) e = line_fault (nat_lt 67108864 (length bytes)) bytes number refl e

  pub fault_reads : (bytes : List ℕ) (fault : Fault) → IsFaultOf vl svl bytes fault → vectors_in vl svl bytes ≡ Err fault
  unfolding vectors_in
  fault_reads bytes TooLong h =
      ap (λ b. cond b (Err TooLong) (lines_said vl svl 0 (lines_of bytes))) (lt-ltb 67108864 (length bytes) h)
  fault_reads bytes (Line number) h =
      ap (λ b. cond b (Err TooLong) (lines_said vl svl 0 (lines_of bytes))) (le-ltb 67108864 (length bytes) h.0)
      ∙ first_read (lines_of bytes) number h.1

  -- one more line than the most
  pub past_most : (bytes : List ℕ) (lines : List (List ℕ)) (line : List ℕ) (others : List (List ℕ)) (vectors : List Vector)
      → length bytes ≤ 67108864 → lines_of bytes ≡ lines ++ line ∷ others → length lines ≡ 2048 → Say vl svl lines vectors
      → vectors_in vl svl bytes ≡ Err (Line 2049)
  past_most bytes lines line others vectors short whole all said =
      fault_reads bytes (Line 2049) (
        short,
        record {
          earlier = lines;
          at = line;
          later = others;
          vectors = vectors;
          whole = whole;
          said = said;
          few = omega (arith, all);
          wrong = Past (omega (arith, all));
          counted = omega (arith, all);
        },
      )
