-- Fields, and vectors, that are put behind those that were read before.
use Rattle.std.proofs.Common.{◌≡◌, ◌≢◌, ℕ, ◌+◌, true, false, cond, List, [], ◌∷◌, ◌++◌, length, Option, Some, None, Result, Ok, Err, refl, sym, ap, ◌∙◌, arith, append_assoc, map, Vec, Global, ◌<◌}
use Rattle.std.proofs.lemmas.List.{append-nil}
use Rattle.std.proofs.lemmas.Bool.Decides.{nat_tests}
use Rattle.std.specs.Prelude.{nat_le, option_map}
use Rattle.sm_types.specs.declared.length.VecLen.{VecLen}
use Rattle.line_reader.specs.Lines.{lines_of, with_first}
use Rattle.line_reader.specs.Reading.{Left, next_line, first_of, past_first, past_line}
use Rattle.line_reader.proofs.Cuts.{no_lines}
use Rattle.vector_runner.specs.declared.vector.Modes.{Modes}
use Rattle.vector_runner.specs.declared.words.Unread.{Unread}
use Rattle.vector_runner.specs.declared.words.Unread.TheVariants as unread
use Rattle.vector_runner.specs.declared.read.VectorFault.{VectorFault}
use Rattle.vector_runner.specs.declared.read.VectorFault.TheVariants as fault
use Rattle.vector_runner.specs.declared.vector.Field as code
use Rattle.vector_runner.specs.Told.{field_told, or_line, IsFault, SaysAs}
use Rattle.vector_runner.specs.Field.{Field, Vector, modes_after, rank}
use Rattle.vector_runner.specs.Words.{fields_in, field_here, before_others}
use Rattle.vector_runner.specs.Grammar.{Fault, TooLong, Line, onto_others, line_said, lines_said}

-- ---- fields

abbrev pub ahead : List Field → Option (List Field) → Option (List Field)
ahead before None = None
ahead before (Some others) = Some (before ++ others)

some_fields : List Field → Option (List Field)
some_fields fields = Some fields

ahead_more : (before : List Field) (f : Field) (others : Option (List Field))
    → ahead before (option_map (λ fields. f ∷ fields) others) ≡ ahead (before ++ f ∷ []) others
ahead_more before f None = refl
ahead_more before f (Some fields) = ap (λ l. let o : Option (List Field) = Some l in o) (sym (append_assoc before (f ∷ []) fields))

-- nothing is before
pub ahead_none : (others : Option (List Field)) → ahead [] others ≡ others
ahead_none None = refl
ahead_none (Some fields) = refl

-- one field more
pub field_read : (vl svl : VecLen) (modes : Modes) (least : ℕ) (before : List Field) (word : List ℕ) (words : List (List ℕ)) (f : Field)
    → field_here vl svl modes least word ≡ Some f
    → ahead (before ++ f ∷ []) (fields_in vl svl (modes_after modes f) (rank f + 1) words)
    ≡ ahead before (fields_in vl svl modes least (word ∷ words))
unfolding fields_in
field_read vl svl modes least before word words f is =
    sym (ahead_more before f (fields_in vl svl (modes_after modes f) (rank f + 1) words))
    ∙ ap (λ o. ahead before (before_others o (λ it. fields_in vl svl (modes_after modes it) (rank it + 1) words))) (sym is)

-- a word says none here
pub field_unread : (vl svl : VecLen) (modes : Modes) (least : ℕ) (before : List Field) (word : List ℕ) (words : List (List ℕ))
    → field_here vl svl modes least word ≡ None
    → ahead before (fields_in vl svl modes least (word ∷ words)) ≡ None
unfolding fields_in
field_unread vl svl modes least before word words is =
    ap (λ o. ahead before (before_others o (λ it. fields_in vl svl (modes_after modes it) (rank it + 1) words))) is

-- the same of what the code answers, where want of memory says nothing
pub field_outside : (vl svl : VecLen) (modes : Modes) (least : ℕ) (before : List Field) (word : List ℕ) (words : List (List ℕ))
    (it : Unread)
    (whole : Option (List Field)) → SaysAs field_told (field_here vl svl modes least word) (Err it)
    → ahead before (fields_in vl svl modes least (word ∷ words)) ≡ whole
    → SaysAs (λ (fields : Vec code.Field Global). map field_told fields.items) whole (Err it)
field_outside vl svl modes least before word words unread.Outside whole is h =
    sym h ∙ field_unread vl svl modes least before word words is
field_outside vl svl modes least before word words unread.Memory whole is h = tt

-- no word is left
pub fields_end : (vl svl : VecLen) (modes : Modes) (least : ℕ) (before : List Field)
    → ahead before (fields_in vl svl modes least []) ≡ Some before
unfolding fields_in
fields_end vl svl modes least before = ap (λ l. let o : Option (List Field) = Some l in o) (append-nil before)

-- ---- vectors

abbrev pub behind : List Vector → Result (List Vector) Fault → Result (List Vector) Fault
behind before (Err fault) = Err fault
behind before (Ok vectors) = Ok (before ++ vectors)

abbrev pub whole : List Vector → Result (List Vector) Fault
whole vectors = Ok vectors

behind_more : (before : List Vector) (n : ℕ) (v : Vector) (others : Result (List Vector) Fault)
    → behind before (onto_others n (Some v) others) ≡ behind (before ++ v ∷ []) others
behind_more before n v (Err fault) = refl
behind_more before n v (Ok vectors) = ap whole (sym (append_assoc before (v ∷ []) vectors))

pub behind_none : (others : Result (List Vector) Fault) → behind [] others ≡ others
behind_none (Err fault) = refl
behind_none (Ok vectors) = refl

first_read : (vl svl : VecLen) (before : List Vector) (number place : ℕ) (lines : List (List ℕ)) (v : Vector)
    → length (first_of lines) ≢ 0 → nat_le 2048 number ≡ false → line_said vl svl (first_of lines) ≡ Some v
    → behind (before ++ v ∷ []) (lines_said vl svl (past_first number place lines).line (past_first number place lines).lines)
    ≡ behind before (lines_said vl svl number lines)
unfolding lines_said
first_read vl svl before number place [] v some few is = absurd (some refl)
first_read vl svl before number place (line ∷ lines) v some few is =
    sym (behind_more before number v (lines_said vl svl (number + 1) lines))
    ∙ ap (λ o. behind before (onto_others number o (lines_said vl svl (number + 1) lines))) (sym is)
    ∙ ap (λ b. behind before (cond b (Err (Line (number + 1)))
    (onto_others number (line_said vl svl line) (lines_said vl svl (number + 1) lines))))
    (sym few)

first_unread : (vl svl : VecLen) (before : List Vector) (number : ℕ) (lines : List (List ℕ))
    → length (first_of lines) ≢ 0 → nat_le 2048 number ≡ false → line_said vl svl (first_of lines) ≡ None
    → behind before (lines_said vl svl number lines) ≡ Err (Line (number + 1))
unfolding lines_said
first_unread vl svl before number [] some few is = absurd (some refl)
first_unread vl svl before number (line ∷ lines) some few is =
    ap (λ b. behind before (cond b (Err (Line (number + 1)))
    (onto_others number (line_said vl svl line) (lines_said vl svl (number + 1) lines)))) few
    ∙ ap (λ o. behind before (onto_others number o (lines_said vl svl (number + 1) lines))) is

first_past : (vl svl : VecLen) (before : List Vector) (number : ℕ) (lines : List (List ℕ))
    → length (first_of lines) ≢ 0 → nat_le 2048 number ≡ true
    → behind before (lines_said vl svl number lines) ≡ Err (Line (number + 1))
unfolding lines_said
first_past vl svl before number [] some many = absurd (some refl)
first_past vl svl before number (line ∷ lines) some many =
    ap (λ b. behind before (cond b (Err (Line (number + 1)))
    (onto_others number (line_said vl svl line) (lines_said vl svl (number + 1) lines)))) many

module _ (vl svl : VecLen) (before : List Vector) (left : Left) (some : length (next_line left) ≢ 0) where
  -- one line more
  pub vector_read : (after : Left) (v : Vector) → after ≡ past_line left → nat_le 2048 left.line ≡ false
      → line_said vl svl (next_line left) ≡ Some v
      → behind (before ++ v ∷ []) (lines_said vl svl after.line after.lines) ≡ behind before (lines_said vl svl left.line left.lines)
  unfolding past_line
  vector_read after v past few is =
      ap (λ (l : Left). behind (before ++ v ∷ []) (lines_said vl svl l.line l.lines)) past
      ∙ first_read vl svl before left.line left.place left.lines v some few is

  -- a line that says none
  pub vector_unread : nat_le 2048 left.line ≡ false → line_said vl svl (next_line left) ≡ None
      → behind before (lines_said vl svl left.line left.lines) ≡ Err (Line (left.line + 1))
  vector_unread few is = first_unread vl svl before left.line left.lines some few is

  -- a line too many
  pub too_many : nat_le 2048 left.line ≡ true
      → behind before (lines_said vl svl left.line left.lines) ≡ Err (Line (left.line + 1))
  too_many many = first_past vl svl before left.line left.lines some many

-- no line is left
pub vectors_end : (vl svl : VecLen) (before : List Vector) (left : Left) → left.lines ≡ []
    → behind before (lines_said vl svl left.line left.lines) ≡ Ok before
unfolding lines_said
vectors_end vl svl before left none = ap (λ ls. behind before (lines_said vl svl left.line ls)) none ∙ ap whole (append-nil before)

no_text : (text : List ℕ) → length text ≡ 0 → lines_of text ≡ []
no_text [] e = no_lines
no_text (b ∷ bs) e = absurd (omega arith)

-- an empty line is none
pub none_left : (line rest : List ℕ) → length line ≡ 0 → length rest ≡ 0 → with_first line (lines_of rest) ≡ []
none_left [] rest e none = no_text rest none
none_left (b ∷ bs) rest e none = absurd (omega arith)

-- ---- what the code answers of a line

counts : (number place : ℕ) (lines : List (List ℕ)) → length (first_of lines) ≢ 0 → (past_first number place lines).line ≡ number + 1
counts number place [] some = absurd (some refl)
counts number place (line ∷ lines) some = refl

past_counts : (left : Left) → length (next_line left) ≢ 0 → (past_line left).line ≡ left.line + 1
unfolding past_line
past_counts left some = counts left.line left.place left.lines some

or_ok : (n : ℕ) (o : Option Vector) (v : Vector) → or_line n o ≡ Ok v → o ≡ Some v
or_ok n None v e = cc
or_ok n (Some w) v e = cc

or_line_is : (n k : ℕ) (o : Option Vector) → or_line n o ≡ Err (Line k) → (o ≡ None) × (n + 1 ≡ k)
or_line_is n k None e = (refl, cc)
or_line_is n k (Some w) e = cc

never_long : (n : ℕ) (o : Option Vector) → or_line n o ≡ Err TooLong → ⊥
never_long n None e = cc
never_long n (Some w) e = cc

module _ (vl svl : VecLen) (before : List Vector) (left : Left) (line : List ℕ) (n : ℕ) (all : Result (List Vector) Fault)
    (is : line ≡ next_line left) (some : length (next_line left) ≢ 0) (count : left.line ≡ n) (low : n < 2048)
    (so_far : behind before (lines_said vl svl left.line left.lines) ≡ all) where
  few : nat_le 2048 left.line ≡ false
  few = grind (arith, nat_tests, count, low)

  pub line_more : (after : Left) (v : Vector) → after ≡ past_line left → or_line n (line_said vl svl line) ≡ Ok v
      → (after.line ≡ n + 1) × (behind (before ++ v ∷ []) (lines_said vl svl after.line after.lines) ≡ all)
  line_more after v past said =
      let read : line_said vl svl (next_line left) ≡ Some v = ap (line_said vl svl) (sym is) ∙ or_ok n (line_said vl svl line) v said in (
        ap (λ (l : Left). l.line) past ∙ past_counts left some ∙ ap (λ k. k + 1) count,
        vector_read vl svl before left some after v past few read ∙ so_far,
      )

  pub line_bad : (it : VectorFault) → IsFault (or_line n (line_said vl svl line)) it → IsFault all it
  line_bad fault.TooLong h = absurd (never_long n (line_said vl svl line) h)
  line_bad (fault.Line k) h =
      let it = or_line_is n k (line_said vl svl line) h in
      sym so_far ∙ vector_unread vl svl before left some few (ap (line_said vl svl) (sym is) ∙ it.0)
      ∙ ap (λ m. let r : Result (List Vector) Fault = Err (Line m) in r) (ap (λ k. k + 1) count ∙ it.1)
  line_bad fault.Memory h = tt
