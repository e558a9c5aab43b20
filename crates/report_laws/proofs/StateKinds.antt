-- Printed lines of a state are read, kind by kind, whatever the kinds and their rows are.
use Rattle.std.proofs.Common.{◌≡◌, ℕ, ◌+◌, ◌*◌, ◌≤◌, Bool, true, false, not, ◌&&◌, List, [], ◌∷◌, ◌++◌, length, map, refl, sym, ap, ◌∙◌}
use Rattle.std.proofs.Common.{arith, subst, length-append, nat_lt}
use Rattle.std.specs.List.{list_all}
use Rattle.std.specs.Str.{bytes_eq}
use Rattle.std.proofs.lemmas.Bool.{and_parts, ltb-true, not-true}
use Rattle.std.proofs.lemmas.List.{length-map}
use Rattle.std.proofs.Math.Nat.{add-mul}
use Rattle.kernel_contexts.specs.State.{State}
use Rattle.text_lines.specs.Forms.{name_of, fields_of, often_of}
use Rattle.text_lines.specs.Rows.{Row, field_text, fields_text, row_text, rows_text}
use Rattle.text_lines.specs.declared.forms.LineKind.{LineKind}
use Rattle.text_lines.specs.declared.forms.Often.{Often}
use Rattle.text_lines.specs.declared.forms.Often.TheVariants.{Once, AtMostOnce, AnyTimes}
use Rattle.report_reader.specs.Block.{together, lines_of_kinds}
use Rattle.report_reader.specs.Forms.{are_fields}
use Rattle.report_reader.specs.Grammar.{IsOften}
use Rattle.report_text.specs.State.{rows_of, lines_text}
use Rattle.report_laws.proofs.Spaced.{is_plain, line_text}
use Rattle.report_laws.proofs.Fields.{kind_of, FieldsFit, IsShort, words_of_row, row_plain, row_read, row_words, field_length}
use Rattle.report_laws.proofs.Lefts.{Gives, alone, weaken, and_gives, give_gives}
use Rattle.report_laws.proofs.KindLines.{AllGood, Unlike, named_text, one_gives, any_gives, maybe_gives, unlike_first, unlike_more}

-- ---- the rows of a kind

-- a row has the fields of its kind, and their values fit
pub record RowFits (kind : LineKind) (row : Row) : Type 0 where
  pub form : map kind_of row ≡ fields_of kind
  pub fields : FieldsFit row

abbrev pub RowsFit : LineKind → List Row → Type 0
RowsFit kind [] = Unit {0}
RowsFit kind (row ∷ rows) = RowFits kind row × RowsFit kind rows

-- a kind has a name that can be read
pub record IsNamed (kind : LineKind) : Type 0 where
  plain : is_plain (name_of kind) ≡ true
  same : bytes_eq (name_of kind) (name_of kind) ≡ true

pub rows_words : (name : List ℕ) (rows : List Row) → rows_text name rows ≡ named_text name (map words_of_row rows)
unfolding rows_text
rows_words name [] = refl
rows_words name (row ∷ rows) = rw (row_words name row, rows_words name rows) refl

good_rows : (kind : LineKind) (rows : List Row) → IsNamed kind → RowsFit kind rows → AllGood kind (map words_of_row rows)
good_rows kind [] named fit = tt
good_rows kind (row ∷ rows) named fit = (
  record {
    name = named.plain;
    same = named.same;
    plain = row_plain row fit.0.fields;
    fit = ap (λ fs. are_fields fs (words_of_row row)) (sym fit.0.form) ∙ row_read row fit.0.fields;
  },
  good_rows kind rows named fit.1,
)

words_give : (often : Often) (kind : LineKind) (lines : List (List (List ℕ))) → AllGood kind lines → IsOften often (length lines)
    → Gives (Unlike kind) (together often kind) (named_text (name_of kind) lines) tt
words_give Once kind [] good many = absurd (omega arith)
words_give Once kind (words ∷ []) good many = alone (one_gives (Unlike kind) kind words good.0)
words_give Once kind (words ∷ more ∷ lines) good many = absurd (omega arith)
words_give AtMostOnce kind lines good many = maybe_gives kind lines many good
words_give AnyTimes kind lines good many = any_gives kind lines good

rows_give : (often : Often) (kind : LineKind) (rows : List Row) → IsNamed kind → RowsFit kind rows → IsOften often (length rows)
    → Gives (Unlike kind) (together often kind) (rows_text (name_of kind) rows) tt
rows_give often kind rows named fit many =
    subst (λ text. Gives (Unlike kind) (together often kind) text tt) (sym (rows_words (name_of kind) rows))
    (words_give often kind (map words_of_row rows) (good_rows kind rows named fit)
    (subst (λ n. IsOften often n) (sym (length-map rows words_of_row)) many))

-- ---- kinds of other names

-- the kinds have other names than this one
abbrev pub differ_from : List ℕ → List LineKind → Bool
differ_from name [] = true
differ_from name (kind ∷ kinds) = not (bytes_eq (name_of kind) name) && differ_from name kinds

-- and this one is another than theirs
abbrev pub is_foreign : List ℕ → List LineKind → Bool
is_foreign word [] = true
is_foreign word (kind ∷ kinds) = not (bytes_eq word (name_of kind)) && is_foreign word kinds

-- their names can be read, and no two are the same
abbrev pub are_apart : List LineKind → Bool
are_apart [] = true
are_apart (kind ∷ kinds) =
    (is_plain (name_of kind) && bytes_eq (name_of kind) (name_of kind)) && (differ_from (name_of kind) kinds && are_apart kinds)

-- what that says of the first of them
pub record Parted (kind : LineKind) (kinds : List LineKind) : Type 0 where
  pub named : IsNamed kind
  pub differ : differ_from (name_of kind) kinds ≡ true
  pub others : are_apart kinds ≡ true

pub parted : (kind : LineKind) (kinds : List LineKind) → are_apart (kind ∷ kinds) ≡ true → Parted kind kinds
parted kind kinds e =
    let both = and_parts (is_plain (name_of kind) && bytes_eq (name_of kind) (name_of kind))
    (differ_from (name_of kind) kinds && are_apart kinds) e in
    let name = and_parts (is_plain (name_of kind)) (bytes_eq (name_of kind) (name_of kind)) both.0 in
    let rest = and_parts (differ_from (name_of kind) kinds) (are_apart kinds) both.1 in
    record { named = record { plain = name.0; same = name.1 }; differ = rest.0; others = rest.1 }

-- no line of such a kind comes next
abbrev pub NoneOf : List LineKind → List ℕ → Type 0
NoneOf [] rest = Unit {0}
NoneOf (kind ∷ kinds) rest = Unlike kind rest × NoneOf kinds rest

pub none_of : (kinds : List LineKind) (word : List ℕ) (words : List (List ℕ)) (more rest : List ℕ)
    → list_all is_plain (word ∷ words) ≡ true → is_foreign word kinds ≡ true → NoneOf kinds ((line_text (word ∷ words) ++ more) ++ rest)
none_of [] word words more rest plain foreign = tt
none_of (kind ∷ kinds) word words more rest plain foreign =
    let parts = and_parts (not (bytes_eq word (name_of kind))) (is_foreign word kinds) foreign in
    (unlike_first kind word words more rest plain (not-true _ parts.0), none_of kinds word words more rest plain parts.1)

-- ---- the lines of a state

-- what is printed of a state fits
pub record RowsOfStateFit (s : State) : Type 0 where
  pub fit : (kind : LineKind) → RowsFit kind (rows_of s kind)
  pub many : (kind : LineKind) → IsOften (often_of kind) (length (rows_of s kind))

unlike_rows : (kind other : LineKind) (rows : List Row) (more rest : List ℕ) → IsNamed other → RowsFit other rows
    → bytes_eq (name_of other) (name_of kind) ≡ false → Unlike kind (more ++ rest)
    → Unlike kind ((rows_text (name_of other) rows ++ more) ++ rest)
unlike_rows kind other rows more rest named fit differ unlike =
    subst (λ text. Unlike kind ((text ++ more) ++ rest)) (sym (rows_words (name_of other) rows))
    (unlike_more kind other (map words_of_row rows) more rest (good_rows other rows named fit) differ unlike)

unlike_kinds : (s : State) → RowsOfStateFit s → (kind : LineKind) (kinds : List LineKind) (rest : List ℕ)
    → differ_from (name_of kind) kinds ≡ true → are_apart kinds ≡ true → Unlike kind rest → Unlike kind (lines_text s kinds ++ rest)
unfolding lines_text
unlike_kinds s it kind [] rest differ apart unlike = unlike
unlike_kinds s it kind (other ∷ kinds) rest differ apart unlike =
    let parts = parted other kinds apart in
    let names = and_parts (not (bytes_eq (name_of other) (name_of kind))) (differ_from (name_of kind) kinds) differ in
    unlike_rows kind other (rows_of s other) (lines_text s kinds) rest parts.named (it.fit other) (not-true _ names.0)
    (unlike_kinds s it kind kinds rest names.1 parts.others unlike)

pub kinds_give : (s : State) → RowsOfStateFit s → (kinds : List LineKind) → are_apart kinds ≡ true
    → Gives (NoneOf kinds) (lines_of_kinds kinds) (lines_text s kinds) tt
unfolding lines_of_kinds lines_text
kinds_give s it [] apart = give_gives (NoneOf []) tt
kinds_give s it (kind ∷ kinds) apart =
    let parts = parted kind kinds apart in
    and_gives (λ u. lines_of_kinds kinds)
    (rows_give (often_of kind) kind (rows_of s kind) parts.named (it.fit kind) (it.many kind))
    (weaken (λ rest q. q.1) (kinds_give s it kinds parts.others))
    (λ rest q. unlike_kinds s it kind kinds rest parts.differ parts.others q.0)

-- ---- their length

abbrev pub AllFieldsShort : Row → Type 0
AllFieldsShort [] = Unit {0}
AllFieldsShort (f ∷ row) = IsShort f × AllFieldsShort row

abbrev pub AllRowsShort : List Row → Type 0
AllRowsShort [] = Unit {0}
AllRowsShort (row ∷ rows) = AllFieldsShort row × AllRowsShort rows

-- a kind has 256 rows at most, with no more than 256 bytes in a field
pub record AreFew (rows : List Row) : Type 0 where
  pub count : length rows ≤ 256
  pub short : AllRowsShort rows

-- names of 7 bytes and two fields are the most
abbrev pub are_small : List LineKind → Bool
are_small kinds = list_all (λ kind. nat_lt (length (name_of kind)) 8 && nat_lt (length (fields_of kind)) 3) kinds

-- k lines of at most m bytes each, and one more
pub more_lines : (k m first rest : ℕ) → first ≤ m → rest ≤ k * m → first + rest ≤ (k + 1) * m
more_lines k m first rest one all = let split : (k + 1) * m ≡ k * m + 1 * m = add-mul k 1 m in omega (arith, split)

fields_length : (row : Row) → FieldsFit row → AllFieldsShort row → length (fields_text row) ≤ length row * 513 + 1
fields_length [] fit short = omega arith
fields_length (f ∷ row) fit short =
    let e = length-append (field_text f) (fields_text row) in
    omega (arith, e, field_length f fit.0 short.0, fields_length row fit.1 short.1)

row_length : (kind : LineKind) (row : Row) → length (name_of kind) ≤ 7 → length (fields_of kind) ≤ 2 → RowFits kind row → AllFieldsShort row
    → length (row_text (name_of kind) row) ≤ 1034
row_length kind row name few fit short =
    let e = length-append (name_of kind) (fields_text row) in
    let count : length row ≡ length (fields_of kind) = sym (length-map row kind_of) ∙ ap length fit.form in
    omega (arith, e, name, few, count, fields_length row fit.fields short)

rows_length : (kind : LineKind) (rows : List Row) → length (name_of kind) ≤ 7 → length (fields_of kind) ≤ 2 → RowsFit kind rows
    → AllRowsShort rows → length (rows_text (name_of kind) rows) ≤ length rows * 1034
unfolding rows_text
rows_length kind [] name few fit short = omega arith
rows_length kind (row ∷ rows) name few fit short =
    let e = length-append (row_text (name_of kind) row) (rows_text (name_of kind) rows) in
    let all = more_lines (length rows) 1034 (length (row_text (name_of kind) row)) (length (rows_text (name_of kind) rows))
    (row_length kind row name few fit.0 short.0) (rows_length kind rows name few fit.1 short.1) in
    omega (arith, e, all)

pub kinds_length : (s : State) → RowsOfStateFit s → ((kind : LineKind) → AreFew (rows_of s kind)) → (kinds : List LineKind)
    → are_small kinds ≡ true → length (lines_text s kinds) ≤ length kinds * 264704
unfolding lines_text
kinds_length s it few [] small = omega arith
kinds_length s it few (kind ∷ kinds) small =
    let both = and_parts (nat_lt (length (name_of kind)) 8 && nat_lt (length (fields_of kind)) 3) (are_small kinds) small in
    let form = and_parts (nat_lt (length (name_of kind)) 8) (nat_lt (length (fields_of kind)) 3) both.0 in
    let name : length (name_of kind) ≤ 7 = omega (arith, ltb-true (length (name_of kind)) 8 form.0) in
    let fields : length (fields_of kind) ≤ 2 = omega (arith, ltb-true (length (fields_of kind)) 3 form.1) in
    let e = length-append (rows_text (name_of kind) (rows_of s kind)) (lines_text s kinds) in
    let one : length (rows_text (name_of kind) (rows_of s kind)) ≤ 264704 =
    omega (arith, rows_length kind (rows_of s kind) name fields (it.fit kind) (few kind).short, (few kind).count) in
    let all = more_lines (length kinds) 264704 (length (rows_text (name_of kind) (rows_of s kind))) (length (lines_text s kinds)) one
    (kinds_length s it few kinds both.1) in
    omega (arith, e, all)
