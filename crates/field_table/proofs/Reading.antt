-- Fields are read one after the other.
use Rattle.std.proofs.Common.{◌≡◌, inl, inr, ℕ, zero, suc, ◌+◌, ◌-◌, ◌*◌, ◌/◌, ◌<◌, ◌≤◌, ◌++◌, Bool, true, false, List, [], ◌∷◌, take, drop, length, Some, not, nat_eq}
use Rattle.std.proofs.Common.{refl, ap, sym, ◌∙◌, subst, arith, append_assoc, length-append}
use Rattle.std.specs.Prelude.{nat_lt}
use Rattle.std.specs.List.{concat}
use Rattle.std.proofs.lemmas.Bool.Decides.{nat_tests}
use Rattle.std.proofs.lemmas.List.{take-append-drop, length-take-le, append-nil, length-drop, take_all}
use Rattle.std.proofs.Math.Nat.{suc-mul, mul-zero, add-mul, add-div_right, div-eq_of_lt}
use Rattle.std.proofs.lemmas.List.Folds.{concat-append}
use Rattle.byteorder.specs.Endian.{little_number, little_bytes}
use Rattle.byteorder.specs.Numbers.{little_from-take}
use Rattle.std.specs.Str.{bytes_eq}
use Rattle.plain_lemmas.proofs.Numbers.{cases_le}
use Rattle.plain_lemmas.proofs.Lists.{bytes_eq-true}
use Rattle.field_table.specs.Table.{Table, Field, End, first_bad, Passes}
use Rattle.field_table.specs.Rows.{number, said, fields, rows, repeated}
use Rattle.field_table.specs.Reading.{Left, Reads, Fails}
use Rattle.field_table.specs.declared.place.BadField.{BadField}
use Rattle.field_table.proofs.Tables.{passes_more, passes_bad}

-- some fields, and then some more
pub reads_more : {table between next : Table} {values others : List (List ℕ)} {from through to : Left}
    → Reads table values between from through → Reads between others next through to → Reads table (values ++ others) next from to
reads_more {table} {between} {next} {values} {others} {from} {through} {to} h k = record {
  passes = passes_more table between next values others h.passes k.passes;
  whole = h.whole ∙ ap (λ l. concat values ++ l) k.whole ∙ sym (append_assoc (concat values) (concat others) to.bytes)
      ∙ ap (λ l. l ++ to.bytes) (sym (concat-append values others));
  at = omega (arith, h.at, k.at, ap length (concat-append values others), length-append (concat values) (concat others));
}

-- some fields, and then a bad one
pub fails_more : {table between : Table} {values : List (List ℕ)} {from through : Left} {fault : BadField}
    → Reads table values between from through → Fails between through fault → Fails table from fault
fails_more {table} {between} {values} {from} {through} {fault} h k = record {
  bad = ap (λ l. first_bad table l from.at) h.whole ∙ passes_bad table between values through.bytes from.at h.passes
      ∙ ap (first_bad between through.bytes) (sym h.at) ∙ k.bad;
}

-- one field
pub reads_one : (n : ℕ) (is_right : List ℕ → Bool) (next : List ℕ → Table) (from to : Left) → n ≤ length from.bytes
    → is_right (take n from.bytes) ≡ true → to.bytes ≡ drop n from.bytes → to.at ≡ from.at + n
    → Reads (Field n is_right next) (take n from.bytes ∷ []) (next (take n from.bytes)) from to
unfolding Passes
reads_one n is_right next from to l right rest at = record {
  passes = (length-take-le n from.bytes l, right, refl);
  whole = sym (take-append-drop n from.bytes) ∙ ap (λ l. l ++ drop n from.bytes) (sym (append-nil (take n from.bytes)))
      ∙ ap (λ l. (take n from.bytes ++ []) ++ l) (sym rest);
  at = at ∙ ap (λ k. from.at + k) (sym (ap length (append-nil (take n from.bytes)) ∙ length-take-le n from.bytes l));
}

-- one that is not whole, or not as it must be
pub fails_short : (n : ℕ) (is_right : List ℕ → Bool) (next : List ℕ → Table) (from : Left) (fault : BadField)
    → length from.bytes < n → fault.offset ≡ from.at → Fails (Field n is_right next) from fault
unfolding first_bad
fails_short n is_right next from fault l e =
    let short : nat_lt (length from.bytes) n ≡ true = grind (arith, nat_tests) in
    record { bad = rw short (ap Some (sym e)) }

pub fails_wrong : (n : ℕ) (is_right : List ℕ → Bool) (next : List ℕ → Table) (from : Left) (fault : BadField)
    → n ≤ length from.bytes → is_right (take n from.bytes) ≡ false → fault.offset ≡ from.at → Fails (Field n is_right next) from fault
unfolding first_bad
fails_wrong n is_right next from fault l wrong e =
    let whole : nat_lt (length from.bytes) n ≡ false = grind (arith, nat_tests) in
    record { bad = rw (whole, wrong) (ap Some (sym e)) }

-- ---- the kinds of fields

-- a number that is as it must be
pub number_reads : (n : ℕ) (holds : ℕ → Bool) (next : ℕ → Table) (word : ℕ) (from to : Left) → n ≤ length from.bytes
    → word ≡ little_number n from.bytes → little_bytes n word ≡ take n from.bytes → holds word ≡ true
    → to ≡ record { at = from.at + n; bytes = drop n from.bytes }
    → Reads (number n holds next) (little_bytes n word ∷ []) (next word) from to
unfolding number
number_reads n holds next word from to l value told right end =
    let same : little_number n (take n from.bytes) ≡ word = little_from-take 0 n n from.bytes (omega arith) ∙ sym value in
    subst (λ w. Reads (number n holds next) (little_bytes n word ∷ []) (next w) from to) same
    (subst (λ v. Reads (number n holds next) (v ∷ []) (next (little_number n (take n from.bytes))) from to) (sym told)
    (reads_one n (λ b. holds (little_number n b)) (λ b. next (little_number n b)) from to l (ap holds same ∙ right)
    (ap (λ t. t.bytes) end) (ap (λ t. t.at) end)))

pub number_short : (n : ℕ) (holds : ℕ → Bool) (next : ℕ → Table) (from : Left) (fault : BadField)
    → length from.bytes < n → fault.offset ≡ from.at → Fails (number n holds next) from fault
unfolding number
number_short n holds next from fault l e = fails_short n (λ b. holds (little_number n b)) (λ b. next (little_number n b)) from fault l e

-- a number that is not whole, or not as it must be
pub number_wrong : (n : ℕ) (holds : ℕ → Bool) (next : ℕ → Table) (word : ℕ) (from : Left) (fault : BadField)
    → (n ≤ length from.bytes → word ≡ little_number n from.bytes) → holds word ≡ false → fault.offset ≡ from.at
    → Fails (number n holds next) from fault
unfolding number
number_wrong n holds next word from fault value wrong e =
    elim (cases_le n (length from.bytes)) [
      | inl l ↦ fails_wrong n (λ b. holds (little_number n b)) (λ b. next (little_number n b)) from fault l
          (ap holds (little_from-take 0 n n from.bytes (omega arith) ∙ sym (value l)) ∙ wrong) e
      | inr l ↦ number_short n holds next from fault l e
    ]

-- what the bytes of a field tell of a number
tells : (n : ℕ) (bytes field : List ℕ) (word : ℕ) → n ≤ length bytes → field ≡ take n bytes → word ≡ little_number n bytes
    → little_bytes (length field) (little_number (length field) field) ≡ field → little_bytes n word ≡ take n bytes
tells n bytes field word l is value told =
    let long : length (take n bytes) ≡ n = length-take-le n bytes l in
    let same : little_number n (take n bytes) ≡ word = little_from-take 0 n n bytes (omega arith) ∙ sym value in
    let there : little_bytes (length (take n bytes)) (little_number (length (take n bytes)) (take n bytes)) ≡ take n bytes =
    subst (λ f. little_bytes (length f) (little_number (length f) f) ≡ f) is told in
    ap (little_bytes n) (sym same) ∙ subst (λ k. little_bytes k (little_number k (take n bytes)) ≡ take n bytes) long there

-- a number that was passed
pub number_passed : (n : ℕ) (holds : ℕ → Bool) (next : ℕ → Table) (word : ℕ) (field : List ℕ) (from to : Left) → n ≤ length from.bytes
    → word ≡ little_number n from.bytes → field ≡ take n from.bytes
    → little_bytes (length field) (little_number (length field) field) ≡ field → holds word ≡ true
    → to ≡ record { at = from.at + n; bytes = drop n from.bytes }
    → Reads (number n holds next) (little_bytes n word ∷ []) (next word) from to
number_passed n holds next word field from to l value is told right end =
    number_reads n holds next word from to l value (tells n from.bytes field word l is value told) right end

-- bytes that are told
pub said_reads : (bytes : List ℕ) (next : Table) (from to : Left) → length bytes ≤ length from.bytes
    → bytes_eq (take (length bytes) from.bytes) bytes ≡ true
    → to ≡ record { at = from.at + length bytes; bytes = drop (length bytes) from.bytes }
    → Reads (said bytes next) (bytes ∷ []) next from to
unfolding said
said_reads bytes next from to l right end =
    subst (λ v. Reads (said bytes next) (v ∷ []) next from to) (bytes_eq-true (take (length bytes) from.bytes) bytes right)
    (reads_one (length bytes) (λ b. bytes_eq b bytes) (λ b. next) from to l right (ap (λ t. t.bytes) end) (ap (λ t. t.at) end))

pub said_short : (bytes : List ℕ) (next : Table) (from : Left) (fault : BadField) → length from.bytes < length bytes
    → fault.offset ≡ from.at → Fails (said bytes next) from fault
unfolding said
said_short bytes next from fault l e = fails_short (length bytes) (λ b. bytes_eq b bytes) (λ b. next) from fault l e

pub said_wrong : (bytes : List ℕ) (next : Table) (from : Left) (fault : BadField) → length bytes ≤ length from.bytes
    → bytes_eq (take (length bytes) from.bytes) bytes ≡ false → fault.offset ≡ from.at → Fails (said bytes next) from fault
unfolding said
said_wrong bytes next from fault l wrong e = fails_wrong (length bytes) (λ b. bytes_eq b bytes) (λ b. next) from fault l wrong e

pub not_true : (b r : Bool) → r ≡ not b → r ≡ true → b ≡ false
not_true true r e h = cc
not_true false r e h = refl

pub not_false : (b r : Bool) → r ≡ not b → r ≡ false → b ≡ true
not_false true r e h = refl
not_false false r e h = cc

-- bytes past the last field
past_end : (bytes : List ℕ) (at : ℕ) → nat_eq (length bytes) 0 ≡ false → first_bad End bytes at ≡ Some at
unfolding first_bad
past_end [] at h = cc
past_end (b ∷ bs) at h = refl

pub end_fails : (from : Left) (fault : BadField) (r : Bool) → r ≡ nat_eq (length from.bytes) 0 → r ≡ false
    → fault.offset ≡ from.at → Fails End from fault
end_fails from fault r is not_empty e = record { bad = past_end from.bytes from.at (sym is ∙ not_empty) ∙ ap Some (sym e) }

-- ---- some fields of one size

rows_pass : (count size : ℕ) (next : Table) (bytes : List ℕ) → length bytes ≡ count * size
    → Passes (fields count size next) (rows count size bytes) next
unfolding Passes fields rows
rows_pass zero size next bytes l = refl
rows_pass (suc count) size next bytes l =
    let long : length bytes ≡ count * size + size = l ∙ suc-mul count size in (
      length-take-le size bytes (omega (arith, long)),
      refl,
      rows_pass count size next (drop size bytes) (length-drop size bytes ∙ omega (arith, long)),
    )

no_bytes : (bytes : List ℕ) → length bytes ≡ 0 → [] ≡ bytes
no_bytes [] l = refl
no_bytes (b ∷ bs) l = absurd (omega (arith, l))

rows_whole : (count size : ℕ) (bytes : List ℕ) → length bytes ≡ count * size → concat (rows count size bytes) ≡ bytes
unfolding rows
rows_whole zero size bytes l = no_bytes bytes (l ∙ omega arith)
rows_whole (suc count) size bytes l =
    let long : length bytes ≡ count * size + size = l ∙ suc-mul count size in
    ap (λ r. take size bytes ++ r) (rows_whole count size (drop size bytes) (length-drop size bytes ∙ omega (arith, long)))
    ∙ take-append-drop size bytes

pub fields_read : (count size : ℕ) (next : Table) (bytes : List ℕ) (from to : Left) → count * size ≤ length from.bytes
    → bytes ≡ take (count * size) from.bytes
    → to ≡ record { at = from.at + count * size; bytes = drop (count * size) from.bytes }
    → Reads (fields count size next) (rows count size bytes) next from to
fields_read count size next bytes from to l is end =
    let long : length bytes ≡ count * size = ap length is ∙ length-take-le (count * size) from.bytes l in
    let whole : concat (rows count size bytes) ≡ bytes = rows_whole count size bytes long in
    let rest : to.bytes ≡ drop (count * size) from.bytes = ap (λ t. t.bytes) end in
    let at : to.at ≡ from.at + count * size = ap (λ t. t.at) end in
    record {
      passes = rows_pass count size next bytes long;
      whole = sym (take-append-drop (count * size) from.bytes) ∙ ap (λ f. f ++ drop (count * size) from.bytes) (sym is ∙ sym whole)
          ∙ ap (λ r. concat (rows count size bytes) ++ r) (sym rest);
      at = at ∙ ap (λ k. from.at + k) (sym (ap length whole ∙ long));
    }

positive : (count size n : ℕ) → n < count * size + size → size ≤ n → 0 < size
positive count zero n l there = absurd (omega (arith, l, mul-zero count))
positive count (suc size) n l there = omega arith

whole_again : (n size m : ℕ) → size ≤ n → m ≡ n - size → n ≡ m + size
whole_again n size m l e = omega (arith, l, e)

last_step : (at size q : ℕ) → at + (q + 1 * size) ≡ at + size + q
last_step at size q = omega arith

-- the first that is not whole stands after those that are
pub fields_fail : (count size : ℕ) (next : Table) (from : Left) (fault : BadField) → length from.bytes < count * size
    → fault.offset ≡ from.at + length from.bytes / size * size → Fails (fields count size next) from fault
unfolding fields
fields_fail zero size next from fault l e = absurd (omega (arith, l))
fields_fail (suc count) size next from fault l e =
    elim (cases_le size (length from.bytes)) [
      | inr short ↦
          let none : length from.bytes / size ≡ 0 = div-eq_of_lt short in
          fails_short size (λ b. true) (λ b. fields count size next) from fault short
          (e ∙ ap (λ q. from.at + q * size) none ∙ omega arith)
      | inl there ↦
          let less : length from.bytes < count * size + size = subst (λ k. length from.bytes < k) (suc-mul count size) l in
          let some : 0 < size = positive count size (length from.bytes) less there in
          let left : Left = record { at = from.at + size; bytes = drop size from.bytes } in
          let long : length (drop size from.bytes) ≡ length from.bytes - size = length-drop size from.bytes in
          let again : length from.bytes / size ≡ length (drop size from.bytes) / size + 1 =
          ap (λ k. k / size) (whole_again (length from.bytes) size (length (drop size from.bytes)) there long)
          ∙ add-div_right (length (drop size from.bytes)) some in
          let moved : fault.offset ≡ left.at + length left.bytes / size * size =
          e ∙ ap (λ q. from.at + q * size) again
          ∙ ap (λ k. from.at + k) (add-mul (length (drop size from.bytes) / size) 1 size)
          ∙ last_step from.at size (length (drop size from.bytes) / size * size) in
          fails_more (reads_one size (λ b. true) (λ b. fields count size next) from left there refl refl refl)
          (fields_fail count size next left fault (omega (arith, less, there, long)) moved)
    ]

-- ---- items, one after the other

less_left : (i count : ℕ) → i < count → count - i ≡ suc (count - (i + 1))
less_left i count l = omega (arith, l)

next_item : (item : ℕ → (ℕ → Table) → Table) (count i key : ℕ) (next : Table) → i < count
    → repeated item (count - i) key next ≡ item key (λ k. repeated item (count - (i + 1)) k next)
unfolding repeated
next_item item count i key next l = ap (λ n. repeated item n key next) (less_left i count l)

-- one item more
pub item_reads : (item : ℕ → (ℕ → Table) → Table) (count i key : ℕ) (next : Table) (after : ℕ) (table : Table) (values others : List (List ℕ))
    (from through to : Left) → i < count → Reads table values (repeated item (count - i) key next) from through
    → ((follows : ℕ → Table) → Reads (item key follows) others (follows after) through to)
    → Reads table (values ++ others) (repeated item (count - (i + 1)) after next) from to
item_reads item count i key next after table values others from through to l h k =
    reads_more (subst (λ t. Reads table values t from through) (next_item item count i key next l) h)
    (k (λ k. repeated item (count - (i + 1)) k next))

-- or one that is not as it must be
pub item_fails : (item : ℕ → (ℕ → Table) → Table) (count i key : ℕ) (next table : Table) (values : List (List ℕ)) (from through : Left)
    (fault : BadField) → i < count → Reads table values (repeated item (count - i) key next) from through
    → ((follows : ℕ → Table) → Fails (item key follows) through fault) → Fails table from fault
item_fails item count i key next table values from through fault l h k =
    fails_more (subst (λ t. Reads table values t from through) (next_item item count i key next l) h)
    (k (λ k. repeated item (count - (i + 1)) k next))

-- and all of them are read
pub items_read : (item : ℕ → (ℕ → Table) → Table) (count i key : ℕ) (next table : Table) (values : List (List ℕ)) (from to : Left)
    → count ≤ i → Reads table values (repeated item (count - i) key next) from to → Reads table values next from to
unfolding repeated
items_read item count i key next table values from to l h =
    let none : count - i ≡ 0 = omega (arith, l) in
    subst (λ n. Reads table values (repeated item n key next) from to) none h

-- before the first of them
pub items_begin : (item : ℕ → (ℕ → Table) → Table) (count key : ℕ) (next table : Table) (values : List (List ℕ)) (from to : Left)
    → Reads table values (repeated item count key next) from to → Reads table values (repeated item (count - 0) key next) from to
items_begin item count key next table values from to h =
    let all : count ≡ count - 0 = omega arith in
    subst (λ n. Reads table values (repeated item n key next) from to) all h

-- one field of so many bytes
pub one_field : (size : ℕ) (bytes others : List ℕ) → length bytes ≡ 1 * size → others ≡ bytes → rows 1 size bytes ≡ others ∷ []
unfolding rows
one_field size bytes others long same =
    let all : length bytes ≤ size = omega (arith, long) in
    ap (λ l. l ∷ []) (take_all size bytes all ∙ sym same)
