-- Words and instructions by a table: what holds of every table that meets a few finite checks.
use Rattle.std.proofs.Common.{◌≡◌, ℕ, ◌==◌, ◌&&◌, not, Bool, true, bit_and, refl, sym, ap, ap₂, ◌∙◌, subst, eq-eqb, eqb-true, List, [], ◌∷◌}
use Rattle.std.proofs.Common.{slice_get, Option, Some, None, cond, ℤ}
use Rattle.std.specs.List.{list_all}
use Rattle.std.proofs.lemmas.Bool.{and_parts, both_ways}
use Rattle.std.proofs.lemmas.Nat.{and_assoc, and_comm}
use Rattle.std.proofs.lemmas.Option.{same_Some}
use Rattle.insn_forms.specs.declared.field.Field.{Field}
use Rattle.insn_forms.specs.declared.number.Number.{Number}
use Rattle.std.specs.Prelude.{bit_or}
use Rattle.plain_lemmas.proofs.Lists.{list_all-get}
use Rattle.insn_forms.specs.declared.line.Line.{Line}
use Rattle.insn_forms.specs.declared.number.Parts.{Parts}
use Rattle.insn_forms.specs.Fields.{is_field, list_of, placed}
use Rattle.insn_forms.specs.Forms.{is_in, are_in, word_in, bits, fills, is_form}
use Rattle.insn_forms.specs.Tables.{Table, Means, numbers_in, signed_numbers_in, fits_in}
use Rattle.insn_forms.proofs.Forms.{in_places, placed_back, IsPlaced}
use Rattle.insn_forms.proofs.Laws.{Take, taken, are_small, agrees, suits, fields-small, taken-bits, taken-in, bits-agree}

-- what a table has to meet, with the operation and numbers that an instruction tells
pub record IsTable {O I : Type 0} (t : Table O I) (parts : I → Option (Parts O)) : Type 0 where
  pub takes : O → List Take
  pub format : O → List Field
  -- three checks of the lines
  pub forms : list_all (λ (r : Line O). is_form r.mask r.value (list_of r.fields)) t.lines ≡ true
  pub formats : (i : ℕ) (r : Line O) → slice_get t.lines i ≡ Some r → list_of r.fields ≡ format r.operation
  pub suit : list_all (λ (r : Line O). suits (takes r.operation) (list_of r.fields)) t.lines ≡ true
  pub own : (i j : ℕ) (r s : Line O) → slice_get t.lines i ≡ Some r → slice_get t.lines j ≡ Some s → r.operation ≡ s.operation → i ≡ j
  -- per group: an instruction tells what it was made of, and is made of what it tells
  pub back : (o : O) (u : Field → ℕ) (s : Field → ℤ) → are_small (takes o) (format o) u
      → parts (t.insn o u s) ≡ Some (record { operation = o; numbers = taken (takes o) (format o) u s })
  pub forth : (it : I) (p : Parts O) → parts it ≡ Some p → (u : Field → ℕ) (s : Field → ℤ) → agrees (format p.operation) p.numbers u s
      → are_small (takes p.operation) (format p.operation) u → t.insn p.operation u s ≡ it

-- the word that an instruction's operation and numbers say, and its line
pub record IsWordOf {O I : Type 0} (t : Table O I) (parts : I → Option (Parts O)) (it : I) (word : ℕ) : Type 0 where
  pub told : Parts O
  pub has : parts it ≡ Some told
  pub place : ℕ
  pub line : Line O
  pub listed : slice_get t.lines place ≡ Some line
  pub same : line.operation ≡ told.operation
  pub says : word_in line.value (list_of line.fields) told.numbers ≡ Some word
  pub fits : fits_in t line.operation word ≡ true

-- a line has the instruction's operation, the numbers are in its fields, and meet its condition
pub record IsInLine {O I : Type 0} (t : Table O I) (parts : I → Option (Parts O)) (it : I) : Type 0 where
  pub told : Parts O
  pub has : parts it ≡ Some told
  pub place : ℕ
  pub line : Line O
  pub listed : slice_get t.lines place ≡ Some line
  pub same : line.operation ≡ told.operation
  pub within : are_in (list_of line.fields) told.numbers ≡ true
  pub fits : (u : Field → ℕ) (s : Field → ℤ) → agrees (list_of line.fields) told.numbers u s → t.fits line.operation u ≡ true

record IsForm (mask value : ℕ) (fs : List Field) : Type 0 where
  all : list_all is_field fs ≡ true
  inside : bit_and value mask ≡ value
  fill : fills mask fs ≡ true

a_form : (mask value : ℕ) (fs : List Field) → is_form mask value fs ≡ true → IsForm mask value fs
unfolding is_form
a_form mask value fs e =
    let p = and_parts (list_all is_field fs && (bit_and value mask == value)) (fills mask fs) e in
    let q = and_parts (list_all is_field fs) (bit_and value mask == value) p.0 in
    record { all = q.0; inside = eqb-true (bit_and value mask) value q.1; fill = p.1 }

-- numbers in their fields have a word
a_word : (fs : List Field) (ns : List Number) (value : ℕ) → are_in fs ns ≡ true → (w : ℕ) × (word_in value fs ns ≡ Some w)
unfolding are_in word_in
a_word [] [] value e = (value, refl)
a_word [] (n ∷ ns) value e = cc
a_word (f ∷ fs) [] value e = cc
a_word (f ∷ fs) (n ∷ ns) value e =
    let p = and_parts (is_in f n) (are_in fs ns) e in
    let r = a_word fs ns (bit_or value (placed f (bits f n))) p.1 in
    (r.0, ap (λ b. cond b (word_in (bit_or value (placed f (bits f n))) fs ns) None) p.0 ∙ r.1)

module _ {O I : Type 0} (t : Table O I) (parts : I → Option (Parts O)) (h : IsTable t parts) where
  form_of : (i : ℕ) (r : Line O) → slice_get t.lines i ≡ Some r → IsForm r.mask r.value (list_of r.fields)
  form_of i r g =
      a_form r.mask r.value (list_of r.fields)
      (list_all-get (λ (r : Line O). is_form r.mask r.value (list_of r.fields)) t.lines i r h.forms g)

  suit_of : (i : ℕ) (r : Line O) → slice_get t.lines i ≡ Some r → suits (h.takes r.operation) (list_of r.fields) ≡ true
  suit_of i r g = list_all-get (λ (r : Line O). suits (h.takes r.operation) (list_of r.fields)) t.lines i r h.suit g

  -- the fields of a line can be read
  pub line-fields : (i : ℕ) (r : Line O) → slice_get t.lines i ≡ Some r → list_all is_field (list_of r.fields) ≡ true
  line-fields i r g = (form_of i r g).all

  -- the numbers of a line's fields in a word are as small as the operation takes them
  pub line-small : (i : ℕ) (r : Line O) (w : ℕ) → slice_get t.lines i ≡ Some r
      → are_small (h.takes r.operation) (h.format r.operation) (numbers_in w)
  line-small i r w g =
      subst (λ (fs : List Field). are_small (h.takes r.operation) fs (numbers_in w)) (h.formats i r g)
      (fields-small (h.takes r.operation) (list_of r.fields) w (suit_of i r g))

  pub means-word : (w : ℕ) (it : I) → Means t w it → IsWordOf t parts it w
  means-word w it m =
      let r = m.line in
      let f = form_of m.place r m.listed in
      let s = suit_of m.place r m.listed in
      let fs = list_of r.fields in
      let u = numbers_in w in
      let z = signed_numbers_in w in
      let ts = h.takes r.operation in
      let b = h.back r.operation u z (line-small m.place r w m.listed) in
      record {
        told = record { operation = r.operation; numbers = taken ts (h.format r.operation) u z };
        has = ap parts m.gives ∙ b;
        place = m.place;
        line = r;
        listed = m.listed;
        same = refl;
        says =
            ap₂ (λ v gs. word_in v fs (taken ts gs u z)) (sym m.matches) (sym (h.formats m.place r m.listed))
            ∙ in_places fs r.mask w (taken ts fs u z) f.all f.fill m.is_word (taken-in ts fs w s f.all) (taken-bits ts fs w s f.all);
        fits = m.fits;
      }

  placed_of : (w : ℕ) (it : I) (e : IsWordOf t parts it w) → IsPlaced e.line.mask e.line.value w (list_of e.line.fields) e.told.numbers
  placed_of w it e =
      let f = form_of e.place e.line e.listed in
      placed_back (list_of e.line.fields) e.line.mask e.line.value w e.told.numbers f.all f.fill f.inside e.says

  pub word-means : (w : ℕ) (it : I) → IsWordOf t parts it w → Means t w it
  word-means w it e =
      let r = e.line in
      let f = form_of e.place r e.listed in
      let p = placed_of w it e in
      let u = numbers_in w in
      let z = signed_numbers_in w in
      let a = bits-agree (list_of r.fields) e.told.numbers w p.inside f.all p.numbers in
      let same = h.formats e.place r e.listed ∙ ap h.format e.same in
      record {
        is_word = p.is_word;
        place = e.place;
        line = r;
        listed = e.listed;
        matches = p.kept;
        fits = e.fits;
        gives =
            sym (h.forth it e.told e.has u z (subst (λ (fs : List Field). agrees fs e.told.numbers u z) same a)
            (subst (λ (o : O). are_small (h.takes o) (h.format o) u) e.same (line-small e.place r w e.listed)))
            ∙ ap (λ o. t.insn o u z) (sym e.same);
      }

  -- an instruction whose numbers are in its line has a word
  pub in_line-word : (it : I) → IsInLine t parts it → (w : ℕ) × IsWordOf t parts it w
  in_line-word it e =
      let fs = list_of e.line.fields in
      let x = a_word fs e.told.numbers e.line.value e.within in
      let f = form_of e.place e.line e.listed in
      let p = placed_back fs e.line.mask e.line.value x.0 e.told.numbers f.all f.fill f.inside x.1 in (
        x.0,
        record {
          told = e.told;
          has = e.has;
          place = e.place;
          line = e.line;
          listed = e.listed;
          same = e.same;
          says = x.1;
          fits = e.fits (numbers_in x.0) (signed_numbers_in x.0) (bits-agree fs e.told.numbers x.0 p.inside f.all p.numbers);
        },
      )

  same_parts : (a b : Parts O) → ◌≡◌ {A = Option (Parts O)} (Some a) (Some b) → a ≡ b
  same_parts a b e = cc

  same_line : (a b : Line O) → ◌≡◌ {A = Option (Line O)} (Some a) (Some b) → a ≡ b
  same_line a b e = cc

  -- an instruction has at most one word
  pub one_word : (w v : ℕ) (it : I) → IsWordOf t parts it w → IsWordOf t parts it v → w ≡ v
  one_word w v it d e =
      let p = same_parts d.told e.told (sym d.has ∙ e.has) in
      let i = h.own d.place e.place d.line e.line d.listed e.listed (d.same ∙ ap (λ (q : Parts O). q.operation) p ∙ sym e.same) in
      let r = same_line d.line e.line (sym d.listed ∙ ap (slice_get t.lines) i ∙ e.listed) in
      same_Some w v (sym d.says ∙ ap₂ (λ (x : Line O) (q : Parts O). word_in x.value (list_of x.fields) q.numbers) r p ∙ e.says)

-- ---- lines apart
-- the two lines fix a common bit at different values
unfoldable pub differ : ℕ → ℕ → ℕ → ℕ → Bool
differ mask value mask' value' = not (bit_and value mask' == bit_and value' mask)

agree : (word m v m' v' : ℕ) → bit_and word m ≡ v → bit_and word m' ≡ v' → bit_and v m' ≡ bit_and v' m
agree word m v m' v' e f =
    ap (λ x. bit_and x m') (sym e) ∙ and_assoc m' word m ∙ ap (bit_and word) (and_comm m m') ∙ sym (and_assoc m word m')
    ∙ ap (λ x. bit_and x m) f

pub not_alike : (word m v m' v' : ℕ) → differ m v m' v' ≡ true → bit_and word m ≡ v → bit_and word m' ≡ v' → ⊥
unfolding differ
not_alike word m v m' v' d e f = both_ways (differ m v m' v') (ap not (eq-eqb _ _ (agree word m v m' v' e f))) d
