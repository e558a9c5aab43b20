-- The steps of the loops.
use Rattle.std.proofs.Common.{◌≡◌, ℕ, suc, ◌+◌, ◌-◌, ◌*◌, ◌/◌, ◌%◌, ◌^◌, ◌<◌, ◌≤◌, false, ◌==◌, List, [], ◌∷◌, ◌++◌, Option, Some, None}
use Rattle.std.proofs.Common.{slice_get, length, take, drop, get_or, set, cond, refl, sym, ap, ◌∙◌, arith, subst, append_assoc, drop-cons}
use Rattle.std.proofs.Common.{add-one, eq-eqb, length-append, length-take-le}
use Rattle.std.specs.Fmt.{digit_glyph, digits_onto}
use Rattle.std.specs.Option.{option_or}
use Rattle.std.proofs.lemmas.Grind.{drop-set_at}
use Rattle.std.proofs.lemmas.List.{append-nil, drop_more}
use Rattle.std.proofs.Math.ListN.{drop_of_length-le}
use Rattle.std.proofs.Math.Nat.{pow-suc}
use borrow.Author.Tests.{ne_eqb}
use Rattle.insn_text.specs.declared.item.Kind.{Kind}
use Rattle.insn_text.specs.declared.item.Item.{Item}
use Rattle.insn_text.specs.declared.item.Shape.{Shape}
use Rattle.insn_text.specs.Texts.{gap, item_text, items_text}
use Rattle.insn_text.specs.Indices.{if_printed, first_at}

-- ---- bytes

-- there is room for one more
pub room-byte : (out start bytes : List ℕ) (i : ℕ) → i < length bytes → out ≡ start ++ take i bytes → length start + length bytes ≤ 96
    → length out + 1 ≤ 96
room-byte out start bytes i lt e room =
    let le : i ≤ length bytes = omega arith in
    omega (arith, ap length e, length-append start (take i bytes), length-take-le i bytes le)

-- ---- places

indices-at : (indices : List ℕ) (i : ℕ) → i < length indices → drop i indices ≡ get_or indices i 0 ∷ drop (i + 1) indices
indices-at indices i lt = rw (add-one, drop-cons indices i 0) refl

pub first-none : (word : ℕ) (shapes : List Shape) (indices : List ℕ) (i : ℕ) → i < length indices
    → None ≡ if_printed word (slice_get shapes (get_or indices i 0))
    → first_at word shapes (drop i indices) ≡ first_at word shapes (drop (i + 1) indices)
unfolding first_at
first-none word shapes indices i lt e =
    ap (first_at word shapes) (indices-at indices i lt)
    ∙ ap (λ (o : Option Shape). option_or o (first_at word shapes (drop (i + 1) indices))) (sym e)

pub first-some : (word : ℕ) (shapes : List Shape) (indices : List ℕ) (i : ℕ) (s : Shape) → i < length indices
    → Some s ≡ if_printed word (slice_get shapes (get_or indices i 0))
    → first_at word shapes (drop i indices) ≡ Some s
unfolding first_at
first-some word shapes indices i s lt e =
    ap (first_at word shapes) (indices-at indices i lt)
    ∙ ap (λ (o : Option Shape). option_or o (first_at word shapes (drop (i + 1) indices))) (sym e)

pub first-end : (word : ℕ) (shapes : List Shape) (indices : List ℕ) (i : ℕ) → length indices ≤ i
    → first_at word shapes (drop i indices) ≡ None
unfolding first_at
first-end word shapes indices i le = ap (first_at word shapes) (drop_of_length-le indices le)

-- ---- digits

pub hex-more : (k j n : ℕ) (acc : List ℕ) → j ≡ suc k → 0 < n / 16
    → digits_onto j 16 false n acc ≡ digits_onto k 16 false (n / 16) (digit_glyph false (n % 16) ∷ acc)
hex-more k j n acc e some_left =
    let ne : (n / 16 == 0) ≡ false = positive (n / 16) some_left in
    ap (λ (m : ℕ). digits_onto m 16 false n acc) e
    ∙ ap (λ b. cond b (digit_glyph false (n % 16) ∷ acc) (digits_onto k 16 false (n / 16) (digit_glyph false (n % 16) ∷ acc))) ne
  where
    positive : (m : ℕ) → 0 < m → (m == 0) ≡ false
    positive m h = ne_eqb m 0 (λ e. let z : ⊥ = omega arith in z)

pub hex-last : (k j n : ℕ) (acc : List ℕ) → j ≡ suc k → n / 16 ≡ 0 → digits_onto j 16 false n acc ≡ digit_glyph false (n % 16) ∷ acc
hex-last k j n acc e z =
    ap (λ (m : ℕ). digits_onto m 16 false n acc) e
    ∙ ap (λ b. cond b (digit_glyph false (n % 16) ∷ acc) (digits_onto k 16 false (n / 16) (digit_glyph false (n % 16) ∷ acc)))
    (eq-eqb (n / 16) 0 z)

pub drop-end : (bs : List ℕ) (n : ℕ) → length bs ≤ n → drop n bs ≡ []
drop-end bs n le = drop_of_length-le bs le

pub less-left : (n done : ℕ) → done < 16 → n < 16 ^ (16 - done) → n / 16 < 16 ^ (16 - (done + 1))
less-left n done lt h =
    let e : 16 - done ≡ suc (16 - (done + 1)) = omega arith in
    let more : n < 16 ^ (16 - (done + 1)) * 16 = subst (λ (m : ℕ). n < m) (ap (λ (k : ℕ). 16 ^ k) e ∙ pow-suc 16 (16 - (done + 1))) h in
    omega arith

-- the digits after one more is written before them
pub put-digit : (bs : List ℕ) (done g : ℕ) → done < 16 → length bs ≡ 16 → drop (15 - done) (set bs (15 - done) g) ≡ g ∷ drop (16 - done) bs
put-digit bs done g lt len =
    let at : 15 - done < length bs = omega arith in
    let next : 15 - done + 1 ≡ 16 - done = omega arith in
    drop-set_at bs (15 - done) (15 - done) g refl at ∙ ap (λ (m : ℕ). g ∷ drop m bs) next

pub hex-next : (bs : List ℕ) (done n d : ℕ) (all : List ℕ) → done < 16 → length bs ≡ 16 → d ≡ digit_glyph false (n % 16) → 0 < n / 16
    → digits_onto (64 - done) 16 false n (drop (16 - done) bs) ≡ all
    → digits_onto (64 - (done + 1)) 16 false (n / 16) (drop (16 - (done + 1)) (set bs (15 - done) d)) ≡ all
hex-next bs done n d all lt len glyph some_left h =
    let next : 16 - (done + 1) ≡ 15 - done = omega arith in
    let steps : 64 - done ≡ suc (64 - (done + 1)) = omega arith in
    ap (λ (m : ℕ). digits_onto (64 - (done + 1)) 16 false (n / 16) (drop m (set bs (15 - done) d))) next
    ∙ ap (digits_onto (64 - (done + 1)) 16 false (n / 16)) (put-digit bs done d lt len ∙ ap (λ (g : ℕ). g ∷ drop (16 - done) bs) glyph)
    ∙ sym (hex-more (64 - (done + 1)) (64 - done) n (drop (16 - done) bs) steps some_left) ∙ h

pub hex-whole : (bs : List ℕ) (done n d : ℕ) (all : List ℕ) → done < 16 → length bs ≡ 16 → d ≡ digit_glyph false (n % 16) → n / 16 ≡ 0
    → digits_onto (64 - done) 16 false n (drop (16 - done) bs) ≡ all → drop (15 - done) (set bs (15 - done) d) ≡ all
hex-whole bs done n d all lt len glyph none_left h =
    let steps : 64 - done ≡ suc (64 - (done + 1)) = omega arith in
    put-digit bs done d lt len ∙ ap (λ (g : ℕ). g ∷ drop (16 - done) bs) glyph
    ∙ sym (hex-last (64 - (done + 1)) (64 - done) n (drop (16 - done) bs) steps none_left) ∙ h

-- ---- operands

-- what is written at an operand, and after it
items-here : (w : ℕ) (is : List Item) (at : ℕ) (d : Item) (before : Kind) → at < length is
    → items_text w before (drop at is) ≡ gap before (get_or is at d).kind
    ++ (item_text w (get_or is at d) ++ items_text w (get_or is at d).kind (drop (at + 1) is))
unfolding items_text
items-here w is at d before lt = ap (items_text w before) (drop_more is at d lt)

room-items : (start gap text rest all : List ℕ) → start ++ (gap ++ (text ++ rest)) ≡ all → length all ≤ 96
    → length start + length gap + length text ≤ 96
room-items start gap text rest all e room =
    omega (arith, ap length e, length-append start (gap ++ (text ++ rest)), length-append gap (text ++ rest), length-append text rest)

-- there is room for the space before an operand
pub room-gap : (w : ℕ) (is : List Item) (at : ℕ) (d : Item) (before : Kind) (start all : List ℕ) → at < length is → start
    ++ items_text w before (drop at is) ≡ all → length all ≤ 96
    → length start + length (gap before (get_or is at d).kind) ≤ 96
room-gap w is at d before start all lt e room =
    let i = get_or is at d in
    let h =
    room-items start (gap before i.kind) (item_text w i) (items_text w i.kind (drop (at + 1) is)) all
    (ap (λ (x : List ℕ). start ++ x) (sym (items-here w is at d before lt)) ∙ e) room in
    omega (arith, h)

-- there is room for the operand
pub room-item : (w : ℕ) (is : List Item) (at : ℕ) (d : Item) (before : Kind) (start mid all : List ℕ) → at < length is → start
    ++ items_text w before (drop at is) ≡ all → length all ≤ 96
    → mid ≡ start ++ gap before (get_or is at d).kind → length mid + length (item_text w (get_or is at d)) ≤ 96
room-item w is at d before start mid all lt e room m =
    let i = get_or is at d in
    let h =
    room-items start (gap before i.kind) (item_text w i) (items_text w i.kind (drop (at + 1) is)) all
    (ap (λ (x : List ℕ). start ++ x) (sym (items-here w is at d before lt)) ∙ e) room in
    omega (arith, h, ap length m, length-append start (gap before i.kind))

-- one more operand written
pub push-next : (w : ℕ) (is : List Item) (at : ℕ) (d : Item) (before : Kind) (start mid end all : List ℕ) → at < length is → start
    ++ items_text w before (drop at is) ≡ all
    → mid ≡ start ++ gap before (get_or is at d).kind → end ≡ mid ++ item_text w (get_or is at d) → end
    ++ items_text w (get_or is at d).kind (drop (at + 1) is) ≡ all
push-next w is at d before start mid end all lt e m h =
    let i = get_or is at d in
    let rest = items_text w i.kind (drop (at + 1) is) in
    ap (λ (x : List ℕ). x ++ rest) (h ∙ ap (λ (x : List ℕ). x ++ item_text w i) m)
    ∙ append_assoc (start ++ gap before i.kind) (item_text w i) rest ∙ append_assoc start (gap before i.kind) (item_text w i ++ rest)
    ∙ ap (λ (x : List ℕ). start ++ x) (sym (items-here w is at d before lt)) ∙ e

pub items-end : (w : ℕ) (is : List Item) (at : ℕ) (before : Kind) (start all : List ℕ) → length is ≤ at → start
    ++ items_text w before (drop at is) ≡ all → start ≡ all
unfolding items_text
items-end w is at before start all le e =
    sym (append-nil start) ∙ ap (λ (x : List Item). start ++ items_text w before x) (sym (drop_of_length-le is le)) ∙ e
