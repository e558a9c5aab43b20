-- The tokens of a word that is printed say the word, and no target: the shapes of a mnemonic are told apart by any operand's tokens.
use Rattle.std.proofs.Common.{◌≡◌, ℕ, zero, suc, ◌+◌, ◌-◌, ◌^◌, ◌<◌, ◌≤◌, ◌==◌, ◌&&◌, ◌||◌, not, Bool, true, false, nat_lt, nat_le, bit_and}
use Rattle.std.proofs.Common.{List, [], ◌∷◌, drop, length, slice_get, Option, Some, None, cond, refl, sym, ap, ap₂, ◌∙◌, arith}
use Rattle.std.proofs.Common.{eqb-true, ltb-true, leb-true}
use Rattle.std.specs.Prelude.{slice_index, is_some, if◌then◌else◌, option_map, option_and_then}
use Rattle.std.specs.List.{list_all, find}
use Rattle.std.proofs.lemmas.Bool.{and_parts, not-true}
use Rattle.std.proofs.lemmas.Option.{slice_get-map, same_Some}
use Rattle.plain_lemmas.proofs.Lists.{slice_get-take}
use Rattle.sm_types.specs.declared.insn.Insn.{Insn}
use Rattle.a64_encode.specs.Either.{instruction_of}
use Rattle.insn_forms.specs.Fields as fields
use Rattle.insn_text.specs.declared.item.Kind.{Kind}
use Rattle.insn_text.specs.declared.item.Kind.TheVariants as kind
use Rattle.insn_text.specs.declared.item.Item.{Item}
use Rattle.insn_text.specs.declared.item.Shape.{Shape}
use Rattle.insn_text.specs.declared.keywords.TheConstants.{MNEMONICS}
use Rattle.insn_text.specs.declared.shapes.TheConstants.{SHAPES, STARTS}
use Rattle.insn_text.specs.Texts.{items_in, items_of, prints, printed_shape}
use Rattle.insn_text.specs.Rules.{is_sayable, IsPrinted}
use Rattle.asm_tokens.specs.Tokens.{is_name}
use Rattle.asm_operands.specs.declared.operands.Target.{Target}
use Rattle.insn_text.specs.Wordings.{file_number}
use Rattle.asm_operands.specs.Fields.{same_file, same_vector_file}
use Rattle.asm_operands.specs.Operands.{word_in, shapes_of, first_of_words, first_word, is_distance, names, target_in, target_of}
use Rattle.asm_operands.specs.Operands.{operand_fault, said_or, Says, Fails, if_meant, word_said, operands_said}
use Rattle.asm_operands.specs.Shown.{token_said, item_token, tokens_shown}
use Rattle.asm_operands.proofs.MaskFields.{all_below, all_below-at}
use Rattle.asm_operands.proofs.Failing.{failing_below, none-below}
use Rattle.asm_operands.proofs.WordBits.{has_register, covers}
use Rattle.asm_operands.proofs.PrintedTokens.{is_printed_kind}
use Rattle.asm_operands.proofs.OwnTokens.{is_printed_item, says_rest, word-shown}
use Rattle.asm_operands.proofs.Apart.{is_said_by_punctuation, is_said_by_number, is_said_by_distance, is_said_by_register}
use Rattle.asm_operands.proofs.Apart.{is_apart_from_words}
use Rattle.asm_operands.proofs.Apart.{is_said_by_bare, is_apart_from_sized, kinds_apart, apart, shapes-apart}

-- ---- the table
unfoldable pub says_word : Shape → Bool
says_word s = s.alias || says_rest (items_of s) s.mask

-- a later shape's tokens are not taken by an earlier one
unfoldable pub is_later_apart : List Item → Shape → Bool
is_later_apart earlier s = s.alias || apart (items_of s) earlier

unfoldable pub are_apart : List Shape → Bool
are_apart [] = true
are_apart (r ∷ ss) = says_word r && (list_all (is_later_apart (items_of r)) ss && are_apart ss)

unfoldable pub name_apart : ℕ → Bool
name_apart mnemonic = are_apart (shapes_of mnemonic)

apart_failing : failing_below name_apart (length MNEMONICS) ≡ []
unfolding failing_below items_in items_of shapes_of fields.mask_of has_register covers is_printed_kind is_printed_item says_rest
    is_said_by_punctuation is_said_by_number is_said_by_distance is_said_by_bare same_file same_vector_file file_number is_said_by_register
    is_apart_from_words is_apart_from_sized kinds_apart apart says_word is_later_apart are_apart name_apart
apart_failing = refl

names_apart : all_below name_apart (length MNEMONICS) ≡ true
names_apart = none-below name_apart (length MNEMONICS) apart_failing

-- a shape stands among those of its name
unfoldable pub is_at_name : ℕ → ℕ → Bool
is_at_name index mnemonic =
    (nat_le (slice_index STARTS mnemonic) index && nat_lt index (slice_index STARTS (mnemonic + 1))) && nat_lt mnemonic (length MNEMONICS)

unfoldable pub are_at_names : ℕ → List Shape → Bool
are_at_names index [] = true
are_at_names index (s ∷ ss) = is_at_name index s.mnemonic && are_at_names (suc index) ss

all_at_names : are_at_names 0 SHAPES ≡ true
unfolding is_at_name are_at_names
all_at_names = refl

at_names-get : (index k : ℕ) (ss : List Shape) (s : Shape) → are_at_names index ss ≡ true → slice_get ss k ≡ Some s
    → is_at_name (index + k) s.mnemonic ≡ true
unfolding are_at_names
at_names-get index k [] s e g = cc
at_names-get index zero (r ∷ ss) s e g =
    let same : r ≡ s = cc in
    let z : index + zero ≡ index = omega arith in
    ap (λ m. is_at_name m s.mnemonic) z ∙ ap (λ (x : Shape). is_at_name index x.mnemonic) (sym same)
    ∙ (and_parts (is_at_name index r.mnemonic) (are_at_names (suc index) ss) e).0
at_names-get index (suc k) (r ∷ ss) s e g =
    let z : index + suc k ≡ suc index + k = omega arith in
    ap (λ m. is_at_name m s.mnemonic) z ∙ at_names-get (suc index) k ss s
    (and_parts (is_at_name index r.mnemonic) (are_at_names (suc index) ss) e).1 g

get-drop : (a k : ℕ) (ss : List Shape) → a ≤ k → slice_get (drop a ss) (k - a) ≡ slice_get ss k
get-drop zero k ss h = let e : k - zero ≡ k = omega arith in ap (slice_get ss) e
get-drop (suc a) zero ss h = absurd (omega arith)
get-drop (suc a) (suc k) [] h = refl
get-drop (suc a) (suc k) (s ∷ ss) h =
    let e : suc k - suc a ≡ k - a = omega arith in let l : a ≤ k = omega arith in ap (slice_get (drop a ss)) e ∙ get-drop a k ss l

record IsOfName (s : Shape) : Type 0 where
  index : ℕ
  listed : slice_get (shapes_of s.mnemonic) index ≡ Some s
  named : s.mnemonic < length MNEMONICS

of_name : (k : ℕ) (s : Shape) → slice_get SHAPES k ≡ Some s → IsOfName s
unfolding shapes_of is_at_name
of_name k s g =
    let a = slice_index STARTS s.mnemonic in
    let b = slice_index STARTS (s.mnemonic + 1) in
    let z : 0 + k ≡ k = omega arith in
    let here : is_at_name k s.mnemonic ≡ true = sym (ap (λ m. is_at_name m s.mnemonic) z) ∙ at_names-get 0 k SHAPES s all_at_names g in
    let p = and_parts (nat_le a k && nat_lt k b) (nat_lt s.mnemonic (length MNEMONICS)) here in
    let q = and_parts (nat_le a k) (nat_lt k b) p.0 in
    let low : a ≤ k = leb-true a k q.0 in
    let high : k < b = ltb-true k b q.1 in
    let within : k - a < b - a = omega arith in
    record {
      index = k - a;
      listed = slice_get-take (b - a) (k - a) (drop a SHAPES) within ∙ get-drop a k SHAPES low ∙ g;
      named = ltb-true s.mnemonic (length MNEMONICS) p.1;
    }

-- what is found is listed, and passes
record IsFound (p : Shape → Bool) (ss : List Shape) (s : Shape) : Type 0 where
  index : ℕ
  listed : slice_get ss index ≡ Some s
  passes : p s ≡ true

found : (p : Shape → Bool) (ss : List Shape) (s : Shape) → find p ss ≡ Some s → IsFound p ss s
found p [] s e = cc
found p (r ∷ ss) s e = elim (p r) as (λ b. p r ≡ b → cond b (Some r) (find p ss) ≡ Some s → IsFound p (r ∷ ss) s) [
  | true ↦ λ is h. let same = same_Some r s h in record { index = 0; listed = h; passes = ap p (sym same) ∙ is }
  | false ↦ λ is h. let f = found p ss s h in record { index = suc f.index; listed = f.listed; passes = f.passes }
] refl e

record IsOwn (word : ℕ) (s : Shape) : Type 0 where
  of_its_name : IsOfName s
  printed : s.alias ≡ false
  matches : bit_and word s.mask ≡ s.value

own : (word : ℕ) (s : Shape) → printed_shape word ≡ Some s → IsOwn word s
unfolding printed_shape prints
own word s e =
    let f = found (λ x. not x.alias && (bit_and word x.mask == x.value)) SHAPES s e in
    let p = and_parts (not s.alias) (bit_and word s.mask == s.value) f.passes in
    record { of_its_name = of_name f.index s f.listed; printed = not-true s.alias p.0; matches = eqb-true _ _ p.1 }

-- ---- the place of a target
never_named : (k : Kind) (bits field : ℕ) → (is_distance k && is_name (token_said k bits field)) ≡ false
unfolding is_distance is_name token_said
never_named (kind.Punctuation c) bits field = refl
never_named (kind.Keyword first count) bits field = refl
never_named (kind.Register file last) bits field = refl
never_named (kind.Unsigned base scale most) bits field = refl
never_named (kind.Signed scale) bits field = refl
never_named (kind.Distance scale) bits field = refl
never_named (kind.Mask wide) bits field = refl
never_named (kind.Sized file few first) bits field = refl
never_named kind.SliceRegister bits field = refl
never_named kind.Index bits field = refl
never_named (kind.Pattern first) bits field = refl
never_named (kind.Descending from) bits field = refl
never_named (kind.SignedMask wide) bits field = refl
never_named (kind.ShiftLeft wide) bits field = refl
never_named (kind.Opposite first count) bits field = refl
never_named (kind.Halfword wide inverted) bits field = refl

not_named : (b : Bool) (i : Item) → b ≡ false → cond b (Some i) None ≡ None
not_named true i e = cc
not_named false i e = refl

no_name : (w : ℕ) (o : Option Item) → option_and_then (names (option_map (item_token w) o)) o ≡ None
unfolding item_token
no_name w None = refl
no_name w (Some i) = not_named _ i (never_named i.kind _ _)

target-none : (s : Shape) (w : ℕ) → target_in (items_of s) (tokens_shown s w) ≡ None
unfolding target_in tokens_shown
target-none s w =
    let is = items_of s in
    let last = length is - 1 in
    let make : Option Item → Option Target = option_map (λ (i : Item). record { index = last; operand = i }) in
    ap (λ o. make (option_and_then (names o) (slice_get is last))) (slice_get-map (item_token w) is last)
    ∙ ap make (no_name w (slice_get is last))

-- ---- among the shapes of the name
record SaysOwn (ss : List Shape) (s : Shape) (w : ℕ) : Type 0 where
  word : first_word ss (tokens_shown s w) ≡ Some w
  target : target_of ss (tokens_shown s w) ≡ None

when_printed : (s : Shape) (b : Bool) → s.alias ≡ false → (s.alias || b) ≡ true → b ≡ true
when_printed s b e h = sym (ap (λ a. a || b) e) ∙ h

later-get : (earlier : List Item) (ss : List Shape) (k : ℕ) (s : Shape) → list_all (is_later_apart earlier) ss ≡ true
    → slice_get ss k ≡ Some s → is_later_apart earlier s ≡ true
later-get earlier [] k s e g = cc
later-get earlier (r ∷ ss) zero s e g =
    let same =
    same_Some r s g in
    ap (is_later_apart earlier) (sym same) ∙ (and_parts (is_later_apart earlier r) (list_all (is_later_apart earlier) ss) e).0
later-get earlier (r ∷ ss) (suc k) s e g =
    later-get earlier ss k s (and_parts (is_later_apart earlier r) (list_all (is_later_apart earlier) ss) e).1 g

says_word-get : (ss : List Shape) (k : ℕ) (s : Shape) → are_apart ss ≡ true → slice_get ss k ≡ Some s → says_word s ≡ true
unfolding are_apart
says_word-get [] k s e g = cc
says_word-get (r ∷ ss) zero s e g =
    let same =
    same_Some r s g in
    ap says_word (sym same) ∙ (and_parts (says_word r) (list_all (is_later_apart (items_of r)) ss && are_apart ss) e).0
says_word-get (r ∷ ss) (suc k) s e g =
    says_word-get ss k s (and_parts (list_all (is_later_apart (items_of r)) ss) (are_apart ss)
    (and_parts (says_word r) (list_all (is_later_apart (items_of r)) ss && are_apart ss) e).1).1 g

says-own : (ss : List Shape) (k : ℕ) (s : Shape) (w : ℕ) → are_apart ss ≡ true → slice_get ss k ≡ Some s → s.alias ≡ false
    → says_rest (items_of s) s.mask ≡ true
    → word_in s (tokens_shown s w) ≡ Some w → list_all (is_sayable w) (items_of s) ≡ true → SaysOwn ss s w
unfolding are_apart is_later_apart first_word target_of
says-own [] k s w e g printed all says sayable = cc
says-own (r ∷ ss) zero s w e g printed all says sayable =
    let ts = tokens_shown s w in
    let same = same_Some r s g in
    let here : word_in r ts ≡ Some w = ap (λ (x : Shape). word_in x ts) same ∙ says in
    record {
      word = ap (λ o. first_of_words o (first_word ss ts)) here;
      target =
          ap (λ o. if is_some o then target_in (items_of r) ts else target_of ss ts) here
          ∙ ap (λ (x : Shape). target_in (items_of x) ts) same
          ∙ target-none s w;
    }
says-own (r ∷ ss) (suc k) s w e g printed all says sayable =
    let ts = tokens_shown s w in
    let p =
    and_parts (list_all (is_later_apart (items_of r)) ss) (are_apart ss)
    (and_parts (says_word r) (list_all (is_later_apart (items_of r)) ss && are_apart ss) e).1 in
    let distinct = when_printed s (apart (items_of s) (items_of r)) printed (later-get (items_of r) ss k s p.0 g) in
    let missed : word_in r ts ≡ None = shapes-apart s r w distinct all sayable in
    let rest = says-own ss k s w p.1 g printed all says sayable in
    record {
      word = ap (λ o. first_of_words o (first_word ss ts)) missed ∙ rest.word;
      target = ap (λ o. if is_some o then target_in (items_of r) ts else target_of ss ts) missed ∙ rest.target;
    }

printed-says : (w : ℕ) → w < 2 ^ 32 → (p : IsPrinted w) → SaysOwn (shapes_of p.shape.mnemonic) p.shape w
unfolding name_apart says_word
printed-says w lt p =
    let s = p.shape in
    let o = own w s p.found in
    let n = o.of_its_name in
    let ss = shapes_of s.mnemonic in
    let told : are_apart ss ≡ true = all_below-at name_apart (length MNEMONICS) s.mnemonic names_apart n.named in
    let all = when_printed s (says_rest (items_of s) s.mask) o.printed (says_word-get ss n.index s told n.listed) in
    says-own ss n.index s w told n.listed o.printed all (word-shown s w lt o.matches all p.sayable) p.sayable

-- ---- what asm_parser needs
-- the tokens of a word that is printed say the word
pub own-word : (w : ℕ) → w < 2 ^ 32 → (p : IsPrinted w) → first_word (shapes_of p.shape.mnemonic) (tokens_shown p.shape w) ≡ Some w
own-word w lt p = (printed-says w lt p).word

-- none of them names a target
pub own-target : (w : ℕ) → w < 2 ^ 32 → (p : IsPrinted w) → target_of (shapes_of p.shape.mnemonic) (tokens_shown p.shape w) ≡ None
own-target w lt p = (printed-says w lt p).target

-- the name of the shape stands in the table of names
pub own-mnemonic : (w : ℕ) (p : IsPrinted w) → p.shape.mnemonic < length MNEMONICS
own-mnemonic w p = (own w p.shape p.found).of_its_name.named

-- the tokens say the word, where it means an instruction
pub own-said : (w : ℕ) (it : Insn) → w < 2 ^ 32 → (p : IsPrinted w) → instruction_of w ≡ Some it
    → operands_said p.shape.mnemonic (tokens_shown p.shape w) ≡ Says w None
unfolding operands_said word_said if_meant
own-said w it lt p e =
    let ss = shapes_of p.shape.mnemonic in
    let ts = tokens_shown p.shape w in
    ap₂ (λ t o. said_or (Fails (operand_fault ss ts)) t (option_and_then if_meant o)) (own-target w lt p) (own-word w lt p)
    ∙ ap (λ o. said_or (Fails (operand_fault ss ts)) None (cond (is_some o) (Some w) None)) e
