-- What holds of the tables' texts and operands.
use Rattle.std.proofs.Common.{◌≡◌, ℕ, zero, suc, ◌<◌, Bool, true, ◌&&◌, nat_lt, ltb-true, List, [], ◌∷◌, Option, Some, None, slice_get}
use Rattle.std.proofs.Common.{take, drop, length, refl, sym, ap, ◌∙◌}
use Rattle.std.specs.List.{list_all}
use Rattle.std.specs.Str.{IsAscii}
use Rattle.std.proofs.lemmas.Bool.{and_parts}
use Rattle.std.proofs.lemmas.Str.{IsAscii-take}
use Rattle.std.proofs.lemmas.Str.Ascii.{IsAscii-nil}
use Rattle.plain_lemmas.proofs.Lists.{list_all-get, list_all-drop, list_all-take}
use Rattle.insn_forms.specs.Fields.{mask_of, is_field}
use Rattle.insn_text.specs.declared.item.Kind.{Kind}
use Rattle.insn_text.specs.declared.item.Kind.TheVariants.{Punctuation, Sized}
use Rattle.insn_text.specs.declared.item.VectorFile.{VectorFile}
use Rattle.insn_text.specs.declared.item.Text.{Text}
use Rattle.insn_text.specs.declared.keywords.TheConstants.{KEYWORDS, MNEMONICS, SUFFIXES}
use Rattle.insn_text.specs.declared.items.TheConstants.{ITEMS, MATRIX_ITEMS, VECTOR_ITEMS}
use Rattle.insn_text.specs.declared.item.ItemList.{ItemList}
use Rattle.insn_text.specs.declared.item.ItemList.TheVariants as list
use Rattle.insn_text.specs.Texts.{text_in, text_at, items_in}
use Rattle.insn_text.specs.Indices.{is_writable, is_sized}

-- ---- operands

pub items_sized : (list : ItemList) → list_all is_sized (items_in list) ≡ true
unfolding mask_of is_field is_sized is_writable items_in
items_sized list.Scalar = refl
items_sized list.Vector = refl
items_sized list.Matrix = refl

pub sized_run : (list : ItemList) (first count : ℕ) → list_all is_sized (take count (drop first (items_in list))) ≡ true
sized_run list first count =
    list_all-take is_sized count (drop first (items_in list)) (list_all-drop is_sized first (items_in list) (items_sized list))

-- ---- texts

unfoldable is_ascii_text : Text → Bool
is_ascii_text t = list_all (λ b. nat_lt b 128) t.bytes

words_ascii : list_all is_ascii_text KEYWORDS ≡ true
unfolding is_ascii_text
words_ascii = refl

names_ascii : list_all is_ascii_text MNEMONICS ≡ true
unfolding is_ascii_text
names_ascii = refl

bytes_ascii : (bs : List ℕ) → list_all (λ b. nat_lt b 128) bs ≡ true → IsAscii bs
bytes_ascii [] e i = IsAscii-nil i
bytes_ascii (b ∷ bs) e zero = ltb-true b 128 (and_parts (nat_lt b 128) (list_all (λ c. nat_lt c 128) bs) e).0
bytes_ascii (b ∷ bs) e (suc i) = bytes_ascii bs (and_parts (nat_lt b 128) (list_all (λ c. nat_lt c 128) bs) e).1 i

ascii_in : (texts : List Text) (index : ℕ) (o : Option Text) → slice_get texts index ≡ o → list_all is_ascii_text texts ≡ true
    → IsAscii (text_in o)
unfolding text_in is_ascii_text
ascii_in texts index None g e = IsAscii-nil
ascii_in texts index (Some t) g e = IsAscii-take t.bytes t.length (bytes_ascii t.bytes (list_all-get is_ascii_text texts index t e g))

pub word_ascii : (index : ℕ) → IsAscii (text_at KEYWORDS index)
word_ascii index = ascii_in KEYWORDS index (slice_get KEYWORDS index) refl words_ascii

suffixes_ascii : list_all is_ascii_text SUFFIXES ≡ true
unfolding is_ascii_text
suffixes_ascii = refl

pub suffix_ascii : (index : ℕ) → IsAscii (text_at SUFFIXES index)
suffix_ascii index = ascii_in SUFFIXES index (slice_get SUFFIXES index) refl suffixes_ascii

pub name_ascii : (index : ℕ) → IsAscii (text_at MNEMONICS index)
name_ascii index = ascii_in MNEMONICS index (slice_get MNEMONICS index) refl names_ascii

pub few_bits : (kind : Kind) (file : VectorFile) (bits suffix : ℕ) → kind ≡ Sized file bits suffix → is_writable kind ≡ true → bits < 32
unfolding is_writable
few_bits kind file bits suffix e h = ltb-true bits 32 (sym (ap is_writable e) ∙ h)

pub punctuation_ascii : (kind : Kind) (c : ℕ) → kind ≡ Punctuation c → is_writable kind ≡ true → IsAscii (c ∷ [])
unfolding is_writable
punctuation_ascii kind c e h =
    let test : nat_lt c 128 ≡ true = sym (ap is_writable e) ∙ h in
    bytes_ascii (c ∷ []) (ap (λ b. b && true) test)
