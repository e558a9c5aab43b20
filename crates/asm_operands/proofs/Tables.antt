-- What the tables meet.
use Rattle.std.proofs.Common.{◌≡◌, ℕ, true, [], take, drop, refl}
use Rattle.std.specs.List.{list_all}
use Rattle.std.proofs.lemmas.Bool.{and_parts}
use Rattle.plain_lemmas.proofs.Lists.{list_all-drop, list_all-take}
use Rattle.insn_forms.specs.Fields.{mask_of, is_field}
use Rattle.insn_text.specs.declared.item.Item.{Item}
use Rattle.insn_text.specs.declared.item.ItemList.{ItemList}
use Rattle.insn_text.specs.declared.item.ItemList.TheVariants as list
use Rattle.insn_text.specs.declared.item.Shape.{Shape}
use Rattle.insn_text.specs.Texts.{items_in, items_of, bits_of}
use Rattle.asm_operands.specs.Sound.{has_factor, is_sound}
use Rattle.asm_operands.proofs.Failing.{failing, none-failing}

pub items-sound : (list : ItemList) → list_all is_sound (items_in list) ≡ true
unfolding mask_of is_field has_factor is_sound items_in
items-sound list.Scalar = refl
items-sound list.Vector = refl
items-sound list.Matrix = refl

pub part-sound : (list : ItemList) (first count : ℕ) → list_all is_sound (take count (drop first (items_in list))) ≡ true
part-sound list first count =
    list_all-take is_sound count (drop first (items_in list)) (list_all-drop is_sound first (items_in list) (items-sound list))

pub items_of-sound : (s : Shape) → list_all is_sound (items_of s) ≡ true
unfolding items_of
items_of-sound s = part-sound s.list s.first s.count

pub in_word : (i : Item) → is_sound i ≡ true → is_field i.field ≡ true
unfolding is_sound
in_word i e = (and_parts (has_factor i.kind (bits_of i)) (is_field i.field) e).1
