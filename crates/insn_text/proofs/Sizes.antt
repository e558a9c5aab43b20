-- An operand's field, and its mark.
use Rattle.std.proofs.Common.{◌≡◌, true}
use Rattle.std.proofs.lemmas.Bool.{and_parts}
use Rattle.insn_forms.specs.Fields.{is_field}
use Rattle.insn_forms.proofs.Bits.{IsField, a_field}
use Rattle.insn_text.specs.declared.item.Item.{Item}
use Rattle.insn_text.specs.Indices.{is_writable, is_sized}

pub in_word : (i : Item) → is_sized i ≡ true → is_field i.field ≡ true
unfolding is_sized
in_word i e = (and_parts (is_field i.field) (is_writable i.kind) e).0

pub ascii_punctuation : (i : Item) → is_sized i ≡ true → is_writable i.kind ≡ true
unfolding is_sized
ascii_punctuation i e = (and_parts (is_field i.field) (is_writable i.kind) e).1

pub sizes : (i : Item) → is_sized i ≡ true → IsField i.field
sizes i e = a_field i.field (in_word i e)
