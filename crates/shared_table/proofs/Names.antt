-- The name of a table says which table it is.
use Rattle.std.proofs.Common.{◌≡◌}
use Rattle.atomic_table.specs.Seated.{TableId}
use Rattle.shared_table.specs.Seats.{name_of}

pub same_table : (x y : TableId) → name_of x ≡ name_of y → x ≡ y
same_table x y same =
    let words : x.words ≡ y.words = cc in
    let slots : x.slots ≡ y.slots = cc in
    let views_name : x.views_name ≡ y.views_name = cc in
    let atom : x.atom ≡ y.atom = cc in
    let block : x.block ≡ y.block = cc in
    let offset : x.offset ≡ y.offset = cc in
    let slot_names : x.slot_names ≡ y.slot_names = cc in
    λ i. record {
      words = words i;
      slots = slots i;
      views_name = views_name i;
      atom = atom i;
      block = block i;
      offset = offset i;
      slot_names = slot_names i;
    }
