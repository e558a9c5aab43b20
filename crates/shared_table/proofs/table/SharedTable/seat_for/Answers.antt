use Rattle.std.proofs.Common.{rules}
use Rattle.shared_table.proofs.Seats.{splits}
use Rattle.shared_table.proofs.Names.{same_table}
use Rattle.shared_table.proofs.table.SharedTable.seat_for.Goals as goal

pub split_seat-requires : goal.split_seat-requires
split_seat-requires g c =
    (same_table _ _ c.requires.name, search rules, splits _ _ _ c.requires.maker (rw c.requires.thread c.requires.fresh))
