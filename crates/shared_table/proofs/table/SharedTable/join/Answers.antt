use Rattle.std.proofs.Common.{rules, ◌∙◌}
use Rattle.shared_table.proofs.Seats.{joins}
use Rattle.shared_table.proofs.Names.{same_table}
use Rattle.shared_table.proofs.table.SharedTable.join.Goals as goal

pub join_seat-requires : goal.join_seat-requires
join_seat-requires c = (
  same_table _ _ c.requires.name.0,
  same_table _ _ (c.requires.name.1 ∙ c.requires.name.0),
  c.args.other.bare,
  search rules,
  joins _ _ _ _ c.requires.maker c.requires.thread,
)
