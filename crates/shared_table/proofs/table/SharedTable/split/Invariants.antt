use Rattle.shared_table.proofs.table.SharedTable.split.Given as goal

abbrev pub ghosts-seat_for : goal.ghosts-seat_for
ghosts-seat_for a = record { thread = a.thread }
