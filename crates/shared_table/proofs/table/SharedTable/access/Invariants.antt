use Rattle.shared_table.proofs.table.SharedTable.access.Given as goal

abbrev pub ghosts-step : goal.ghosts-step
ghosts-step a = record { op = a.op }
