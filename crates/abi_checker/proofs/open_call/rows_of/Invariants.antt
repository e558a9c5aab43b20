use Rattle.std.proofs.Common.{◌≡◌, take}
use Rattle.sve_vectors.specs.Layout.{items_of}
use Rattle.abi_checker.proofs.open_call.rows_of.Given as goal

abbrev pub invariant-rows : goal.invariant-rows
invariant-rows l = items_of l.rows.items ≡ take l.index l.za.vectors
