use Rattle.std.proofs.Common.{◌≡◌, ◌-◌, ◌≤◌}
use Rattle.sve_perm.specs.Active.{active_places, last_or, last_place}
use Rattle.sve_perm.proofs.last.last_place.Given as goal

abbrev pub invariant-loop-end : goal.invariant-loop-end
invariant-loop-end l =
    (l.end ≤ l.fn.count)
    × (last_place l.fn.size l.pg l.fn.count ≡ last_or (l.fn.count - 1) (active_places l.fn.size l.pg l.end))

abbrev pub decreases-loop-end : goal.decreases-loop-end
decreases-loop-end l = l.end
